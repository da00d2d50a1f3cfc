-- `handed::counted_event` meets its contract: what the call hands back and leaves keeps what is promised.
use Rattle.handed.proofs.Carried.{event_carried}
use Rattle.handed.proofs.counted_event.Goals as goal

pub returns : goal.returns
returns c = event_carried _ _ _ _ _ _ _ _ c.lent_event.ensures
