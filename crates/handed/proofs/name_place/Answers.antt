-- `handed::name_place` meets its contract: the declaring place keeps what is promised.
use Rattle.handed.proofs.Carried.{place_carried}
use Rattle.handed.proofs.name_place.Goals as goal

pub returns : goal.returns
returns c = place_carried _ _ _ c.name_place.ensures
