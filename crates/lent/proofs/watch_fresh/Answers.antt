-- `watch_fresh` meets its contract: the words of the fresh state.
use Rattle.calls.specs.Calls.{fresh_state}
use Rattle.lent.proofs.watch_fresh.Goals as goal

pub returns : goal.returns
unfolding fresh_state
returns c = c.put_fresh.ensures
