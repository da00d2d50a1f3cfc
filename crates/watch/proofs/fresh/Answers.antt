-- `watch::fresh` meets its contract: it is the vacant state of number 0.
use Rattle.calls.specs.Calls.{fresh_state}
use Rattle.watch.proofs.fresh.Goals as goal

pub returns : goal.returns
unfolding fresh_state
returns c = c.vacant.ensures
