-- `state::vacant` meets its contract: it is the state that holds nothing.
use Rattle.state.proofs.Pools.{none_held}
use Rattle.state.proofs.vacant.Goals as goal

pub returns : goal.returns
returns c = none_held c.args.number c.free.result c.free.ensures
