-- `handed::count` meets its contract: each counter rises, or stops at the largest value.
use Rattle.handed.proofs.Carried.{tally_carried}
use Rattle.handed.proofs.count.Goals as goal

pub returns : goal.returns
returns c = tally_carried _ _ _ _ _ c.count.ensures
