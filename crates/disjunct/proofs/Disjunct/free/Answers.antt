-- `Disjunct::free` meets its contract: four free slots, coded.
use Rattle.laws.specs.Parts.{pad}
use Rattle.disjunct.specs.Disjuncts.{disjunct_of}
use Rattle.disjunct.proofs.Disjunct.free.Goals as goal

pub returns : goal.returns
unfolding disjunct_of pad
returns c = rw c.free-s.ensures
