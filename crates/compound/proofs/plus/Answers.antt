-- `compound::plus` meets its contract: it makes `plus_of`, which is the fragment of `plus a`.
use mathlib.Core.Path.{◌∙◌, ap}
use Rattle.piece.proofs.Laws.{linked_of}
use Rattle.compound.proofs.Wholes.{plus_of, with_arrays, plus_whole}
use Rattle.compound.proofs.plus.Goals as goal

pub returns : goal.returns
unfolding plus_of with_arrays linked_of
returns c vars a k e = rw c.linked.ensures (ap plus_of e ∙ plus_whole vars a k)
