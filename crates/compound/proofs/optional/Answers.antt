-- `compound::optional` meets its contract: it makes `optional_of`, which is the fragment of `opt a`.
use mathlib.Core.Path.{◌∙◌, ap}
use Rattle.compound.proofs.Wholes.{optional_of, optional_whole}
use Rattle.compound.proofs.optional.Goals as goal

pub returns : goal.returns
unfolding optional_of
returns c vars a k e = ap optional_of e ∙ optional_whole vars a k
