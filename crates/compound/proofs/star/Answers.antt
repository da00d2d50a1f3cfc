-- `compound::star` meets its contract: the fragment of `opt (plus a)` is that of `star a`.
use mathlib.Core.Path.{◌∙◌}
use Rattle.pattern.specs.Regex.{plus}
use Rattle.compound.proofs.Wholes.{star_whole}
use Rattle.compound.proofs.star.Goals as goal

pub returns : goal.returns
returns c vars a k e = c.optional.ensures vars (plus a) k (c.plus.ensures vars a k e) ∙ star_whole vars a k
