-- `get` of `Disjuncts` meets its contract: the i-th disjunct, whatever is read past the end.
use Rattle.std.proofs.Common.{[], ◌∙◌, arith}
use Rattle.std.proofs.lemmas.List.{get_or_default}
use Rattle.packed.specs.Sets.{disjuncts_in}
use Rattle.packed.proofs.Sets.{in_length}
use Rattle.sets.proofs.DisjunctsPlaces.get.Goals as goal

pub returns : goal.returns
returns c =
    let w = c.args.words.now in
    λ d. c.get.ensures ∙ get_or_default (disjuncts_in w) c.args.i [] d (omega (arith, c.requires, in_length w))
