-- `get` of `EventRows` meets its contract: the i-th valuation, whatever is read past the end.
use Rattle.std.proofs.Common.{[], ◌∙◌, arith}
use Rattle.std.proofs.lemmas.List.{get_or_default}
use Rattle.rows.specs.Valuations.{valuations_in}
use Rattle.rows.proofs.Valuations.{in_length}
use Rattle.rows.proofs.EventRowsPlaces.get.Goals as goal

pub returns : goal.returns
returns c =
    let w = c.args.words.now in
    λ d. c.get.ensures ∙ get_or_default (valuations_in w) c.args.i [] d (omega (arith, c.requires, in_length w))
