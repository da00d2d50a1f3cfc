-- `symbol_in` meets its contract: the parameters are read from the part behind the first two words.
use mathlib.Core.Path.{ap, ◌∙◌}
use mathlib.Core.List.{map}
use lib.ListN.{get_or}
use Rattle.blocks.specs.Groups.{groups}
use Rattle.blocks.specs.BookBlock.{parameter_in, symbol_in}
use Rattle.laws.proofs.Fronts.{lent_rest}
use Rattle.book_block.proofs.symbol_in.Goals as goal

pub returns : goal.returns
unfolding symbol_in
returns c =
    let w = c.args.words.now in
    let rest = c.parameters_in.ensures ∙ ap (λ r. map parameter_in (groups 2 4 r)) (lent_rest 2 w) in
    ap (λ ps. record { kind = get_or w 0 0; count = get_or w 1 0; parameters = ps }) rest
