-- `record::zero_from` meets its contract: each argument that is not skipped is compared with zero.
use mathlib.Core.Path.{◌∙◌}
use borrow.Author.Rules.{rules}
use lib.Dec.{eqb}
use lib.ListN.{drop}
use Rattle.std.proofs.Common.{tests}
use Rattle.std.proofs.lemmas.Iterator.{YieldsList-from_slice}
use Rattle.std.proofs.lemmas.Iterator.Search.{all_from_yields_List}
use Rattle.std.proofs.lemmas.Iterator.Adapters.{YieldsList-from_skip}
use Rattle.record.proofs.Records.{all_zero}
use Rattle.record.proofs.zero_from.Goals as goal

pub returns : goal.returns
returns c =
    let a = c.args in
    all_from_yields_List (λ x. eqb x 0) _ _ _ c.all.ensures.ran (YieldsList-from_skip a.from (YieldsList-from_slice a.args (cc)) (cc))
    (λ x b q k. search (rules, tests))
    ∙ all_zero (drop a.from a.args)
