-- `collect::insert_row` meets its contract: with room it is the insertion of `rows`, and without room nothing is put.
use mathlib.Core.Path.{◌≡◌, sym, ap, ◌∙◌}
use mathlib.Core.Bool.{true}
use borrow.Author.Rules.{rules}
use Rattle.laws.specs.Sets.{grow}
use Rattle.meaning.specs.Rows.{row_limit, compare_valuations}
use Rattle.bounded.specs.Bounded.{rows_ascend}
use Rattle.rows.specs.Valuations.{rows_grown}
use Rattle.collect.proofs.insert_row.Goals as goal

pub insert_row-requires : goal.insert_row-requires
insert_row-requires c =
    let a = c.args in
    (rw c.in-Some.is at c.requires.0, ap (λ o. rows_ascend (rows_grown o a.out.now)) (sym c.in-Some.is) ∙ c.requires.1)

pub returns-in-Some-clause-set : goal.returns-in-Some-clause-set
returns-in-Some-clause-set c =
    let a = c.args in
    c.insert_row.ensures.set ∙ ap (λ o. grow compare_valuations row_limit a.x (rows_grown o a.out.now)) (sym c.in-Some.is)

pub returns-in-None-clause-set : goal.returns-in-None-clause-set
returns-in-None-clause-set c =
    let a = c.args in
    ap (λ o. grow compare_valuations row_limit a.x (rows_grown o a.out.now)) (sym c.in-None.is)
