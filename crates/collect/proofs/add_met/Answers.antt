-- `collect::add_met` meets its contract: the meeting succeeds, its values are put among the rows and its variables are looked at; or it fails.
use mathlib.Core.Path.{sym, ap, ap₂, ◌∙◌}
use mathlib.Core.Bool.{◌||◌}
use lib.ListN.{take}
use Rattle.std.proofs.Common.{Some}
use Rattle.laws.specs.Lists.{any}
use Rattle.laws.specs.Sets.{grow}
use Rattle.meaning.specs.Labels.{is_free}
use Rattle.meaning.specs.Rows.{row_limit, compare_valuations, valuation_of}
use Rattle.bounded.proofs.RowSets.{yield_met, yield_unmet}
use Rattle.demand.specs.Constraints.{view_constraint}
use Rattle.disjunct.specs.Disjuncts.{view_disjunct}
use Rattle.rows.specs.Valuations.{rows_grown}
use Rattle.collect.specs.Yields.{yield_in}
use Rattle.collect.proofs.add_met.Goals as goal

pub returns-in-Ok-clause-gives : goal.returns-in-Ok-clause-gives
returns-in-Ok-clause-gives c =
    let a = c.args in
    let m = c.in-Ok.ensures in
    let same = m.met in
    ap₂ (λ g f. record { rows = g; free = f })
    (c.insert_row-rows.ensures.set
    ∙ ap (λ σ. grow compare_valuations row_limit σ (rows_grown a.found.rows a.out.now)) (c.values.ensures ∙ ap valuation_of same))
    (c.either-free.ensures
    ∙ ap (λ f. a.found.free || f) (c.leaves_free.ensures ∙ ap (λ D. any is_free (take a.v D)) same))
    ∙ sym (yield_met a.v (view_constraint (Some a.c)) (view_disjunct a.d) (yield_in a.found a.out.now) (sym m.meets))

pub returns-in-Err-clause-gives : goal.returns-in-Err-clause-gives
returns-in-Err-clause-gives c =
    let a = c.args in
    sym (yield_unmet a.v (view_constraint (Some a.c)) (view_disjunct a.d) (yield_in a.found a.out.now) (sym c.in-Err.ensures.meets))
