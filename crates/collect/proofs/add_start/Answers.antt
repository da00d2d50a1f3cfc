-- `collect::add_start` meets its contract: the free disjunct is met where the position begins, and nothing where it does not.
use mathlib.Core.Path.{sym, ap, ◌∙◌}
use mathlib.Core.List.{[], ◌∷◌}
use Rattle.std.proofs.Common.{Some}
use Rattle.bounded.specs.Bounded.{with_start, yield_with}
use Rattle.bounded.proofs.RowSets.{yield_none}
use Rattle.demand.specs.Constraints.{view_constraint}
use Rattle.disjunct.specs.Disjuncts.{view_disjunct}
use Rattle.disjunct.proofs.Disjuncts.{free_view}
use Rattle.collect.specs.Yields.{yield_in}
use Rattle.collect.proofs.add_start.Goals as goal

pub returns-then-begins-clause-gives : goal.returns-then-begins-clause-gives
unfolding with_start
returns-then-begins-clause-gives c =
    let a = c.args in
    let y = yield_in a.found a.out.now in
    c.add_met.ensures.gives ∙ ap (λ D. yield_with a.v (view_constraint (Some a.c)) (D ∷ []) y) (ap view_disjunct c.free.ensures ∙ free_view)
    ∙ ap (λ b. yield_with a.v (view_constraint (Some a.c)) (with_start b []) y) (sym c.if-begins.true)

pub returns-else-begins-clause-gives : goal.returns-else-begins-clause-gives
unfolding with_start
returns-else-begins-clause-gives c =
    let a = c.args in
    let y = yield_in a.found a.out.now in
    sym (yield_none a.v (view_constraint (Some a.c)) y) ∙ ap (λ b. yield_with a.v (view_constraint (Some a.c)) (with_start b []) y) (sym c.if-begins.false)
