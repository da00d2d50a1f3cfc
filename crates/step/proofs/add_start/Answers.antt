-- `step::add_start` meets its contract: the start gives one disjunct, where the position begins and it meets the constraint, or none.
use mathlib.Core.Path.{sym, ap, ◌∙◌}
use mathlib.Core.List.{[]}
use lib.ListN.{take}
use native.Mathlib.Omega.{arith}
use borrow.Author.Rules.{rules}
use Rattle.std.proofs.Common.{Some}
use Rattle.meaning.specs.Labels.{meets, met}
use Rattle.bounded.specs.Bounded.{with_start, met_set}
use Rattle.demand.specs.Constraints.{view_constraint}
use Rattle.disjunct.specs.Disjuncts.{view_disjunct}
use Rattle.disjunct.proofs.Disjuncts.{free_view}
use Rattle.packed.specs.Sets.{disjuncts_in}
use Rattle.packed.proofs.Sets.{in_length}
use Rattle.step.proofs.Meetings.{met_no_start, met_begun, met_not_begun}
use Rattle.step.proofs.add_start.Goals as goal

pub returns-then-not-begins : goal.returns-then-not-begins
returns-then-not-begins c =
    let k = view_constraint (Some c.args.c) in
    (search rules, sym (ap (λ b. met_set k (with_start b [])) c.if-not-begins.true ∙ met_no_start k))

pub returns-in-Ok : goal.returns-in-Ok
returns-in-Ok c =
    let k = view_constraint (Some c.args.c) in
    let e = ap view_disjunct c.free.ensures ∙ free_view in
    let w = disjuncts_in c.args.out.now in (
      search rules,
      ap (λ l. take 1 l) c.put.ensures
          ∙ met_begun k (view_disjunct c.in-Ok.d) w c.args.begins (omega (arith, in_length c.args.out.now)) c.if-not-begins.false
          (ap (λ D. meets D k) (sym e) ∙ sym c.in-Ok.ensures.meets) (c.in-Ok.ensures.met ∙ ap (λ D. met D k) e),
    )

pub returns-in-Err : goal.returns-in-Err
returns-in-Err c =
    let k = view_constraint (Some c.args.c) in
    let e = ap view_disjunct c.free.ensures ∙ free_view in
    (search rules, met_not_begun k c.args.begins c.if-not-begins.false (ap (λ D. meets D k) (sym e) ∙ sym c.in-Err.ensures.meets))
