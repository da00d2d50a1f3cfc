-- `Disjunct::meet` meets its contract: what is bound so far, met with the demands ahead, is the disjunct met with all demands.
use mathlib.Core.Path.{◌≡◌, refl, sym, ap, ◌∙◌}
use Prim.Native.Nat.{◌+◌}
use native.Mathlib.Omega.{arith}
use borrow.Author.Rules.{rules}
use lib.ListN.{length, drop, get_or, length-set}
use Rattle.meaning.specs.Labels.{admits, meets_all, met_all}
use Rattle.demand.specs.Constraints.{demands_in, Ready}
use Rattle.demand.proofs.Views.{empty_demand, demand_below, demands_next, demands_end}
use Rattle.disjunct.specs.Disjuncts.{view_disjunct}
use Rattle.disjunct.proofs.Slots.{entry_at}
use Rattle.disjunct.proofs.Meeting.{bound_view, meets_first}
use Rattle.disjunct.proofs.Disjunct.meet.Goals as goal

pub loop-i-init : goal.loop-i-init
loop-i-init c = (search rules, refl, refl)

pub bounds-d-v : goal.bounds-d-v
bounds-d-v c =
    let y = c.in-Some.constraint in
    let l : length y.demands ≡ 4 = search rules in
    demand_below y (search rules) l c.loop-i.i c.loop-i-test.true

pub bounds-d-v-in-loop-i : goal.bounds-d-v-in-loop-i
bounds-d-v-in-loop-i c =
    let y = c.in-Some.constraint in
    let l : length y.demands ≡ 4 = search rules in
    demand_below y (search rules) l c.loop-i.i c.loop-i-test.true

pub loop-i-preserved : goal.loop-i-preserved
loop-i-preserved c =
    let l = c.loop-i in
    let y = c.in-Some.constraint in
    let ready : Ready y = search rules in
    let g : length y.demands ≡ 4 = search rules in
    let first = demands_next y l.i c.loop-i-test.true (omega (arith, ready.few)) in
    let x = get_or y.demands l.i empty_demand in
    let D = view_disjunct l.d in
    let b = bound_view l.d x c.holding.result c.holding.ensures in
    let rest = drop (l.i + 1) (demands_in y) in
    let h = ap (λ e. admits e x.value) (entry_at l.d x.variable) ∙ sym c.admits.ensures ∙ c.if-not-admits.false in (
      length-set l.d.vars x.variable _ ∙ l.invariant.0,
      ap (λ E. meets_all E rest) b ∙ sym (meets_first D first h) ∙ l.invariant.1,
      ap (λ E. met_all E rest) b ∙ sym (ap (met_all D) first) ∙ l.invariant.2,
    )

pub returns-then-not-admits-clause-meets : goal.returns-then-not-admits-clause-meets
returns-then-not-admits-clause-meets c =
    let l = c.loop-i in
    let y = c.in-Some.constraint in
    let ready : Ready y = search rules in
    let g : length y.demands ≡ 4 = search rules in
    let first = demands_next y l.i c.loop-i-test.true (omega (arith, ready.few)) in
    let x = get_or y.demands l.i empty_demand in
    let h = ap (λ e. admits e x.value) (entry_at l.d x.variable) ∙ sym c.admits.ensures ∙ c.if-not-admits.true in
    rw c.in-Some.is (sym (meets_first (view_disjunct l.d) first h) ∙ l.invariant.1)

pub returns-then-not-admits-clause-kept : goal.returns-then-not-admits-clause-kept
returns-then-not-admits-clause-kept c = refl

pub returns : goal.returns
returns c =
    let l = c.loop-i in
    let D = view_disjunct l.d in
    let n = sym (demands_end c.in-Some.constraint l.i c.loop-i-test.false) in
    rw c.in-Some.is (record { meets = ap (meets_all D) n ∙ l.invariant.1; met = ap (met_all D) n ∙ l.invariant.2; kept = search rules })
