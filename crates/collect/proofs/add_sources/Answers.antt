-- `collect::add_sources` meets its contract: what is found with the meetings of the disjuncts ahead is what all of them give.
use mathlib.Core.Path.{◌≡◌, refl, sym, ap, ap₂, ◌∙◌}
use mathlib.Core.Bool.{Bool, true, false, cond}
use mathlib.Core.List.{[], ◌∷◌}
use Prim.Native.Nat.{◌+◌}
use native.Mathlib.Omega.{arith}
use lib.ListN.{get_or}
use Rattle.std.proofs.Common.{Some}
use Rattle.bounded.specs.Bounded.{rows_ascend, yield_with}
use Rattle.bounded.proofs.RowSets.{yield_append, yield_none, yield_ascends}
use Rattle.demand.specs.Constraints.{view_constraint}
use Rattle.packed.specs.Sets.{disjuncts_in}
use Rattle.packed.proofs.Sets.{in_length}
use Rattle.collect.specs.Yields.{yield_in}
use Rattle.collect.proofs.Turns.{ahead, ahead_all, ahead_none, ahead_next}
use Rattle.collect.proofs.add_sources.Goals as goal
use Rattle.collect.proofs.add_sources.Goals.{then-has, else-has}

pub loop-i-init : goal.loop-i-init
loop-i-init c = (c.requires.4, c.requires.5, refl)

pub loop-i-preserved : goal.loop-i-preserved
loop-i-preserved c =
    let next : (t : Bool) → c.has.result ≡ t → let a = c.args in
    let i = c.loop-i.i in let r = ahead a.q a.masks.now (disjuncts_in a.held.now) a.n in
    r i ≡ cond t (get_or (disjuncts_in a.held.now) i [] ∷ r (i + 1)) (r (i + 1)) = λ t e. let a = c.args in
    ahead_next a.q a.masks.now (disjuncts_in a.held.now) a.n c.loop-i.i
    (omega (arith, c.requires.0, in_length a.held.now)) c.loop-i-test.true (sym c.has.ensures ∙ e) in
    let p = c.loop-i in
    let a = c.args in
    let C = view_constraint (Some a.c) in
    let D = get_or (disjuncts_in a.held.now) p.i [] in
    let y = yield_in p.r p.out in
    elim c.if-has.branch [
      | then-has w ↦
          let added : yield_in c.if-has.r c.if-has.out ≡ yield_with a.v C (D ∷ []) y =
          ap₂ yield_in w.r-is w.out-is ∙ w.add_met-r.ensures.gives ∙ ap (λ E. yield_with a.v C (E ∷ []) y) w.get.ensures in (
            rw w.r-is w.add_met-r.ensures.few,
            ap (λ z. rows_ascend z.rows) added ∙ yield_ascends a.v C (D ∷ []) y p.invariant.1,
            ap (yield_with a.v C _) added ∙ sym (yield_append a.v C (D ∷ []) _ y) ∙ ap (λ l. yield_with a.v C l y) (sym (next true w.if-has.true)) ∙ p.invariant.2,
          )
      | else-has w ↦
          let same = ap₂ yield_in w.r-is w.out-is in (
            rw w.r-is p.invariant.0,
            ap (λ z. rows_ascend z.rows) same ∙ p.invariant.1,
            ap₂ (yield_with a.v C) (sym (next false w.if-has.false)) same ∙ p.invariant.2,
          )
    ]

pub returns-clause-gives : goal.returns-clause-gives
returns-clause-gives c =
    let p = c.loop-i in
    let a = c.args in
    let C = view_constraint (Some a.c) in
    let l = disjuncts_in a.held.now in
    sym (ap (λ k. yield_with a.v C k (yield_in p.r p.out)) (ahead_none a.q a.masks.now l a.n p.i c.loop-i-test.false)
    ∙ yield_none a.v C (yield_in p.r p.out))
    ∙ p.invariant.2 ∙ ap (λ k. yield_with a.v C k (yield_in a.found a.out.now)) (ahead_all a.q a.masks.now l a.n)
