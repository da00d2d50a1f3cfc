-- `step::add_sources` meets its contract. The loop's invariant: the set that is wanted is that of the first m and of the sources left.
use mathlib.Core.Path.{◌≡◌, refl, sym, ap, ◌∙◌}
use native.Mathlib.Omega.{arith}
use borrow.Author.Rules.{rules}
use lib.ListN.{take}
use Rattle.std.proofs.Common.{Some, None}
use Rattle.demand.specs.Constraints.{view_constraint}
use Rattle.disjunct.specs.Disjuncts.{view_disjunct}
use Rattle.packed.specs.Sets.{disjuncts_in, grown_in}
use Rattle.step.proofs.Sources.{growing_none, growing_all, growing_passed, growing_more, growing_full}
use Rattle.step.proofs.add_sources.Goals as goal
use Rattle.step.proofs.add_sources.Goals.{then-has+in_ok-m, else-has}

pub loop-i-init : goal.loop-i-init
loop-i-init c =
    let a = c.args in
    growing_none (view_constraint (Some a.c)) a.q a.masks.now a.held.now a.n (take a.count (disjuncts_in a.out.now)) a.out.now a.count 0
    refl c.requires.3 c.requires.4

pub returns-in_err-m-clause-set : goal.returns-in_err-m-clause-set
returns-in_err-m-clause-set c =
    let a = c.args in
    let l = c.loop-i in
    let none : c.from_residual.result ≡ None = search rules in
    ap (λ r. grown_in r c.add_met.new.out) none
    ∙ growing_full (view_constraint (Some a.c)) a.q a.masks.now a.held.now a.n (take a.count (disjuncts_in a.out.now)) l.out l.m l.i
    l.invariant (omega arith) (omega arith) (view_disjunct c.get.result) (sym c.has.ensures ∙ c.if-has.true) c.get.ensures c.in_err-m.ensures.set

pub loop-i-preserved : goal.loop-i-preserved
loop-i-preserved c =
    let a = c.args in
    let l = c.loop-i in
    let k = view_constraint (Some a.c) in
    let base = take a.count (disjuncts_in a.out.now) in
    let met = c.has.ensures in
    elim c.if-has.branch [
      | then-has+in_ok-m w ↦ rw (w.out-is, w.m-is)
          (growing_more k a.q a.masks.now a.held.now a.n base l.out l.m l.i l.invariant (omega arith) (omega arith)
          (view_disjunct w.get.result) (sym met ∙ w.if-has.true) w.get.ensures w.add_met.new.out w.in_ok-m.m w.in_ok-m.ensures.few w.in_ok-m.ensures.set)
      | else-has w ↦ rw (w.out-is, w.m-is)
          (growing_passed k a.q a.masks.now a.held.now a.n base l.out l.m l.i l.invariant (omega arith) (omega arith) (sym met ∙ w.if-has.false))
    ]

pub returns-clause-set : goal.returns-clause-set
returns-clause-set c =
    let a = c.args in
    let l = c.loop-i in
    growing_all (view_constraint (Some a.c)) a.q a.masks.now a.held.now a.n (take a.count (disjuncts_in a.out.now)) l.out l.m l.i
    l.invariant (omega arith)
