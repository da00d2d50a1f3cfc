-- `skip::label` meets its contract: what is put so far, before what is picked ahead.
use mathlib.Core.Path.{sym, ap, ap₂, ◌∙◌}
use mathlib.Core.List.{◌∷◌, ◌++◌}
use Prim.Native.Nat.{◌+◌, ◌≤◌, ◌<◌}
use native.Mathlib.Omega.{arith}
use borrow.Author.Rules.{rules}
use lib.ListN.{length, take}
use Rattle.disjunct.specs.Disjuncts.{view_disjunct}
use Rattle.packed.specs.Sets.{disjuncts_in}
use Rattle.packed.proofs.Sets.{in_length}
use Rattle.skip.proofs.Picks.{ahead, ahead_picked, ahead_passed, put_behind}
use Rattle.skip.proofs.label.Goals as goal
use Rattle.skip.proofs.label.Goals.{then-at-i, else-at-i}

pub loop-i-preserved : goal.loop-i-preserved
loop-i-preserved c =
    let l = c.loop-i in
    let a = c.args in
    let ds = disjuncts_in a.held.now in
    let done = disjuncts_in l.out in
    let rest = ahead a.p a.at.now ds a.n (l.i + 1) in
    let hp : a.n ≤ length a.at.now = search rules in
    let hl : a.n ≤ length ds = omega (arith, in_length a.held.now) in
    let hd : l.m < length done = omega (arith, in_length l.out) in
    let test = c.loop-i-test.true in
    elim c.if-at-i.branch [
      | then-at-i w ↦ (
        omega (arith, w.m-is),
        ap₂ (λ o k. take k (disjuncts_in o) ++ rest) w.out-is w.m-is ∙ ap (λ o. take (l.m + 1) o ++ rest) w.put.ensures
            ∙ put_behind done l.m (view_disjunct w.get.result) rest hd ∙ ap (λ D. take l.m done ++ D ∷ rest) w.get.ensures
            ∙ ap (λ k. take l.m done ++ k) (sym (ahead_picked a.p a.at.now ds a.n l.i test hp hl w.if-at-i.true)) ∙ l.invariant.1,
      )
      | else-at-i w ↦ (
        omega (arith, w.m-is),
        ap₂ (λ o k. take k (disjuncts_in o) ++ rest) w.out-is w.m-is
            ∙ ap (λ k. take l.m done ++ k) (sym (ahead_passed a.p a.at.now ds a.n l.i test hp hl w.if-at-i.false)) ∙ l.invariant.1,
      )
    ]
