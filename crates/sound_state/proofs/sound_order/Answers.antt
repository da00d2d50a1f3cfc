-- `sound_state::sound_order` meets its contract: the held disjuncts from the one before i on ascend just if all do.
use mathlib.Core.Path.{refl}
use mathlib.Core.List.{[]}
use Prim.Native.Nat.{◌≤◌}
use native.Mathlib.Omega.{arith}
use lib.ListN.{length}
use Rattle.meaning.specs.Labels.{held_at, compare_held}
use Rattle.state.specs.States.{held_first}
use Rattle.sound.proofs.Loops.{rises_more, rises_stop, rises_end}
use Rattle.sound.proofs.Sizes.{state_sized}
use Rattle.sound.proofs.Held.{held_length, held_less}
use Rattle.sound_state.proofs.sound_order.Goals as goal

pub loop-i-init : goal.loop-i-init
loop-i-init c = let z = state_sized c.args.s c.well_formed.0 in (omega arith, z.positions, z.pool, refl)

pub loop-i-preserved : goal.loop-i-preserved
loop-i-preserved c =
    let l = c.loop-i in
    let a = c.args in
    let g : a.s.count ≤ length a.s.positions = omega arith in
    let h : a.s.count ≤ length a.s.pool = omega arith in
    let x = held_at 0 [] in
    let e = held_less a.variables a.s g h l.i x (record { vars = [] }) l.invariant.0 c.loop-i-test.true c.before-in-loop-i.ensures in
    let n = held_length a.variables a.s g h in
    let w = held_first a.variables a.s in
    (omega arith, l.invariant.1, l.invariant.2, rises_more compare_held w l.i x l.invariant.0 (omega arith) l.invariant.3 e c.if-not-before.false)

pub returns-then-not-before : goal.returns-then-not-before
returns-then-not-before c =
    let l = c.loop-i in
    let a = c.args in
    let g : a.s.count ≤ length a.s.positions = omega arith in
    let h : a.s.count ≤ length a.s.pool = omega arith in
    let x = held_at 0 [] in
    let e = held_less a.variables a.s g h l.i x (record { vars = [] }) l.invariant.0 c.loop-i-test.true c.before-in-loop-i.ensures in
    let n = held_length a.variables a.s g h in
    let w = held_first a.variables a.s in
    rises_stop compare_held w l.i x l.invariant.0 (omega arith) l.invariant.3 e c.if-not-before.true

pub returns : goal.returns
returns c =
    let l = c.loop-i in
    let a = c.args in
    let n = held_length a.variables a.s (omega arith) (omega arith) in
    rises_end compare_held (held_first a.variables a.s) l.i l.invariant.0 (omega arith) l.invariant.3
