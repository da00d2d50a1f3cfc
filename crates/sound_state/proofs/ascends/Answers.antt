-- `sound_state::ascends` meets its contract: the numbers from the one before i on ascend just if all do.
use mathlib.Core.Path.{refl}
use Prim.Native.Nat.{compare}
use native.Mathlib.Omega.{arith}
use lib.ListN.{take, length-take}
use lib.Seq.{length-take-le}
use Rattle.sound.proofs.Loops.{among, rises_more, rises_stop, rises_end}
use Rattle.sound.proofs.Held.{less_true, less_false}
use Rattle.sound_state.proofs.ascends.Goals as goal

pub returns-then-xs-i : goal.returns-then-xs-i
returns-then-xs-i c =
    let l = c.loop-i in
    let a = c.args in
    let n = length-take-le a.n a.xs (omega arith) in
    rises_stop compare (take a.n a.xs) l.i 0 l.invariant.0 (omega arith) l.invariant.2
    (among compare a.n a.xs l.i 0 l.invariant.0 c.loop-i-test.true (less_false _ _ c.if-xs-i.true)) refl

pub loop-i-preserved : goal.loop-i-preserved
loop-i-preserved c =
    let l = c.loop-i in
    let a = c.args in
    let n = length-take-le a.n a.xs (omega arith) in (
      omega arith,
      l.invariant.1,
      rises_more compare (take a.n a.xs) l.i 0 l.invariant.0 (omega arith) l.invariant.2
          (among compare a.n a.xs l.i 0 l.invariant.0 c.loop-i-test.true (less_true _ _ c.if-xs-i.false)) refl,
    )

pub returns : goal.returns
returns c =
    let l = c.loop-i in
    let a = c.args in
    rises_end compare (take a.n a.xs) l.i l.invariant.0 (omega (arith, length-take a.n a.xs)) l.invariant.2
