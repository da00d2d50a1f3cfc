-- `matching::all_bits` meets its contract: the loop keeps what the variables from v on say.
use mathlib.Core.Path.{◌≡◌, sym, ap, ◌∙◌}
use mathlib.Core.Bool.{◌&&◌}
use mathlib.Core.List.{◌∷◌}
use Prim.Native.Nat.{ℕ, suc, ◌+◌, ◌-◌, ◌<◌}
use native.Mathlib.Omega.{arith}
use native.Mathlib.Numerals.{add-one}
use Rattle.laws.specs.Bits.{bit}
use Rattle.laws.specs.Lists.{all, numbers}
use Rattle.matching.proofs.all_bits.Goals as goal

numbers_cons : (v n : ℕ) → v < n → numbers v (n - v) ≡ v ∷ numbers (v + 1) (n - (v + 1))
numbers_cons v n h = let e : n - v ≡ suc (n - (v + 1)) = omega arith in rw (e, add-one)

-- the variable v and those behind it
from : (m v n : ℕ) → v < n → all (λ w. bit w m) (numbers v (n - v)) ≡ (bit v m && all (λ w. bit w m) (numbers (v + 1) (n - (v + 1))))
from m v n h = ap (all (λ w. bit w m)) (numbers_cons v n h)

pub loop-v-init : goal.loop-v-init
loop-v-init c = let e : c.args.n - 0 ≡ c.args.n = omega arith in rw e

pub returns-then-not-has : goal.returns-then-not-has
returns-then-not-has c =
    let a = c.args in
    sym (sym c.loop-v.invariant ∙ from a.m c.loop-v.v a.n c.loop-v-test.true ∙ rw (← c.has.ensures, c.if-not-has.true))

pub loop-v-preserved : goal.loop-v-preserved
loop-v-preserved c =
    let a = c.args in
    sym (from a.m c.loop-v.v a.n c.loop-v-test.true ∙ rw (← c.has.ensures, c.if-not-has.false)) ∙ c.loop-v.invariant

pub returns : goal.returns
returns c =
    let a = c.args in
    let e : a.n - c.loop-v.v ≡ 0 = omega arith in
    rw e at c.loop-v.invariant
