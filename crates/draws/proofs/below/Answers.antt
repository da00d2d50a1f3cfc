-- `draws::below` meets its contract, and is safe: of the product one factor is below 46337 and the other small, since y is below 2^31.
use Prim.Native.Nat.{ℕ, ◌+◌, ◌*◌, ◌/◌, ◌%◌, ◌≤◌}
use native.Mathlib.Nat.{mul-le-mul_right, mod-lt}
use native.Mathlib.Omega.{arith}
use borrow.Author.Rules.{scaled_Fits}
use Rattle.draws.proofs.below.Goals as goal

product_within : (y : ℕ) → y % 46337 * (y / 46337 + 7) ≤ 46337 * (y / 46337 + 7)
product_within y = mul-le-mul_right (y / 46337 + 7) (omega arith)

pub overflow_mul-z : goal.overflow_mul-z
overflow_mul-z c = scaled_Fits _ 46337 _ (omega arith) (omega arith)

pub overflow_add-z-2 : goal.overflow_add-z-2
overflow_add-z-2 c = omega (arith, product_within c.next-y.result)

pub returns : goal.returns
returns c = λ h. mod-lt _ h
