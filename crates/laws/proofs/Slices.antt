-- What the logic knows of a lent slice of bytes, as a test over the list that it holds. For the contracts that say so.
use mathlib.Core.Path.{◌≡◌}
use mathlib.Core.Bool.{true}
use mathlib.Core.List.{List}
use Prim.Native.Nat.{ℕ}
use native.Mathlib.Omega.{arith}
use borrow.Author.Tests.{lt-ltb}
use lib.Dec.{ltb}
use lib.ListN.{get_or}
use mir.Syntax.{w8}
use mir.Val.{Fits}
use Rattle.laws.specs.Lists.{all}
use Rattle.laws.proofs.Lists.{all_indexed}

pub bytes_lent : (s : List ℕ) → ((i : ℕ) → Fits w8 (get_or s i 0)) → all (λ b. ltb b 256) s ≡ true
bytes_lent s h = all_indexed (λ b. ltb b 256) 0 s (λ i. lt-ltb (get_or s i 0) 256 (omega (arith, h i)))
