-- One bit of a number, the number with a single bit set, and the joining and meeting of sets kept one bit to a member.
-- `join` and `meet` are the code's `|` and `&` behind names of their own, so that no goal unfolds their recursion.
use Rattle.std.specs.Prelude.{Bool, ℕ, zero, suc, ◌/◌, ◌%◌, ◌^◌, eqb, length}
use Rattle.std.specs.Int.Bits.{bit_and, bit_or}
use Rattle.laws.specs.Lists.{keep, numbers}

-- whether bit p of m is set: the lowest is bit 0
unfoldable pub bit : (p m : ℕ) → Bool
bit zero m = eqb (m % 2) 1
bit (suc p) m = bit p (m / 2)

-- only bit p set
unfoldable pub single : ℕ → ℕ
single p = 2 ^ p

-- every bit that is set in a or in b
unfoldable pub join : ℕ → ℕ → ℕ
join a b = bit_or a b

-- every bit that is set in a and in b
unfoldable pub meet : ℕ → ℕ → ℕ
meet a b = bit_and a b

-- how many of the bits 0 to k - 1 of m are set
unfoldable pub set_bits : (k m : ℕ) → ℕ
set_bits k m = length (keep (λ p. bit p m) (numbers 0 k))
