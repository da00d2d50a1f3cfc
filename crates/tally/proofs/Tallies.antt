-- Document 01: "Answers 9 to 13 to an event add one refused and leave the other two"; "a counter stops at the largest 64-bit value". For the
-- buyer, beside `refused_stays` of the crate calls.
use mathlib.Core.Path.{◌≡◌, refl, ◌∙◌}
use Prim.Native.Nat.{ℕ, ◌+◌, ◌-◌, ◌^◌, ◌≤◌, ◌<◌}
use native.Mathlib.Omega.{arith}
use native.Mathlib.Nat.{min-eq_left, min-eq_right}
use Rattle.tally.specs.declared.Tally.{Tally}
use Rattle.tally.specs.Tallies.{capped, tallied}

-- nothing more leaves a counter
capped_none : (x : ℕ) → x < 2 ^ 64 → capped x 0 ≡ x
unfolding capped
capped_none x h = min-eq_left (omega arith) ∙ omega arith

pub others_stay : (t : Tally) → t.accepted < 2 ^ 64 → t.rows < 2 ^ 64
    → tallied t 0 1 0 ≡ record { accepted = t.accepted; refused = capped t.refused 1; rows = t.rows }
unfolding tallied
others_stay t h k = rw (capped_none t.accepted h, capped_none t.rows k)

-- a counter has just so many more, or stops at the largest 64-bit value
pub capped_more : (x n : ℕ) → x + n < 2 ^ 64 → capped x n ≡ x + n
unfolding capped
capped_more x n h = min-eq_left (omega arith)

pub capped_full : (x n : ℕ) → 2 ^ 64 ≤ x + n → capped x n ≡ 2 ^ 64 - 1
unfolding capped
capped_full x n h = min-eq_right (omega arith)

-- each counter by itself, whatever the others do
pub each : (t : Tally) (a f r : ℕ)
    → ((tallied t a f r).accepted ≡ capped t.accepted a) × ((tallied t a f r).refused ≡ capped t.refused f) × ((tallied t a f r).rows ≡ capped t.rows r)
unfolding tallied
each t a f r = (refl, refl, refl)

pub counts : (t : Tally) (a f r : ℕ) → t.accepted + a < 2 ^ 64 → t.refused + f < 2 ^ 64 → t.rows + r < 2 ^ 64
    → tallied t a f r ≡ record { accepted = t.accepted + a; refused = t.refused + f; rows = t.rows + r }
unfolding tallied
counts t a f r h k l = rw (capped_more t.accepted a h, capped_more t.refused f k, capped_more t.rows r l)

pub stops : (t : Tally) (a f r : ℕ) → 2 ^ 64 ≤ t.accepted + a → 2 ^ 64 ≤ t.refused + f → 2 ^ 64 ≤ t.rows + r
    → tallied t a f r ≡ record { accepted = 2 ^ 64 - 1; refused = 2 ^ 64 - 1; rows = 2 ^ 64 - 1 }
unfolding tallied
stops t a f r h k l = rw (capped_full t.accepted a h, capped_full t.refused f k, capped_full t.rows r l)
