-- "A tally of accepted events, refused events and rows written …; a counter stops at the largest 64-bit value."
use Rattle.std.specs.Prelude.{ℕ, ◌+◌, ◌-◌, ◌^◌, min}
use Rattle.tally.specs.declared.Tally.{Tally}

-- the counter x with n more
unfoldable pub capped : ℕ → ℕ → ℕ
capped x n = min (x + n) (2 ^ 64 - 1)

-- a tally with so many more accepted events, refused events and rows
unfoldable pub tallied : Tally → (accepted refused rows : ℕ) → Tally
tallied t a f r = record { accepted = capped t.accepted a; refused = capped t.refused f; rows = capped t.rows r }
