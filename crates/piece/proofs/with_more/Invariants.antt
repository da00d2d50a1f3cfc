-- `piece::with_more` meets its contract. The loop's invariant: the first i sets are joined with what the closure gives, the others as they were.
use mathlib.Core.Path.{◌≡◌}
use Prim.Native.Nat.{ℕ, ◌≤◌, ◌<◌}
use lib.ListN.{get_or}
use Rattle.laws.specs.Bits.{join}
use Rattle.piece.proofs.Fills.{Filled}
use Rattle.piece.proofs.with_more.Given as goal

abbrev pub invariant-loop-i : goal.invariant-loop-i
invariant-loop-i g l =
    ((f : ℕ → ℕ) → ((i r : ℕ) → i < 31 → goal.F-post g l.more i r → r ≡ f i)
    → Filled (λ j. join (get_or l.initial.sets j 0) (f j)) 31 l.i l.sets)
    × ((j : ℕ) → l.i ≤ j → get_or l.sets j 0 ≡ get_or l.initial.sets j 0)
