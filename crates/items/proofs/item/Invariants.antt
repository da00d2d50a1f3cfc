-- `items::item` meets its contract: what is read from here on is what is read from the atom on.
use mathlib.Core.Path.{◌≡◌}
use Prim.Native.Nat.{ℕ, ◌+◌}
use lib.ListN.{drop}
use Rattle.pattern.specs.Regex.{Regex}
use Rattle.form.specs.Parse as Parse
use Rattle.piece.specs.Pieces.{piece_of}
use Rattle.items.proofs.item.Given as goal

abbrev pub invariant-loop-i : goal.invariant-loop-i
invariant-loop-i l =
    (vars : ℕ → ℕ) (k : ℕ) (r₀ : Regex) → l.atom.piece ≡ piece_of vars r₀ k
    → (r : Regex) × (l.read.piece ≡ piece_of vars r k)
    × (Parse.postfix_on (drop l.i l.b-items) (l.atom.place + l.i) l.read.place r ≡ Parse.postfix_on l.b-items l.atom.place l.atom.place r₀)
