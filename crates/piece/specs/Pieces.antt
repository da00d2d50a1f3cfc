-- The fragment that stands for a regular expression: its masks, and for each of the positions that a pattern may have its symbol and the
-- positions that follow it; 0 where the position is not one of the fragment's.
use Rattle.std.specs.Prelude.{false, cond, ◌&&◌, List, map, ℕ, ◌+◌, leb, ltb, replicate}
use Rattle.laws.specs.Lists.{numbers}
use Rattle.pattern.specs.Regex.{Regex, nullable, bound_by}
use Rattle.pattern.specs.Positions.{occurrence_limit, size, symbol_at, beginning, ending, following}
use Rattle.piece.specs.declared.Piece.{Piece}

-- "positions 1 to 31"
abbrev pub positions : List ℕ
positions = numbers 1 occurrence_limit

-- the symbol of position p, 0 where p is none of r's
unfoldable pub symbol_or0 : Regex → (k p : ℕ) → ℕ
symbol_or0 r k p = cond (leb k p && ltb p (k + size r)) (symbol_at r k p) 0

-- the fragment of r whose leftmost position is k, where symbol a binds the variables `vars a`
unfoldable pub piece_of : (vars : ℕ → ℕ) → Regex → ℕ → Piece
piece_of vars r k =
    record {
      size = size r;
      empty = nullable r;
      begins = beginning r k;
      ends = ending r k;
      bound = bound_by vars r;
      symbols = map (symbol_or0 r k) positions;
      follows = map (following r k) positions;
    }

-- no fragment
unfoldable pub no_piece : Piece
no_piece = record { size = 0; empty = false; begins = 0; ends = 0; bound = 0; symbols = replicate occurrence_limit 0; follows = replicate occurrence_limit 0 }
