-- The piece that each function makes of pieces, and that it is the fragment of the larger expression.
use mathlib.Core.Path.{◌≡◌, refl, ap, ap₂, ◌∙◌}
use mathlib.Core.Bool.{Bool, true, ◌&&◌, ◌||◌}
use mathlib.Core.List.{List, map}
use Prim.Native.Nat.{ℕ, ◌+◌}
use Rattle.laws.specs.Bits.{join, meet}
use Rattle.pattern.specs.Regex.{Regex, cat, alt, star, plus, opt}
use Rattle.pattern.specs.Positions.{size, beginning, ending, following, given}
use Rattle.piece.specs.Pieces.{positions, symbol_or0, piece_of}
use Rattle.piece.specs.declared.Piece.{Piece}
use Rattle.piece.proofs.Laws.{joined_of, linked_of, joined_positions, linked_positions, cat_symbols, alt_symbols, cat_follows, alt_follows}

unfoldable pub sequence_of : (x y : Piece) → Piece
sequence_of x y =
    record {
      size = x.size + y.size;
      empty = x.empty && y.empty;
      begins = join x.begins (given x.empty y.begins);
      ends = join (given y.empty x.ends) y.ends;
      bound = join x.bound y.bound;
      symbols = joined_of x.symbols y.symbols;
      follows = linked_of (joined_of x.follows y.follows) x.ends y.begins;
    }

-- the record that `sequence` makes of what its calls return. The rewriting is done here, where the arrays are variables: in the
-- function's proof it takes 1 GB.
pub sequence_made : (x y : Piece) {empty : Bool} {begins ends : ℕ} {symbols both follows : List ℕ} → empty ≡ (x.empty && y.empty)
    → begins ≡ given x.empty y.begins → ends ≡ given y.empty x.ends → symbols ≡ joined_of x.symbols y.symbols
    → both ≡ joined_of x.follows y.follows → follows ≡ linked_of both x.ends y.begins
    → record {
      size = x.size + y.size;
      empty = empty;
      begins = join x.begins begins;
      ends = join ends y.ends;
      bound = join x.bound y.bound;
      symbols = symbols;
      follows = follows;
    } ≡ sequence_of x y
unfolding sequence_of
sequence_made x y e b n s j f = rw (f, j, s, n, b, e)

unfoldable pub either_of : (x y : Piece) → Piece
either_of x y =
    record {
      size = x.size + y.size;
      empty = x.empty || y.empty;
      begins = join x.begins y.begins;
      ends = join x.ends y.ends;
      bound = meet x.bound y.bound;
      symbols = joined_of x.symbols y.symbols;
      follows = joined_of x.follows y.follows;
    }

-- the piece x with other arrays
unfoldable pub with_arrays : Piece → (symbols follows : List ℕ) → Piece
with_arrays x s f = record { size = x.size; empty = x.empty; begins = x.begins; ends = x.ends; bound = x.bound; symbols = s; follows = f }

unfoldable pub plus_of : Piece → Piece
plus_of x = with_arrays x x.symbols (linked_of x.follows x.ends x.begins)

unfoldable pub optional_of : Piece → Piece
optional_of x =
    record { size = x.size; empty = true; begins = x.begins; ends = x.ends; bound = 0; symbols = x.symbols; follows = x.follows }

module _ (vars : ℕ → ℕ) (a b : Regex) (k : ℕ) where
  pub sequence_whole : sequence_of (piece_of vars a k) (piece_of vars b (k + size a)) ≡ piece_of vars (cat a b) k
  unfolding sequence_of piece_of with_arrays
  sequence_whole =
      ap₂ (with_arrays (piece_of vars (cat a b) k)) (joined_positions _ _ _ (cat_symbols a b k))
      (ap (λ f. linked_of f (ending a k) (beginning b (k + size a))) (joined_positions (following a k) (following b (k + size a)) _ (λ p. refl))
      ∙ linked_positions _ _ _ _ (cat_follows a b k))

  pub either_whole : either_of (piece_of vars a k) (piece_of vars b (k + size a)) ≡ piece_of vars (alt a b) k
  unfolding either_of piece_of with_arrays
  either_whole =
      ap₂ (with_arrays (piece_of vars (alt a b) k)) (joined_positions _ _ _ (alt_symbols a b k)) (joined_positions _ _ _ (alt_follows a b k))

module _ (vars : ℕ → ℕ) (a : Regex) (k : ℕ) where
  pub plus_whole : plus_of (piece_of vars a k) ≡ piece_of vars (plus a) k
  unfolding plus_of piece_of symbol_or0 with_arrays
  plus_whole =
      ap (with_arrays (piece_of vars (plus a) k) (map (symbol_or0 a k) positions)) (linked_positions (following a k) _ (ending a k) (beginning a k) (λ p. refl))

  pub optional_whole : optional_of (piece_of vars a k) ≡ piece_of vars (opt a) k
  unfolding optional_of piece_of symbol_or0
  optional_whole = refl

  -- one or more, or none
  pub star_whole : piece_of vars (opt (plus a)) k ≡ piece_of vars (star a) k
  unfolding piece_of symbol_or0
  star_whole = refl
