-- `piece::literal` meets its contract: the shift gives `single k`, and the store puts the symbol at position k.
use mathlib.Core.Path.{◌≡◌}
use mathlib.Core.Bool.{false}
use Prim.Native.Nat.{ℕ, ◌-◌, ◌*◌, ◌^◌, ◌%◌, ◌≤◌}
use lib.ListN.{replicate, set}
use Rattle.pattern.specs.Regex.{lit}
use Rattle.pattern.specs.Positions.{occurrence_limit}
use Rattle.piece.specs.declared.Piece.{Piece}
use Rattle.piece.specs.Pieces.{piece_of, no_piece}
use Rattle.piece.proofs.Laws.{lit_mask, lit_symbols}
use Rattle.piece.proofs.literal.Goals as goal

-- the fragment as the code makes it
unfoldable made : (k a bound : ℕ) → Piece
made k a bound =
    let m = 1 * 2 ^ k % 2 ^ 32 in
    record {
      size = 1;
      empty = false;
      begins = m;
      ends = m;
      bound = bound;
      symbols = set (replicate occurrence_limit 0) (k - 1) a;
      follows = replicate occurrence_limit 0;
    }

made_whole : (vars : ℕ → ℕ) (k a bound : ℕ) → 1 ≤ k → k ≤ occurrence_limit → vars a ≡ bound → made k a bound ≡ piece_of vars (lit a) k
unfolding made piece_of
made_whole vars k a bound low high e = rw (lit_mask k a high, e, lit_symbols k a occurrence_limit low high)

pub returns : goal.returns
unfolding made no_piece
returns c vars e = rw c.nothing.ensures (made_whole vars c.args.k c.args.a c.args.bound c.requires.0 c.requires.1 e)
