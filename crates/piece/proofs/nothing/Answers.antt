-- `piece::nothing` meets its contract, by computation.
use mathlib.Core.Path.{refl}
use Rattle.piece.specs.Pieces.{no_piece}
use Rattle.piece.proofs.nothing.Goals as goal

pub returns : goal.returns
unfolding no_piece
returns c = refl
