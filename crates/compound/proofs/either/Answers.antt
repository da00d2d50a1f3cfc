-- `compound::either` meets its contract: it makes `either_of`, which is the fragment of `alt a b`.
use mathlib.Core.Path.{◌≡◌, ◌∙◌, ap₂}
use mathlib.Core.Bool.{◌||◌}
use Rattle.laws.specs.Bits.{join, meet}
use Rattle.piece.proofs.Laws.{joined_of}
use Rattle.compound.proofs.Wholes.{either_of, either_whole}
use Rattle.compound.proofs.either.Goals as goal
use Rattle.compound.proofs.either.Goals.{then-x, else-x}

pub returns : goal.returns
unfolding either_of joined_of join meet
returns c vars a b k ex ey =
    let s = c.args in
    let t : c.if-x.result ≡ (s.x.empty || s.y.empty) =
    elim c.if-x.branch [ then-x w ↦ rw w.if-x.true (w.result-is ∙ w.if-x.true) | else-x w ↦ rw w.if-x.false w.result-is ] in
    rw (t, c.joined-2.ensures, c.joined.ensures) (ap₂ either_of ex ey ∙ either_whole vars a b k)
