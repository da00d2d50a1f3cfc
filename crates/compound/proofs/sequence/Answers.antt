-- `compound::sequence` meets its contract: it makes `sequence_of`, which is the fragment of `cat a b`.
use mathlib.Core.Path.{◌≡◌, ◌∙◌, ap₂}
use mathlib.Core.Bool.{◌&&◌}
use Rattle.laws.specs.Bits.{join}
use Rattle.piece.proofs.Laws.{is_joined, is_linked}
use Rattle.compound.proofs.Wholes.{sequence_of, sequence_made, sequence_whole}
use Rattle.compound.proofs.sequence.Goals as goal
use Rattle.compound.proofs.sequence.Goals.{then-x, else-x}

pub returns : goal.returns
unfolding join
returns c vars a b k ex ey =
    let s = c.args in
    let t : c.if-x.result ≡ (s.x.empty && s.y.empty) =
    elim c.if-x.branch [ then-x w ↦ rw w.if-x.true w.result-is | else-x w ↦ rw w.if-x.false (w.result-is ∙ w.if-x.false) ] in
    sequence_made s.x s.y t c.given.ensures c.given-2.ensures (is_joined _ _ c.joined.ensures)
    (is_joined _ _ c.joined-both.ensures) (is_linked _ _ _ c.linked.ensures)
    ∙ ap₂ sequence_of ex ey ∙ sequence_whole vars a b k
