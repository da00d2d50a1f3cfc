-- `put_rows` meets its contract: after i turns the bytes of the first i valuations stand over the front of what was lent.
use mathlib.Core.Path.{◌≡◌}
use lib.ListN.{length, take}
use Rattle.laws.specs.Lists.{gather}
use Rattle.laws.specs.Parts.{front}
use Rattle.rows.specs.Valuations.{valuations_in}
use Rattle.row.specs.RowBytes.{bytes_of, with_values}
use Rattle.writer.proofs.put_rows.Given as goal

abbrev pub invariant-loop-i : goal.invariant-loop-i
invariant-loop-i l =
    (length l.out ≡ length l.initial.out) × (l.out ≡ front (gather (λ σ. bytes_of (with_values l.shared σ)) (take l.i (valuations_in l.words))) l.initial.out)
