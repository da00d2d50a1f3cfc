-- Words and the ends of lines are inside the text.
use mathlib.Core.Path.{◌≡◌, ap, sym, ◌∙◌}
use Prim.Native.Nat.{ℕ, ◌+◌, ◌≤◌}
use native.Mathlib.Omega.{arith}
use lib.ListN.{length}
use Rattle.form.specs.Text.{Bytes, space, lf}
use Rattle.form.specs.Scan.{word_end, Step, next_word}
use Rattle.parsing.proofs.Scans.{word_end_ge, word_end_le}
use Rattle.parsing.proofs.Words.{Gap, ended, next, failed, gap, byte_inside}

pub word_within : (s : Bytes) (q e : ℕ) → e ≡ word_end s q → q ≤ length s → (q ≤ e) × (e ≤ length s)
word_within s q e i l = rw i (word_end_ge s q, word_end_le s q l)

-- behind p, where there is no fault, the text goes on: with an LF or a space
pub next_more : (s : Bytes) (p : ℕ) {x : Step} → next_word s p ≡ x → x.fault ≡ 0 → p + 1 ≤ length s
next_more s p {x} i h = by (gap s p)
  where
    by : Gap s p → p + 1 ≤ length s
    by (ended e rest t) = byte_inside s p lf rest t
    by (next w rest n) = byte_inside s p space _ n.text
    by (failed n e f j) = absurd (omega (arith, ap (λ y. y.fault) (sym e ∙ i)))
