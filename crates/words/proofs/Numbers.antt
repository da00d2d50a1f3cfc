-- The tests of a kind and of a fixed number on the word from p to e, as the code makes them.
use mathlib.Core.Path.{◌≡◌, refl}
use mathlib.Core.Bool.{cond, not, ◌&&◌}
use Prim.Native.Nat.{ℕ, ◌≤◌}
use lib.Dec.{eqb, leb}
use lib.ListN.{length}
use Rattle.std.specs.Prelude.{Option, Some, slice_get}
use Rattle.std.specs.List.{list_all}
use Rattle.std.specs.Option.{option_eq}
use Rattle.form.specs.Text.{Bytes, is_digit}
use Rattle.form.specs.Scan.{part, value, kind_of}
use Rattle.text.proofs.Parts.{part_length}
use Rattle.text.proofs.Runs.{peek_law}
use Rattle.words.proofs.Digits.{all_law}

pub kind_at : (s : Bytes) (p e : ℕ) {o : Option ℕ} → e ≤ length s → o ≡ slice_get s p
    → let w = part s p e in
    kind_of s p e
    ≡ cond (leb (length w) 3 && list_all is_digit w && not (option_eq eqb o (Some 48))) (cond (leb (value 0 w) 255) (value 0 w) 0) 0
unfolding kind_of
kind_at s p e h k = rw (k, peek_law s p 48 refl, all_law is_digit (part s p e), part_length s p e h)
