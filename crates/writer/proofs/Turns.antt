-- A part written over in place, as a splice; and a turn of the loop of put_rows: the bytes of the next valuation, with the fields that all rows share, right behind those of the first i.
use mathlib.Core.Path.{◌≡◌, ap, ◌∙◌}
use mathlib.Core.List.{List, [], Memᴰ}
use Prim.Native.Nat.{ℕ, ◌+◌, ◌*◌, ◌≤◌, ◌<◌}
use native.Mathlib.Omega.{arith}
use borrow.Rule.Slice.PartMut.{put_mid}
use lib.ListN.{length, take, get_or}
use Rattle.laws.specs.Lists.{gather}
use Rattle.laws.specs.Parts.{front, splice}
use Rattle.laws.proofs.Fronts.{front_more}
use Rattle.meaning.specs.Events.{Valuation}
use Rattle.meaning.specs.Rows.{row_limit}
use Rattle.rows.specs.Valuations.{valuations_in}
use Rattle.rows.proofs.Valuations.{in_length, wide_in}
use Rattle.row.specs.RowBytes.{bytes_of, with_values}
use Rattle.row.specs.declared.RowFields.{RowFields}
use Rattle.row.proofs.RowBytes.{bytes_length}

pub put_splice : {A : Type 0} (p k : ℕ) (b l : List A) {m : List A} → length b ≡ k → m ≡ b → put_mid p k l m ≡ splice p b l
unfolding splice front
put_splice p k b l h e = rw (e, ← h)

module _ (shared : RowFields) (w : List ℕ) where
  abbrev row_of : Valuation → List ℕ
  row_of σ = bytes_of (with_values shared σ)

  in_row : (σ : Valuation) → Memᴰ σ (valuations_in w) → length (row_of σ) ≡ 24
  in_row σ m = bytes_length (with_values shared σ) (omega (arith, wide_in w σ m))

  pub rows_next : (i : ℕ) (l : List ℕ) {x row out : List ℕ} → i < row_limit → 24 * i + 24 ≤ length l → x ≡ get_or (valuations_in w) i []
      → row ≡ row_of x → out ≡ front (gather row_of (take i (valuations_in w))) l
      → splice (24 * i) row out ≡ front (gather row_of (take (i + 1) (valuations_in w))) l
  rows_next i l h k found made before =
      front_more row_of 24 (valuations_in w) in_row i [] l (omega (arith, in_length w)) k (made ∙ ap row_of found) before
