-- The turn of the loop in which the books of a set take an event: the states of the first k stored, their rows written from the place on, and the place
-- of the next row. For `advance_all`.
use mathlib.Core.Path.{◌≡◌, refl, sym, ap, ap₂, ◌∙◌}
use mathlib.Core.List.{List}
use Prim.Native.Nat.{ℕ, ◌+◌, ◌-◌, ◌*◌, ◌≤◌}
use native.Mathlib.Omega.{arith}
use borrow.Rule.Slice.PartMut.{put_mid}
use lib.ListN.{length, length-append}
use Rattle.laws.specs.Lists.{gather}
use Rattle.laws.specs.Parts.{splice}
use Rattle.laws.proofs.Parts.{splice_nothing, splice_append}
use Rattle.form.specs.Text.{Bytes}
use Rattle.record.specs.Records.{event_in}
use Rattle.row.specs.RowBytes.{row_size}
use Rattle.blocks.specs.StateBlock.{state_size, state_stored}
use Rattle.parts.specs.Parts.{part_rows, part_bytes, part_next, rows_together}
use Rattle.parts.specs.SetBlock.{block_at, book_part, parts_in, states_after}
use Rattle.parts.proofs.Blocks.{over_none, over_next, over_more, parts_more, together_more}

module _ (w s : List ℕ) (bytes : Bytes) (buffer : Bytes) (place : ℕ) where
  -- the bytes of the rows of the first k books
  abbrev written : ℕ → Bytes
  written k = gather (part_bytes (event_in bytes)) (parts_in w s bytes k)

  abbrev together : ℕ → ℕ
  together k = rows_together (event_in bytes) (parts_in w s bytes k)

  -- the words of the k-th state after the event
  abbrev after : ℕ → List ℕ
  after k = state_stored (block_at state_size k s) (part_next (event_in bytes) (book_part w s bytes k))

  pub record Taken (k : ℕ) (states rows : List ℕ) (next : ℕ) : Type 0 where
    pub stored : states ≡ states_after w s bytes k
    pub rowed : rows ≡ splice place (written k) buffer
    pub sized : length (written k) ≡ row_size * together k
    pub behind : next ≡ place + row_size * together k

  pub taken_none : Taken 0 s buffer place
  unfolding states_after rows_together
  taken_none =
      record { stored = over_none after state_size s; rowed = sym (splice_nothing place buffer); sized = refl; behind = omega arith }

  module _ {k : ℕ} {states rows : List ℕ} {next : ℕ} (taken : Taken k states rows next) (inside : state_size * k ≤ length s)
      (long : length states ≡ length s) where
    -- the state of the next book is as it came
    pub taken_next : block_at state_size k states ≡ block_at state_size k s
    unfolding states_after
    taken_next = over_next after state_size s k taken.stored inside long

    pub taken_more : {piece more : List ℕ} {n : ℕ} → n ≡ length (part_rows (event_in bytes) (book_part w s bytes k))
        → length (part_bytes (event_in bytes) (book_part w s bytes k)) ≡ row_size * length (part_rows (event_in bytes) (book_part w s bytes k))
        → place + row_size * together (k + 1) ≤ length buffer
        → piece ≡ after k
        → more ≡ splice next (part_bytes (event_in bytes) (book_part w s bytes k)) rows
        → Taken (k + 1) (put_mid (k * state_size) (k * state_size + state_size - k * state_size) states piece) more (next + n * row_size)
    unfolding states_after
    taken_more counted size fits piece more =
        let own = part_bytes (event_in bytes) (book_part w s bytes k) in
        let e = together_more w s bytes (event_in bytes) k in
        let here : next ≡ place + length (written k) = omega (arith, taken.behind, taken.sized) in
        record {
          stored = over_more after state_size s k taken.stored inside long piece;
          rowed = more ∙ ap₂ (λ p r. splice p own r) here taken.rowed
              ∙ splice_append place (written k) own buffer (omega (arith, fits, e, taken.sized, size))
              ∙ ap (λ b. splice place b buffer) (sym (parts_more w s bytes (part_bytes (event_in bytes)) k));
          sized = ap length (parts_more w s bytes (part_bytes (event_in bytes)) k) ∙ omega (arith, length-append (written k) own, taken.sized, size, e);
          behind = omega (arith, taken.behind, e, counted);
        }

  pub taken_all_law : {k n : ℕ} {states rows : List ℕ} {next : ℕ} → Taken k states rows next → k ≡ n
      → (rows ≡ splice place (written n) buffer) × (states ≡ states_after w s bytes n)
  taken_all_law taken e = (taken.rowed ∙ ap (λ k. splice place (written k) buffer) e, taken.stored ∙ ap (states_after w s bytes) e)
