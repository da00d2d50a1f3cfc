-- What is known in the turn of the loop in which the k-th book of a set takes an event: it does not refuse, its two blocks are lent, and there is
-- space for its rows behind those that are written. For `advance_all`.
use mathlib.Core.Path.{◌≡◌, ◌∙◌}
use mathlib.Core.List.{List}
use Prim.Native.Nat.{ℕ, suc, ◌+◌, ◌-◌, ◌*◌, ◌≤◌, ◌<◌}
use native.Mathlib.Omega.{arith}
use borrow.Rule.Slice.PartMut.{mid_of}
use lib.ListN.{length}
use Rattle.laws.specs.Checks.{first_failing}
use Rattle.laws.specs.Lists.{gather}
use Rattle.form.specs.Text.{Bytes}
use Rattle.record.specs.Records.{event_in}
use Rattle.row.specs.RowBytes.{row_size}
use Rattle.calls.specs.Calls.{rows_by}
use Rattle.blocks.specs.BookBlock.{book_size, book_in}
use Rattle.blocks.specs.StateBlock.{state_size, state_in}
use Rattle.parts.specs.Parts.{part_rows, rows_together}
use Rattle.parts.specs.SetBlock.{block_at, book_part, parts_in}
use Rattle.parts.proofs.Blocks.{block_lent, together_more, together_grows}
use Rattle.parts.proofs.Left.{each_passes, part_passes}
use Rattle.lent_set.proofs.Own.{own_rows}
use Rattle.lent_set.proofs.Taken.{Taken, taken_next}

-- the words that are lent on for the k-th block of so many
abbrev pub lent_on : (size k : ℕ) → List ℕ → List ℕ
lent_on size k l = mid_of (k * size) (k * size + size - k * size) l

module _ (w s : List ℕ) (bytes buffer : Bytes) (place k : ℕ) (states : List ℕ) (next : ℕ) where
  pub record Turn : Type 0 where
    pub passes : first_failing 0 (book_part w s bytes k).checks ≡ 0
    pub books_inside : book_size * suc k ≤ length w
    pub states_inside : state_size * suc k ≤ length s
    pub fits : place + row_size * rows_together (event_in bytes) (parts_in w s bytes (k + 1)) ≤ length buffer
    -- the words lent are those of its blocks
    pub book : lent_on book_size k w ≡ block_at book_size k w
    pub state : lent_on state_size k states ≡ block_at state_size k s
    -- its rows are counted, and end where the next book's begin
    pub counted : length (rows_by (book_in (lent_on book_size k w)) (state_in (lent_on state_size k states)) (event_in bytes))
        ≡ length (part_rows (event_in bytes) (book_part w s bytes k))
    pub rows_end : next + row_size * length (part_rows (event_in bytes) (book_part w s bytes k))
        ≡ place + row_size * rows_together (event_in bytes) (parts_in w s bytes (k + 1))

module _ {w s : List ℕ} {bytes buffer : Bytes} {place k : ℕ} {states rows : List ℕ} {next : ℕ} (taken : Taken w s bytes buffer place k states rows next)
    (long : length states ≡ length s) where
  pub turn : {n : ℕ} → k < n → first_failing 0 (gather (λ p. p.checks) (parts_in w s bytes n)) ≡ 0
      → place + row_size * rows_together (event_in bytes) (parts_in w s bytes n) ≤ length buffer → Turn w s bytes buffer place k states next
  turn {n} below none space =
      let here : first_failing 0 (book_part w s bytes k).checks ≡ 0 = each_passes w s bytes 0 n none k (omega arith) (omega arith) in
      let inside = part_passes w s bytes k here in
      let own : lent_on book_size k w ≡ block_at book_size k w = block_lent book_size k w in
      let its : lent_on state_size k states ≡ block_at state_size k s =
      block_lent state_size k states ∙ taken_next w s bytes buffer place taken (omega (arith, inside.1)) long in
      record {
        passes = here;
        books_inside = inside.0;
        states_inside = inside.1;
        fits = omega (arith, space, together_grows w s bytes (event_in bytes) (k + 1) n (omega arith));
        book = own;
        state = its;
        counted = own_rows w s bytes k own its;
        rows_end = omega (arith, taken.behind, together_more w s bytes (event_in bytes) k);
      }
