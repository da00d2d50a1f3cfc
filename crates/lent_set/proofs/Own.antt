-- The k-th book of a set and its state, lent as two blocks: what the book answers, its rows, their bytes and its next state are those of the k-th part. For
-- the functions that judge and move it.
use mathlib.Core.Path.{◌≡◌, sym, ap, ap₂, ◌∙◌}
use mathlib.Core.List.{List}
use Prim.Native.Nat.{ℕ, suc, ◌*◌, ◌≤◌}
use native.Mathlib.Omega.{arith}
use Rattle.std.proofs.Common.{Result, Ok, Err, IfOk, IfErr}
use lib.ListN.{length}
use Rattle.laws.specs.Checks.{first_failing}
use Rattle.laws.specs.Lists.{gather}
use Rattle.laws.proofs.Fronts.{gather_length}
use Rattle.meaning.specs.Rows.{row_limit}
use Rattle.form.specs.Text.{Bytes}
use Rattle.record.specs.Records.{event_in}
use Rattle.row.proofs.RowBytes.{bytes_length}
use Rattle.calls.specs.Answers.{number_of}
use Rattle.calls.specs.declared.EventAnswer.{EventAnswer}
use Rattle.calls.specs.declared.EventAnswer.TheVariants.{Accepted}
use Rattle.calls.specs.Calls.{decisions, rows_by, state_by}
use Rattle.blocks.specs.BookBlock.{book_size, book_in}
use Rattle.blocks.specs.StateBlock.{state_size, state_in, state_stored}
use Rattle.parts.specs.Parts.{row_with, part_rows, part_bytes, part_next}
use Rattle.parts.specs.SetBlock.{block_at, book_part}
use Rattle.parts.proofs.Blocks.{inside}
use Rattle.parts.proofs.Left.{part_inside, part_passes}
use Rattle.part.proofs.Passed.{few_values}

module _ (w s : List ℕ) (bytes : Bytes) (k : ℕ) where
  -- 24 bytes to each of its rows, where it does not refuse
  pub own_size : first_failing 0 (book_part w s bytes k).checks ≡ 0
      → length (part_bytes (event_in bytes) (book_part w s bytes k)) ≡ 24 * length (part_rows (event_in bytes) (book_part w s bytes k))
  unfolding part_bytes part_rows book_part
  own_size h =
      let b = book_in (block_at book_size k w) in
      let z = state_in (block_at state_size k s) in
      let each = few_values b z bytes (part_passes w s bytes k h).2 in
      omega (arith, gather_length (row_with (suc z.number) b.variables k 0) 24 (rows_by b z (event_in bytes)) (λ σ m. bytes_length _ (each σ m)))

  module _ {bw sw : List ℕ} (book : bw ≡ block_at book_size k w) (state : sw ≡ block_at state_size k s) where
    pub own_number : book_size * suc k ≤ length w → state_size * suc k ≤ length s
        → number_of (first_failing Accepted (decisions (book_in bw) (state_in sw) bytes)) ≡ first_failing 0 (book_part w s bytes k).checks
    own_number h g =
        ap₂ (λ x y. number_of (first_failing Accepted (decisions (book_in x) (state_in y) bytes))) book state
        ∙ sym (part_inside w s bytes k (inside w s bytes k h g))

    pub own_rows : length (rows_by (book_in bw) (state_in sw) (event_in bytes)) ≡ length (part_rows (event_in bytes) (book_part w s bytes k))
    unfolding part_rows book_part
    own_rows = ap₂ (λ x y. length (rows_by (book_in x) (state_in y) (event_in bytes))) book state

    -- what the book answers to them is what is told of the k-th part
    pub own_judged : book_size * suc k ≤ length w → state_size * suc k ≤ length s → (x : Result ℕ EventAnswer)
        → IfOk x (λ n. (number_of (first_failing Accepted (decisions (book_in bw) (state_in sw) bytes)) ≡ 0)
        × (n ≡ length (rows_by (book_in bw) (state_in sw) (event_in bytes))) × (n ≤ row_limit))
        → IfErr x (λ a. (number_of a ≡ number_of (first_failing Accepted (decisions (book_in bw) (state_in sw) bytes))) × (number_of a ≡ 0 → ⊥))
        → IfOk x (λ n. (first_failing 0 (book_part w s bytes k).checks ≡ 0)
        × (n ≡ length (part_rows (event_in bytes) (book_part w s bytes k))) × (n ≤ row_limit))
        × IfErr x (λ a. (number_of a ≡ first_failing 0 (book_part w s bytes k).checks) × (number_of a ≡ 0 → ⊥))
    own_judged h g (Ok n) passed refused = ((sym (own_number h g) ∙ passed.0, passed.1 ∙ own_rows, passed.2), refused)
    own_judged h g (Err a) passed refused = (passed, (refused.0 ∙ own_number h g, refused.1))

    pub own_bytes : {five : ℕ} → five ≡ k
        → gather (row_with (suc (state_in sw).number) (book_in bw).variables five 0) (rows_by (book_in bw) (state_in sw) (event_in bytes))
        ≡ part_bytes (event_in bytes) (book_part w s bytes k)
    unfolding part_bytes part_rows book_part
    own_bytes five =
        ap (λ n. gather (row_with (suc (state_in sw).number) (book_in bw).variables n 0) (rows_by (book_in bw) (state_in sw) (event_in bytes))) five
        ∙ ap₂ (λ x y. gather (row_with (suc (state_in y).number) (book_in x).variables k 0) (rows_by (book_in x) (state_in y) (event_in bytes))) book state

    pub own_next : state_stored sw (state_by (book_in bw) (state_in sw) (event_in bytes))
        ≡ state_stored (block_at state_size k s) (part_next (event_in bytes) (book_part w s bytes k))
    unfolding part_next book_part
    own_next = ap₂ (λ x y. state_stored y (state_by (book_in x) (state_in y) (event_in bytes))) book state
