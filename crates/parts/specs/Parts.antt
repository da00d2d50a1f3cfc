-- One event over a list of parts, decided whole: the number, the rows, the buffer and the tally. A part is a book with its state, bytes 5 and 6 of its
-- rows, and its own checks in their order. The books of a set are such a list: document 02, "Several books on one cable".
use Rattle.std.specs.Prelude.{Bool, cond, List, [], ◌∷◌, ◌++◌, ℕ, suc, ◌+◌, ◌*◌, eqb, ltb, length}
use Rattle.laws.specs.Checks.{Check, first_failing}
use Rattle.laws.specs.Lists.{gather}
use Rattle.laws.specs.Parts.{splice}
use Rattle.meaning.specs.Events.{Event, Valuation}
use Rattle.form.specs.Text.{Bytes}
use Rattle.book.specs.declared.Book.{Book}
use Rattle.state.specs.declared.State.{State}
use Rattle.row.specs.RowBytes.{row_size, bytes_of}
use Rattle.tally.specs.declared.Tally.{Tally}
use Rattle.tally.specs.Tallies.{tallied}
use Rattle.calls.specs.Calls.{rows_by, state_by}

pub record Part : Type 0 where
  pub book : Book
  pub state : State
  pub byte5 : ℕ
  pub byte6 : ℕ
  pub checks : List (Check ℕ)

-- a row: event number, variable count, bytes 5 and 6, values
abbrev pub row_with : (number variables byte5 byte6 : ℕ) → Valuation → Bytes
row_with n v x y σ = bytes_of (record { number = n; variables = v; byte5 = x; byte6 = y; values = σ })

-- what an event does with one part: its rows, their bytes, and the state after it
module _ (e : Event) (p : Part) where
  unfoldable pub part_rows : List Valuation
  part_rows = rows_by p.book p.state e

  unfoldable pub part_bytes : Bytes
  part_bytes = gather (row_with (suc p.state.number) p.book.variables p.byte5 p.byte6) part_rows

  unfoldable pub part_next : State
  part_next = state_by p.book p.state e

-- how many rows there are "of all books together"
unfoldable pub rows_together : Event → List Part → ℕ
rows_together e parts = length (gather (part_rows e) parts)

-- what a call over parts hands back (the number) and leaves, the states apart: each is that of `part_next` on acceptance, and stays on refusal
pub record PartsLeft : Type 0 where
  pub number : ℕ
  pub rows : ℕ
  pub buffer : Bytes
  pub tally : Tally

-- `first` are the checks "before all else"
module _ (first : List (Check ℕ)) (parts : List Part) (e : Event) (buffer : Bytes) (place : ℕ) where
  -- "Answer 13 is judged on the rows of all books together"
  unfoldable pub no_space_together : Bool
  no_space_together = ltb (length buffer) (place + row_size * rows_together e parts)

  -- "the answer is that of the lowest-numbered refusing book", by its first failing check; 13 "after every other check"
  unfoldable pub number_for : ℕ
  number_for = first_failing 0 (first ++ gather (λ p. p.checks) parts ++ (record { fails = no_space_together; answer = 13 } ∷ []))

  -- "Rows come in book order"; "A set has one tally": one event and the rows of all parts, or one refused event
  unfoldable pub parts_left : Tally → PartsLeft
  parts_left t =
      let n = rows_together e parts in
      let accepted : PartsLeft = record { number = number_for; rows = n; buffer = splice place (gather (part_bytes e) parts) buffer; tally = tallied t 1 0 n } in
      let refused : PartsLeft = record { number = number_for; rows = 0; buffer = buffer; tally = tallied t 0 1 0 } in
      cond (eqb number_for 0) accepted refused
