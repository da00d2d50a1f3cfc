-- A set of one book gives the bytes of the plain call: the same number, rows, buffer, tally and state, whatever words are lent and whatever stands behind
-- them.
use mathlib.Core.Path.{◌≡◌, refl, sym, ap, ◌∙◌}
use mathlib.Core.Bool.{Bool, true, false, cond, false≢true}
use mathlib.Core.List.{List, [], ◌∷◌, ◌++◌, append-nil}
use Prim.Native.Nat.{ℕ, suc}
use native.Mathlib.Omega.{arith}
use lib.ListN.{length, length-append}
use lib.Seq.{take_at, drop_at}
use Rattle.laws.specs.Lists.{gather}
use Rattle.form.specs.Text.{Bytes}
use Rattle.record.specs.Records.{event_in}
use Rattle.row.specs.RowBytes.{row_bytes}
use Rattle.book.specs.declared.Book.{Book}
use Rattle.state.specs.declared.State.{State}
use Rattle.calls.specs.declared.EventAnswer.{EventAnswer}
use Rattle.calls.specs.declared.EventAnswer.TheVariants.{NoSpace}
use Rattle.calls.specs.declared.Taken.{Taken}
use Rattle.calls.specs.Answers.{number_of}
use Rattle.calls.specs.Calls.{is_accepted, rows_by, state_by, decisions, no_space, answer_to, taken, buffer_after}
use Rattle.calls.specs.Runs.{Lent}
use Rattle.demands.proofs.Checks.{zero_accepted, accepted_zero}
use Rattle.demands.proofs.Course.{taken_answer, taken_refused, taken_accepted}
use Rattle.blocks.specs.BookBlock.{book_in}
use Rattle.blocks.specs.StateBlock.{state_in, state_stored}
use Rattle.blocks.specs.TallyBlock.{tally_in, tally_words}
use Rattle.blocks.specs.Lent.{event_left}
use Rattle.parts.specs.Parts.{part_rows, part_bytes, part_next, rows_together, no_space_together, number_for}
use Rattle.parts.specs.SetBlock.{bad_count, count_checks, block_at, outside, book_part, parts_in, states_after, set_left}
use Rattle.parts.proofs.Blocks.{inside}
use Rattle.parts.proofs.Left.{first_by_number, left_accepted, left_refused}

module _ (w s : List ℕ) (wide : length w ≡ 269) (long : length s ≡ 3715) (more others : List ℕ) (bytes buffer : Bytes) (place : ℕ) (t : List ℕ) where
  abbrev W : List ℕ
  W = w ++ more

  abbrev S : List ℕ
  S = s ++ others

  abbrev b : Book
  b = book_in w

  abbrev z : State
  z = state_in s

  first_book : block_at 269 0 W ≡ w
  first_book = take_at w more 269 wide

  first_state : block_at 3715 0 S ≡ s
  first_state = take_at s others 3715 long

  within : outside W S bytes 0 ≡ false
  within = inside W S bytes 0 (omega (arith, length-append w more)) (omega (arith, length-append s others))

  abbrev n : ℕ
  n = number_for (count_checks 1) (parts_in W S bytes 1) (event_in bytes) buffer place

  abbrev a : EventAnswer
  a = answer_to b z bytes buffer place

  one_rows : gather (part_rows (event_in bytes)) (parts_in W S bytes 1) ≡ rows_by b z (event_in bytes)
  unfolding part_rows book_part
  one_rows = rw (first_book, first_state) (append-nil (rows_by b z (event_in bytes)))

  one_bytes : gather (part_bytes (event_in bytes)) (parts_in W S bytes 1) ≡ gather (row_bytes (suc z.number) b.variables) (rows_by b z (event_in bytes))
  unfolding part_bytes part_rows book_part row_bytes
  one_bytes = rw (first_book, first_state) (append-nil _)

  one_state : states_after W S bytes 1 ≡ state_stored s (state_by b z (event_in bytes)) ++ others
  unfolding states_after part_next book_part
  one_state = rw (first_book, first_state, append-nil (state_stored s (state_by b z (event_in bytes))), drop_at s others 3715 long)

  one_number : n ≡ number_of a
  unfolding number_for no_space_together rows_together part_rows book_part answer_to no_space bad_count
  one_number =
      rw (within, one_rows, first_book, first_state)
      (first_by_number (decisions b z bytes ++ (record { fails = no_space b z bytes buffer place; answer = NoSpace } ∷ [])))

  -- what is lent to the call, as the definitions of the crate calls have it
  abbrev l : Lent
  l = record { bytes = bytes; buffer = buffer; place = place; tally = tally_in t }

  abbrev r : Taken
  r = taken b z bytes buffer place (tally_in t)

  accepted_one : is_accepted a ≡ true → set_left W S 1 bytes buffer place t
      ≡ record {
        number = number_of r.answer;
        rows = r.rows;
        buffer = buffer_after b z bytes buffer place;
        tally = tally_words r.tally;
        states = cond (is_accepted r.answer) (state_stored s r.state) s ++ others;
      }
  unfolding rows_together
  accepted_one h =
      let zero : n ≡ 0 = one_number ∙ zero_accepted a h in
      let (count, state, left, tally) = taken_accepted b z l h in
      left_accepted W S bytes 1 buffer place t zero
      ∙ rw (one_rows, one_bytes, one_state, taken_answer b z l, h, zero_accepted a h, count, state, left, tally)

  refused_one : is_accepted a ≡ false → set_left W S 1 bytes buffer place t
      ≡ record {
        number = number_of r.answer;
        rows = r.rows;
        buffer = buffer_after b z bytes buffer place;
        tally = tally_words r.tally;
        states = cond (is_accepted r.answer) (state_stored s r.state) s ++ others;
      }
  refused_one h =
      let more : n ≡ 0 → ⊥ = λ e. false≢true (sym h ∙ accepted_zero a (sym one_number ∙ e)) in
      let (back, left) = taken_refused b z l h in
      left_refused W S bytes 1 buffer place t more ∙ rw (one_number, back, left, h)

-- a set of one: all that it hands back and leaves is what the plain call does, and the words behind its book and state stay
pub set_of_one : (w s : List ℕ) → length w ≡ 269 → length s ≡ 3715 → (more others : List ℕ) (bytes buffer : Bytes) (place : ℕ) (t : List ℕ)
    → let a = set_left (w ++ more) (s ++ others) 1 bytes buffer place t in
    let c = event_left w s bytes buffer place t in
    (a.number ≡ c.number) × (a.rows ≡ c.rows) × (a.buffer ≡ c.buffer) × (a.tally ≡ c.tally) × (a.states ≡ c.state ++ others)
unfolding event_left
set_of_one w s wide long more others bytes buffer place t =
    let e = go (is_accepted (answer_to (book_in w) (state_in s) bytes buffer place)) refl in
    (ap (λ l. l.number) e, ap (λ l. l.rows) e, ap (λ l. l.buffer) e, ap (λ l. l.tally) e, ap (λ l. l.states) e)
  where
    go : (y : Bool) → is_accepted (answer_to (book_in w) (state_in s) bytes buffer place) ≡ y
        → let r = taken (book_in w) (state_in s) bytes buffer place (tally_in t) in
        set_left (w ++ more) (s ++ others) 1 bytes buffer place t
        ≡ record {
          number = number_of r.answer;
          rows = r.rows;
          buffer = buffer_after (book_in w) (state_in s) bytes buffer place;
          tally = tally_words r.tally;
          states = cond (is_accepted r.answer) (state_stored s r.state) s ++ others;
        }
    go true h = accepted_one w s wide long more others bytes buffer place t h
    go false h = refused_one w s wide long more others bytes buffer place t h
