-- For any words, reached by a run or not: the number that a lent event call hands back is that of the first check that fails, a refusal leaves all
-- but the refused counter, an acceptance the rows and the tally, and a block of another layout is unsound. Words out of range are in Damage.
use mathlib.Core.Path.{◌≡◌, refl, ap}
use mathlib.Core.Bool.{false, cond, and-false}
use mathlib.Core.List.{List}
use Prim.Native.Nat.{ℕ, suc, ◌*◌, ◌≤◌}
use borrow.Author.Tests.{ne_eqb}
use lib.ListN.{length, get_or}
use Rattle.laws.specs.Lists.{gather}
use Rattle.laws.specs.Parts.{splice}
use Rattle.meaning.specs.Book.{sound_book}
use Rattle.meaning.specs.Rows.{rows}
use Rattle.meaning.specs.Sound.{sound_state}
use Rattle.form.specs.Text.{Bytes}
use Rattle.record.specs.Records.{event_in}
use Rattle.row.specs.RowBytes.{row_bytes}
use Rattle.book.specs.declared.Book.{Book}
use Rattle.book.specs.Books.{empty_book, view_book}
use Rattle.state.specs.States.{state_of, held_first, view_state}
use Rattle.sound.specs.Soundness.{book_counts, book_sound, state_counts, state_sound}
use Rattle.tally.specs.Tallies.{tallied}
use Rattle.calls.specs.Calls.{taken}
use Rattle.calls.specs.Checks.{FirstFailing, unsound_book, unsound_state}
use Rattle.demands.proofs.Checks.{first_failing_law, refused_number, refused_stays, few_taken, accepted_leaves}
use Rattle.blocks.specs.BookBlock.{book_in}
use Rattle.blocks.specs.StateBlock.{state_in, unknown_state, state_stored}
use Rattle.blocks.specs.TallyBlock.{tally_in, tally_words}
use Rattle.blocks.specs.Lent.{event_left}

-- neither the empty book nor a state above the limit of events is sound
empty_unsound : book_sound empty_book ≡ false
unfolding book_sound book_counts empty_book sound_book view_book
empty_unsound = refl

unknown_unsound : (b : Book) → state_sound b unknown_state ≡ false
unfolding state_sound sound_state view_state state_of
unknown_unsound b = and-false (state_counts b.variables unknown_state)

module _ (w s : List ℕ) (bytes buffer : Bytes) (place : ℕ) (t : List ℕ) where
  -- "Events: 9 to 13 in that order"
  pub lent_first_failing : FirstFailing (book_in w) (state_in s) bytes buffer place (event_left w s bytes buffer place t).number
  unfolding event_left
  lent_first_failing = first_failing_law (book_in w) (state_in s) bytes buffer place (tally_in t)

  -- "all unchanged", but one refused event more
  pub lent_refused_stays : ((event_left w s bytes buffer place t).number ≡ 0 → ⊥) → let l = event_left w s bytes buffer place t in
      (l.rows ≡ 0) × (l.buffer ≡ buffer) × (l.state ≡ s) × (l.tally ≡ tally_words (tallied (tally_in t) 0 1 0))
  unfolding event_left
  lent_refused_stays h =
      let r = taken (book_in w) (state_in s) bytes buffer place (tally_in t) in
      let (_, _, rows, tally, left) = refused_stays (book_in w) (state_in s) bytes buffer place (tally_in t) h in
      (rows, left, ap (λ z. cond z (state_stored s r.state) s) (refused_number r.answer h), ap tally_words tally)

  -- the rows of what the words hold, from the place on, each with the event's number; one accepted event and these rows more
  pub lent_accepted_leaves : (event_left w s bytes buffer place t).number ≡ 0
      → let b = book_in w in
      let l = rows (view_book b) (held_first b.variables (state_in s)) (event_in bytes) in
      let m = event_left w s bytes buffer place t in
      (m.rows ≡ length l) × (m.tally ≡ tally_words (tallied (tally_in t) 1 0 (length l)))
      × (m.buffer ≡ splice place (gather (row_bytes (suc (state_in s).number) b.variables) l) buffer)
  unfolding event_left
  lent_accepted_leaves h =
      let (_, count, tally, left) = accepted_leaves (book_in w) (state_in s) bytes buffer place (tally_in t) h in
      (count, ap tally_words tally, left)

  -- "at most 16 × 129 rows"
  pub lent_few_rows : (event_left w s bytes buffer place t).rows ≤ 16 * 129
  unfolding event_left
  lent_few_rows = few_taken (book_in w) (state_in s) bytes buffer place (tally_in t)

  -- a book's block of another layout holds the empty book, a state's block of another layout a state above the limit of events
  pub other_book : (get_or w 0 0 ≡ 1001 → ⊥) → (event_left w s bytes buffer place t).number ≡ 9
  unfolding book_in
  other_book h = lent_first_failing.nine.1 (unsound_book (rw (ne_eqb (get_or w 0 0) 1001 h) empty_unsound))

  pub other_state : (get_or s 0 0 ≡ 2001 → ⊥) → (event_left w s bytes buffer place t).number ≡ 9
  unfolding state_in
  other_state h = lent_first_failing.nine.1 (unsound_state (rw (ne_eqb (get_or s 0 0) 2001 h) (unknown_unsound (book_in w))))
