-- One event call, decided whole, for any book, state, record, buffer, place and tally, however filled: the answer, and all that is
-- handed back or left. The contract of `event` repeats it; the theorems of the crate demands are about it.
use Rattle.std.specs.Prelude.{Bool, true, false, cond, not, ◌&&◌, ◌||◌, List, [], ◌∷◌, ◌++◌, ℕ, suc, ◌+◌, ◌*◌, eqb, ltb, length}
use Rattle.laws.specs.Checks.{Check, first_failing}
use Rattle.laws.specs.Lists.{gather}
use Rattle.laws.specs.Parts.{splice}
use Rattle.meaning.specs.Events as Events
use Rattle.meaning.specs.Labels as Labels
use Rattle.meaning.specs.Room.{room}
use Rattle.meaning.specs.Rows.{rows, leaves_free}
use Rattle.meaning.specs.Sound.{event_limit}
use Rattle.form.specs.Text.{Bytes}
use Rattle.record.specs.Records.{is_record, event_in}
use Rattle.book.specs.declared.Book.{Book}
use Rattle.book.specs.Books.{view_book}
use Rattle.state.specs.declared.State.{State}
use Rattle.state.specs.States.{state_of, held_first, view_state}
use Rattle.sound.specs.Soundness.{book_sound, state_sound}
use Rattle.row.specs.RowBytes.{row_size, row_bytes}
use Rattle.tally.specs.declared.Tally.{Tally}
use Rattle.tally.specs.Tallies.{tallied}
use Rattle.calls.specs.declared.EventAnswer.{EventAnswer}
use Rattle.calls.specs.declared.EventAnswer.TheVariants.{Accepted, Unsound, OutOfForm, TooMany, NoRoom, NoSpace}
use Rattle.calls.specs.declared.Taken.{Taken}

-- "A fresh state has all 128 disjunct places free and event number 0."
unfoldable pub fresh_state : State
fresh_state = state_of Labels.fresh

-- "An event is accepted where its call answers 0"
abbrev pub is_accepted : EventAnswer → Bool
is_accepted Accepted = true
is_accepted Unsound = false
is_accepted OutOfForm = false
is_accepted TooMany = false
is_accepted NoRoom = false
is_accepted NoSpace = false

-- what an event does with a book in a state: the rows, and the state after it
module _ (b : Book) (s : State) (e : Events.Event) where
  unfoldable pub rows_by : List Events.Valuation
  rows_by = rows (view_book b) (held_first b.variables s) e

  unfoldable pub state_by : State
  state_by = state_of (Labels.next (view_book b) (view_state b.variables s) e)

  unfoldable pub leaves_free_by : Bool
  leaves_free_by = leaves_free (view_book b) (held_first b.variables s) e

  unfoldable pub room_by : Bool
  room_by = room (view_book b) (held_first b.variables s) e

-- the checks of document 01's table, 9 to 13
module _ (b : Book) (s : State) (record_bytes : Bytes) where
  -- 9: "unsound book or state"; "9 also covers a row that would leave a variable free"
  unfoldable pub unsound : Bool
  unsound = not (book_sound b && state_sound b s) || is_record record_bytes && leaves_free_by b s (event_in record_bytes)

  -- 10: "event record out of form, or not 20 bytes"
  unfoldable pub out_of_form : Bool
  out_of_form = not (is_record record_bytes)

  -- 11: "1,000,000 events already accepted"
  unfoldable pub too_many : Bool
  too_many = eqb s.number event_limit

  -- 12: "no room"
  unfoldable pub no_room : Bool
  no_room = not (room_by b s (event_in record_bytes))

  -- the checks that do not look at what is lent for the rows
  abbrev pub decisions : List (Check EventAnswer)
  decisions =
      record { fails = unsound; answer = Unsound }
      ∷ record { fails = out_of_form; answer = OutOfForm }
      ∷ record { fails = too_many; answer = TooMany }
      ∷ record { fails = no_room; answer = NoRoom }
      ∷ []

  module _ (buffer : Bytes) (place : ℕ) where
    -- 13: "row buffer too short, or start place beyond it"
    unfoldable pub no_space : Bool
    no_space = ltb (length buffer) (place + row_size * length (rows_by b s (event_in record_bytes)))

    unfoldable pub answer_to : EventAnswer
    answer_to = first_failing Accepted (decisions ++ (record { fails = no_space; answer = NoSpace } ∷ []))

    -- all that the call hands back: on acceptance the next state, the count of its rows and a tally of one accepted event and those
    -- rows more; on refusal the state as it came and one refused event more
    unfoldable pub taken : Tally → Taken
    taken t =
        let n = length (rows_by b s (event_in record_bytes)) in
        let accepted : Taken = record { answer = answer_to; rows = n; book = b; state = state_by b s (event_in record_bytes); tally = tallied t 1 0 n } in
        let refused : Taken = record { answer = answer_to; rows = 0; book = b; state = s; tally = tallied t 0 1 0 } in
        cond (is_accepted answer_to) accepted refused

    -- what it leaves in the lent buffer: "Rows go into the lent buffer from a given place on; bytes before that place and after the
    -- last row stay"; on refusal all stays
    unfoldable pub buffer_after : Bytes
    buffer_after =
        let written = splice place (gather (row_bytes (suc s.number) b.variables) (rows_by b s (event_in record_bytes))) buffer in
        cond (is_accepted answer_to) written buffer
