-- Runs of event calls over one book from the fresh state, an instance of the runs of any machine (crate runs), and what demands 2 and 3 say of
-- them: document 01, "Crossed messages". The theorems are in the crate demands.
use Rattle.std.specs.Prelude.{◌≡◌, Bool, true, false, List, [], ◌∷◌, ◌++◌, map, ℕ, suc, ◌+◌, ◌-◌, ◌*◌, ◌≤◌, ◌<◌, length, take, drop}
use Rattle.laws.specs.Checks.{FirstToFail}
use Rattle.laws.specs.Lists.{all, keep, gather}
use Rattle.laws.specs.Parts.{splice}
use Rattle.runs.specs.Runs.{Machine, results_from, trace_by, behind_trace, Within}
use Rattle.runs.specs.Pairs.{Pairing}
use Rattle.meaning.specs.Events.{Event, Valuation}
use Rattle.meaning.specs.Meaning.{Tracematch}
use Rattle.meaning.specs.Book.{book_of}
use Rattle.meaning.specs.Labels.{Held, new_held}
use Rattle.meaning.specs.Room.{Broken}
use Rattle.meaning.specs.Sound.{event_limit}
use Rattle.meaning.specs.Runs.{Listed, Ordered}
use Rattle.form.specs.Text.{Bytes, is_bytes}
use Rattle.record.specs.Records.{is_record, event_in}
use Rattle.book.specs.declared.Book.{Book}
use Rattle.state.specs.declared.State.{State}
use Rattle.row.specs.RowBytes.{row_size, number_size, row_bytes}
use Rattle.tally.specs.declared.Tally.{Tally}
use Rattle.tally.specs.Tallies.{tallied}
use Rattle.calls.specs.Answers.{number_of, ten_to_thirteen}
use Rattle.calls.specs.Calls.{is_accepted, taken, buffer_after, fresh_state}
use Rattle.calls.specs.declared.EventAnswer.{EventAnswer}
use Rattle.calls.specs.declared.EventAnswer.TheVariants.{Accepted, Unsound, OutOfForm, TooMany, NoRoom, NoSpace}
use Rattle.calls.specs.declared.Taken.{Taken}

-- what the caller lends at one call: "Record, row buffer, start place and tally are whatever the caller lends at that call"
pub record Lent : Type 0 where
  pub bytes : Bytes
  pub buffer : Bytes
  pub place : ℕ
  pub tally : Tally

-- one call of a run
pub data Call : Type 0 where
  event : Lent → Call

-- what was lent at a call
abbrev pub lent_at : Call → Lent
lent_at (event l) = l

-- records are bytes, as any lent slice is
abbrev pub all_bytes : List Call → Bool
all_bytes cs = all (λ c. is_bytes (lent_at c).bytes) cs

-- a call that was made: what was lent, what it handed back, and what it left in the buffer
pub record Made : Type 0 where
  pub lent : Lent
  pub taken : Taken
  pub buffer : Bytes

-- the call in a state
unfoldable pub make : Book → State → Call → Made
make b s c =
    let l = lent_at c in
    record {
      lent = l;
      taken = taken b s l.bytes l.buffer l.place l.tally;
      buffer = buffer_after b s l.bytes l.buffer l.place;
    }

-- the watch over one book as a machine: what a call hands back has the state in it that the next one gets
abbrev pub watching : Book → Machine State Call Made
watching b = record { gives = make b; leaves = λ m. m.taken.state }

-- "Each call gets the state that the call before it returned or left (after a refusal, the same one)."
abbrev pub run_from : Book → State → List Call → List Made
run_from b s cs = results_from (watching b) s cs

-- "A run is a list of event calls with one read book …, from the fresh state."
abbrev pub run_of : Book → List Call → List Made
run_of b cs = run_from b fresh_state cs

-- "An event is accepted where its call answers 0"
abbrev pub was_accepted : Made → Bool
was_accepted m = is_accepted m.taken.answer

-- the accepted calls of a run, in order
abbrev pub accepted_in : List Made → List Made
accepted_in ms = keep was_accepted ms

-- "the accepted ones in order are the run's trace": their records, and the events that these hold
abbrev pub records_of : List Made → List Bytes
records_of ms = trace_by was_accepted (λ m. m.lent.bytes) ms

abbrev pub trace_of : List Made → List Event
trace_of ms = map event_in (records_of ms)

-- Demand 2 for one accepted call, the n-th of the trace t: its rows are "once each and in order, the valuations" of the declarative
-- meaning, each with the event's number, in the lent buffer from the lent place on; all else in the buffer is as lent; one accepted
-- event and these rows are tallied.
pub record Delivered (tm : Tracematch) (t : List Event) (n : ℕ) (m : Made) : Type 0 where
  pub valuations : List Valuation
  pub meant : Listed tm t n valuations
  pub counted : m.taken.rows ≡ length valuations
  pub fitting : m.lent.place + row_size * length valuations ≤ length m.lent.buffer
  pub written : m.buffer ≡ splice m.lent.place (gather (row_bytes n tm.variables) valuations) m.lent.buffer
  pub tallies : m.taken.tally ≡ tallied m.lent.tally 1 0 (length valuations)
  pub numbered : m.taken.state.number ≡ n

-- what the labels hold after the events of a trace
abbrev pub held_after : Tracematch → List Event → List Held
held_after tm t = behind_trace (new_held (book_of tm)) [] t

-- "row buffer too short, or start place beyond it": the rows of the event that follows the trace t do not fit from the place on
pub data TooShort (tm : Tracematch) (t : List Event) (e : Event) (buffer : Bytes) (place : ℕ) : Type 0 where
  beyond : length buffer < place → TooShort tm t e buffer place
  over : (l : List Valuation) → Listed tm (t ++ (e ∷ [])) (suc (length t)) l → place ≤ length buffer → length buffer - place < row_size * length l
      → TooShort tm t e buffer place

-- The checks of a call after the trace t of a read book, each by its answer: when it fails, and when it passes.
module _ (tm : Tracematch) (t : List Event) (l : Lent) where
  abbrev pub FailsAfter : EventAnswer → Type 0
  FailsAfter Accepted = ⊥
  FailsAfter Unsound = ⊥
  FailsAfter OutOfForm = is_record l.bytes ≡ false
  FailsAfter TooMany = length t ≡ event_limit
  FailsAfter NoRoom = Broken (book_of tm) (held_after tm t) (event_in l.bytes)
  FailsAfter NoSpace = TooShort tm t (event_in l.bytes) l.buffer l.place

  abbrev pub PassesAfter : EventAnswer → Type 0
  PassesAfter Accepted = FailsAfter Accepted → ⊥
  PassesAfter Unsound = FailsAfter Unsound → ⊥
  PassesAfter OutOfForm = is_record l.bytes ≡ true
  PassesAfter TooMany = length t < event_limit
  PassesAfter NoRoom = FailsAfter NoRoom → ⊥
  PassesAfter NoSpace = FailsAfter NoSpace → ⊥

  -- n is the number of the answer: "Events: 9 to 13 in that order", and never 9
  pub record Judged (n : ℕ) : Type 0 where
    pub first : FirstToFail FailsAfter PassesAfter number_of 0 ten_to_thirteen n

-- "Partners are accepted events with the same 20 bytes, one in each run; each accepted event has exactly one partner." Records of
-- the accepted calls, counted from 0.
abbrev pub Partners : (t u : List Bytes) → Type 0
Partners t u = Pairing [] t u

-- demand 3: "dependent ones in the same order"; dependent: "if some one valuation is concerned by both"
abbrev pub InOrder : (tm : Tracematch) (t u : List Bytes) → Partners t u → Type 0
InOrder tm t u p = Ordered [] event_in tm t u p

-- "bytes 4 to 23" of the row that begins at p: all of it but the event number
abbrev pub behind_number : ℕ → Bytes → Bytes
behind_number p buffer = take (row_size - number_size) (drop (p + number_size) buffer)

-- Demand 3 for partners, the n-th of the trace t and the k-th of the trace u: both have demand 2's rows, these are the same
-- valuations, and "bytes 4 to 23 of their rows are equal, first row to last, as each call left them".
pub record Alike (tm : Tracematch) (t u : List Event) (n k : ℕ) (a c : Made) : Type 0 where
  pub left : Delivered tm t n a
  pub right : Delivered tm u k c
  pub valuations : left.valuations ≡ right.valuations
  pub counts : a.taken.rows ≡ c.taken.rows
  pub bytes : (i : ℕ) → i < a.taken.rows
      → behind_number (a.lent.place + row_size * i) a.buffer ≡ behind_number (c.lent.place + row_size * i) c.buffer

-- Demand 3 as one claim about two whole runs: each accepted call of the first has a partner in the second, and the two are alike.
pub record Crossed (tm : Tracematch) (xs ys : List Made) (p : Partners (records_of xs) (records_of ys)) : Type 0 where
  pub first : (i : ℕ) → i < length (accepted_in xs) → Made
  pub partner : (i : ℕ) → i < length (accepted_in xs) → Made
  pub first_at : (i : ℕ) (h : i < length (accepted_in xs)) → Within (accepted_in xs) i (first i h)
  pub partner_at : (i : ℕ) (h : i < length (accepted_in xs)) → Within (accepted_in ys) (p.to i) (partner i h)
  pub alike : (i : ℕ) (h : i < length (accepted_in xs)) → Alike tm (trace_of xs) (trace_of ys) (suc i) (suc (p.to i)) (first i h) (partner i h)
