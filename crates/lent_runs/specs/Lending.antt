-- Runs of lent event calls over one block of book words, an instance of the runs of any machine (crate runs), and what the demands say of them: of the
-- numbers, words and bytes that the calls leave. The theorem `lent_demands` gives it for every text that `watch_read` accepts.
use Rattle.std.specs.Prelude.{◌≡◌, Bool, true, List, map, ℕ, suc, ◌+◌, ◌*◌, ◌≤◌, ◌<◌, eqb, length, get_or, take}
use Rattle.laws.specs.Lists.{all, keep, gather}
use Rattle.laws.specs.Parts.{splice}
use Rattle.runs.specs.Runs.{Machine, results_from, trace_by, Within}
use Rattle.pattern.specs.Regex.{Regex}
use Rattle.meaning.specs.Events.{Event, Valuation}
use Rattle.meaning.specs.Meaning.{Tracematch}
use Rattle.meaning.specs.Runs.{Listed}
use Rattle.form.specs.Text.{Bytes, is_bytes, Declarations, tracematch_of}
use Rattle.form.specs.Form.{Form}
use Rattle.record.specs.Records.{event_in}
use Rattle.row.specs.RowBytes.{row_size, row_bytes}
use Rattle.tally.specs.Tallies.{tallied}
use Rattle.calls.specs.Calls.{fresh_state}
use Rattle.calls.specs.Runs.{Lent, Judged, Partners, InOrder, behind_number}
use Rattle.blocks.specs.StateBlock.{state_words}
use Rattle.blocks.specs.TallyBlock.{tally_in, tally_words}
use Rattle.blocks.specs.Lent.{read_left, EventLeft, event_left}

-- what the caller lends at one call beside book and state: record, row buffer, place, and the tally's three words
pub record LentCall : Type 0 where
  pub bytes : Bytes
  pub buffer : Bytes
  pub place : ℕ
  pub tally : List ℕ

-- records are bytes, as any lent slice is
abbrev pub lent_bytes : List LentCall → Bool
lent_bytes cs = all (λ c. is_bytes c.bytes) cs

-- a call that was made: what was lent, and what it handed back and left
pub record LentMade : Type 0 where
  pub lent : LentCall
  pub left : EventLeft

-- the lent calls over one book's words as a machine: the state's words that a call leaves are those that the next one gets
abbrev pub lending : List ℕ → Machine (List ℕ) LentCall LentMade
lending w =
    record {
      gives = λ s c. record { lent = c; left = event_left w s c.bytes c.buffer c.place c.tally };
      leaves = λ m. m.left.state;
    }

-- a run over the book that `watch_read` left of the text, from the words that `watch_fresh` writes
abbrev pub lent_run : Bytes → List LentCall → List LentMade
lent_run text cs = results_from (lending (read_left text).book) (state_words fresh_state) cs

-- "An event is accepted where its call answers 0"
abbrev pub lent_taken : LentMade → Bool
lent_taken m = eqb m.left.number 0

abbrev pub lent_accepted : List LentMade → List LentMade
lent_accepted ms = keep lent_taken ms

-- "the accepted ones in order are the run's trace": their records, and the events that these hold
abbrev pub lent_records : List LentMade → List Bytes
lent_records ms = trace_by lent_taken (λ m. m.lent.bytes) ms

abbrev pub lent_trace : List LentMade → List Event
lent_trace ms = map event_in (lent_records ms)

-- what was lent, as the definitions of the crate calls have it: the tally's words as the counters that they are
abbrev pub lent_as : LentCall → Lent
lent_as c = record { bytes = c.bytes; buffer = c.buffer; place = c.place; tally = tally_in c.tally }

-- Demand 2 for one accepted call, the n-th of the trace t: its rows are "once each and in order, the valuations" of the declarative meaning, each with
-- the event's number, in the lent buffer from the lent place on; all else in the buffer is as lent; one accepted event and these rows are tallied; and
-- the state's second word is the event's number.
pub record LentDelivered (tm : Tracematch) (t : List Event) (n : ℕ) (m : LentMade) : Type 0 where
  pub valuations : List Valuation
  pub meant : Listed tm t n valuations
  pub counted : m.left.rows ≡ length valuations
  pub fitting : m.lent.place + row_size * length valuations ≤ length m.lent.buffer
  pub written : m.left.buffer ≡ splice m.lent.place (gather (row_bytes n tm.variables) valuations) m.lent.buffer
  pub tallies : m.left.tally ≡ tally_words (tallied (tally_in m.lent.tally) 1 0 (length valuations))
  pub numbered : get_or m.left.state 1 0 ≡ n

-- Demand 3 for partners, the n-th of the trace t and the k-th of the trace u
pub record LentAlike (tm : Tracematch) (t u : List Event) (n k : ℕ) (a c : LentMade) : Type 0 where
  pub left : LentDelivered tm t n a
  pub right : LentDelivered tm u k c
  pub valuations : left.valuations ≡ right.valuations
  pub counts : a.left.rows ≡ c.left.rows
  pub bytes : (i : ℕ) → i < a.left.rows
      → behind_number (a.lent.place + row_size * i) a.left.buffer ≡ behind_number (c.lent.place + row_size * i) c.left.buffer

-- All that is promised of the lent calls over a text that `watch_read` accepts.
pub record LentDemands (text : Bytes) (d : Declarations) (r : Regex) : Type 0 where
  pub form : Form text d r
  -- demand 2: the rows of each accepted call
  pub rows : (cs : List LentCall) → lent_bytes cs ≡ true → (i : ℕ) (m : LentMade) → Within (lent_accepted (lent_run text cs)) i m
      → LentDelivered (tracematch_of d r) (lent_trace (lent_run text cs)) (suc i) m
  -- the answer to each call: 10, 11, 12, 13 or 0 by the stated rules, and never 9
  pub answers : (cs : List LentCall) → lent_bytes cs ≡ true → (k : ℕ) (m : LentMade) → Within (lent_run text cs) k m
      → Judged (tracematch_of d r) (lent_trace (take k (lent_run text cs))) (lent_as m.lent) m.left.number
  -- demand 3: one claim about two whole lists of calls
  pub crossed : (xs ys : List LentCall) → lent_bytes xs ≡ true → lent_bytes ys ≡ true
      → (p : Partners (lent_records (lent_run text xs)) (lent_records (lent_run text ys)))
      → InOrder (tracematch_of d r) (lent_records (lent_run text xs)) (lent_records (lent_run text ys)) p
      → (i : ℕ) (a : LentMade) → Within (lent_accepted (lent_run text xs)) i a
      → (c : LentMade) × Within (lent_accepted (lent_run text ys)) (p.to i) c
      × LentAlike (tracematch_of d r) (lent_trace (lent_run text xs)) (lent_trace (lent_run text ys)) (suc i) (suc (p.to i)) a c
