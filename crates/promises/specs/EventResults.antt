-- What is promised of the very results of `fresh`, `event` and `count`, whatever their contracts call it: the functions of the crate handed have
-- these for contracts, `event_decided` says that they leave one result, and `results` that lists of such results keep the demands. For the buyer.
use Rattle.std.specs.Prelude.{◌≡◌, true, false, List, [], map, ◌↔◌, ℕ, suc, ◌+◌, ◌-◌, ◌*◌, ◌^◌, ◌≤◌, ◌<◌, length, get_or, take, replicate}
use Rattle.laws.specs.Lists.{gather}
use Rattle.laws.specs.Parts.{splice}
use Rattle.runs.specs.Runs.{Chain, Within}
use Rattle.meaning.specs.Events.{Event, Valuation}
use Rattle.meaning.specs.Meaning.{Tracematch}
use Rattle.meaning.specs.Labels.{new_held}
use Rattle.meaning.specs.Rows.{rows}
use Rattle.meaning.specs.Runs.{Listed, Ordered}
use Rattle.form.specs.Text.{Bytes, is_bytes}
use Rattle.record.specs.Records.{event_in}
use Rattle.book.specs.declared.Book.{Book}
use Rattle.book.specs.Books.{view_book}
use Rattle.state.specs.declared.State.{State}
use Rattle.state.specs.States.{state_of, held_first}
use Rattle.row.specs.RowBytes.{row_bytes}
use Rattle.tally.specs.declared.Tally.{Tally}
use Rattle.calls.specs.declared.EventAnswer.{EventAnswer}
use Rattle.calls.specs.declared.EventAnswer.TheVariants.{Accepted, Unsound, OutOfForm, TooMany, NoRoom, NoSpace}
use Rattle.calls.specs.declared.Taken.{Taken}
use Rattle.calls.specs.Answers.{number_of}
use Rattle.calls.specs.Checks.{FirstFailing}
use Rattle.calls.specs.Runs.{Made, accepted_in, records_of, Judged, Partners}
use Rattle.promises.specs.Formats.{InRecord, event_of_bytes, RowsIn}

-- n is the number, and p the place, of an event's answer: the table of "What a call hands back", 0 and 9 to 13
pub record EventTold (a : EventAnswer) (n p : ℕ) : Type 0 where
  pub accepted : a ≡ Accepted → n ≡ 0
  pub unsound : a ≡ Unsound → n ≡ 9
  pub out_of_form : a ≡ OutOfForm → n ≡ 10
  pub too_many : a ≡ TooMany → n ≡ 11
  pub no_room : a ≡ NoRoom → n ≡ 12
  pub no_space : a ≡ NoSpace → n ≡ 13
  pub place : p ≡ 0

-- "A fresh state has all 128 disjunct places free and event number 0."
abbrev pub state_of_nothing : State
state_of_nothing =
    record {
      number = 0;
      count = 0;
      positions = replicate 128 0;
      pool = replicate 128 (record { vars = replicate 4 (record { bound = false; value = 0; count = 0; excluded = replicate 6 0 }) });
    }

-- y is the counter x with n more: "a counter stops at the largest 64-bit value"
pub record Risen (x n y : ℕ) : Type 0 where
  pub below : x + n < 2 ^ 64 → y ≡ x + n
  pub above : 2 ^ 64 ≤ x + n → y ≡ 2 ^ 64 - 1

-- u is the tally t with so many more accepted events, refused events and rows
pub record TallyRises (t : Tally) (a f r : ℕ) (u : Tally) : Type 0 where
  pub accepted : Risen t.accepted a u.accepted
  pub refused : Risen t.refused f u.refused
  pub rows : Risen t.rows r u.rows

-- r is what `event` hands back, and `after` what it leaves in the lent buffer
pub record EventGives (b : Book) (s : State) (bytes buffer : Bytes) (place : ℕ) (t : Tally) (r : Taken) (after : Bytes) : Type 0 where
  pub lent : is_bytes bytes ≡ true
  -- "Events: 9 to 13 in that order"
  pub first : FirstFailing b s bytes buffer place (number_of r.answer)
  pub book : r.book ≡ b
  -- "all unchanged"; "Answers 9 to 13 to an event add one refused and leave the other two"
  pub refused : (number_of r.answer ≡ 0 → ⊥) → (r.state ≡ s) × (r.rows ≡ 0) × (after ≡ buffer) × TallyRises t 0 1 0 r.tally
  -- the next state, the rows from the place on, each with the event's number, and nothing else in the buffer; one accepted event and these rows more
  pub accepted : number_of r.answer ≡ 0
      → let held = held_first b.variables s in
      let l = rows (view_book b) held (event_in bytes) in
      (r.state ≡ state_of (record { number = suc s.number; held = new_held (view_book b) held (event_in bytes) })) × (r.rows ≡ length l)
      × (after ≡ splice place (gather (row_bytes (suc s.number) b.variables) l) buffer) × TallyRises t 1 0 (length l) r.tally

-- event calls over one book, one behind the other from the state s: "Each call gets the state that the call before it returned or left"
abbrev pub Series : Book → State → List Made → Type 0
Series b s ms =
    Chain (λ s m. EventGives b s m.lent.bytes m.lent.buffer m.lent.place m.lent.tally m.taken m.buffer) (λ m. m.taken.state) s ms

-- the events of the accepted calls, from the bytes that were lent
abbrev pub trace_in : List Made → List Event
trace_in ms = map event_of_bytes (records_of ms)

-- demand 2 for one accepted call, the n-th of the trace t: its rows, byte by byte, are the valuations of the declarative meaning, "once each and in
-- order"; all else in the buffer is as lent; one accepted event and these rows are tallied
pub record RowsKept (tm : Tracematch) (t : List Event) (n : ℕ) (m : Made) : Type 0 where
  pub valuations : List Valuation
  pub meant : Listed tm t n valuations
  pub counted : m.taken.rows ≡ length valuations
  pub written : RowsIn m.lent.buffer m.buffer m.lent.place n tm.variables valuations
  pub tallies : TallyRises m.lent.tally 1 0 (length valuations) m.taken.tally
  pub numbered : m.taken.state.number ≡ n

-- demand 3 for partners: "the same row count, and bytes 4 to 23 of their rows are equal, first row to last, as each call left them"
pub record RowsAlike (m n : Made) : Type 0 where
  pub counts : m.taken.rows ≡ n.taken.rows
  pub bytes : (j : ℕ) → j < m.taken.rows → (k : ℕ) → 4 ≤ k → k < 24
      → get_or m.buffer (m.lent.place + 24 * j + k) 0 ≡ get_or n.buffer (n.lent.place + 24 * j + k) 0

-- the demands, of the results of any event calls over a book, one behind the other from the fresh state
pub record ResultsKeep (tm : Tracematch) (b : Book) : Type 0 where
  -- demand 2: the rows of each accepted call
  pub rows : (ms : List Made) → Series b state_of_nothing ms → (i : ℕ) (m : Made) → Within (accepted_in ms) i m → RowsKept tm (trace_in ms) (suc i) m
  -- the answer to each call: 10, 11, 12, 13 or 0 by the stated rules, and never 9
  pub answers : (ms : List Made) → Series b state_of_nothing ms → (k : ℕ) (m : Made) → Within ms k m
      → Judged tm (trace_in (take k ms)) m.lent (number_of m.taken.answer)
  pub ten : (ms : List Made) → Series b state_of_nothing ms → (k : ℕ) (m : Made) → Within ms k m
      → (number_of m.taken.answer ≡ 10) ↔ (InRecord m.lent.bytes → ⊥)
  -- demand 3: one claim about two whole lists of calls; "the rows are those of demand 2 over the trace of each one's own run"
  pub crossed : (xs ys : List Made) → Series b state_of_nothing xs → Series b state_of_nothing ys
      → (p : Partners (records_of xs) (records_of ys)) → Ordered [] event_of_bytes tm (records_of xs) (records_of ys) p
      → (i : ℕ) (m n : Made) → Within (accepted_in xs) i m → Within (accepted_in ys) (p.to i) n
      → RowsKept tm (trace_in xs) (suc i) m × RowsKept tm (trace_in ys) (suc (p.to i)) n × RowsAlike m n
