-- Runs on plain data, their trace and their rows, and what demands 2 and 3 say of them: document 01, "Crossed messages". An instance of the runs
-- of any machine (crate runs), and a step to the runs of the crate calls, which are lists of event calls over bytes. Theorems: crate automaton,
-- Listed and Crossed.
use Rattle.std.specs.Prelude.{◌≡◌, Bool, true, cond, ◌↔◌, ℕ, ◌<◌}
use mathlib.Core.List.{List, Memᴰ}
use Rattle.laws.specs.Order.{ascending}
use Rattle.runs.specs.Runs.{Machine, results_from, state_from, Along, trace_by}
use Rattle.runs.specs.Pairs.{Pairing, OrderKept}
use Rattle.meaning.specs.Events.{Event, Valuation, well_formed, is_valuation, concerns}
use Rattle.meaning.specs.Meaning.{Tracematch, Row}
use Rattle.meaning.specs.Book.{Book, book_of}
use Rattle.meaning.specs.Labels.{Held, State, fresh, next, new_held}
use Rattle.meaning.specs.Room.{room}
use Rattle.meaning.specs.Sound.{event_limit}
use Rattle.meaning.specs.Rows.{rows, compare_valuations}

-- one call of a run: an event, and whether it was accepted. A refusal may have any reason, lack of room among them.
pub data Call : Type 0 where
  event : (e : Event) (accepted : Bool) → Call

-- the event that a call sent, and whether it was accepted
abbrev pub sent_event : Call → Event
sent_event (event e accepted) = e

abbrev pub was_taken : Call → Bool
was_taken (event e accepted) = accepted

-- "the accepted ones in order are the run's trace"
abbrev pub trace_of : List Call → List Event
trace_of cs = trace_by was_taken sent_event cs

-- what a call hands back: the call itself, what its event gives, and the state behind it
pub record PlainResult (S R : Type 0) : Type 0 where
  pub call : Call
  pub gave : R
  pub state : S

-- an accepted event moves the state, a refused one leaves it
abbrev pub plain_machine : {S R : Type 0} → (step : S → Event → S) (give : S → Event → R) → Machine S Call (PlainResult S R)
plain_machine step give =
    record {
      gives = λ s c. record { call = c; gave = give s (sent_event c); state = cond (was_taken c) (step s (sent_event c)) s };
      leaves = λ r. r.state;
    }

-- the state after the calls
abbrev pub run : {S : Type 0} → (step : S → Event → S) → S → List Call → S
run step s cs = state_from (plain_machine step (λ s e. e)) s cs

-- what each accepted event gave, in order
abbrev pub given : {S R : Type 0} → (step : S → Event → S) (give : S → Event → R) → S → List Call → List R
given step give s cs = trace_by (λ r. was_taken r.call) (λ r. r.gave) (results_from (plain_machine step give) s cs)

-- the state after a run "from the fresh state", what it holds, and the row lists of its accepted events in order
abbrev pub state_after : Tracematch → List Call → State
state_after tm cs = run (next (book_of tm)) fresh cs

-- what is held then
abbrev pub held_after : Tracematch → List Call → List Held
held_after tm cs = run (new_held (book_of tm)) fresh.held cs

-- the row lists, one for each accepted event
abbrev pub row_lists : Tracematch → List Call → List (List Valuation)
row_lists tm cs = given (new_held (book_of tm)) (rows (book_of tm)) fresh.held cs

-- a well-formed event, below the limit of their number, for which there is room: answers 10, 11 and 12 refuse the others
pub record Admissible (b : Book) (s : State) (e : Event) : Type 0 where
  pub formed : well_formed e ≡ true
  pub below : s.number < event_limit
  pub roomy : room b s.held e ≡ true

-- a run that accepts only such events
abbrev pub OrderlyFrom : Book → State → List Call → Type 0
OrderlyFrom b s cs = Along (plain_machine (next b) (λ s e. e)) (λ s c. was_taken c ≡ true → Admissible b s (sent_event c)) s cs

-- such a run from the fresh state
abbrev pub Orderly : Book → List Call → Type 0
Orderly b cs = OrderlyFrom b fresh cs

-- Demand 2: l is, "once each and in order, the valuations" that are a row after event number n of the trace t
pub record Listed (tm : Tracematch) (t : List Event) (n : ℕ) (l : List Valuation) : Type 0 where
  pub ordered : ascending compare_valuations l ≡ true
  pub exact : (σ : Valuation) → Memᴰ σ l ↔ Row tm t n σ

-- "Two events concern a common valuation if some one valuation is concerned by both."
pub record Dependent (tm : Tracematch) (e f : Event) : Type 0 where
  pub common : Valuation
  pub valuation : is_valuation tm.variables common ≡ true
  pub first : concerns tm.symbols e common ≡ true
  pub second : concerns tm.symbols f common ≡ true

-- demand 3: "dependent ones in the same order"; `holding` is the event that an element holds
abbrev pub Ordered : {A : Type 0} → (d : A) (holding : A → Event) (tm : Tracematch) (t u : List A) → Pairing d t u → Type 0
Ordered d holding tm t u pairs = OrderKept d (λ x y. Dependent tm (holding x) (holding y)) t u pairs
