-- What the pure step of an event hands on. No public contract and no theorem cites this page: a buyer may pass it over.
use Rattle.std.specs.Prelude.{◌≡◌, Result, Ok, Err, false, not, List, [], ◌∷◌, map, ℕ, ◌+◌, ◌≤◌, ◌<◌, eqb, length, take}
use Rattle.laws.specs.Checks.{Check, first_failing}
use Rattle.meaning.specs.Events as Events
use Rattle.meaning.specs.Room.{held_limit}
use Rattle.meaning.specs.Rows.{row_limit}
use Rattle.meaning.specs.Sound.{event_limit}
use Rattle.meaning.specs.Wide.{wide_valuation}
use Rattle.packed.specs.Held.{held_in}
use Rattle.rows.specs.Valuations.{valuations_in}
use Rattle.book.specs.declared.Book.{Book}
use Rattle.state.specs.declared.State.{State}
use Rattle.state.specs.States.{state_of}
use Rattle.calls.specs.declared.EventAnswer.{EventAnswer}
use Rattle.calls.specs.declared.EventAnswer.TheVariants.{Accepted, Unsound, TooMany, NoRoom}
use Rattle.calls.specs.Calls.{is_accepted, rows_by, state_by, leaves_free_by, room_by}
use Rattle.transition.specs.declared.Stepped.{Stepped}

module _ (b : Book) (s : State) (e : Events.Event) where
  -- the checks that are left where book and state are sound and the event is decoded, before the buffer is looked at
  abbrev pub judgements : List (Check EventAnswer)
  judgements =
      record { fails = leaves_free_by b s e; answer = Unsound }
      ∷ record { fails = eqb s.number event_limit; answer = TooMany }
      ∷ record { fails = not (room_by b s e); answer = NoRoom }
      ∷ []

  -- what the pure step leaves on acceptance: words that hold the new labels, of which the next state is stored, and words that begin with the rows'
  -- valuations; how many of each
  pub record Moved (r : Stepped) (at next out : List ℕ) : Type 0 where
    pub below : s.number < event_limit
    pub room : r.held ≤ held_limit
    pub after : state_of (record { number = s.number + 1; held = held_in r.held at next }) ≡ state_by b s e
    pub counted : r.rows ≡ length (rows_by b s e)
    pub few : r.rows ≤ row_limit
    pub listed : take r.rows (valuations_in out) ≡ map wide_valuation (rows_by b s e)

  -- what it gives by a list of checks: where none fails that; else the answer of the first that fails, which is none of acceptance
  abbrev pub Decided : List (Check EventAnswer) → Result Stepped EventAnswer → (at next out : List ℕ) → Type 0
  Decided checks (Ok r) at next out = (Accepted ≡ first_failing Accepted checks) × Moved r at next out
  Decided checks (Err a) at next out = (a ≡ first_failing Accepted checks) × (is_accepted a ≡ false)
