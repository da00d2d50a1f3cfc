-- The declarative meaning of a tracematch: demand 2 (README.md); source document 000, sections 4.1 to 4.3.
-- This page is what a buyer must believe. It mentions no automaton, label or room.
use Rattle.std.specs.Prelude.{◌≡◌, true, List, [], ◌∷◌, ℕ, ◌-◌, ◌≤◌, ◌<◌, length, take, drop, get_or}
use Rattle.laws.specs.Lists.{keep}
use Rattle.pattern.specs.Regex.{Regex, In}
use Rattle.meaning.specs.Events.{Symbol, Event, Valuation, is_valuation, holds, concerns}

-- 000, 4.2: "a list of variables, a list of symbols, a pattern". Variables and symbols are numbers from 0, by
-- declaration. Document 01 calls it a book.
pub record Tracematch : Type 0 where
  pub variables : ℕ
  pub symbols : List Symbol
  pub pattern : Regex

-- no event and no symbol, for places that hold none
abbrev pub no_symbol : Symbol
no_symbol = record { kind = 0; parameters = [] }

-- the same for events
abbrev pub no_event : Event
no_event = record { kind = 0; args = [] }

module _ (tm : Tracematch) (σ : Valuation) where
  -- 000, 4.3, "Filtering": the events "that are matched by some defined symbol in tm, with variable bindings compatible
  -- with the valuation"; demand 2: the stretch "reduced to those that concern the valuation"
  abbrev pub concerning : List Event → List Event
  concerning t = keep (λ e. concerns tm.symbols e σ) t

  -- 000, 4.3, "Matching a trace to a word": as many symbols as events, and each symbol's constraint on its event holds.
  -- Document 01: "When several hold, each choice gives a reading of the trace (document 004)."
  pub data Reading : List Event → List ℕ → Type 0 where
    nothing : Reading [] []
    next : {e : Event} {es : List Event} {a : ℕ} {w : List ℕ} → a < length tm.symbols
        → holds (get_or tm.symbols a no_symbol) e σ ≡ true → Reading es w → Reading (e ∷ es) (a ∷ w)

-- the events number first to number last of a trace, numbered from 1
abbrev pub stretch : List Event → (first last : ℕ) → List Event
stretch t first last = drop (first - 1) (take last t)

-- "A stretch is one or more neighbouring events of the trace." The one from event number `first` to event number
-- `last`, reduced to the events that concern σ, has a reading that is a word of the pattern.
pub record Match (tm : Tracematch) (t : List Event) (first last : ℕ) (σ : Valuation) : Type 0 where
  pub from : 1 ≤ first
  pub upto : first ≤ last
  pub inside : last ≤ length t
  pub word : List ℕ
  pub reading : Reading tm σ (concerning tm σ (stretch t first last)) word
  pub spoken : In tm.pattern word

-- Demand 2: after event number n of the trace t the valuation σ is a row. "the valuations that the event concerns and
-- for which some stretch of accepted events ending there … is a word of the pattern"; 000, 4.3: "last t ∈ S".
pub record Row (tm : Tracematch) (t : List Event) (n : ℕ) (σ : Valuation) : Type 0 where
  pub valuation : is_valuation tm.variables σ ≡ true
  pub concerned : concerns tm.symbols (get_or t (n - 1) no_event) σ ≡ true
  pub first : ℕ
  pub match : Match tm t first n σ
