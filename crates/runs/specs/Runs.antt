-- Runs of any machine: document 01, "Crossed messages". Calls of any kinds come one behind the other, and some of them are accepted events. The
-- plain runs of the crate meaning and the runs of event calls of the crate calls are instances.
use Rattle.std.specs.Prelude.{◌≡◌, Bool, List, [], ◌∷◌, map, ℕ, ◌<◌, length, get_or}
use Rattle.laws.specs.Lists.{keep}

-- the state behind the events of a trace
abbrev pub behind_trace : {S E : Type 0} → (S → E → S) → S → List E → S
behind_trace step s [] = s
behind_trace step s (e ∷ t) = behind_trace step (step s e) t

-- states, calls, and results: what a call hands back in a state, and the state that is in it, "returned or left"
pub record Machine (S C R : Type 0) : Type 0 where
  pub gives : S → C → R
  pub leaves : R → S

module _ {S C R : Type 0} (machine : Machine S C R) where
  -- "Each call gets the state that the call before it returned or left (after a refusal, the same one)."
  abbrev pub results_from : S → List C → List R
  results_from s [] = []
  results_from s (c ∷ cs) = let r = machine.gives s c in r ∷ results_from (machine.leaves r) cs

  -- the state behind the calls
  abbrev pub state_from : S → List C → S
  state_from s cs = behind_trace (λ t c. machine.leaves (machine.gives t c)) s cs

  -- of each call, in the state that it gets, P is true
  pub data Along (P : S → C → Type 0) : S → List C → Type 0 where
    no_call : {s : S} → Along P s []
    next_call : {s : S} {c : C} {cs : List C} → P s c → Along P (machine.leaves (machine.gives s c)) cs → Along P s (c ∷ cs)

-- results one behind the other, where no machine is known: of each, in the state that it met, P is true
pub data Chain {S R : Type 0} (P : S → R → Type 0) (leaves : R → S) : S → List R → Type 0 where
  no_result : {s : S} → Chain P leaves s []
  next_result : {s : S} {r : R} {rs : List R} → P s r → Chain P leaves (leaves r) rs → Chain P leaves s (r ∷ rs)

-- "the accepted ones in order are the run's trace": the events of what is accepted, be it calls or results
abbrev pub trace_by : {R E : Type 0} → (accepts : R → Bool) (event : R → E) → List R → List E
trace_by accepts event rs = map event (keep accepts rs)

-- x is element number i of the list, from 0; d is a default that is never used
pub record Within {A : Type 0} (l : List A) (i : ℕ) (x : A) : Type 0 where
  pub inside : i < length l
  pub at : (d : A) → get_or l i d ≡ x
