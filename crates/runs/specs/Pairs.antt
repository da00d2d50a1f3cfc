-- Two traces whose elements pair up, and whose dependent elements come in the same order, for any dependence: document 01, "Crossed messages".
use Rattle.std.specs.Prelude.{◌≡◌, List, ℕ, ◌<◌, length, get_or}

-- "Partners are accepted events with the same 20 bytes, one in each run; each accepted event has exactly one partner."
-- What pairs up (events in the crate meaning, their records in the crate calls) is counted from 0; d is a default that is never used.
pub record Pairing {A : Type 0} (d : A) (t u : List A) : Type 0 where
  pub to : ℕ → ℕ
  pub back : ℕ → ℕ
  pub to_inside : (i : ℕ) → i < length t → to i < length u
  pub back_inside : (j : ℕ) → j < length u → back j < length t
  pub back_to : (i : ℕ) → i < length t → back (to i) ≡ i
  pub to_back : (j : ℕ) → j < length u → to (back j) ≡ j
  pub same : (i : ℕ) → i < length t → get_or u (to i) d ≡ get_or t i d

-- demand 3: "dependent ones in the same order"
pub record OrderKept {A : Type 0} (d : A) (Depends : A → A → Type 0) (t u : List A) (pairs : Pairing d t u) : Type 0 where
  pub keeps : (i j : ℕ) → i < j → j < length t → Depends (get_or t i d) (get_or t j d) → pairs.to i < pairs.to j
