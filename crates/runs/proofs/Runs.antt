-- Laws of runs: each result is that of its call in the state behind those before it, what every call keeps holds in every state, and one machine
-- follows another call by call.
use mathlib.Core.Path.{◌≡◌, refl, sym, ap, ap₂, subst, ◌∙◌}
use mathlib.Core.Bool.{Bool, true, ◌&&◌}
use mathlib.Core.List.{List, [], ◌∷◌, ◌++◌, map, Memᴰ}
use Prim.Native.Nat.{ℕ, zero, suc, ◌<◌, suc-le-suc}
use native.Mathlib.Nat.{not-suc-le-zero, le_of_suc-le-suc}
use native.Mathlib.Omega.{arith}
use lib.ListN.{length, take, get_or, length-map}
use Rattle.laws.specs.Lists.{all}
use Rattle.laws.proofs.Lists.{mem_get_or, mem_index}
use Rattle.runs.specs.Runs.{Machine, results_from, state_from, Along, no_call, next_call, Chain, no_result, next_result, behind_trace, Within}

-- the state behind one trace and then another
pub trace_more : {S E : Type 0} (step : S → E → S) (s : S) (t u : List E) → behind_trace step s (t ++ u) ≡ behind_trace step (behind_trace step s t) u
trace_more step s [] u = refl
trace_more step s (e ∷ t) u = trace_more step (step s e) t u

-- elements of a list and of its rest
pub within_head : {A : Type 0} {x y : A} {l : List A} → Within (x ∷ l) 0 y → y ≡ x
within_head {x = x} w = sym (w.at x)

pub within_tail : {A : Type 0} {x y : A} {l : List A} {i : ℕ} → Within (x ∷ l) (suc i) y → Within l i y
within_tail w = record { inside = le_of_suc-le-suc w.inside; at = w.at }

pub within_more : {A : Type 0} {y : A} {l : List A} {i : ℕ} (x : A) → Within l i y → Within (x ∷ l) (suc i) y
within_more x w = record { inside = suc-le-suc w.inside; at = w.at }

pub within_none : {A : Type 0} {x : A} {i : ℕ} → Within [] i x → ⊥
within_none w = not-suc-le-zero w.inside

-- the element in a place, which is one
pub within_at : {A : Type 0} (l : List A) (i : ℕ) → i < length l → (x : A) × Within l i x
within_at [] i h = absurd (not-suc-le-zero h)
within_at (x ∷ l) zero h = (x, record { inside = h; at = λ d. refl })
within_at (x ∷ l) (suc i) h = let (y, w) = within_at l i (le_of_suc-le-suc h) in (y, within_more x w)

pub within_one : {A : Type 0} {l : List A} {i : ℕ} {x y : A} → Within l i x → Within l i y → x ≡ y
within_one {x = x} v w = sym (v.at x) ∙ w.at x

pub within_map : {A B : Type 0} (f : A → B) {l : List A} {i : ℕ} {x : A} → Within l i x → Within (map f l) i (f x)
within_map {A} {B} f {l} {i} {x} w = record { inside = rw length-map w.inside; at = go l i w.inside w.at }
  where
    go : (l : List A) (i : ℕ) → i < length l → ((d : A) → get_or l i d ≡ x) → (d : B) → get_or (map f l) i d ≡ f x
    go [] i h e d = absurd (not-suc-le-zero h)
    go (y ∷ l) zero h e d = ap f (e y)
    go (y ∷ l) (suc i) h e d = go l i (le_of_suc-le-suc h) e d

pub within_mem : {A : Type 0} {l : List A} {i : ℕ} {x : A} → Within l i x → Memᴰ x l
within_mem {l = l} {i = i} {x = x} w = rw (w.at x) at (mem_get_or l i x w.inside)

pub mem_within : {A : Type 0} {l : List A} {x : A} → Memᴰ x l → (i : ℕ) × Within l i x
mem_within {l = l} {x = x} m =
    let (i, h, e) = mem_index x m in
    let (y, w) = within_at l i h in
    (i, subst (Within l i) (sym (w.at x) ∙ e) w)

module _ {S C R : Type 0} (m : Machine S C R) where
  -- a result for each call
  pub results_length : (s : S) (cs : List C) → length (results_from m s cs) ≡ length cs
  results_length s [] = refl
  results_length s (c ∷ cs) = ap suc (results_length (m.leaves (m.gives s c)) cs)

  -- the first results are those of the first calls
  pub results_take : (s : S) (k : ℕ) (cs : List C) → take k (results_from m s cs) ≡ results_from m s (take k cs)
  results_take s zero cs = refl
  results_take s (suc k) [] = refl
  results_take s (suc k) (c ∷ cs) = let r = m.gives s c in ap (r ∷◌) (results_take (m.leaves r) k cs)

  -- the result in a place is that of the call there, in the state behind the calls before it
  pub result_at : (s : S) (cs : List C) (k : ℕ) (r : R) → Within (results_from m s cs) k r
      → (c : C) × Within cs k c × (r ≡ m.gives (state_from m s (take k cs)) c)
  result_at s [] k r w = absurd (within_none w)
  result_at s (c ∷ cs) zero r w = (c, record { inside = omega arith; at = λ d. refl }, within_head w)
  result_at s (c ∷ cs) (suc k) r w =
      let (d, v, e) = result_at (m.leaves (m.gives s c)) cs k r (within_tail w) in (d, within_more c v, e)

  -- and each call has it
  pub result_there : (s : S) (cs : List C) (k : ℕ) (c : C) → Within cs k c → Within (results_from m s cs) k (m.gives (state_from m s (take k cs)) c)
  result_there s cs k c w =
      let (r, v) = within_at (results_from m s cs) k (rw (results_length s cs) w.inside) in
      let (d, u, e) = result_at s cs k r v in
      rw (within_one w u, ← e) v

  -- what is true of each call by itself is true along the calls
  pub along_each : {P : S → C → Type 0} (s : S) (cs : List C) → ((t : S) (c : C) → Memᴰ c cs → P t c) → Along m P s cs
  along_each s [] h = no_call
  along_each s (c ∷ cs) h = next_call (h s c (Memᴰ.head refl)) (along_each (m.leaves (m.gives s c)) cs (λ t d n. h t d (Memᴰ.tail n)))

  -- what every call keeps holds behind them
  pub kept_along : (I : S → Type 0) {P : S → C → Type 0} → ((s : S) → I s → (c : C) → P s c → I (m.leaves (m.gives s c)))
      → {s : S} {cs : List C} → I s → Along m P s cs → I (state_from m s cs)
  kept_along I keeps i no_call = i
  kept_along I keeps {s} i (next_call {c = c} p a) = kept_along I keeps (keeps s i c p) a

-- One machine follows another: the results of the first are calls of the second, and every call keeps the states alike.
pub followed : {S C R T D Q : Type 0} (m : Machine S C R) (k : Machine T D Q) (to : R → D) (Like : S → T → Type 0) {P : C → Type 0}
    → ((s : S) (t : T) → Like s t → (c : C) → P c → let r = m.gives s c in Like (m.leaves r) (k.leaves (k.gives t (to r))))
    → (s : S) (t : T) → Like s t → (cs : List C) → ((c : C) → Memᴰ c cs → P c)
    → Like (state_from m s cs) (state_from k t (map to (results_from m s cs)))
followed m k to Like keeps s t h [] p = h
followed m k to Like keeps s t h (c ∷ cs) p =
    followed m k to Like keeps _ _ (keeps s t h c (p c (Memᴰ.head refl))) cs (λ d n. p d (Memᴰ.tail n))

-- Results one behind the other, of which each is the machine's, are a run of it; and a run is such a chain.
module _ {S C R : Type 0} (m : Machine S C R) (P : S → R → Type 0) where
  pub chain_run : (to : R → C) → ((s : S) (r : R) → P s r → r ≡ m.gives s (to r)) → (s : S) (rs : List R) → Chain P m.leaves s rs
      → rs ≡ results_from m s (map to rs)
  chain_run to one s [] no_result = refl
  chain_run to one s (r ∷ rs) (next_result p c) =
      let e = one s r p in
      ap₂ ◌∷◌ e (chain_run to one (m.leaves r) rs c ∙ ap (λ q. results_from m (m.leaves q) (map to rs)) e)

  pub run_chain : (s : S) (cs : List C) → ((t : S) (c : C) → Memᴰ c cs → P t (m.gives t c)) → Chain P m.leaves s (results_from m s cs)
  run_chain s [] each = no_result
  run_chain s (c ∷ cs) each = next_result (each s c (Memᴰ.head refl)) (run_chain (m.leaves (m.gives s c)) cs (λ t d n. each t d (Memᴰ.tail n)))

-- what each tells is true of all
pub chain_all : {S R : Type 0} {P : S → R → Type 0} {leaves : R → S} (f : R → Bool) → ((s : S) (r : R) → P s r → f r ≡ true)
    → {s : S} {rs : List R} → Chain P leaves s rs → all f rs ≡ true
chain_all f each no_result = refl
chain_all f each {s} (next_result {r = r} p c) = ap₂ ◌&&◌ (each s r p) (chain_all f each c)
