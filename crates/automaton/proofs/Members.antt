-- What step sets, skip sets, new labels and rows hold, member by member, for any book, any held disjuncts and any event.
use mathlib.Core.Path.{◌≡◌, refl, ap, ap₂, ◌∙◌}
use mathlib.Core.Bool.{Bool, true, false, cond, false≢true}
use mathlib.Core.List.Memᴰ
use mathlib.Core.List.{List, [], ◌∷◌, ◌++◌, map, append-nil, map-append, Memᴰ}
use mathlib.Core.Logic.Iff
use mathlib.Core.Logic.{◌↔◌, ◌⊎◌, dite, ⊎_swap}
use Prim.Native.Nat.{ℕ, zero, suc, ◌+◌, ◌≤◌, ◌<◌}
use native.Mathlib.Decide.{ℕ_discrete}
use native.Mathlib.Omega.{arith}
use lib.ListN.{length}
use borrow.Author.Tests.{eq-eqb, ne_eqb}
use Rattle.laws.specs.Bits.{bit}
use Rattle.laws.specs.Lists.{keep, gather, numbers}
use Rattle.laws.specs.Order.{ascending}
use Rattle.laws.specs.Sets.{insert_all}
use Rattle.laws.proofs.Lists.{mem_keep, mem_map, mem_gather, mem_picked, mem_numbers, keep_append}
use Rattle.laws.proofs.Sets.{mem_set_of, mem_insert_all, set_of_ascending, insert_all_ascending}
use Rattle.meaning.specs.Events.{Event, Constraint, Valuation, constraint_of}
use Rattle.meaning.specs.Book.{Book, positions, ends_at, goes_on, symbol_of}
use Rattle.meaning.specs.Labels.{Disjunct, Held, held_at, compare_disjuncts, meets, met, skip_one, skip_by, label_of}
use Rattle.meaning.specs.Labels.{sources, step_set, skip_set, new_label, new_held}
use Rattle.meaning.specs.Rows.{compare_valuations, value_of, valuation_of, rows}
use Rattle.automaton.proofs.Orders.{disjunct_order, valuation_order}

pub skip_by_member : (c : Constraint) (l : List Disjunct) (E : Disjunct)
    → Memᴰ E (skip_by c l) ↔ ((D : Disjunct) × Memᴰ D l × Memᴰ E (skip_one c D))
unfolding skip_by
skip_by_member c l E = Iff.trans (mem_set_of disjunct_order E (gather (skip_one c) l)) (mem_gather (skip_one c) E l)

-- labels one after the other: of the disjuncts at a position q, position p has all or none
module _ (f : ℕ → List Disjunct) (p : ℕ) where
  abbrev labels : (k n : ℕ) → List Held
  labels k n = gather (λ q. map (held_at q) (f q)) (numbers k n)

  labels_one : (k n : ℕ) → label_of (labels k (suc n)) p ≡ label_of (map (held_at k) (f k)) p ++ label_of (labels (suc k) n) p
  labels_one k n = simp (keep_append, map-append)

  label_same : (l : List Disjunct) → label_of (map (held_at p) l) p ≡ l
  label_same [] = refl
  label_same (D ∷ l) = rw (eq-eqb p p refl) (ap (D ∷◌) (label_same l))

  label_other : (q : ℕ) → (q ≡ p → ⊥) → (l : List Disjunct) → label_of (map (held_at q) l) p ≡ []
  label_other q n [] = refl
  label_other q n (D ∷ l) = rw (ne_eqb q p n) (label_other q n l)

  labels_before : (k n : ℕ) → p < k → label_of (labels k n) p ≡ []
  labels_before k zero h = refl
  labels_before k (suc n) h = labels_one k n ∙ ap₂ ◌++◌ (label_other k (omega arith) (f k)) (labels_before (suc k) n (omega arith))

  labels_at : (k n : ℕ) → k ≤ p → p < k + n → label_of (labels k n) p ≡ f p
  labels_at k zero l h = absurd (omega arith)
  labels_at k (suc n) l h =
      labels_one k n
      ∙ dite (ℕ_discrete k p) (λ x. rw (x, label_same (f p), labels_before (suc p) n (omega arith)) (append-nil (f p)))
      (λ x. ap₂ ◌++◌ (label_other k x (f k)) (labels_at (suc k) n (omega arith) (omega arith)))

module _ (b : Book) (held : List Held) (e : Event) where
  pub step_set_member : (q : ℕ) (D : Disjunct) → Memᴰ D (step_set b held e q)
      ↔ ((S : Disjunct) × Memᴰ S (sources b held q) × (meets S (constraint_of (symbol_of b q) e) ≡ true) × (D ≡ met S (constraint_of (symbol_of b q) e)))
  unfolding step_set
  step_set_member q D = let c = constraint_of (symbol_of b q) e in
      Iff.trans (mem_set_of disjunct_order D _) (mem_picked (λ S. meets S c) (λ S. met S c) D (sources b held q))

  pub new_label_member : (p : ℕ) (D : Disjunct) → Memᴰ D (new_label b held e p)
      ↔ ((goes_on b p ≡ true) × (Memᴰ D (step_set b held e p) ⊎ Memᴰ D (skip_set b held e p)))
  unfolding new_label
  new_label_member p D = go (goes_on b p)
    where
      go : (t : Bool) → Memᴰ D (cond t (insert_all compare_disjuncts (skip_set b held e p) (step_set b held e p)) [])
          ↔ ((t ≡ true) × (Memᴰ D (step_set b held e p) ⊎ Memᴰ D (skip_set b held e p)))
      go true = let both = mem_insert_all disjunct_order D (skip_set b held e p) (step_set b held e p) in
          (λ m. (refl, ⊎_swap (both.0 m)), λ r. both.1 (⊎_swap r.1))
      go false = (λ m. absurd (Memᴰ.not-nil m), λ r. absurd (false≢true r.0))

  -- "The step set of q" is a set: each disjunct stands in it once, whichever sources give it, so that its length is what "exceeds 128" speaks of
  pub step_set_ascending : (q : ℕ) → ascending compare_disjuncts (step_set b held e q) ≡ true
  unfolding step_set
  step_set_ascending q = let c = constraint_of (symbol_of b q) e in
      set_of_ascending disjunct_order (map (λ D. met D c) (keep (λ D. meets D c) (sources b held q)))

  pub new_label_ascending : (p : ℕ) → ascending compare_disjuncts (new_label b held e p) ≡ true
  unfolding new_label
  new_label_ascending p = go (goes_on b p)
    where
      go : (t : Bool) → ascending compare_disjuncts (cond t (insert_all compare_disjuncts (skip_set b held e p) (step_set b held e p)) []) ≡ true
      go true = insert_all_ascending disjunct_order (skip_set b held e p) (step_set b held e p) (step_set_ascending p)
      go false = refl

  -- the label of a position in the new state is its new label, and so an ascending set
  pub new_held_label : (p : ℕ) → Memᴰ p (positions b) → label_of (new_held b held e) p ≡ new_label b held e p
  unfolding new_held
  new_held_label p m =
      let n = length b.occurrences in
      let r = (mem_numbers p 1 n).0 m in
      labels_at (new_label b held e) p 1 n r.0 r.1

  -- a disjunct of the new state is in the new label of its position
  pub new_held_member : (h : Held) → Memᴰ h (new_held b held e)
      → Memᴰ h.position (positions b) × Memᴰ h.disjunct (new_label b held e h.position)
  unfolding new_held
  new_held_member h m =
      let (p, k, n) = (mem_gather (λ p. map (held_at p) (new_label b held e p)) h (positions b)).0 m in
      let (D, d, x) = (mem_map (held_at p) h (new_label b held e p)).0 n in
      rw x (k, d)

  pub new_held_position : (h : Held) → Memᴰ h (new_held b held e) → Memᴰ h.position (positions b)
  new_held_position h m = (new_held_member h m).0

  pub rows_member : (σ : Valuation) → Memᴰ σ (rows b held e)
      ↔ ((q : ℕ) × Memᴰ q (positions b) × (ends_at b q ≡ true) × ((D : Disjunct) × Memᴰ D (step_set b held e q) × (σ ≡ valuation_of D)))
  unfolding rows
  rows_member σ = (
    λ m. let (q, k, n) = (mem_gather _ σ _).0 ((mem_set_of valuation_order σ _).0 m) in
        let r = (mem_keep (ends_at b) q (positions b)).0 k in
        (q, r.0, r.1, (mem_map valuation_of σ _).0 n),
    λ r. (mem_set_of valuation_order σ _).1
        ((mem_gather _ σ _).1 (r.0, (mem_keep (ends_at b) r.0 (positions b)).1 (r.1, r.2), (mem_map valuation_of σ _).1 r.3)),
  )

  -- "ascend by the first differing value", once each
  pub rows_ascending : ascending compare_valuations (rows b held e) ≡ true
  unfolding rows
  rows_ascending = set_of_ascending valuation_order (gather (λ q. map valuation_of (step_set b held e q)) (keep (ends_at b) (positions b)))

  -- "Rows come from the step sets of ending positions", in no other words than the book's own fields
  pub row_rule : (σ : Valuation) → Memᴰ σ (rows b held e)
      ↔ ((q : ℕ) × (1 ≤ q) × (q ≤ length b.occurrences) × (bit q b.ends ≡ true)
      × ((D : Disjunct) × Memᴰ D (step_set b held e q) × (σ ≡ map value_of D)))
  row_rule σ = (
    λ m. let (q, k, u, r) = (rows_member σ).0 m in
        let (low, high) = (mem_numbers q 1 (length b.occurrences)).0 k in
        (q, low, omega arith, u, r),
    λ (q, low, high, u, r). (rows_member σ).1 (q, (mem_numbers q 1 (length b.occurrences)).1 (low, omega arith), u, r),
  )

-- "positions 1 to 31": what `nine_rules` and `twelve_rules` call the positions of a book are all of them, whether a word ends there, goes on or comes
-- there or not
pub positions_words : (b : Book) (q : ℕ) → Memᴰ q (positions b) ↔ ((1 ≤ q) × (q ≤ length b.occurrences))
positions_words b q = (
  λ m. let (low, high) = (mem_numbers q 1 (length b.occurrences)).0 m in (low, omega arith),
  λ (low, high). (mem_numbers q 1 (length b.occurrences)).1 (low, omega arith),
)

-- "Held disjuncts stand by position": all new labels together, one position's behind another's, from the first on
pub new_held_words : (b : Book) (held : List Held) (e : Event)
    → new_held b held e ≡ gather (λ p. map (λ D. record { position = p; disjunct = D }) (new_label b held e p)) (numbers 1 (length b.occurrences))
unfolding new_held
new_held_words b held e = refl
