-- Where the disjuncts of a new state stem from: members of labels, of sources, of skip sets, and of all new labels.
use mathlib.Core.Path.{◌≡◌, refl}
use mathlib.Core.Bool.{Bool, true, false, cond, not, false≢true, true≢false}
use mathlib.Core.List.{List, [], ◌∷◌, ◌++◌, map, Memᴰ}
use mathlib.Core.List.Memᴰ
use mathlib.Core.Logic.{◌↔◌, ◌⊎◌, inl, inr, ⊎_map, ⊎_swap, ⊎_elim}
use Prim.Native.Nat.{ℕ, ◌-◌}
use lib.Dec.{eqb}
use lib.ListN.{get_or, replicate}
use borrow.Author.Tests.{eqb-true, eqb-false, ne_eqb}
use Rattle.laws.specs.Bits.{bit}
use Rattle.laws.specs.Lists.{keep, gather}
use Rattle.laws.specs.Order.{ascending}
use Rattle.laws.proofs.Lists.{mem_picked}
use Rattle.laws.proofs.Sets.{set_of_ascending}
use Rattle.meaning.specs.Events.{Symbol, Event, Demand, Constraint, never, demands, constraint_of}
use Rattle.meaning.specs.Book.{Book, positions, begins_at, follows_at}
use Rattle.meaning.specs.Meaning.{no_symbol}
use Rattle.meaning.specs.Labels.{Disjunct, free, meets, met, new_label, free_disjunct, entry_of, is_free, meets_all, exclude, skip_one, skip_by, skip_through}
use Rattle.meaning.specs.Labels.{Held, compare_disjuncts, label_of, sources, step_set, skip_set, new_held}
use Rattle.automaton.proofs.Orders.{disjunct_order}
use Rattle.automaton.proofs.Members.{skip_by_member, step_set_member, new_label_member, new_held_member}

pub label_held : (held : List Held) (p : ℕ) {D : Disjunct} → Memᴰ D (label_of held p)
    → (h : Held) × Memᴰ h held × (h.position ≡ p) × (D ≡ h.disjunct)
label_held held p {D} m =
    let r = (mem_picked (λ h. eqb h.position p) (λ h. h.disjunct) D held).0 m in
    (r.0, r.1, eqb-true _ _ r.2, r.3)

-- the demands of a constraint
abbrev pub asked : Constraint → List Demand
asked never = []
asked (demands ds) = ds

pub skip_cases : (c : Constraint) (D : Disjunct) {E : Disjunct} → Memᴰ E (skip_one c D)
    → (E ≡ D) ⊎ ((d : Demand) × Memᴰ d (asked c) × (E ≡ exclude D d))
skip_cases never D m = inl (Memᴰ.eq_of_singleton m)
skip_cases (demands ds) D {E} m = go (meets_all D ds) m
  where
    is_open : Demand → Bool
    is_open d = is_free (entry_of D d.variable)

    go : (t : Bool) → Memᴰ E (cond t (map (exclude D) (keep is_open ds)) (D ∷ [])) → (E ≡ D) ⊎ ((d : Demand) × Memᴰ d ds × (E ≡ exclude D d))
    go true n = let r = (mem_picked is_open (exclude D) E ds).0 n in inr (r.0, r.1, r.3)
    go false n = inl (Memᴰ.eq_of_singleton n)

-- "c false, or D met with c false, keeps D. Otherwise D gives one disjunct for each variable of c free in D, with c's value excluded there; none if no
-- variable of c is free in D.", of any constraint and any disjunct
pub skip_rule : (c : Constraint) (D E : Disjunct) → Memᴰ E (skip_one c D)
    ↔ (((meets D c ≡ false) × (E ≡ D))
    ⊎ ((meets D c ≡ true) × ((d : Demand) × Memᴰ d (asked c) × (is_free (entry_of D d.variable) ≡ true) × (E ≡ exclude D d))))
skip_rule never D E =
    (λ m. inl (refl, Memᴰ.eq_of_singleton m), λ r. ⊎_elim (λ x. Memᴰ.head x.1) (λ x. absurd (false≢true x.0)) r)
skip_rule (demands ds) D E = go (meets_all D ds)
  where
    is_open : Demand → Bool
    is_open d = is_free (entry_of D d.variable)

    go : (t : Bool) → Memᴰ E (cond t (map (exclude D) (keep is_open ds)) (D ∷ []))
        ↔ (((t ≡ false) × (E ≡ D)) ⊎ ((t ≡ true) × ((d : Demand) × Memᴰ d ds × (is_open d ≡ true) × (E ≡ exclude D d))))
    go true = let p = mem_picked is_open (exclude D) E ds in
        (λ m. inr (refl, p.0 m), λ r. ⊎_elim (λ x. absurd (true≢false x.0)) (λ x. p.1 x.1) r)
    go false = (λ m. inl (refl, Memᴰ.eq_of_singleton m), λ r. ⊎_elim (λ x. Memᴰ.head x.1) (λ x. absurd (false≢true x.0)) r)

past_rising : (c : Constraint) (l : List Disjunct) → ascending compare_disjuncts (skip_by c l) ≡ true
unfolding skip_by
past_rising c l = set_of_ascending disjunct_order (gather (skip_one c) l)

-- "taken through all symbols in declaration order": past each further symbol go the disjuncts that the symbols before it have left, each once
pub through_rule : (cs : List Constraint) (c : Constraint) (l : List Disjunct)
    → (skip_through [] l ≡ l)
    × ((E : Disjunct) → Memᴰ E (skip_through (cs ++ (c ∷ [])) l) ↔ ((D : Disjunct) × Memᴰ D (skip_through cs l) × Memᴰ E (skip_one c D)))
    × (ascending compare_disjuncts (skip_through (cs ++ (c ∷ [])) l) ≡ true)
through_rule cs c l = (refl, past cs l, rising cs l)
  where
    past : (cs : List Constraint) (l : List Disjunct) (E : Disjunct)
        → Memᴰ E (skip_through (cs ++ (c ∷ [])) l) ↔ ((D : Disjunct) × Memᴰ D (skip_through cs l) × Memᴰ E (skip_one c D))
    past [] l E = skip_by_member c l E
    past (x ∷ cs) l E = past cs (skip_by x l) E

    rising : (cs : List Constraint) (l : List Disjunct) → ascending compare_disjuncts (skip_through (cs ++ (c ∷ [])) l) ≡ true
    rising [] l = past_rising c l
    rising (x ∷ cs) l = rising cs (skip_by x l)

-- what holds of all disjuncts of a set and is kept past each symbol holds of all that come through
module _ (e : Event) (P : Disjunct → Type 0)
    (past : (s : Symbol) (D : Disjunct) → P D → (E : Disjunct) → Memᴰ E (skip_one (constraint_of s e) D) → P E) where
  through_kept : (ss : List Symbol) (l : List Disjunct) → ((D : Disjunct) → Memᴰ D l → P D)
      → (D : Disjunct) → Memᴰ D (skip_through (map (λ s. constraint_of s e) ss) l) → P D
  through_kept [] l here D m = here D m
  through_kept (s ∷ ss) l here D m = let c = constraint_of s e in
      through_kept ss (skip_by c l) (λ E k. let r = (skip_by_member c l E).0 k in past s r.0 (here r.0 r.1) E r.2) D m

  pub skip_kept : (b : Book) (held : List Held) (p : ℕ) → ((D : Disjunct) → Memᴰ D (label_of held p) → P D)
      → (D : Disjunct) → Memᴰ D (skip_set b held e p) → P D
  unfolding skip_set
  skip_kept b held p = through_kept b.symbols (label_of held p)

module _ (b : Book) (held : List Held) where
  pub source_cases : (q : ℕ) {D : Disjunct} → Memᴰ D (sources b held q) → ((begins_at b q ≡ true) × (D ≡ free_disjunct b.variables))
      ⊎ ((h : Held) × Memᴰ h held × (follows_at b h.position q ≡ true) × (D ≡ h.disjunct))
  unfolding sources
  source_cases q {D} m =
      ⊎_map (go (begins_at b q) refl) (mem_picked (λ h. follows_at b h.position q) (λ h. h.disjunct) D held).0
      (Memᴰ.append_cases (cond (begins_at b q) (free_disjunct b.variables ∷ []) []) m)
    where
      go : (t : Bool) → begins_at b q ≡ t → Memᴰ D (cond t (free_disjunct b.variables ∷ []) [])
          → (begins_at b q ≡ true) × (D ≡ free_disjunct b.variables)
      go true e k = (e, Memᴰ.eq_of_singleton k)
      go false e k = absurd (Memᴰ.not-nil k)

  pub new_cases : (e : Event) (h : Held) → Memᴰ h (new_held b held e) → Memᴰ h.position (positions b)
      × (Memᴰ h.disjunct (skip_set b held e h.position) ⊎ Memᴰ h.disjunct (step_set b held e h.position))
  new_cases e h m = let r = new_held_member b held e h m in (r.0, ⊎_swap ((new_label_member b held e h.position h.disjunct).0 r.1).1)

  -- "The step set of q: its symbol's constraint met with each disjunct of the start (if q begins) and of each position that q follows", of any position
  -- of any book, in no other words than the book's own fields
  source_from : (q : ℕ) (D : Disjunct) → ((begins_at b q ≡ true) × (D ≡ free_disjunct b.variables))
      ⊎ ((h : Held) × Memᴰ h held × (follows_at b h.position q ≡ true) × (D ≡ h.disjunct)) → Memᴰ D (sources b held q)
  unfolding sources
  source_from q D (inl (k, x)) = rw k (Memᴰ.head x)
  source_from q D (inr r) =
      Memᴰ.append_right (cond (begins_at b q) (free_disjunct b.variables ∷ []) [])
      ((mem_picked (λ h. follows_at b h.position q) (λ h. h.disjunct) D held).1 r)

  pub step_rule : (e : Event) (q : ℕ) (D : Disjunct) → let c = constraint_of (get_or b.symbols (get_or b.occurrences (q - 1) 0) no_symbol) e in
      Memᴰ D (step_set b held e q)
      ↔ ((S : Disjunct)
      × (((bit q b.begins ≡ true) × (S ≡ replicate b.variables (free [])))
      ⊎ ((h : Held) × Memᴰ h held × (bit q (get_or b.follows (h.position - 1) 0) ≡ true) × (S ≡ h.disjunct)))
      × (meets S c ≡ true) × (D ≡ met S c))
  step_rule e q D = (
    λ m. let (S, n, x, y) = (step_set_member b held e q D).0 m in (S, source_cases q n, x, y),
    λ (S, n, x, y). (step_set_member b held e q D).1 (S, source_from q S n, x, y),
  )

  -- "New label: both sets joined. A position that nothing follows keeps none.", of any position of any book
  pub label_rule : (e : Event) (p : ℕ) (D : Disjunct) → Memᴰ D (new_label b held e p)
      ↔ ((get_or b.follows (p - 1) 0 ≡ 0 → ⊥)
      × (Memᴰ D (step_set b held e p)
      ⊎ Memᴰ D (skip_through (map (λ y. constraint_of y e) b.symbols) (map (λ h. h.disjunct) (keep (λ h. eqb h.position p) held)))))
  unfolding skip_set
  label_rule e p D = (
    λ m. let (g, r) = (new_label_member b held e p D).0 m in (eqb-false (get_or b.follows (p - 1) 0) 0 (off _ g), r),
    λ (g, r). (new_label_member b held e p D).1 (rw (ne_eqb (get_or b.follows (p - 1) 0) 0 g), r),
  )
    where
      off : (z : Bool) → not z ≡ true → z ≡ false
      off true h = absurd (false≢true h)
      off false h = refl
