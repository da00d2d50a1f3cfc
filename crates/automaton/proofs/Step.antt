-- Step sets, skip sets and new labels read for one valuation.
use mathlib.Core.Path.{◌≡◌, refl, sym, ap, ap₂, ◌∙◌}
use mathlib.Core.Bool.{Bool, true, false, cond, not, ◌&&◌, ◌||◌, and-true, and_comm, or-false}
use mathlib.Core.List.{List, [], ◌∷◌, map, Memᴰ}
use mathlib.Core.Logic.{⊎_elim}
use Prim.Native.Nat.{ℕ, zero, suc, ◌-◌}
use lib.Dec.{eqb, leb}
use lib.ListN.{length, get_or, length-replicate}
use borrow.Author.Tests.{eqb-true, eq-eqb}
use Rattle.laws.specs.Lists.{any, all, keep, gather}
use Rattle.laws.specs.Sets.{insert_all, set_of}
use Rattle.laws.proofs.Lists.{and_true_split, any_append, any_map, any_keep, any_gather, any_agree, any_and, all_map, all_at, all_of}
use Rattle.laws.proofs.Sets.{any_insert_all}
use Rattle.meaning.specs.Limits.{kind_limit, parameter_limit}
use Rattle.meaning.specs.Events.{Symbol, Event, Constraint, constraint_of, Valuation, satisfies, holds, concerns}
use Rattle.meaning.specs.Meaning.{no_symbol}
use Rattle.meaning.specs.Book.{Book, sound_parameter, sound_symbol, positions, begins_at, follows_at, goes_on, symbol_of}
use Rattle.meaning.specs.Labels.{free, Disjunct, free_disjunct, compare_disjuncts, meets, met, skip_one, skip_by, skip_through}
use Rattle.meaning.specs.Labels.{Held, held_at, label_of, sources, step_set, skip_set, new_label, new_held}
use Rattle.meaning.proofs.Holds.{holds_satisfies}
use Rattle.automaton.proofs.Orders.{disjunct_order}
use Rattle.automaton.proofs.Members.{skip_by_member, step_set_member, new_label_member, new_held_member}
use Rattle.automaton.proofs.Stems.{label_held, source_cases}
use Rattle.automaton.proofs.Fits.{fits, in_range, constraint_in_range, met_length, skip_length, free_fits, met_fits, skip_fits_law}

-- every held disjunct has an entry for each variable
abbrev pub wide : ℕ → List Held → Bool
wide n held = all (λ h. eqb (length h.disjunct) n) held

-- the same of a list of disjuncts, member by member
abbrev pub Long : ℕ → List Disjunct → Type 0
Long n l = (D : Disjunct) → Memᴰ D l → length D ≡ n

pub skip_one_long : (n : ℕ) (c : Constraint) (D E : Disjunct) → length D ≡ n → Memᴰ E (skip_one c D) → length E ≡ n
skip_one_long n c D E h m = eqb-true (length E) n (all_at (λ F. eqb (length F) n) (skip_length c D n h) m)

pub skip_by_long : (n : ℕ) (c : Constraint) (l : List Disjunct) → Long n l → Long n (skip_by c l)
skip_by_long n c l h D m =
    let r = (skip_by_member c l D).0 m in
    skip_one_long n c r.0 D (h r.0 r.1) r.2

pub skip_through_long : (n : ℕ) (cs : List Constraint) (l : List Disjunct) → Long n l → Long n (skip_through cs l)
skip_through_long n [] l h = h
skip_through_long n (c ∷ cs) l h = skip_through_long n cs (skip_by c l) (skip_by_long n c l h)

pub symbol_in_range : (n : ℕ) (s : Symbol) (e : Event) → sound_symbol n s ≡ true → in_range n (constraint_of s e) ≡ true
unfolding sound_symbol
symbol_in_range n s e h =
    let ranges = leb 1 s.kind && leb s.kind kind_limit && leb (length s.parameters) parameter_limit in
    constraint_in_range n s e (and_true_split ranges (all (sound_parameter n) s.parameters) h).1

-- a symbol by its number; out of range it is one that has no places
pub numbered_in_range : (n : ℕ) (l : List Symbol) (i : ℕ) (e : Event) → all (sound_symbol n) l ≡ true
    → in_range n (constraint_of (get_or l i no_symbol) e) ≡ true
numbered_in_range n [] i e h = constraint_in_range n no_symbol e refl
numbered_in_range n (s ∷ l) zero e h = symbol_in_range n s e (and_true_split (sound_symbol n s) (all (sound_symbol n) l) h).0
numbered_in_range n (s ∷ l) (suc i) e h = numbered_in_range n l i e (and_true_split (sound_symbol n s) (all (sound_symbol n) l) h).1

-- all symbols
pub symbols_in_range : (n : ℕ) (l : List Symbol) (e : Event) → all (sound_symbol n) l ≡ true
    → all (in_range n) (map (λ s. constraint_of s e) l) ≡ true
symbols_in_range n l e h = all_map (in_range n) (λ s. constraint_of s e) l ∙ all_of _ l (λ s m. symbol_in_range n s e (all_at _ h m))

any_set_of : (f : Disjunct → Bool) (l : List Disjunct) → any f (set_of compare_disjuncts l) ≡ any f l
any_set_of f l = any_insert_all disjunct_order f l [] ∙ or-false (any f l)

module _ (σ : Valuation) where
  held_fits : (f : Held → Bool) (held : List Held)
      → any (fits σ) (map (λ h. h.disjunct) (keep f held)) ≡ any (λ h. f h && fits σ h.disjunct) held
  held_fits f held = any_map (fits σ) (λ (h : Held). h.disjunct) (keep f held) ∙ any_keep (λ h. fits σ h.disjunct) f held

  skip_by_fits : (c : Constraint) (l : List Disjunct) → Long (length σ) l → in_range (length σ) c ≡ true
      → any (fits σ) (skip_by c l) ≡ (any (fits σ) l && not (satisfies c σ))
  unfolding skip_by
  skip_by_fits c l h k =
      any_set_of (fits σ) (gather (skip_one c) l) ∙ any_gather (fits σ) (skip_one c) l
      ∙ any_agree _ (λ D. not (satisfies c σ) && fits σ D) l (λ D m. skip_fits_law σ D c (h D m) k ∙ and_comm (fits σ D) (not (satisfies c σ)))
      ∙ any_and (not (satisfies c σ)) (fits σ) l ∙ and_comm (not (satisfies c σ)) (any (fits σ) l)

  skip_through_fits : (cs : List Constraint) (l : List Disjunct) → Long (length σ) l → all (in_range (length σ)) cs ≡ true
      → any (fits σ) (skip_through cs l) ≡ (any (fits σ) l && not (any (λ c. satisfies c σ) cs))
  skip_through_fits [] l h k = sym (and-true (any (fits σ) l))
  skip_through_fits (c ∷ cs) l h k =
      let ks = and_true_split (in_range (length σ) c) (all (in_range (length σ)) cs) k in
      skip_through_fits cs (skip_by c l) (skip_by_long (length σ) c l h) ks.1
      ∙ ap (λ b. b && not (any (λ d. satisfies d σ) cs)) (skip_by_fits c l h ks.0)
      ∙ past (any (fits σ) l) (satisfies c σ) (any (λ d. satisfies d σ) cs)
    where
      past : (a b c : Bool) → (a && not b && not c) ≡ (a && not (b || c))
      past true true c = refl
      past true false c = refl
      past false b c = refl

-- where every held disjunct has an entry for each variable, so have those of labels, sources, step sets and skip sets
module _ (b : Book) (held : List Held) (each : (h : Held) → Memᴰ h held → length h.disjunct ≡ b.variables) where
  pub label_long : (p : ℕ) → Long b.variables (label_of held p)
  label_long p D m = let r = label_held held p m in ap length r.3 ∙ each r.0 r.1

  pub sources_long : (q : ℕ) → Long b.variables (sources b held q)
  sources_long q D m =
      ⊎_elim (λ s. ap length s.1 ∙ length-replicate b.variables (free [])) (λ s. ap length s.3 ∙ each s.0 s.1)
      (source_cases b held q m)

  pub step_set_long : (e : Event) (q : ℕ) → Long b.variables (step_set b held e q)
  step_set_long e q D m =
      let r = (step_set_member b held e q D).0 m in
      ap length r.3 ∙ met_length r.0 (constraint_of (symbol_of b q) e) ∙ sources_long q r.0 r.1

  pub skip_set_long : (e : Event) (p : ℕ) → Long b.variables (skip_set b held e p)
  unfolding skip_set
  skip_set_long e p = skip_through_long b.variables (map (λ s. constraint_of s e) b.symbols) (label_of held p) (label_long p)

module _ (b : Book) (formed : all (sound_symbol b.variables) b.symbols ≡ true) (held : List Held)
    (full : wide b.variables held ≡ true) (e : Event) where
  old_long : (h : Held) → Memᴰ h held → length h.disjunct ≡ b.variables
  old_long h m = eqb-true _ _ (all_at _ full m)

  new_label_long : (p : ℕ) → Long b.variables (new_label b held e p)
  new_label_long p D m =
      ⊎_elim (step_set_long b held old_long e p D) (skip_set_long b held old_long e p D) ((new_label_member b held e p D).0 m).1

  pub step_set_wide : (q : ℕ) → all (λ D. eqb (length D) b.variables) (step_set b held e q) ≡ true
  step_set_wide q = all_of _ (step_set b held e q) (λ D m. eq-eqb (length D) b.variables (step_set_long b held old_long e q D m))

  pub new_held_wide : wide b.variables (new_held b held e) ≡ true
  new_held_wide = all_of _ (new_held b held e) λ h m.
      eq-eqb (length h.disjunct) b.variables (new_label_long h.position h.disjunct (new_held_member b held e h m).1)

  module _ (σ : Valuation) (width : length σ ≡ b.variables) where
    sources_fits : (q : ℕ) → any (fits σ) (sources b held q)
        ≡ (begins_at b q || any (λ h. follows_at b h.position q && fits σ h.disjunct) held)
    unfolding sources
    sources_fits q =
        any_append (fits σ) (cond (begins_at b q) (free_disjunct b.variables ∷ []) []) _
        ∙ ap₂ ◌||◌ (start (begins_at b q)) (held_fits σ (λ h. follows_at b h.position q) held)
      where
        start : (c : Bool) → any (fits σ) (cond c (free_disjunct b.variables ∷ []) []) ≡ c
        start true = rw (← width, free_fits)
        start false = refl

    pub step_set_fits : (q : ℕ) → any (fits σ) (step_set b held e q)
        ≡ (holds (symbol_of b q) e σ && (begins_at b q || any (λ h. follows_at b h.position q && fits σ h.disjunct) held))
    unfolding step_set
    step_set_fits q =
        let c : Constraint = constraint_of (symbol_of b q) e in
        let k : in_range (length σ) c ≡ true = rw width (numbered_in_range b.variables b.symbols (get_or b.occurrences (q - 1) 0) e formed) in
        let l : List Disjunct = keep (λ D. meets D c) (sources b held q) in
        any_set_of (fits σ) (map (λ D. met D c) l) ∙ any_map (fits σ) (λ D. met D c) l ∙ any_keep _ (λ D. meets D c) (sources b held q)
        ∙ any_agree _ (λ D. satisfies c σ && fits σ D) (sources b held q)
        (λ D m. met_fits σ D c (sources_long b held old_long q D m ∙ sym width) k ∙ and_comm (fits σ D) (satisfies c σ))
        ∙ any_and (satisfies c σ) (fits σ) (sources b held q) ∙ ap₂ ◌&&◌ (sym (holds_satisfies (symbol_of b q) e σ)) (sources_fits q)

    pub skip_set_fits : (p : ℕ) → any (fits σ) (skip_set b held e p)
        ≡ (any (λ h. eqb h.position p && fits σ h.disjunct) held && not (concerns b.symbols e σ))
    unfolding skip_set concerns
    skip_set_fits p =
        skip_through_fits σ (map (λ s. constraint_of s e) b.symbols) (label_of held p)
        (λ D m. label_long b held old_long p D m ∙ sym width) (rw width (symbols_in_range b.variables b.symbols e formed))
        ∙ ap₂ (λ r t. r && not t) (held_fits σ (λ h. eqb h.position p) held)
        (any_map (λ c. satisfies c σ) (λ s. constraint_of s e) b.symbols
        ∙ any_agree _ (λ s. holds s e σ) b.symbols (λ s m. sym (holds_satisfies s e σ)))

    new_label_fits : (p : ℕ) → any (fits σ) (new_label b held e p)
        ≡ (goes_on b p && (any (fits σ) (skip_set b held e p) || any (fits σ) (step_set b held e p)))
    unfolding new_label
    new_label_fits p = go (goes_on b p)
      where
        go : (c : Bool) → any (fits σ) (cond c (insert_all compare_disjuncts (skip_set b held e p) (step_set b held e p)) [])
            ≡ (c && (any (fits σ) (skip_set b held e p) || any (fits σ) (step_set b held e p)))
        go true = any_insert_all disjunct_order (fits σ) (skip_set b held e p) (step_set b held e p)
        go false = refl

    -- all new labels, under any test F on positions
    pub new_held_fits : (F : ℕ → Bool) → any (λ h. F h.position && fits σ h.disjunct) (new_held b held e)
        ≡ any (λ p. F p && (goes_on b p && (any (fits σ) (skip_set b held e p) || any (fits σ) (step_set b held e p)))) (positions b)
    unfolding new_held
    new_held_fits F =
        let f : Held → Bool = λ h. F h.position && fits σ h.disjunct in
        any_gather f (λ p. map (held_at p) (new_label b held e p)) (positions b)
        ∙ any_agree _ _ (positions b) (λ p m. any_map f (held_at p) (new_label b held e p) ∙ any_and (F p) (fits σ) (new_label b held e p)
        ∙ ap (λ r. F p && r) (new_label_fits p))
