-- A disjunct read for one valuation: whether the valuation fits it, and how meeting and skipping change that.
use mathlib.Core.Path.{◌≡◌, refl, sym, ap, ap₂, ◌∙◌}
use mathlib.Core.Bool.{Bool, true, false, cond, not, ◌&&◌, ◌||◌, true≢false, false≢true, and_assoc, and-true, and-false, or-false}
use mathlib.Core.List.{List, [], ◌∷◌, map, Memᴰ}
use mathlib.Core.Logic.{◌↔◌}
use Prim.Native.Nat.{ℕ, zero, suc, ◌<◌}
use native.Mathlib.Nat.{not-suc-le-zero, le_of_suc-le-suc}
use lib.Dec.{eqb, ltb}
use lib.ListN.{length, get_or, set, length-set}
use lib.Seq.{set-get_or}
use borrow.Author.Tests.{eqb-true, eq-eqb, ltb-true}
use Rattle.laws.specs.Lists.{any, all, keep}
use Rattle.laws.proofs.Lists.{and_true_split, and_swap, and_front, eqb_swap, any_map, all_map, any_keep, any_and, any_agree, all_at, all_of}
use Rattle.laws.proofs.Order.{compare_order}
use Rattle.laws.proofs.Sets.{any_insert}
use Rattle.meaning.specs.Events.{Symbol, Event, Demand, Constraint, never, demands}
use Rattle.meaning.specs.Events.{constraint_of, Valuation, agrees, satisfies}
use Rattle.meaning.specs.Book.{sound_parameter}
use Rattle.meaning.specs.Labels.{Entry, bound, free, Disjunct, free_disjunct, entry_of, is_free, admits, bind, meets_all, met_all, meets, met}
use Rattle.meaning.specs.Labels.{skip_one, excluding, exclude}
use Rattle.meaning.specs.Rows.{valuation_of}
use Rattle.meaning.proofs.Holds.{demands_within, constraint_either}

-- every value is admitted by its entry
abbrev pub fits : Valuation → Disjunct → Bool
fits [] [] = true
fits [] (x ∷ D) = false
fits (a ∷ σ) [] = false
fits (a ∷ σ) (x ∷ D) = admits x a && fits σ D

-- demands on the first n variables only
abbrev pub in_range : ℕ → Constraint → Bool
in_range n never = true
in_range n (demands ds) = all (λ d. ltb d.variable n) ds

-- a symbol over declared variables demands values of those only
pub constraint_in_range : (n : ℕ) (s : Symbol) (e : Event) → all (sound_parameter n) s.parameters ≡ true → in_range n (constraint_of s e) ≡ true
constraint_in_range n s e h = constraint_either (λ c. in_range n c ≡ true) s e refl (λ _. demands_within n s.parameters e.args h)

met_all_length : (D : Disjunct) (ds : List Demand) → length (met_all D ds) ≡ length D
met_all_length D [] = refl
met_all_length D (d ∷ ds) = met_all_length (bind D d) ds ∙ length-set D d.variable (bound d.value)

pub met_length : (D : Disjunct) (c : Constraint) → length (met D c) ≡ length D
met_length D never = refl
met_length D (demands ds) = met_all_length D ds

pub exclude_length : (D : Disjunct) (d : Demand) → length (exclude D d) ≡ length D
exclude_length D d = length-set D d.variable (excluding (entry_of D d.variable) d.value)

-- every disjunct that a skipped one gives has its length
pub skip_length : (c : Constraint) (D : Disjunct) (n : ℕ) → length D ≡ n → all (λ E. eqb (length E) n) (skip_one c D) ≡ true
skip_length never D n h = rw (eq-eqb (length D) n h)
skip_length (demands ds) D n h = go (meets_all D ds)
  where
    l : List Demand
    l = keep (λ d. is_free (entry_of D d.variable)) ds

    go : (b : Bool) → all (λ E. eqb (length E) n) (cond b (map (exclude D) l) (D ∷ [])) ≡ true
    go true = all_map (λ E. eqb (length E) n) (exclude D) l ∙ all_of _ l (λ d m. eq-eqb (length (exclude D d)) n (exclude_length D d ∙ h))
    go false = rw (eq-eqb (length D) n h)

-- the free disjunct fits every valuation
pub free_fits : (σ : Valuation) → fits σ (free_disjunct (length σ)) ≡ true
free_fits [] = refl
free_fits (a ∷ σ) = free_fits σ

-- one entry written over: the valuation's value there, and the rest
fits_set : (σ : Valuation) (D : Disjunct) (v : ℕ) (y : Entry) → v < length σ
    → fits σ (set D v y) ≡ (admits y (get_or σ v 0) && fits σ (set D v (free [])))
fits_set [] D v y h = absurd (not-suc-le-zero h)
fits_set (a ∷ σ) [] v y h = sym (and-false (admits y (get_or (a ∷ σ) v 0)))
fits_set (a ∷ σ) (x ∷ D) zero y h = refl
fits_set (a ∷ σ) (x ∷ D) (suc v) y h =
    ap (λ b. admits x a && b) (fits_set σ D v y (le_of_suc-le-suc h))
    ∙ and_front (admits x a) (admits y (get_or σ v 0)) (fits σ (set D v (free [])))

-- and one entry read
fits_at : (σ : Valuation) (D : Disjunct) (v : ℕ) → v < length σ
    → fits σ D ≡ (admits (entry_of D v) (get_or σ v 0) && fits σ (set D v (free [])))
fits_at σ D v h = ap (fits σ) (sym (set-get_or D v (free []))) ∙ fits_set σ D v (entry_of D v) h

-- the value asked for and the valuation's are admitted alike where they agree
admits_swap : (y : Entry) (x s : ℕ) → (admits y x && eqb x s) ≡ (admits y s && eqb s x)
admits_swap y x s = rw (eqb_swap s x) (go (eqb x s) refl)
  where
    go : (b : Bool) → eqb x s ≡ b → (admits y x && b) ≡ (admits y s && b)
    go true e = rw (eqb-true x s e)
    go false e = and-false (admits y x) ∙ sym (and-false (admits y s))

met_all_fits : (σ : Valuation) (D : Disjunct) (ds : List Demand) → all (λ d. ltb d.variable (length σ)) ds ≡ true
    → (meets_all D ds && fits σ (met_all D ds)) ≡ (fits σ D && all (agrees σ) ds)
met_all_fits σ D [] k = sym (and-true (fits σ D))
met_all_fits σ D (d ∷ ds) k =
    let x : ℕ = d.value in
    let s : ℕ = get_or σ d.variable 0 in
    let y : Entry = entry_of D d.variable in
    let ks = and_true_split (ltb d.variable (length σ)) (all (λ c. ltb c.variable (length σ)) ds) k in
    let v = ltb-true d.variable (length σ) ks.0 in
    let r : Bool = fits σ (set D d.variable (free [])) in
    let t : Bool = all (agrees σ) ds in
    and_assoc (admits y x) (meets_all (bind D d) ds) (fits σ (met_all (bind D d) ds))
    ∙ ap (λ b. admits y x && b) (met_all_fits σ (bind D d) ds ks.1 ∙ ap (λ b. b && t) (fits_set σ D d.variable (bound x) v) ∙ and_assoc (eqb x s) r t)
    ∙ sym (and_assoc (admits y x) (eqb x s) (r && t)) ∙ ap (λ b. b && (r && t)) (admits_swap y x s)
    ∙ and_swap (admits y s) (eqb s x) r t ∙ ap (λ b. b && (eqb s x && t)) (sym (fits_at σ D d.variable v))

-- a valuation fits the met disjunct just where it fits the disjunct and satisfies the constraint
pub met_fits : (σ : Valuation) (D : Disjunct) (c : Constraint) → length D ≡ length σ → in_range (length σ) c ≡ true
    → (meets D c && fits σ (met D c)) ≡ (fits σ D && satisfies c σ)
met_fits σ D never h k = sym (and-false (fits σ D))
met_fits σ D (demands ds) h k = met_all_fits σ D ds k

-- what is admitted once an admitted value is bound was admitted before
admits_before : (D : Disjunct) (u v x y : ℕ) → admits (entry_of D u) y ≡ true → admits (entry_of (set D u (bound y)) v) x ≡ true
    → admits (entry_of D v) x ≡ true
admits_before [] u v x y h k = refl
admits_before (z ∷ D) zero zero x y h k = rw (← eqb-true y x k) h
admits_before (z ∷ D) zero (suc v) x y h k = k
admits_before (z ∷ D) (suc u) zero x y h k = k
admits_before (z ∷ D) (suc u) (suc v) x y h k = admits_before D u v x y h k

-- so a disjunct that meets demands admits each of them
pub meets_admits : {d : Demand} (D : Disjunct) {ds : List Demand} → meets_all D ds ≡ true → Memᴰ d ds
    → admits (entry_of D d.variable) d.value ≡ true
meets_admits {d = d} D {ds = []} h x5 = elim x5 [ ]
meets_admits D {ds = c ∷ ds} h (Memᴰ.head e) =
    rw e (and_true_split (admits (entry_of D c.variable) c.value) (meets_all (bind D c) ds) h).0
meets_admits {d} D {ds = c ∷ ds} h (Memᴰ.tail m) =
    let hs = and_true_split (admits (entry_of D c.variable) c.value) (meets_all (bind D c) ds) h in
    admits_before D c.variable d.variable d.value c.value hs.0 (meets_admits (bind D c) hs.1 m)

-- an admitted value excluded: only a free entry gives something, which is what was admitted before, the value apart
excluding_admits : (y : Entry) (x s : ℕ) (r : Bool) → admits y x ≡ true
    → (is_free y && (admits (excluding y x) s && r)) ≡ (admits y s && r && not (eqb s x))
excluding_admits (bound a) x s r h = rw (eqb-true a x h, eqb_swap x s) (go (eqb s x) r)
  where
    go : (b r : Bool) → false ≡ (b && r && not b)
    go true true = refl
    go true false = refl
    go false r = refl
excluding_admits (free xs) x s r h = rw (any_insert compare_order (eqb s) x xs) (go (eqb s x) (any (eqb s) xs) r)
  where
    go : (b c r : Bool) → (not (b || c) && r) ≡ (not c && r && not b)
    go true c r = sym (and-false (not c && r))
    go false c r = sym (and-true (not c && r))

not_all : {A : Type 0} (f : A → Bool) (l : List A) → any (λ x. not (f x)) l ≡ not (all f l)
not_all f [] = refl
not_all f (x ∷ l) = go (f x) (not_all f l)
  where
    go : (b : Bool) → any (λ x. not (f x)) l ≡ not (all f l) → (not b || any (λ x. not (f x)) l) ≡ not (b && all f l)
    go true e = e
    go false e = refl

-- skipping a symbol removes exactly the valuations that satisfy its constraint
pub skip_fits_law : (σ : Valuation) (D : Disjunct) (c : Constraint) → length D ≡ length σ → in_range (length σ) c ≡ true
    → any (fits σ) (skip_one c D) ≡ (fits σ D && not (satisfies c σ))
skip_fits_law σ D never h k = or-false (fits σ D) ∙ sym (and-true (fits σ D))
skip_fits_law σ D (demands ds) h k = go (meets_all D ds) refl
  where
    opens : Demand → Bool
    opens d = is_free (entry_of D d.variable)

    one : meets_all D ds ≡ true → (d : Demand) → Memᴰ d ds → (opens d && fits σ (exclude D d)) ≡ (fits σ D && not (agrees σ d))
    one e d m =
        let v = ltb-true d.variable (length σ) (all_at (λ c. ltb c.variable (length σ)) k m) in
        ap (λ b. opens d && b) (fits_set σ D d.variable (excluding (entry_of D d.variable) d.value) v)
        ∙ excluding_admits (entry_of D d.variable) d.value (get_or σ d.variable 0) _ (meets_admits D e m)
        ∙ ap (λ b. b && not (agrees σ d)) (sym (fits_at σ D d.variable v))

    apart : (a b : Bool) → false ≡ (a && b) → (a || false) ≡ (a && not b)
    apart true true e = sym e
    apart true false e = refl
    apart false b e = refl

    go : (b : Bool) → meets_all D ds ≡ b
        → any (fits σ) (cond b (map (exclude D) (keep opens ds)) (D ∷ [])) ≡ (fits σ D && not (all (agrees σ) ds))
    go true e =
        any_map (fits σ) (exclude D) (keep opens ds) ∙ any_keep (λ d. fits σ (exclude D d)) opens ds
        ∙ any_agree _ (λ d. fits σ D && not (agrees σ d)) ds (one e)
        ∙ any_and (fits σ D) (λ d. not (agrees σ d)) ds ∙ ap (λ b. fits σ D && b) (not_all (agrees σ) ds)
    go false e = apart (fits σ D) (all (agrees σ) ds) (ap (λ b. b && fits σ (met_all D ds)) (sym e) ∙ met_all_fits σ D ds k)

-- a disjunct that leaves nothing free fits one valuation, its own
pub closed_fits : (σ : Valuation) (D : Disjunct) → any is_free D ≡ false → (fits σ D ≡ true) ↔ (σ ≡ valuation_of D)
closed_fits [] [] h = (λ e. refl, λ e. refl)
closed_fits [] (x ∷ D) h = (λ e. absurd (false≢true e), λ e. cc)
closed_fits (a ∷ σ) [] h = (λ e. absurd (false≢true e), λ e. cc)
closed_fits (a ∷ σ) (bound b ∷ D) h = let ih = closed_fits σ D h in (
  λ e. let es = and_true_split (eqb b a) (fits σ D) e in ap₂ ◌∷◌ (sym (eqb-true b a es.0)) (ih.0 es.1),
  λ e. ap₂ ◌&&◌ (eq-eqb b a (cc)) (ih.1 (cc)),
)
closed_fits (a ∷ σ) (free xs ∷ D) h = absurd (true≢false h)
