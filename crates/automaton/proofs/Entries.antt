-- Meeting and excluding, variable by variable, for any disjunct: when a meeting yields a disjunct (`meets_words`), what it binds and what it leaves
-- (`met_words`), what an exclusion adds and what it leaves (`exclude_words`). For a buyer who asks what `meets`, `met` and `exclude` are.
use mathlib.Core.Path.{◌≡◌, refl, sym, ap, ap₂, ◌∙◌}
use mathlib.Core.Bool.{Bool, true, false, not, ◌&&◌, true≢false}
use mathlib.Core.List.{List, [], ◌∷◌, Memᴰ}
use mathlib.Core.Logic.{◌↔◌, ◌⊎◌, dite}
use Prim.Native.Nat.{ℕ, zero, suc, ◌<◌, compare}
use native.Mathlib.Decide.{ℕ_discrete}
use lib.Dec.{eqb}
use lib.ListN.{length, set, length-set}
use lib.Seq.{get_or-set_same, get_or-set_other}
use borrow.Author.Tests.{eqb-true, eq-eqb}
use Rattle.laws.specs.Lists.{any, all}
use Rattle.laws.specs.Order.{ascending}
use Rattle.laws.specs.Sets.{insert}
use Rattle.laws.proofs.Lists.{and_true_split, any_of, any_found, all_at}
use Rattle.laws.proofs.Order.{compare_order}
use Rattle.laws.proofs.Sets.{mem_insert, insert_ascending}
use Rattle.meaning.specs.Events.{Demand, never, demands, compatible, consistent}
use Rattle.meaning.proofs.Holds.{agreed}
use Rattle.meaning.specs.Labels.{Entry, bound, free, Disjunct, entry_of, admits, bind, meets_all, met_all, meets, met, excluding, exclude}
use Rattle.automaton.proofs.Fits.{meets_admits, met_length, exclude_length}

-- not "bound otherwise", and the value not "excluded"
abbrev pub Admitted : Entry → ℕ → Type 0
Admitted (bound a) x = a ≡ x
Admitted (free xs) x = Memᴰ x xs → ⊥

admitted : (y : Entry) (x : ℕ) → (admits y x ≡ true) ↔ Admitted y x
admitted (bound a) x = (eqb-true a x, eq-eqb a x)
admitted (free xs) x = (λ h m. true≢false (sym h ∙ ap not (any_of (eqb x) m (eq-eqb x x refl))), λ h. go h (any (eqb x) xs) refl)
  where
    go : (Memᴰ x xs → ⊥) → (t : Bool) → any (eqb x) xs ≡ t → not t ≡ true
    go h true e = let (y, m, k) = any_found (eqb x) xs e in absurd (h (rw (eqb-true x y k) m))
    go h false e = refl

-- what was admitted still is once an agreeing value is bound
admits_after : (D : Disjunct) (u v x y : ℕ) → admits (entry_of D v) x ≡ true → (u ≡ v → y ≡ x) → admits (entry_of (set D u (bound y)) v) x ≡ true
admits_after [] u v x y h k = refl
admits_after (z ∷ D) zero zero x y h k = eq-eqb y x (k refl)
admits_after (z ∷ D) zero (suc v) x y h k = h
admits_after (z ∷ D) (suc u) zero x y h k = h
admits_after (z ∷ D) (suc u) (suc v) x y h k = admits_after D u v x y h (λ e. k (ap suc e))

meets_from : (D : Disjunct) (ds : List Demand) → consistent ds ≡ true
    → ((d : Demand) → Memᴰ d ds → admits (entry_of D d.variable) d.value ≡ true) → meets_all D ds ≡ true
meets_from D [] k h = refl
meets_from D (c ∷ ds) k h =
    let ks = and_true_split (all (compatible c) ds) (consistent ds) k in
    ap₂ ◌&&◌ (h c (Memᴰ.head refl))
    (meets_from (bind D c) ds ks.1
    (λ d m. admits_after D c.variable d.variable d.value c.value (h d (Memᴰ.tail m)) (agreed c d (all_at (compatible c) ks.0 m))))

-- "Meeting a disjunct with a constraint yields a new disjunct or false: false if a variable is bound otherwise or the value is excluded", and a false
-- constraint never yields one. A symbol's constraint has no two unequal demands on one variable.
pub meets_words : (D : Disjunct) (ds : List Demand) → consistent ds ≡ true → (meets D never ≡ false)
    × ((meets D (demands ds) ≡ true) ↔ ((d : Demand) → Memᴰ d ds → Admitted (entry_of D d.variable) d.value))
meets_words D ds k = (
  refl,
  (
    λ h d m. (admitted (entry_of D d.variable) d.value).0 (meets_admits D h m),
    λ h. meets_from D ds k (λ d m. (admitted (entry_of D d.variable) d.value).1 (h d m)),
  ),
)

others_met : (D : Disjunct) (ds : List Demand) (v : ℕ) → ((d : Demand) → Memᴰ d ds → v ≡ d.variable → ⊥) → entry_of (met_all D ds) v ≡ entry_of D v
others_met D [] v h = refl
others_met D (d ∷ ds) v h =
    others_met (bind D d) ds v (λ c m. h c (Memᴰ.tail m)) ∙ get_or-set_other D d.variable v (bound d.value) (free []) (h d (Memᴰ.head refl))

-- what is bound to the value asked stays so
stays_bound : (D : Disjunct) (c : Demand) (ds : List Demand) → all (compatible c) ds ≡ true → c.variable < length D
    → entry_of D c.variable ≡ bound c.value → entry_of (met_all D ds) c.variable ≡ bound c.value
stays_bound D c [] k l e = e
stays_bound D c (d ∷ ds) k l e =
    let ks = and_true_split (compatible c d) (all (compatible c) ds) k in
    stays_bound (bind D d) c ds ks.1 (rw (length-set D d.variable (bound d.value)) l)
    (dite (ℕ_discrete c.variable d.variable)
    (λ x. rw (x, agreed c d ks.0 x) (get_or-set_same D d.variable (bound d.value) (free []) (rw (← x) l)))
    (λ x. get_or-set_other D d.variable c.variable (bound d.value) (free []) x ∙ e))

asked_bound : (D : Disjunct) (ds : List Demand) → consistent ds ≡ true → (d : Demand) → Memᴰ d ds → d.variable < length D
    → entry_of (met_all D ds) d.variable ≡ bound d.value
asked_bound D [] k d x3 l = elim x3 [ ]
asked_bound D (c ∷ ds) k d (Memᴰ.head e) l =
    let ks = and_true_split (all (compatible c) ds) (consistent ds) k in
    rw e (stays_bound (bind D c) c ds ks.0 (rw (length-set D c.variable (bound c.value), ← e) l)
    (get_or-set_same D c.variable (bound c.value) (free []) (rw (← e) l)))
asked_bound D (c ∷ ds) k d (Memᴰ.tail m) l =
    let ks = and_true_split (all (compatible c) ds) (consistent ds) k in
    asked_bound (bind D c) ds ks.1 d m (rw (length-set D c.variable (bound c.value)) l)

-- the new disjunct: "variable equals argument" binds the variables that are asked, "a newly bound variable loses its exclusions", and no other moves
pub met_words : (D : Disjunct) (ds : List Demand) → consistent ds ≡ true
    → (length (met D (demands ds)) ≡ length D)
    × ((d : Demand) → Memᴰ d ds → d.variable < length D → entry_of (met D (demands ds)) d.variable ≡ bound d.value)
    × ((v : ℕ) → ((d : Demand) → Memᴰ d ds → v ≡ d.variable → ⊥) → entry_of (met D (demands ds)) v ≡ entry_of D v)
met_words D ds k = (met_length D (demands ds), asked_bound D ds k, others_met D ds)

-- "with c's value excluded there": there one value more is excluded, each once and ascending, and nothing else moves
pub exclude_words : (D : Disjunct) (d : Demand) (xs : List ℕ) → d.variable < length D → entry_of D d.variable ≡ free xs
    → (length (exclude D d) ≡ length D)
    × ((v : ℕ) → (v ≡ d.variable → ⊥) → entry_of (exclude D d) v ≡ entry_of D v)
    × ((ys : List ℕ) × (entry_of (exclude D d) d.variable ≡ free ys)
    × ((y : ℕ) → Memᴰ y ys ↔ ((y ≡ d.value) ⊎ Memᴰ y xs))
    × (ascending compare xs ≡ true → ascending compare ys ≡ true))
exclude_words D d xs l e = (
  exclude_length D d,
  λ v h. get_or-set_other D d.variable v (excluding (entry_of D d.variable) d.value) (free []) h,
  (
    insert compare d.value xs,
    get_or-set_same D d.variable (excluding (entry_of D d.variable) d.value) (free []) l ∙ ap (λ y. excluding y d.value) e,
    λ y. mem_insert compare_order y d.value xs,
    insert_ascending compare_order d.value xs,
  ),
)
