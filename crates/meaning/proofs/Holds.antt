-- The matcher's constraint of a symbol on an event (demands; two unequal ones on a variable, or another argument at a fixed place, make it
-- false) says of a valuation what the declarative `holds` says of it. A wrong `compatible`, `demands_of` or `constraint_of` is refused here.
use mathlib.Core.Path.{◌≡◌, refl, sym, ap, ap₂, subst, ◌∙◌}
use mathlib.Core.Bool.{Bool, true, false, cond, not, ◌&&◌, ◌||◌, false≢true}
use mathlib.Core.List.Memᴰ
use mathlib.Core.List.{List, [], ◌∷◌, ◌++◌, Memᴰ}
use mathlib.Core.Logic.{◌↔◌, ◌⊎◌, inl, inr}
use Prim.Native.Nat.{ℕ, zero, suc, ◌<◌, ◌^◌}
use native.Mathlib.Omega.{arith}
use lib.Dec.{eqb, ltb}
use lib.ListN.{length, get_or}
use borrow.Author.Tests.{eqb-true, eq-eqb, ne_eqb, ltb-true, lt-ltb}
use Rattle.laws.specs.Lists.{all}
use Rattle.laws.proofs.Lists.{same_test, all_of, all_at, any_found, any_of, and_true_split}
use Rattle.meaning.specs.Events.{Parameter, ignored, names, fixed, Symbol, Event, Demand, Constraint, never, demands, matches}
use Rattle.meaning.specs.Events.{demand_of, demands_of, compatible, consistent, fixed_at, fixed_all, constraint_of}
use Rattle.meaning.specs.Book.{sound_parameter}
use Rattle.meaning.specs.Events.{Valuation, agrees, satisfies, equal_at, equal_all, holds, concerns, word32, is_valuation}

-- demands that one valuation meets are not unequal on a variable
met_compatible : (σ : Valuation) (c d : Demand) → agrees σ c ≡ true → agrees σ d ≡ true → compatible c d ≡ true
met_compatible σ c d g h =
    go (eqb c.variable d.variable) refl
  where
    go : (b : Bool) → eqb c.variable d.variable ≡ b → (not b || eqb c.value d.value) ≡ true
    go true e =
        let v = ap (λ i. get_or σ i 0) (eqb-true c.variable d.variable e) in
        eq-eqb c.value d.value (sym (eqb-true _ c.value g) ∙ v ∙ eqb-true _ d.value h)
    go false e = refl

met_consistent : (σ : Valuation) (ds : List Demand) → all (agrees σ) ds ≡ true → consistent ds ≡ true
met_consistent σ [] h = refl
met_consistent σ (d ∷ ds) h =
    let (g, k) = and_true_split (agrees σ d) (all (agrees σ) ds) h in
    ap₂ ◌&&◌ (all_of (compatible d) ds (λ c m. met_compatible σ d c g (all_at (agrees σ) k m))) (met_consistent σ ds k)

-- the demands of a symbol's places are what the places ask
eqb_suc : (a b : ℕ) → eqb (suc a) (suc b) ≡ eqb a b
eqb_suc a b =
    same_test (eqb (suc a) (suc b)) (eqb a b) (λ h. let e = eqb-true (suc a) (suc b) h in eq-eqb a b (omega arith))
    (λ h. eq-eqb (suc a) (suc b) (ap suc (eqb-true a b h)))

swapped : (a b c : Bool) → (a && (b && c)) ≡ (b && (a && c))
swapped true b c = refl
swapped false true c = refl
swapped false false c = refl

moved : (a b c d : Bool) → (a && (b && c) && d) ≡ (b && (a && c && d))
moved true true c d = refl
moved true false c d = refl
moved false true c d = refl
moved false false c d = refl

demands_equal : (σ : Valuation) (ps : List Parameter) (xs : List ℕ)
    → (eqb (length ps) (length xs) && fixed_all ps xs && all (agrees σ) (demands_of ps xs)) ≡ equal_all σ ps xs
demands_equal σ [] [] = refl
demands_equal σ [] (x ∷ xs) = rw (ne_eqb 0 (suc (length xs)) (λ e. omega arith))
demands_equal σ (p ∷ ps) [] = rw (ne_eqb (suc (length ps)) 0 (λ e. omega arith))
demands_equal σ (ignored ∷ ps) (x ∷ xs) =
    ap (λ b. b && fixed_all ps xs && all (agrees σ) (demands_of ps xs)) (eqb_suc (length ps) (length xs)) ∙ demands_equal σ ps xs
demands_equal σ (names v ∷ ps) (x ∷ xs) =
    ap (λ b. b && fixed_all ps xs && (eqb (get_or σ v 0) x && all (agrees σ) (demands_of ps xs))) (eqb_suc (length ps) (length xs))
    ∙ swapped (eqb (length ps) (length xs) && fixed_all ps xs) (eqb (get_or σ v 0) x) (all (agrees σ) (demands_of ps xs))
    ∙ ap (λ b. eqb (get_or σ v 0) x && b) (demands_equal σ ps xs)
demands_equal σ (fixed n ∷ ps) (x ∷ xs) =
    ap (λ b. b && (eqb n x && fixed_all ps xs) && all (agrees σ) (demands_of ps xs)) (eqb_suc (length ps) (length xs))
    ∙ moved (eqb (length ps) (length xs)) (eqb n x) (fixed_all ps xs) (all (agrees σ) (demands_of ps xs))
    ∙ ap (λ b. eqb n x && b) (demands_equal σ ps xs)

pub holds_satisfies : (s : Symbol) (e : Event) (σ : Valuation) → holds s e σ ≡ satisfies (constraint_of s e) σ
unfolding holds constraint_of matches
holds_satisfies s e σ =
    ap (λ b. eqb s.kind e.kind && b) (sym (demands_equal σ s.parameters e.args))
    ∙ grouped (eqb s.kind e.kind) (eqb (length s.parameters) (length e.args)) (fixed_all s.parameters e.args) (all (agrees σ) ds)
    ∙ go (matches s e && fixed_all s.parameters e.args) (consistent ds) (met_consistent σ ds)
  where
    ds : List Demand
    ds = demands_of s.parameters e.args

    grouped : (a b c d : Bool) → (a && (b && c && d)) ≡ (a && b && c && d)
    grouped true b c d = refl
    grouped false b c d = refl

    go : (a b : Bool) → (all (agrees σ) ds ≡ true → b ≡ true) → (a && all (agrees σ) ds) ≡ satisfies (cond (a && b) (demands ds) never) σ
    go true true h = refl
    go true false h = same_test (all (agrees σ) ds) false (λ g. absurd (false≢true (h g))) (λ g. absurd (false≢true g))
    go false b h = refl

-- sound places demand something only of the variables that there are
pub demands_within : (n : ℕ) (ps : List Parameter) (xs : List ℕ) → all (sound_parameter n) ps ≡ true
    → all (λ d. ltb d.variable n) (demands_of ps xs) ≡ true
demands_within n [] xs h = refl
demands_within n (p ∷ ps) [] h = refl
demands_within n (p ∷ ps) (x ∷ xs) h =
    let (a, b) = and_true_split (sound_parameter n p) (all (sound_parameter n) ps) h in first p (demands_of ps xs) a (demands_within n ps xs b)
  where
    first : (p : Parameter) (r : List Demand) → sound_parameter n p ≡ true → all (λ d. ltb d.variable n) r ≡ true
        → all (λ d. ltb d.variable n) (demand_of p x ++ r) ≡ true
    first ignored r a b = b
    first (names v) r a b = ap₂ ◌&&◌ a b
    first (fixed m) r a b = b

-- what is true of the false constraint, and of the demands where the symbol matches, is true of the constraint
pub constraint_either : (P : Constraint → Type 0) (s : Symbol) (e : Event) → P never
    → (matches s e ≡ true → P (demands (demands_of s.parameters e.args))) → P (constraint_of s e)
unfolding constraint_of
constraint_either P s e n d = go (matches s e && f && consistent ds) refl
  where
    f : Bool
    f = fixed_all s.parameters e.args

    ds : List Demand
    ds = demands_of s.parameters e.args

    go : (b : Bool) → (matches s e && f && consistent ds) ≡ b → P (cond b (demands ds) never)
    go true h = d (and_true_split (matches s e) f (and_true_split (matches s e && f) (consistent ds) h).0).0
    go false h = n

-- what `equal_all` asks: as many arguments as places, and at each place what the place asks
equal_places : (σ : Valuation) (ps : List Parameter) (xs : List ℕ)
    → (equal_all σ ps xs ≡ true) ↔ ((length ps ≡ length xs) × ((i : ℕ) → i < length ps → equal_at σ (get_or ps i ignored) (get_or xs i 0) ≡ true))
equal_places σ [] [] = (λ _. (refl, λ i h. absurd (omega (arith, h))), λ _. refl)
equal_places σ [] (x ∷ xs) = (λ h. absurd (false≢true h), λ r. absurd (omega (arith, r.0)))
equal_places σ (p ∷ ps) [] = (λ h. absurd (false≢true h), λ r. absurd (omega (arith, r.0)))
equal_places σ (p ∷ ps) (x ∷ xs) =
    let ih = equal_places σ ps xs in (
      λ h. let (a, b) = and_true_split (equal_at σ p x) (equal_all σ ps xs) h in let r = ih.0 b in (ap suc r.0, λ i k. here a r.1 i k),
      λ r. ap₂ ◌&&◌ (r.1 0 (omega arith)) (ih.1 (omega (arith, r.0), λ i k. r.1 (suc i) (omega (arith, k)))),
    )
  where
    here : equal_at σ p x ≡ true → ((i : ℕ) → i < length ps → equal_at σ (get_or ps i ignored) (get_or xs i 0) ≡ true)
        → (i : ℕ) → i < suc (length ps) → equal_at σ (get_or (p ∷ ps) i ignored) (get_or (x ∷ xs) i 0) ≡ true
    here a r zero k = a
    here a r (suc i) k = r i (omega (arith, k))

-- "A symbol matches an event when the kinds are equal and the event's argument count equals the symbol's. Its constraint is then 'variable equals
-- argument' for each bound place", of every symbol, one without ARGS too; "false where that argument differs", at each fixed place
pub holds_words : (s : Symbol) (e : Event) (σ : Valuation)
    → (holds s e σ ≡ true)
    ↔ ((s.kind ≡ e.kind) × (length s.parameters ≡ length e.args)
    × ((i v : ℕ) → i < length s.parameters → get_or s.parameters i ignored ≡ names v → get_or σ v 0 ≡ get_or e.args i 0)
    × ((i n : ℕ) → i < length s.parameters → get_or s.parameters i ignored ≡ fixed n → n ≡ get_or e.args i 0))
unfolding holds
holds_words s e σ =
    let w = equal_places σ s.parameters e.args in (
      λ h. let (a, b) = and_true_split (eqb s.kind e.kind) _ h in
          let (l, r) = w.0 b in
          (eqb-true _ _ a, l, λ i v k q. eqb-true _ _ (at i q (r i k)), λ i n k q. eqb-true n _ (at i q (r i k))),
      λ (a, b, f, g). ap₂ ◌&&◌ (eq-eqb s.kind e.kind a) (w.1 (b, λ i k. by i _ refl (λ v. f i v k) (λ n. g i n k))),
    )
  where
    at : {p : Parameter} (i : ℕ) → get_or s.parameters i ignored ≡ p → equal_at σ (get_or s.parameters i ignored) (get_or e.args i 0) ≡ true
        → equal_at σ p (get_or e.args i 0) ≡ true
    at i q h = subst (λ z. equal_at σ z (get_or e.args i 0) ≡ true) q h

    by : (i : ℕ) (p : Parameter) → get_or s.parameters i ignored ≡ p
        → ((v : ℕ) → get_or s.parameters i ignored ≡ names v → get_or σ v 0 ≡ get_or e.args i 0)
        → ((n : ℕ) → get_or s.parameters i ignored ≡ fixed n → n ≡ get_or e.args i 0)
        → equal_at σ (get_or s.parameters i ignored) (get_or e.args i 0) ≡ true
    by i ignored q f g = rw q
    by i (names v) q f g = rw q (eq-eqb (get_or σ v 0) (get_or e.args i 0) (f v q))
    by i (fixed n) q f g = rw q (eq-eqb n (get_or e.args i 0) (g n q))

-- "false where that argument differs": it differs at no fixed place
pub fixed_words : (ps : List Parameter) (xs : List ℕ)
    → (fixed_all ps xs ≡ true) ↔ ((i n : ℕ) → i < length ps → i < length xs → get_or ps i ignored ≡ fixed n → n ≡ get_or xs i 0)
fixed_words [] xs = (λ _ i n h k q. absurd (omega (arith, h)), λ _. refl)
fixed_words (p ∷ ps) [] = (λ _ i n h k q. absurd (omega (arith, k)), λ _. refl)
fixed_words (p ∷ ps) (x ∷ xs) =
    let ih = fixed_words ps xs in (
      λ h. let (a, b) = and_true_split (fixed_at p x) (fixed_all ps xs) h in there a (ih.0 b),
      λ f. ap₂ ◌&&◌ (here p (λ n q. f 0 n (omega arith) (omega arith) q)) (ih.1 (λ i n h k q. f (suc i) n (omega (arith, h)) (omega (arith, k)) q)),
    )
  where
    here : (p : Parameter) → ((n : ℕ) → p ≡ fixed n → n ≡ x) → fixed_at p x ≡ true
    here ignored f = refl
    here (names v) f = refl
    here (fixed n) f = eq-eqb n x (f n refl)

    there : fixed_at p x ≡ true → ((i n : ℕ) → i < length ps → i < length xs → get_or ps i ignored ≡ fixed n → n ≡ get_or xs i 0)
        → (i n : ℕ) → i < suc (length ps) → i < suc (length xs) → get_or (p ∷ ps) i ignored ≡ fixed n → n ≡ get_or (x ∷ xs) i 0
    there a r zero n h k q = eqb-true n x (subst (λ z. fixed_at z x ≡ true) q a)
    there a r (suc i) n h k q = r i n (omega (arith, h)) (omega (arith, k)) q

-- "An event concerns a valuation if some symbol's constraint holds under it.": any declared symbol, whether the pattern names it or not
pub concerns_words : (ss : List Symbol) (e : Event) (σ : Valuation)
    → (concerns ss e σ ≡ true) ↔ ((s : Symbol) × Memᴰ s ss × (holds s e σ ≡ true))
unfolding concerns
concerns_words ss e σ = (any_found (λ s. holds s e σ) ss, λ (s, m, h). any_of (λ y. holds y e σ) m h)

-- "A valuation gives each variable a 32-bit number"
pub valuation_words : (n : ℕ) (σ : Valuation) → (is_valuation n σ ≡ true) ↔ ((length σ ≡ n) × ((a : ℕ) → Memᴰ a σ → a < 2 ^ 32))
unfolding is_valuation
valuation_words n σ = (
  λ h. let (a, b) = and_true_split (eqb (length σ) n) (all word32 σ) h in (eqb-true _ _ a, λ x m. ltb-true x (2 ^ 32) (all_at word32 b m)),
  λ (a, b). ap₂ ◌&&◌ (eq-eqb (length σ) n a) (all_of word32 σ (λ x m. lt-ltb x (2 ^ 32) (b x m))),
)

abbrev is_named : Parameter → Bool
is_named ignored = false
is_named (names v) = true
is_named (fixed n) = false

abbrev number_in : Parameter → ℕ
number_in ignored = 0
number_in (names v) = v
number_in (fixed n) = n

-- some bound place asks what the demand d asks
abbrev Asked : List Parameter → List ℕ → Demand → Type 0
Asked ps xs d = (i : ℕ) × (i < length ps) × (i < length xs) × (get_or ps i ignored ≡ names d.variable) × (get_or xs i 0 ≡ d.value)

-- a place that is not bound asks nothing more
asked_behind : (p : Parameter) (ps : List Parameter) (x : ℕ) (xs : List ℕ) (d : Demand) → is_named p ≡ false → Memᴰ d (demands_of ps xs) ↔ Asked ps xs d
    → Memᴰ d (demands_of ps xs) ↔ Asked (p ∷ ps) (x ∷ xs) d
asked_behind p ps x xs d n ih = (
  λ m. let (i, h, k, a, b) = ih.0 m in (suc i, omega (arith, h), omega (arith, k), a, b),
  λ (i, h, k, a, b). ih.1 (before i h k a b),
)
  where
    before : (i : ℕ) → i < suc (length ps) → i < suc (length xs) → get_or (p ∷ ps) i ignored ≡ names d.variable → get_or (x ∷ xs) i 0 ≡ d.value → Asked ps xs d
    before zero h k a b = absurd (false≢true (sym n ∙ ap is_named a))
    before (suc i) h k a b = (i, omega (arith, h), omega (arith, k), a, b)

-- the demands of a symbol's constraint: one for each bound place, with the argument that stands there
pub demand_words : (ps : List Parameter) (xs : List ℕ) (d : Demand)
    → Memᴰ d (demands_of ps xs)
    ↔ ((i : ℕ) × (i < length ps) × (i < length xs) × (get_or ps i ignored ≡ names d.variable) × (get_or xs i 0 ≡ d.value))
demand_words [] xs d = (λ m. absurd (Memᴰ.not-nil m), λ (i, h, k, a, b). absurd (omega (arith, h)))
demand_words (p ∷ ps) [] d = (λ m. absurd (Memᴰ.not-nil m), λ (i, h, k, a, b). absurd (omega (arith, k)))
demand_words (ignored ∷ ps) (x ∷ xs) d = asked_behind ignored ps x xs d refl (demand_words ps xs d)
demand_words (fixed n ∷ ps) (x ∷ xs) d = asked_behind (fixed n) ps x xs d refl (demand_words ps xs d)
demand_words (names v ∷ ps) (x ∷ xs) d =
    let ih = demand_words ps xs d in (
      found ih.0,
      λ (i, h, k, a, b). back ih.1 i h k a b,
    )
  where
    found : (Memᴰ d (demands_of ps xs) → Asked ps xs d) → Memᴰ d (record { variable = v; value = x } ∷ demands_of ps xs)
        → Asked (names v ∷ ps) (x ∷ xs) d
    found f (Memᴰ.head e) = (0, omega arith, omega arith, sym (ap (λ c. names c.variable) e), sym (ap (λ c. c.value) e))
    found f (Memᴰ.tail m) = let (i, h, k, a, b) = f m in (suc i, omega (arith, h), omega (arith, k), a, b)

    back : (Asked ps xs d → Memᴰ d (demands_of ps xs)) → (i : ℕ) → i < suc (length ps) → i < suc (length xs)
        → get_or (names v ∷ ps) i ignored ≡ names d.variable → get_or (x ∷ xs) i 0 ≡ d.value
        → Memᴰ d (record { variable = v; value = x } ∷ demands_of ps xs)
    back g zero h k a b = Memᴰ.head (ap₂ (λ y z. record { variable = y; value = z }) (sym (ap number_in a)) (sym b))
    back g (suc i) h k a b = Memᴰ.tail (g (i, omega (arith, h), omega (arith, k), a, b))

-- two demands on one variable that are not unequal ask one value
pub agreed : (c d : Demand) → compatible c d ≡ true → c.variable ≡ d.variable → c.value ≡ d.value
agreed c d k e = eqb-true c.value d.value (sym (ap (λ b. not b || eqb c.value d.value) (eq-eqb c.variable d.variable e)) ∙ k)

-- "two unequal demands on one variable": there are none
pub consistent_words : (ds : List Demand)
    → (consistent ds ≡ true) ↔ ((c d : Demand) → Memᴰ c ds → Memᴰ d ds → c.variable ≡ d.variable → c.value ≡ d.value)
consistent_words ds = (to ds, from ds)
  where
    to : (ds : List Demand) → consistent ds ≡ true → (c d : Demand) → Memᴰ c ds → Memᴰ d ds → c.variable ≡ d.variable → c.value ≡ d.value
    to [] h c d m n e = absurd (Memᴰ.not-nil m)
    to (x ∷ ds) h c d m n e =
        let (g, k) = and_true_split (all (compatible x) ds) (consistent ds) h in pick g (λ m n. to ds k c d m n e) m n
      where
        pick : all (compatible x) ds ≡ true → (Memᴰ c ds → Memᴰ d ds → c.value ≡ d.value) → Memᴰ c (x ∷ ds) → Memᴰ d (x ∷ ds)
            → c.value ≡ d.value
        pick g k (Memᴰ.head p) (Memᴰ.head q) = ap (λ z. z.value) (p ∙ sym q)
        pick g k (Memᴰ.head p) (Memᴰ.tail n) =
            rw p (agreed x d (all_at (compatible x) g n) (sym (ap (λ z. z.variable) p) ∙ e))
        pick g k (Memᴰ.tail m) (Memᴰ.head q) =
            rw q (sym (agreed x c (all_at (compatible x) g m) (sym (ap (λ z. z.variable) q) ∙ sym e)))
        pick g k (Memᴰ.tail m) (Memᴰ.tail n) = k m n

    from : (ds : List Demand) → ((c d : Demand) → Memᴰ c ds → Memᴰ d ds → c.variable ≡ d.variable → c.value ≡ d.value) → consistent ds ≡ true
    from [] f = refl
    from (x ∷ ds) f =
        ap₂ ◌&&◌ (all_of (compatible x) ds (λ d m. fit d (f x d (Memᴰ.head refl) (Memᴰ.tail m))))
        (from ds (λ c d m n. f c d (Memᴰ.tail m) (Memᴰ.tail n)))
      where
        fit : (d : Demand) → (x.variable ≡ d.variable → x.value ≡ d.value) → compatible x d ≡ true
        fit d g = go (eqb x.variable d.variable) refl
          where
            go : (b : Bool) → eqb x.variable d.variable ≡ b → (not b || eqb x.value d.value) ≡ true
            go true e = eq-eqb x.value d.value (g (eqb-true x.variable d.variable e))
            go false e = refl

-- "A symbol matches an event when the kinds are equal and the event's argument count equals the symbol's. Its constraint is then 'variable equals
-- argument' for each bound place; two unequal demands on one variable make it false, as does no match.", and as does another argument at a fixed place
pub constraint_words : (s : Symbol) (e : Event) → let ds = demands_of s.parameters e.args in
    let Holding : Type 0 = (s.kind ≡ e.kind) × (length s.parameters ≡ length e.args)
    × ((i n : ℕ) → i < length s.parameters → get_or s.parameters i ignored ≡ fixed n → n ≡ get_or e.args i 0)
    × ((c d : Demand) → Memᴰ c ds → Memᴰ d ds → c.variable ≡ d.variable → c.value ≡ d.value) in
    (Holding × (constraint_of s e ≡ demands ds)) ⊎ ((Holding → ⊥) × (constraint_of s e ≡ never))
unfolding constraint_of matches
constraint_words s e = go (matches s e && fixed_all s.parameters e.args && consistent (demands_of s.parameters e.args)) refl
  where
    f : Bool
    f = fixed_all s.parameters e.args

    ds : List Demand
    ds = demands_of s.parameters e.args

    Holding : Type 0
    Holding = (s.kind ≡ e.kind) × (length s.parameters ≡ length e.args)
        × ((i n : ℕ) → i < length s.parameters → get_or s.parameters i ignored ≡ fixed n → n ≡ get_or e.args i 0)
        × ((c d : Demand) → Memᴰ c ds → Memᴰ d ds → c.variable ≡ d.variable → c.value ≡ d.value)

    go : (b : Bool) → (matches s e && f && consistent ds) ≡ b
        → (Holding × (cond b (demands ds) never ≡ demands ds)) ⊎ ((Holding → ⊥) × (cond b (demands ds) never ≡ never))
    go true h =
        let (m, k) = and_true_split (matches s e && f) (consistent ds) h in
        let (g, j) = and_true_split (matches s e) f m in
        let (a, b) = and_true_split (eqb s.kind e.kind) _ g in
        let l = eqb-true _ _ b in
        inl ((eqb-true _ _ a, l, λ i n p. (fixed_words s.parameters e.args).0 j i n p (omega (arith, p, l)), (consistent_words ds).0 k), refl)
    go false h =
        inr (
          λ (a, b, j, k). false≢true (sym h ∙ ap₂ ◌&&◌ (ap₂ ◌&&◌ (ap₂ ◌&&◌ (eq-eqb s.kind e.kind a) (eq-eqb _ _ b))
              ((fixed_words s.parameters e.args).1 (λ i n p q. j i n p))) ((consistent_words ds).1 k)),
          refl,
        )
