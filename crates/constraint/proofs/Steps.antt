-- What the tests of the code say, and one turn of each loop: demands gathered place by place, compared with those behind them,
-- and symbols taken one by one. For the proofs of the functions.
use mathlib.Core.Path.{◌≡◌, refl, sym, ap, ap₂, ◌∙◌}
use mathlib.Core.Bool.{Bool, true, false, cond, not, ◌&&◌, ◌||◌, or-true}
use mathlib.Core.List.{List, [], ◌∷◌, ◌++◌, map, append-nil, append_assoc, map-append}
use Prim.Native.Nat.{ℕ, suc, ◌+◌, ◌≤◌, ◌<◌}
use native.Mathlib.Numerals.{add-one}
use native.Mathlib.Nat.{sub-zero}
use native.Mathlib.Decide.{ℕ_discrete}
use native.Mathlib.Omega.{arith}
use borrow.Author.Tests.{eqb-true, leb-true, eq-eqb, ne_eqb}
use lib.Dec.{eqb, leb}
use lib.ListN.{length, take, drop, get_or, set, length-map, length-set}
use lib.Seq.{length-take-le, take-suc, take-suc-set, get_or-set_same, get_or-set_other, slice, slice-cons}
use Rattle.std.specs.Prelude.{IfSome, Option}
use Rattle.laws.specs.Lists.{all}
use Rattle.laws.proofs.Lists.{and_true_split, all_taken}
use Rattle.meaning.specs.Events as Events
use Rattle.meaning.specs.Book.{sound_parameter}
use Rattle.meaning.proofs.Holds.{demands_within}
use Rattle.table.specs.declared.Parameter.{Parameter}
use Rattle.table.specs.declared.Symbol.{Symbol}
use Rattle.table.specs.Tables.{view_parameter, view_symbol}
use Rattle.table.proofs.Spans.{ahead, ahead_none, ahead_cons}
use Rattle.table.proofs.Codes.{view_either, view_named}
use Rattle.record.specs.declared.Event.{Event}
use Rattle.record.specs.Records.{view_event}
use Rattle.demand.specs.declared.Demand.{Demand}
use Rattle.demand.specs.declared.Constraint.{Constraint}
use Rattle.demand.specs.Constraints.{view_demand, demands_in, view_constraint, no_demand, no_constraint, Ready}
use Rattle.demand.proofs.Views.{empty_demand, demand_at, demands_next, demands_end}

-- the counts are the lengths of what is counted
pub matches_counts : (y : Symbol) (e : Event) → length y.parameters ≡ 4 → y.count ≤ 4 → length e.args ≡ 4 → e.count ≤ 4
    → Events.matches (view_symbol y) (view_event e) ≡ (eqb y.kind e.kind && eqb y.count e.count)
unfolding Events.matches view_symbol view_event
matches_counts y e l h m k =
    let t = take y.count y.parameters in
    let a : length (map view_parameter t) ≡ y.count = length-map t view_parameter ∙ length-take-le y.count y.parameters (omega arith) in
    let b : length (take e.count e.args) ≡ e.count = length-take-le e.count e.args (omega arith) in
    rw (a, b)

pub same_count : (y : Symbol) (e : Event) → length y.parameters ≡ 4 → y.count ≤ 4 → length e.args ≡ 4 → e.count ≤ 4
    → Events.matches (view_symbol y) (view_event e) ≡ true → e.count ≡ y.count
same_count y e l h m k b = sym (eqb-true y.count e.count (and_true_split (eqb y.kind e.kind) _ (sym (matches_counts y e l h m k) ∙ b)).1)

-- what the tests of the code say of two demands
pub unequal : (d x : Events.Demand) → x.variable ≡ d.variable → (x.value ≡ d.value → ⊥) → Events.compatible d x ≡ false
unequal d x e v = rw (eq-eqb d.variable x.variable (sym e), ne_eqb d.value x.value (λ h. v (sym h)))

pub equal : (d x : Events.Demand) → x.value ≡ d.value → Events.compatible d x ≡ true
equal d x v =
    ap (λ (b : Bool). not (eqb d.variable x.variable) || b) (eq-eqb d.value x.value (sym v)) ∙ or-true (not (eqb d.variable x.variable))

pub apart : (d x : Events.Demand) → (x.variable ≡ d.variable → ⊥) → Events.compatible d x ≡ true
apart d x n = ap (λ (b : Bool). not b || eqb d.value x.value) (ne_eqb d.variable x.variable (λ h. n (sym h)))

-- whether d agrees with each demand from number j on
abbrev pub agrees_from : Constraint → Events.Demand → ℕ → Bool
agrees_from c d j = all (Events.compatible d) (drop j (demands_in c))

module _ (c : Constraint) (l : length c.demands ≡ 4) (few : c.count ≤ 4) where
  pub agrees_next : (d : Events.Demand) (j : ℕ) (b : Bool) → j < c.count
      → Events.compatible d (view_demand (get_or c.demands j empty_demand)) ≡ b → agrees_from c d j ≡ (b && agrees_from c d (j + 1))
  agrees_next d j b h e =
      ap (all (Events.compatible d)) (demands_next c j h (omega arith)) ∙ ap (λ (t : Bool). t && agrees_from c d (j + 1)) e

  pub agrees_none : (d : Events.Demand) (j : ℕ) → c.count ≤ j → agrees_from c d j ≡ true
  agrees_none d j h = ap (all (Events.compatible d)) (demands_end c j h)

  -- whether the demands from number i on are consistent, by the comparison of the first with the others
  pub consistent_next : (i : ℕ) {b : Bool} → i < c.count → agrees_from c (get_or (demands_in c) i no_demand) (suc i) ≡ b
      → Events.consistent (drop i (demands_in c)) ≡ (b && Events.consistent (drop (i + 1) (demands_in c)))
  consistent_next i h e =
      ap Events.consistent (demands_next c i h (omega arith))
      ∙ ap (λ (t : Bool). t && Events.consistent (drop (i + 1) (demands_in c))) (ap₂ (agrees_from c) (sym (demand_at c l few i h)) (add-one i) ∙ e)

  pub consistent_none : (i : ℕ) → c.count ≤ i → Events.consistent (drop i (demands_in c)) ≡ true
  consistent_none i h = ap Events.consistent (demands_end c i h)

-- what the tag of a place says of its demand, and of its argument
unnamed : (p : Parameter) (x : ℕ) → (p.tag ≡ 1 → ⊥) → Events.demand_of (view_parameter p) x ≡ []
unnamed p x h = view_either (λ q. Events.demand_of q x ≡ []) p (λ k. absurd (h k)) (λ _. refl) (λ _ _. refl)

pub differs : (p : Parameter) (x : ℕ) → p.tag ≡ 2 → (p.number ≡ x → ⊥) → Events.fixed_at (view_parameter p) x ≡ false
differs p x h n =
    view_either (λ q. Events.fixed_at q x ≡ false) p (λ k. absurd (omega (arith, h, k))) (λ _. ne_eqb p.number x n) (λ _ k. absurd (k h))

pub agrees_at : (p : Parameter) (x : ℕ) → p.number ≡ x → Events.fixed_at (view_parameter p) x ≡ true
agrees_at p x n = view_either (λ q. Events.fixed_at q x ≡ true) p (λ _. refl) (λ _. eq-eqb p.number x n) (λ _ _. refl)

pub unfixed : (p : Parameter) (x : ℕ) → (p.tag ≡ 2 → ⊥) → Events.fixed_at (view_parameter p) x ≡ true
unfixed p x h = view_either (λ q. Events.fixed_at q x ≡ true) p (λ _. refl) (λ k. absurd (h k)) (λ _ _. refl)

-- the place number i of a symbol
abbrev pub parameter_at : Symbol → ℕ → Parameter
parameter_at y i = get_or y.parameters i (record { tag = 0; number = 0 })

-- the counted places from number i on with their arguments: the first of them, and the others
pub places_next : {A : Type 0} (f : List Events.Parameter → List ℕ → A) (y : Symbol) (e : Event) (i : ℕ) → i < y.count → y.count ≤ 4
    → length y.parameters ≡ 4 → length e.args ≡ 4
    → f (ahead view_parameter y.parameters i y.count) (slice i y.count e.args)
    ≡ f (view_parameter (parameter_at y i) ∷ ahead view_parameter y.parameters (i + 1) y.count)
    (get_or e.args i 0 ∷ slice (i + 1) y.count e.args)
places_next f y e i h few k j =
    let a = ahead_cons view_parameter y.parameters i y.count (record { tag = 0; number = 0 }) h (omega arith) in
    let b = slice-cons i y.count e.args 0 h (omega arith) in
    rw (a, b, add-one i)

-- whether the fixed ones among the counted places from number i on have their arguments
abbrev pub fixed_from : Symbol → Event → ℕ → Bool
fixed_from y e i = Events.fixed_all (ahead view_parameter y.parameters i y.count) (slice i y.count e.args)

pub fixed_next : (y : Symbol) (e : Event) (i : ℕ) {b : Bool} → i < y.count → y.count ≤ 4 → length y.parameters ≡ 4 → length e.args ≡ 4
    → Events.fixed_at (view_parameter (parameter_at y i)) (get_or e.args i 0) ≡ b → fixed_from y e i ≡ (b && fixed_from y e (i + 1))
fixed_next y e i h few k j q = places_next Events.fixed_all y e i h few k j ∙ ap (λ (b : Bool). b && fixed_from y e (i + 1)) q

pub fixed_first : (y : Symbol) (e : Event) → e.count ≡ y.count → fixed_from y e 0 ≡ Events.fixed_all (view_symbol y).parameters (view_event e).args
unfolding view_symbol view_event
fixed_first y e h = rw (sub-zero, h)

pub fixed_end : (y : Symbol) (e : Event) (i : ℕ) → y.count ≤ i → fixed_from y e i ≡ true
fixed_end y e i h = rw (ahead_none view_parameter y.parameters i y.count h)

-- what the counted places from number i on demand
abbrev pub rest_of : Symbol → Event → ℕ → List Events.Demand
rest_of y e i = Events.demands_of (ahead view_parameter y.parameters i y.count) (slice i y.count e.args)

-- the first m of the demands l are those of the first i places
pub record Gathered (y : Symbol) (e : Event) (m i : ℕ) (l : List Demand) : Type 0 where
  pub few : m ≤ i
  pub long : length l ≡ 4
  pub whole : map view_demand (take m l) ++ rest_of y e i ≡ Events.demands_of (view_symbol y).parameters (view_event e).args

module _ (y : Symbol) (e : Event) (few : y.count ≤ 4) where
  pub gathered_none : {l : List Demand} → e.count ≡ y.count → length l ≡ 4 → Gathered y e 0 0 l
  unfolding view_symbol view_event
  gathered_none h k = record { few = omega arith; long = k; whole = rw (sub-zero, h) }

  module _ {m i : ℕ} {l : List Demand} (h : i < y.count) (k : length y.parameters ≡ 4) (j : length e.args ≡ 4) (g : Gathered y e m i l) where
    rest_next : (ds : List Events.Demand) → Events.demand_of (view_parameter (parameter_at y i)) (get_or e.args i 0) ≡ ds
        → rest_of y e i ≡ ds ++ rest_of y e (i + 1)
    rest_next ds q = places_next Events.demands_of y e i h few k j ∙ ap (λ l. l ++ rest_of y e (i + 1)) q

    pub gathered_skip : ((parameter_at y i).tag ≡ 1 → ⊥) → Gathered y e m (i + 1) l
    gathered_skip n =
        record {
          few = omega arith;
          long = g.long;
          whole = ap (λ r. map view_demand (take m l) ++ r) (sym (rest_next [] (unnamed _ _ n))) ∙ g.whole;
        }

    pub gathered_more : (parameter_at y i).tag ≡ 1
        → Gathered y e (m + 1) (i + 1) (set l m (record { variable = (parameter_at y i).number; value = get_or e.args i 0 }))
    gathered_more n =
        let d : Demand = record { variable = (parameter_at y i).number; value = get_or e.args i 0 } in
        let a : map view_demand (take (m + 1) (set l m d)) ≡ map view_demand (take m l) ++ (view_demand d ∷ []) =
        rw (add-one m, take-suc-set l m d (omega arith), map-append) in
        let b = ap (λ p. Events.demand_of p (get_or e.args i 0)) (view_named (parameter_at y i) n) in
        record {
          few = omega arith;
          long = length-set l m d ∙ g.long;
          whole = rw (a, append_assoc) (ap (λ r. map view_demand (take m l) ++ r) (sym (rest_next _ b)) ∙ g.whole);
        }

  -- when no place is left the demands are gathered, and they are ready where the places are sound
  pub gathered_all : {m i : ℕ} {l : List Demand} → all (sound_parameter 4) (view_symbol y).parameters ≡ true → i ≤ y.count → y.count ≤ i
      → Gathered y e m i l → let r : Constraint = record { count = m; demands = l } in
      (demands_in r ≡ Events.demands_of (view_symbol y).parameters (view_event e).args) × Ready r
  unfolding demands_in
  gathered_all {m} {i} {l} s u v g =
      let z : rest_of y e i ≡ [] = rw (ahead_none view_parameter y.parameters i y.count v) in
      let w : map view_demand (take m l) ≡ Events.demands_of (view_symbol y).parameters (view_event e).args =
      sym (append-nil _) ∙ ap (λ r. map view_demand (take m l) ++ r) (sym z) ∙ g.whole in
      (w, record { few = omega arith; within = rw w (demands_within 4 (view_symbol y).parameters (view_event e).args s) })

-- the constraint, by the answers of the three tests
pub constraint_by : (s : Events.Symbol) (e : Events.Event) {a b c : Bool} → Events.matches s e ≡ a → Events.fixed_all s.parameters e.args ≡ b
    → Events.consistent (Events.demands_of s.parameters e.args) ≡ c
    → Events.constraint_of s e ≡ cond (a && b && c) (Events.Constraint.demands (Events.demands_of s.parameters e.args)) Events.Constraint.never
unfolding Events.constraint_of
constraint_by s e h j k = rw (h, j, k)

-- the symbol number i of a table
abbrev pub symbol_at : List Symbol → ℕ → Symbol
symbol_at table i = get_or table i (record { kind = 0; count = 0; parameters = [] })

-- it is within the limits where the first n are
pub within_at : (table : List Symbol) (n i : ℕ) → n ≤ length table → i < n
    → all (λ y. leb y.count 4 && all (sound_parameter 4) (view_symbol y).parameters) (take n table) ≡ true
    → ((symbol_at table i).count ≤ 4) × (all (sound_parameter 4) (view_symbol (symbol_at table i)).parameters ≡ true)
within_at table n i l h a =
    let f : Symbol → Bool = λ y. leb y.count 4 && all (sound_parameter 4) (view_symbol y).parameters in
    let d : Symbol = record { kind = 0; count = 0; parameters = [] } in
    let s = and_true_split _ _ (all_taken f n table i d a l h) in
    (leb-true _ 4 s.0, s.1)

-- the first i elements of an array are the constraints of the first i symbols of a table
pub record Filled (e : Event) (table : List Symbol) (i : ℕ) (r : List (Option Constraint)) : Type 0 where
  pub long : length r ≡ 16
  pub views : map view_constraint (take i r) ≡ map (λ y. Events.constraint_of (view_symbol y) (view_event e)) (take i table)
  pub ready : (k : ℕ) → k < i → IfSome (get_or r k no_constraint) Ready

module _ {e : Event} {table : List Symbol} {r : List (Option Constraint)} where
  pub filled_none : length r ≡ 16 → Filled e table 0 r
  filled_none h = record { long = h; views = refl; ready = λ k l. absurd (omega arith) }

  pub filled_more : {i : ℕ} (x : Option Constraint) → i < 16 → i < length table
      → view_constraint x ≡ Events.constraint_of (view_symbol (symbol_at table i)) (view_event e) → IfSome x Ready → Filled e table i r → Filled e table (i + 1) (set r i x)
  filled_more {i} x h k v y d =
      let l = d.long in
      let t = take-suc table i (record { kind = 0; count = 0; parameters = [] }) k in
      record {
        long = length-set r i x ∙ l;
        views = rw (add-one i, take-suc-set r i x (omega arith), t, map-append view_constraint (take i r), map-append, d.views, v);
        ready = λ k j. go k j (ℕ_discrete k i);
      }
    where
      go : (k : ℕ) → k < i + 1 → Dec (k ≡ i) → IfSome (get_or (set r i x) k no_constraint) Ready
      go k j (yes q) = let l = d.long in rw (q, get_or-set_same r i x no_constraint (omega arith)) y
      go k j (no q) = rw (get_or-set_other r i k x no_constraint q) (d.ready k (omega arith))
