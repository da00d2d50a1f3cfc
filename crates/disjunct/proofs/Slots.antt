-- What the functions of this crate share: a slot of a disjunct against its entry, an array of slots written in one place, or filled
-- from the front, and a lexicographic comparison by its first elements.
use mathlib.Core.Path.{◌≡◌, refl, sym, ap, ap₂, ◌∙◌}
use mathlib.Core.Bool.{Bool, true, false, cond, not, ◌||◌}
use Rattle.std.specs.List.{list_any}
use Rattle.laws.specs.Lists.{any}
use mathlib.Core.List.{List, [], ◌∷◌, map}
use Prim.Native.Nat.{ℕ, zero, suc, ◌+◌, ◌≤◌, ◌<◌, compare, Ordering}
use native.Mathlib.Numerals.{add-one}
use native.Mathlib.Omega.{arith}
use lib.ListN.{length, take, drop, get_or, set, length-map, drop_of_length-le, get_or-map}
use lib.Seq.{drop-cons}
use Rattle.laws.specs.Order.{and_then, lex}
use Rattle.laws.specs.Parts.{pad}
use Rattle.laws.proofs.Maps.{take_map}
use Rattle.laws.proofs.Parts.{pad_next}
use Rattle.meaning.specs.Labels as Labels
use Rattle.meaning.specs.Labels.{Entry, bound, free, entry_of, is_free, value_key, exclusions, compare_disjuncts}
use Rattle.meaning.specs.Rows.{value_of}
use Rattle.slot.specs.declared.Slot.{Slot}
use Rattle.slot.specs.declared.Order.{Order}
use Rattle.slot.specs.declared.Order.TheVariants.{Same}
use Rattle.slot.specs.Slots.{view_slot, slot_of, rank}
use Rattle.slot.proofs.Slots.{then_first, then_second}
use Rattle.disjunct.specs.declared.Disjunct.{Disjunct}
use Rattle.disjunct.specs.Disjuncts.{view_disjunct, disjunct_of}
use Rattle.disjunct.proofs.Disjuncts.{view_length}

-- what the kit reads past an array's end
abbrev pub no_slot : Slot
no_slot = record { bound = false; value = 0; count = 0; excluded = [] }

pub entry_at : (d : Disjunct) (v : ℕ) → entry_of (view_disjunct d) v ≡ view_slot (get_or d.vars v no_slot)
unfolding view_disjunct view_slot
entry_at d v = get_or-map view_slot d.vars v no_slot

-- a key of the entry v
pub key_at : {A : Type 0} (key : Entry → A) (d : Disjunct) (v : ℕ)
    → get_or (map key (view_disjunct d)) v (key (free [])) ≡ key (view_slot (get_or d.vars v no_slot))
key_at key d v = get_or-map key (view_disjunct d) v (free []) ∙ ap key (entry_at d v)

map_set : {A B : Type 0} (f : A → B) (l : List A) (i : ℕ) (a : A) → map f (set l i a) ≡ set (map f l) i (f a)
map_set f [] i a = refl
map_set f (x ∷ l) zero a = refl
map_set f (x ∷ l) (suc i) a = ap (λ r. f x ∷ r) (map_set f l i a)

-- one slot written
pub view_set : (d : Disjunct) (v : ℕ) (s : Slot) → view_disjunct (record { vars = set d.vars v s }) ≡ set (view_disjunct d) v (view_slot s)
unfolding view_disjunct
view_set d v s = map_set view_slot d.vars v s

free_by : (b : Bool) (a : ℕ) (xs : List ℕ) → not b ≡ is_free (cond b (bound a) (free xs))
free_by true a xs = refl
free_by false a xs = refl

pub free_slot : (s : Slot) → not s.bound ≡ is_free (view_slot s)
unfolding view_slot
free_slot s = free_by s.bound s.value (take s.count s.excluded)

value_by : (b : Bool) (a : ℕ) (xs : List ℕ) → cond b a 0 ≡ value_of (cond b (bound a) (free xs))
value_by true a xs = refl
value_by false a xs = refl

pub value_slot : (s : Slot) → cond s.bound s.value 0 ≡ value_of (view_slot s)
unfolding view_slot
value_slot s = value_by s.bound s.value (take s.count s.excluded)

-- whether one of the slots is free
pub free_slots : (l : List Slot) → list_any (λ s. not s.bound) l ≡ any is_free (map view_slot l)
free_slots [] = refl
free_slots (s ∷ l) = ap₂ ◌||◌ (free_slot s) (free_slots l)

-- the first i variables, coded, and variable i in its place
pub coded_next : (D : Labels.Disjunct) (i : ℕ) → i < 4 → 4 ≤ length D
    → ◌≡◌ {A = Disjunct} (record { vars = set (disjunct_of (take i D)).vars i (slot_of (entry_of D i)) }) (disjunct_of (take (i + 1) D))
unfolding disjunct_of
coded_next D i h g =
    let z = slot_of (free []) in
    let n = length-map D slot_of in
    ap (λ l. record { vars = l })
    (ap₂ (λ l x. set (pad 4 z l) i x) (sym (take_map slot_of i D)) (sym (get_or-map slot_of D i (free [])))
    ∙ pad_next 4 z (map slot_of D) i z (omega arith) h ∙ ap (pad 4 z) (take_map slot_of (i + 1) D))

-- values that differ decide the order of two disjuncts; those that do not leave it to the exclusions
pub order_by_values : (D E : Labels.Disjunct) (o : Order) → o ≡ rank (lex compare (map value_key D) (map value_key E)) → (o ≡ Same → ⊥)
    → o ≡ rank (compare_disjuncts D E)
unfolding compare_disjuncts
order_by_values D E o h n =
    let p = lex compare (map value_key D) (map value_key E) in
    h ∙ sym (then_first p (lex (lex compare) (map exclusions D) (map exclusions E)) (λ e. n (h ∙ e)))

pub order_by_exclusions : (D E : Labels.Disjunct) (o : Order) → o ≡ rank (lex compare (map value_key D) (map value_key E)) → o ≡ Same
    → rank (lex (lex compare) (map exclusions D) (map exclusions E)) ≡ rank (compare_disjuncts D E)
unfolding compare_disjuncts
order_by_exclusions D E o h e =
    let q = lex (lex compare) (map exclusions D) (map exclusions E) in
    sym (ap rank (then_second (lex compare (map value_key D) (map value_key E)) q (sym h ∙ e)))

-- two disjuncts compared by a key of each variable, from variable i on
module _ {A : Type 0} (cmp : A → A → Ordering) (key : Entry → A) (d e : Disjunct) where
  abbrev pub from : ℕ → Ordering
  from i = lex cmp (drop i (map key (view_disjunct d))) (drop i (map key (view_disjunct e)))

  -- the comparison of variable i
  abbrev pub here : ℕ → Ordering
  here i = cmp (key (view_slot (get_or d.vars i no_slot))) (key (view_slot (get_or e.vars i no_slot)))

  module _ (g : length d.vars ≡ 4) (h : length e.vars ≡ 4) where
    keys : (x : Disjunct) → length x.vars ≡ 4 → length (map key (view_disjunct x)) ≡ 4
    keys x f = length-map (view_disjunct x) key ∙ view_length x f

    from_next : (i : ℕ) → i < 4 → from i ≡ and_then (here i) (from (i + 1))
    from_next i k =
        let z = key (free []) in
        let m = map key (view_disjunct d) in
        let n = map key (view_disjunct e) in
        ap₂ (lex cmp) (drop-cons m i z (omega (arith, keys d g))) (drop-cons n i z (omega (arith, keys e h)))
        ∙ ap₂ (λ a b. and_then (cmp a b) (lex cmp (drop (suc i) m) (drop (suc i) n))) (key_at key d i) (key_at key e i)
        ∙ ap (λ j. and_then (here i) (from j)) (sym (add-one i))

    pub from_differs : (i : ℕ) (o : Order) → i < 4 → o ≡ rank (here i) → (o ≡ Same → ⊥) → o ≡ rank (from i)
    from_differs i o k r n = r ∙ sym (ap rank (from_next i k) ∙ then_first (here i) (from (i + 1)) (λ q. n (r ∙ q)))

    pub from_same : (i : ℕ) (o : Order) → i < 4 → o ≡ rank (here i) → o ≡ Same → from (i + 1) ≡ from i
    from_same i o k r q = sym (from_next i k ∙ then_second (here i) (from (i + 1)) (sym r ∙ q))

    pub from_end : (i : ℕ) → 4 ≤ i → from i ≡ Ordering.eq
    from_end i k =
        let m = map key (view_disjunct d) in
        let n = map key (view_disjunct e) in
        let a : length m ≤ i = omega (arith, keys d g) in
        let b : length n ≤ i = omega (arith, keys e h) in
        ap₂ (lex cmp) (drop_of_length-le m a) (drop_of_length-le n b)
