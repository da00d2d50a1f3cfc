-- The order of what is held: a comparison told by the numbers of its answers, two held disjuncts compared through their tidied
-- forms, and the held disjuncts of a state by their index. For `before` and `sound_order`.
use mathlib.Core.Path.{◌≡◌, refl, sym, ap, ap₂, ◌∙◌}
use mathlib.Core.Bool.{Bool, true, false}
use mathlib.Core.List.{List, [], ◌∷◌, map}
use Prim.Native.Nat.{ℕ, zero, suc, ◌-◌, ◌≤◌, ◌<◌, compare, Ordering}
use native.Mathlib.Nat.{not-suc-le-zero, le_of_suc-le-suc}
use native.Mathlib.Omega.{arith}
use lib.Dec.{eqb}
use lib.ListN.{length, take, get_or, length-map, length-take, get_or-map}
use lib.Seq.{length-take-le, get_or-take}
use Rattle.laws.specs.Order.{is_less}
use Rattle.laws.proofs.Order.{compare_order, compare_lt, lt_compare, gt_compare}
use Rattle.meaning.specs.Labels.{Held, held_at, compare_held, compare_disjuncts, held_of}
use Rattle.meaning.specs.Labels as Labels
use Rattle.meaning.specs.Wide.{wide}
use Rattle.automaton.proofs.Held.{held_of_length}
use Rattle.bounded.proofs.WideDisjuncts.{wide_compare}
use Rattle.slot.specs.declared.Order.{Order}
use Rattle.slot.specs.declared.Order.TheVariants.{Before}
use Rattle.slot.specs.Slots.{rank}
use Rattle.disjunct.specs.declared.Disjunct.{Disjunct}
use Rattle.disjunct.specs.Disjuncts.{view_disjunct, disjunct_of}
use Rattle.disjunct.proofs.Disjuncts.{view_disjunct_law, view_length}
use Rattle.state.specs.declared.State.{State}
use Rattle.state.specs.States.{held_first}

pub less_true : (a b : ℕ) → a < b → true ≡ is_less (compare a b)
less_true a b h = sym (ap is_less (lt_compare a b h))

pub less_false : (a b : ℕ) → b ≤ a → false ≡ is_less (compare a b)
less_false a b h = go (compare a b) refl
  where
    go : (o : Ordering) → compare a b ≡ o → false ≡ is_less o
    go Ordering.lt e = absurd (omega (arith, compare_lt a b e))
    go Ordering.eq e = refl
    go Ordering.gt e = refl

less_rank : (o : Ordering) → rank o ≡ Before → true ≡ is_less o
less_rank Ordering.lt h = refl
less_rank Ordering.eq h = cc
less_rank Ordering.gt h = cc

more_rank : (o : Ordering) → (rank o ≡ Before → ⊥) → false ≡ is_less o
more_rank Ordering.lt h = absurd (h refl)
more_rank Ordering.eq h = refl
more_rank Ordering.gt h = refl

-- two held disjuncts at different positions
pub held_before : (p q : ℕ) (D E : Labels.Disjunct) → p < q → true ≡ is_less (compare_held (held_at p D) (held_at q E))
held_before p q D E h = rw (lt_compare p q h)

pub held_after_law : (p q : ℕ) (D E : Labels.Disjunct) → q < p → false ≡ is_less (compare_held (held_at p D) (held_at q E))
held_after_law p q D E h = rw (gt_compare p q h)

-- tidied to n variables, two disjuncts compare as their first n variables do
tidied_compare : (n : ℕ) (d e : Disjunct) → length d.vars ≡ 4 → length e.vars ≡ 4
    → compare_disjuncts (view_disjunct (disjunct_of (take n (view_disjunct d)))) (view_disjunct (disjunct_of (take n (view_disjunct e))))
    ≡ compare_disjuncts (take n (view_disjunct d)) (take n (view_disjunct e))
unfolding wide
tidied_compare n d e g h =
    let D = take n (view_disjunct d) in
    let E = take n (view_disjunct e) in
    ap₂ compare_disjuncts (view_disjunct_law D) (view_disjunct_law E)
    ∙ wide_compare D E (length-take n (view_disjunct d) ∙ rw (view_length d g, ← view_length e h) (sym (length-take n (view_disjunct e))))

-- two held disjuncts at one position, by the answer o to the comparison of their tidied forms
module _ (p q n : ℕ) (d e x y : Disjunct) {o : Order} (g : length d.vars ≡ 4) (h : length e.vars ≡ 4) (z : p ≡ q)
    (a : x ≡ disjunct_of (take n (view_disjunct d))) (b : y ≡ disjunct_of (take n (view_disjunct e)))
    (r : o ≡ rank (compare_disjuncts (view_disjunct x) (view_disjunct y))) where
  -- how the two compare
  same : Ordering
  same = compare_disjuncts (take n (view_disjunct d)) (take n (view_disjunct e))

  told : o ≡ rank same
  unfolding same
  told = r ∙ rw (a, b, tidied_compare n d e g h)

  held_same : o ≡ Before → true ≡ is_less (compare_held (held_at p (take n (view_disjunct d))) (held_at q (take n (view_disjunct e))))
  unfolding same
  held_same k = rw (z, compare_order.self q) (less_rank same (sym told ∙ k))

  held_other : (o ≡ Before → ⊥) → false ≡ is_less (compare_held (held_at p (take n (view_disjunct d))) (held_at q (take n (view_disjunct e))))
  unfolding same
  held_other k = rw (z, compare_order.self q) (more_rank same (λ m. k (told ∙ m)))

  -- by the answer of a test whether o is `Before`
  pub held_told : (t : Bool) → (t ≡ true → o ≡ Before) → (t ≡ false → o ≡ Before → ⊥)
      → t ≡ is_less (compare_held (held_at p (take n (view_disjunct d))) (held_at q (take n (view_disjunct e))))
  held_told true f k = held_same (f refl)
  held_told false f k = held_other (k refl)

-- what is held, by its index
held_of_at : (ps : List ℕ) (l : List Labels.Disjunct) (i a : ℕ) (D : Labels.Disjunct) (h : Held) → i < length ps → i < length l
    → get_or (held_of ps l) i h ≡ held_at (get_or ps i a) (get_or l i D)
held_of_at [] l i a D h j k = absurd (not-suc-le-zero j)
held_of_at (p ∷ ps) [] i a D h j k = absurd (not-suc-le-zero k)
held_of_at (p ∷ ps) (E ∷ l) zero a D h j k = refl
held_of_at (p ∷ ps) (E ∷ l) (suc i) a D h j k = held_of_at ps l i a D h (le_of_suc-le-suc j) (le_of_suc-le-suc k)

module _ (n : ℕ) (s : State) (g : s.count ≤ length s.positions) (h : s.count ≤ length s.pool) where
  taken : length (map (λ d. take n (view_disjunct d)) (take s.count s.pool)) ≡ s.count
  taken = length-map (take s.count s.pool) (λ d. take n (view_disjunct d)) ∙ length-take-le s.count s.pool h

  pub held_length : length (held_first n s) ≡ s.count
  unfolding held_first
  held_length =
      let e = length-take-le s.count s.positions g in
      let l = map (λ d. take n (view_disjunct d)) (take s.count s.pool) in
      held_of_length (take s.count s.positions) l (e ∙ sym taken) ∙ taken

  pub held_at_law : (i : ℕ) (x : Held) (d : Disjunct) → i < s.count
      → get_or (held_first n s) i x ≡ held_at (get_or s.positions i 0) (take n (view_disjunct (get_or s.pool i d)))
  unfolding held_first
  held_at_law i x d k =
      let f : Disjunct → Labels.Disjunct = λ z. take n (view_disjunct z) in
      held_of_at (take s.count s.positions) (map f (take s.count s.pool)) i 0 (f d) x
      (omega (arith, length-take-le s.count s.positions g)) (omega (arith, taken))
      ∙ ap₂ held_at (get_or-take s.count s.positions i 0 k)
      (get_or-map f (take s.count s.pool) i d ∙ ap f (get_or-take s.count s.pool i d k))

  -- two held disjuncts, one after the other
  pub held_less : (i : ℕ) (x : Held) (d : Disjunct) → 1 ≤ i → i < s.count → {r : Bool}
      → r ≡ is_less (compare_held (held_at (get_or s.positions (i - 1) 0) (take n (view_disjunct (get_or s.pool (i - 1) d))))
      (held_at (get_or s.positions i 0) (take n (view_disjunct (get_or s.pool i d)))))
      → r ≡ is_less (compare_held (get_or (held_first n s) (i - 1) x) (get_or (held_first n s) i x))
  held_less i x d j k e = e ∙ sym (ap₂ (λ a b. is_less (compare_held a b)) (held_at_law (i - 1) x d (omega arith)) (held_at_law i x d k))
