-- Words read: a slot out of seven of them, an array filled with what is made of each group, an array of fillers written over, and the state
-- of what is read. For the functions that take a state out of lent words.
use mathlib.Core.Path.{◌≡◌, refl, sym, ap, ap₂, ◌∙◌}
use mathlib.Core.Bool.{Bool, true, false, cond}
use mathlib.Core.List.{List, [], ◌∷◌, ◌++◌, map}
use Prim.Native.Nat.{ℕ, zero, suc, ◌+◌, ◌-◌, ◌*◌, ◌≤◌, ◌<◌, min}
use native.Mathlib.Nat.{min-eq_left, min-eq_right}
use native.Mathlib.Omega.{arith}
use borrow.Author.Tests.{leb-true, leb-false, eq-eqb, ne_eqb}
use borrow.Rule.Slice.PartMut.{mid_of}
use lib.Dec.{leb}
use lib.ListN.{length, take, drop, get_or, set, replicate, length-take, get_or-map}
use lib.Seq.{take_all}
use Rattle.laws.specs.Parts.{front, pad}
use Rattle.laws.proofs.Arrays.{part_at}
use Rattle.laws.proofs.Fronts.{lent_rest}
use Rattle.laws.proofs.Parts.{pad_next, pad_full}
use Rattle.meaning.specs.Labels.{bound, free_disjunct}
use Rattle.slot.specs.declared.Slot.{Slot}
use Rattle.slot.specs.Slots.{slot_of}
use Rattle.disjunct.specs.declared.Disjunct.{Disjunct}
use Rattle.disjunct.specs.Disjuncts.{disjunct_of}
use Rattle.state.specs.declared.State.{State}
use Rattle.blocks.specs.Groups.{groups}
use Rattle.blocks.specs.StateBlock.{slot_in, disjunct_in, state_held, state_in, unknown_state}
use Rattle.blocks.proofs.Groups.{groups_at, made_length}

pub slot_bound : (w : List ℕ) (r : Slot) → get_or w 0 0 ≡ 7 → r ≡ slot_of (bound (get_or w 1 0)) → r ≡ slot_in w
unfolding slot_in
slot_bound w r e p = p ∙ rw e

pub slot_free : (w xs : List ℕ) → (get_or w 0 0 ≡ 7 → ⊥) → xs ≡ take 6 (drop 1 w)
    → record { bound = false; value = 0; count = get_or w 0 0; excluded = xs } ≡ slot_in w
unfolding slot_in
slot_free w xs n e = rw (ne_eqb (get_or w 0 0) 7 n) (ap (λ l. record { bound = false; value = 0; count = get_or w 0 0; excluded = l }) e)

module _ {A : Type 0} (f : List ℕ → A) (k n : ℕ) (z : A) (w : List ℕ) where
  -- what is made of each group
  abbrev made : List A
  made = map f (groups k n w)

  -- a turn of a loop that reads them: what is made of the group i in its place
  pub group_next : (i e : ℕ) {r : List A} {x : A} → i < n → e ≡ k * i + k → r ≡ pad n z (take i made) → x ≡ f (mid_of (k * i) (e - k * i) w)
      → set r i x ≡ pad n z (take (i + 1) made)
  group_next i e {r} {x} h g before new =
      let size : e - k * i ≡ k = omega arith in
      let here : x ≡ get_or made i (f []) =
      new ∙ ap (λ m. f (take m (drop (k * i) w))) size ∙ ap f (sym (groups_at k n w i h)) ∙ sym (get_or-map f (groups k n w) i []) in
      ap₂ (λ l y. set l i y) before here ∙ pad_next n z made i (f []) (omega (arith, made_length f k n w)) h

  -- all of them
  pub group_all : (i : ℕ) → n ≤ i → pad n z (take i made) ≡ made
  group_all i h = ap (pad n z) (take_all i made (omega (arith, made_length f k n w))) ∙ pad_full n z made (omega (arith, made_length f k n w))

module _ {A : Type 0} where
  -- a count above what there is
  take_least : (n m : ℕ) (l : List A) → length l ≤ m → take (min n m) l ≡ take n l
  take_least n m l h = go (leb n m) refl
    where
      go : (b : Bool) → leb n m ≡ b → take (min n m) l ≡ take n l
      go true e = ap (λ k. take k l) (min-eq_left (leb-true n m e))
      go false e =
          let over = leb-false n m e in
          let below : m ≤ n = omega arith in
          ap (λ k. take k l) (min-eq_right below) ∙ take_all m l h ∙ sym (take_all n l (omega arith))

  drop_replicate : (k n : ℕ) (d : A) → drop k (replicate n d) ≡ replicate (n - k) d
  drop_replicate zero n d = let e : n ≡ n - 0 = omega arith in ap (λ m. replicate m d) e
  drop_replicate (suc k) zero d = let e : 0 ≡ 0 - suc k = omega arith in ap (λ m. replicate m d) e
  drop_replicate (suc k) (suc n) d = let e : n - k ≡ suc n - suc k = omega arith in drop_replicate k n d ∙ ap (λ m. replicate m d) e

  -- a list over the front of an array of fillers
  pub front_filled : (n : ℕ) (d : A) (b : List A) → front b (replicate n d) ≡ pad n d b
  unfolding front pad
  front_filled n d b = ap (λ r. b ++ r) (drop_replicate (length b) n d)

-- the pool before the first turn
pub pool_none : (d : Disjunct) → d ≡ disjunct_of (free_disjunct 4) → replicate 128 d ≡ pad 128 (disjunct_of []) []
unfolding disjunct_of pad
pool_none d e = ap (replicate 128) e

-- a state of what is read
pub held_read : (w : List ℕ) (n : ℕ) (ps : List ℕ) (l : List Disjunct) → n ≡ min (get_or w 2 0) 128
    → ps ≡ pad 128 0 (take n (take 128 (mid_of 3 (length w - 3) w)))
    → l ≡ pad 128 (disjunct_of []) (take n (map disjunct_in (groups 28 128 (mid_of 131 (length w - 131) w))))
    → record { number = get_or w 1 0; count = get_or w 2 0; positions = ps; pool = l } ≡ state_held w
unfolding state_held
held_read w n ps l e p q =
    let counted = get_or w 2 0 in
    let first = take 128 (drop 3 w) in
    let all = map disjunct_in (groups 28 128 (drop 131 w)) in
    let few : length first ≤ 128 = omega (arith, length-take 128 (drop 3 w)) in
    let many : length all ≤ 128 = omega (arith, made_length disjunct_in 28 128 (drop 131 w)) in
    ap₂ (λ x y. record { number = get_or w 1 0; count = counted; positions = x; pool = y })
    (p ∙ ap (λ r. pad 128 0 (take n (take 128 r))) (lent_rest 3 w) ∙ ap (pad 128 0) (ap (λ k. take k first) e ∙ take_least counted 128 first few))
    (q ∙ ap (λ r. pad 128 (disjunct_of []) (take n (map disjunct_in (groups 28 128 r)))) (lent_rest 131 w)
    ∙ ap (pad 128 (disjunct_of [])) (ap (λ k. take k all) e ∙ take_least counted 128 all many))

-- by the number of the layout
pub state_known : (w : List ℕ) (s : State) → get_or w 0 0 ≡ 2001 → s ≡ state_held w → s ≡ state_in w
unfolding state_in
state_known w s e p = p ∙ sym (ap (λ t. cond t (state_held w) unknown_state) (eq-eqb (get_or w 0 0) 2001 e))

pub state_unknown : (w : List ℕ) (s : State) → (get_or w 0 0 ≡ 2001 → ⊥) → s ≡ unknown_state → s ≡ state_in w
unfolding state_in
state_unknown w s n p = p ∙ sym (ap (λ t. cond t (state_held w) unknown_state) (ne_eqb (get_or w 0 0) 2001 n))
