-- Words written: a run of stores over the front, the words of a slot, how many a slot and a disjunct have, the words of a fresh state, and
-- the three parts of a state that is stored. For the functions that put a state into lent words.
use mathlib.Core.Path.{◌≡◌, refl, sym, ap, ap₂, subst, ◌∙◌}
use mathlib.Core.Bool.{true, false}
use mathlib.Core.List.Memᴰ
use mathlib.Core.List.{List, [], ◌∷◌, ◌++◌, Memᴰ}
use mathlib.Core.Logic.{◌⊎◌, inl, inr, ⊎_elim}
use Prim.Native.Nat.{ℕ, zero, suc, ◌+◌, ◌*◌, ◌≤◌, max}
use native.Mathlib.Nat.{zero-mul, suc-mul, add_comm}
use native.Mathlib.Omega.{arith}
use borrow.Author.Tests.{leb-true}
use denote.Laws.{Is}
use denote.Shadow.{shadow}
use denote.Array.{each}
use mir.Val.{Val}
use lib.Dec.{leb}
use lib.ListN.{drop, length, take, get_or, set, replicate, replicate-append-replicate}
use lib.Seq.{sets}
use Rattle.laws.specs.Lists.{gather}
use Rattle.laws.specs.Parts.{front, splice, pad}
use Rattle.laws.proofs.Lists.{all_at}
use Rattle.laws.proofs.Arrays.{by_index}
use Rattle.laws.proofs.Fronts.{gather_length, sets_front}
use Rattle.laws.proofs.Parts.{pad_length}
use Rattle.meaning.specs.Labels.{Entry, bound, free, exclusions, fresh}
use Rattle.slot.specs.declared.Slot.{Slot}
use Rattle.slot.specs.Slots.{view_slot, slot_of}
use Rattle.slot.proofs.Slots.{view_slot_law}
use Rattle.disjunct.specs.declared.Disjunct.{Disjunct}
use Rattle.disjunct.specs.Disjuncts.{view_disjunct, disjunct_of}
use Rattle.disjunct.proofs.Disjuncts.{Sized, few_disjunct, view_length, sized}
use Rattle.disjunct.specs.contracts.Disjunct as disjuncts
use Rattle.state.specs.declared.State.{State}
use Rattle.state.specs.States.{state_of}
use Rattle.state.specs.contracts.State as states
use Rattle.blocks.specs.StateBlock.{entry_words, group_words, state_head, state_words, state_stored}
use Rattle.blocks.proofs.States.{entry_length}

module _ (d : Disjunct) (s : Sized d) where
  pub entries_sized : (x : Entry) → Memᴰ x (view_disjunct d) → length (entry_words x) ≡ 7
  entries_sized x m = entry_length x (leb-true _ _ (all_at (λ y. leb (length (exclusions y)) 6) (few_disjunct d s.six) m))

  group_sized : length (group_words d) ≡ 28
  unfolding group_words
  group_sized = gather_length entry_words 7 (view_disjunct d) entries_sized ∙ ap (λ n. n * 7) (view_length d s.four)

-- what the type tells of each disjunct of an array that is a parameter
sized_each : (l : List Disjunct) (us : List Val) → shadow (each (disjuncts.the_row).Denot (disjuncts.the_row).own_val l us)
    → (d : Disjunct) → Memᴰ d l → Sized d
sized_each [] us h d m = absurd (Memᴰ.not-nil m)
sized_each (x ∷ l) [] h d m = absurd h
sized_each (x ∷ l) (u ∷ us) h d m = ⊎_elim (λ e. subst Sized (sym e) (sized x h.0)) (sized_each l us h.1 d) (Memᴰ.cases_cons m)

pub pool_sized : (l : List Disjunct) (us : List Val) → shadow (each (disjuncts.the_row).Denot (disjuncts.the_row).own_val l us)
    → (d : Disjunct) → Memᴰ d l → length (group_words d) ≡ 28
pool_sized l us h d m = group_sized d (sized_each l us h d m)

-- By which way the code and the word behind it come from a tidy slot: a value, or the count and the first of the exclusions.
abbrev Coded : Slot → (n code first : ℕ) → Type 0
Coded t n code first = ((t.bound ≡ true) × (code ≡ 7) × (first ≡ t.value)) ⊎ ((t.bound ≡ false) × (code ≡ n) × (first ≡ get_or t.excluded 0 0))

-- what is stored then
abbrev stored : Slot → (code first : ℕ) → List ℕ
stored t code first = let x : ℕ → ℕ = λ k. get_or t.excluded k 0 in code ∷ first ∷ x 1 ∷ x 2 ∷ x 3 ∷ x 4 ∷ x 5 ∷ []

stored_words : (e : Entry) (n code first : ℕ) → n ≡ length (exclusions e) → n ≤ 6 → Coded (slot_of e) n code first → stored (slot_of e) code first ≡ entry_words e
unfolding slot_of
stored_words (bound a) n code first h k (inl (t, p, q)) = ap₂ (λ x y. x ∷ y ∷ replicate 5 0) p q
stored_words (bound a) n code first h k (inr (t, p, q)) = let z : ◌≡◌ {A = ℕ} 0 1 = cc in absurd (omega arith)
stored_words (free xs) n code first h k (inl (t, p, q)) = let z : ◌≡◌ {A = ℕ} 0 1 = cc in absurd (omega arith)
stored_words (free xs) n code first h k (inr (t, p, q)) =
    let l = pad 6 0 xs in
    let x : ℕ → ℕ = λ k. get_or l k 0 in
    let six : length l ≡ 6 = pad_length 6 0 xs (omega arith) in
    ap₂ (λ c y. c ∷ y ∷ x 1 ∷ x 2 ∷ x 3 ∷ x 4 ∷ x 5 ∷ []) (p ∙ h) q ∙ ap (λ r. length xs ∷ r) (sym (by_index 0 l 6 six))

pub slot_written : (s t : Slot) (n code first : ℕ) (w : List ℕ) → t ≡ slot_of (view_slot s) → n ≡ length (exclusions (view_slot t)) → n ≤ 6
    → Coded t n code first → stored t code first ++ drop 7 w ≡ front (entry_words (view_slot s)) w
unfolding front
slot_written s t n code first w p size few came =
    let e = view_slot s in
    let counted : n ≡ length (exclusions e) = size ∙ ap (λ x. length (exclusions x)) (ap view_slot p ∙ view_slot_law e) in
    ap (λ r. front r w)
    (ap (λ r. stored r code first) p ∙ stored_words e n code first counted few (subst (λ r. Coded r n code first) p came))

-- zeros, one group after the other
gather_zeros : {A : Type 0} (g : A → List ℕ) (x : A) (k : ℕ) → g x ≡ replicate k 0 → (n : ℕ) → gather g (replicate n x) ≡ replicate (n * k) 0
gather_zeros g x k h zero = ap (λ m. replicate m 0) (sym (zero-mul k))
gather_zeros g x k h (suc n) =
    ap₂ ◌++◌ h (gather_zeros g x k h n) ∙ replicate-append-replicate k (n * k) 0
    ∙ ap (λ m. replicate m 0) (add_comm k (n * k) ∙ sym (suc-mul n k))

free_group : group_words (disjunct_of []) ≡ replicate 28 0
unfolding group_words view_disjunct disjunct_of view_slot slot_of pad
free_group = refl

-- so many places, all free: zeros behind the number of the layout
fresh_places : (n p m : ℕ) → n ≡ 3 + (p + m * 28)
    → set (replicate n 0) 0 2001 ≡ state_words (record { number = 0; count = 0; positions = replicate p 0; pool = replicate m (disjunct_of []) })
unfolding state_words
fresh_places n p m h =
    let e : n ≡ suc (suc (suc (p + m * 28))) = omega arith in
    ap (λ k. set (replicate k 0) 0 2001) e
    ∙ ap (λ r. 2001 ∷ 0 ∷ 0 ∷ r) (sym (replicate-append-replicate p (m * 28) 0))
    ∙ ap (λ r. 2001 ∷ 0 ∷ 0 ∷ (replicate p 0 ++ r)) (sym (gather_zeros group_words (disjunct_of []) 28 free_group m))

pub fresh_words : (n : ℕ) → n ≡ 3715 → set (replicate n 0) 0 2001 ≡ state_words (state_of fresh)
unfolding state_of pad
fresh_words n h = fresh_places n 128 128 (omega arith)

-- what the type tells of a state
pub positions_sized : (s : State) {vs : List Val} → Is states.the_row s vs → length s.positions ≡ 128
positions_sized s h = h.1.1.1.1.0.1.0.1

-- `store`: the words before the positions, the positions, and the groups, one after the other
pub stored_thrice : (w h v r : List ℕ) (old m : ℕ) (s : State) → old ≡ get_or w 2 0 → m ≡ max old s.count → h ≡ front (state_head s) w
    → v ≡ splice 3 (take m s.positions) h → r ≡ splice 131 (gather group_words (take m s.pool)) v → r ≡ state_stored w s
unfolding state_stored splice
stored_thrice w h v r old m s at most first second third =
    let e : m ≡ max (get_or w 2 0) s.count = most ∙ ap (λ k. max k s.count) at in
    third
    ∙ ap₂ (λ k l. splice 131 (gather group_words (take k s.pool)) l) e
    (second ∙ ap₂ (λ k l. splice 3 (take k s.positions) l) e first)
