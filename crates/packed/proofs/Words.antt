-- Lent words read as entries and as disjuncts: what stands where, and what a store over an entry's words, or over four entries, does.
-- For `read_slot`, `get`, `put_slot` and `put`: every other proof knows the words as a list of disjuncts only.
use mathlib.Core.Path.{◌≡◌, refl, sym, ap, ◌∙◌}
use mathlib.Core.Bool.{Bool, cond, true, false}
use mathlib.Core.List.{List, [], ◌∷◌, map}
use mathlib.Core.Logic.{◌⊎◌, inl, inr, ⊎_elim, dite}
use Prim.Native.Nat.{ℕ, ◌+◌, ◌*◌, ◌≤◌, ◌<◌}
use native.Mathlib.Nat.{add-zero}
use native.Mathlib.Decide.{ℕ_discrete, dec_lt}
use native.Mathlib.Omega.{arith}
use lib.Dec.{eqb}
use lib.ListN.{length, take, drop, get_or, set, length-set, length-take}
use lib.Seq.{ext_get_or, get_or-set_same, get_or-set_other}
use borrow.Author.Tests.{ne_eqb}
use Rattle.laws.specs.Lists.{numbers}
use Rattle.meaning.specs.Labels.{Entry, bound, free, Disjunct, exclusions}
use Rattle.packed.specs.Sets.{entry_at, entries_in, disjuncts_in}
use Rattle.laws.proofs.Arrays.{length_of, get_d_of, maps_agree, by_index, part_at}

-- what stands there, read by its code
pub entry_bound : (w : List ℕ) (at : ℕ) → get_or w at 0 ≡ 7 → entry_at w at ≡ bound (get_or w (at + 1) 0)
unfolding entry_at
entry_bound w at e = rw e

pub entry_free : (w : List ℕ) (at : ℕ) → (get_or w at 0 ≡ 7 → ⊥) → entry_at w at ≡ free (take (get_or w at 0) (take 6 (drop (at + 1) w)))
unfolding entry_at
entry_free w at e = rw (ne_eqb (get_or w at 0) 7 e)

-- at most six values are excluded
pub entry_few : (w : List ℕ) (at : ℕ) → length (exclusions (entry_at w at)) ≤ 6
unfolding entry_at
entry_few w at = go (eqb (get_or w at 0) 7)
  where
    go : (b : Bool) → length (exclusions (cond b (bound (get_or w (at + 1) 0)) (free (take (get_or w at 0) (take 6 (drop (at + 1) w)))))) ≤ 6
    go true = omega arith
    go false = omega (arith, length-take (get_or w at 0) (take 6 (drop (at + 1) w)), length-take 6 (drop (at + 1) w))

-- words that agree in the seven places of an entry
entry_agree : (w v : List ℕ) (at : ℕ) → at + 7 ≤ length w → at + 7 ≤ length v
    → ((k : ℕ) → at ≤ k → k < at + 7 → get_or w k 0 ≡ get_or v k 0) → entry_at w at ≡ entry_at v at
unfolding entry_at
entry_agree w v at h k e =
    let behind : take 6 (drop (at + 1) w) ≡ take 6 (drop (at + 1) v) =
    part_at 0 w (at + 1) 6 (omega arith)
    ∙ maps_agree (λ k. get_or w k 0) (λ k. get_or v k 0) (at + 1) 6 (λ k a b. e k (omega arith) (omega arith))
    ∙ sym (part_at 0 v (at + 1) 6 (omega arith)) in
    rw (e at (omega arith) (omega arith), e (at + 1) (omega arith) (omega arith), behind)

length_entries : (w : List ℕ) → length (entries_in w) ≡ 512
unfolding entries_in
length_entries w = length_of (λ j. entry_at w (j * 7)) 512

entries_at : (w : List ℕ) (j : ℕ) (d : Entry) → j < 512 → get_or (entries_in w) j d ≡ entry_at w (j * 7)
unfolding entries_in
entries_at w j d h = get_d_of (λ j. entry_at w (j * 7)) 512 j d h

pub in_length : (w : List ℕ) → length (disjuncts_in w) ≡ 128
unfolding disjuncts_in
in_length w = length_of (λ i. map (λ v. entry_at w (i * 28 + v * 7)) (numbers 0 4)) 128

pub disjuncts_of : (w : List ℕ) (i : ℕ) → i < 128 → get_or (disjuncts_in w) i [] ≡ map (λ v. entry_at w (i * 28 + v * 7)) (numbers 0 4)
unfolding disjuncts_in
disjuncts_of w i h = get_d_of (λ i. map (λ v. entry_at w (i * 28 + v * 7)) (numbers 0 4)) 128 i [] h

pub disjuncts_at_law : (w : List ℕ) (i : ℕ) → i < 128
    → get_or (disjuncts_in w) i [] ≡ entry_at w (i * 28) ∷ entry_at w (i * 28 + 7) ∷ entry_at w (i * 28 + 14) ∷ entry_at w (i * 28 + 21) ∷ []
disjuncts_at_law w i h = disjuncts_of w i h ∙ simp add-zero

-- four entries make a disjunct
four_entries : (w : List ℕ) (i : ℕ) → i < 128 → get_or (disjuncts_in w) i [] ≡ map (λ v. get_or (entries_in w) (i * 4 + v) (free [])) (numbers 0 4)
four_entries w i h =
    disjuncts_of w i h
    ∙ maps_agree _ _ 0 4 (λ v a b. let e : i * 28 + v * 7 ≡ (i * 4 + v) * 7 = omega arith in
    ap (entry_at w) e ∙ sym (entries_at w (i * 4 + v) (free []) (omega arith)))

-- words written over in the seven places of entry j only change that entry only
pub entries_put : (w v : List ℕ) (j : ℕ) → j < 512 → length w ≡ 3584 → length v ≡ 3584
    → ((k : ℕ) → (k < j * 7) ⊎ (j * 7 + 7 ≤ k) → get_or v k 0 ≡ get_or w k 0) → entries_in v ≡ set (entries_in w) j (entry_at v (j * 7))
entries_put w v j h l n same =
    ext_get_or (free []) (entries_in v) (set (entries_in w) j e) (length_entries v ∙ sym (length-set (entries_in w) j e ∙ length_entries w))
    (λ i b. let m : i < 512 = omega (arith, length_entries v) in entries_at v i (free []) m ∙ go i m (ℕ_discrete i j))
  where
    e : Entry
    e = entry_at v (j * 7)

    go : (i : ℕ) → i < 512 → Dec (i ≡ j) → entry_at v (i * 7) ≡ get_or (set (entries_in w) j e) i (free [])
    go i b (yes p) = rw p (sym (get_or-set_same (entries_in w) j e (free []) (omega (arith, length_entries w))))
    go i b (no p) =
        entry_agree v w (i * 7) (omega arith) (omega arith) (λ k x y. same k (dite (dec_lt k (j * 7)) inl (λ q. inr (omega arith))))
        ∙ sym (entries_at w i (free []) b) ∙ sym (get_or-set_other (entries_in w) j i e (free []) p)

-- of the four entries of disjunct i the first n are those of D, and no others are changed
pub record Replaced (w v : List ℕ) (i : ℕ) (D : Disjunct) (n : ℕ) : Type 0 where
  pub inside : (k : ℕ) → k < n → get_or (entries_in v) (i * 4 + k) (free []) ≡ get_or D k (free [])
  pub outside : (m : ℕ) → (m < i * 4) ⊎ (i * 4 + 4 ≤ m) → get_or (entries_in v) m (free []) ≡ get_or (entries_in w) m (free [])

pub replaced_none : (w : List ℕ) (i : ℕ) (D : Disjunct) → Replaced w w i D 0
replaced_none w i D = record { inside = λ k h. absurd (omega arith); outside = λ m h. refl }

pub replaced_more : {w v u : List ℕ} {i : ℕ} {D : Disjunct} {n : ℕ} → Replaced w v i D n → i < 128 → n < 4
    → entries_in u ≡ set (entries_in v) (i * 4 + n) (get_or D n (free [])) → Replaced w u i D (n + 1)
replaced_more {w} {v} {u} {i} {D} {n} f h l p =
    let x = get_or D n (free []) in
    let at : i * 4 + n < length (entries_in v) = omega (arith, length_entries v) in
    let other : (m : ℕ) → (m ≡ i * 4 + n → ⊥) → get_or (entries_in u) m (free []) ≡ get_or (entries_in v) m (free []) =
    λ m q. ap (λ r. get_or r m (free [])) p ∙ get_or-set_other (entries_in v) (i * 4 + n) m x (free []) q in
    record {
      inside = λ k b. inside_at k b (ℕ_discrete k n);
      outside = λ m b. other m (λ q. ⊎_elim (λ a. omega arith) (λ a. omega arith) b) ∙ f.outside m b;
    }
  where
    inside_at : (k : ℕ) → k < n + 1 → Dec (k ≡ n) → get_or (entries_in u) (i * 4 + k) (free []) ≡ get_or D k (free [])
    inside_at k b (yes q) =
        rw q (ap (λ r. get_or r (i * 4 + n) (free [])) p ∙ get_or-set_same (entries_in v) (i * 4 + n) (get_or D n (free [])) (free []) (omega (arith, length_entries v)))
    inside_at k b (no q) =
        ap (λ r. get_or r (i * 4 + k) (free [])) p
        ∙ get_or-set_other (entries_in v) (i * 4 + n) (i * 4 + k) (get_or D n (free [])) (free []) (λ z. q (omega arith)) ∙ f.inside k (omega arith)

pub replaced_all : {w v : List ℕ} {i : ℕ} {D : Disjunct} → Replaced w v i D 4 → i < 128 → length D ≡ 4 → disjuncts_in v ≡ set (disjuncts_in w) i D
replaced_all {w} {v} {i} {D} f h l =
    ext_get_or [] (disjuncts_in v) (set (disjuncts_in w) i D) (in_length v ∙ sym (length-set (disjuncts_in w) i D ∙ in_length w))
    (λ n m. go n (omega (arith, in_length v)) (ℕ_discrete n i))
  where
    go : (n : ℕ) → n < 128 → Dec (n ≡ i) → get_or (disjuncts_in v) n [] ≡ get_or (set (disjuncts_in w) i D) n []
    go n m (yes q) =
        rw q (four_entries v i h
        ∙ maps_agree _ (λ k. get_or D k (free [])) 0 4 (λ k x y. f.inside k (omega arith))
        ∙ sym (by_index (free []) D 4 l) ∙ sym (get_or-set_same (disjuncts_in w) i D [] (omega (arith, in_length w))))
    go n m (no q) =
        four_entries v n m
        ∙ maps_agree _ _ 0 4 (λ k x y. f.outside (n * 4 + k) (dite (dec_lt n i) (λ t. inl (omega arith)) (λ t. inr (omega arith))))
        ∙ sym (four_entries w n m) ∙ sym (get_or-set_other (disjuncts_in w) i n D [] q)
