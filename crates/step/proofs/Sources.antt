-- A step set that grows by one source at a time: the sources that are left from the i-th held disjunct on, and what holds of
-- the set in lent words before the i-th. For the loop over what is held.
use mathlib.Core.Path.{◌≡◌, refl, sym, ap, ◌∙◌}
use mathlib.Core.Bool.{true, false, cond}
use mathlib.Core.List.{List, [], ◌∷◌}
use Prim.Native.Nat.{ℕ, ◌+◌, ◌≤◌, ◌<◌}
use Rattle.std.proofs.Common.{Some}
use native.Mathlib.Numerals.{add-one}
use native.Mathlib.Omega.{arith}
use lib.ListN.{length, take, drop, get_or, length-take}
use lib.Seq.{get_or-take, length-take-le}
use Rattle.laws.specs.Bits.{bit}
use Rattle.laws.specs.Order.{ascending}
use Rattle.laws.specs.Sets.{insert_all, Grown, full, grown, within}
use Rattle.laws.proofs.Bits.{bit_zero}
use Rattle.laws.proofs.Lists.{taken_none}
use Rattle.laws.proofs.Sets.{insert_all_ascending, length_insert_all}
use Rattle.laws.proofs.Turns.{counted_few, counted_over, few_counted, over_counted}
use Rattle.meaning.specs.Events.{Constraint}
use Rattle.meaning.specs.Labels.{Disjunct, compare_disjuncts}
use Rattle.automaton.proofs.Orders.{disjunct_order}
use Rattle.bounded.specs.Bounded.{pick, met_list}
use Rattle.bounded.proofs.Picks.{pick_next}
use Rattle.packed.specs.Sets.{disjuncts_in, grown_in}
use Rattle.packed.proofs.Sets.{in_length}
use Rattle.step.proofs.Meetings.{met_both}

-- the sources among the first n, from the i-th held disjunct on
unfoldable pub left : (q : ℕ) (ms : List ℕ) (l : List Disjunct) (n i : ℕ) → List Disjunct
left q ms l n i = pick (λ m. bit q m) (drop i (take n ms)) (drop i (take n l))

module _ (q : ℕ) (ms : List ℕ) (l : List Disjunct) (n : ℕ) where
  left_all : left q ms l n 0 ≡ pick (λ m. bit q m) (take n ms) (take n l)
  unfolding left
  left_all = refl

  left_none : (i : ℕ) → n ≤ i → left q ms l n i ≡ []
  unfolding left
  left_none i h = rw (taken_none ms n i h)

  module _ (i : ℕ) (long : n ≤ length l) (h : i < n) where
    left_next : let r = left q ms l n (i + 1) in left q ms l n i ≡ cond (bit q (get_or ms i 0)) (get_or l i [] ∷ r) r
    unfolding left
    left_next =
        pick_next (λ m. bit q m) (bit_zero q) i (take n ms) (take n l) [] (omega (arith, length-take-le n l long))
        ∙ rw (get_or-take n ms i 0 h, get_or-take n l i [] h, add-one i)

    left_taken : bit q (get_or ms i 0) ≡ true → left q ms l n i ≡ get_or l i [] ∷ left q ms l n (i + 1)
    left_taken e = left_next ∙ rw e

    left_passed : bit q (get_or ms i 0) ≡ false → left q ms l n i ≡ left q ms l n (i + 1)
    left_passed e = left_next ∙ rw e

-- m disjuncts in the words `out` before the i-th held one: the set that is wanted is that of these and of what is left
pub record Growing (c : Constraint) (q : ℕ) (ms held : List ℕ) (n : ℕ) (base : List Disjunct) (out : List ℕ) (m i : ℕ) : Type 0 where
  pub few : i ≤ n
  pub room : m ≤ 128
  pub ordered : ascending compare_disjuncts (take m (disjuncts_in out)) ≡ true
  pub same : within 128 (insert_all compare_disjuncts (met_list c (left q ms (disjuncts_in held) n i)) (take m (disjuncts_in out)))
      ≡ within 128 (insert_all compare_disjuncts (met_list c (pick (λ m. bit q m) (take n ms) (take n (disjuncts_in held)))) base)

module _ (c : Constraint) (q : ℕ) (ms held : List ℕ) (n : ℕ) (base : List Disjunct) (out : List ℕ) (m i : ℕ) where
  abbrev whole : Grown Disjunct
  whole = within 128 (insert_all compare_disjuncts (met_list c (pick (λ m. bit q m) (take n ms) (take n (disjuncts_in held)))) base)

  abbrev now_held : List Disjunct
  now_held = take m (disjuncts_in out)

  pub growing_none : base ≡ now_held → m ≤ 128 → ascending compare_disjuncts now_held ≡ true → Growing c q ms held n base out m 0
  growing_none e h o = record { few = omega arith; room = h; ordered = o; same = rw (left_all, e) }

  module _ (g : Growing c q ms held n base out m i) where
    pub growing_all : n ≤ i → grown now_held ≡ whole
    unfolding met_list
    growing_all h =
        sym (counted_few 128 (length now_held) now_held (omega (arith, g.room, length-take m (disjuncts_in out))))
        ∙ ap (λ s. within 128 (insert_all compare_disjuncts (met_list c s) now_held)) (sym (left_none q ms (disjuncts_in held) n i h)) ∙ g.same

    module _ (short : n ≤ 128) (h : i < n) where
      long : n ≤ length (disjuncts_in held)
      long = omega (arith, in_length held)

      pub growing_passed : bit q (get_or ms i 0) ≡ false → Growing c q ms held n base out m (i + 1)
      growing_passed e =
          record {
            few = omega arith;
            room = g.room;
            ordered = g.ordered;
            same = ap (λ s. within 128 (insert_all compare_disjuncts (met_list c s) now_held)) (sym (left_passed q ms (disjuncts_in held) n i long h e)) ∙ g.same;
          }

      module _ (D : Disjunct) (e : bit q (get_or ms i 0) ≡ true) (d : D ≡ get_or (disjuncts_in held) i []) where
        abbrev grew : List Disjunct
        grew = insert_all compare_disjuncts (met_list c (D ∷ [])) now_held

        abbrev after : List Disjunct
        after = left q ms (disjuncts_in held) n (i + 1)

        turn : within 128 (insert_all compare_disjuncts (met_list c after) grew) ≡ whole
        turn =
            ap (within 128) (sym (met_both c (D ∷ []) after now_held)
            ∙ ap (λ s. insert_all compare_disjuncts (met_list c s) now_held)
            (ap (λ E. E ∷ after) d ∙ sym (left_taken q ms (disjuncts_in held) n i long h e)))
            ∙ g.same

        pub growing_more : (out' : List ℕ) (m' : ℕ) → m' ≤ 128 → grown_in (Some m') out' ≡ within 128 grew → Growing c q ms held n base out' m' (i + 1)
        growing_more out' m' k a =
            let t : take m' (disjuncts_in out') ≡ grew = sym (few_counted 128 (length grew) grew _ (sym a)).1 in
            record {
              few = omega arith;
              room = k;
              ordered = ap (ascending compare_disjuncts) t ∙ insert_all_ascending disjunct_order (met_list c (D ∷ [])) now_held g.ordered;
              same = ap (λ s. within 128 (insert_all compare_disjuncts (met_list c after) s)) t ∙ turn;
            }

        pub growing_full : full ≡ within 128 grew → full ≡ whole
        growing_full a =
            let over : 128 < length grew = over_counted 128 (length grew) grew (sym a) in
            let l = insert_all compare_disjuncts (met_list c after) grew in
            sym (counted_over 128 (length l) l (omega (arith, over, length_insert_all disjunct_order (met_list c after) grew))) ∙ turn
