-- The loops that put one set behind another or among another, turn by turn, from the laws of lists: for `append` and `join`. The words
-- are known as the list of their 128 disjuncts only.
use mathlib.Core.Path.{◌≡◌, sym, ap, ◌∙◌}
use mathlib.Core.Bool.{true}
use mathlib.Core.List.{List, [], ◌++◌, append-nil}
use Prim.Native.Nat.{ℕ, suc, ◌+◌, ◌≤◌, ◌<◌}
use native.Mathlib.Nat.{add-zero}
use native.Mathlib.Numerals.{add-one}
use native.Mathlib.Omega.{arith}
use lib.ListN.{length, take, drop, get_or, set, drop_of_length-le}
use lib.Seq.{get_or-take, length-take-le}
use Rattle.laws.specs.Order.{ascending}
use Rattle.laws.specs.Sets.{insert, insert_all, full, grown, within}
use Rattle.laws.proofs.Sets.{insert_ascending}
use Rattle.meaning.specs.Labels.{Disjunct, compare_disjuncts}
use Rattle.automaton.proofs.Orders.{disjunct_order}
use Rattle.packed.specs.Sets.{disjuncts_in}
use Rattle.laws.proofs.Arrays.{behind_more, insert_all_more, insert_all_over}
use Rattle.laws.proofs.Turns.{counted_few, few_counted, over_counted}
use Rattle.packed.proofs.Sets.{in_length}

-- the first n disjuncts
abbrev first : ℕ → List ℕ → List Disjunct
first n w = take n (disjuncts_in w)

length_first : (n : ℕ) (w : List ℕ) → n ≤ 128 → length (first n w) ≡ n
length_first n w h = length-take-le n (disjuncts_in w) (omega (arith, in_length w))

-- `append`: the first i of f stand in v behind the first `at` of w
abbrev pub Appended : (w : List ℕ) (at : ℕ) (f : List ℕ) (i : ℕ) (v : List ℕ) → Type 0
Appended w at f i v = first (at + i) v ≡ first at w ++ first i f

pub appended_none : (w : List ℕ) (at : ℕ) (f : List ℕ) → Appended w at f 0 w
appended_none w at f = rw (add-zero at) (sym (append-nil (first at w)))

pub appended_more : (w : List ℕ) (at : ℕ) (f : List ℕ) (i : ℕ) (v u : List ℕ) (e : Disjunct) → Appended w at f i v → at + i < 128
    → e ≡ get_or (disjuncts_in f) i [] → disjuncts_in u ≡ set (disjuncts_in v) (at + i) e → Appended w at f (i + 1) u
appended_more w at f i v u e a h got put =
    let next : at + (i + 1) ≡ suc (at + i) = omega arith in
    rw (next, add-one i, put, got)
    (behind_more (disjuncts_in w) (disjuncts_in v) (disjuncts_in f) at i [] (omega (arith, in_length v)) (omega (arith, in_length f)) a)

-- `join`: the first i of the first k of f put among the first m of w are the first n of v
pub record Joined (w : List ℕ) (m : ℕ) (f : List ℕ) (k i n : ℕ) (v : List ℕ) : Type 0 where
  pub room : n ≤ 128
  pub rises : ascending compare_disjuncts (first n v) ≡ true
  pub same : insert_all compare_disjuncts (first k f) (first m w) ≡ insert_all compare_disjuncts (drop i (first k f)) (first n v)

-- a turn, in which e is put
module _ {w : List ℕ} {m : ℕ} {f : List ℕ} {k i n : ℕ} {v : List ℕ} {e : Disjunct} (j : Joined w m f k i n v) (h : k ≤ 128) (l : i < k)
    (got : e ≡ get_or (disjuncts_in f) i []) where
  joined_next : insert_all compare_disjuncts (first k f) (first m w)
      ≡ insert_all compare_disjuncts (drop (suc i) (first k f)) (insert compare_disjuncts e (first n v))
  joined_next =
      j.same ∙ insert_all_more disjunct_order (first k f) i [] (first n v) (omega (arith, length_first k f h))
      ∙ ap (λ y. insert_all compare_disjuncts (drop (suc i) (first k f)) (insert compare_disjuncts y (first n v)))
      (get_or-take k (disjuncts_in f) i [] l ∙ sym got)

  -- there are r then
  pub joined_more : (r : ℕ) (u : List ℕ) → r ≤ 128 → grown (first r u) ≡ within 128 (insert compare_disjuncts e (first n v))
      → Joined w m f k (i + 1) r u
  joined_more r u a put =
      let y = insert compare_disjuncts e (first n v) in
      let now : y ≡ first r u = (few_counted 128 (length y) y (first r u) (sym put)).1 in
      record {
        room = a;
        rises = rw (← now) (insert_ascending disjunct_order e (first n v) j.rises);
        same = rw (add-one i, ← now) joined_next;
      }

  -- there is no room for it, and so for all
  pub joined_over : full ≡ within 128 (insert compare_disjuncts e (first n v)) → full ≡ within 128 (insert_all compare_disjuncts (first k f) (first m w))
  joined_over put =
      let y = insert compare_disjuncts e (first n v) in
      sym (ap (within 128) joined_next ∙ insert_all_over disjunct_order 128 (drop (suc i) (first k f)) y (over_counted 128 (length y) y (sym put)))

pub joined_all : {w : List ℕ} {m : ℕ} {f : List ℕ} {k n : ℕ} {v : List ℕ} → Joined w m f k k n v → k ≤ 128
    → grown (first n v) ≡ within 128 (insert_all compare_disjuncts (first k f) (first m w))
joined_all {f = f} {k = k} {n = n} {v = v} j h =
    let none : drop k (first k f) ≡ [] = drop_of_length-le (first k f) {i = k} (omega (arith, length_first k f h)) in
    sym (ap (within 128) (j.same ∙ ap (λ y. insert_all compare_disjuncts y (first n v)) none)
    ∙ counted_few 128 (length (first n v)) (first n v) (omega (arith, length_first n v j.room, j.room)))
