-- A set that code keeps in the first places of an array, turn by turn: the place of an element looked for from the end, the elements
-- from there on moved up by one, and a count with what it counts. Over any order, number and cap. For the crates sets and rows, which
-- keep disjuncts and valuations so, and for advance.
use mathlib.Core.Path.{◌≡◌, refl, sym, ap, ap₂, ◌∙◌}
use mathlib.Core.Bool.{Bool, true, false, cond}
use mathlib.Core.List.{List, ◌∷◌, ◌++◌}
use Prim.Native.Nat.{ℕ, suc, ◌+◌, ◌≤◌, ◌<◌, Ordering}
use native.Mathlib.Numerals.{add-one}
use native.Mathlib.Omega.{arith}
use lib.Dec.{leb}
use lib.ListN.{length, take, drop, get_or, set, length-append, length-take, length-drop, length-set}
use lib.Seq.{drop-cons, get_or-set_same, get_or-take, length-take-le, take-take, take-set-le, take-set-lt, drop-set-lt, set_split}
use borrow.Author.Tests.{leb-true, leb-false, le-leb, lt-leb}
use Rattle.laws.specs.Order.{IsOrder, ascending}
use Rattle.laws.specs.Sets.{insert, Grown, full, grown, within}
use Rattle.laws.proofs.Lists.{taken_none}
use Rattle.laws.proofs.Arrays.{insertion_none, insertion_passed, insertion_found, insertion_behind}

-- A count with what it counts, where no more than `cap` are allowed. With n the length of l it is `within cap l`.
module _ {A : Type 0} (cap n : ℕ) (l : List A) where
  abbrev pub counted : Grown A
  counted = cond (leb n cap) (grown l) full

  pub counted_few : n ≤ cap → counted ≡ grown l
  counted_few h = rw (le-leb n cap h)

  pub counted_over : cap < n → counted ≡ full
  counted_over h = rw (lt-leb n cap h)

  -- and the other way round
  pub few_counted : (m : List A) → counted ≡ grown m → (n ≤ cap) × (l ≡ m)
  few_counted m e = go (leb n cap) refl e
    where
      go : (b : Bool) → leb n cap ≡ b → cond b (grown l) full ≡ grown m → (n ≤ cap) × (l ≡ m)
      go true p q = (leb-true n cap p, cc)
      go false p q = absurd (let z : ◌≡◌ {A = ℕ} 0 1 = cc in omega arith)

  pub over_counted : counted ≡ full → cap < n
  over_counted e = go (leb n cap) refl e
    where
      go : (b : Bool) → leb n cap ≡ b → cond b (grown l) full ≡ full → cap < n
      go true p q = absurd (let z : ◌≡◌ {A = ℕ} 0 1 = cc in omega arith)
      go false p q = leb-false n cap p

-- A search from the end: x is before each of the first n elements from i on.
pub record Passed {A : Type 0} (cmp : A → A → Ordering) (n : ℕ) (l : List A) (x : A) (i : ℕ) : Type 0 where
  pub upto : i ≤ n
  pub same : insert cmp x (take n l) ≡ insert cmp x (take i (take n l)) ++ drop i (take n l)

-- a turn of it, in which x is compared with the element j, right before i
pub record Compared {A : Type 0} (cmp : A → A → Ordering) (n : ℕ) (l : List A) (x : A) (i j : ℕ) : Type 0 where
  pub order : IsOrder cmp
  pub room : n ≤ length l
  pub rises : ascending cmp (take n l) ≡ true
  pub next : suc j ≡ i
  pub passed : Passed cmp n l x i

module _ {A : Type 0} {cmp : A → A → Ordering} {n : ℕ} {l : List A} {x : A} where
  pub passed_none : n ≤ length l → Passed cmp n l x n
  passed_none h = record { upto = omega arith; same = insertion_none cmp x (take n l) n (length-take-le n l h) }

  pub passed_all_law : {i : ℕ} → Passed cmp n l x i → i ≤ 0 → insert cmp x (take n l) ≡ x ∷ take n l
  passed_all_law {i} p h = let z : i ≡ 0 = omega arith in rw z at p.same

  module _ {i j : ℕ} (c : Compared cmp n l x i j) (d : A) where
    below : j < n
    below = omega (arith, c.passed.upto, c.next)

    inside : j < length (take n l)
    inside = omega (arith, length-take-le n l c.room, below)

    -- the element j is one of the first n
    among : {o : Ordering} → cmp x (get_or l j d) ≡ o → cmp x (get_or (take n l) j d) ≡ o
    among e = ap (cmp x) (get_or-take n l j d below) ∙ e

    before : insert cmp x (take n l) ≡ insert cmp x (take (suc j) (take n l)) ++ drop (suc j) (take n l)
    before = rw c.next c.passed.same

    pub passed_more : cmp x (get_or l j d) ≡ Ordering.lt → Passed cmp n l x j
    passed_more e = record { upto = omega (arith, below); same = insertion_passed cmp x (take n l) j d inside (among e) before }

    pub passed_found : cmp x (get_or l j d) ≡ Ordering.eq → insert cmp x (take n l) ≡ take n l
    passed_found e = insertion_found c.order x (take n l) j d c.rises inside (among e) before

    pub passed_behind : cmp x (get_or l j d) ≡ Ordering.gt → insert cmp x (take n l) ≡ take i (take n l) ++ x ∷ drop i (take n l)
    passed_behind e = rw (← c.next) (insertion_behind c.order x (take n l) j d c.rises inside (among e) before)

-- A shift from the end: of the first n elements of l those from i on stand in m one place further up, and those before as they were.
pub record Moved {A : Type 0} (n : ℕ) (l : List A) (i : ℕ) (m : List A) : Type 0 where
  pub upto : i ≤ n
  pub before : take i m ≡ take i l
  pub behind : drop (suc i) (take (suc n) m) ≡ drop i (take n l)

module _ {A : Type 0} where
  pub moved_none : (n : ℕ) (l : List A) → Moved n l n l
  moved_none n l =
      record { upto = omega arith; before = refl; behind = taken_none l (suc n) (suc n) (omega arith) ∙ sym (taken_none l n n (omega arith)) }

  -- the element j moved up
  moved_up : (n : ℕ) (l : List A) (j : ℕ) (m : List A) (d : A) → n < length l → length m ≡ length l → Moved n l (suc j) m
      → Moved n l j (set m (suc j) (get_or m j d))
  moved_up n l j m d h e g =
      let y = get_or m j d in
      let t = take (suc n) m in
      let low : j < n = omega (arith, g.upto) in
      let same : y ≡ get_or (take n l) j d =
      sym (get_or-take (suc j) m j d (omega arith)) ∙ ap (λ r. get_or r j d) g.before ∙ get_or-take (suc j) l j d (omega arith)
      ∙ sym (get_or-take n l j d low) in
      let long : suc j < length t = omega (arith, length-take (suc n) m) in
      record {
        upto = omega arith;
        before =
            take-set-le j m (suc j) y (omega arith) ∙ sym (take-take j (suc j) m (omega arith)) ∙ ap (take j) g.before
            ∙ take-take j (suc j) l (omega arith);
        behind =
            ap (drop (suc j)) (take-set-lt (suc n) m (suc j) y (omega arith)) ∙ drop-cons (set t (suc j) y) (suc j) d (rw length-set long)
            ∙ ap₂ ◌∷◌ (get_or-set_same t (suc j) y d long ∙ same) (drop-set-lt (suc (suc j)) t (suc j) y (omega arith) ∙ g.behind)
            ∙ sym (drop-cons (take n l) j d (omega (arith, length-take n l)));
      }

  -- the same as a turn has it
  pub moved_more : {n : ℕ} {l : List A} {i j : ℕ} {m k : List A} (d : A) → Moved n l i m → n < length l → length m ≡ length l → suc j ≡ i
      → k ≡ set m i (get_or m j d) → Moved n l j k
  moved_more {n} {l} {i} {j} {m} d g h e next put = rw (put, ← next) (moved_up n l j m d h e (rw next g))

-- The answers of an insertion of x among the first n of l.
module _ {A : Type 0} (cmp : A → A → Ordering) (cap n : ℕ) (l : List A) (x : A) (few : n ≤ cap) (room : n ≤ length l) where
  -- it stands there already
  pub insert_found : insert cmp x (take n l) ≡ take n l → counted cap n (take n l) ≡ within cap (insert cmp x (take n l))
  insert_found e =
      counted_few cap n (take n l) few ∙ sym (ap (within cap) e ∙ counted_few cap _ (take n l) (omega (arith, length-take n l)))

  -- it is put at k, without room for it, or into the place that has been made
  module _ (k : ℕ) (h : k ≤ n) (e : insert cmp x (take n l) ≡ take k (take n l) ++ x ∷ drop k (take n l)) where
    length_put : length (insert cmp x (take n l)) ≡ suc n
    length_put =
        ap length e ∙ length-append (take k (take n l)) (x ∷ drop k (take n l))
        ∙ omega (arith, length-take-le n l room, length-take k (take n l), length-drop k (take n l))

    pub insert_over : n ≡ cap → full ≡ within cap (insert cmp x (take n l))
    insert_over f = sym (counted_over cap _ (insert cmp x (take n l)) (omega (arith, length_put)))

    pub insert_put : (m u : List A) → n < cap → n < length m → Moved n l k m → u ≡ set m k x
        → counted cap (n + 1) (take (n + 1) u) ≡ within cap (insert cmp x (take n l))
    insert_put m u f j g put =
        let filled : take (suc n) (set m k x) ≡ insert cmp x (take n l) =
        take-set-lt (suc n) m k x (omega arith) ∙ set_split (take (suc n) m) k x (omega (arith, length-take (suc n) m))
        ∙ ap₂ (λ a b. a ++ x ∷ b) (take-take k (suc n) m (omega arith) ∙ g.before ∙ sym (take-take k n l h)) g.behind ∙ sym e in
        counted_few cap (n + 1) (take (n + 1) u) (omega arith) ∙ ap grown (rw (add-one n, put) filled)
        ∙ sym (counted_few cap _ (insert cmp x (take n l)) (omega (arith, length_put)))
