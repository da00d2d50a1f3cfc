-- The bound on the depth of calls in the reader of patterns is more than they use: with `enough` and more the result is the same,
-- so that each of the three readers is one step over the others; and where a reading without fault ends.
use mathlib.Core.Path.{◌≡◌, refl, ap, ◌∙◌}
use mathlib.Core.Bool.{Bool, true, false, cond, ◌||◌}
use Prim.Native.Nat.{ℕ, zero, suc, ◌+◌, ◌-◌, ◌≤◌, ◌<◌}
use native.Mathlib.Omega.{arith}
use borrow.Author.Tests.{eqb-true, eqb-false, leb-false}
use mathlib.Core.List.{List, [], ◌∷◌}
use lib.Dec.{eqb, leb, ltb}
use lib.ListN.{length, drop, length-drop}
use Rattle.laws.proofs.Lists.{or_false_split, either}
use Rattle.pattern.specs.Regex.{Regex, cat, alt}
use Rattle.pattern.specs.Positions.{size}
use Rattle.form.specs.Text.{Bytes, is_lower, Span, space}
use Rattle.form.specs.Phrase.{opening, closing, bar, asterisk, plus_sign, question}
use Rattle.form.specs.Limits.{text_limit}
use Rattle.form.specs.Scan.{at, past_end, fail, spaces_end, name_end, part}
use Rattle.form.specs.Lines.{index_of}
use Rattle.form.specs.Parse.{Parsed, failed, item_of, name_atom, closed, unfit, begins_item, joined, enough, alternation_from, sequence_from, atom_from}
use Rattle.pattern.specs.Positions.{occurrence_limit}
use Rattle.form.specs.Parse.{postfix_on}
use Rattle.parsing.proofs.Scans.{spaces_end_le, spaces_end_ge, name_end_le, name_end_gt}
use Rattle.parsing.proofs.Faults.{before_end}

-- a way of a test matters only where the test goes that way
agree : {A : Type 0} (b : Bool) {x x' y y' : A} → (b ≡ true → x ≡ x') → (b ≡ false → y ≡ y') → cond b x y ≡ cond b x' y'
agree true f g = f refl
agree false f g = g refl

-- one step of each reader, given what the others read
module _ (s : Bytes) where
  unfoldable pub alternation_step : (a b : Parsed) → Parsed
  alternation_step a b = cond (eqb a.step.fault 0) (cond (eqb (at s (spaces_end s a.step.place)) bar) (joined alt a b) a) a

  unfoldable pub sequence_step : (a b : Parsed) → Parsed
  sequence_step a b = cond (eqb a.step.fault 0) (cond (begins_item (at s (spaces_end s a.step.place))) (joined cat a b) a) a

  unfoldable pub atom_step : List Span → (depth used p : ℕ) (inner : Parsed) → Parsed
  atom_step symbols d k p inner =
      let q = spaces_end s p in
      cond (is_lower (at s q)) (name_atom s symbols k q)
      (cond (eqb (at s q) opening) (cond (eqb d 0) (failed (fail 3 q)) (closed s inner)) (failed (unfit s q)))

module _ (s : Bytes) (short : length s ≤ text_limit) (symbols : List Span) where
  -- a reading without fault ends behind its start, inside the text, and keeps the limit of occurrences
  pub record Ends (k p : ℕ) (a : Parsed) : Type 0 where
    pub inside : a.step.place ≤ length s
    pub beyond : a.step.fault ≡ 0 → p < a.step.place
    pub few : a.step.fault ≡ 0 → k + size a.tree ≤ 31

  -- what holds of both ways of a test, of the ends
  way : (k p : ℕ) (b : Bool) {x y : Parsed} → (b ≡ true → Ends k p x) → (b ≡ false → Ends k p y) → Ends k p (cond b x y)
  way k p b f g = either (Ends k p) b f g

  -- a fault ends where it stands
  fault_ends : (k p n q : ℕ) → 0 < n → q ≤ length s → Ends k p (failed (fail n q))
  fault_ends k p n q h i = record { inside = i; beyond = λ e. omega arith; few = λ e. omega arith }

  unfit_ends : (k p q : ℕ) → q ≤ length s → Ends k p (failed (unfit s q))
  unfit_ends k p q i = fault_ends k p _ q (either (λ n. 0 < n) (eqb (at s q) past_end) (λ _. omega arith) λ _. omega arith) i

  postfix_ends : (k p : ℕ) (l : Bytes) (here done : ℕ) (r : Regex) → here + length l ≤ length s → done ≤ here → p < done → k + size r ≤ 31
      → Ends k p (postfix_on l here done r)
  postfix_ends k p [] here done r h i b f = record { inside = omega arith; beyond = λ _. b; few = λ _. f }
  postfix_ends k p (c ∷ l) here done r h i b f =
      way k p (eqb c space) (λ _. postfix_ends k p l _ done r (omega arith) (omega arith) b f)
      λ _. way k p (eqb c asterisk) (λ _. postfix_ends k p l _ _ _ (omega arith) (omega arith) (omega arith) f)
      λ _. way k p (eqb c plus_sign) (λ _. postfix_ends k p l _ _ _ (omega arith) (omega arith) (omega arith) f)
      λ _. way k p (eqb c question) (λ _. postfix_ends k p l _ _ _ (omega arith) (omega arith) (omega arith) f)
      λ _. record { inside = omega arith; beyond = λ _. b; few = λ _. f }

  pub item_ends : (k p : ℕ) (a : Parsed) → Ends k p a → Ends k p (item_of s a)
  unfolding item_of
  item_ends k p a e =
      let q = a.step.place in
      way k p (eqb a.step.fault 0)
      (λ t. let z = eqb-true a.step.fault 0 t in
      postfix_ends k p (drop q s) q q a.tree (omega (arith, length-drop q s, e.inside)) (omega arith) (e.beyond z) (e.few z))
      λ _. e

  name_ends_law : (k p q : ℕ) → p ≤ q → q ≤ length s → is_lower (at s q) ≡ true → Ends k p (name_atom s symbols k q)
  unfolding name_atom
  name_ends_law k p q h i l =
      let e = name_end s q in
      way k p (ltb 12 (e - q) || leb occurrence_limit k) (λ _. fault_ends k p 3 q (omega arith) i)
      λ o. way k p (ltb (index_of s symbols (part s q e)) (length symbols))
      (λ _. record {
        inside = name_end_le s q i;
        beyond = λ _. omega (arith, name_end_gt s q l);
        few = λ _. omega (arith, leb-false occurrence_limit k (or_false_split (ltb 12 (e - q)) _ o).1);
      })
      λ _. fault_ends k p 5 q (omega arith) i

  closed_ends : (k p r : ℕ) (a : Parsed) → p ≤ r → Ends k r a → Ends k p (closed s a)
  unfolding closed
  closed_ends k p r a h e =
      let q = spaces_end s a.step.place in
      way k p (eqb a.step.fault 0)
      (λ t. let z = eqb-true a.step.fault 0 t in
      way k p (eqb (at s q) closing)
      (λ u. record {
        inside = before_end s q closing (omega arith) u;
        beyond = λ _. omega (arith, e.beyond z, spaces_end_ge s a.step.place);
        few = λ _. e.few z;
      })
      λ _. unfit_ends k p q (spaces_end_le s _ e.inside))
      λ t. record { inside = e.inside; beyond = λ z. omega (arith, e.beyond z); few = e.few }

  -- the second part begins behind the first
  joined_ends : (f : Regex → Regex → Regex) → ((x y : Regex) → size (f x y) ≡ size x + size y)
      → (k p q : ℕ) (a b : Parsed) → p ≤ q → Ends (k + size a.tree) q b → Ends k p (joined f a b)
  joined_ends f g k p q a b h e =
      way k p (eqb b.step.fault 0)
      (λ _. record { inside = e.inside; beyond = λ z. omega (arith, e.beyond z); few = λ z. omega (arith, e.few z, g a.tree b.tree) })
      λ t. record { inside = e.inside; beyond = λ z. omega (arith, e.beyond z); few = λ z. omega (arith, e.few z) }

  mutual
    unfolding alternation_from sequence_from atom_from

    pub alternation_ends : (n d k p : ℕ) → p ≤ length s → Ends k p (alternation_from s symbols n d k p)
    alternation_ends zero d k p h = fault_ends k p 6 p (omega arith) h
    alternation_ends (suc n) d k p h =
        let a = sequence_from s symbols n d k p in
        let q = spaces_end s a.step.place in
        let e = sequence_ends n d k p h in
        way k p (eqb a.step.fault 0)
        (λ t. way k p (eqb (at s q) bar)
        (λ u. joined_ends alt (λ x y. refl) k p (q + 1) a _
        (omega (arith, e.beyond (eqb-true a.step.fault 0 t), spaces_end_ge s a.step.place))
        (alternation_ends n d _ (q + 1) (before_end s q bar (omega arith) u)))
        λ _. e)
        λ _. e

    pub sequence_ends : (n d k p : ℕ) → p ≤ length s → Ends k p (sequence_from s symbols n d k p)
    sequence_ends zero d k p h = fault_ends k p 6 p (omega arith) h
    sequence_ends (suc n) d k p h =
        let a = item_of s (atom_from s symbols n d k p) in
        let e = item_ends k p _ (atom_ends n d k p h) in
        way k p (eqb a.step.fault 0)
        (λ t. way k p (begins_item (at s (spaces_end s a.step.place)))
        (λ _. joined_ends cat (λ x y. refl) k p a.step.place a _
        (omega (arith, e.beyond (eqb-true a.step.fault 0 t))) (sequence_ends n d _ a.step.place e.inside))
        λ _. e)
        λ _. e

    pub atom_ends : (n d k p : ℕ) → p ≤ length s → Ends k p (atom_from s symbols n d k p)
    atom_ends zero d k p h = fault_ends k p 6 p (omega arith) h
    atom_ends (suc n) d k p h =
        let q = spaces_end s p in
        let i = spaces_end_le s p h in
        way k p (is_lower (at s q)) (name_ends_law k p q (spaces_end_ge s p) i)
        λ _. way k p (eqb (at s q) opening)
        (λ u. way k p (eqb d 0) (λ _. fault_ends k p 3 q (omega arith) i)
        λ _. closed_ends k p (q + 1) _ (omega (arith, spaces_end_ge s p))
        (alternation_ends n (d - 1) k (q + 1) (before_end s q opening (omega arith) u)))
        λ _. unfit_ends k p q i

  -- the second part matters only where it begins further on inside the text
  alternation_cong : (k p : ℕ) (a b c : Parsed) → Ends k p a → let q = spaces_end s a.step.place + 1 in
      (p < q → q ≤ length s → b ≡ c) → alternation_step s a b ≡ alternation_step s a c
  unfolding alternation_step
  alternation_cong k p a b c e f =
      let q = spaces_end s a.step.place in
      agree (eqb a.step.fault 0)
      (λ t. agree (eqb (at s q) bar)
      (λ u. ap (joined alt a)
      (f (omega (arith, e.beyond (eqb-true a.step.fault 0 t), spaces_end_ge s a.step.place)) (before_end s q bar (omega arith) u)))
      λ _. refl)
      λ _. refl

  sequence_cong : (k p : ℕ) (a b c : Parsed) → Ends k p a → let q = a.step.place in
      (p < q → q ≤ length s → b ≡ c) → sequence_step s a b ≡ sequence_step s a c
  unfolding sequence_step
  sequence_cong k p a b c e f =
      agree (eqb a.step.fault 0)
      (λ t. agree (begins_item (at s (spaces_end s a.step.place)))
      (λ _. ap (joined cat a) (f (e.beyond (eqb-true a.step.fault 0 t)) e.inside)) λ _. refl)
      λ _. refl

  atom_cong : (d k p : ℕ) (b c : Parsed) → let q = spaces_end s p + 1 in
      (0 < d → q ≤ length s → b ≡ c) → atom_step s symbols d k p b ≡ atom_step s symbols d k p c
  unfolding atom_step
  atom_cong d k p b c f =
      let q = spaces_end s p in
      agree (is_lower (at s q)) (λ _. refl)
      λ _. agree (eqb (at s q) opening)
      (λ u. agree (eqb d 0) (λ _. refl)
      λ t. ap (closed s) (f (omega (arith, eqb-false d 0 t)) (before_end s q opening (omega arith) u)))
      λ _. refl

  -- two readings with enough calls are the same
  mutual
    unfolding alternation_from sequence_from atom_from alternation_step sequence_step atom_step

    alternation_same : (n m d k p : ℕ) → p ≤ length s → enough d p + 3 ≤ n → enough d p + 3 ≤ m
        → alternation_from s symbols n d k p ≡ alternation_from s symbols m d k p
    alternation_same zero m d k p h i j = absurd (omega arith)
    alternation_same (suc n) zero d k p h i j = absurd (omega arith)
    alternation_same (suc n) (suc m) d k p h i j =
        let a = sequence_from s symbols n d k p in
        let q = spaces_end s a.step.place + 1 in
        alternation_cong k p a _ _ (sequence_ends n d k p h) (λ l u. alternation_same n m d (k + size a.tree) q u (omega arith) (omega arith))
        ∙ ap (λ a. alternation_step s a (alternation_from s symbols m d (k + size a.tree) (spaces_end s a.step.place + 1)))
        (sequence_same n m d k p h (omega arith) (omega arith))

    sequence_same : (n m d k p : ℕ) → p ≤ length s → enough d p + 2 ≤ n → enough d p + 2 ≤ m
        → sequence_from s symbols n d k p ≡ sequence_from s symbols m d k p
    sequence_same zero m d k p h i j = absurd (omega arith)
    sequence_same (suc n) zero d k p h i j = absurd (omega arith)
    sequence_same (suc n) (suc m) d k p h i j =
        let a = item_of s (atom_from s symbols n d k p) in
        sequence_cong k p a _ _ (item_ends k p _ (atom_ends n d k p h)) (λ l u. sequence_same n m d (k + size a.tree) _ u (omega arith) (omega arith))
        ∙ ap (λ a. sequence_step s (item_of s a) (sequence_from s symbols m d (k + size (item_of s a).tree) (item_of s a).step.place))
        (atom_same n m d k p h (omega arith) (omega arith))

    atom_same : (n m d k p : ℕ) → p ≤ length s → enough d p + 1 ≤ n → enough d p + 1 ≤ m
        → atom_from s symbols n d k p ≡ atom_from s symbols m d k p
    atom_same zero m d k p h i j = absurd (omega arith)
    atom_same (suc n) zero d k p h i j = absurd (omega arith)
    atom_same (suc n) (suc m) d k p h i j =
        atom_cong d k p _ _ λ l u. alternation_same n m (d - 1) k _ u (omega arith) (omega arith)

  -- more calls than enough change nothing
  pub alternation_enough : (n d k p : ℕ) → p ≤ length s → enough d p + 3 ≤ n
      → alternation_from s symbols n d k p ≡ alternation_from s symbols (enough d p + 3) d k p
  alternation_enough n d k p h m = alternation_same n _ d k p h m (omega arith)

  pub sequence_enough : (n d k p : ℕ) → p ≤ length s → enough d p + 2 ≤ n
      → sequence_from s symbols n d k p ≡ sequence_from s symbols (enough d p + 2) d k p
  sequence_enough n d k p h m = sequence_same n _ d k p h m (omega arith)

  pub atom_enough : (n d k p : ℕ) → p ≤ length s → enough d p + 1 ≤ n
      → atom_from s symbols n d k p ≡ atom_from s symbols (enough d p + 1) d k p
  atom_enough n d k p h m = atom_same n _ d k p h m (omega arith)

  -- each reader is one step over the others
  module _ (d k p : ℕ) (h : p ≤ length s) where
    pub alternation_step_law : let a = sequence_from s symbols (enough d p + 2) d k p in let q = spaces_end s a.step.place + 1 in
        alternation_from s symbols (enough d p + 3) d k p ≡ alternation_step s a (alternation_from s symbols (enough d q + 3) d (k + size a.tree) q)
    unfolding alternation_from alternation_step
    alternation_step_law =
        let n = enough d p + 2 in
        let a = sequence_from s symbols n d k p in
        ap (λ n. alternation_from s symbols n d k p) {x = enough d p + 3} {y = suc n} (omega arith)
        ∙ alternation_cong k p a _ _ (sequence_ends n d k p h) λ l u. alternation_enough n d (k + size a.tree) _ u (omega arith)

    pub sequence_step_law : let a = item_of s (atom_from s symbols (enough d p + 1) d k p) in
        sequence_from s symbols (enough d p + 2) d k p
        ≡ sequence_step s a (sequence_from s symbols (enough d a.step.place + 2) d (k + size a.tree) a.step.place)
    unfolding sequence_from sequence_step
    sequence_step_law =
        let n = enough d p + 1 in
        let a = item_of s (atom_from s symbols n d k p) in
        ap (λ n. sequence_from s symbols n d k p) {x = enough d p + 2} {y = suc n} (omega arith)
        ∙ sequence_cong k p a _ _ (item_ends k p _ (atom_ends n d k p h)) λ l u. sequence_enough n d (k + size a.tree) _ u (omega arith)

    pub atom_step_law : let q = spaces_end s p + 1 in
        atom_from s symbols (enough d p + 1) d k p ≡ atom_step s symbols d k p (alternation_from s symbols (enough (d - 1) q + 3) (d - 1) k q)
    unfolding atom_from atom_step
    atom_step_law =
        ap (λ n. atom_from s symbols n d k p) {x = enough d p + 1} {y = suc (enough d p)} (omega arith)
        ∙ atom_cong d k p _ _ λ l u. alternation_enough (enough d p) (d - 1) k _ u (omega arith)
