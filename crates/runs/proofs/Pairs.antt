-- Laws of paired traces: pairs the other way round, and that two traces in which the elements that pass a test come in the same order are reduced
-- alike, up to such an element and up to its partner. For demand 3.
use mathlib.Core.Path.{◌≡◌, refl, sym, ap, ap₂, ◌∙◌}
use mathlib.Core.Bool.{Bool, true, false, cond, true≢false}
use mathlib.Core.List.{List, [], ◌∷◌, ◌++◌, append-nil}
use mathlib.Core.Logic.{⊎_elim}
use Prim.Native.Nat.{ℕ, zero, suc, ◌≤◌, ◌<◌}
use native.Mathlib.Nat.{eq-or-lt_of_le, le_of_suc-le-suc, lt_of_not-le}
use native.Mathlib.Omega.{arith}
use lib.ListN.{length, take, get_or}
use lib.Seq.{take-suc}
use Rattle.laws.specs.Lists.{all, keep}
use Rattle.laws.proofs.Lists.{all_at, all_of, mem_get_or, mem_index, keep_append}
use Rattle.runs.specs.Pairs.{Pairing, OrderKept}

module _ {A : Type 0} (f : A → Bool) (l : List A) (d : A) where
  -- what passes among the first elements of a list, and one more
  keep_take : (i : ℕ) → i < length l → keep f (take (suc i) l) ≡ keep f (take i l) ++ keep f (get_or l i d ∷ [])
  keep_take i h = ap (keep f) (take-suc l i d h) ∙ keep_append f (take i l) (get_or l i d ∷ [])

  -- elements that do not pass add nothing
  keep_skip : (i : ℕ) → i < length l → f (get_or l i d) ≡ false → keep f (take i l) ≡ keep f (take (suc i) l)
  keep_skip i h e = sym (keep_take i h ∙ ap (λ b. keep f (take i l) ++ cond b (get_or l i d ∷ []) []) e ∙ append-nil _)

  keep_quiet : (a b : ℕ) → a ≤ b → b ≤ length l → ((k : ℕ) → a ≤ k → k < b → f (get_or l k d) ≡ false) → keep f (take a l) ≡ keep f (take b l)
  keep_quiet a zero h m q = let e : a ≡ 0 = omega arith in rw e
  keep_quiet a (suc b) h m q =
      ⊎_elim (λ e. rw e)
      (λ (e : a < suc b). keep_quiet a b (omega arith) (omega arith) (λ k x y. q k x (omega arith)) ∙ keep_skip b m (q b (omega arith) (omega arith)))
      (eq-or-lt_of_le h)

module _ {A : Type 0} {d : A} where
  -- the partners the other way round
  abbrev pub turn : {t u : List A} → Pairing d t u → Pairing d u t
  turn {u} pairs = record {
    to = pairs.back;
    back = pairs.to;
    to_inside = pairs.back_inside;
    back_inside = pairs.to_inside;
    back_to = pairs.to_back;
    to_back = pairs.back_to;
    same = λ j h. sym (pairs.same (pairs.back j) (pairs.back_inside j h)) ∙ ap (λ n. get_or u n d) (pairs.to_back j h);
  }

  -- what holds of all elements of one holds of all their partners
  pub paired_all : (f : A → Bool) (t u : List A) → Pairing d t u → all f t ≡ true → all f u ≡ true
  paired_all f t u pairs h = all_of f u λ e m.
      let (j, k, x) = mem_index d m in
      sym (ap f ((turn pairs).same j k ∙ x)) ∙ all_at f h (mem_get_or t (pairs.back j) d (pairs.back_inside j k))

  -- fewer that depend on one another
  pub order_fewer : {P Q : A → A → Type 0} → ((x y : A) → P x y → Q x y) → {t u : List A} {pairs : Pairing d t u} → OrderKept d Q t u pairs
      → OrderKept d P t u pairs
  order_fewer f o = record { keeps = λ i j h k p. o.keeps i j h k (f _ _ p) }

  -- the order the other way round, for a dependence that has no direction
  pub order_turned : {P : A → A → Type 0} → ((x y : A) → P x y → P y x) → (t u : List A) (pairs : Pairing d t u) → OrderKept d P t u pairs
      → OrderKept d P u t (turn pairs)
  order_turned {P} swap t u pairs ord = record { keeps = λ i j h k p. lt_of_not-le (crossing i j h k p) }
    where
      -- were they not in the order of i and j, their partners, which are i and j, would not be either
      crossing : (i j : ℕ) → i < j → j < length u → P (get_or u i d) (get_or u j d) → pairs.back j ≤ pairs.back i → ⊥
      crossing i j h k p l =
          let m : i < length u = omega arith in
          let e = pairs.to_back i m in
          let f = pairs.to_back j k in
          ⊎_elim (λ g. omega (arith, ap pairs.to g))
          (λ g. omega (
            arith,
            ord.keeps (pairs.back j) (pairs.back i) g (pairs.back_inside i m) (rw ((turn pairs).same j k, (turn pairs).same i m) (swap _ _ p)),
          ))
          (eq-or-lt_of_le l)

-- The elements that pass come in the same order in both traces, so up to one of them, and up to its partner, the same pass.
module _ {A : Type 0} (d : A) (f : A → Bool) (t u : List A) (pairs : Pairing d t u)
    (ord : OrderKept d (λ x y. (f x ≡ true) × (f y ≡ true)) t u pairs) where
  -- element number i of l, from 0, passes
  abbrev Passes : List A → ℕ → Type 0
  Passes l i = f (get_or l i d) ≡ true

  -- of the first i elements of t pass as many as of the first `upto` of u, which lie between the partners of what comes before i and of what
  -- comes after
  record Even (i : ℕ) : Type 0 where
    upto : ℕ
    same : keep f (take i t) ≡ keep f (take upto u)
    behind : (j : ℕ) → j < i → Passes t j → pairs.to j < upto
    ahead : (j : ℕ) → i ≤ j → j < length t → Passes t j → upto ≤ pairs.to j

  even_step : (i : ℕ) → i < length t → Passes t i → Even i → keep f (take (suc i) t) ≡ keep f (take (suc (pairs.to i)) u)
  even_step i h c r =
      keep_take f t d i h
      ∙ ap₂ (λ es e. es ++ keep f (e ∷ []))
      (r.same ∙ keep_quiet f u d _ _ (r.ahead i (omega arith) h c) (omega (arith, inside)) (λ k x y. quiet k x y _ refl))
      (sym (pairs.same i h))
      ∙ sym (keep_take f u d (pairs.to i) inside)
    where
      inside : pairs.to i < length u
      inside = pairs.to_inside i h

      -- what passes in u before the partner of i is a partner of what comes before i
      quiet : (k : ℕ) → r.upto ≤ k → k < pairs.to i → (b : Bool) → f (get_or u k d) ≡ b → b ≡ false
      quiet k x y false e = refl
      quiet k x y true e =
          let m : k < length u = omega (arith, inside) in
          let c' : Passes u (pairs.to i) = rw (pairs.same i h) c in
          let turned = order_turned (λ x y (p, q). (q, p)) t u pairs ord in
          let before : pairs.back k < i = rw (pairs.back_to i h) at (turned.keeps k (pairs.to i) y inside (e, c')) in
          absurd (omega (arith, pairs.to_back k m, r.behind (pairs.back k) before (rw ((turn pairs).same k m) e)))

  even : (i : ℕ) → i ≤ length t → Even i
  even zero h = record { upto = 0; same = refl; behind = λ j p c. absurd (omega arith); ahead = λ j p q c. omega arith }
  even (suc i) h = go (f (get_or t i d)) refl (even i (omega arith))
    where
      go : (b : Bool) → f (get_or t i d) ≡ b → Even i → Even (suc i)
      go true e r = record {
        upto = suc (pairs.to i);
        same = even_step i h e r;
        behind = λ j p c. ⊎_elim (λ q. rw q (omega arith)) (λ q. omega (arith, ord.keeps j i q h (c, e))) (eq-or-lt_of_le (le_of_suc-le-suc p));
        ahead = λ j p q c. ord.keeps i j p q (e, c);
      }
      go false e r = record {
        upto = r.upto;
        same = sym (keep_skip f t d i h e) ∙ r.same;
        behind = λ j p c.
            ⊎_elim (λ q. absurd (true≢false (sym c ∙ rw q e))) (λ q. r.behind j q c) (eq-or-lt_of_le (le_of_suc-le-suc p));
        ahead = λ j p q c. r.ahead j (omega arith) q c;
      }

  pub reduced_alike : (i : ℕ) → i < length t → Passes t i → keep f (take (suc i) t) ≡ keep f (take (suc (pairs.to i)) u)
  reduced_alike i h c = even_step i h c (even i (omega arith))
