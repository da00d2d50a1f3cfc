-- Laws of the first failing check: what is given is unique, is what the computed list gives, and is the number of a check just where that check is
-- the first that fails. For every list of checks that a call goes through.
use mathlib.Core.Path.{◌≡◌, refl, sym, subst, ◌∙◌}
use mathlib.Core.Bool.{Bool, true, false, cond, ◌||◌, false≢true}
use mathlib.Core.List.Memᴰ
use mathlib.Core.List.{List, [], ◌∷◌, ◌++◌, map, Memᴰ}
use mathlib.Core.Logic.{◌↔◌, ⊎_elim}
use Prim.Native.Nat.{ℕ}
use borrow.Author.Tests.{eqb-false}
use lib.Dec.{eqb}
use Rattle.laws.specs.Checks.{Check, first_failing, FirstToFail, none_fails, fails_here, fails_later}
use Rattle.laws.specs.Lists.{any, all}
use Rattle.laws.proofs.Lists.{and_true_split, or_false_split, either}

module _ {K N : Type 0} {Fails Passes : K → Type 0} {number : K → N} {otherwise : N} where
  -- no check both fails and passes: one answer at most
  pub first_once : ((k : K) → Fails k → Passes k → ⊥) → {ks : List K} {n m : N}
      → FirstToFail Fails Passes number otherwise ks n → FirstToFail Fails Passes number otherwise ks m → n ≡ m
  first_once apart none_fails none_fails = refl
  first_once apart (fails_here f) (fails_here g) = refl
  first_once apart (fails_here {k = k} f) (fails_later p y) = absurd (apart k f p)
  first_once apart (fails_later {k = k} p x) (fails_here f) = absurd (apart k f p)
  first_once apart (fails_later p x) (fails_later q y) = first_once apart x y

  -- the same checks in other words
  pub first_told : {Breaks Holds : K → Type 0} → ((k : K) → Fails k → Breaks k) → ((k : K) → Passes k → Holds k) → {ks : List K} {n : N}
      → FirstToFail Fails Passes number otherwise ks n → FirstToFail Breaks Holds number otherwise ks n
  first_told f g none_fails = none_fails
  first_told f g (fails_here {k = k} x) = fails_here (f k x)
  first_told f g (fails_later {k = k} x y) = fails_later (g k x) (first_told f g y)

  -- and their answers by another name
  pub first_named : {M : Type 0} (name : N → M) {ks : List K} {n : N}
      → FirstToFail Fails Passes number otherwise ks n → FirstToFail Fails Passes (λ k. name (number k)) (name otherwise) ks (name n)
  first_named name none_fails = none_fails
  first_named name (fails_here x) = fails_here x
  first_named name (fails_later x y) = fails_later x (first_named name y)

-- what is given is told by a check, or is `otherwise`: what is true of all these is true of it
pub first_all : {K N : Type 0} {Fails Passes : K → Type 0} {number : K → N} {otherwise : N} (test : N → Bool) {ks : List K} {n : N}
    → FirstToFail Fails Passes number otherwise ks n → all (λ k. test (number k)) ks ≡ true → test otherwise ≡ true → test n ≡ true
first_all test none_fails h o = o
first_all {number = number} test (fails_here {k = k} f) h o = (and_true_split (test (number k)) _ h).0
first_all {number = number} test (fails_later {k = k} p r) h o = first_all test r (and_true_split (test (number k)) _ h).1 o

-- what is no check's own answer is given where all pass
pub first_passed : {K N : Type 0} {Fails Passes : K → Type 0} {number : K → N} {otherwise : N} (own : N → Bool) {ks : List K} {n : N}
    → FirstToFail Fails Passes number otherwise ks n → any (λ k. own (number k)) ks ≡ false → own n ≡ true → (k : K) → Memᴰ k ks → Passes k
first_passed own none_fails none h k m = absurd (Memᴰ.not-nil m)
first_passed {number = number} own (fails_here {k = x} f) none h k m =
    absurd (false≢true (sym (or_false_split (own (number x)) _ none).0 ∙ h))
first_passed {Passes = Passes} {number = number} own (fails_later {k = x} {ks = ks} p r) none h k m =
    ⊎_elim (λ e. subst Passes (sym e) p) (λ n. first_passed own r (or_false_split (own (number x)) _ none).1 h k n) (Memᴰ.cases_cons m)

-- one more check before the others, as it is computed
pub first_more : {A : Type 0} {Fails Passes : A → Type 0} {otherwise : A} (c : Check A) (cs : List (Check A))
    → (c.fails ≡ true → Fails c.answer) → (c.fails ≡ false → Passes c.answer)
    → FirstToFail Fails Passes (λ a. a) otherwise (map (λ d. d.answer) cs) (first_failing otherwise cs)
    → FirstToFail Fails Passes (λ a. a) otherwise (c.answer ∷ map (λ d. d.answer) cs) (first_failing otherwise (c ∷ cs))
first_more {A} {Fails} {Passes} {otherwise} c cs f p r = go c.fails f p
  where
    go : (z : Bool) → (z ≡ true → Fails c.answer) → (z ≡ false → Passes c.answer)
        → FirstToFail Fails Passes (λ a. a) otherwise (c.answer ∷ map (λ d. d.answer) cs) (cond z c.answer (first_failing otherwise cs))
    go true f p = fails_here (f refl)
    go false f p = fails_later (p refl) r

-- Checks behind others: where one of the first fails the others are not looked at; where none does they decide. `own` tells an answer that no check
-- has from those that they have.
module _ {A : Type 0} (otherwise : A) (own : A → Bool) where
  pub first_refused : own otherwise ≡ true → (cs ds : List (Check A)) → own (first_failing otherwise cs) ≡ false
      → first_failing otherwise (cs ++ ds) ≡ first_failing otherwise cs
  first_refused o [] ds h = absurd (false≢true (sym h ∙ o))
  first_refused o (c ∷ cs) ds h = go c.fails h (first_refused o cs ds)
    where
      go : (z : Bool) → own (cond z c.answer (first_failing otherwise cs)) ≡ false
          → (own (first_failing otherwise cs) ≡ false → first_failing otherwise (cs ++ ds) ≡ first_failing otherwise cs)
          → cond z c.answer (first_failing otherwise (cs ++ ds)) ≡ cond z c.answer (first_failing otherwise cs)
      go true h ih = refl
      go false h ih = ih h

  pub first_behind : (cs ds : List (Check A)) → any (λ c. own c.answer) cs ≡ false → own (first_failing otherwise cs) ≡ true
      → first_failing otherwise (cs ++ ds) ≡ first_failing otherwise ds
  first_behind [] ds a h = refl
  first_behind (c ∷ cs) ds a h =
      let (this, rest) = or_false_split (own c.answer) (any (λ d. own d.answer) cs) a in
      go c.fails this h (first_behind cs ds rest)
    where
      go : (z : Bool) → own c.answer ≡ false → own (cond z c.answer (first_failing otherwise cs)) ≡ true
          → (own (first_failing otherwise cs) ≡ true → first_failing otherwise (cs ++ ds) ≡ first_failing otherwise ds)
          → cond z c.answer (first_failing otherwise (cs ++ ds)) ≡ first_failing otherwise ds
      go true this h ih = absurd (false≢true (sym this ∙ h))
      go false this h ih = ih h

-- Each number is given just where its check is the first that fails, if no other check has it.
module _ {A : Type 0} (otherwise : A) (number : A → ℕ) where
  module _ (x : ℕ) where
    -- some check of the list has the number x, or `otherwise` has
    abbrev pub gives : List (Check A) → Bool
    gives [] = eqb (number otherwise) x
    gives (c ∷ cs) = eqb (number c.answer) x || gives cs

    never_gives : (cs : List (Check A)) → gives cs ≡ false → number (first_failing otherwise cs) ≡ x → ⊥
    never_gives [] h e = eqb-false (number otherwise) x h e
    never_gives (c ∷ cs) h e =
        let (p, q) = or_false_split (eqb (number c.answer) x) (gives cs) h in
        either (λ a. number a ≡ x → ⊥) c.fails (λ _. eqb-false _ x p) (λ _. never_gives cs q) e

    -- the number is behind the first check, which fails just where P is
    pub number_behind : (c : Check A) (cs : List (Check A)) → eqb (number c.answer) x ≡ false → {P Q : Type 0} → (c.fails ≡ true) ↔ P
        → (number (first_failing otherwise cs) ≡ x) ↔ Q → (number (first_failing otherwise (c ∷ cs)) ≡ x) ↔ ((P → ⊥) × Q)
    number_behind c cs h {P} {Q} p k =
        go c.fails p
      where
        go : (z : Bool) → (z ≡ true) ↔ P → (number (cond z c.answer (first_failing otherwise cs)) ≡ x) ↔ ((P → ⊥) × Q)
        go true p = (λ e. absurd (eqb-false _ x h e), λ e. absurd (e.0 (p.0 refl)))
        go false p = (λ e. (λ y. false≢true (p.1 y), k.0 e), λ e. k.1 e.1)

  -- the number is that of the first check
  pub number_first : (c : Check A) (cs : List (Check A)) → gives (number c.answer) cs ≡ false
      → (number (first_failing otherwise (c ∷ cs)) ≡ number c.answer) ↔ (c.fails ≡ true)
  number_first c cs h = go c.fails
    where
      go : (z : Bool) → (number (cond z c.answer (first_failing otherwise cs)) ≡ number c.answer) ↔ (z ≡ true)
      go true = (λ _. refl, λ _. refl)
      go false = (λ e. absurd (never_gives _ cs h e), λ e. absurd (false≢true e))

  -- the last check: none fails
  pub number_otherwise : (c : Check A) → eqb (number c.answer) (number otherwise) ≡ false → {P : Type 0} → (c.fails ≡ true) ↔ P
      → (number (first_failing otherwise (c ∷ [])) ≡ number otherwise) ↔ (P → ⊥)
  number_otherwise c h {P} p =
      go c.fails p
    where
      go : (z : Bool) → (z ≡ true) ↔ P → (number (cond z c.answer otherwise) ≡ number otherwise) ↔ (P → ⊥)
      go true p = (λ e. absurd (eqb-false _ _ h e), λ e. absurd (e (p.0 refl)))
      go false p = (λ _ y. false≢true (p.1 y), λ _. refl)
