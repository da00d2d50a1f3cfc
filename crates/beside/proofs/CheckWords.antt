-- The first failing check of a list, computed and in words, with its text: for lists of any length, so that no call over several books can be answered by
-- another rule
-- than a call over one.
use mathlib.Core.Path.{◌≡◌, refl, sym, subst}
use mathlib.Core.Bool.{true, false}
use mathlib.Core.List.{List, [], ◌∷◌}
use mathlib.Core.Logic.{◌↔◌, ◌⊎◌, inl, inr}
use Rattle.laws.specs.Checks.{Check, first_failing, FirstToFail, none_fails, fails_here, fails_later}

pub first_failing_words : {A : Type 0} (o : A) (c : Check A) (cs : List (Check A))
    → (first_failing o [] ≡ o) × (c.fails ≡ true → first_failing o (c ∷ cs) ≡ c.answer) × (c.fails ≡ false → first_failing o (c ∷ cs) ≡ first_failing o cs)
first_failing_words o c cs = (refl, λ h. rw h refl, λ h. rw h refl)

pub first_to_fail_said : {K N : Type 0} (Fails Passes : K → Type 0) (number : K → N) (o : N)
    → ((n : N) → FirstToFail Fails Passes number o [] n ↔ (n ≡ o))
    × ((k : K) (ks : List K) (n : N) → FirstToFail Fails Passes number o (k ∷ ks) n
    ↔ ((Fails k × (n ≡ number k)) ⊎ (Passes k × FirstToFail Fails Passes number o ks n)))
first_to_fail_said {K} {N} Fails Passes number o =
    (λ n. (none, λ e. subst (FirstToFail Fails Passes number o []) (sym e) none_fails), λ k ks n. (to, back k ks n))
  where
    none : {n : N} → FirstToFail Fails Passes number o [] n → n ≡ o
    none none_fails = refl

    to : {k : K} {ks : List K} {n : N} → FirstToFail Fails Passes number o (k ∷ ks) n
        → (Fails k × (n ≡ number k)) ⊎ (Passes k × FirstToFail Fails Passes number o ks n)
    to (fails_here f) = inl (f, refl)
    to (fails_later p r) = inr (p, r)

    back : (k : K) (ks : List K) (n : N) → (Fails k × (n ≡ number k)) ⊎ (Passes k × FirstToFail Fails Passes number o ks n)
        → FirstToFail Fails Passes number o (k ∷ ks) n
    back k ks n (inl (f, e)) = subst (FirstToFail Fails Passes number o (k ∷ ks)) (sym e) (fails_here f)
    back k ks n (inr (p, r)) = fails_later p r
