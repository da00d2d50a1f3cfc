-- A word of one language and then a word of another: when that is empty, and what its first symbol comes from.
use mathlib.Core.Path.{◌≡◌, refl, sym, ap, subst, subst⁻¹}
use mathlib.Core.List.{List, [], ◌∷◌, ◌++◌, nil≢cons, head-eq_of_cons-eq, tail-eq_of_cons-eq}
use mathlib.Core.Logic.{◌↔◌, ◌⊎◌, inl, inr}
use Prim.Native.Nat.{ℕ}
use Rattle.pattern.specs.Regex.{Repeat, none, more}

-- `In (cat r s)` and `In (plus r)` are of this form
abbrev pub Then : (A B : List ℕ → Type 0) → List ℕ → Type 0
Then A B w = (u : List ℕ) × (v : List ℕ) × (w ≡ u ++ v) × A u × B v

pub then_iff : {A B C D : List ℕ → Type 0} (w : List ℕ) → ((u : List ℕ) → A u ↔ C u) → ((v : List ℕ) → B v ↔ D v) → Then A B w ↔ Then C D w
then_iff w f g =
    (λ t. (t.0, t.1, t.2, (f t.0).0 t.3, (g t.1).0 t.4), λ t. (t.0, t.1, t.2, (f t.0).1 t.3, (g t.1).1 t.4))

module _ (A B : List ℕ → Type 0) where
  pub then_nil : Then A B [] ↔ (A [] × B [])
  then_nil = (λ t. go t.0 t.1 t.2 t.3 t.4, λ t. ([], [], refl, t.0, t.1))
    where
      go : (u v : List ℕ) → [] ≡ u ++ v → A u → B v → A [] × B []
      go [] v e a b = (a, subst⁻¹ B e b)
      go (x ∷ u) v e a b = absurd (nil≢cons e)

  pub then_cons : (a : ℕ) (w : List ℕ) → Then A B (a ∷ w) ↔ (Then (λ u. A (a ∷ u)) B w ⊎ (A [] × B (a ∷ w)))
  then_cons a w = (
    λ t. go t.0 t.1 t.2 t.3 t.4,
    elim [ inl t ↦ (a ∷ t.0, t.1, ap (λ l. a ∷ l) t.2, t.3, t.4) | inr t ↦ ([], a ∷ w, refl, t.0, t.1) ],
  )
    where
      go : (u v : List ℕ) → a ∷ w ≡ u ++ v → A u → B v → Then (λ u. A (a ∷ u)) B w ⊎ (A [] × B (a ∷ w))
      go [] v e x y = inr (x, subst⁻¹ B e y)
      go (b ∷ u) v e x y = inl (u, v, tail-eq_of_cons-eq e, subst⁻¹ (λ c. A (c ∷ u)) (head-eq_of_cons-eq e) x, y)

module _ (A : List ℕ → Type 0) (a : ℕ) (w : List ℕ) where
  -- empty words in front are passed over
  first : {z : List ℕ} → Repeat A z → z ≡ a ∷ w → Then (λ u. A (a ∷ u)) (Repeat A) w
  first none e = absurd (nil≢cons e)
  first (more {u = []} x t) e = first t e
  first (more {u = b ∷ u} {v} x t) e = (u, v, sym (tail-eq_of_cons-eq e), subst (λ c. A (c ∷ u)) (head-eq_of_cons-eq e) x, t)

  pub repeat_cons : Repeat A (a ∷ w) ↔ Then (λ u. A (a ∷ u)) (Repeat A) w
  repeat_cons = (λ t. first t refl, λ t. subst⁻¹ (λ l. Repeat A (a ∷ l)) t.2 (more t.3 t.4))

  pub plus_repeat : Then A (Repeat A) (a ∷ w) ↔ Repeat A (a ∷ w)
  plus_repeat = (λ t. subst⁻¹ (Repeat A) t.2 (more t.3 t.4), λ h. (then_cons A (Repeat A) a w).1 (inl (first h refl)))
