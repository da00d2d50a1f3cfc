-- The words of each expression, as any textbook has them, for readers of `In`: one symbol, one part and then the other, either part, so many words one after
-- the other, any number of times or at least once, none or one. "Any number" has no exception where what is repeated may be empty.
use mathlib.Core.Path.{◌≡◌, refl, subst⁻¹}
use mathlib.Core.List.{List, [], ◌∷◌, ◌++◌}
use mathlib.Core.Logic.Iff
use mathlib.Core.Logic.{◌↔◌, ◌⊎◌}
use Prim.Native.Nat.{ℕ, zero, suc}
use Rattle.pattern.specs.Regex.{Regex, lit, cat, alt, star, plus, opt, Repeat, none, more, In}

-- n words of the language L, one after the other
abbrev pub Times : (L : List ℕ → Type 0) → ℕ → List ℕ → Type 0
Times L zero w = w ≡ []
Times L (suc n) w = (u : List ℕ) × (v : List ℕ) × (w ≡ u ++ v) × L u × Times L n v

module _ (L : List ℕ → Type 0) where
  counted : {w : List ℕ} → Repeat L w → (n : ℕ) × Times L n w
  counted none = (0, refl)
  counted (more {u = u} {v} x t) = let (n, h) = counted t in (suc n, (u, v, refl, x, h))

  repeated : (n : ℕ) (w : List ℕ) → Times L n w → Repeat L w
  repeated zero w e = subst⁻¹ (Repeat L) e none
  repeated (suc n) w (u, v, e, x, t) = subst⁻¹ (Repeat L) e (more x (repeated n v t))

pub words : (r s : Regex) (a : ℕ) (w : List ℕ)
    → (In (lit a) w ↔ (w ≡ a ∷ []))
    × (In (cat r s) w ↔ ((u : List ℕ) × (v : List ℕ) × (w ≡ u ++ v) × In r u × In s v))
    × (In (alt r s) w ↔ (In r w ⊎ In s w))
    × (In (star r) w ↔ ((n : ℕ) × Times (In r) n w))
    × (In (plus r) w ↔ ((n : ℕ) × Times (In r) (suc n) w))
    × (In (opt r) w ↔ ((w ≡ []) ⊎ In r w))
words r s a w = (
  Iff.rfl,
  Iff.rfl,
  Iff.rfl,
  (λ t. counted (In r) t, λ (n, t). repeated (In r) n w t),
  (λ (u, v, e, x, t). let (n, h) = counted (In r) t in (n, (u, v, e, x, h)), λ (n, (u, v, e, x, t)). (u, v, e, x, repeated (In r) n v t)),
  Iff.rfl,
)
