-- When a position is in a set made by `join`, `given`, `single`, or chosen by a test; and the logic that goes with it.
use mathlib.Core.Path.{◌≡◌, refl, sym, ◌∙◌}
use mathlib.Core.Bool.{Bool, true, false, cond, ◌&&◌, ◌||◌, false≢true}
use mathlib.Core.Logic.{◌↔◌, ◌⊎◌, inl, inr, ⊎_map}
use Prim.Native.Nat.{ℕ}
use native.Mathlib.Decide.{ℕ_discrete}
use Rattle.laws.proofs.Bits.{bit_zero, bit_join, bit_single_same, bit_single_other}
use Rattle.laws.specs.Bits.{bit, join, single}
use Rattle.pattern.specs.Positions.{Has, given}

pub or_iff : {A B C D : Type 0} → A ↔ C → B ↔ D → (A ⊎ B) ↔ (C ⊎ D)
unfolding ⊎_map
or_iff f g = (⊎_map f.0 g.0, ⊎_map f.1 g.1)

pub and_true_iff : (a b : Bool) → ((a && b) ≡ true) ↔ ((a ≡ true) × (b ≡ true))
and_true_iff true b = (λ e. (refl, e), λ h. h.1)
and_true_iff false b = (λ e. absurd (false≢true e), λ h. h.0)

pub or_true_iff : (a b : Bool) → ((a || b) ≡ true) ↔ ((a ≡ true) ⊎ (b ≡ true))
or_true_iff true b = (λ e. inl refl, λ h. refl)
or_true_iff false b = (inr, elim [ inl e ↦ absurd (false≢true e) | inr e ↦ e ])

pub has_zero : (p : ℕ) → Has p 0 → ⊥
has_zero p h = false≢true (sym (bit_zero p) ∙ h)

pub has_join : (p a b : ℕ) → Has p (join a b) ↔ (Has p a ⊎ Has p b)
has_join p a b = rw bit_join (or_true_iff (bit p a) (bit p b))

pub has_given : (p m : ℕ) (b : Bool) → Has p (given b m) ↔ ((b ≡ true) × Has p m)
has_given p m true = (λ h. (refl, h), λ h. h.1)
has_given p m false = (λ h. absurd (has_zero p h), λ h. absurd (false≢true h.0))

pub has_test : (p a b : ℕ) (t : Bool) → Has p (cond t a b) → Has p a ⊎ Has p b
has_test p a b true h = inl h
has_test p a b false h = inr h

pub has_single : (p k : ℕ) → Has p (single k) ↔ (p ≡ k)
has_single p k = (λ h. go h (ℕ_discrete p k), λ e. rw e (bit_single_same k))
  where
    go : Has p (single k) → Dec (p ≡ k) → p ≡ k
    go h (yes e) = e
    go h (no n) = absurd (false≢true (sym (bit_single_other k p n) ∙ h))
