-- What the computed flag and the computed mask say of the words of a pattern.
use mathlib.Core.Path.{◌≡◌, refl, sym, ◌∙◌}
use mathlib.Core.Bool.{Bool, true, false, false≢true}
use mathlib.Core.List.{List, [], ◌∷◌, ◌++◌, nil≢cons, append-nil}
use mathlib.Core.Logic.Iff
use mathlib.Core.Logic.{◌↔◌, inl, inr, ⊎_elim}
use Prim.Native.Nat.{ℕ}
use Rattle.laws.proofs.Bits.{bit_join, bit_meet}
use Rattle.laws.proofs.Lists.{and_false_split, or_false_split, any_append}
use Rattle.laws.specs.Bits.{bit}
use Rattle.laws.specs.Lists.{any}
use Rattle.pattern.proofs.Members.{or_iff, and_true_iff, or_true_iff, has_zero}
use Rattle.pattern.proofs.Then.{then_nil}
use Rattle.pattern.specs.Regex.{Regex, lit, cat, alt, star, plus, opt, Repeat, none, In, nullable, bound_by}

-- the empty word is in the language iff the flag says so
pub empty_word_law : (r : Regex) → In r [] ↔ (nullable r ≡ true)
empty_word_law (lit a) = (λ e. absurd (nil≢cons e), λ e. absurd (false≢true e))
empty_word_law (cat r s) =
    Iff.trans (then_nil (In r) (In s)) (Iff.trans (Iff.and (empty_word_law r) (empty_word_law s)) (Iff.symm (and_true_iff (nullable r) (nullable s))))
empty_word_law (alt r s) = Iff.trans (or_iff (empty_word_law r) (empty_word_law s)) (Iff.symm (or_true_iff (nullable r) (nullable s)))
empty_word_law (star r) = (λ h. refl, λ e. none)
empty_word_law (plus r) =
    (λ h. (empty_word_law r).0 ((then_nil (In r) (Repeat (In r))).0 h).0, λ e. (then_nil (In r) (Repeat (In r))).1 ((empty_word_law r).1 e, none))
empty_word_law (opt r) = (λ h. refl, λ e. inl refl)

module _ (vars : ℕ → ℕ) (v : ℕ) where
  abbrev binds : List ℕ → Bool
  binds w = any (λ a. bit v (vars a)) w

  -- where the mask has v, every word binds it
  bound : (r : Regex) → bit v (bound_by vars r) ≡ true → (w : List ℕ) → In r w → binds w ≡ true
  bound (lit a) h w e = rw (e, h)
  bound (cat r s) h w t =
      rw (t.2, any_append) ((or_true_iff _ _).1 (⊎_elim (λ x. inl (bound r x t.0 t.3)) (λ y. inr (bound s y t.1 t.4))
      ((or_true_iff _ _).0 (rw bit_join at h))))
  bound (alt r s) h w t = let e = (and_true_iff _ _).0 (rw bit_meet at h) in ⊎_elim (bound r e.0 w) (bound s e.1 w) t
  bound (star r) h w t = absurd (has_zero v h)
  bound (plus r) h w t = rw (t.2, any_append, bound r h t.0 t.3)
  bound (opt r) h w t = absurd (has_zero v h)

  -- where it has not, some word does not
  pub free : (r : Regex) → bit v (bound_by vars r) ≡ false → (w : List ℕ) × In r w × (binds w ≡ false)
  free (lit a) h = (a ∷ [], refl, rw h)
  free (cat r s) h =
      let e = or_false_split _ _ (rw bit_join at h) in
      let t = free r e.0 in
      let u = free s e.1 in
      (t.0 ++ u.0, (t.0, u.0, refl, t.1, u.1), rw (any_append, t.2, u.2))
  free (alt r s) h =
      ⊎_elim (λ x. let t = free r x in (t.0, inl t.1, t.2)) (λ y. let t = free s y in (t.0, inr t.1, t.2))
      (and_false_split _ _ (rw bit_meet at h))
  free (star r) h = ([], none, refl)
  free (plus r) h = let t = free r h in (t.0, (t.0, [], sym (append-nil t.0), t.1, none), t.2)
  free (opt r) h = ([], inl refl, refl)

-- every word contains a symbol that binds variable v iff the mask says so
pub binding : (vars : ℕ → ℕ) (r : Regex) (v : ℕ) → (bit v (bound_by vars r) ≡ true) ↔ ((w : List ℕ) → In r w → any (λ a. bit v (vars a)) w ≡ true)
binding vars r v = (bound vars v r, λ h. go (bit v (bound_by vars r)) refl h)
  where
    go : (b : Bool) → bit v (bound_by vars r) ≡ b → ((w : List ℕ) → In r w → binds vars v w ≡ true) → b ≡ true
    go true e h = refl
    go false e h = let t = free vars v r e in sym t.2 ∙ h t.0 t.1
