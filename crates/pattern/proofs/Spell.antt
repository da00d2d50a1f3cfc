-- Theorem `positions`: a word is in the language iff a path of positions that begins, follows step by step and ends
-- spells it; `positions_left` is the same for paths read from the left, newest symbol first.
use mathlib.Core.Path.{◌≡◌, refl, sym, ap₂, subst, subst⁻¹}
use mathlib.Core.List.{List, [], ◌∷◌, map, reverse, reverse_aux}
use mathlib.Core.Logic.{◌↔◌}
use Prim.Native.Nat.{ℕ}
use Rattle.pattern.proofs.After.{After, via, begin, follow, end}
use Rattle.pattern.specs.Regex.{Regex, In}
use Rattle.pattern.specs.Positions.{ending, symbol_at, Has, Onward, stop, on, Spelling, Reach, start, next}

module _ (r : Regex) where
  -- what comes after a position is spelled by the positions that follow it
  onward : (p : ℕ) (w : List ℕ) → After r 1 p w → (ps : List ℕ) × Onward r p ps × (w ≡ map (symbol_at r 1) ps)
  onward p [] t = ([], stop ((end r 1 p).0 t), refl)
  onward p (a ∷ w) t = elim ((follow r 1 p a w).0 t) [ via q h e s ↦ let o = onward q w s in (q ∷ o.0, on h o.1, ap₂ ◌∷◌ (sym e) o.2) ]

  back : {p : ℕ} {ps : List ℕ} → Onward r p ps → After r 1 p (map (symbol_at r 1) ps)
  back {p} (stop h) = (end r 1 p).1 h
  back {p} (on {q = q} h o) = (follow r 1 p _ _).1 (via q h refl (back o))

  -- a path to p, and what may come after p
  reached : {u : List ℕ} {p : ℕ} (w : List ℕ) → Reach r u p → After r 1 p w → In r (reverse_aux u w)
  reached {p = p} w (start h) t = (begin r 1 _ w).1 (via p h refl t)
  reached w (next {p = p} {q} l h) t = reached _ l ((follow r 1 p _ w).1 (via q h refl t))

  reach : (a : ℕ) (u w : List ℕ) → In r (reverse_aux (a ∷ u) w) → (p : ℕ) × Reach r (a ∷ u) p × After r 1 p w
  reach a [] w t = elim ((begin r 1 a w).0 t) [ via q h e s ↦ (q, subst (λ b. Reach r (b ∷ []) q) e (start h), s) ]
  reach a (b ∷ u) w t =
      let l = reach b u (a ∷ w) t in
      elim ((follow r 1 l.0 a w).0 l.2) [ via q h e s ↦ (q, subst (λ c. Reach r (c ∷ b ∷ u) q) e (next l.1 h), s) ]

pub positions : (r : Regex) (a : ℕ) (w : List ℕ) → In r (a ∷ w) ↔ Spelling r (a ∷ w)
positions r a w = (
  λ t. elim ((begin r 1 a w).0 t)
      [ via q h e s ↦ let o = onward r q w s in record { at = q; rest = o.0; begins = h; onward = o.1; spells = ap₂ ◌∷◌ (sym e) o.2 } ],
  λ s. subst⁻¹ (In r) s.spells ((begin r 1 _ _).1 (via s.at s.begins refl (back r s.onward))),
)

pub positions_left : (r : Regex) (a : ℕ) (w : List ℕ) → In r (reverse (a ∷ w)) ↔ ((p : ℕ) × Reach r (a ∷ w) p × Has p (ending r 1))
positions_left r a w = (
  λ t. let l = reach r a w [] t in (l.0, l.1, (end r 1 l.0).0 l.2),
  λ l. reached r [] l.1 ((end r 1 l.0).1 l.2),
)
