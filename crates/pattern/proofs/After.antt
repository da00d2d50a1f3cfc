-- What may come after a position. `After r k p w`: w completes a word of r after position p, where the leftmost position
-- of r is k. The first symbol of a word, the first symbol after a position, and the end of a word are read off the masks.
use mathlib.Core.Path.{◌≡◌, refl, sym, ap₂}
use mathlib.Core.Bool.{Bool, true, false, cond}
use mathlib.Core.List.{List, [], ◌∷◌, cons≢nil, head-eq_of_cons-eq, tail-eq_of_cons-eq}
use mathlib.Core.Logic.Iff
use mathlib.Core.Logic.{◌↔◌, ◌⊎◌, inl, inr, ⊎_map}
use Prim.Native.Nat.{ℕ, ◌+◌, ◌≤◌, ◌<◌}
use native.Mathlib.Omega.{arith}
use lib.Dec.{ltb}
use borrow.Author.Tests.{ltb-true, ltb-false, lt-ltb, le-ltb}
use Rattle.laws.specs.Bits.{bit, join}
use Rattle.pattern.proofs.Masks.{beginning_among, ending_among, following_among}
use Rattle.pattern.proofs.Members.{or_iff, has_zero, has_join, has_given, has_single}
use Rattle.pattern.proofs.Then.{Then, then_iff, then_nil, then_cons, repeat_cons, plus_repeat}
use Rattle.pattern.proofs.Words.{empty_word_law}
use Rattle.pattern.specs.Regex.{Regex, lit, cat, alt, star, plus, opt, Repeat, none, In, nullable}
use Rattle.pattern.specs.Positions.{size, symbol_at, beginning, ending, following, given, Has}

abbrev pub After : Regex → ℕ → ℕ → List ℕ → Type 0
After (lit a) k p w = (p ≡ k) × (w ≡ [])
After (cat r s) k p w = cond (ltb p (k + size r)) (Then (After r k p) (In s) w) (After s (k + size r) p w)
After (alt r s) k p w = cond (ltb p (k + size r)) (After r k p w) (After s (k + size r) p w)
After (star r) k p w = Then (After r k p) (Repeat (In r)) w
After (plus r) k p w = Then (After r k p) (Repeat (In r)) w
After (opt r) k p w = After r k p w

-- the symbol a is that of a position q in the set m, and w comes after q: f q is the symbol of q, F q what comes after q
pub data Via (m : ℕ) (f : ℕ → ℕ) (F : ℕ → List ℕ → Type 0) (a : ℕ) (w : List ℕ) : Type 0 where
  via : (q : ℕ) → Has q m → f q ≡ a → F q w → Via m f F a w

module _ {m : ℕ} {f : ℕ → ℕ} {F : ℕ → List ℕ → Type 0} {a : ℕ} {w : List ℕ} where
  via_join : {n : ℕ} → (Via m f F a w ⊎ Via n f F a w) ↔ Via (join m n) f F a w
  unfolding ⊎_map
  via_join {n} = (
    elim [ inl (via q h e t) ↦ via q ((has_join q m n).1 (inl h)) e t | inr (via q h e t) ↦ via q ((has_join q m n).1 (inr h)) e t ],
    elim [ via q h e t ↦ ⊎_map (λ x. via q x e t) (λ x. via q x e t) ((has_join q m n).0 h) ],
  )

  via_given : {b : Bool} → ((b ≡ true) × Via m f F a w) ↔ Via (given b m) f F a w
  via_given {b} = (
    λ s. elim s.1 [ via q h e t ↦ via q ((has_given q m b).1 (s.0, h)) e t ],
    elim [ via q h e t ↦ let g = (has_given q m b).0 h in (g.0, via q g.1 e t) ],
  )

  via_then : {B : List ℕ → Type 0} → Then (Via m f F a) B w ↔ Via m f (λ q. Then (F q) B) a w
  via_then = (
    λ s. elim s.3 [ via q h e t ↦ via q h e (s.0, s.1, s.2, t, s.4) ],
    elim [ via q h e t ↦ (t.0, t.1, t.2, via q h e t.3, t.4) ],
  )

  -- a test that all positions of m pass, or all fail
  module _ (n : ℕ) (g : ℕ → ℕ) (G : ℕ → List ℕ → Type 0) where
    via_left : ((q : ℕ) → Has q m → q < n) → Via m f F a w ↔ Via m (λ q. cond (ltb q n) (f q) (g q)) (λ q w. cond (ltb q n) (F q w) (G q w)) a w
    via_left b = (
      elim [ via q h e t ↦ via q h (rw (lt-ltb q n (b q h)) e) (rw (lt-ltb q n (b q h)) t) ],
      elim [ via q h e t ↦ via q h (rw (lt-ltb q n (b q h)) at e) (rw (lt-ltb q n (b q h)) at t) ],
    )

    via_right : ((q : ℕ) → Has q m → n ≤ q) → Via m f F a w ↔ Via m (λ q. cond (ltb q n) (g q) (f q)) (λ q w. cond (ltb q n) (G q w) (F q w)) a w
    via_right b = (
      elim [ via q h e t ↦ via q h (rw (le-ltb q n (b q h)) e) (rw (le-ltb q n (b q h)) t) ],
      elim [ via q h e t ↦ via q h (rw (le-ltb q n (b q h)) at e) (rw (le-ltb q n (b q h)) at t) ],
    )

-- the parts of `cat r s` and `alt r s`: m lies in the left part, m' in the right
parts : {m m' n a : ℕ} {f g : ℕ → ℕ} {F G : ℕ → List ℕ → Type 0} {w : List ℕ} → ((q : ℕ) → Has q m → q < n) → ((q : ℕ) → Has q m' → n ≤ q) →
    (Via m f F a w ⊎ Via m' g G a w) ↔ Via (join m m') (λ q. cond (ltb q n) (f q) (g q)) (λ q w. cond (ltb q n) (F q w) (G q w)) a w
parts {n = n} {f = f} {g} {F} {G} low high = Iff.trans (or_iff (via_left n g G low) (via_right n f F high)) via_join

-- the first symbol of two words, one after the other: of the first, or of the second where the first is empty
chain : {A B : List ℕ → Type 0} {m m' a : ℕ} {f g : ℕ → ℕ} {F G : ℕ → List ℕ → Type 0} {b : Bool} {w : List ℕ} →
    ((u : List ℕ) → A (a ∷ u) ↔ Via m f F a u) → (A [] ↔ (b ≡ true)) → B (a ∷ w) ↔ Via m' g G a w →
    Then A B (a ∷ w) ↔ (Via m f (λ q. Then (F q) B) a w ⊎ Via (given b m') g G a w)
chain {A} {B} {a = a} {w = w} f e g =
    Iff.trans (then_cons A B a w)
    (or_iff (Iff.trans (then_iff w f (λ v. Iff.rfl)) via_then) (Iff.trans (Iff.and e g) via_given))

repeats : {A : List ℕ → Type 0} {m a : ℕ} {f : ℕ → ℕ} {F : ℕ → List ℕ → Type 0} (w : List ℕ) →
    ((u : List ℕ) → A (a ∷ u) ↔ Via m f F a u) → Repeat A (a ∷ w) ↔ Via m f (λ q. Then (F q) (Repeat A)) a w
repeats {A} {a = a} w f = Iff.trans (repeat_cons A a w) (Iff.trans (then_iff w f (λ v. Iff.rfl)) via_then)

-- the first symbol of a word is that of a position that begins
pub begin : (r : Regex) (k a : ℕ) (w : List ℕ) → In r (a ∷ w) ↔ Via (beginning r k) (symbol_at r k) (After r k) a w
begin (lit b) k a w = (
  λ e. via k ((has_single k k).1 refl) (sym (head-eq_of_cons-eq e)) (refl, tail-eq_of_cons-eq e),
  elim [ via q h e t ↦ ap₂ ◌∷◌ (sym e) t.1 ],
)
begin (cat r s) k a w =
    Iff.trans (chain (begin r k a) (empty_word_law r) (begin s (k + size r) a w))
    (parts (λ q h. (beginning_among r k q h).high) (λ q h. (beginning_among s (k + size r) q ((has_given q _ (nullable r)).0 h).1).low))
begin (alt r s) k a w =
    Iff.trans (or_iff (begin r k a w) (begin s (k + size r) a w))
    (parts (λ q h. (beginning_among r k q h).high) (λ q h. (beginning_among s (k + size r) q h).low))
begin (star r) k a w = repeats w (begin r k a)
begin (plus r) k a w = Iff.trans (plus_repeat (In r) a w) (repeats w (begin r k a))
begin (opt r) k a w = Iff.trans (elim [ inl e ↦ absurd (cons≢nil e) | inr h ↦ h ], inr) (begin r k a w)

-- a test that holds where C does and fails where D does
test_or : {A B C D : Type 0} (p n : ℕ) → A ↔ C → B ↔ D → (C → p < n) → (D → n ≤ p) → cond (ltb p n) A B ↔ (C ⊎ D)
test_or {A} {B} {C} {D} p n f g low high = go (ltb p n) refl
  where
    go : (t : Bool) → ltb p n ≡ t → cond t A B ↔ (C ⊎ D)
    go true e = (λ x. inl (f.0 x), elim [ inl c ↦ f.1 c | inr d ↦ absurd (omega (arith, ltb-true p n e, high d)) ])
    go false e = (λ y. inr (g.0 y), elim [ inl c ↦ absurd (omega (arith, ltb-false p n e, low c)) | inr d ↦ g.1 d ])

end_repeat : {A L : List ℕ → Type 0} {C : Type 0} → A [] ↔ C → Then A (Repeat L) [] ↔ C
end_repeat {A} {L} f = Iff.trans (then_nil A (Repeat L)) (λ t. f.0 t.0, λ c. (f.1 c, none))

-- nothing need come after a position iff it ends
pub end : (r : Regex) (k p : ℕ) → After r k p [] ↔ Has p (ending r k)
end (lit a) k p = (λ t. (has_single p k).1 t.0, λ h. ((has_single p k).0 h, refl))
end (cat r s) k p =
    Iff.trans
    (test_or p (k + size r) (Iff.trans (then_nil (After r k p) (In s)) (Iff.trans (Iff.and (end r k p) (empty_word_law s)) (λ t. (t.1, t.0), λ t. (t.1, t.0))))
    (end s (k + size r) p) (λ h. (ending_among r k p h.1).high) (λ h. (ending_among s (k + size r) p h).low))
    (Iff.symm (Iff.trans (has_join p _ _) (or_iff (has_given p _ (nullable s)) Iff.rfl)))
end (alt r s) k p =
    Iff.trans (test_or p (k + size r) (end r k p) (end s (k + size r) p) (λ h. (ending_among r k p h).high) (λ h. (ending_among s (k + size r) p h).low))
    (Iff.symm (has_join p _ _))
end (star r) k p = end_repeat (end r k p)
end (plus r) k p = end_repeat (end r k p)
end (opt r) k p = end r k p

test_via : {A B : Type 0} {m n a : ℕ} {f : ℕ → ℕ} {F : ℕ → List ℕ → Type 0} {w : List ℕ} (t : Bool) →
    A ↔ Via m f F a w → B ↔ Via n f F a w → cond t A B ↔ Via (cond t m n) f F a w
test_via true h g = h
test_via false h g = g

-- the first symbol after a position is that of a position that follows
pub follow : (r : Regex) (k p a : ℕ) (w : List ℕ) → After r k p (a ∷ w) ↔ Via (following r k p) (symbol_at r k) (After r k) a w
follow (lit b) k p a w = (λ t. absurd (cons≢nil t.1), elim [ via q h e t ↦ absurd (has_zero q h) ])
follow (cat r s) k p a w =
    test_via (ltb p (k + size r))
    (Iff.trans (chain (follow r k p a) (end r k p) (begin s (k + size r) a w))
    (parts (λ q h. (following_among r k p q h).1.high)
    (λ q h. (beginning_among s (k + size r) q ((has_given q _ (bit p (ending r k))).0 h).1).low)))
    (Iff.trans (follow s (k + size r) p a w) (via_right (k + size r) (symbol_at r k) (λ q. Then (After r k q) (In s))
    (λ q h. (following_among s (k + size r) p q h).1.low)))
follow (alt r s) k p a w =
    test_via (ltb p (k + size r))
    (Iff.trans (follow r k p a w) (via_left (k + size r) (symbol_at s (k + size r)) (After s (k + size r)) (λ q h. (following_among r k p q h).1.high)))
    (Iff.trans (follow s (k + size r) p a w) (via_right (k + size r) (symbol_at r k) (After r k) (λ q h. (following_among s (k + size r) p q h).1.low)))
follow (star r) k p a w = Iff.trans (chain (follow r k p a) (end r k p) (repeats w (begin r k a))) via_join
follow (plus r) k p a w = Iff.trans (chain (follow r k p a) (end r k p) (repeats w (begin r k a))) via_join
follow (opt r) k p a w = follow r k p a w
