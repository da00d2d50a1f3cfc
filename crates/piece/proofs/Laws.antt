-- The masks and the symbols of a larger fragment from those of its parts.
use mathlib.Core.Path.{◌≡◌, refl, sym, ap₂, ◌∙◌}
use mathlib.Core.Bool.{Bool, true, false, cond, ◌&&◌}
use mathlib.Core.List.{List, map}
use Prim.Native.Nat.{ℕ, ◌+◌, ◌*◌, ◌-◌, ◌%◌, ◌^◌, ◌≤◌, ◌<◌}
use native.Mathlib.Nat.{add_assoc, add_comm, one-mul}
use native.Mathlib.Omega.{arith}
use lib.Dec.{leb, ltb}
use lib.ListN.{get_or, set, replicate, length-set, length-replicate, get_or-replicate}
use lib.Pow.{shl_exact}
use lib.Seq.{get_or-set_same, get_or-set_other}
use borrow.Author.Tests.{leb-true, leb-false, ltb-true, ltb-false, le-leb, lt-leb, lt-ltb}
use Rattle.laws.specs.Bits.{bit, join, single}
use Rattle.laws.specs.Lists.{numbers}
use Rattle.laws.proofs.Bits.{bits_equal, bit_zero, join_none, none_join}
use Rattle.laws.proofs.Lists.{get_or_numbers}
use Rattle.pattern.specs.Regex.{Regex, lit, cat, alt}
use Rattle.pattern.specs.Positions.{size, symbol_at, beginning, ending, following, given}
use Rattle.pattern.proofs.Masks.{Among, ending_among, following_among}
use Rattle.piece.specs.Pieces.{positions, symbol_or0}
use Rattle.piece.proofs.Fills.{by_elements, by_position}

-- a test that would refute something fails
fails : (b : Bool) → (b ≡ true → ⊥) → b ≡ false
fails true h = absurd (h refl)
fails false h = refl

module _ (r : Regex) (k p : ℕ) where
  -- what does not stand in the fragment is followed by nothing
  pub follows_none : (Among r k p → ⊥) → following r k p ≡ 0
  follows_none h = bits_equal (following r k p) 0 (λ q. fails (bit q (following r k p)) (λ b. h (following_among r k p q b).0) ∙ sym (bit_zero q))

  ends_none : (Among r k p → ⊥) → bit p (ending r k) ≡ false
  ends_none h = fails (bit p (ending r k)) (λ b. h (ending_among r k p b))

-- x where p is one of the s positions from k on, y where it is one of the t positions behind them
two_parts : (k s t p x y : ℕ)
    → join (cond (leb k p && ltb p (k + s)) x 0) (cond (leb (k + s) p && ltb p (k + s + t)) y 0)
    ≡ cond (leb k p && ltb p (k + (s + t))) (cond (ltb p (k + s)) x y) 0
two_parts k s t p x y = go (leb k p) (ltb p (k + s)) refl refl
  where
    go : (u v : Bool) → leb k p ≡ u → ltb p (k + s) ≡ v
        → join (cond (u && v) x 0) (cond (leb (k + s) p && ltb p (k + s + t)) y 0) ≡ cond (u && ltb p (k + (s + t))) (cond v x y) 0
    go false v d e = let l = leb-false k p d in rw (lt-leb (k + s) p (omega arith)) (join_none 0)
    go true true d e =
        let l = ltb-true p (k + s) e in
        rw (lt-leb (k + s) p l, lt-ltb p (k + (s + t)) (omega arith)) (join_none x)
    go true false d e = rw (le-leb (k + s) p (ltb-false p (k + s) e), add_assoc) (none_join _)

module _ (a b : Regex) (k p : ℕ) where
  -- left of b nothing of b follows p; right of a nothing of a does, and p ends nothing of a
  by_part : (x y z : ℕ) → (following b (k + size a) p ≡ 0 → z ≡ x) → (following a k p ≡ 0 → bit p (ending a k) ≡ false → z ≡ y)
      → z ≡ cond (ltb p (k + size a)) x y
  by_part x y z left right = go (ltb p (k + size a)) refl
    where
      go : (t : Bool) → ltb p (k + size a) ≡ t → z ≡ cond t x y
      go true e = let l = ltb-true p (k + size a) e in left (follows_none b (k + size a) p (λ h. omega arith))
      go false e =
          let l = ltb-false p (k + size a) e in
          right (follows_none a k p (λ h. omega arith)) (ends_none a k p (λ h. omega arith))

  pub cat_follows : join (join (following a k p) (following b (k + size a) p)) (given (bit p (ending a k)) (beginning b (k + size a)))
      ≡ following (cat a b) k p
  cat_follows = by_part _ _ _ (λ d. rw (d, join_none)) (λ d e. rw (d, e, join_none, none_join))

  pub alt_follows : join (following a k p) (following b (k + size a) p) ≡ following (alt a b) k p
  alt_follows = by_part _ _ _ (λ d. rw d (join_none _)) (λ d e. rw d (none_join _))

  pub cat_symbols : join (symbol_or0 a k p) (symbol_or0 b (k + size a) p) ≡ symbol_or0 (cat a b) k p
  unfolding symbol_or0
  cat_symbols = two_parts k (size a) (size b) p (symbol_at a k p) (symbol_at b (k + size a) p)

  pub alt_symbols : join (symbol_or0 a k p) (symbol_or0 b (k + size a) p) ≡ symbol_or0 (alt a b) k p
  unfolding symbol_or0
  alt_symbols = cat_symbols

module _ (k a : ℕ) where
  -- the array with a at position k alone
  pub lit_symbols : (n : ℕ) → 1 ≤ k → k ≤ n → set (replicate n 0) (k - 1) a ≡ map (symbol_or0 (lit a) k) (numbers 1 n)
  unfolding symbol_or0
  lit_symbols n low high =
      by_elements (symbol_or0 (lit a) k) n 1 _ (length-set (replicate n 0) (k - 1) a ∙ length-replicate n 0) (λ i m. go i m _ _ refl refl)
    where
      other : (i : ℕ) → i < n → (i ≡ k - 1 → ⊥) → get_or (set (replicate n 0) (k - 1) a) i 0 ≡ 0
      other i m h = get_or-set_other (replicate n 0) (k - 1) i a 0 h ∙ get_or-replicate n i 0 0 m

      go : (i : ℕ) → i < n → (u v : Bool) → leb k (1 + i) ≡ u → ltb (1 + i) (k + 1) ≡ v → get_or (set (replicate n 0) (k - 1) a) i 0 ≡ cond (u && v) a 0
      go i m true true d e =
          let p = leb-true k (1 + i) d in
          let q = ltb-true (1 + i) (k + 1) e in
          let here : k - 1 ≡ i = omega arith in
          rw here (get_or-set_same (replicate n 0) i a 0 (omega (arith, length-replicate {A = ℕ} n 0)))
      go i m true false d e = let q = ltb-false (1 + i) (k + 1) e in other i m (λ h. omega arith)
      go i m false v d e = let p = leb-false k (1 + i) d in other i m (λ h. omega arith)

  pub lit_mask : k ≤ 31 → 1 * 2 ^ k % 2 ^ 32 ≡ single k
  unfolding single
  lit_mask h = shl_exact 1 k 32 (omega arith) (omega arith) ∙ one-mul (2 ^ k)

-- what `joined` and `linked` give; and what they give for arrays that are made position by position
unfoldable pub joined_of : (a b : List ℕ) → List ℕ
joined_of a b = map (λ i. join (get_or a i 0) (get_or b i 0)) (numbers 0 31)

unfoldable pub linked_of : (follows : List ℕ) (ends begins : ℕ) → List ℕ
linked_of follows ends begins = map (λ i. join (get_or follows i 0) (given (bit (i + 1) ends) begins)) (numbers 0 31)

-- the contracts of `joined` and `linked`, with the list of 31 elements shut behind its name
pub is_joined : (a b : List ℕ) {r : List ℕ} → r ≡ map (λ i. join (get_or a i 0) (get_or b i 0)) (numbers 0 31) → r ≡ joined_of a b
unfolding joined_of
is_joined a b e = e

pub is_linked : (follows : List ℕ) (ends begins : ℕ) {r : List ℕ}
    → r ≡ map (λ i. join (get_or follows i 0) (given (bit (i + 1) ends) begins)) (numbers 0 31) → r ≡ linked_of follows ends begins
unfolding linked_of
is_linked follows ends begins e = e

pub joined_positions : (f g h : ℕ → ℕ) → ((p : ℕ) → join (f p) (g p) ≡ h p) → joined_of (map f positions) (map g positions) ≡ map h positions
unfolding joined_of
joined_positions f g h e = by_position h 31 _ (λ i m. ap₂ join (get_or_numbers f 1 31 i 0 m) (get_or_numbers g 1 31 i 0 m) ∙ e (1 + i))

pub linked_positions : (f h : ℕ → ℕ) (ends begins : ℕ) → ((p : ℕ) → join (f p) (given (bit p ends) begins) ≡ h p)
    → linked_of (map f positions) ends begins ≡ map h positions
unfolding linked_of
linked_positions f h ends begins e =
    by_position h 31 _ (λ i m. ap₂ (λ x y. join x (given (bit y ends) begins)) (get_or_numbers f 1 31 i 0 m) (add_comm i 1) ∙ e (1 + i))
