-- Laws of places: how the spot goes on from byte to byte, over a word, and that words stand in the order of their numbers.
-- For Sites, HeaderFaults and PatternFaults, which reason by a place's line and words and not by the bytes before it.
use mathlib.Core.Path.{◌≡◌, refl, sym, ap, ◌∙◌}
use mathlib.Core.Bool.{Bool, true, false, cond, not}
use mathlib.Core.List.{[], ◌∷◌, ◌++◌}
use mathlib.Core.Logic.{◌⊎◌, inl, inr, ⊎_elim, dite}
use Prim.Native.Nat.{ℕ, zero, suc, ◌+◌, ◌-◌, ◌≤◌, ◌<◌}
use native.Mathlib.Decide.{dec_lt}
use native.Mathlib.Numerals.{add-one}
use native.Mathlib.Omega.{arith}
use borrow.Author.Tests.{not-true}
use lib.Dec.{eqb}
use lib.ListN.{length, get_or, take, drop, length-drop}
use lib.Seq.{take-suc, get_or-drop}
use Rattle.laws.proofs.Lists.{and_true_split, either, all_taken}
use Rattle.form.specs.Text.{Bytes, space, lf}
use Rattle.form.specs.Scan.{at, past_end, run, is_word_byte, word_end}
use Rattle.parsing.proofs.Scans.{word_end_le, run_le, run_end, run_step}
use Rattle.parsing.proofs.Words.{run_split}
use Rattle.fault.specs.Places.{Spot, outset, passed, passed_all, spot_at, Word}

-- x does not lie behind y: by line, then by words begun
abbrev pub NotBehind : Spot → Spot → Type 0
NotBehind x y = (x.line < y.line) ⊎ ((x.line ≡ y.line) × (x.words ≤ y.words))

-- from one spot to the next: what a byte more does
passed_append : (x : Spot) (l m : Bytes) → passed_all x (l ++ m) ≡ passed_all (passed_all x l) m
passed_append x [] m = refl
passed_append x (b ∷ l) m = passed_append (passed x b) l m

behind_word_law : (x : Spot) (b : ℕ) → is_word_byte b ≡ true
    → passed x b ≡ record { line = x.line; words = cond x.inside x.words (suc x.words); inside = true }
behind_word_law x b h =
    let a = and_true_split (not (eqb b space)) (not (eqb b lf)) h in
    rw (not-true (eqb b lf) a.1, not-true (eqb b space) a.0)

behind_later : (x : Spot) (b : ℕ) → NotBehind x (passed x b)
behind_later x b =
    either (NotBehind x) (eqb b lf) (λ _. inl (omega arith))
    λ _. either (NotBehind x) (eqb b space) (λ _. inr (refl, omega arith))
    λ _. inr (refl, either (λ n. x.words ≤ n) x.inside (λ _. omega arith) λ _. omega arith)

-- the order of spots
later_trans : (x y z : Spot) → NotBehind x y → NotBehind y z → NotBehind x z
later_trans x y z (inl h) (inl k) = inl (omega arith)
later_trans x y z (inl h) (inr k) = inl (omega arith)
later_trans x y z (inr h) (inl k) = inl (omega arith)
later_trans x y z (inr h) (inr k) = inr (omega arith)

against : {j h k i : ℕ} → (j < k) ⊎ ((j ≡ k) × (h ≤ i)) → (k < j) ⊎ ((k ≡ j) × (i < h)) → ⊥
against (inl h) (inl l) = omega arith
against (inl h) (inr l) = omega arith
against (inr h) (inl l) = omega arith
against (inr h) (inr l) = omega arith

-- what stands in a run
pub run_inside : (f : ℕ → Bool) (l : Bytes) (i : ℕ) → i < run f l → f (get_or l i past_end) ≡ true
run_inside f l i h = all_taken f (run f l) l i past_end (run_split f l).0 (run_le f l) h

module _ (s : Bytes) where
  pub spot_zero : spot_at s 0 ≡ outset
  unfolding spot_at
  spot_zero = refl

  pub spot_step : (p : ℕ) → p < length s → spot_at s (p + 1) ≡ passed (spot_at s p) (at s p)
  unfolding spot_at
  spot_step p h =
      ap (λ n. passed_all outset (take n s)) (add-one p) ∙ ap (passed_all outset) (take-suc s p past_end h)
      ∙ passed_append outset (take p s) (at s p ∷ [])

  spot_suc : (p : ℕ) → p < length s → spot_at s (suc p) ≡ passed (spot_at s p) (at s p)
  spot_suc p h = ap (spot_at s) (sym (add-one p)) ∙ spot_step p h

  pub spot_later : (p q : ℕ) → p ≤ q → q ≤ length s → NotBehind (spot_at s p) (spot_at s q)
  spot_later p zero h l = let e : p ≡ 0 = omega arith in rw e (inr (refl, omega arith))
  spot_later p (suc q) h l =
      dite (dec_lt p (suc q))
      (λ k. later_trans (spot_at s p) (spot_at s q) (spot_at s (suc q)) (spot_later p q (omega arith) (omega arith))
      (rw (spot_suc q (omega arith)) (behind_later (spot_at s q) (at s q))))
      (λ n. let e : p ≡ suc q = omega arith in rw e (inr (refl, omega arith)))

  -- a word has a byte, ends inside the text, and ends at the text's end or at a byte that belongs to no word
  pub word_end_law : {k i p : ℕ} → Word s k i p → (p < word_end s p) × (word_end s p ≤ length s)
      × ((word_end s p ≡ length s) ⊎ (is_word_byte (at s (word_end s p)) ≡ false))
  unfolding word_end
  word_end_law {p = p} w = (
    omega (arith, run_step is_word_byte s p w.present w.byte),
    word_end_le s p (let h = w.present in omega arith),
    ⊎_elim (λ e. inl (let h = w.present in omega (arith, length-drop p s)))
        (λ e. inr (sym (ap is_word_byte (get_or-drop p s _ past_end)) ∙ e)) (run_end is_word_byte (drop p s)),
  )

  pub word_bytes : {k i p : ℕ} → Word s k i p → (q : ℕ) → p ≤ q → q < word_end s p → is_word_byte (at s q) ≡ true
  unfolding word_end
  word_bytes {p = p} w q h l =
      let e : p + (q - p) ≡ q = omega arith in
      ap is_word_byte (ap (λ n. at s n) (sym e) ∙ sym (get_or-drop p s (q - p) past_end))
      ∙ run_inside is_word_byte (drop p s) (q - p) (omega arith)

  -- inside a word and at its end
  pub word_spot : {k i p : ℕ} → Word s k i p → (q : ℕ) → p < q → q ≤ word_end s p
      → spot_at s q ≡ record { line = k; words = suc i; inside = true }
  word_spot w zero h l = absurd (omega arith)
  word_spot {k} {i} {p} w (suc q) h l =
      let inside = (word_end_law w).1 in
      spot_suc q (omega arith) ∙ behind_word_law (spot_at s q) (at s q) (word_bytes w q (omega arith) (omega arith))
      ∙ dite (dec_lt p q) (λ b. rw (word_spot w q b (omega arith))) (λ n. let e : q ≡ p = omega arith in rw (e, w.spot))

  -- words stand in the order of their numbers, and each number has one
  pub word_order : {k i p j h q : ℕ} → Word s k i p → Word s j h q → (k < j) ⊎ ((k ≡ j) × (i < h)) → p < q
  word_order {p = p} {q = q} v w h =
      dite (dec_lt p q) (λ l. l) (λ n. let inside = v.present in
      absurd (against (rw (w.spot, v.spot) at (spot_later q p (omega arith) (omega arith))) h))

  apart : {k i p q : ℕ} → Word s k i p → Word s k i q → p < q → ⊥
  apart {p = p} {q = q} v w l =
      let here = (word_end_law v).0 in
      let inside = w.present in
      let e = word_spot v (p + 1) (omega arith) (omega arith) in
      against (rw (e, w.spot) at (spot_later (p + 1) q (omega arith) (omega arith))) (inr (refl, omega arith))

  pub word_same : {k i p q : ℕ} → Word s k i p → Word s k i q → p ≡ q
  word_same {p = p} {q = q} v w =
      dite (dec_lt p q) (λ l. absurd (apart v w l)) (λ n. dite (dec_lt q p) (λ l. absurd (apart w v l)) (λ m. omega arith))

  -- a word that stands before a place with its line and words
  pub word_before : {k i p : ℕ} → Word s k i p → (q : ℕ) → q ≤ length s
      → (k < (spot_at s q).line) ⊎ ((k ≡ (spot_at s q).line) × (i < (spot_at s q).words)) → p < q
  word_before {p = p} v q l h =
      dite (dec_lt p q) (λ b. b) (λ n. let inside = v.present in
      absurd (against (rw v.spot at (spot_later q p (omega arith) (omega arith))) h))
