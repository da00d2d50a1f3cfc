-- The reader's tests of a word, by the bytes of that word: a new name, an argument, a kind; and which words stand among declared names.
-- For HeaderFacts and HeaderFaults, which go from these tests to the faults.
use mathlib.Core.Path.{◌≡◌, refl, sym, ap, ap₂, ◌∙◌}
use mathlib.Core.Bool.{Bool, true, false, cond, ◌&&◌, ◌||◌, or-true, false≢true}
use mathlib.Core.List.{List, [], ◌∷◌, ◌++◌, map, map-append}
use mathlib.Core.Logic.{◌⊎◌, ⊎_elim, ⊎_map, ◌↔◌}
use Prim.Native.Nat.{ℕ, suc, ◌+◌, ◌≤◌, ◌<◌}
use native.Mathlib.Omega.{arith}
use borrow.Author.Tests.{eqb-true, eq-eqb, ne_eqb, leb-true, leb-false, ltb-true, ltb-false, lt-ltb}
use lib.Dec.{eqb, leb, ltb}
use lib.ListN.{length, length-map}
use Rattle.laws.specs.Lists.{all}
use Rattle.laws.proofs.Lists.{same_test, and_true_split, or_true_split, any_append}
use Rattle.form.specs.Text.{Bytes, is_lower, is_name_byte, ignored_word, fixed_sign, decimal, Span}
use Rattle.form.specs.Form.{same_word}
use Rattle.form.specs.Scan.{at, is_word_byte, run, part, word_end, name_fault, kind_of, is_number}
use Rattle.form.specs.Lines.{bytes_at, span_of, index_of, declare_fault, argument_fault}
use Rattle.parsing.proofs.Scans.{same_word_law, word_end_ge}
use Rattle.parsing.proofs.Words as words
use Rattle.parsing.proofs.Words.{word_here, word_part, run_over_law, run_passes, byte_inside}
use Rattle.parsing.proofs.Names.{at_first, fault_at, stops_name, lower_name_byte, known, index_of_law, index_in, index_known, is_signed, unsigned, signed_at}
use Rattle.parsing.proofs.FormWords.{number_words}
use Rattle.parsing.proofs.Numerals.{kind_in, kind_of_law, kind_read, kind_found}
use Rattle.fault.specs.Places.{Word, word_at}
use Rattle.fault.specs.Fault.{is_name_form}
use Rattle.least.proofs.Spots.{word_end_law}

-- the fault of a word as a name
abbrev name_number : Bytes → ℕ
name_number w = cond (is_name_form w) (cond (leb (length w) 12) 0 3) 2

form_fault : {s : Bytes} {p : ℕ} {w rest : Bytes} → words.Word s p w rest → 1 ≤ length w → name_fault s p (word_end s p) ≡ name_number w
form_fault {w = []} h some = absurd (omega arith)
form_fault {s} {p} {w = b ∷ w} {rest} h some =
    fault_at h ∙ ap (λ t. cond t (cond (leb (suc (length w)) 12) 0 3) 2) (by (is_lower b) refl)
  where
    n : ℕ
    n = run is_name_byte (b ∷ w ++ rest)

    by : (t : Bool) → is_lower b ≡ t → eqb (cond t (p + n) p) (p + suc (length w)) ≡ (t && all is_name_byte w)
    by true e =
        let m = p + suc (length w) in
        let passes : n ≡ suc (length w) → all is_name_byte w ≡ true
        = λ f. (and_true_split (is_name_byte b) _ (run_passes is_name_byte (b ∷ w) rest f)).1 in
        let over : all is_name_byte w ≡ true → n ≡ suc (length w)
        = λ a. run_over_law is_name_byte (b ∷ w) rest (ap₂ ◌&&◌ (lower_name_byte b e) a) (stops_name rest h.stops) in
        same_test (eqb (p + n) m) (all is_name_byte w) (λ f. passes (omega (arith, eqb-true (p + n) m f)))
        (λ a. eq-eqb (p + n) m (ap (λ x. p + x) (over a)))
    by false e = ne_eqb p (p + suc (length w)) (λ f. omega arith)

-- what the reader finds at p, if an empty word
found : (s : Bytes) (p : ℕ) → (rest : Bytes) × words.Word s p (word_at s p) rest
found s p = let (w, rest, h) = word_here s p in (rest, rw (word_part h) h)

-- where it is not empty, a byte of a word stands at p
pub word_first : (s : Bytes) (p b : ℕ) (w : Bytes) → word_at s p ≡ b ∷ w → (p < length s) × (is_word_byte (at s p) ≡ true)
word_first s p b w e =
    let (rest, h) = found s p in
    let g : words.Word s p (b ∷ w) rest = rw e at h in
    (omega (arith, byte_inside s p b (w ++ rest) g.text), rw (at_first g) (and_true_split (is_word_byte b) _ g.word).0)

module _ {s : Bytes} {k i p : ℕ} (v : Word s k i p) where
  word_some : 1 ≤ length (word_at s p)
  word_some = omega (arith, word_end_law s v, words.word_end_law (found s p).1)

  name_number_law : name_fault s p (word_end s p) ≡ name_number (word_at s p)
  name_number_law = form_fault (found s p).1 word_some

  -- no kind: the word is no number from 1 to 255
  kind_number : kind_of s p (word_end s p) ≡ kind_in (word_at s p)
  kind_number = kind_of_law (found s p).1 word_some

  pub kind_none : kind_of s p (word_end s p) ≡ 0 → (n : ℕ) → 1 ≤ n → n ≤ 255 → word_at s p ≡ decimal n → ⊥
  kind_none z n h l e = omega (arith, (kind_read n h l).0, ap kind_in e, kind_number)

  pub kind_some : (kind_of s p (word_end s p) ≡ 0 → ⊥) → (n : ℕ) × (1 ≤ n) × (n ≤ 255) × (word_at s p ≡ decimal n)
  kind_some z =
      let f = kind_found (word_at s p) (λ e. z (kind_number ∙ e)) in
      (kind_in (word_at s p), f.1, f.2, f.0)

  -- whether the sign of a fixed argument stands at p, by the bytes of the word
  signed_word : eqb (at s p) fixed_sign ≡ true → word_at s p ≡ fixed_sign ∷ part s (p + 1) (word_end s p)
  signed_word e = let (a, b) = signed_at (found s p).1 word_some in rw b (by (word_at s p) (sym a ∙ e))
    where
      by : (w : Bytes) → is_signed w ≡ true → w ≡ fixed_sign ∷ unsigned w
      by [] h = absurd (false≢true h)
      by (b ∷ w) h = ap (◌∷ w) (eqb-true b fixed_sign h)

  unsigned_word : eqb (at s p) fixed_sign ≡ false → (w : Bytes) → word_at s p ≡ fixed_sign ∷ w → ⊥
  unsigned_word e w h = false≢true (sym e ∙ (signed_at (found s p).1 word_some).0 ∙ ap is_signed h)

-- the word w is among the names at xs
abbrev pub Among : Bytes → List Span → Bytes → Type 0
Among s xs w = index_of s xs w < length xs

module _ (s : Bytes) where
  among_known : (xs : List Span) (w : Bytes) → Among s xs w ↔ (known (map (bytes_at s) xs) w ≡ true)
  among_known xs w =
      let ws = map (bytes_at s) xs in
      let e : ltb (index_of s xs w) (length xs) ≡ known ws w
      = rw (index_of_law s xs w) (ap (ltb (index_in ws w)) (sym (length-map xs (bytes_at s))) ∙ index_known ws w) in
      (λ h. sym e ∙ lt-ltb (index_of s xs w) (length xs) h, λ h. ltb-true (index_of s xs w) (length xs) (e ∙ h))

  pub among_append : (xs ys : List Span) (w : Bytes) → Among s (xs ++ ys) w ↔ (Among s xs w ⊎ Among s ys w)
  among_append xs ys w =
      let us = map (bytes_at s) xs in
      let vs = map (bytes_at s) ys in
      let e : known (map (bytes_at s) (xs ++ ys)) w ≡ (known us w || known vs w) = rw map-append (any_append (same_word w) us vs) in
      let left : known us w ≡ true → (known us w || known vs w) ≡ true = λ h. ap (λ t. t || known vs w) h in
      let right : known vs w ≡ true → (known us w || known vs w) ≡ true = λ h. rw h (or-true (known us w)) in (
        λ h. ⊎_map (among_known xs w).1 (among_known ys w).1 (or_true_split (known us w) _ (sym e ∙ (among_known (xs ++ ys) w).0 h)),
        λ h. (among_known (xs ++ ys) w).1 (e ∙ ⊎_elim (λ x. left ((among_known xs w).0 x)) (λ y. right ((among_known ys w).0 y)) h),
      )

  pub among_one : (x : Span) (w : Bytes) → Among s (x ∷ []) w ↔ (bytes_at s x ≡ w)
  among_one x w = (
    λ h. (same_word_law (bytes_at s x) w).0 (by (same_word (bytes_at s x) w) h),
    λ e. rw ((same_word_law (bytes_at s x) w).1 e) (omega arith),
  )
    where
      by : (t : Bool) → cond {A = ℕ} t 0 1 < 1 → t ≡ true
      by true h = refl
      by false h = absurd (omega arith)

  -- a word's span holds that word
  pub span_word : (p : ℕ) → bytes_at s (span_of p (word_end s p)) ≡ word_at s p
  span_word p = ap (λ e. part s p e) (omega (arith, word_end_ge s p))

-- the fault of the word at p as a new name, by its bytes
pub data Declaring (s : Bytes) (xs : List Span) (p : ℕ) : ℕ → Type 0 where
  fresh : is_name_form (word_at s p) ≡ true → length (word_at s p) ≤ 12 → (Among s xs (word_at s p) → ⊥) → Declaring s xs p 0
  unnamed : is_name_form (word_at s p) ≡ false → Declaring s xs p 2
  long : is_name_form (word_at s p) ≡ true → 12 < length (word_at s p) → Declaring s xs p 3
  again : is_name_form (word_at s p) ≡ true → length (word_at s p) ≤ 12 → Among s xs (word_at s p) → Declaring s xs p 4

-- and as an argument
pub data Arguing (s : Bytes) (xs : List Span) (p : ℕ) : ℕ → Type 0 where
  ignored : word_at s p ≡ ignored_word → Arguing s xs p 0
  fixed : (n : ℕ) → n ≤ 4294967295 → word_at s p ≡ fixed_sign ∷ decimal n → Arguing s xs p 0
  variable : is_name_form (word_at s p) ≡ true → length (word_at s p) ≤ 12 → Among s xs (word_at s p) → Arguing s xs p 0
  unnamed : (word_at s p ≡ ignored_word → ⊥) → ((w : Bytes) → word_at s p ≡ fixed_sign ∷ w → ⊥) → is_name_form (word_at s p) ≡ false → Arguing s xs p 2
  unnumbered : {w : Bytes} → word_at s p ≡ fixed_sign ∷ w → ((n : ℕ) → n ≤ 4294967295 → w ≡ decimal n → ⊥) → Arguing s xs p 2
  long : is_name_form (word_at s p) ≡ true → 12 < length (word_at s p) → Arguing s xs p 3
  unknown : is_name_form (word_at s p) ≡ true → length (word_at s p) ≤ 12 → (Among s xs (word_at s p) → ⊥) → Arguing s xs p 5

module _ {s : Bytes} {k i p : ℕ} (v : Word s k i p) (xs : List Span) where
  -- the tests of both, and what each result says
  is_short : Bool
  is_short = leb (length (word_at s p)) 12

  is_among : Bool
  is_among = ltb (index_of s xs (word_at s p)) (length xs)

  short : leb (length (word_at s p)) 12 ≡ true → length (word_at s p) ≤ 12
  short e = leb-true (length (word_at s p)) 12 e

  over : leb (length (word_at s p)) 12 ≡ false → 12 < length (word_at s p)
  over e = leb-false (length (word_at s p)) 12 e

  among : ltb (index_of s xs (word_at s p)) (length xs) ≡ true → Among s xs (word_at s p)
  among e = ltb-true _ (length xs) e

  other : ltb (index_of s xs (word_at s p)) (length xs) ≡ false → Among s xs (word_at s p) → ⊥
  other e h = omega (arith, ltb-false _ (length xs) e)

  pub declaring : Declaring s xs p (declare_fault s xs p (word_end s p))
  unfolding is_short is_among
  declaring = rw (name_number_law v) (by (is_name_form (word_at s p)) is_short is_among refl refl refl)
    where
      by : (t u x : Bool) → is_name_form (word_at s p) ≡ t → is_short ≡ u → is_among ≡ x
          → Declaring s xs p (let n : ℕ = cond t (cond u 0 3) 2 in cond (eqb n 0) (cond x 4 0) n)
      by true true true e f g = Declaring.again e (short f) (among g)
      by true true false e f g = Declaring.fresh e (short f) (other g)
      by true false x e f g = Declaring.long e (over f)
      by false u x e f g = Declaring.unnamed e

  pub arguing : Arguing s xs p (argument_fault s xs p (word_end s p))
  unfolding is_short is_among
  arguing =
      rw (name_number_law v)
      (by (same_word (word_at s p) ignored_word) (eqb (at s p) fixed_sign) (is_number behind) (is_name_form (word_at s p)) is_short is_among
      refl refl refl refl refl refl)
    where
      behind : Bytes
      behind = part s (p + 1) (word_end s p)

      by : (y z m t u x : Bool) → same_word (word_at s p) ignored_word ≡ y → eqb (at s p) fixed_sign ≡ z → is_number behind ≡ m → is_name_form (word_at s p) ≡ t
          → is_short ≡ u → is_among ≡ x
          → Arguing s xs p (let n : ℕ = cond t (cond u 0 3) 2 in cond y 0 (cond z (cond m 0 2) (cond (eqb n 0) (cond x 0 5) n)))
      by true z m t u x a b c d e f = Arguing.ignored ((same_word_law (word_at s p) ignored_word).0 a)
      by false true true t u x a b c d e f =
          let (n, l, w) = (number_words behind).0 c in
          Arguing.fixed n l (signed_word v b ∙ ap (fixed_sign ∷◌) w)
      by false true false t u x a b c d e f =
          Arguing.unnumbered (signed_word v b) (λ n l w. false≢true (sym c ∙ (number_words behind).1 (n, l, w)))
      by false false m true true true a b c d e f = Arguing.variable d (short e) (among f)
      by false false m true true false a b c d e f = Arguing.unknown d (short e) (other f)
      by false false m true false x a b c d e f = Arguing.long d (over e)
      by false false m false u x a b c d e f =
          Arguing.unnamed (λ h. false≢true (sym a ∙ (same_word_law (word_at s p) ignored_word).1 h)) (unsigned_word v b) d
