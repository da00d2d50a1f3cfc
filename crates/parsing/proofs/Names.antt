-- Words as names: which are names, which of the declared names a word is, and the reader's tests for both.
use mathlib.Core.Path.{◌≡◌, refl, sym, ap, ap₂, ◌∙◌}
use mathlib.Core.Bool.{Bool, true, false, cond, not, ◌&&◌, ◌||◌, false≢true}
use mathlib.Core.List.Memᴰ
use mathlib.Core.List.{List, [], ◌∷◌, ◌++◌, map}
use Prim.Native.Nat.{ℕ, zero, suc, ◌+◌, ◌-◌, ◌≤◌, ◌<◌}
use native.Mathlib.Nat.{le_of_suc-le-suc}
use native.Mathlib.Omega.{arith}
use borrow.Author.Tests.{not-true, eqb-true, eq-eqb, ne_eqb, leb-true, le-leb, lt-ltb}
use lib.Dec.{eqb, leb, ltb, leb-suc-suc}
use lib.ListN.{length, get_or, length-map}
use lib.Seq.{get_or-drop}
use Rattle.laws.specs.Lists.{any, all}
use Rattle.laws.proofs.Lists.{same_test, and_true_split, any_append, any_of, any_none, mem_get_or, or_false_split}
use Rattle.form.specs.Text.{Bytes, space, lf, is_lower, is_digit, is_name_byte, is_name, ignored_word, fixed_sign, Span}
use Rattle.form.specs.Form.{same_word, distinct}
use Rattle.form.specs.Scan.{at, past_end, run, part, is_word_byte, word_end, name_end, name_fault, is_number}
use Rattle.form.specs.Lines.{bytes_at, index_of, declare_fault, argument_fault}
use Rattle.parsing.proofs.Scans.{same_word_law}
use Rattle.parsing.proofs.Words.{Word, word_end_law, word_part, part_first, behind, is_word, run_over_law, run_passes}

-- bytes that pass a test which space, LF and 256 fail are a word's
module _ (f : ℕ → Bool) (no_space_law : f space ≡ false) (no_lf_law : f lf ≡ false) where
  byte_differs : (b c : ℕ) → f c ≡ false → f b ≡ true → eqb b c ≡ false
  byte_differs b c h k = ne_eqb b c (λ e. false≢true (sym h ∙ ap f (sym e) ∙ k))

  word_byte : (b : ℕ) → f b ≡ true → is_word_byte b ≡ true
  word_byte b h = rw (byte_differs b space no_space_law h, byte_differs b lf no_lf_law h)

  pub all_word : (w : Bytes) → all f w ≡ true → all is_word_byte w ≡ true
  all_word [] h = refl
  all_word (b ∷ w) h = let a = and_true_split (f b) (all f w) h in ap₂ ◌&&◌ (word_byte b a.0) (all_word w a.1)

  pub bytes_word : f past_end ≡ false → (w : Bytes) → 1 ≤ length w → all f w ≡ true → is_word w ≡ true
  bytes_word no_end [] some h = absurd (omega arith)
  bytes_word no_end (b ∷ w) some h =
      ap₂ ◌&&◌ (ap not (byte_differs b past_end no_end (and_true_split (f b) (all f w) h).0)) (all_word (b ∷ w) h)

pub lower_name_byte : (b : ℕ) → is_lower b ≡ true → is_name_byte b ≡ true
lower_name_byte b h = ap (λ t. t || is_digit b) h

-- a name's parts
name_split : (b : ℕ) (w : Bytes) → is_name (b ∷ w) ≡ true → (is_lower b ≡ true) × (all is_name_byte (b ∷ w) ≡ true) × (length w ≤ 11)
name_split b w h =
    let a = and_true_split (is_lower b && all is_name_byte w) (leb (length w) 11) h in
    let c = and_true_split (is_lower b) (all is_name_byte w) a.0 in
    (c.0, ap₂ ◌&&◌ (lower_name_byte b c.0) c.1, leb-true (length w) 11 a.1)

pub name_word : (w : Bytes) → is_name w ≡ true → is_word w ≡ true
name_word [] h = h
name_word (b ∷ w) h = bytes_word is_name_byte refl refl refl (b ∷ w) (omega arith) (name_split b w h).1

-- what stands behind a word begins with no byte of a name
pub stops_name : (l : Bytes) → run is_word_byte l ≡ 0 → run is_name_byte l ≡ 0
stops_name [] h = refl
stops_name (b ∷ l) h = by (is_name_byte b) refl
  where
    by : (t : Bool) → is_name_byte b ≡ t → cond t (suc (run is_name_byte l)) 0 ≡ 0
    by true e = let k : suc (run is_word_byte l) ≡ 0 = rw (word_byte is_name_byte refl refl b e) at h in absurd (omega arith)
    by false e = refl

-- the reader's test: the word that stands at p is a name
module _ {s : Bytes} {p b : ℕ} {w rest : Bytes} (h : Word s p (b ∷ w) rest) where
  pub at_first : at s p ≡ b
  at_first = ap (λ q. get_or s q past_end) (omega arith) ∙ sym (get_or-drop p s 0 past_end) ∙ rw h.text

  -- what the test looks at
  pub fault_at : name_fault s p (word_end s p)
      ≡ cond (eqb (cond (is_lower b) (p + run is_name_byte (b ∷ w ++ rest)) p) (p + suc (length w))) (cond (leb (suc (length w)) 12) 0 3) 2
  unfolding name_fault name_end
  fault_at = let n : p + suc (length w) - p ≡ suc (length w) = omega arith in rw (word_end_law h, at_first, h.text, n)

  name_of_fault : (t u v : Bool) → is_lower b ≡ t → eqb (cond t (p + run is_name_byte (b ∷ w ++ rest)) p) (p + suc (length w)) ≡ u → leb (suc (length w)) 12 ≡ v
      → ◌≡◌ {A = ℕ} (cond u (cond v 0 3) 2) 0 → is_name (b ∷ w) ≡ true
  name_of_fault true true true e f g k =
      let r : run is_name_byte (b ∷ w ++ rest) ≡ suc (length w) = omega (arith, eqb-true (p + run is_name_byte (b ∷ w ++ rest)) (p + suc (length w)) f) in
      ap₂ ◌&&◌ (ap₂ ◌&&◌ e (and_true_split (is_name_byte b) (all is_name_byte w) (run_passes is_name_byte (b ∷ w) rest r)).1)
      (le-leb (length w) 11 (omega (arith, leb-true (suc (length w)) 12 g)))
  name_of_fault false true v e f g k = absurd (omega (arith, eqb-true p (p + suc (length w)) f))
  name_of_fault true true false e f g k = absurd (omega arith)
  name_of_fault true false v e f g k = absurd (omega arith)
  name_of_fault false false v e f g k = absurd (omega arith)

  name_found : name_fault s p (word_end s p) ≡ 0 → is_name (b ∷ w) ≡ true
  name_found k = name_of_fault (is_lower b) _ (leb (suc (length w)) 12) refl refl refl (sym fault_at ∙ k)

  name_read : is_name (b ∷ w) ≡ true → name_fault s p (word_end s p) ≡ 0
  name_read k =
      let n = name_split b w k in
      fault_at ∙ rw (
        run_over_law is_name_byte (b ∷ w) rest n.1 (stops_name rest h.stops),
        n.0,
        eq-eqb (p + suc (length w)) (p + suc (length w)) refl,
        le-leb (suc (length w)) 12 (omega arith),
      )

-- the number of the first of the names that is the word w, or their count
abbrev pub index_in : List Bytes → Bytes → ℕ
index_in [] w = 0
index_in (v ∷ vs) w = let r = suc (index_in vs w) in cond (same_word v w) 0 r

-- whether the word w is one of the names
abbrev pub known : List Bytes → Bytes → Bool
known vs w = any (same_word w) vs

-- whether it is a name and none of them
abbrev pub is_new : List Bytes → Bytes → Bool
is_new vs w = is_name w && not (known vs w)

pub index_of_law : (s : Bytes) (xs : List Span) (w : Bytes) → index_of s xs w ≡ index_in (map (bytes_at s) xs) w
index_of_law s [] w = refl
index_of_law s (x ∷ xs) w = ap (λ n. cond (same_word (bytes_at s x) w) 0 (suc n)) (index_of_law s xs w)

same_word_turned : (v w : Bytes) → same_word v w ≡ same_word w v
same_word_turned v w =
    same_test (same_word v w) (same_word w v) (λ h. (same_word_law w v).1 (sym ((same_word_law v w).0 h))) (λ h. (same_word_law v w).1 (sym ((same_word_law w v).0 h)))

pub index_known : (vs : List Bytes) (w : Bytes) → ltb (index_in vs w) (length vs) ≡ known vs w
index_known [] w = refl
index_known (v ∷ vs) w = rw (same_word_turned w v) (by (same_word v w) (index_known vs w))
  where
    by : (t : Bool) → ltb (index_in vs w) (length vs) ≡ known vs w → ltb (cond t 0 (suc (index_in vs w))) (suc (length vs)) ≡ (t || known vs w)
    by true ih = lt-ltb 0 (suc (length vs)) (omega arith)
    by false ih = leb-suc-suc (suc (index_in vs w)) (length vs) ∙ ih

pub get_or_index : (vs : List Bytes) (w : Bytes) → known vs w ≡ true → get_or vs (index_in vs w) [] ≡ w
get_or_index [] w h = absurd (false≢true h)
get_or_index (v ∷ vs) w h = by (same_word v w) refl (get_or_index vs w)
  where
    by : (t : Bool) → same_word v w ≡ t → (known vs w ≡ true → get_or vs (index_in vs w) [] ≡ w) → get_or (v ∷ vs) (cond t 0 (suc (index_in vs w))) [] ≡ w
    by true e ih = (same_word_law v w).0 e
    by false e ih = ih (ap (λ t. t || known vs w) (sym e ∙ same_word_turned v w) ∙ h)

pub known_get_or : (vs : List Bytes) (i : ℕ) → i < length vs → known vs (get_or vs i []) ≡ true
known_get_or vs i h = any_of (same_word (get_or vs i [])) (mem_get_or vs i [] h) ((same_word_law (get_or vs i []) (get_or vs i [])).1 refl)

pub index_get_or : (vs : List Bytes) (i : ℕ) → distinct vs ≡ true → i < length vs → index_in vs (get_or vs i []) ≡ i
index_get_or [] i d h = absurd (omega arith)
index_get_or (v ∷ vs) zero d h = rw ((same_word_law v v).1 refl)
index_get_or (v ∷ vs) (suc i) d h =
    let a = and_true_split (not (known vs v)) (distinct vs) d in
    rw (any_none (same_word v) (not-true (known vs v) a.0) (mem_get_or vs i [] (le_of_suc-le-suc h))) (ap suc (index_get_or vs i a.1 (le_of_suc-le-suc h)))

-- names one by one
pub distinct_fresh : (vs : List Bytes) (w : Bytes) (ws : List Bytes) → distinct (vs ++ (w ∷ ws)) ≡ true → known vs w ≡ false
distinct_fresh [] w ws h = refl
distinct_fresh (v ∷ vs) w ws h =
    let a = and_true_split (not (known (vs ++ (w ∷ ws)) v)) (distinct (vs ++ (w ∷ ws))) h in
    let n = any_none (same_word v) {x = w} (not-true (known (vs ++ (w ∷ ws)) v) a.0) (Memᴰ.append_right vs (Memᴰ.head refl)) in
    ap₂ ◌||◌ (same_word_turned w v ∙ n) (distinct_fresh vs w ws a.1)

pub distinct_snoc : (vs : List Bytes) (w : Bytes) → distinct vs ≡ true → known vs w ≡ false → distinct (vs ++ (w ∷ [])) ≡ true
distinct_snoc [] w h k = refl
distinct_snoc (v ∷ vs) w h k =
    let a = and_true_split (not (known vs v)) (distinct vs) h in
    let b = or_false_split (same_word w v) (known vs w) k in
    rw (any_append (same_word v) vs (w ∷ []), not-true (known vs v) a.0, same_word_turned v w, b.0) (distinct_snoc vs w a.1 b.1)

pub distinct_left : (vs ws : List Bytes) → distinct (vs ++ ws) ≡ true → distinct vs ≡ true
distinct_left [] ws h = refl
distinct_left (v ∷ vs) ws h =
    let a = and_true_split (not (known (vs ++ ws) v)) (distinct (vs ++ ws)) h in
    let b = or_false_split (known vs v) (known ws v) (sym (any_append (same_word v) vs ws) ∙ not-true (known (vs ++ ws) v) a.0) in
    ap₂ ◌&&◌ (ap not b.0) (distinct_left vs ws a.1)

name_tested : {s : Bytes} {p : ℕ} {w rest : Bytes} → Word s p w rest → 1 ≤ length w → eqb (name_fault s p (word_end s p)) 0 ≡ is_name w
name_tested {w = []} h some = absurd (omega arith)
name_tested {s} {p} {w = b ∷ w} h some =
    same_test (eqb (name_fault s p (word_end s p)) 0) (is_name (b ∷ w)) (λ f. name_found h (eqb-true (name_fault s p (word_end s p)) 0 f))
    (λ n. eq-eqb (name_fault s p (word_end s p)) 0 (name_read h n))

-- a fault n that is 0 where a name has been found, and then a further fault
first_fault : (n c : ℕ) (t u : Bool) → eqb n 0 ≡ t → eqb c 0 ≡ u → eqb (cond (eqb n 0) c n) 0 ≡ (t && u)
first_fault n c true u e f = rw (e, f)
first_fault n c false u e f = rw (e, e)

-- whether a word begins with the sign of fixed arguments, and what stands behind its first byte
abbrev pub is_signed : Bytes → Bool
is_signed [] = false
is_signed (b ∷ w) = eqb b fixed_sign

abbrev pub unsigned : Bytes → Bytes
unsigned [] = []
unsigned (b ∷ w) = w

-- a name does not begin so
pub name_unsigned : (w : Bytes) → is_name w ≡ true → is_signed w ≡ false
name_unsigned [] h = refl
name_unsigned (b ∷ w) h = byte_differs is_lower refl refl b fixed_sign refl (name_split b w h).0

pub signed_at : {s : Bytes} {p : ℕ} {w rest : Bytes} → Word s p w rest → 1 ≤ length w
    → (eqb (at s p) fixed_sign ≡ is_signed w) × (part s (p + 1) (word_end s p) ≡ unsigned w)
signed_at {w = []} h some = absurd (omega arith)
signed_at {s} {p} {w = b ∷ w} {rest} h some =
    let e : word_end s p ≡ p + 1 + length w = word_end_law h ∙ omega arith in
    (ap (λ c. eqb c fixed_sign) (at_first h), rw e (part_first s (p + 1) w rest (behind s p (b ∷ []) (w ++ rest) h.text)))

-- the reader's tests for a new name, and for an argument
module _ {s : Bytes} {p : ℕ} {w rest : Bytes} (h : Word s p w rest) (some : 1 ≤ length w) (xs : List Span) where
  index_tested : ltb (index_of s xs (part s p (word_end s p))) (length xs) ≡ known (map (bytes_at s) xs) w
  index_tested =
      rw (word_part h, index_of_law s xs w) (ap (ltb (index_in (map (bytes_at s) xs) w)) (sym (length-map xs (bytes_at s))) ∙ index_known (map (bytes_at s) xs) w)

  pub declare_tested : eqb (declare_fault s xs p (word_end s p)) 0 ≡ is_new (map (bytes_at s) xs) w
  declare_tested = first_fault (name_fault s p (word_end s p)) _ (is_name w) _ (name_tested h some) (rw index_tested (by (known (map (bytes_at s) xs) w)))
    where
      by : (t : Bool) → eqb (cond t 4 0) 0 ≡ not t
      by true = refl
      by false = refl

  pub argument_tested : eqb (argument_fault s xs p (word_end s p)) 0
      ≡ (same_word w ignored_word || cond (is_signed w) (is_number (unsigned w)) (is_name w && known (map (bytes_at s) xs) w))
  argument_tested =
      let (e, f) = signed_at h some in
      rw (ap (λ v. same_word v ignored_word) (word_part h), e, f) (by (same_word w ignored_word) (is_signed w))
    where
      n : ℕ
      n = name_fault s p (word_end s p)

      c : ℕ
      c = cond (ltb (index_of s xs (part s p (word_end s p))) (length xs)) 0 5

      tested_0 : (m : ℕ) → eqb (suc m) 0 ≡ false → (t : Bool) → eqb (cond t 0 (suc m)) 0 ≡ t
      tested_0 m e true = refl
      tested_0 m e false = e

      by : (t u : Bool) → eqb (cond t 0 (cond u (cond (is_number (unsigned w)) 0 2) (cond (eqb n 0) c n))) 0
          ≡ (t || cond u (is_number (unsigned w)) (is_name w && known (map (bytes_at s) xs) w))
      by true u = refl
      by false true = tested_0 1 refl (is_number (unsigned w))
      by false false = first_fault n c (is_name w) _ (name_tested h some) (rw index_tested (tested_0 4 refl (known (map (bytes_at s) xs) w)))
