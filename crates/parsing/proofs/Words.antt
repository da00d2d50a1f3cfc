-- Words and the gaps between them, by what stands from a place on.
use mathlib.Core.Path.{◌≡◌, refl, sym, ap, ◌∙◌}
use mathlib.Core.Bool.{Bool, true, false, cond, not, ◌&&◌, ◌||◌, false≢true}
use mathlib.Core.List.{[], ◌∷◌, ◌++◌}
use Prim.Native.Nat.{ℕ, suc, ◌+◌, ◌-◌, ◌≤◌}
use native.Mathlib.Omega.{arith}
use borrow.Author.Tests.{not-true, eqb-true, eqb-false, eq-eqb, ne_eqb}
use lib.Dec.{eqb}
use lib.ListN.{length, get_or, take, drop, length-append, take-append-drop, length-drop}
use lib.Seq.{drop-drop, get_or-drop, take_at, drop-append_seam}
use Rattle.laws.specs.Lists.{all}
use Rattle.laws.proofs.Lists.{and_true_split}
use Rattle.form.specs.Text.{Bytes, space, lf}
use Rattle.parsing.proofs.Scans.{run_le}
use Rattle.form.specs.Scan.{Step, go, fail, past_end, run, part, is_space, is_word_byte, spaces_end, word_end, next_word}

-- a run over bytes that pass, up to one that does not
pub run_over_law : (f : ℕ → Bool) (w rest : Bytes) → all f w ≡ true → run f rest ≡ 0 → run f (w ++ rest) ≡ length w
run_over_law f [] rest h k = k
run_over_law f (b ∷ w) rest h k =
    let a = and_true_split (f b) (all f w) h in
    rw a.0 (ap suc (run_over_law f w rest a.1 k))

pub run_passes : (f : ℕ → Bool) (w rest : Bytes) → run f (w ++ rest) ≡ length w → all f w ≡ true
run_passes f [] rest h = refl
run_passes f (b ∷ w) rest h = first (f b) refl (run_passes f w rest)
  where
    first : (t : Bool) → f b ≡ t → (run f (w ++ rest) ≡ length w → all f w ≡ true) → (f b && all f w) ≡ true
    first true e ih = rw e (ih (let k : suc (run f (w ++ rest)) ≡ suc (length w) = rw e at h in omega arith))
    first false e ih = let k : 0 ≡ suc (length w) = rw e at h in absurd (omega arith)

-- a run, and what stands behind it
pub run_split : (f : ℕ → Bool) (l : Bytes) → (all f (take (run f l) l) ≡ true) × (run f (drop (run f l) l) ≡ 0) × (length (take (run f l) l) ≡ run f l)
run_split f [] = (refl, refl, refl)
run_split f (b ∷ l) = first (f b) refl (run_split f l)
  where
    n : ℕ
    n = run f l

    first : (t : Bool) → f b ≡ t → (all f (take n l) ≡ true) × (run f (drop n l) ≡ 0) × (length (take n l) ≡ n)
        → (all f (take (cond t (suc n) 0) (b ∷ l)) ≡ true) × (run f (drop (cond t (suc n) 0) (b ∷ l)) ≡ 0)
        × (length (take (cond t (suc n) 0) (b ∷ l)) ≡ cond t (suc n) 0)
    first true e ih = (rw e ih.0, ih.1, ap suc ih.2)
    first false e ih = (refl, rw e, refl)

-- what stands from p on is a word w, and then the rest
pub record Word (s : Bytes) (p : ℕ) (w rest : Bytes) : Type 0 where
  pub text : drop p s ≡ w ++ rest
  pub word : all is_word_byte w ≡ true
  pub stops : run is_word_byte rest ≡ 0

-- past the first bytes
pub behind : (s : Bytes) (p : ℕ) (w rest : Bytes) → drop p s ≡ w ++ rest → drop (p + length w) s ≡ rest
behind s p w rest e = sym (drop-drop (length w) p s) ∙ ap (drop (length w)) e ∙ drop-append_seam w rest

pub part_first : (s : Bytes) (p : ℕ) (w rest : Bytes) → drop p s ≡ w ++ rest → part s p (p + length w) ≡ w
part_first s p w rest e = rw e (take_at w rest (p + length w - p) (omega arith))

module _ {s : Bytes} {p : ℕ} {w rest : Bytes} where
  pub word_end_law : Word s p w rest → word_end s p ≡ p + length w
  unfolding word_end
  word_end_law h = rw h.text (ap (λ n. p + n) (run_over_law is_word_byte w rest h.word h.stops))

  pub word_part : Word s p w rest → part s p (word_end s p) ≡ w
  word_part h = rw (word_end_law h) (part_first s p w rest h.text)

-- at every place stands a word, if an empty one
word_of : (s : Bytes) (p : ℕ) (l : Bytes) → drop p s ≡ l → Word s p (take (run is_word_byte l) l) (drop (run is_word_byte l) l)
word_of s p l e =
    let r = run_split is_word_byte l in
    record { text = e ∙ sym (take-append-drop (run is_word_byte l) l); word = r.0; stops = r.1 }

pub word_here : (s : Bytes) (p : ℕ) → (w : Bytes) × (rest : Bytes) × Word s p w rest
word_here s p = let n = run is_word_byte (drop p s) in (take n (drop p s), drop n (drop p s), word_of s p (drop p s) refl)

pub word_inside : {s : Bytes} {p : ℕ} {w rest : Bytes} → Word s p w rest → p ≤ length s → p + length w ≤ length s
word_inside {s} {p} {w} {rest} h l = omega (arith, length-drop p s, ap length h.text, length-append w rest)

-- the gap after a word that ends at p, from the first place q behind it that holds no space, and the byte there
gap_to : (p q b : ℕ) → Step
gap_to p q b =
    cond (eqb q p) (cond (eqb b lf) (go p) (fail 2 p))
    (cond (eqb b lf || eqb b past_end) (fail 2 p) (cond (eqb q (p + 1)) (go q) (fail 2 (p + 1))))

gap_to_law : (s : Bytes) (p : ℕ) → next_word s p ≡ gap_to p (spaces_end s p) (get_or (drop p s) (run is_space (drop p s)) past_end)
unfolding next_word spaces_end gap_to
gap_to_law s p = rw (get_or-drop p s (run is_space (drop p s)) past_end)

-- at the LF, the line's end; behind one space, the next word
pub gap_ended : (s : Bytes) (p : ℕ) (rest : Bytes) → drop p s ≡ lf ∷ rest → next_word s p ≡ go p
unfolding spaces_end gap_to
gap_ended s p rest e = gap_to_law s p ∙ rw (e, eq-eqb (p + 0) p (omega arith))

-- a word as the reader wants it: not empty, and no byte 256 at its beginning
abbrev pub is_word : Bytes → Bool
is_word [] = false
is_word (b ∷ w) = not (eqb b past_end) && all is_word_byte (b ∷ w)

gap_next : (s : Bytes) (p b : ℕ) (rest : Bytes) → drop p s ≡ space ∷ b ∷ rest → is_word_byte b ≡ true → eqb b past_end ≡ false → next_word s p ≡ go (p + 1)
unfolding spaces_end gap_to
gap_next s p b rest e h k =
    let a = and_true_split (not (eqb b space)) (not (eqb b lf)) h in
    gap_to_law s p
    ∙ rw (e, not-true (eqb b space) a.0, not-true (eqb b lf) a.1, k, ne_eqb (p + 1) p (λ i. omega arith), eq-eqb (p + 1) (p + 1) refl)

-- the gap at p leads to the word w, and then the rest
pub record Next (s : Bytes) (p : ℕ) (w rest : Bytes) : Type 0 where
  pub goes : next_word s p ≡ go (p + 1)
  pub text : drop p s ≡ space ∷ (w ++ rest)
  pub word : Word s (p + 1) w rest
  pub some : 1 ≤ length w

pub word_next : (s : Bytes) (p : ℕ) (w rest : Bytes) → drop p s ≡ space ∷ (w ++ rest) → is_word w ≡ true → run is_word_byte rest ≡ 0 → Next s p w rest
word_next s p [] rest e h k = absurd (false≢true h)
word_next s p (b ∷ w) rest e h k =
    let a = and_true_split (not (eqb b past_end)) (all is_word_byte (b ∷ w)) h in
    record {
      goes = gap_next s p b (w ++ rest) e (and_true_split (is_word_byte b) (all is_word_byte w) a.1).0 (not-true (eqb b past_end) a.0);
      text = e;
      word = record { text = behind s p (space ∷ []) (b ∷ w ++ rest) e; word = a.1; stops = k };
      some = omega arith;
    }

pub next_behind : {s : Bytes} {p : ℕ} {w rest : Bytes} → Next s p w rest → drop (p + 1 + length w) s ≡ rest
next_behind {s} {p} {w} {rest} n = behind s (p + 1) w rest n.word.text

-- a place from which bytes stand is inside
pub byte_inside : (s : Bytes) (p b : ℕ) (l : Bytes) → drop p s ≡ b ∷ l → p + 1 ≤ length s
byte_inside s p b l e = omega (arith, length-drop p s, ap length e)

pub next_inside : {s : Bytes} {p : ℕ} {w rest : Bytes} → Next s p w rest → p + 1 + length w ≤ length s
next_inside {s} {p} {w} {rest} n = omega (arith, length-drop p s, ap length n.text, length-append w rest)

-- what stands in a gap: the line's end, the next word, or a fault
pub data Gap (s : Bytes) (p : ℕ) : Type 0 where
  ended : next_word s p ≡ go p → (rest : Bytes) → drop p s ≡ lf ∷ rest → Gap s p
  next : (w rest : Bytes) → Next s p w rest → Gap s p
  failed : (n : Step) → next_word s p ≡ n → n.fault ≡ 2 → (p ≤ length s → n.place ≤ length s) → Gap s p

first_byte : (l : Bytes) → (get_or l 0 past_end ≡ past_end → ⊥) → (rest : Bytes) × (l ≡ get_or l 0 past_end ∷ rest)
first_byte [] h = absurd (h refl)
first_byte (b ∷ l) h = (l, refl)

one_space : (l : Bytes) → run is_space l ≡ 1 → (get_or l 1 past_end ≡ past_end → ⊥)
    → (rest : Bytes) × (l ≡ space ∷ get_or l 1 past_end ∷ rest) × (eqb (get_or l 1 past_end) space ≡ false)
one_space [] h k = absurd (omega arith)
one_space (c ∷ []) h k = absurd (k refl)
one_space (c ∷ b ∷ l) h k = first (eqb c space) (eqb b space) refl refl
  where
    first : (t u : Bool) → eqb c space ≡ t → eqb b space ≡ u → (rest : Bytes) × (◌≡◌ {A = Bytes} (c ∷ b ∷ l) (space ∷ b ∷ rest)) × (eqb b space ≡ false)
    first true true e i = let n : suc (suc (run is_space l)) ≡ 1 = rw (e, i) at h in absurd (omega arith)
    first true false e i = (l, rw (eqb-true c space e), i)
    first false u e i = let n : ◌≡◌ {A = ℕ} 0 1 = rw e at h in absurd (omega arith)

gap_word : (s : Bytes) (p b : ℕ) (rest : Bytes) → next_word s p ≡ go (p + 1) → drop p s ≡ space ∷ b ∷ rest → is_word_byte b ≡ true → Gap s p
gap_word s p b rest e c h =
    let n = run is_word_byte (b ∷ rest) in
    let l : 1 ≤ n = rw h (omega arith) in
    next (take n (b ∷ rest)) (drop n (b ∷ rest)) (record {
      goes = e;
      text = c ∙ ap (λ r. space ∷ r) (sym (take-append-drop n (b ∷ rest)));
      word = word_of s (p + 1) (b ∷ rest) (behind s p (space ∷ []) (b ∷ rest) c);
      some = rw (run_split is_word_byte (b ∷ rest)).2 l;
    })

module _ (s : Bytes) (p n b : ℕ) (spaces : run is_space (drop p s) ≡ n) (byte : get_or (drop p s) n past_end ≡ b) where
  byte_at : (m : ℕ) → n ≡ m → get_or (drop p s) m past_end ≡ b
  byte_at m e = ap (λ k. get_or (drop p s) k past_end) (sym e) ∙ byte

  gap_by : (t u v x : Bool) → eqb (p + n) p ≡ t → eqb b lf ≡ u → eqb b past_end ≡ v → eqb (p + n) (p + 1) ≡ x → next_word s p ≡ gap_to p (p + n) b → Gap s p
  unfolding gap_to
  gap_by true true v x f g h i e = here (first_byte (drop p s) (λ j. omega (arith, z)))
    where
      z : get_or (drop p s) 0 past_end ≡ lf
      z = byte_at 0 (omega (arith, eqb-true (p + n) p f)) ∙ eqb-true b lf g

      here : (rest : Bytes) × (drop p s ≡ get_or (drop p s) 0 past_end ∷ rest) → Gap s p
      here (rest, r) = ended (e ∙ rw (f, g)) rest (r ∙ ap (λ c. c ∷ rest) z)
  gap_by true false v x f g h i e = failed (fail 2 p) (e ∙ rw (f, g)) refl (λ l. l)
  gap_by false true v x f g h i e = failed (fail 2 p) (e ∙ rw (f, g)) refl (λ l. l)
  gap_by false false true x f g h i e = failed (fail 2 p) (e ∙ rw (f, g, h)) refl (λ l. l)
  gap_by false false false true f g h i e = here (one_space (drop p s) (spaces ∙ o) (λ j. eqb-false b past_end h (sym k ∙ j)))
    where
      o : n ≡ 1
      o = omega (arith, eqb-true (p + n) (p + 1) i)

      k : get_or (drop p s) 1 past_end ≡ b
      k = byte_at 1 o

      here : (rest : Bytes) × (drop p s ≡ space ∷ get_or (drop p s) 1 past_end ∷ rest) × (eqb (get_or (drop p s) 1 past_end) space ≡ false) → Gap s p
      here (rest, r, t) = gap_word s p b rest (e ∙ rw (f, g, h, i, o)) (r ∙ ap (λ c. space ∷ c ∷ rest) k) (rw (ap (λ c. eqb c space) (sym k) ∙ t, g))
  gap_by false false false false f g h i e =
      let m : 2 ≤ n = omega (arith, eqb-false (p + n) p f, eqb-false (p + n) (p + 1) i) in
      failed (fail 2 (p + 1)) (e ∙ rw (f, g, h, i)) refl (λ l. omega (arith, run_le is_space (drop p s), length-drop p s))

pub gap : (s : Bytes) (p : ℕ) → Gap s p
unfolding spaces_end
gap s p =
    let l = drop p s in
    let n = run is_space l in
    let b = get_or l n past_end in
    gap_by s p n b refl refl (eqb (p + n) p) (eqb b lf) (eqb b past_end) (eqb (p + n) (p + 1)) refl refl refl refl (gap_to_law s p)
