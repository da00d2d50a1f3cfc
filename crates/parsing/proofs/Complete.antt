-- The course of the reader over a phrase finds no fault, reads all of its tokens and gives its tree.
use mathlib.Core.Path.{◌≡◌, refl, sym, ap, ◌∙◌}
use mathlib.Core.Bool.{Bool, true, false, cond, not, ◌||◌, ◌&&◌, true≢false, false≢true}
use mathlib.Core.List.{List, [], ◌∷◌, ◌++◌, map, append_assoc}
use mathlib.Core.Logic.{⊎_elim}
use Prim.Native.Nat.{ℕ, zero, suc, ◌+◌, ◌-◌, ◌*◌, ◌≤◌, ◌<◌}
use native.Mathlib.Nat.{add-zero}
use native.Mathlib.Numerals.{add-one}
use native.Mathlib.Omega.{arith}
use lib.Dec.{eqb, eqb-suc-zero}
use lib.ListN.{length, get_or, drop, length-map, length-append, length-take, length-drop}
use lib.Seq.{drop-cons, drop-drop, get_or-drop}
use borrow.Author.Tests.{eqb-true, leb-true, le-ltb, lt-ltb, lt-leb, not-true, ne_eqb}
use Rattle.laws.specs.Lists.{any, all}
use Rattle.laws.proofs.Lists.{and_true_split, or_true_split, any_none, all_at, mem_get_or, or_false_split}
use Rattle.pattern.specs.Regex.{Regex, lit, cat, alt, star, plus, opt}
use Rattle.pattern.specs.Positions.{size}
use Rattle.form.specs.Text.{Bytes, space, is_lower, is_name_byte, is_name, Span}
use Rattle.form.specs.Tokens.{Token, name, sign}
use Rattle.form.specs.Phrase.{Phrase, Level, atom, item, sequence, alternation, opening, closing, bar, asterisk, plus_sign, question}
use Rattle.form.specs.Form.{same_word, distinct}
use Rattle.form.specs.Scan.{go, at, past_end, run, is_space, spaces_end, name_end, part}
use Rattle.form.specs.Lines.{bytes_at, index_of}
use Rattle.form.specs.Parse.{Parsed, postfix_on, item_of, name_atom, closed, begins_item}
use Rattle.form.specs.Parse.{alternation_from, sequence_from, atom_from}
use Rattle.parsing.proofs.Scans.{name_end_le, same_word_law}
use Rattle.parsing.proofs.TokenScan.{tokens_at, inside_of, next_is, next_test, here_space, word_found, sign_found}
use Rattle.parsing.proofs.Grammar.{phrase_begins, phrase_some}

-- a name's number, where no name stands twice
index_of_law : (s : Bytes) (symbols : List Span) (a : ℕ) → distinct (map (bytes_at s) symbols) ≡ true → a < length symbols
    → index_of s symbols (get_or (map (bytes_at s) symbols) a []) ≡ a
index_of_law s [] a d h = absurd (omega arith)
index_of_law s (x ∷ xs) zero d h = ap (λ t. cond t 0 (suc (index_of s xs (bytes_at s x)))) ((same_word_law (bytes_at s x) (bytes_at s x)).1 refl)
index_of_law s (x ∷ xs) (suc a) d h =
    let ws = map (bytes_at s) xs in
    let w = get_or ws a [] in
    let e = and_true_split (not (any (same_word (bytes_at s x)) ws)) (distinct ws) d in
    let i : a < length ws = rw length-map (omega arith) in
    ap (λ t. cond t 0 (suc (index_of s xs w))) (any_none (same_word (bytes_at s x)) (not-true _ e.0) (mem_get_or ws a [] i))
    ∙ ap suc (index_of_law s xs a e.1 (omega arith))

name_short : (w : Bytes) → is_name w ≡ true → length w ≤ 12
name_short [] h = absurd (false≢true h)
name_short (b ∷ w) h = omega (arith, leb-true (length w) 11 (and_true_split (is_lower b && all is_name_byte w) _ h).1)

-- `*`, `+`, `?`
abbrev pub is_postfix : ℕ → Bool
is_postfix b = eqb b asterisk || (eqb b plus_sign || eqb b question)

abbrev pub postfixed : List Token → Bool
postfixed us = next_is false is_postfix us

abbrev pub begins : List Token → Bool
begins us = next_is true begins_item us

abbrev pub barred : List Token → Bool
barred us = next_is false (λ b. eqb b bar) us

-- a letter is no other byte
letter : (b c : ℕ) → is_lower b ≡ true → is_lower c ≡ false → eqb b c ≡ false
letter b c e f = ne_eqb b c (λ h. true≢false (sym e ∙ ap is_lower h ∙ f))

postfix_letter : (b : ℕ) → is_lower b ≡ true → is_postfix b ≡ false
postfix_letter b e = rw (letter b asterisk e refl, letter b plus_sign e refl, letter b question e refl)

-- spaces before a sign
postfix_spaces : (l : Bytes) (here done : ℕ) (r : Regex) → postfix_on l here done r ≡ postfix_on (drop (run is_space l) l) (here + run is_space l) done r
postfix_spaces [] here done r = refl
postfix_spaces (b ∷ l) here done r = decide (is_space b) refl (postfix_spaces l (here + 1) done r)
  where
    n : ℕ
    n = run is_space l

    decide : (t : Bool) → is_space b ≡ t → postfix_on l (here + 1) done r ≡ postfix_on (drop n l) (here + 1 + n) done r
        → postfix_on (b ∷ l) here done r ≡ postfix_on (drop (cond t (suc n) 0) (b ∷ l)) (here + cond t (suc n) 0) done r
    decide true e h =
        let k : here + 1 + n ≡ here + suc n = omega arith in
        rw (eqb-true b space e) (h ∙ ap (λ m. postfix_on (drop n l) m done r) k)
    decide false e h = rw add-zero

postfix_none : (l : Bytes) (here done : ℕ) (r : Regex) → is_space (get_or l 0 past_end) ≡ false → is_postfix (get_or l 0 past_end) ≡ false
    → postfix_on l here done r ≡ record { step = go done; tree = r }
postfix_none [] here done r e f = refl
postfix_none (b ∷ l) here done r e f =
    let g = (or_false_split (eqb b asterisk) _ f).1 in
    rw (e, (or_false_split (eqb b asterisk) _ f).0, (or_false_split (eqb b plus_sign) _ g).0, (or_false_split (eqb b plus_sign) _ g).1)

module _ (s : Bytes) where
  postfix_here : (p done : ℕ) (r : Regex) → postfix_on (drop p s) p done r ≡ postfix_on (drop (spaces_end s p) s) (spaces_end s p) done r
  unfolding spaces_end
  postfix_here p done r = postfix_spaces (drop p s) p done r ∙ rw drop-drop

  -- one sign more
  postfix_more : (c p : ℕ) (f : Regex → Regex) (r : Regex) {us : List Token} → tokens_at s p ≡ sign c ∷ us
      → ((l : Bytes) (here done : ℕ) → postfix_on (c ∷ l) here done r ≡ postfix_on l (here + 1) (here + 1) (f r)) → eqb c past_end ≡ false
      → (e : ℕ) × (tokens_at s e ≡ us) × (postfix_on (drop p s) p p r ≡ postfix_on (drop e s) e e (f r))
  postfix_more c p f r t h n =
      let q = spaces_end s p in
      let x = sign_found s p t in
      let i : q < length s = omega (arith, inside_of s q c x.0 n) in
      let g : drop q s ≡ c ∷ drop (q + 1) s = rw (add-one, drop-cons s q past_end i, x.0) in
      (q + 1, x.2, postfix_here p p r ∙ ap (λ l. postfix_on l q p r) g ∙ h (drop (q + 1) s) q p)

  -- no sign more
  postfix_stop : (p : ℕ) (r : Regex) → postfixed (tokens_at s p) ≡ false → postfix_on (drop p s) p p r ≡ record { step = go p; tree = r }
  postfix_stop p r h =
      let q = spaces_end s p in
      let k : get_or (drop q s) 0 past_end ≡ at s q = rw (get_or-drop, add-zero) in
      postfix_here p p r ∙ postfix_none (drop q s) q p r (rw k (here_space s p)) (rw k (next_test s p false is_postfix postfix_letter refl ∙ h))

-- what an item, a sequence and an alternation would go on with
begins_no_postfix : (us : List Token) → begins us ≡ true → postfixed us ≡ false
begins_no_postfix [] h = refl
begins_no_postfix (name w ∷ us) h = refl
begins_no_postfix (sign b ∷ us) h = ⊎_elim (postfix_letter b) (λ e. ap is_postfix (eqb-true b opening e)) (or_true_split (is_lower b) _ h)

module _ (s : Bytes) (symbols : List Span) where
  -- the course has read up to the tokens us, with the tree r
  abbrev pub Read : List Token → Regex → Parsed → Type 0
  Read us r a = (e : ℕ) × (tokens_at s e ≡ us) × (a ≡ record { step = go e; tree = r })

  -- what is claimed of the phrases of each level: with fuel for its tokens, room for its occurrences, and nothing after it that it
  -- would go on with, the course reads it
  abbrev pub Claim : Level → ℕ → List Token → Regex → Type 0
  Claim atom d ts r = (n k p : ℕ) (us : List Token) → 3 * length ts ≤ n → k + size r ≤ 31 → tokens_at s p ≡ ts ++ us
      → Read us r (atom_from s symbols n d k p)
  Claim item d ts r = (n k p : ℕ) (us : List Token) → 3 * length ts ≤ n → k + size r ≤ 31 → tokens_at s p ≡ ts ++ us
      → (e : ℕ) × (tokens_at s e ≡ us) × (item_of s (atom_from s symbols n d k p) ≡ postfix_on (drop e s) e e r)
  Claim sequence d ts r = (n k p : ℕ) (us : List Token) → 3 * length ts + 1 ≤ n → k + size r ≤ 31 → tokens_at s p ≡ ts ++ us
      → postfixed us ≡ false → begins us ≡ false → Read us r (sequence_from s symbols n d k p)
  Claim alternation d ts r = (n k p : ℕ) (us : List Token) → 3 * length ts + 2 ≤ n → k + size r ≤ 31 → tokens_at s p ≡ ts ++ us
      → postfixed us ≡ false → begins us ≡ false → barred us ≡ false → Read us r (alternation_from s symbols n d k p)

  group_read : (d : ℕ) (ts : List Token) (r : Regex) → Claim alternation d ts r → Claim atom (suc d) (sign opening ∷ ts ++ (sign closing ∷ [])) r
  unfolding alternation_from closed
  group_read d ts r x zero k p us f z t = absurd (omega arith)
  group_read d ts r x (suc n) k p us f z t =
      let o = sign_found s p t in
      let y = x n k (spaces_end s p + 1) (sign closing ∷ us) (omega (arith, length-append ts (sign closing ∷ []))) z (o.2 ∙ append_assoc ts _ _)
      refl refl refl in
      let v = sign_found s y.0 y.1 in
      let m : suc d - 1 ≡ d = omega arith in
      (spaces_end s y.0 + 1, v.2, rw (o.0, eqb-suc-zero d, m, y.2, v.0))

  plain_read : (d : ℕ) (ts : List Token) (r : Regex) → Claim atom d ts r → Claim item d ts r
  unfolding item_of
  plain_read d ts r x n k p us f z t = let y = x n k p us f z t in (y.0, y.1, rw y.2)

  -- a sign behind an item
  postfix_read : (c : ℕ) (g : Regex → Regex) (d : ℕ) (ts : List Token) (r : Regex)
      → ((l : Bytes) (here done : ℕ) → postfix_on (c ∷ l) here done r ≡ postfix_on l (here + 1) (here + 1) (g r)) → eqb c past_end ≡ false
      → size (g r) ≡ size r → Claim item d ts r → Claim item d (ts ++ (sign c ∷ [])) (g r)
  postfix_read c g d ts r h m w x n k p us f z t =
      let y = x n k p (sign c ∷ us) (omega (arith, length-append ts (sign c ∷ []))) (rw (← w) z) (t ∙ append_assoc ts _ us) in
      let v = postfix_more s c y.0 g r y.1 h m in
      (v.0, v.1, y.2 ∙ v.2)

  begins_next : (p : ℕ) → begins_item (at s (spaces_end s p)) ≡ begins (tokens_at s p)
  begins_next p = next_test s p true begins_item (λ b e. ap (λ t. t || eqb b opening) e) refl

  bar_next : (p : ℕ) → eqb (at s (spaces_end s p)) bar ≡ barred (tokens_at s p)
  bar_next p = next_test s p false (λ b. eqb b bar) (λ b e. letter b bar e refl) refl

  last_read : (d : ℕ) (ts : List Token) (r : Regex) → Claim item d ts r → Claim sequence d ts r
  unfolding alternation_from
  last_read d ts r x zero k p us f z t a b = absurd (omega arith)
  last_read d ts r x (suc n) k p us f z t a b =
      let y = x n k p us (omega arith) z t in
      let i = y.2 ∙ postfix_stop s y.0 r (rw y.1 a) in
      (y.0, y.1, rw (i, begins_next y.0, y.1, b))

  then_read : (d : ℕ) (ts vs : List Token) (r q : Regex) → Claim item d ts r → Claim sequence d vs q → 1 ≤ length ts
      → ((us : List Token) → begins (vs ++ us) ≡ true) → Claim sequence d (ts ++ vs) (cat r q)
  unfolding alternation_from
  then_read d ts vs r q x y o h zero k p us f z t a b = absurd (omega arith)
  then_read d ts vs r q x y o h (suc n) k p us f z t a b =
      let l = length-append ts vs in
      let u = x n k p (vs ++ us) (omega arith) (omega arith) (t ∙ append_assoc ts vs us) in
      let i = u.2 ∙ postfix_stop s u.0 r (rw u.1 (begins_no_postfix (vs ++ us) (h us))) in
      let v = y n (k + size r) u.0 us (omega arith) (omega arith) u.1 a b in
      (v.0, v.1, rw (i, begins_next u.0, u.1, h us, v.2))

  only_read : (d : ℕ) (ts : List Token) (r : Regex) → Claim sequence d ts r → Claim alternation d ts r
  unfolding alternation_from
  only_read d ts r x zero k p us f z t a b c = absurd (omega arith)
  only_read d ts r x (suc n) k p us f z t a b c =
      let y = x n k p us (omega arith) z t a b in
      (y.0, y.1, rw (y.2, bar_next y.0, y.1, c))

  or_read : (d : ℕ) (ts vs : List Token) (r q : Regex) → Claim sequence d ts r → Claim alternation d vs q → 1 ≤ length ts
      → Claim alternation d (ts ++ (sign bar ∷ vs)) (alt r q)
  unfolding alternation_from
  or_read d ts vs r q x y o zero k p us f z t a b c = absurd (omega arith)
  or_read d ts vs r q x y o (suc n) k p us f z t a b c =
      let l = length-append ts (sign bar ∷ vs) in
      let u = x n k p (sign bar ∷ vs ++ us) (omega arith) (omega arith) (t ∙ append_assoc ts _ us) refl refl in
      let e = sign_found s u.0 u.1 in
      let v = y n (k + size r) (spaces_end s u.0 + 1) us (omega arith) (omega arith) e.2 a b c in
      (v.0, v.1, rw (u.2, e.0, v.2))

  module _ (named : all is_name (map (bytes_at s) symbols) ≡ true) (apart : distinct (map (bytes_at s) symbols) ≡ true) where
    symbol_read_law : (d a : ℕ) → a < length (map (bytes_at s) symbols) → Claim atom d (name (get_or (map (bytes_at s) symbols) a []) ∷ []) (lit a)
    unfolding alternation_from name_atom
    symbol_read_law d a h zero k p us f z t = absurd (omega arith)
    symbol_read_law d a h (suc n) k p us f z t =
        let q = spaces_end s p in
        let e = name_end s q in
        let x = word_found s p t in
        let ws = map (bytes_at s) symbols in
        let i : a < length symbols = rw length-map at h in
        let le : e ≤ length s = name_end_le s q (omega (arith, inside_of s q _ refl (letter (at s q) past_end x.0 refl))) in
        let short : length (part s q e) ≤ 12 = rw (← x.1) (name_short (get_or ws a []) (all_at is_name named (mem_get_or ws a [] h))) in
        let size : length (part s q e) ≡ e - q = rw (length-take, length-drop) (omega arith) in
        let known : index_of s symbols (part s q e) ≡ a = rw (← x.1) (index_of_law s symbols a apart i) in
        (e, x.2, rw (x.0, le-ltb 12 (e - q) (omega arith), lt-leb 31 k (omega arith), known, lt-ltb a (length symbols) i))

    pub phrase_read : {l : Level} {d : ℕ} {ts : List Token} {r : Regex} → Phrase (map (bytes_at s) symbols) l d ts r → Claim l d ts r
    phrase_read (Phrase.symbol h) = symbol_read_law _ _ h
    phrase_read (Phrase.group {ts = ts} x) = group_read _ ts _ (phrase_read x)
    phrase_read (Phrase.plain {ts = ts} x) = plain_read _ ts _ (phrase_read x)
    phrase_read (Phrase.starred {ts = ts} x) = postfix_read asterisk star _ ts _ (λ l here done. refl) refl refl (phrase_read x)
    phrase_read (Phrase.plussed {ts = ts} x) = postfix_read plus_sign plus _ ts _ (λ l here done. refl) refl refl (phrase_read x)
    phrase_read (Phrase.optional {ts = ts} x) = postfix_read question opt _ ts _ (λ l here done. refl) refl refl (phrase_read x)
    phrase_read (Phrase.last {ts = ts} x) = last_read _ ts _ (phrase_read x)
    phrase_read (Phrase.then {ts = ts} {us = us} x y) = then_read _ ts us _ _ (phrase_read x) (phrase_read y) (phrase_some x) (phrase_begins y)
    phrase_read (Phrase.only {ts = ts} x) = only_read _ ts _ (phrase_read x)
    phrase_read (Phrase.or {ts = ts} {us = us} x y) = or_read _ ts us _ _ (phrase_read x) (phrase_read y) (phrase_some x)
