-- The words that Judged and Reasons use of a text's places, written out: what stands there (`byte_read`), on which line it is and how many words have
-- begun there (`spot_words`), where a word begins and ends (`word_words`), how far spaces go (`space_words`), which lines stand before the pattern's
-- and which is that line (`line_words_law`), where a token begins (`token_words`), which it is and which stand before it (`token_read`), what is counted of
-- them (`token_counts`), which names are declared (`named_words`), and which tokens begin a pattern (`begins_words`).
use mathlib.Core.Path.{◌≡◌, refl, sym, ap, ap₂, ◌∙◌}
use mathlib.Core.Bool.{Bool, true, false, cond, not, ◌&&◌, ◌||◌, true≢false}
use mathlib.Core.List.{List, [], ◌∷◌, ◌++◌}
use mathlib.Core.Logic.{◌↔◌, ◌⊎◌, inl, inr, ⊎_elim}
use Prim.Native.Nat.{ℕ, suc, ◌+◌, ◌-◌, ◌≤◌, ◌<◌}
use native.Mathlib.Omega.{arith}
use lib.Dec.{eqb}
use lib.ListN.{length, get_or, take, drop, length-append}
use lib.Seq.{get_or-drop}
use borrow.Author.Tests.{eqb-true, eq-eqb, ne_eqb}
use Rattle.laws.specs.Lists.{all}
use Rattle.laws.proofs.Lists.{and_true_split}
use Rattle.pattern.specs.Regex.{Regex}
use Rattle.form.specs.Text.{Bytes, ascii, is_lower, is_digit, is_name_byte}
use Rattle.form.specs.Tokens.{Token, name, sign, tokens}
use Rattle.form.specs.Phrase.{Phrase, alternation}
use Rattle.form.specs.Scan.{at, is_space, is_word_byte, spaces_end, word_end, name_end}
use Rattle.parsing.proofs.Scans.{run_behind, spaces_end_ge, name_end_gt, name_end_le, inside_of}
use Rattle.fault.specs.Places.{spot_at, On, Ends, Word, word_at, NoMatch, Header, PatternLine}
use Rattle.fault.specs.Places.{in_name, pattern_bytes, TokenAt, before, name_at, token_at, occurrences, signs, Begins, Pattern}
use Rattle.fault.specs.Fault.{VariableNamed, SymbolNamed}
use Rattle.least.proofs.Spots.{spot_zero, spot_step, word_end_law, word_bytes}
use Rattle.least.proofs.TokenPlaces.{spaces_bytes, name_bytes_law}

-- the byte at a place, and past the end none: a number that no byte is
pub byte_read : (s : Bytes) (p : ℕ) → at s p ≡ get_or s p 256
byte_read s p = refl

-- "from 0": the first line, no word yet. Behind LF (10) another line begins; behind a space (32) no word goes on; behind any other byte one does, a new
-- one where none did before.
pub spot_words : (s : Bytes) (p : ℕ) → let x = spot_at s p in
    (spot_at s 0 ≡ record { line = 0; words = 0; inside = false })
    × (p < length s → at s p ≡ 10 → spot_at s (p + 1) ≡ record { line = suc x.line; words = 0; inside = false })
    × (p < length s → at s p ≡ 32 → spot_at s (p + 1) ≡ record { line = x.line; words = x.words; inside = false })
    × (p < length s → (at s p ≡ 10 → ⊥) → (at s p ≡ 32 → ⊥) → x.inside ≡ true
    → spot_at s (p + 1) ≡ record { line = x.line; words = x.words; inside = true })
    × (p < length s → (at s p ≡ 10 → ⊥) → (at s p ≡ 32 → ⊥) → x.inside ≡ false
    → spot_at s (p + 1) ≡ record { line = x.line; words = suc x.words; inside = true })
spot_words s p = (
  spot_zero s,
  λ h e. spot_step s p h ∙ rw (eq-eqb (at s p) 10 e) refl,
  λ h e. spot_step s p h ∙ rw e refl,
  λ h e f i. spot_step s p h ∙ rw (ne_eqb (at s p) 10 e, ne_eqb (at s p) 32 f, i) refl,
  λ h e f i. spot_step s p h ∙ rw (ne_eqb (at s p) 10 e, ne_eqb (at s p) 32 f, i) refl,
)

word_byte : (b : ℕ) → is_word_byte b ≡ true → (b ≡ 32 → ⊥) × (b ≡ 10 → ⊥)
word_byte b h =
    let (x, y) = and_true_split (not (eqb b 32)) (not (eqb b 10)) h in
    (λ e. true≢false (sym x ∙ ap not (eq-eqb b 32 e)), λ e. true≢false (sym y ∙ ap not (eq-eqb b 10 e)))

of_word : (b : ℕ) → (b ≡ 32 → ⊥) → (b ≡ 10 → ⊥) → is_word_byte b ≡ true
of_word b e f = ap₂ (λ x y. not x && not y) (ne_eqb b 32 e) (ne_eqb b 10 f)

no_word : (b : ℕ) → is_word_byte b ≡ false → (b ≡ 32) ⊎ (b ≡ 10)
no_word b h = go (eqb b 32) (eqb b 10) refl refl h
  where
    go : (x y : Bool) → eqb b 32 ≡ x → eqb b 10 ≡ y → (not x && not y) ≡ false → (b ≡ 32) ⊎ (b ≡ 10)
    go true y e f k = inl (eqb-true b 32 e)
    go false true e f k = inr (eqb-true b 10 f)
    go false false e f k = absurd (true≢false k)

-- "a word is a longest run of bytes other than space and LF" (docs/DECISIONS.md): number i (from 0) of line k begins at p where such a byte stands, none
-- before it goes on, and i have begun on the line; it ends where the text does, or at a space or LF
pub word_words : (s : Bytes) (k i p : ℕ) → let e = word_end s p in
    (Word s k i p ↔ ((p < length s) × (at s p ≡ 32 → ⊥) × (at s p ≡ 10 → ⊥) × (spot_at s p ≡ record { line = k; words = i; inside = false })))
    × (Word s k i p → (word_at s p ≡ take (e - p) (drop p s)) × (p < e) × (e ≤ length s) × ((e ≡ length s) ⊎ ((at s e ≡ 32) ⊎ (at s e ≡ 10)))
    × ((q : ℕ) → p ≤ q → q < e → (at s q ≡ 32 → ⊥) × (at s q ≡ 10 → ⊥)))
word_words s k i p = (
  (
    λ w. let (x, y) = word_byte (at s p) w.byte in (w.present, x, y, w.spot),
    λ (l, x, y, t). record { present = l; byte = of_word (at s p) x y; spot = t },
  ),
  λ w. let (l, m, o) = word_end_law s w in
      (refl, l, m, ⊎_elim (λ e. inl e) (λ e. inr (no_word (at s (word_end s p)) e)) o, λ q a b. word_byte (at s q) (word_bytes s w q a b)),
)

-- from p on, up to the first byte that is no space
pub space_words : (s : Bytes) (p : ℕ) → let e = spaces_end s p in (p ≤ e) × ((q : ℕ) → p ≤ q → q < e → at s q ≡ 32) × (at s e ≡ 32 → ⊥)
unfolding spaces_end
space_words s p = (
  spaces_end_ge s p,
  λ q a b. spaces_bytes s p q a b,
  λ x. true≢false (sym (ap is_space x) ∙ ap is_space (sym (get_or-drop p s _ 256)) ∙ run_behind is_space refl (drop p s)),
)

-- "Last line: `match`": the first line behind line 0 whose first word is `match`. No such line stands before line k; nor is line k one; line k is it.
pub line_words_law : (s : Bytes) (k p : ℕ)
    → (NoMatch s k ↔ ((j q : ℕ) → 1 ≤ j → j < k → Word s j 0 q → word_at s q ≡ ascii "match" → ⊥))
    × (Header s k ↔ ((j q : ℕ) → 1 ≤ j → j ≤ k → Word s j 0 q → word_at s q ≡ ascii "match" → ⊥))
    × (PatternLine s k p ↔ (Word s k 0 p × (word_at s p ≡ ascii "match") × (1 ≤ k) × NoMatch s k))
    × (On s k p ↔ ((spot_at s p).line ≡ k)) × (Ends s p ↔ ((at s p ≡ 10) ⊎ (p ≡ length s)))
line_words_law s k p = (
  (λ h. h, λ h. h),
  (λ h j q a b. h j q a (omega arith), λ h j q a b. h j q a (omega arith)),
  (λ l. (l.word, l.match, l.behind, l.first), λ (w, m, b, f). record { word = w; match = m; behind = b; first = f }),
  (λ h. h, λ h. h),
  (λ h. h, λ h. h),
)

-- bytes end in a name that may go on: a letter stands in them, and only bytes of a name behind it
abbrev pub Goes : Bytes → Type 0
Goes l = (u : Bytes) × (b : ℕ) × (v : Bytes) × (l ≡ u ++ (b ∷ v)) × (is_lower b ≡ true) × (all is_name_byte v ≡ true)

none_goes : Goes [] → ⊥
none_goes (u, b, v, e, h, k) = omega (arith, ap length e, length-append u (b ∷ v))

-- the same where one may have been begun before them
goes_on_law : (o : Bool) (l : Bytes) → (in_name o l ≡ true) ↔ (((o ≡ true) × (all is_name_byte l ≡ true)) ⊎ Goes l)
goes_on_law o [] = (λ h. inl (h, refl), λ r. ⊎_elim (λ x. x.0) (λ x. absurd (none_goes x)) r)
goes_on_law o (c ∷ l) = let ih = goes_on_law (cond o (is_name_byte c) (is_lower c)) l in (λ h. forth o (ih.0 h), λ r. ih.1 (back o r))
  where
    forth : (o : Bool) → ((cond o (is_name_byte c) (is_lower c) ≡ true) × (all is_name_byte l ≡ true)) ⊎ Goes l
        → ((o ≡ true) × ((is_name_byte c && all is_name_byte l) ≡ true)) ⊎ Goes (c ∷ l)
    forth true (inl (a, b)) = inl (refl, ap₂ ◌&&◌ a b)
    forth false (inl (a, b)) = inr ([], c, l, refl, a, b)
    forth o (inr (u, b, v, e, h, k)) = inr (c ∷ u, b, v, ap (c ∷◌) e, h, k)

    first : (o : Bool) → is_lower c ≡ true → cond o (is_name_byte c) (is_lower c) ≡ true
    first true h = ap (λ t. t || is_digit c) h
    first false h = h

    back : (o : Bool) → ((o ≡ true) × ((is_name_byte c && all is_name_byte l) ≡ true)) ⊎ Goes (c ∷ l)
        → ((cond o (is_name_byte c) (is_lower c) ≡ true) × (all is_name_byte l ≡ true)) ⊎ Goes l
    back true (inl (a, b)) = inl (and_true_split (is_name_byte c) (all is_name_byte l) b)
    back false (inl (a, b)) = absurd (true≢false (sym a))
    back o (inr ([], b, v, e, h, k)) = inl (first o (ap is_lower (ap (λ x. get_or x 0 0) e) ∙ h), ap (all is_name_byte) (ap (drop 1) e) ∙ k)
    back o (inr (x ∷ u, b, v, e, h, k)) = inr (u, b, v, ap (drop 1) e, h, k)

-- a token begins at q, in the pattern of line k, whose `match` stands at p: a byte that is no space behind that word and a space, with which no name
-- goes on that stands before it
pub token_words : (s : Bytes) (k p q : ℕ)
    → TokenAt s k p q
    ↔ ((p + 6 ≤ q) × (q < length s) × ((spot_at s q).line ≡ k) × (at s q ≡ 10 → ⊥) × (at s q ≡ 32 → ⊥)
    × (Goes (take (q - (p + 6)) (drop (p + 6) s)) → is_name_byte (at s q) ≡ true → ⊥))
token_words s k p q = (
  λ t. (t.behind, t.present, t.on, t.in_line, λ e. true≢false (sym (eq-eqb (at s q) 32 e) ∙ t.byte), apart t.begins),
  λ (a, b, c, d, e, f). record { behind = a; present = b; on = c; in_line = d; byte = ne_eqb (at s q) 32 e; begins = parted f },
)
  where
    l : Bytes
    l = pattern_bytes s p q

    apart : (in_name false l && is_name_byte (at s q)) ≡ false → Goes l → is_name_byte (at s q) ≡ true → ⊥
    apart h g n = true≢false (sym (ap₂ ◌&&◌ ((goes_on_law false l).1 (inr g)) n) ∙ h)

    parted : (Goes l → is_name_byte (at s q) ≡ true → ⊥) → (in_name false l && is_name_byte (at s q)) ≡ false
    parted f = go (in_name false l) (is_name_byte (at s q)) refl refl
      where
        go : (x y : Bool) → in_name false l ≡ x → is_name_byte (at s q) ≡ y → (x && y) ≡ false
        go false y a b = refl
        go true false a b = refl
        go true true a b = ⊎_elim (λ x. absurd (true≢false (sym x.0))) (λ g. absurd (f g b)) ((goes_on_law false l).0 a)

-- the token that begins there, a name being "read as long as it goes", and those before it
pub token_read : (s : Bytes) (p q : ℕ)
    → (before s p q ≡ tokens (take (q - (p + 6)) (drop (p + 6) s)))
    × (is_lower (at s q) ≡ false → token_at s q ≡ sign (at s q))
    × (is_lower (at s q) ≡ true → let e = name_end s q in (token_at s q ≡ name (name_at s q)) × (name_at s q ≡ take (e - q) (drop q s)) × (q < e) × (e ≤ length s)
    × ((r : ℕ) → q ≤ r → r < e → is_name_byte (at s r) ≡ true) × (is_name_byte (at s e) ≡ false))
unfolding name_end
token_read s p q = (
  refl,
  λ e. rw e refl,
  λ e. (
    rw e refl,
    refl,
    name_end_gt s q e,
    name_end_le s q (omega (arith, inside_of is_lower refl s q e)),
    λ r a b. name_bytes_law s q r e a b,
    rw e (ap is_name_byte (sym (get_or-drop q s _ 256)) ∙ run_behind is_name_byte refl (drop q s)),
  ),
)

-- names and signs, one by one
pub token_counts : (b c : ℕ) (w : Bytes) (ts : List Token)
    → (occurrences [] ≡ 0) × (occurrences (name w ∷ ts) ≡ suc (occurrences ts)) × (occurrences (sign b ∷ ts) ≡ occurrences ts)
    × (signs b [] ≡ 0) × (signs b (name w ∷ ts) ≡ signs b ts) × (signs b (sign b ∷ ts) ≡ suc (signs b ts))
    × ((c ≡ b → ⊥) → signs b (sign c ∷ ts) ≡ signs b ts)
token_counts b c w ts = (refl, refl, refl, refl, refl, rw (eq-eqb b b refl) refl, λ n. rw (ne_eqb c b n) refl)

-- "variable names" are words 1 to 4 of the first line; a symbol's NAME is word 1 of its line, before line k
pub named_words : (s w : Bytes) (k : ℕ)
    → (VariableNamed s w ↔ ((i : ℕ) × (q : ℕ) × Word s 0 i q × (1 ≤ i) × (i ≤ 4) × (word_at s q ≡ w)))
    × (SymbolNamed s k w ↔ ((j : ℕ) × (q : ℕ) × (1 ≤ j) × (j < k) × Word s j 1 q × (word_at s q ≡ w)))
named_words s w k = (
  (λ (i, q, x, d, e). ⊎_elim (λ (z, a, b). (i, q, x, a, b, e)) (λ (a, b). absurd (omega arith)) d, λ (i, q, x, a, b, e). (i, q, x, inl (refl, a, b), e)),
  (λ x. x, λ x. x),
)

-- "the first token that cannot stand": tokens begin a pattern where some further tokens make them one, of any names, depth and length
pub begins_words : (ts : List Token)
    → (Begins ts ↔ ((us : List Token) × (names : List Bytes) × (d : ℕ) × (r : Regex) × Phrase names alternation d (ts ++ us) r))
    × (Pattern ts ↔ ((names : List Bytes) × (d : ℕ) × (r : Regex) × Phrase names alternation d ts r))
begins_words ts = (
  (λ (us, (n, d, r, x)). (us, n, d, r, x), λ (us, n, d, r, x). (us, (n, d, r, x))),
  (λ x. x, λ x. x),
)
