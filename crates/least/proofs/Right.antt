-- No reason where there is none: lines that declare, whatever the pattern's line is, have no fault (`right_lines`); what is counted as occurrences,
-- token by token, are the pattern's positions (`occurrences_counted`); which words have the form of a name (`name_form_words`); where 7 and 8 stand
-- (`first_token`). Limits are written out.
use mathlib.Core.Path.{◌≡◌, refl, sym, ap, ap₂, ◌∙◌}
use mathlib.Core.Bool.{Bool, true, false, ◌&&◌, true≢false}
use mathlib.Core.List.{List, [], ◌∷◌, ◌++◌, Memᴰ}
use mathlib.Core.Logic.{◌↔◌, ◌⊎◌, inr, ⊎_elim}
use Prim.Native.Nat.{ℕ, ◌+◌, ◌≤◌, ◌<◌}
use native.Mathlib.Omega.{arith}
use lib.Dec.{ltb}
use lib.ListN.{length, length-append, get_or}
use borrow.Author.Tests.{ltb-true, ltb-false}
use Rattle.laws.specs.Lists.{keep, all}
use Rattle.laws.proofs.Lists.{keep_append, and_true_split, all_at, all_of}
use Rattle.pattern.specs.Regex.{Regex}
use Rattle.pattern.specs.Positions.{size}
use Rattle.meaning.specs.Book.{sound_symbol}
use Rattle.form.specs.Text.{Bytes, is_bytes, ascii, is_lower, is_name_byte, is_name, SymbolLine, Declarations, header, symbol_of}
use Rattle.form.specs.Tokens.{Token, sign}
use Rattle.form.specs.Phrase.{Level, Phrase, symbol, group, plain, starred, plussed, optional, last, then, only, or}
use Rattle.form.specs.Form.{all_names}
use Rattle.form.specs.Scan.{spaces_end, run, is_word_byte}
use Rattle.form.specs.Lines.{lines_of}
use Rattle.form.specs.Reading.{reading_of}
use Rattle.parsing.proofs.Header.{Header, header_read}
use Rattle.parsing.proofs.FormWords.{range, in_range_law, byte_words, Named, name_words_law, distinct_words, Lined, line_words_law}
use Rattle.parsing.proofs.Outcomes.{known, words_first}
use Rattle.book.specs.Answers.{number_of, place_of}
use Rattle.book.specs.Books.{reading}
use Rattle.book.proofs.Bench.{answer_number, answer_place}
use Rattle.fault.specs.Fault.{is_name_form, Fault}
use Rattle.fault.specs.Places.{PatternLine, occurrences}
use Rattle.fault.specs.Places as Places
use Rattle.fault.proofs.Ranks.{listed_range}
use Rattle.least.proofs.HeaderCourse.{lines_matched}
use Rattle.least.proofs.HeaderFaults.{matched_ready}
use Rattle.least.proofs.Sites.{Clean}
use Rattle.least.proofs.Refused.{refused}

-- lines that declare d, then the word `match`, then anything: 2 to 6 stand behind that word
pub right_lines : (d : Declarations) (z : Bytes) → let s = header d ++ (ascii "match" ++ z) in
    is_bytes s ≡ true → run is_word_byte z ≡ 0
    → ((w : Bytes) → Memᴰ w (all_names d) → Named w)
    → ((i j : ℕ) → i < j → j < length (all_names d) → get_or (all_names d) i [] ≡ get_or (all_names d) j [] → ⊥)
    → length d.variables ≤ 4 → 1 ≤ length d.symbols → length d.symbols ≤ 16
    → ((l : SymbolLine) → Memᴰ l d.symbols → Lined (length d.variables) l)
    → 2 ≤ number_of (reading s).answer → number_of (reading s).answer ≤ 6 → length (header d) + 5 ≤ place_of (reading s).answer
right_lines d z bytes stops named apart few some most lined low high =
    let s = header d ++ (ascii "match" ++ z) in
    let h : Header s d = record {
      rest = z;
      text = refl;
      stops = stops;
      named = all_of is_name (all_names d) (λ w m. (name_words_law w).1 (named w m));
      distinct = (distinct_words (all_names d)).1 apart;
      few_variables = few;
      some_symbols = some;
      few_symbols = most;
      symbols = all_of (λ l. sound_symbol (length d.variables) (symbol_of l)) d.symbols (λ l m. (line_words_law (length d.variables) l).1 (lined l m));
    } in
    let e = header_read s d h in
    let r = matched_ready s bytes _ _ _ (lines_matched s bytes (ap (λ l. l.step.fault) e)) in
    let p = place_of (reading s).answer in
    let f = (((refused s bytes).fault (number_of (reading s).answer) p ((listed_range _).1 (low, high))).0 (refl, refl)).1.fault in
    let here : (lines_of s).step.place ≡ length (header d) + 5 = ap (λ l. l.step.place) e in
    by s p r.clean f here (ltb p (length (header d) + 5)) refl
  where
    by : (s : Bytes) (p : ℕ) {b m n : ℕ} → Clean s b → Fault s p n → b ≡ m → (t : Bool) → ltb p m ≡ t → m ≤ p
    by s p clean f e true h = absurd (clean p _ (omega (arith, e, ltb-true p _ h)) f)
    by s p clean f e false h = ltb-false p _ h

occurrences_append : (ts us : List Token) → occurrences (ts ++ us) ≡ occurrences ts + occurrences us
occurrences_append ts us = ap length (keep_append Places.is_name ts us) ∙ length-append (keep Places.is_name ts) (keep Places.is_name us)

occurrences_signed : (ts : List Token) (b : ℕ) → occurrences (ts ++ (sign b ∷ [])) ≡ occurrences ts
occurrences_signed ts b = occurrences_append ts (sign b ∷ []) ∙ omega arith

-- "At most 31 symbol occurrences": what is counted from the left are the positions of the pattern, and no sign is one
pub occurrences_counted : {symbols : List Bytes} {k : Level} {d : ℕ} {ts : List Token} {r : Regex} → Phrase symbols k d ts r → occurrences ts ≡ size r
occurrences_counted (symbol h) = refl
occurrences_counted (group {ts = ts} x) = occurrences_signed ts 41 ∙ occurrences_counted x
occurrences_counted (plain x) = occurrences_counted x
occurrences_counted (starred {ts = ts} x) = occurrences_signed ts 42 ∙ occurrences_counted x
occurrences_counted (plussed {ts = ts} x) = occurrences_signed ts 43 ∙ occurrences_counted x
occurrences_counted (optional {ts = ts} x) = occurrences_signed ts 63 ∙ occurrences_counted x
occurrences_counted (last x) = occurrences_counted x
occurrences_counted (then {ts = ts} {us = us} x y) = occurrences_append ts us ∙ ap₂ ◌+◌ (occurrences_counted x) (occurrences_counted y)
occurrences_counted (only x) = occurrences_counted x
occurrences_counted (or {ts = ts} {us = us} x y) = occurrences_append ts (sign 124 ∷ us) ∙ ap₂ ◌+◌ (occurrences_counted x) (occurrences_counted y)

-- "A name is a to z, then a to z or 0 to 9", of any length: what `is_name_form` says of a word in Judged and Reasons. So a word over 12 bytes is 3 only
-- where it would be a name but for its length, and any other word is 2, however long.
abbrev pub NameFormed : Bytes → Type 0
NameFormed w =
    (b : ℕ) × (l : Bytes) × (w ≡ b ∷ l) × (97 ≤ b) × (b ≤ 122) × ((c : ℕ) → Memᴰ c l → ((97 ≤ c) × (c ≤ 122)) ⊎ ((48 ≤ c) × (c ≤ 57)))

pub name_form_words : (w : Bytes) → (is_name_form w ≡ true) ↔ NameFormed w
name_form_words w = (forth w, back w)
  where
    forth : (w : Bytes) → is_name_form w ≡ true → NameFormed w
    forth [] h = absurd (true≢false (sym h))
    forth (a ∷ w) h =
        let (u, v) = and_true_split (is_lower a) (all is_name_byte w) h in
        let (m, n) = range 97 122 a u in
        (a, w, refl, m, n, λ c k. (byte_words c).0 (all_at is_name_byte v k))

    back : (w : Bytes) → NameFormed w → is_name_form w ≡ true
    back w (b, l, e, m, n, f) = rw e (ap₂ ◌&&◌ (in_range_law 97 122 b m n) (all_of is_name_byte l (λ c k. (byte_words c).1 (f c k))))

-- "7, then 8, after everything, placed at the pattern's first token": on the pattern's line the first byte behind `match` and a space that is no space
pub first_token : (s : Bytes) → is_bytes s ≡ true → (number_of (reading s).answer ≡ 7) ⊎ (number_of (reading s).answer ≡ 8)
    → (k : ℕ) × (p : ℕ) × PatternLine s k p × (place_of (reading s).answer ≡ spaces_end s (p + 6))
first_token s bytes h =
    let e = answer_number s in
    let high : 7 ≤ (reading_of s).number = ⊎_elim (λ x. omega (arith, e, x)) (λ x. omega (arith, e, x)) h in
    let w = (known s).whole (inr high) in
    let r = matched_ready s bytes _ _ _ (lines_matched s bytes w.lines) in
    let q : (lines_of s).step.place + 1 ≡ r.p + 6 = omega (arith, r.end) in
    (r.k, r.p, r.line, answer_place s ∙ words_first s w high ∙ ap (spaces_end s) q)
