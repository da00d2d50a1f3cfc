-- Every byte of a text of the stated form is below 128.
use mathlib.Core.Path.{◌≡◌, refl, sym, ap, ◌∙◌}
use mathlib.Core.Bool.{Bool, true, false, not, ◌&&◌, and-eq-true_iff, not-not}
use mathlib.Core.List.{List, [], ◌∷◌, map}
use mathlib.Core.Logic.{⊎_elim}
use Prim.Native.Nat.{ℕ, zero, suc, ◌≤◌, ◌<◌}
use native.Mathlib.Omega.{arith}
use borrow.Author.Tests.{lt-ltb, leb-true}
use lib.Dec.{ltb, leb}
use lib.ListN.{length, get_or}
use Rattle.laws.specs.Lists.{any, all, gather}
use Rattle.laws.proofs.Lists.{and_true_split, or_true_split, all_append, all_map, all_at, all_of, not_any}
use Rattle.pattern.specs.Regex.{Regex}
use Rattle.meaning.specs.Events.{Parameter, ignored, names, fixed}
use Rattle.meaning.specs.Book.{sound_parameter, sound_symbol}
use Rattle.form.specs.Text.{Bytes, is_lower, is_digit, is_name_byte, is_name, decimal, SymbolLine, Declarations, spaced, parameter_word, sym_line}
use Rattle.form.specs.Text.{lf, vars_line, match_line, header, text, symbol_of}
use Rattle.form.specs.Form.{Shape, symbol_names}
use Rattle.parsing.proofs.Numerals.{number_read}
use Rattle.parsing.proofs.SymbolLines.{line_words}
use Rattle.parsing.proofs.Grammar.{tokens_signs, phrase_signs}

abbrev pub is_ascii : ℕ → Bool
is_ascii b = ltb b 128

-- a byte below a bound that is below 128
below : (low high b : ℕ) → high < 128 → (leb low b && leb b high) ≡ true → is_ascii b ≡ true
below low high b k h = lt-ltb b 128 (omega (arith, leb-true b high (and_true_split (leb low b) _ h).1))

name_byte : (b : ℕ) → is_name_byte b ≡ true → is_ascii b ≡ true
name_byte b h = ⊎_elim (below 97 122 b (omega arith)) (below 48 57 b (omega arith)) (or_true_split (is_lower b) (is_digit b) h)

name_ascii : (w : Bytes) → is_name w ≡ true → all is_ascii w ≡ true
name_ascii [] h = refl
name_ascii (b ∷ w) h =
    let (l, n) = and_true_split (is_lower b) _ (and_true_split (is_lower b && all is_name_byte w) _ h).0 in
    rw (below 97 122 b (omega arith) l) (all_of _ w λ c m. name_byte c (all_at is_name_byte n m))

names_ascii : (ws : List Bytes) → all is_name ws ≡ true → all (all is_ascii) ws ≡ true
names_ascii ws h = all_of _ ws λ w m. name_ascii w (all_at is_name h m)

decimal_ascii : (n : ℕ) → n ≤ 4294967295 → all is_ascii (decimal n) ≡ true
decimal_ascii n h = all_of _ (decimal n) λ b m. below 48 57 b (omega arith) (all_at is_digit (number_read n h).2 m)

word_ascii : (vs : List Bytes) (v : ℕ) → all (all is_ascii) vs ≡ true → all is_ascii (get_or vs v []) ≡ true
word_ascii [] v h = refl
word_ascii (w ∷ vs) zero h = (and_true_split (all is_ascii w) _ h).0
word_ascii (w ∷ vs) (suc v) h = word_ascii vs v (and_true_split (all is_ascii w) _ h).1

parameter_ascii : (vs : List Bytes) → all (all is_ascii) vs ≡ true → (n : ℕ) (x : Parameter) → sound_parameter n x ≡ true
    → all is_ascii (parameter_word vs x) ≡ true
parameter_ascii vs h n ignored k = refl
parameter_ascii vs h n (names v) k = word_ascii vs v h
parameter_ascii vs h n (fixed m) k = decimal_ascii m (leb-true m 4294967295 k)

spaced_ascii : (ws : List Bytes) → all (all is_ascii) ws ≡ true → all is_ascii (spaced ws) ≡ true
spaced_ascii [] h = refl
spaced_ascii (w ∷ ws) h =
    let (a, b) = and_true_split (all is_ascii w) _ h in
    rw (all_append, a, spaced_ascii ws b)

line_ascii : (vs : List Bytes) (n : ℕ) (l : SymbolLine) → all (all is_ascii) vs ≡ true → is_name l.name ≡ true → sound_symbol n (symbol_of l) ≡ true
    → all is_ascii (sym_line vs l) ≡ true
unfolding sound_symbol
line_ascii vs n l h a b =
    let kind = leb-true l.kind 255 (simp and-eq-true_iff at b).0.0.1 in
    let sound : all (sound_parameter n) l.parameters ≡ true = (simp and-eq-true_iff at b).1 in
    let parameters : all (all is_ascii) (map (parameter_word vs) l.parameters) ≡ true =
    all_map _ _ l.parameters ∙ all_of _ l.parameters λ x m. parameter_ascii vs h n x (all_at (sound_parameter n) sound m) in
    let words = spaced_ascii (line_words vs l) (rw (name_ascii l.name a, decimal_ascii l.kind (omega arith), parameters)) in
    all_append is_ascii (spaced (line_words vs l)) (lf ∷ []) ∙ rw words

lines_ascii : (vs : List Bytes) (n : ℕ) (ls : List SymbolLine) → all (all is_ascii) vs ≡ true → all is_name (map (λ l. l.name) ls) ≡ true
    → all (λ l. sound_symbol n (symbol_of l)) ls ≡ true → all is_ascii (gather (sym_line vs) ls) ≡ true
lines_ascii vs n [] h a b = refl
lines_ascii vs n (l ∷ ls) h a b =
    let (a', a'') = and_true_split (is_name l.name) _ a in
    let (b', b'') = and_true_split (sound_symbol n (symbol_of l)) _ b in
    all_append is_ascii (sym_line vs l) (gather (sym_line vs) ls) ∙ rw (line_ascii vs n l h a' b', lines_ascii vs n ls h a'' b'')

-- the pattern: its tokens are names and signs of the grammar
written_ascii : {s : Bytes} {d : Declarations} {r : Regex} (f : Shape s d r) → all is_ascii f.written ≡ true
written_ascii f =
    let Odd : ℕ → Bool = λ b. not (is_ascii b) in
    let none : any Odd f.written ≡ false =
    sym (tokens_signs Odd (λ b h. ap not (name_byte b h)) refl [] f.written) ∙ phrase_signs Odd (refl, refl, refl, refl, refl, refl) f.phrase in
    simp not-not at (sym (not_any Odd f.written) ∙ ap not none)

pub shape_ascii : (s : Bytes) (d : Declarations) (r : Regex) → Shape s d r → all is_ascii s ≡ true
unfolding header text
shape_ascii s d r f =
    let vs = d.variables in
    let (v, n) = and_true_split (all is_name vs) _ (sym (all_append is_name vs (symbol_names d)) ∙ f.named) in
    let first : all is_ascii (vars_line vs) ≡ true = all_append is_ascii (spaced vs) (lf ∷ []) ∙ rw (spaced_ascii vs (names_ascii vs v)) in
    let lines : all is_ascii (header d) ≡ true =
    all_append is_ascii (vars_line vs) _ ∙ rw (first, lines_ascii vs (length vs) d.symbols (names_ascii vs v) n f.symbols) in
    let pattern : all is_ascii (match_line f.written) ≡ true = all_append is_ascii f.written (lf ∷ []) ∙ rw (written_ascii f) in
    ap (all is_ascii) f.text ∙ all_append is_ascii (header d) _ ∙ rw (lines, pattern)
