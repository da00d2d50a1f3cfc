-- The stated form in words, for readers of `Shape`: every condition on what a text declares, both ways, limits and bytes written out. So no condition more, and
-- none less, can stand in `Shape`, whatever its tests compute.
use mathlib.Core.Path.{◌≡◌, refl, sym, ap, ap₂, subst, ◌∙◌}
use mathlib.Core.Bool.{Bool, true, false, not, ◌&&◌, ◌||◌, true≢false}
use mathlib.Core.List.{List, [], ◌∷◌, ◌++◌, map, Memᴰ, append_assoc, append-nil}
use mathlib.Core.Logic.{◌↔◌, ◌⊎◌, inl, inr, ⊎_elim}
use Prim.Native.Nat.{ℕ, zero, suc, ◌+◌, ◌/◌, ◌%◌, ◌≤◌, ◌<◌}
use Prim.Native.Char.{Char, code}
use Prim.Native.String.{String}
use native.Mathlib.Omega.{arith}
use borrow.Author.Tests.{not-true, leb-true, le-leb, ltb-true, lt-ltb, eqb-true, eqb-false, eq-eqb, ne_eqb}
use lib.Dec.{eqb, leb}
use lib.ListN.{length, get_or, take, length-append, get_or-append}
use lib.Seq.{get_or-append-add}
use Rattle.laws.specs.Lists.{any, all, gather}
use Rattle.laws.proofs.Lists.{and_true_split, or_true_split, or_false_split, any_none, any_found, any_of, mem_get_or, mem_index, all_at, all_of}
use Rattle.pattern.specs.Regex.{Regex, In}
use Rattle.pattern.specs.Positions.{size}
use Rattle.meaning.specs.Events.{Parameter, ignored, names, fixed}
use Rattle.meaning.specs.Meaning.{no_symbol}
use Rattle.meaning.specs.Book as Book
use Rattle.meaning.specs.Book.{sound_parameter, sound_symbol}
use Rattle.form.specs.Text.{Bytes, is_lower, is_digit, is_name_byte, is_name, ascii, decimal, SymbolLine, Declarations, text, header, symbol_of}
use Rattle.form.specs.Text.{spaced, parameter_word, vars_line, sym_line, Span, variable_spans, symbol_spans, spans}
use Rattle.form.specs.Form.{same_word, distinct, symbol_names, all_names, binds, Shape, Form}
use Rattle.form.specs.Scan.{run, is_space, is_word_byte, value, is_number}
use Rattle.form.specs.Tokens.{name, sign, tokens_after, tokens}
use Rattle.form.specs.Phrase.{Phrase, alternation}
use Rattle.parsing.proofs.Scans.{same_word_law}
use Rattle.parsing.proofs.Numerals.{decimal_tenth, number_read, number_found}

-- "Variables and symbols share one set of names.": no two of them are the same bytes
distinct_forth : (ws : List Bytes) → distinct ws ≡ true → (i j : ℕ) → i < j → j < length ws → get_or ws i [] ≡ get_or ws j [] → ⊥
distinct_forth [] h i j a b e = omega arith
distinct_forth (w ∷ ws) h i zero a b e = omega arith
distinct_forth (w ∷ ws) h zero (suc j) a b e =
    let (x, y) = and_true_split (not (any (same_word w) ws)) (distinct ws) h in
    true≢false (sym ((same_word_law w (get_or ws j [])).1 e) ∙ any_none (same_word w) (not-true (any (same_word w) ws) x) (mem_get_or ws j [] (omega arith)))
distinct_forth (w ∷ ws) h (suc i) (suc j) a b e =
    distinct_forth ws (and_true_split (not (any (same_word w) ws)) (distinct ws) h).1 i j (omega arith) (omega arith) e

distinct_back : (ws : List Bytes) → ((i j : ℕ) → i < j → j < length ws → get_or ws i [] ≡ get_or ws j [] → ⊥) → distinct ws ≡ true
distinct_back [] f = refl
distinct_back (w ∷ ws) f = ap₂ ◌&&◌ (ap not (by (any (same_word w) ws) refl)) (distinct_back ws (λ i j a b e. f (suc i) (suc j) (omega arith) (omega arith) e))
  where
    by : (t : Bool) → any (same_word w) ws ≡ t → t ≡ false
    by false h = refl
    by true h =
        let (x, m, g) = any_found (same_word w) ws h in
        let (i, l, e) = mem_index [] m in
        absurd (f 0 (suc i) (omega arith) (omega arith) ((same_word_law w x).0 g ∙ sym e))

pub distinct_words : (ws : List Bytes) → (distinct ws ≡ true) ↔ ((i j : ℕ) → i < j → j < length ws → get_or ws i [] ≡ get_or ws j [] → ⊥)
distinct_words ws = (distinct_forth ws, distinct_back ws)

-- "A name is a to z, then a to z or 0 to 9, 1 to 12 bytes"
abbrev pub Named : Bytes → Type 0
Named w =
    (b : ℕ) × (l : Bytes) × (w ≡ b ∷ l) × (97 ≤ b) × (b ≤ 122) × (length l ≤ 11)
    × ((c : ℕ) → Memᴰ c l → ((97 ≤ c) × (c ≤ 122)) ⊎ ((48 ≤ c) × (c ≤ 57)))

pub range : (low high b : ℕ) → (leb low b && leb b high) ≡ true → (low ≤ b) × (b ≤ high)
range low high b h = let (x, y) = and_true_split (leb low b) (leb b high) h in (leb-true low b x, leb-true b high y)

pub in_range_law : (low high b : ℕ) → low ≤ b → b ≤ high → (leb low b && leb b high) ≡ true
in_range_law low high b x y = ap₂ ◌&&◌ (le-leb low b x) (le-leb b high y)

pub lower_words : (c : ℕ) → (is_lower c ≡ true) ↔ ((97 ≤ c) × (c ≤ 122))
lower_words c = (range 97 122 c, λ (x, y). in_range_law 97 122 c x y)

pub byte_words : (c : ℕ) → (is_name_byte c ≡ true) ↔ (((97 ≤ c) × (c ≤ 122)) ⊎ ((48 ≤ c) × (c ≤ 57)))
byte_words c = (λ h. ⊎_elim (λ e. inl (range 97 122 c e)) (λ e. inr (range 48 57 c e)) (or_true_split (is_lower c) (is_digit c) h), back)
  where
    by : (48 ≤ c) × (c ≤ 57) → (t : Bool) → (t || is_digit c) ≡ true
    by e true = refl
    by e false = in_range_law 48 57 c e.0 e.1

    back : ((97 ≤ c) × (c ≤ 122)) ⊎ ((48 ≤ c) × (c ≤ 57)) → is_name_byte c ≡ true
    back (inl e) = ap (λ t. t || is_digit c) (in_range_law 97 122 c e.0 e.1)
    back (inr e) = by e (is_lower c)

pub name_words_law : (w : Bytes) → (is_name w ≡ true) ↔ Named w
name_words_law w = (forth w, back w)
  where
    forth : (w : Bytes) → is_name w ≡ true → Named w
    forth [] h = absurd (true≢false (sym h))
    forth (b ∷ l) h =
        let (x, y) = and_true_split (is_lower b && all is_name_byte l) (leb (length l) 11) h in
        let (u, v) = and_true_split (is_lower b) (all is_name_byte l) x in
        let (m, n) = range 97 122 b u in
        (b, l, refl, m, n, leb-true (length l) 11 y, λ c k. (byte_words c).0 (all_at is_name_byte v k))

    back : (w : Bytes) → Named w → is_name w ≡ true
    back w (b, l, e, m, n, few, f) =
        rw e (ap₂ ◌&&◌ (ap₂ ◌&&◌ (in_range_law 97 122 b m n) (all_of is_name_byte l (λ c k. (byte_words c).1 (f c k)))) (le-leb (length l) 11 few))

-- no byte of the list is c
none_of : (c : ℕ) (l : Bytes) → (any (eqb c) l ≡ false) ↔ ((b : ℕ) → Memᴰ b l → b ≡ c → ⊥)
none_of c l = (forth, λ f. by (any (eqb c) l) refl f)
  where
    forth : any (eqb c) l ≡ false → (b : ℕ) → Memᴰ b l → b ≡ c → ⊥
    forth h b m e = true≢false (sym (eq-eqb c b (sym e)) ∙ any_none (eqb c) h m)

    by : (t : Bool) → any (eqb c) l ≡ t → ((b : ℕ) → Memᴰ b l → b ≡ c → ⊥) → t ≡ false
    by false h f = refl
    by true h f = let (b, m, e) = any_found (eqb c) l h in absurd (f b m (sym (eqb-true c b e)))

-- "KIND is 1 to 255 … ARGS are 0 to 4 words, each a declared variable or `_`"; "An argument word may be `=` and a number 0 to 4294967295"
abbrev pub Lined : ℕ → SymbolLine → Type 0
Lined n l =
    (1 ≤ l.kind) × (l.kind ≤ 255) × (length l.parameters ≤ 4) × ((v : ℕ) → Memᴰ (names v) l.parameters → v < n)
    × ((m : ℕ) → Memᴰ (fixed m) l.parameters → m ≤ 4294967295)

pub line_words_law : (n : ℕ) (l : SymbolLine) → (sound_symbol n (symbol_of l) ≡ true) ↔ Lined n l
unfolding sound_symbol
line_words_law n l = (forth, back)
  where
    forth : (leb 1 l.kind && leb l.kind 255 && leb (length l.parameters) 4 && all (sound_parameter n) l.parameters) ≡ true → Lined n l
    forth h =
        let (x, y) = and_true_split (leb 1 l.kind && leb l.kind 255 && leb (length l.parameters) 4) (all (sound_parameter n) l.parameters) h in
        let (u, v) = and_true_split (leb 1 l.kind && leb l.kind 255) (leb (length l.parameters) 4) x in
        let (a, b) = range 1 255 l.kind u in (
          a,
          b,
          leb-true (length l.parameters) 4 v,
          λ w m. ltb-true w n (all_at (sound_parameter n) y m),
          λ k m. leb-true k 4294967295 (all_at (sound_parameter n) y m),
        )

    each : ((v : ℕ) → Memᴰ (names v) l.parameters → v < n) → ((m : ℕ) → Memᴰ (fixed m) l.parameters → m ≤ 4294967295)
        → (p : Parameter) → Memᴰ p l.parameters → sound_parameter n p ≡ true
    each f g ignored m = refl
    each f g (names v) m = lt-ltb v n (f v m)
    each f g (fixed k) m = le-leb k 4294967295 (g k m)

    back : Lined n l → (leb 1 l.kind && leb l.kind 255 && leb (length l.parameters) 4 && all (sound_parameter n) l.parameters) ≡ true
    back (a, b, c, f, g) =
        ap₂ ◌&&◌ (ap₂ ◌&&◌ (in_range_law 1 255 l.kind a b) (le-leb (length l.parameters) 4 c)) (all_of (sound_parameter n) l.parameters (each f g))

-- all of "The book" but its last sentence on words
pub shape_words : (s : Bytes) (d : Declarations) (r : Regex)
    → Shape s d r
    ↔ ((length s ≤ 4096)
    × ((p : Bytes) × ((b : ℕ) → Memᴰ b p → b ≡ 10 → ⊥) × (s ≡ text d p) × Phrase (symbol_names d) alternation 16 (tokens p) r)
    × ((w : Bytes) → Memᴰ w (all_names d) → Named w)
    × ((i j : ℕ) → i < j → j < length (all_names d) → get_or (all_names d) i [] ≡ get_or (all_names d) j [] → ⊥)
    × (length d.variables ≤ 4) × (1 ≤ length d.symbols) × (length d.symbols ≤ 16)
    × ((l : SymbolLine) → Memᴰ l d.symbols → Lined (length d.variables) l)
    × (size r ≤ 31))
shape_words s d r = (
  λ f. (
    f.short,
    (f.written, (none_of 10 f.written).0 f.one_line, f.text, f.phrase),
    λ w m. (name_words_law w).0 (all_at is_name f.named m),
    (distinct_words (all_names d)).0 f.distinct,
    f.few_variables,
    f.some_symbols,
    f.few_symbols,
    λ l m. (line_words_law (length d.variables) l).0 (all_at (λ l. sound_symbol (length d.variables) (symbol_of l)) f.symbols m),
    f.occurrences,
  ),
  λ (short, (p, one, e, x), named, apart, few, some, most, lines, all31). record {
    short = short;
    written = p;
    one_line = (none_of 10 p).1 one;
    text = e;
    named = all_of is_name (all_names d) (λ w m. (name_words_law w).1 (named w m));
    distinct = (distinct_words (all_names d)).1 apart;
    few_variables = few;
    some_symbols = some;
    few_symbols = most;
    symbols = all_of (λ l. sound_symbol (length d.variables) (symbol_of l)) d.symbols (λ l m. (line_words_law (length d.variables) l).1 (lines l m));
    phrase = x;
    occurrences = all31;
  },
)

-- "without extra leading zeros": a digit, or the digits of its tenth and one more; 48 is the byte of 0
pub decimal_words : (n : ℕ)
    → (n < 10 → decimal n ≡ (48 + n) ∷ []) × (10 ≤ n → n < 10000000000 → decimal n ≡ decimal (n / 10) ++ ((48 + n % 10) ∷ []))
unfolding decimal
decimal_words n = (λ h. rw (lt-ltb n 10 h) refl, decimal_tenth n)

-- "a number 0 to 4294967295 without extra leading zeros"
pub number_words : (w : Bytes) → (is_number w ≡ true) ↔ ((n : ℕ) × (n ≤ 4294967295) × (w ≡ decimal n))
number_words w = (λ h. let (e, l) = number_found w h in (value 0 w, l, e), λ (n, l, e). rw e (number_read n l).0)

-- The text that declarations and a pattern write, byte by byte: `vars` and the variables, a line for each symbol, `match`, a space, the pattern; a
-- space before each word but the first of a line, LF (10) at each line's end.
abbrev pub argument_written : List Bytes → Parameter → Bytes
argument_written variables ignored = 95 ∷ []
argument_written variables (names v) = get_or variables v []
argument_written variables (fixed n) = 61 ∷ decimal n

spaced_gather : (ws : List Bytes) → spaced ws ≡ gather (λ w. 32 ∷ w) ws
spaced_gather [] = refl
spaced_gather (w ∷ ws) = ap (λ l. 32 ∷ w ++ l) (spaced_gather ws)

arguments_gather : (vs : List Bytes) (ps : List Parameter) → spaced (map (parameter_word vs) ps) ≡ gather (λ p. 32 ∷ argument_written vs p) ps
arguments_gather vs [] = refl
arguments_gather vs (ignored ∷ ps) = ap (λ l. 32 ∷ 95 ∷ l) (arguments_gather vs ps)
arguments_gather vs (names v ∷ ps) = ap (λ l. 32 ∷ get_or vs v [] ++ l) (arguments_gather vs ps)
arguments_gather vs (fixed n ∷ ps) = ap (λ l. 32 ∷ 61 ∷ decimal n ++ l) (arguments_gather vs ps)

abbrev pub line_written : List Bytes → SymbolLine → Bytes
line_written vs l = ascii "sym" ++ (32 ∷ l.name ++ (32 ∷ decimal l.kind ++ (gather (λ p. 32 ∷ argument_written vs p) l.parameters ++ (10 ∷ []))))

line_written_law : (vs : List Bytes) (l : SymbolLine) → sym_line vs l ≡ line_written vs l
line_written_law vs l =
    ap (λ z. ascii "sym" ++ (32 ∷ z)) (append_assoc l.name (32 ∷ decimal l.kind ++ spaced (map (parameter_word vs) l.parameters)) (10 ∷ [])
    ∙ ap (λ z. l.name ++ (32 ∷ z)) (append_assoc (decimal l.kind) (spaced (map (parameter_word vs) l.parameters)) (10 ∷ [])
    ∙ ap (λ z. decimal l.kind ++ (z ++ (10 ∷ []))) (arguments_gather vs l.parameters)))

lines_written : (vs : List Bytes) (ls : List SymbolLine) → gather (sym_line vs) ls ≡ gather (line_written vs) ls
lines_written vs [] = refl
lines_written vs (l ∷ ls) = ap₂ ◌++◌ (line_written_law vs l) (lines_written vs ls)

pub header_words : (d : Declarations)
    → header d ≡ (ascii "vars" ++ (gather (λ w. 32 ∷ w) d.variables ++ (10 ∷ []))) ++ gather (line_written d.variables) d.symbols
unfolding header
header_words d =
    ap₂ ◌++◌ (ap (λ z. ascii "vars" ++ (z ++ (10 ∷ []))) (spaced_gather d.variables)) (lines_written d.variables d.symbols)

pub text_words : (d : Declarations) (p : Bytes)
    → text d p
    ≡ (ascii "vars" ++ (gather (λ w. 32 ∷ w) d.variables ++ (10 ∷ [])))
    ++ gather (line_written d.variables) d.symbols
    ++ (ascii "match" ++ (32 ∷ p ++ (10 ∷ [])))
unfolding text
text_words d p = ap (λ z. z ++ (ascii "match" ++ (32 ∷ p ++ (10 ∷ [])))) (header_words d)

-- The tokens of a pattern: spaces are none, a byte that begins no name is one, and a name is read as long as it goes: up to the end, or a byte that is
-- none of a name.
abbrev pub name_ends : Bytes → Bool
name_ends [] = true
name_ends (b ∷ l) = not (is_name_byte b)

name_over : (c : ℕ) (v w l : Bytes) → all is_name_byte w ≡ true → name_ends l ≡ true → tokens_after (c ∷ v) (w ++ l) ≡ name (c ∷ v ++ w) ∷ tokens l
name_over c v [] [] h e = rw append-nil
name_over c v [] (b ∷ l) h e =
    let n = not-true (is_name_byte b) e in
    rw (n, append-nil, (or_false_split (is_lower b) (is_digit b) n).0)
name_over c v (b ∷ w) l h e =
    let (x, y) = and_true_split (is_name_byte b) (all is_name_byte w) h in
    rw x (name_over c (v ++ (b ∷ [])) w l y e ∙ ap (λ z. name (c ∷ z) ∷ tokens l) (append_assoc v (b ∷ []) w))

pub tokens_words : (l : Bytes)
    → (tokens [] ≡ []) × (tokens (32 ∷ l) ≡ tokens l)
    × ((b : ℕ) → is_lower b ≡ false → (b ≡ 32 → ⊥) → tokens (b ∷ l) ≡ sign b ∷ tokens l)
    × ((b : ℕ) (w : Bytes) → is_lower b ≡ true → all is_name_byte w ≡ true → name_ends l ≡ true → tokens (b ∷ w ++ l) ≡ name (b ∷ w) ∷ tokens l)
tokens_words l = (refl, refl, λ b h n. rw (h, ne_eqb b 32 n), λ b w h v e. rw h (name_over b [] w l v e))

-- "a symbol that binds it": the variable is one of its ARGS
abbrev pub arguments_of : List SymbolLine → ℕ → List Parameter
arguments_of [] a = []
arguments_of (l ∷ ls) zero = l.parameters
arguments_of (l ∷ ls) (suc a) = arguments_of ls a

arguments_of_law : (ls : List SymbolLine) (a : ℕ) → (get_or (map symbol_of ls) a no_symbol).parameters ≡ arguments_of ls a
arguments_of_law [] a = refl
arguments_of_law (l ∷ ls) zero = refl
arguments_of_law (l ∷ ls) (suc a) = arguments_of_law ls a

pub binds_words : (d : Declarations) (v a : ℕ) → (binds d v a ≡ true) ↔ Memᴰ (names v) (arguments_of d.symbols a)
binds_words d v a = (
  λ h. forth (arguments_of d.symbols a) (rw (arguments_of_law d.symbols a) at h),
  λ m. rw (arguments_of_law d.symbols a) (any_of (Book.binds v) m (eq-eqb v v refl)),
)
  where
    same : (p : Parameter) → Book.binds v p ≡ true → p ≡ names v
    same ignored h = absurd (true≢false (sym h))
    same (names u) h = ap names (sym (eqb-true v u h))
    same (fixed n) h = absurd (true≢false (sym h))

    forth : (ps : List Parameter) → any (Book.binds v) ps ≡ true → Memᴰ (names v) ps
    forth ps h = let (p, m, e) = any_found (Book.binds v) ps h in subst (λ x. Memᴰ x ps) (same p e) m

-- all of "The book", its last sentence too
pub form_words : (s : Bytes) (d : Declarations) (r : Regex)
    → Form s d r
    ↔ (Shape s d r × (In r [] → ⊥)
    × ((v : ℕ) → v < length d.variables → (w : List ℕ) → In r w → (a : ℕ) × Memᴰ a w × Memᴰ (names v) (arguments_of d.symbols a)))
form_words s d r = (
  λ f. (f.shape, f.nonempty, λ v l w t. let (a, m, e) = any_found (binds d v) w (f.binding v l w t) in (a, m, (binds_words d v a).0 e)),
  λ (x, n, f). record { shape = x; nonempty = n; binding = λ v l w t. let (a, m, e) = f v l w t in any_of (binds d v) m ((binds_words d v a).1 e) },
)

-- "the declaring place" of each name, "variables from 0, then symbols": behind all that `text_words` has written before it, and a space or `sym` and a space
abbrev pub placed : (start size : ℕ) → Span
placed p n = record { start = p; size = n }

variable_placed : (p : ℕ) (ws : List Bytes) (i : ℕ) (x : Span) → i < length ws
    → get_or (variable_spans p ws) i x ≡ placed (p + length (gather (λ w. 32 ∷ w) (take i ws))) (length (get_or ws i []))
variable_placed p [] i x h = absurd (omega arith)
variable_placed p (w ∷ ws) zero x h = ap (λ q. placed q (length w)) (omega arith)
variable_placed p (w ∷ ws) (suc i) x h =
    variable_placed (p + length w + 1) ws i x (omega arith)
    ∙ ap (λ q. placed q (length (get_or ws i []))) (omega (arith, length-append w (gather (λ w. 32 ∷ w) (take i ws))))

symbol_placed : (p : ℕ) (vs : List Bytes) (ls : List SymbolLine) (j : ℕ) (x : Span) → j < length ls
    → get_or (symbol_spans p vs ls) j x ≡ placed (p + length (gather (line_written vs) (take j ls)) + 4) (length (get_or (map (λ l. l.name) ls) j []))
symbol_placed p vs [] j x h = absurd (omega arith)
symbol_placed p vs (l ∷ ls) zero x h = ap (λ q. placed q (length l.name)) (omega arith)
symbol_placed p vs (l ∷ ls) (suc j) x h =
    symbol_placed (p + length (sym_line vs l)) vs ls j x (omega arith)
    ∙ ap (λ q. placed q (length (get_or (map (λ l. l.name) ls) j [])))
    (omega (arith, ap length (line_written_law vs l), length-append (line_written vs l) (gather (line_written vs) (take j ls))))

variables_counted : (p : ℕ) (ws : List Bytes) → length (variable_spans p ws) ≡ length ws
variables_counted p [] = refl
variables_counted p (w ∷ ws) = ap suc (variables_counted (p + length w + 1) ws)

pub places_words : (d : Declarations) (x : Span) → let first = ascii "vars" ++ (gather (λ w. 32 ∷ w) d.variables ++ (10 ∷ [])) in
    ((i : ℕ) → i < length d.variables
    → get_or (spans d) i x ≡ placed (length (ascii "vars" ++ gather (λ w. 32 ∷ w) (take i d.variables)) + 1) (length (get_or d.variables i [])))
    × ((j : ℕ) → j < length d.symbols
    → get_or (spans d) (length d.variables + j) x
    ≡ placed (length (first ++ gather (line_written d.variables) (take j d.symbols)) + 4) (length (get_or (map (λ l. l.name) d.symbols) j [])))
places_words d x =
    let vs = d.variables in
    let ls = d.symbols in
    let a = variable_spans 5 vs in
    let b = symbol_spans (length (vars_line vs)) vs ls in
    let first = ascii "vars" ++ (gather (λ w. 32 ∷ w) vs ++ (10 ∷ [])) in
    let line : vars_line vs ≡ first = ap (λ z. ascii "vars" ++ (z ++ (10 ∷ []))) (spaced_gather vs) in (
      λ i h. get_or-append a b x i (omega (arith, variables_counted 5 vs)) ∙ variable_placed 5 vs i x h
          ∙ ap (λ q. placed q (length (get_or vs i []))) (omega arith),
      λ j h. ap (λ n. get_or (a ++ b) (n + j) x) (sym (variables_counted 5 vs)) ∙ get_or-append-add a b j x ∙ symbol_placed (length (vars_line vs)) vs ls j x h
          ∙ ap (λ q. placed q (length (get_or (map (λ l. l.name) ls) j [])))
          (omega (arith, ap length line, length-append first (gather (line_written vs) (take j ls)))),
    )

-- as many declaring places as names
pub places_counted : (d : Declarations) → length (spans d) ≡ length d.variables + length d.symbols
places_counted d =
    length-append (variable_spans 5 d.variables) _ ∙ ap₂ ◌+◌ (variables_counted 5 d.variables) (symbols_counted _ d.variables d.symbols)
  where
    symbols_counted : (p : ℕ) (vs : List Bytes) (ls : List SymbolLine) → length (symbol_spans p vs ls) ≡ length ls
    symbols_counted p vs [] = refl
    symbols_counted p vs (l ∷ ls) = ap suc (symbols_counted (p + length (sym_line vs l)) vs ls)

-- "variables from 0, then symbols", and the numbers that a pattern's names stand for: those of the lines, in their order
pub names_words : (d : Declarations)
    → (symbol_names d ≡ map (λ l. l.name) d.symbols) × (all_names d ≡ d.variables ++ map (λ l. l.name) d.symbols)
names_words d = (refl, refl)

-- how many bytes pass from the first on; spaces, and the bytes of words
pub scan_words : (f : ℕ → Bool) (b : ℕ) (l : Bytes)
    → (run f [] ≡ 0) × (f b ≡ true → run f (b ∷ l) ≡ suc (run f l)) × (f b ≡ false → run f (b ∷ l) ≡ 0)
    × ((is_space b ≡ true) ↔ (b ≡ 32)) × ((is_word_byte b ≡ true) ↔ ((b ≡ 32 → ⊥) × (b ≡ 10 → ⊥)))
scan_words f b l = (
  refl,
  λ h. rw h refl,
  λ h. rw h refl,
  (eqb-true b 32, eq-eqb b 32),
  (
    λ h. let (x, y) = and_true_split (not (eqb b 32)) (not (eqb b 10)) h in (eqb-false b 32 (not-true _ x), eqb-false b 10 (not-true _ y)),
    λ (x, y). rw (ne_eqb b 32 x, ne_eqb b 10 y) refl,
  ),
)

-- the bytes of a text that a statement writes out: its characters' codes, one by one
pub ascii_words : (c : Char) (s : String) → (ascii String.[] ≡ []) × (ascii (String.◌∷◌ c s) ≡ code c ∷ ascii s)
ascii_words c s = (refl, refl)
