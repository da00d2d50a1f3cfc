-- The theorems of the Bench level, about what `read`, `name_place` and `name` hand back (their contracts cite `reading`, `name_place`
-- and `name_bytes`): a text is accepted iff it is of the stated form, and then the book is what it declares.
use mathlib.Core.Path.{◌≡◌, refl, sym, ap, ap₂, ◌∙◌}
use mathlib.Core.Bool.{true, false, cond, ◌&&◌, and-eq-true_iff, true≢false}
use mathlib.Core.List.{List, [], ◌∷◌, ◌++◌, map, map-append}
use mathlib.Core.Logic.{◌↔◌, ◌⊎◌}
use Prim.Native.Nat.{ℕ, ◌+◌, ◌-◌, ◌≤◌, ◌<◌}
use native.Mathlib.Omega.{arith}
use lib.Dec.{eqb, leb}
use lib.ListN.{length, get_or, take, drop, replicate, length-map, length-append, length-take, length-drop, get_or-eq_default, get_or-map}
use borrow.Author.Tests.{lt-ltb, le-leb, ne_eqb, eqb-true, eqb-false}
use Rattle.laws.specs.Bits.{bit}
use Rattle.laws.specs.Lists.{any, all, keep, numbers}
use Rattle.laws.specs.Parts.{pad}
use Rattle.laws.proofs.Lists.{and_true_split, all_at, all_of, all_map, length_numbers, either}
use Rattle.laws.proofs.Parts.{pad_take}
use Rattle.pattern.specs.Regex.{Regex, In, nullable}
use Rattle.pattern.specs.Positions as Positions
use Rattle.pattern.specs.Positions.{occurrence_limit}
use Rattle.pattern.proofs.Masks.{symbols_length}
use Rattle.meaning.specs.Events as Events
use Rattle.meaning.specs.Events.{Symbol}
use Rattle.meaning.specs.Meaning.{no_symbol}
use Rattle.meaning.specs.Book as Plain
use Rattle.meaning.specs.Book.{sound_symbol}
use Rattle.automaton.proofs.Counts.{begin_count_law, end_count_law}
use Rattle.automaton.proofs.Kept.{proper_sound}
use Rattle.form.specs.Text.{Bytes, is_name, match_word, SymbolLine, Declarations, header, tracematch_of, Span, variable_spans, symbol_spans, spans}
use Rattle.form.specs.Text as Text
use Rattle.form.specs.Limits.{text_limit, symbol_limit, parameter_limit}
use Rattle.form.specs.Form.{Shape, Form, symbol_names, all_names, binds}
use Rattle.form.specs.Scan.{run, is_space}
use Rattle.form.specs.Lines.{bytes_at, declared_table}
use Rattle.form.specs.Reading.{Outcome, reading_of}
use Rattle.parsing.proofs.Accepted as Accepted
use Rattle.parsing.proofs.Header.{header_names}
use Rattle.parsing.proofs.Outcomes.{known}
use Rattle.parsing.proofs.Shapes.{shape_found}
use Rattle.table.specs.Tables.{names_limit, table_of as held_table, parameter_of, symbol_of, view_table, name_of, no_name, span_of, inside}
use Rattle.table.specs.declared.Parameter as HeldParameter
use Rattle.table.specs.declared.Symbol as HeldSymbol
use Rattle.table.proofs.Codes.{Fits, view_table_law}
use Rattle.book.specs.Answers.{number_of, place_of, answer_of}
use Rattle.book.specs.Books.{empty_book, reading_for, book_for, reading, view_book, name_place, name_bytes}
use Rattle.book.specs.declared.ReadingAnswer.{ReadingAnswer}
use Rattle.book.specs.declared.Reading.{Reading}

-- the enum keeps number and place, where the place is the fixed one of the two answers that have none
module _ (n p : ℕ) where
  abbrev Kept : ReadingAnswer → Type 0
  Kept a = (number_of a ≡ n) × (place_of a ≡ p)

  -- one test of the chain: the number is k, or it is above k
  kept_by : (a : ReadingAnswer) (k : ℕ) (b : ReadingAnswer) → k ≤ n → (n ≡ k → Kept a) → (k < n → Kept b) → Kept (cond (eqb n k) a b)
  kept_by a k b l f g = either Kept (eqb n k) (λ e. f (eqb-true n k e)) λ e. let d = eqb-false n k e in g (omega arith)

  kept : n ≤ 8 → (n ≡ 0 → 0 ≡ p) → (n ≡ 1 → text_limit ≡ p) → Kept (answer_of n p)
  unfolding answer_of
  kept h none long =
      kept_by _ 0 _ (omega arith) (λ e. (sym e, none e)) λ l. kept_by _ 1 _ l (λ e. (sym e, long e)) λ l.
      kept_by _ 2 _ l (λ e. (sym e, refl)) λ l. kept_by _ 3 _ l (λ e. (sym e, refl)) λ l. kept_by _ 4 _ l (λ e. (sym e, refl)) λ l.
      kept_by _ 5 _ l (λ e. (sym e, refl)) λ l. kept_by _ 6 _ l (λ e. (sym e, refl)) λ l. kept_by _ 7 _ l (λ e. (sym e, refl)) λ l. (omega arith, refl)

-- accepted or refused, the answer is that of number and place
answer_of_law : (o : Outcome) → (reading_for o).answer ≡ answer_of o.number o.place
unfolding reading_for
answer_of_law o = either (λ (r : Reading). r.answer ≡ answer_of o.number o.place) (eqb o.number 0) (λ _. refl) λ _. refl

pub long_place : (s : Bytes) → (reading_of s).number ≡ 1 → text_limit ≡ (reading_of s).place
unfolding reading_of
long_place s e = rw (lt-ltb text_limit (length s) ((Accepted.too_long_law s).0 e))

told : (s : Bytes) → (number_of (reading s).answer ≡ (reading_of s).number) × (place_of (reading s).answer ≡ (reading_of s).place)
told s =
    let o = reading_of s in
    rw (answer_of_law o) (kept o.number o.place (Accepted.number_range s) (λ e. sym (ap (λ z. z.place) ((known s).read e))) (long_place s))

-- the enum's number and place are the reading's
pub answer_number : (s : Bytes) → number_of (reading s).answer ≡ (reading_of s).number
answer_number s = (told s).0

pub answer_place : (s : Bytes) → place_of (reading s).answer ≡ (reading_of s).place
answer_place s = (told s).1

-- a refusal stands inside the text, and leaves the empty book and no count
pub refusal_place : (s : Bytes) → place_of (reading s).answer ≤ length s
refusal_place s = rw (answer_place s) (Accepted.place_inside s)

pub refusal_book : (s : Bytes) → (number_of (reading s).answer ≡ 0 → ⊥)
    → ((reading s).book ≡ empty_book) × ((reading s).begin_count ≡ 0) × ((reading s).end_count ≡ 0)
unfolding reading_for
refusal_book s h = rw (ne_eqb (reading_of s).number 0 λ e. h (answer_number s ∙ e)) (refl, refl, refl)

-- "In an empty book all is zero.": what a refused text leaves, every number of it
pub empty_book_law : (s : Bytes) → (number_of (reading s).answer ≡ 0 → ⊥)
    → (reading s).book
    ≡ record {
      variables = 0;
      symbols = 0;
      names = replicate names_limit (record { start = 0; size = 0 });
      table = replicate symbol_limit (record { kind = 0; count = 0; parameters = replicate parameter_limit (record { tag = 0; number = 0 }) });
      positions = 0;
      occurrences = replicate occurrence_limit 0;
      begins = 0;
      ends = 0;
      follows = replicate occurrence_limit 0;
      empty = false;
    }
unfolding empty_book held_table symbol_of pad
empty_book_law s h = (refusal_book s h).0

-- lines that say something in form have few parameters
few_parameters_law : (v : ℕ) (l : List Symbol) → all (sound_symbol v) l ≡ true → all (λ y. leb (length y.parameters) 4) l ≡ true
unfolding sound_symbol
few_parameters_law v l h = all_of _ l λ y m. (simp and-eq-true_iff at (all_at (sound_symbol v) h m)).0.1

-- an argument place and a `sym` line as the book holds them, written out
abbrev pub coded : Events.Parameter → HeldParameter.Parameter
coded Events.Parameter.ignored = record { tag = 0; number = 0 }
coded (Events.Parameter.names v) = record { tag = 1; number = v }
coded (Events.Parameter.fixed n) = record { tag = 2; number = n }

abbrev pub lined : SymbolLine → HeldSymbol.Symbol
lined l = record { kind = l.kind; count = length l.parameters; parameters = pad 4 (record { tag = 0; number = 0 }) (map coded l.parameters) }

parameters_held : (ps : List Events.Parameter) → map parameter_of ps ≡ map coded ps
parameters_held [] = refl
parameters_held (Events.Parameter.ignored ∷ ps) = ap (λ l. record { tag = 0; number = 0 } ∷ l) (parameters_held ps)
parameters_held (Events.Parameter.names v ∷ ps) = ap (λ l. record { tag = 1; number = v } ∷ l) (parameters_held ps)
parameters_held (Events.Parameter.fixed n ∷ ps) = ap (λ l. record { tag = 2; number = n } ∷ l) (parameters_held ps)

lines_held : (ls : List SymbolLine) → map symbol_of (map Text.symbol_of ls) ≡ map lined ls
unfolding symbol_of
lines_held [] = refl
lines_held (l ∷ ls) =
    ap₂ ◌∷◌ (ap (λ ps. record { kind = l.kind; count = length l.parameters; parameters = pad 4 (record { tag = 0; number = 0 }) ps })
    (parameters_held l.parameters)) (lines_held ls)

no_symbol_law : symbol_of no_symbol ≡ record { kind = 0; count = 0; parameters = replicate 4 (record { tag = 0; number = 0 }) }
unfolding symbol_of pad
no_symbol_law = refl

module _ (s : Bytes) where
  -- the table of a text in form
  table_view : (d : Declarations) (r : Regex) → Form s d r → (length (declared_table d).variables ≡ length d.variables)
      × (view_table (held_table (declared_table d)) ≡ declared_table d)
  table_view d r f =
      let t = declared_table d in
      let h = f.shape in
      let (a, b) = header_names s d (shape_found s d r h).header in
      let e : length t.variables ≡ length d.variables = sym (length-map t.variables (bytes_at s)) ∙ ap length a in
      let g : Fits t =
      record {
        few_variables = rw e h.few_variables;
        few_symbols = rw length-map h.few_symbols;
        paired = sym (length-map t.symbols (bytes_at s)) ∙ ap length b ∙ simp length-map;
        few_parameters = few_parameters_law (length d.variables) t.table (Accepted.form_proper s d r f).symbols;
      } in
      (e, view_table_law t g)

  -- of any number: behind the names both sides are empty
  named : (d : Declarations) (r : Regex) → Form s d r → (n : ℕ) → name_bytes s n ≡ get_or (all_names d) n []
  unfolding name_bytes name_place
  named d r f n = rw (Accepted.fields s d r f, ← get_or-map (bytes_at s), Accepted.names_placed s d r f.shape)

  pub accepted : (number_of (reading s).answer ≡ 0) ↔ ((d : Declarations) × (r : Regex) × Form s d r)
  accepted = rw (answer_number s) (Accepted.accepted s)

  -- the book is that of the declared tracematch
  pub fields : (d : Declarations) (r : Regex) → Form s d r → view_book (reading s).book ≡ Plain.book_of (tracematch_of d r)
  unfolding reading_for book_for view_book Plain.book_of held_table view_table
  fields d r f =
      let (v, w) = table_view d r f in
      let n = Positions.size r in
      let m = map (Positions.following r 1) (numbers 1 n) in
      let x : take n (pad 31 0 (Positions.symbols r)) ≡ Positions.symbols r = rw (← symbols_length r) (pad_take 31 0 (Positions.symbols r)) in
      let y : take n (pad 31 0 m) ≡ m = ap (λ k. take k (pad 31 0 m)) (sym (length-map (numbers 1 n) _ ∙ length_numbers 1 n)) ∙ pad_take 31 0 m in
      rw (Accepted.fields s d r f, v, ap (λ t. t.table) w, x, y)

  -- the counts are the numbers of beginning and ending positions
  pub counts : (d : Declarations) (r : Regex) → Form s d r → let b = Plain.book_of (tracematch_of d r) in
      ((reading s).begin_count ≡ length (keep (Plain.begins_at b) (Plain.positions b)))
      × ((reading s).end_count ≡ length (keep (Plain.ends_at b) (Plain.positions b)))
  unfolding reading_for Plain.book_of
  counts d r f =
      let h = proper_sound _ (Accepted.form_proper s d r f) in
      rw (Accepted.fields s d r f) (begin_count_law _ h, end_count_law _ h)

  -- the name with a number is the declared one, at its declaring place
  pub names : (d : Declarations) (r : Regex) → Form s d r → (n : ℕ) → n < length (all_names d)
      → (name_bytes s n ≡ get_or (all_names d) n []) × (name_place s n ≡ get_or (spans d) n (record { start = 0; size = 0 }))
  unfolding name_place
  names d r f n h = (named d r f n, rw (Accepted.fields s d r f))

  -- beyond them, the empty part
  pub no_name_law : (d : Declarations) (r : Regex) → Form s d r → (n : ℕ) → length (all_names d) ≤ n → name_bytes s n ≡ []
  no_name_law d r f n h = named d r f n ∙ get_or-eq_default (all_names d) [] h

  pub seven : (number_of (reading s).answer ≡ 7) ↔ ((d : Declarations) × (r : Regex) × Shape s d r × In r [])
  seven = rw (answer_number s) (Accepted.seven s)

  pub eight : (number_of (reading s).answer ≡ 8)
      ↔ ((d : Declarations) × (r : Regex) × Shape s d r × (In r [] → ⊥)
      × ((v : ℕ) × (w : List ℕ) × (v < length d.variables) × In r w × (any (binds d v) w ≡ false)))
  eight = rw (answer_number s) (Accepted.eight s)

  -- every field of the book from the declarations and the tree themselves, every array with its padding: "one bit to a position", positions from 1, an
  -- argument place with its variable's number, ignored or with its fixed number; the names are `book_names`. What the masks say of words is
  -- `positions` (crate pattern).
  pub held : (d : Declarations) (r : Regex) → Form s d r → let b = (reading s).book in
      (b.variables ≡ length d.variables) × (b.symbols ≡ length d.symbols)
      × (b.table ≡ pad 16 (record { kind = 0; count = 0; parameters = replicate 4 (record { tag = 0; number = 0 }) }) (map lined d.symbols))
      × (b.positions ≡ Positions.size r) × (b.occurrences ≡ pad 31 0 (Positions.symbols r))
      × (b.begins ≡ Positions.beginning r 1) × (b.ends ≡ Positions.ending r 1)
      × (b.follows ≡ pad 31 0 (map (Positions.following r 1) (numbers 1 (Positions.size r)))) × (b.empty ≡ nullable r)
  unfolding reading_for book_for held_table symbol_of
  held d r f =
      let w = ap (λ o. (reading_for o).book) (Accepted.fields s d r f) in
      let t : map symbol_of (declared_table d).table ≡ map lined d.symbols = lines_held d.symbols in (
        ap (λ b. b.variables) w ∙ (table_view d r f).0,
        ap (λ b. b.symbols) w ∙ length-map d.symbols _,
        ap (λ b. b.table) w ∙ ap₂ (λ z l. pad 16 z l) no_symbol_law t,
        ap (λ b. b.positions) w,
        ap (λ b. b.occurrences) w,
        ap (λ b. b.begins) w,
        ap (λ b. b.ends) w,
        ap (λ b. b.follows) w,
        ap (λ b. b.empty) w,
      )

  -- the counts in the book's own fields: so many bits of the masks are set, each a position
  pub counted_bits : (d : Declarations) (r : Regex) → Form s d r → let b = (reading s).book in
      ((reading s).begin_count ≡ length (keep (λ p. bit p b.begins) (numbers 1 b.positions)))
      × ((reading s).end_count ≡ length (keep (λ p. bit p b.ends) (numbers 1 b.positions)))
  unfolding Plain.book_of
  counted_bits d r f =
      let (_, _, _, n, _, x, y, _, _) = held d r f in
      let (i, j) = counts d r f in
      let k = symbols_length r ∙ sym n in (
        i ∙ ap₂ (λ m l. length (keep (λ p. bit p m) (numbers 1 l))) (sym x) k,
        j ∙ ap₂ (λ m l. length (keep (λ p. bit p m) (numbers 1 l))) (sym y) k,
      )

-- the tracematch that the theorems about runs speak of: of the text's own tree, and its symbols as the lines have them
pub declared_tracematch : (d : Declarations) (r : Regex)
    → tracematch_of d r
    ≡ record {
      variables = length d.variables;
      symbols = map (λ l. record { kind = l.kind; parameters = l.parameters }) d.symbols;
      pattern = r;
    }
declared_tracematch d r = refl

-- a refused text has no names
pub refused_name : (s : Bytes) (n : ℕ) → (number_of (reading s).answer ≡ 0 → ⊥) → name_bytes s n ≡ []
unfolding name_bytes name_place
refused_name s n h = rw (Accepted.refused_empty s (λ e. h (answer_number s ∙ e))).0

-- nor a declaring place; nor has a number that is not declared
pub refused_place : (s : Bytes) (n : ℕ) → (number_of (reading s).answer ≡ 0 → ⊥) → name_place s n ≡ record { start = 0; size = 0 }
unfolding name_place
refused_place s n h = rw (Accepted.refused_empty s (λ e. h (answer_number s ∙ e))).0

pub no_place : (s : Bytes) (d : Declarations) (r : Regex) → Form s d r → (n : ℕ) → length (all_names d) ≤ n → name_place s n ≡ record { start = 0; size = 0 }
unfolding name_place
no_place s d r f n h =
    let l : length (spans d) ≤ n = omega (arith, length-map (spans d) (bytes_at s), ap length (Accepted.names_placed s d r f.shape)) in
    rw (Accepted.fields s d r f) (get_or-eq_default (spans d) _ l)

-- the whole struct of an accepted text, every array with its padding; its names are the declaring places
pub whole : (s : Bytes) (d : Declarations) (r : Regex) → Form s d r
    → (reading s).book ≡ book_for (record { number = 0; place = 0; table = declared_table d; tree = r })
unfolding reading_for
whole s d r f = ap (λ o. (reading_for o).book) (Accepted.fields s d r f)

pub book_names : (s : Bytes) (d : Declarations) (r : Regex) → Form s d r → (reading s).book.names ≡ pad names_limit no_name (map name_of (spans d))
unfolding book_for held_table
book_names s d r f = ap (λ b. b.names) (whole s d r f)

-- the same with its numbers written out: 20 names, the declared ones first, the others zero; where each stands in the text is `places_words` (crate parsing)
pub names_held : (s : Bytes) (d : Declarations) (r : Regex) → Form s d r
    → (reading s).book.names ≡ pad 20 (record { start = 0; size = 0 }) (map (λ x. record { start = x.start; size = x.size }) (spans d))
names_held s d r f = book_names s d r f

-- a declaring place has the size of the name
variable_sizes : (p : ℕ) (ws : List Bytes) → map (λ x. x.size) (variable_spans p ws) ≡ map length ws
variable_sizes p [] = refl
variable_sizes p (w ∷ ws) = ap (length w ∷◌) (variable_sizes (p + length w + 1) ws)

symbol_sizes : (p : ℕ) (vs : List Bytes) (ls : List SymbolLine) → map (λ x. x.size) (symbol_spans p vs ls) ≡ map length (map (λ l. l.name) ls)
symbol_sizes p vs [] = refl
symbol_sizes p vs (l ∷ ls) = ap (length l.name ∷◌) (symbol_sizes (p + length (Text.sym_line vs l)) vs ls)

span_sizes : (d : Declarations) → map (λ x. x.size) (spans d) ≡ map length (all_names d)
span_sizes d =
    map-append (λ x. x.size) (variable_spans 5 d.variables) _
    ∙ ap₂ ◌++◌ (variable_sizes 5 d.variables) (symbol_sizes _ d.variables d.symbols)
    ∙ sym (map-append length d.variables (symbol_names d))

-- so a place ends in the text where all bytes of its name stand there, and a name has a first byte
name_some : (w : Bytes) → is_name w ≡ true → 1 ≤ length w
name_some [] h = absurd (true≢false (sym h))
name_some (b ∷ w) h = omega arith

spans_inside : (s : Bytes) (xs : List Span) → map (λ x. x.size) xs ≡ map length (map (bytes_at s) xs) → all is_name (map (bytes_at s) xs) ≡ true
    → all (inside (length s)) xs ≡ true
spans_inside s [] k h = refl
spans_inside s (x ∷ xs) k h =
    let (a, b) = and_true_split (is_name (bytes_at s x)) _ h in
    let n : x.size ≡ length (bytes_at s x) = ap (λ l. get_or l 0 0) k in
    let m = length-take (x.start + x.size - x.start) (drop x.start s) in
    let o = length-drop x.start s in
    ap₂ ◌&&◌ (le-leb (x.start + x.size) (length s) (omega (arith, name_some (bytes_at s x) a))) (spans_inside s xs (ap (drop 1) k) b)

-- the places of the declared names end in the text
pub names_inside : (s : Bytes) (d : Declarations) (r : Regex) → Form s d r → let b = (reading s).book in
    all (λ x. inside (length s) (span_of x)) (take (b.variables + b.symbols) b.names) ≡ true
unfolding book_for held_table
names_inside s d r f =
    let t = declared_table d in
    let e = Accepted.names_placed s d r f.shape in
    let m : length t.symbols ≡ length t.table =
    sym (length-map t.symbols _) ∙ ap length (symbol_sizes _ d.variables d.symbols) ∙ simp length-map in
    let n : length t.variables + length t.table ≡ length (map name_of (spans d)) =
    sym (length-map (spans d) name_of ∙ length-append t.variables t.symbols ∙ ap (length t.variables +◌) m) in
    rw (whole s d r f, n, pad_take names_limit no_name (map name_of (spans d)), all_map (λ x. inside (length s) (span_of x)) name_of (spans d))
    (spans_inside s (spans d) (span_sizes d ∙ ap (map length) (sym e)) (ap (all is_name) e ∙ f.shape.named))

-- "A read book … never gets 9": the book's share of it
pub sound : (s : Bytes) → number_of (reading s).answer ≡ 0 → Plain.sound_book (view_book (reading s).book) ≡ true
sound s h =
    let (d, r, f) = (accepted s).0 h in
    rw (fields s d r f) (proper_sound _ (Accepted.form_proper s d r f))

-- 1 exactly for a text over 4,096 bytes
pub too_long_law : (s : Bytes) → (number_of (reading s).answer ≡ 1) ↔ (text_limit < length s)
too_long_law s = rw (answer_number s) (Accepted.too_long_law s)

-- "1 first": whatever else the text is, and in no other case; "1, place 4,096"
pub long_words : (s : Bytes) → ((number_of (reading s).answer ≡ 1) ↔ (4096 < length s)) × (4096 < length s → place_of (reading s).answer ≡ 4096)
long_words s = (too_long_law s, λ h. answer_place s ∙ sym (long_place s ((Accepted.too_long_law s).1 h)))

-- where 7 and 8 stand
pub words_place : (s : Bytes) (d : Declarations) (r : Regex) (f : Shape s d r) → (number_of (reading s).answer ≡ 7) ⊎ (number_of (reading s).answer ≡ 8)
    → place_of (reading s).answer ≡ length (header d) + (length match_word + 1) + run is_space f.written
words_place s d r f h = answer_place s ∙ Accepted.words_place s d r f (rw (answer_number s) at h)

-- a text has at most one list of declarations and one tree
pub unique : (s : Bytes) (d e : Declarations) (r q : Regex) → Shape s d r → Shape s e q → (d ≡ e) × (r ≡ q)
unique = Accepted.unique
