-- What the reader answers, in terms of the stated form: `accepted` (0 iff the text is of the stated form), `fields` (what it then
-- hands back), `unique` (a text has at most one list of declarations and one tree), `seven`, `eight`, and where refusals stand.
use mathlib.Core.Path.{◌≡◌, refl, sym, ap, ap₂, ◌∙◌}
use mathlib.Core.Bool.{Bool, true, false, true≢false, not-eq-not}
use mathlib.Core.List.{List, [], ◌∷◌, ◌++◌, map, map-append, nil≢cons, Memᴰ}
use mathlib.Core.Logic.Iff
use mathlib.Core.Logic.{◌↔◌, ◌⊎◌, inl, inr, ⊎_elim}
use Prim.Native.Nat.{ℕ, ◌+◌, ◌≤◌, ◌<◌}
use native.Mathlib.Omega.{arith}
use borrow.Author.Tests.{lt-ltb}
use lib.Dec.{ltb}
use lib.ListN.{length, length-map}
use Rattle.laws.specs.Bits.{bit}
use Rattle.laws.specs.Lists.{any, all, numbers}
use Rattle.laws.proofs.Lists.{all_append, all_map, all_found, mem_numbers, map_at}
use Rattle.pattern.specs.Regex.{Regex, lit, In, nullable, bound_by}
use Rattle.pattern.specs.Positions as Positions
use Rattle.pattern.proofs.Words as Words
use Rattle.meaning.specs.Book.{Proper}
use Rattle.automaton.proofs.ProperTest.{bit_bound_in, all_below}
use Rattle.form.specs.Text.{Bytes, match_word, Declarations, SymbolLine, header, symbol_of, tracematch_of, spans}
use Rattle.form.specs.Tokens.{Token}
use Rattle.form.specs.Phrase.{Phrase, Level, symbol, group, plain, starred, plussed, optional, last, then, only, or}
use Rattle.form.specs.Limits.{text_limit}
use Rattle.form.specs.Form.{Shape, Form, symbol_names, all_names, binds}
use Rattle.form.specs.Scan.{run, is_space}
use Rattle.form.specs.Lines.{no_table, bytes_at, declared_table}
use Rattle.form.specs.Reading.{variables_of, reading_of}
use Rattle.form.specs.Samples.{Read, accepts, outcome, wanted, table}
use Rattle.form.proofs.Samples.{sampled}
use Rattle.parsing.proofs.Header.{header_names}
use Rattle.parsing.proofs.Outcomes.{pattern_of, binds_all, answer, known, words_first}
use Rattle.parsing.proofs.Ascii.{shape_ascii}
use Rattle.parsing.proofs.Shapes.{Found, shape_found, shape_first, whole_shape}

-- a phrase has declared symbols only
phrase_declared : {names : List Bytes} {k : Level} {d : ℕ} {ts : List Token} {r : Regex} → Phrase names k d ts r
    → all (λ a. ltb a (length names)) (Positions.symbols r) ≡ true
phrase_declared (symbol h) = rw (lt-ltb _ _ h)
phrase_declared (group p) = phrase_declared p
phrase_declared (plain p) = phrase_declared p
phrase_declared (starred p) = phrase_declared p
phrase_declared (plussed p) = phrase_declared p
phrase_declared (optional p) = phrase_declared p
phrase_declared (last p) = phrase_declared p
phrase_declared (then p q) = rw (all_append, phrase_declared p, phrase_declared q)
phrase_declared (only p) = phrase_declared p
phrase_declared (or p q) = rw (all_append, phrase_declared p, phrase_declared q)

-- a text of the stated form declares a proper tracematch
pub form_proper : (s : Bytes) (d : Declarations) (r : Regex) → Form s d r → Proper (tracematch_of d r)
form_proper s d r f =
    let h = f.shape in
    record {
      variables = h.few_variables;
      some = rw length-map h.some_symbols;
      few = rw length-map h.few_symbols;
      symbols = all_map _ _ d.symbols ∙ h.symbols;
      declared = rw length-map (rw length-map at (phrase_declared h.phrase));
      occurrences = h.occurrences;
      nonempty = f.nonempty;
      binding = f.binding;
    }

-- what a number says of the flag and the mask
told : (a b : Bool) → (answer a b ≡ 0 → (a ≡ false) × (b ≡ true)) × (answer a b ≡ 7 → a ≡ true) × (answer a b ≡ 8 → (a ≡ false) × (b ≡ false))
told true b = (λ e. absurd (omega arith), λ e. refl, λ e. absurd (omega arith))
told false true = (λ e. (refl, refl), λ e. absurd (omega arith), λ e. absurd (omega arith))
told false false = (λ e. absurd (omega arith), λ e. absurd (omega arith), λ e. (refl, refl))

-- lines are the same where their names and what they say are
same_lines : (l m : List SymbolLine) → map (λ x. x.name) l ≡ map (λ x. x.name) m → map symbol_of l ≡ map symbol_of m → l ≡ m
same_lines [] [] h k = refl
same_lines [] (y ∷ m) h k = absurd (nil≢cons h)
same_lines (x ∷ l) [] h k = absurd (nil≢cons (sym h))
same_lines (x ∷ l) (y ∷ m) h k =
    let n : x.name ≡ y.name = cc in
    let o : symbol_of x ≡ symbol_of y = cc in
    ap₂ ◌∷◌ (λ i. record { name = n i; kind = (o i).kind; parameters = (o i).parameters }) (same_lines l m (cc) (cc))

-- the words of a text that declares d and writes r: the flag of the empty word, and the mask of bound variables
module _ (s : Bytes) (d : Declarations) (r : Regex) (f : Found s d r) where
  flag : In r [] ↔ (nullable (pattern_of s).tree ≡ true)
  flag = rw f.tree (Words.empty_word_law r)

  abbrev vars : ℕ → ℕ
  vars a = variables_of (map symbol_of d.symbols) a

  mask : binds_all s ≡ all (λ v. bit v (bound_by vars r)) (numbers 0 (length d.variables))
  mask =
      let count = sym (length-map (declared_table d).variables (bytes_at s)) ∙ ap length (header_names s d f.header).0 in
      rw (f.tree, f.table, count)

  bound : (binds_all s ≡ true) ↔ ((v : ℕ) → v < length d.variables → (w : List ℕ) → In r w → any (binds d v) w ≡ true)
  bound = rw mask (simp all_below (simp (simp bit_bound_in at (Words.binding vars r)) Iff.rfl))

  free : binds_all s ≡ false → (v : ℕ) × (w : List ℕ) × (v < length d.variables) × In r w × (any (binds d v) w ≡ false)
  free e =
      let count = length d.variables in
      let (v, m, b) = all_found (λ v. bit v (bound_by vars r)) (numbers 0 count) (sym mask ∙ e) in
      let (w, i, n) = Words.free vars v r b in
      (v, w, omega (arith, (mem_numbers v 0 count).0 m), i, simp bit_bound_in at n)

module _ (s : Bytes) where
  -- the number of a text in form is the answer of its words, and only such a text has 0, 7 or 8
  by_words : (d : Declarations) (r : Regex) → Found s d r → (reading_of s).number ≡ answer (nullable (pattern_of s).tree) (binds_all s)
  by_words d r g = (known s).words g.whole

  in_form : (n : ℕ) → (reading_of s).number ≡ n → (n ≡ 0) ⊎ (7 ≤ n)
      → (d : Declarations) × Shape s d (pattern_of s).tree × Found s d (pattern_of s).tree
      × (answer (nullable (pattern_of s).tree) (binds_all s) ≡ n)
  in_form n e h =
      let (d, f) = whole_shape s ((known s).whole (rw e h)) in
      let g = shape_found s d _ f in
      (d, f, g, sym (by_words d _ g) ∙ e)

  pub fields : (d : Declarations) (r : Regex) → Form s d r → reading_of s ≡ record { number = 0; place = 0; table = declared_table d; tree = r }
  fields d r f =
      let g = shape_found s d r f.shape in
      let n : nullable (pattern_of s).tree ≡ false = not-eq-not.0 (λ e. f.nonempty ((flag s d r g).1 e)) in
      let b : binds_all s ≡ true = (bound s d r g).1 f.binding in
      (known s).read (by_words d r g ∙ rw (n, b)) ∙ rw (g.tree, g.table)

  pub accepted : ((reading_of s).number ≡ 0) ↔ ((d : Declarations) × (r : Regex) × Form s d r)
  accepted = (
    λ e. let (d, f, g, a) = in_form 0 e (inl refl) in
        let (n, b) = (told _ _).0 a in
        (d, _, record { shape = f; nonempty = λ i. true≢false (sym ((flag s d _ g).0 i) ∙ n); binding = (bound s d _ g).0 b }),
    λ (d, r, f). ap (λ o. o.number) (fields d r f),
  )

  pub unique : (d e : Declarations) (r q : Regex) → Shape s d r → Shape s e q → (d ≡ e) × (r ≡ q)
  unique d e r q f g =
      let x = shape_found s d r f in
      let y = shape_found s e q g in
      let n = header_names s d x.header in
      let o = header_names s e y.header in
      let t : declared_table d ≡ declared_table e = sym x.table ∙ y.table in
      let variables : d.variables ≡ e.variables = sym n.0 ∙ ap (λ z. map (bytes_at s) z.variables) t ∙ o.0 in
      let symbols : d.symbols ≡ e.symbols =
      same_lines _ _ (sym n.1 ∙ ap (λ z. map (bytes_at s) z.symbols) t ∙ o.1) (ap (λ z. z.table) t) in
      (λ i. record { variables = variables i; symbols = symbols i }, sym x.tree ∙ y.tree)

  -- the declaring places hold the names, variables first
  pub names_placed : (d : Declarations) (r : Regex) → Shape s d r → map (bytes_at s) (spans d) ≡ all_names d
  names_placed d r f =
      let n = header_names s d (shape_found s d r f).header in
      map-append (bytes_at s) (declared_table d).variables (declared_table d).symbols ∙ ap₂ ◌++◌ n.0 n.1

  pub seven : ((reading_of s).number ≡ 7) ↔ ((d : Declarations) × (r : Regex) × Shape s d r × In r [])
  seven = (
    λ e. let (d, f, g, a) = in_form 7 e (inr (omega arith)) in (d, _, f, (flag s d _ g).1 ((told _ (binds_all s)).1 a)),
    λ (d, r, f, i). let g = shape_found s d r f in by_words d r g ∙ rw ((flag s d r g).0 i),
  )

  pub eight : ((reading_of s).number ≡ 8)
      ↔ ((d : Declarations) × (r : Regex) × Shape s d r × (In r [] → ⊥)
      × ((v : ℕ) × (w : List ℕ) × (v < length d.variables) × In r w × (any (binds d v) w ≡ false)))
  eight = (
    λ e. let (d, f, g, a) = in_form 8 e (inr (omega arith)) in
        let (n, b) = (told _ _).2 a in
        (d, _, f, λ i. true≢false (sym ((flag s d _ g).0 i) ∙ n), free s d _ g b),
    λ (d, r, f, n, (v, w, l, i, e)). let g = shape_found s d r f in
        let flagged : nullable (pattern_of s).tree ≡ false = not-eq-not.0 (λ h. n ((flag s d r g).1 h)) in
        let masked : binds_all s ≡ false = not-eq-not.0 (λ h. true≢false (sym ((bound s d r g).0 h v l w i) ∙ e)) in
        by_words d r g ∙ rw (flagged, masked),
  )

-- the accepted texts of the table are of the stated form, with the declarations and the tree that stand there
pub samples_form : (s : Bytes) (x : Read) → Memᴰ (accepts s x) table → Form s x.declared x.tree
samples_form s x m =
    let o : outcome (accepts s x) ≡ wanted (accepts s x) = map_at outcome wanted sampled m in
    let (d, r, f) = (accepted s).0 (ap (λ a. a.reading.number) o) in
    let e = sym (fields s d r f) ∙ ap (λ a. a.reading) o in
    let n = header_names s d (shape_found s d r f.shape).header in
    let variables : d.variables ≡ x.declared.variables = sym n.0 ∙ ap (λ a. map (bytes_at s) a.table.variables) e ∙ ap (λ a. a.variables) o in
    let symbols : symbol_names d ≡ symbol_names x.declared = sym n.1 ∙ ap (λ a. map (bytes_at s) a.table.symbols) e ∙ ap (λ a. a.symbols) o in
    let lines : d.symbols ≡ x.declared.symbols = same_lines _ _ symbols (ap (λ a. a.table.table) e) in
    let same : d ≡ x.declared = λ i. record { variables = variables i; symbols = lines i } in
    rw (same, ap (λ a. a.tree) e) at f

-- refusals, of any list of numbers
pub place_inside : (s : Bytes) → (reading_of s).place ≤ length s
place_inside s = (known s).place

pub too_long_law : (s : Bytes) → ((reading_of s).number ≡ 1) ↔ (text_limit < length s)
unfolding reading_of
too_long_law s = ((known s).long, λ h. rw (lt-ltb text_limit (length s) h))

pub number_range : (s : Bytes) → (reading_of s).number ≤ 8
number_range s = (known s).range

pub refused_empty : (s : Bytes) → ((reading_of s).number ≡ 0 → ⊥) → ((reading_of s).table ≡ no_table) × ((reading_of s).tree ≡ lit 0)
refused_empty s h = (known s).blank h

-- "7, then 8, after everything, placed at the pattern's first token": behind the lines, `match`, a space and the spaces that follow
pub words_place : (s : Bytes) (d : Declarations) (r : Regex) (f : Shape s d r) → ((reading_of s).number ≡ 7) ⊎ ((reading_of s).number ≡ 8)
    → (reading_of s).place ≡ length (header d) + (length match_word + 1) + run is_space f.written
words_place s d r f h =
    let n : 7 ≤ (reading_of s).number = ⊎_elim (λ e. omega arith) (λ e. omega arith) h in
    words_first s (shape_found s d r f).whole n ∙ shape_first s d r f

-- "A book is ASCII text"
pub ascii : (s : Bytes) (d : Declarations) (r : Regex) → Shape s d r → all (λ b. ltb b 128) s ≡ true
ascii = shape_ascii
