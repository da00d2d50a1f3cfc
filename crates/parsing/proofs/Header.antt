-- The lines before the pattern: the reader's course over them finds no fault exactly where they are written as the stated form
-- has it, and then gives what they declare.
use mathlib.Core.Path.{◌≡◌, refl, sym, ap, ap₂, subst, ◌∙◌}
use mathlib.Core.Bool.{Bool, true, false, cond, ◌&&◌, true≢false}
use mathlib.Core.List.{List, [], ◌∷◌, ◌++◌, map, append-nil, append_assoc}
use Prim.Native.Nat.{ℕ, ◌+◌, ◌≤◌}
use native.Mathlib.Omega.{arith}
use borrow.Author.Tests.{eq-eqb}
use lib.Dec.{eqb}
use lib.ListN.{length, drop, length-append}
use lib.Seq.{drop-append_seam}
use Rattle.laws.specs.Lists.{all, gather}
use Rattle.laws.proofs.Lists.{and_true_split, all_append}
use Rattle.meaning.specs.Book.{sound_symbol}
use Rattle.form.specs.Limits.{variable_limit, symbol_limit}
use Rattle.form.specs.Text.{Bytes, space, lf, is_name, vars_word, sym_word, match_word, decimal, parameter_word, spaced, vars_line, sym_line}
use Rattle.form.specs.Text.{SymbolLine, Declarations, header, symbol_of, variable_spans, symbol_spans}
use Rattle.form.specs.Form.{same_word, distinct, all_names, symbol_names}
use Rattle.form.specs.Scan.{go, fail, run, part, is_word_byte, word_end}
use Rattle.form.specs.Lines.{Table, no_table, Variables, Lines, variables_from, lines_from, lines_of, bytes_at, declared_table}
use Rattle.parsing.proofs.Scans.{same_word_law}
use Rattle.parsing.proofs.Words.{Word, word_end_law, word_part, word_here, word_inside, behind, part_first}
use Rattle.parsing.proofs.Names.{distinct_left}
use Rattle.parsing.proofs.VarsLine.{Outcome, fine, faulty, outcome_on, VariablesRead, variables_read_law, variables_course, spaced_stops, spaced_first}
use Rattle.parsing.proofs.Declared.{LinesRead, line_text, lines_read_law, lines_course}

-- the text s begins with the lines that write d, and with the word `match`
pub record Header (s : Bytes) (d : Declarations) : Type 0 where
  pub rest : Bytes
  pub text : s ≡ header d ++ (match_word ++ rest)
  -- the word ends there
  pub stops : run is_word_byte rest ≡ 0
  pub named : all is_name (all_names d) ≡ true
  pub distinct : distinct (all_names d) ≡ true
  pub few_variables : length d.variables ≤ variable_limit
  pub some_symbols : 1 ≤ length d.symbols
  pub few_symbols : length d.symbols ≤ symbol_limit
  pub symbols : all (λ l. sound_symbol (length d.variables) (symbol_of l)) d.symbols ≡ true

-- the places of names that are written one behind the other hold them
variable_bytes : (s : Bytes) (p : ℕ) (ws : List Bytes) (rest : Bytes) → drop p s ≡ spaced ws ++ rest → map (bytes_at s) (variable_spans (p + 1) ws) ≡ ws
variable_bytes s p [] rest e = refl
variable_bytes s p (w ∷ ws) rest e =
    let h : drop (p + 1) s ≡ w ++ (spaced ws ++ rest) = behind s p (space ∷ []) (w ++ (spaced ws ++ rest)) (e ∙ spaced_first w ws rest) in
    ap₂ ◌∷◌ (part_first s (p + 1) w (spaced ws ++ rest) h) (variable_bytes s (p + 1 + length w) ws rest (behind s (p + 1) w (spaced ws ++ rest) h))

symbols_placed : (s : Bytes) (p : ℕ) (vs : List Bytes) (ls : List SymbolLine) (rest : Bytes) → drop p s ≡ gather (sym_line vs) ls ++ rest
    → map (bytes_at s) (symbol_spans p vs ls) ≡ map (λ l. l.name) ls
symbols_placed s p vs [] rest e = refl
symbols_placed s p vs (l ∷ ls) rest e =
    let tail = gather (sym_line vs) ls ++ rest in
    let h : drop p s ≡ sym_line vs l ++ tail = e ∙ append_assoc (sym_line vs l) (gather (sym_line vs) ls) rest in
    let ws = decimal l.kind ∷ map (parameter_word vs) l.parameters in
    let k : sym_line vs l ++ tail ≡ sym_word ++ (space ∷ (l.name ++ (spaced ws ++ (lf ∷ tail)))) =
    line_text vs l tail ∙ ap (λ r. sym_word ++ r) (spaced_first l.name ws (lf ∷ tail)) in
    ap₂ ◌∷◌ (part_first s (p + 4) l.name _ (behind s p (sym_word ++ (space ∷ [])) (l.name ++ (spaced ws ++ (lf ∷ tail))) (h ∙ k)))
    (symbols_placed s (p + length (sym_line vs l)) vs ls rest (behind s p (sym_line vs l) tail h))

-- the first line
vars_text : (vs : List Bytes) (rest : Bytes) → vars_line vs ++ rest ≡ vars_word ++ (spaced vs ++ (lf ∷ rest))
vars_text vs rest = ap (λ r. vars_word ++ r) (append_assoc (spaced vs) (lf ∷ []) rest)

-- the course over the lines, with what becomes of the first line, and what is done with the others, left open
lines_by : Bool → Variables → (Table → ℕ → Lines) → Lines
lines_by t v others =
    let lines = cond (eqb v.step.fault 0) (others (record { variables = v.spans; symbols = []; table = [] }) v.step.place)
    (record { step = v.step; table = no_table }) in
    cond t lines (record { step = fail 2 0; table = no_table })

lines_by_law : (s : Bytes)
    → lines_of s ≡ lines_by (same_word (part s 0 (word_end s 0)) vars_word) (variables_from s variable_limit [] (word_end s 0)) (lines_from s symbol_limit)
unfolding lines_of lines_by
lines_by_law s = refl

-- what the first line declares
vars_table : List Bytes → Table
vars_table vs = record { variables = variable_spans 5 vs; symbols = []; table = [] }

lines_of_law : (s rest : Bytes) → Word s 0 vars_word rest → (v : VariablesRead s 4 [] 4)
    → lines_of s ≡ lines_from s symbol_limit (vars_table v.names) (length (vars_line v.names))
unfolding lines_by vars_table
lines_of_law s rest w v =
    let e : 4 + length (spaced v.names) + 1 ≡ length (vars_line v.names) = omega (arith, length-append (spaced v.names) (lf ∷ [])) in
    lines_by_law s
    ∙ ap₂ (λ t r. lines_by t r (lines_from s symbol_limit)) (ap (λ u. same_word u vars_word) (word_part w))
    (ap (variables_from s variable_limit []) (word_end_law w)
    ∙ variables_read_law s 4 [] [] 4 v.names v.rest refl v.text v.named v.distinct v.few)
    ∙ ap (lines_from s symbol_limit (vars_table v.names)) e

-- the text of a header, line by line
module _ (s : Bytes) (d : Declarations) (h : Header s d) where
  others : Bytes
  others = gather (sym_line d.variables) d.symbols ++ (match_word ++ h.rest)

  header_text : s ≡ vars_line d.variables ++ others
  unfolding header others
  header_text = h.text ∙ append_assoc (vars_line d.variables) (gather (sym_line d.variables) d.symbols) (match_word ++ h.rest)

  first_word : Word s 0 vars_word (spaced d.variables ++ (lf ∷ others))
  first_word = record { text = header_text ∙ vars_text d.variables others; word = refl; stops = spaced_stops d.variables others }

  all_named : (all is_name d.variables ≡ true) × (all is_name (symbol_names d) ≡ true)
  all_named = and_true_split (all is_name d.variables) (all is_name (symbol_names d)) (sym (all_append is_name d.variables (symbol_names d)) ∙ h.named)

  first_line : VariablesRead s 4 [] 4
  first_line = record {
    names = d.variables;
    rest = others;
    text = behind s 0 vars_word (spaced d.variables ++ (lf ∷ others)) first_word.text;
    named = all_named.0;
    distinct = distinct_left d.variables (symbol_names d) h.distinct;
    few = h.few_variables;
  }

  variables_placed : map (bytes_at s) (variable_spans 5 d.variables) ≡ d.variables
  unfolding first_line
  variables_placed = variable_bytes s 4 d.variables (lf ∷ others) first_line.text

  other_lines : drop (length (vars_line d.variables)) s ≡ gather (sym_line d.variables) d.symbols ++ (match_word ++ h.rest)
  unfolding others
  other_lines = ap (drop (length (vars_line d.variables))) header_text ∙ drop-append_seam (vars_line d.variables) others

pub header_read : (s : Bytes) (d : Declarations) → Header s d
    → lines_of s ≡ record { step = go (length (header d) + length match_word); table = declared_table d }
unfolding header first_line vars_table
header_read s d h =
    let vs = d.variables in
    let g = variables_placed s d h in
    lines_of_law s _ (first_word s d h) (first_line s d h)
    ∙ lines_read_law s vs (all_named s d h).0 (distinct_left vs (symbol_names d) h.distinct) 16 (vars_table vs) vs (length (vars_line vs)) d.symbols
    h.rest g (ap (map (bytes_at s)) (append-nil (variable_spans 5 vs)) ∙ g) (other_lines s d h) h.stops (all_named s d h).1 h.distinct
    h.few_symbols (omega arith) h.symbols
    ∙ ap (λ q. record { step = go (q + 5); table = declared_table d }) (sym (length-append (vars_line vs) (gather (sym_line vs) d.symbols)))

-- the first line as it is found, and then the others
module _ (s rest : Bytes) (w : Word s 0 vars_word rest) (v : VariablesRead s 4 [] 4) where
  first_found : s ≡ vars_line v.names ++ v.rest
  first_found = w.text ∙ ap (λ r. vars_word ++ r) (sym (behind s 0 vars_word rest w.text) ∙ v.text) ∙ sym (vars_text v.names v.rest)

  lines_found : LinesRead s v.names v.names 16 0 (length (vars_line v.names)) → (d : Declarations) × Header s d
  unfolding header
  lines_found q =
      let vs = v.names in
      let k : drop (length (vars_line vs)) s ≡ v.rest = ap (drop (length (vars_line vs))) first_found ∙ drop-append_seam (vars_line vs) v.rest in (
        record { variables = vs; symbols = q.lines },
        record {
          rest = q.rest;
          text = first_found ∙ ap (λ r. vars_line vs ++ r) (sym k ∙ q.text)
              ∙ sym (append_assoc (vars_line vs) (gather (sym_line vs) q.lines) (match_word ++ q.rest));
          stops = q.stops;
          named = all_append is_name vs (map (λ l. l.name) q.lines) ∙ ap₂ ◌&&◌ v.named q.named;
          distinct = q.distinct;
          few_variables = v.few;
          some_symbols = omega arith;
          few_symbols = q.few;
          symbols = q.sound;
        },
      )

  found_course : Outcome s (lines_of s).step ((d : Declarations) × Header s d)
  unfolding vars_table
  found_course =
      let vs = v.names in
      let g = variable_bytes s 4 vs (lf ∷ v.rest) v.text in
      outcome_on (ap (λ r. r.step) (lines_of_law s rest w v)) lines_found
      (lines_course s vs v.named v.distinct 16 (vars_table vs) vs (length (vars_line vs)) g
      (ap (map (bytes_at s)) (append-nil (variable_spans 5 vs)) ∙ g) v.distinct (omega arith)
      (omega (arith, ap length first_found, length-append (vars_line vs) v.rest)))

by_faulty : (v : Variables) (others : Table → ℕ → Lines) → eqb v.step.fault 0 ≡ false → (lines_by true v others).step ≡ v.step
unfolding lines_by
by_faulty v others h = rw h

header_course : (s : Bytes) → Outcome s (lines_of s).step ((d : Declarations) × Header s d)
unfolding lines_by
header_course s = by (word_here s 0)
  where
    vars : (rest : Bytes) → Word s 0 vars_word rest → Outcome s (variables_from s variable_limit [] 4).step (VariablesRead s 4 [] 4)
        → Outcome s (lines_of s).step ((d : Declarations) × Header s d)
    vars rest w (fine v) = found_course s rest w v
    vars rest w (faulty h l) =
        let e : (lines_of s).step ≡ (variables_from s variable_limit [] 4).step = ap (λ r. r.step) (lines_by_law s)
        ∙ ap₂ (λ u q. (lines_by (same_word u vars_word) (variables_from s variable_limit [] q) (lines_from s symbol_limit)).step) (word_part w) (word_end_law w)
        ∙ by_faulty (variables_from s variable_limit [] 4) (lines_from s symbol_limit) h in
        faulty (rw e h) (rw e l)

    by : (w : Bytes) × (rest : Bytes) × Word s 0 w rest → Outcome s (lines_of s).step ((d : Declarations) × Header s d)
    by (w, rest, h) = first (same_word w vars_word) refl
      where
        first : (b : Bool) → same_word w vars_word ≡ b → Outcome s (lines_of s).step ((d : Declarations) × Header s d)
        first true e =
            let i : Word s 0 vars_word rest = subst (λ v. Word s 0 v rest) ((same_word_law w vars_word).0 e) h in
            vars rest i (variables_course s 4 [] [] 4 refl refl (word_inside i (omega arith)))
        first false e =
            let i : lines_of s ≡ record { step = fail 2 0; table = no_table } = lines_by_law s
            ∙ ap (λ b. lines_by b (variables_from s variable_limit [] (word_end s 0)) (lines_from s symbol_limit))
            (ap (λ u. same_word u vars_word) (word_part h) ∙ e) in
            faulty (ap (λ r. eqb r.step.fault 0) i) (rw (ap (λ r. r.step.place) i) (omega arith))

pub header_found : (s : Bytes) → (lines_of s).step.fault ≡ 0 → (d : Declarations) × Header s d
header_found s h = by (header_course s)
  where
    by : Outcome s (lines_of s).step ((d : Declarations) × Header s d) → (d : Declarations) × Header s d
    by (fine x) = x
    by (faulty f l) = absurd (true≢false (sym (eq-eqb (lines_of s).step.fault 0 h) ∙ f))

-- the declaring places hold the names
pub header_names : (s : Bytes) (d : Declarations) → Header s d → (map (bytes_at s) (declared_table d).variables ≡ d.variables)
    × (map (bytes_at s) (declared_table d).symbols ≡ map (λ l. l.name) d.symbols)
header_names s d h =
    (variables_placed s d h, symbols_placed s (length (vars_line d.variables)) d.variables d.symbols (match_word ++ h.rest) (other_lines s d h))

-- a fault of the lines stands inside the text
pub lines_place : (s : Bytes) → (lines_of s).step.place ≤ length s
lines_place s = by (header_course s)
  where
    by : Outcome s (lines_of s).step ((d : Declarations) × Header s d) → (lines_of s).step.place ≤ length s
    by (fine (d, h)) =
        rw (header_read s d h) (omega (arith, ap length h.text, length-append (header d) (match_word ++ h.rest)))
    by (faulty f l) = l
