-- The course of the reader over the lines before the pattern. Each function takes the place to read from and gives the place to
-- go on from or the fault: document 01, "What a call hands back", Reading.
use Rattle.std.specs.Prelude.{cond, List, [], ◌∷◌, ◌++◌, map, ℕ, zero, suc, ◌+◌, ◌-◌, eqb, ltb, length}
use Rattle.meaning.specs.Events.{Parameter, ignored, names, fixed, Symbol}
use Rattle.form.specs.Limits.{variable_limit, symbol_limit, parameter_limit}
use Rattle.form.specs.Text.{Bytes, sym_word, match_word, vars_word, ignored_word, fixed_sign}
use Rattle.form.specs.Text.{Declarations, symbol_of, vars_line, Span, variable_spans, symbol_spans}
use Rattle.form.specs.Form.{same_word}
use Rattle.form.specs.Scan.{Step, go, fail, at, part, word_end, next_word, name_fault, kind_of, is_number, fixed_number}

-- the bytes of a span
abbrev pub bytes_at : Bytes → Span → Bytes
bytes_at s x = part s x.start (x.start + x.size)

abbrev pub span_of : (p e : ℕ) → Span
span_of p e = record { start = p; size = e - p }

-- the number of the first of the names that is the word w, or their count where none is
abbrev pub index_of : Bytes → List Span → Bytes → ℕ
index_of s [] w = 0
index_of s (x ∷ xs) w = let r = suc (index_of s xs w) in cond (same_word (bytes_at s x) w) 0 r

-- what has been declared so far: the places of the names, and the symbols' kinds and parameters
pub record Table : Type 0 where
  pub variables : List Span
  pub symbols : List Span
  pub table : List Symbol

-- the fault of the word from p to e as a new name: 2, 3, or "name already declared"
abbrev pub declare_fault : Bytes → List Span → (p e : ℕ) → ℕ
declare_fault s xs p e =
    let n = name_fault s p e in
    let d : ℕ = cond (ltb (index_of s xs (part s p e)) (length xs)) 4 0 in
    cond (eqb n 0) d n

pub record Variables : Type 0 where
  pub step : Step
  pub spans : List Span

-- variable names from p on, with room for so many more
abbrev pub variables_from : Bytes → ℕ → List Span → ℕ → Variables
variables_from s zero xs p =
    let n = next_word s p in
    let q = n.place in
    cond (eqb n.fault 0) (record { step = cond (eqb q p) (go (p + 1)) (fail 3 q); spans = xs }) (record { step = n; spans = xs })
variables_from s (suc room) xs p =
    let n = next_word s p in
    let q = n.place in
    let e = word_end s q in
    let f = declare_fault s xs q e in
    let more = variables_from s room (xs ++ (span_of q e ∷ [])) e in
    cond (eqb n.fault 0)
    (cond (eqb q p) (record { step = go (p + 1); spans = xs }) (cond (eqb f 0) more (record { step = fail f q; spans = xs })))
    (record { step = n; spans = xs })

pub record Arguments : Type 0 where
  pub step : Step
  pub parameters : List Parameter

-- the fault of the word from p to e as an argument, 0 where it is `_`, `=` and a number ("anything else after `=` is answer 2", document
-- 02, change 1) or a declared variable ("a symbol's name among ARGS … is 5"), and the parameter it stands for
abbrev pub argument_fault : Bytes → List Span → (p e : ℕ) → ℕ
argument_fault s xs p e =
    let n = name_fault s p e in
    let d : ℕ = cond (ltb (index_of s xs (part s p e)) (length xs)) 0 5 in
    let f : ℕ = cond (eqb n 0) d n in
    let g : ℕ = cond (is_number (part s (p + 1) e)) 0 2 in
    let h : ℕ = cond (eqb (at s p) fixed_sign) g f in
    cond (same_word (part s p e) ignored_word) 0 h

abbrev pub argument_of : Bytes → List Span → (p e : ℕ) → Parameter
argument_of s xs p e =
    let v = names (index_of s xs (part s p e)) in
    let n = fixed (fixed_number s (p + 1) e) in
    let h = cond (eqb (at s p) fixed_sign) n v in
    cond (same_word (part s p e) ignored_word) ignored h

-- argument words from p on, with room for so many more
abbrev pub arguments_from : Bytes → List Span → ℕ → List Parameter → ℕ → Arguments
arguments_from s xs zero ps p =
    let n = next_word s p in
    let q = n.place in
    cond (eqb n.fault 0) (record { step = cond (eqb q p) (go (p + 1)) (fail 3 q); parameters = ps }) (record { step = n; parameters = ps })
arguments_from s xs (suc room) ps p =
    let n = next_word s p in
    let q = n.place in
    let e = word_end s q in
    let f = argument_fault s xs q e in
    let more = arguments_from s xs room (ps ++ (argument_of s xs q e ∷ [])) e in
    cond (eqb n.fault 0)
    (cond (eqb q p) (record { step = go (p + 1); parameters = ps }) (cond (eqb f 0) more (record { step = fail f q; parameters = ps })))
    (record { step = n; parameters = ps })

-- a word that must stand: the LF in its place is "a missing one … placed at the LF"
unfoldable pub want_word : Bytes → ℕ → Step
want_word s p =
    let n = next_word s p in
    cond (eqb n.fault 0) (cond (eqb n.place p) (fail 2 p) n) n

pub record SymbolRead : Type 0 where
  pub step : Step
  pub name : Span
  pub symbol : Symbol

-- nothing read but the fault
abbrev pub no_symbol_read : Step → SymbolRead
no_symbol_read x = record { step = x; name = span_of 0 0; symbol = record { kind = 0; parameters = [] } }

-- KIND and ARGS, behind the name x, which ends at p
unfoldable pub kind_from : Bytes → List Span → Span → ℕ → SymbolRead
kind_from s xs x p =
    let k = want_word s p in
    let e = word_end s k.place in
    let n = kind_of s k.place e in
    let r = arguments_from s xs parameter_limit [] e in
    let whole : SymbolRead = record { step = r.step; name = x; symbol = record { kind = n; parameters = r.parameters } } in
    let some = cond (eqb r.step.fault 0) whole (no_symbol_read r.step) in
    let kinded = cond (eqb n 0) (no_symbol_read (fail 2 k.place)) some in
    cond (eqb k.fault 0) kinded (no_symbol_read k)

-- the line `sym NAME KIND ARGS` behind the word `sym`, which ends at p
unfoldable pub symbol_from : Bytes → Table → ℕ → SymbolRead
symbol_from s t p =
    let a = want_word s p in
    let e = word_end s a.place in
    let f = declare_fault s (t.variables ++ t.symbols) a.place e in
    let rest = kind_from s t.variables (span_of a.place e) e in
    let named = cond (eqb f 0) rest (no_symbol_read (fail f a.place)) in
    cond (eqb a.fault 0) named (no_symbol_read a)

pub record Lines : Type 0 where
  pub step : Step
  pub table : Table

abbrev pub no_table : Table
no_table = record { variables = []; symbols = []; table = [] }

abbrev pub with_symbol : Table → SymbolRead → Table
with_symbol t r =
    record { variables = t.variables; symbols = t.symbols ++ (r.name ∷ []); table = t.table ++ (r.symbol ∷ []) }

-- `sym` lines from p on, with room for so many more, up to the word `match`, behind which the step goes on
abbrev pub lines_from : Bytes → ℕ → Table → ℕ → Lines
lines_from s zero t p =
    let e = word_end s p in
    let w = part s p e in
    let f : ℕ = cond (same_word w sym_word) 3 2 in
    record { step = cond (same_word w match_word) (go e) (fail f p); table = t }
lines_from s (suc room) t p =
    let e = word_end s p in
    let w = part s p e in
    let r = symbol_from s t e in
    let more = lines_from s room (with_symbol t r) r.step.place in
    let symbol = cond (eqb r.step.fault 0) more (record { step = r.step; table = t }) in
    let last : Step = cond (eqb (length t.table) 0) (fail 2 p) (go e) in
    let other : Step = cond (same_word w match_word) last (fail 2 p) in
    cond (same_word w sym_word) symbol (record { step = other; table = t })

-- all lines before the pattern
unfoldable pub lines_of : Bytes → Lines
lines_of s =
    let e = word_end s 0 in
    let v = variables_from s variable_limit [] e in
    let rest = lines_from s symbol_limit (record { variables = v.spans; symbols = []; table = [] }) v.step.place in
    let lines = cond (eqb v.step.fault 0) rest (record { step = v.step; table = no_table }) in
    cond (same_word (part s 0 e) vars_word) lines (record { step = fail 2 0; table = no_table })

-- what declarations make of it, with the declaring places, where a text writes them
abbrev pub declared_table : Declarations → Table
declared_table d =
    record {
      variables = variable_spans (length vars_word + 1) d.variables;
      symbols = symbol_spans (length (vars_line d.variables)) d.variables d.symbols;
      table = map symbol_of d.symbols;
    }
