-- The reading of any bytes: the answer's number and place, what the text declares and its pattern. Document 01, "What a call
-- hands back": "1 first; then the earliest place; at one place the smaller number; 7, then 8, after everything, placed at the
-- pattern's first token."
use Rattle.std.specs.Prelude.{Bool, cond, List, ℕ, ◌+◌, eqb, ltb, length, get_or}
use Rattle.laws.specs.Bits.{bit}
use Rattle.laws.specs.Lists.{all, numbers}
use Rattle.pattern.specs.Regex.{Regex, nullable, bound_by}
use Rattle.meaning.specs.Events.{Symbol}
use Rattle.meaning.specs.Meaning.{Tracematch, no_symbol}
use Rattle.meaning.specs.Book.{bound_in}
use Rattle.form.specs.Limits.{text_limit}
use Rattle.form.specs.Text.{Bytes, space, lf}
use Rattle.form.specs.Scan.{Step, go, fail, at, spaces_end}
use Rattle.form.specs.Lines.{Table, no_table, lines_of}
use Rattle.form.specs.Parse.{Parsed, failed, unfit, pattern_from}

-- behind the pattern: the LF, and nothing after it
unfoldable pub last_line : Bytes → Parsed → Parsed
last_line s a =
    let q = spaces_end s a.step.place in
    let over = cond (eqb (q + 1) (length s)) (record { step = go (q + 1); tree = a.tree }) (failed (fail 2 (q + 1))) in
    let end = cond (eqb (at s q) lf) over (failed (unfit s q)) in
    cond (eqb a.step.fault 0) end a

-- "each word must contain, for each variable, a symbol that binds it": the variables that a symbol binds, by its number
abbrev pub variables_of : List Symbol → ℕ → ℕ
variables_of table a = bound_in (get_or table a no_symbol).parameters

-- every one of n variables has its bit
abbrev pub all_bits : ℕ → ℕ → Bool
all_bits n m = all (λ v. bit v m) (numbers 0 n)

-- the pattern behind the word `match`, which ends at p, with answers 7 and 8
unfoldable pub match_from : Bytes → Table → ℕ → Parsed
match_from s t p =
    let first = spaces_end s (p + 1) in
    let a = last_line s (pattern_from s t.symbols (p + 1)) in
    let unbound = cond (all_bits (length t.variables) (bound_by (variables_of t.table) a.tree)) a (failed (fail 8 first)) in
    let words = cond (nullable a.tree) (failed (fail 7 first)) unbound in
    let whole = cond (eqb a.step.fault 0) words a in
    cond (eqb (at s p) space) whole (failed (fail 2 p))

pub record Outcome : Type 0 where
  -- 0 for an accepted text; its place is then 0
  pub number : ℕ
  pub place : ℕ
  -- what was declared and the pattern: nothing where the text is refused
  pub table : Table
  pub tree : Regex

abbrev pub refused : Step → Outcome
refused x = record { number = x.fault; place = x.place; table = no_table; tree = Regex.lit 0 }

unfoldable pub reading_of : Bytes → Outcome
reading_of s =
    let l = lines_of s in
    let m = match_from s l.table l.step.place in
    let accepted : Outcome = record { number = 0; place = 0; table = l.table; tree = m.tree } in
    let pattern = cond (eqb m.step.fault 0) accepted (refused m.step) in
    let lines = cond (eqb l.step.fault 0) pattern (refused l.step) in
    cond (ltb text_limit (length s)) (refused (fail 1 text_limit)) lines

-- the tracematch of an accepted text
abbrev pub tracematch : Outcome → Tracematch
tracematch o = record { variables = length o.table.variables; symbols = o.table.table; pattern = o.tree }
