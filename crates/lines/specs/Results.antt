-- The results of the readers of lines as the code has them: what a step brought, or why the text is refused.
use Rattle.std.specs.Prelude.{cond, List, [], ℕ, eqb, Result, Ok, Err}
use Rattle.form.specs.Text.{Bytes, Span}
use Rattle.form.specs.Scan.{fail}
use Rattle.form.specs.Lines as Lines
use Rattle.text.specs.declared.Refusal.{Refusal}
use Rattle.text.specs.Refusals.{refusal_of}
use Rattle.text.specs.Steps.{brought}
use Rattle.table.specs.declared.Name.{Name}
use Rattle.table.specs.declared.Parameter.{Parameter}
use Rattle.table.specs.Tables.{table_of, symbol_of, name_of, parameter_of}
use Rattle.lines.specs.declared.LinesRead.{LinesRead}
use Rattle.lines.specs.declared.LinesRefused.{LinesRefused}
use Rattle.lines.specs.declared.ArgumentsRead.{ArgumentsRead}
use Rattle.lines.specs.declared.SymbolRead.{SymbolRead}

-- the lines: with what was read, and with why they are refused, the table so far
abbrev pub lines_read : Lines.Lines → Result LinesRead LinesRefused
lines_read l =
    cond (eqb l.step.fault 0) (Ok (record { place = l.step.place; table = table_of l.table }))
    (Err (record { refusal = refusal_of l.step.fault l.step.place; table = table_of l.table }))

-- the line of variables: no symbols yet
abbrev pub variables_read : Lines.Variables → Result LinesRead Refusal
variables_read v =
    brought v.step (record { place = v.step.place; table = table_of (record { variables = v.spans; symbols = []; table = [] }) })

-- the arguments of a symbol of that kind
abbrev pub arguments_read : ℕ → Lines.Arguments → Result ArgumentsRead Refusal
arguments_read k a =
    brought a.step (record { place = a.step.place; symbol = symbol_of (record { kind = k; parameters = a.parameters }) })

abbrev pub symbol_read : Lines.SymbolRead → Result SymbolRead Refusal
symbol_read r = brought r.step (record { place = r.step.place; name = name_of r.name; symbol = symbol_of r.symbol })

-- the word from p to e as a new name beside those names
abbrev pub name_brought : Bytes → List Span → (p e : ℕ) → Result Name Refusal
name_brought s xs p e = brought (fail (Lines.declare_fault s xs p e) p) (name_of (Lines.span_of p e))

-- the word from p to e as an argument, where those variables are declared
abbrev pub argument_read : Bytes → List Span → (p e : ℕ) → Result Parameter Refusal
argument_read s xs p e = brought (fail (Lines.argument_fault s xs p e) p) (parameter_of (Lines.argument_of s xs p e))
