-- How the code holds symbols and names, padded to the length of its arrays, and how they are read back.
use Rattle.std.specs.Prelude.{◌≡◌, Bool, true, cond, ◌++◌, map, ℕ, ◌+◌, ◌≤◌, eqb, leb, length, take, drop}
use Rattle.laws.specs.Lists.{all}
use Rattle.laws.specs.Parts.{pad}
use Rattle.meaning.specs.Events as Events
use Rattle.meaning.specs.Meaning.{no_symbol}
use Rattle.meaning.specs.Book.{sound_parameter}
use Rattle.form.specs.Limits.{variable_limit, symbol_limit, parameter_limit}
use Rattle.form.specs.Text.{Bytes, Span}
use Rattle.form.specs.Lines as Lines
use Rattle.table.specs.declared.Parameter.{Parameter}
use Rattle.table.specs.declared.Symbol.{Symbol}
use Rattle.table.specs.declared.Name.{Name}
use Rattle.table.specs.declared.Table.{Table}

-- how many names a text declares at most
abbrev pub names_limit : ℕ
names_limit = variable_limit + symbol_limit

-- how many bits a mask has, one to a variable or a position
abbrev pub mask_bits : ℕ
mask_bits = 32

-- plain to code; the canonical padding is the ignored parameter, the empty symbol, the empty name
abbrev pub parameter_of : Events.Parameter → Parameter
parameter_of Events.Parameter.ignored = record { tag = 0; number = 0 }
parameter_of (Events.Parameter.names v) = record { tag = 1; number = v }
parameter_of (Events.Parameter.fixed n) = record { tag = 2; number = n }

unfoldable pub symbol_of : Events.Symbol → Symbol
symbol_of y =
    record {
      kind = y.kind;
      count = length y.parameters;
      parameters = pad parameter_limit (parameter_of Events.Parameter.ignored) (map parameter_of y.parameters);
    }

abbrev pub name_of : Span → Name
name_of x = record { start = x.start; size = x.size }

abbrev pub no_name : Name
no_name = record { start = 0; size = 0 }

unfoldable pub table_of : Lines.Table → Table
table_of t =
    record {
      variables = length t.variables;
      count = length t.table;
      names = pad names_limit no_name (map name_of (t.variables ++ t.symbols));
      symbols = pad symbol_limit (symbol_of no_symbol) (map symbol_of t.table);
    }

-- code to plain: what is counted, and nothing beyond
abbrev pub view_parameter : Parameter → Events.Parameter
view_parameter p =
    cond (eqb p.tag 1) (Events.Parameter.names p.number)
    (cond (eqb p.tag 2) (Events.Parameter.fixed p.number) Events.Parameter.ignored)

unfoldable pub view_symbol : Symbol → Events.Symbol
view_symbol y = record { kind = y.kind; parameters = map view_parameter (take y.count y.parameters) }

abbrev pub span_of : Name → Span
span_of n = record { start = n.start; size = n.size }

unfoldable pub view_table : Table → Lines.Table
view_table t =
    record {
      variables = map span_of (take t.variables t.names);
      symbols = map span_of (take t.count (drop t.variables t.names));
      table = map view_symbol (take t.count t.symbols);
    }

-- a span inside a text of n bytes
abbrev pub inside : ℕ → Span → Bool
inside n x = leb (x.start + x.size) n

-- a table that the reader has built over the text s: canonical, within the limits, its names inside the text, its
-- parameters ignored, declared variables or fixed numbers
pub record Ready (s : Bytes) (t : Table) : Type 0 where
  pub coded : t ≡ table_of (view_table t)
  pub few_variables : t.variables ≤ variable_limit
  pub few_symbols : t.count ≤ symbol_limit
  pub in_text : all (inside (length s)) ((view_table t).variables ++ (view_table t).symbols) ≡ true
  pub declared : all (λ y. all (sound_parameter t.variables) y.parameters) (view_table t).table ≡ true
  pub few_parameters : all (λ y. leb (length y.parameters) parameter_limit) (view_table t).table ≡ true
