-- `table::no_symbol` meets its contract: the empty symbol, coded.
use mathlib.Core.Path.{refl}
use Rattle.laws.specs.Parts.{pad}
use Rattle.table.specs.Tables.{symbol_of}
use Rattle.table.proofs.no_symbol.Goals as goal

pub returns : goal.returns
unfolding symbol_of pad
returns c = refl
