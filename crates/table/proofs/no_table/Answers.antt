-- `table::no_table` meets its contract: the empty table, coded.
use Rattle.laws.specs.Parts.{pad}
use Rattle.table.specs.Tables.{table_of}
use Rattle.table.proofs.no_table.Goals as goal

pub returns : goal.returns
unfolding table_of pad
returns c = rw c.no_symbol.ensures
