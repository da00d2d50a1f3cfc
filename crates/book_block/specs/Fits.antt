-- Books whose numbers fit into words, as those of a read book do. No public contract cites this page: a buyer may pass it over.
use Rattle.std.specs.Prelude.{Bool, ◌&&◌}
use Rattle.laws.specs.Lists.{all}
use Rattle.meaning.specs.Events.{word32}
use Rattle.table.specs.declared.Symbol.{Symbol}
use Rattle.table.specs.declared.Name.{Name}
use Rattle.book.specs.declared.Book.{Book}

unfoldable pub name_fits : Name → Bool
name_fits x = word32 x.start && word32 x.size

unfoldable pub symbol_fits : Symbol → Bool
symbol_fits y = word32 y.count

unfoldable pub book_fits : Book → Bool
book_fits b = word32 b.variables && word32 b.symbols && word32 b.positions && all name_fits b.names && all symbol_fits b.table
