-- A disjunct, a valuation and a book with four variables in place of fewer: the further ones are free and have no demands.
-- The code works with four slots whatever the book declares. No public contract and no theorem cites this page: a buyer may pass it over.
use Rattle.std.specs.Prelude.{[]}
use Rattle.laws.specs.Parts.{pad}
use Rattle.meaning.specs.Events.{Valuation}
use Rattle.meaning.specs.Book.{Book}
use Rattle.meaning.specs.Labels.{free, Disjunct, Held}
use Rattle.meaning.specs.Limits.{variable_limit}

-- the further variables free
unfoldable pub wide : Disjunct → Disjunct
wide D = pad variable_limit (free []) D

unfoldable pub wide_held : Held → Held
wide_held h = record { position = h.position; disjunct = wide h.disjunct }

-- the further values zero, as in the bytes of a row
unfoldable pub wide_valuation : Valuation → Valuation
wide_valuation σ = pad variable_limit 0 σ

-- the same book with four variables
unfoldable pub wide_book : Book → Book
wide_book b =
    record {
      variables = variable_limit;
      symbols = b.symbols;
      occurrences = b.occurrences;
      begins = b.begins;
      ends = b.ends;
      follows = b.follows;
      empty = b.empty;
    }
