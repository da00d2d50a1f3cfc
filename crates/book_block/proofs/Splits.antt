-- What it says of a name, of a symbol and of a book that their numbers fit into words (Fits), number by number. For the functions that put a
-- book into words.
use mathlib.Core.Path.{◌≡◌}
use mathlib.Core.Bool.{true, and-eq-true_iff}
use Prim.Native.Nat.{◌<◌}
use borrow.Author.Tests.{ltb-true}
use Rattle.laws.specs.Lists.{all}
use Rattle.table.specs.declared.Symbol.{Symbol}
use Rattle.table.specs.declared.Name.{Name}
use Rattle.book.specs.declared.Book.{Book}
use Rattle.book_block.specs.Fits.{name_fits, symbol_fits, book_fits}

pub name_numbers : (x : Name) → name_fits x ≡ true → (x.start < 4294967296) × (x.size < 4294967296)
unfolding name_fits
name_numbers x h = let (a, b) = simp and-eq-true_iff at h in (ltb-true _ _ a, ltb-true _ _ b)

pub symbol_number : (y : Symbol) → symbol_fits y ≡ true → y.count < 4294967296
unfolding symbol_fits
symbol_number y h = ltb-true _ _ h

pub record Numbers (b : Book) : Type 0 where
  pub variables : b.variables < 4294967296
  pub symbols : b.symbols < 4294967296
  pub positions : b.positions < 4294967296
  pub names : all name_fits b.names ≡ true
  pub table : all symbol_fits b.table ≡ true

pub book_numbers : (b : Book) → book_fits b ≡ true → Numbers b
unfolding book_fits
book_numbers b h =
    let ((((a, c), d), e), f) = simp and-eq-true_iff at h in
    record { variables = ltb-true _ _ a; symbols = ltb-true _ _ c; positions = ltb-true _ _ d; names = e; table = f }
