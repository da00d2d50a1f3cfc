-- `put_book` meets its contract: each part right behind the others, until all words of the block are the book's.
use mathlib.Core.Path.{◌≡◌, refl}
use native.Mathlib.Omega.{arith}
use borrow.Author.Rules.{rules}
use lib.ListN.{length}
use Rattle.laws.proofs.Arrays.{map_length}
use Rattle.book_block.proofs.Splits.{book_numbers}
use Rattle.book_block.proofs.Sizes.{table_words}
use Rattle.book_block.proofs.Wholes.{parts_put}
use Rattle.book_block.proofs.put_book.Goals as goal

pub put_names-requires : goal.put_names-requires
put_names-requires c =
    (search rules, (book_numbers c.args.b c.requires.1).names)

pub put_table-requires : goal.put_table-requires
put_table-requires c =
    (search rules, (book_numbers c.args.b c.requires.1).table)

pub copy-requires : goal.copy-requires
copy-requires c =
    let lengths : let b = c.args.b in
    (length b.names ≡ 20) × (length b.table ≡ 16) × (length b.occurrences ≡ 31) × (length b.follows ≡ 31) = (search (rules, map_length), search (rules, map_length), search (rules, map_length), search (rules, map_length)) in
    omega (arith, lengths.2)

pub copy-requires-2 : goal.copy-requires-2
copy-requires-2 c =
    let lengths : let b = c.args.b in
    (length b.names ≡ 20) × (length b.table ≡ 16) × (length b.occurrences ≡ 31) × (length b.follows ≡ 31) = (search (rules, map_length), search (rules, map_length), search (rules, map_length), search (rules, map_length)) in
    omega (arith, lengths.3)

pub returns : goal.returns
returns c =
    let lengths : let b = c.args.b in
    (length b.names ≡ 20) × (length b.table ≡ 16) × (length b.occurrences ≡ 31) × (length b.follows ≡ 31) = (search (rules, map_length), search (rules, map_length), search (rules, map_length), search (rules, map_length)) in
    let (few, many, o, f) = lengths in
    parts_put c.args.b few many (table_words c.args.b c.well_formed.1.0) o f
    c.args.words.now c.requires.0 c.put_head.ensures c.put_names.ensures refl
    c.put_table.ensures refl c.copy.ensures refl c.copy-2.ensures refl
