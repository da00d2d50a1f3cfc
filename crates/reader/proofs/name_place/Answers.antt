-- `reader::name_place` meets its contract: the book read holds the declaring places up to its count of names.
use mathlib.Core.Path.{◌≡◌, sym, ap, ◌∙◌}
use Prim.Native.Nat.{◌+◌}
use native.Mathlib.Omega.{arith}
use lib.ListN.{get_or}
use Rattle.table.specs.Tables.{name_of, no_name}
use Rattle.reader.proofs.Names.{name_count, few_names, name_held, name_beyond}
use Rattle.reader.proofs.name_place.Goals as goal

pub overflow_add-count : goal.overflow_add-count
overflow_add-count c =
    let counted : c.read-r.result.book.variables + c.read-r.result.book.symbols ≡ name_count c.args.s.now = ap (λ r. r.book.variables + r.book.symbols) c.read-r.ensures.0 in
    omega (arith, counted, few_names c.args.s.now)

pub offset_bounds-b-number : goal.offset_bounds-b-number
offset_bounds-b-number c =
    let counted : c.read-r.result.book.variables + c.read-r.result.book.symbols ≡ name_count c.args.s.now = ap (λ r. r.book.variables + r.book.symbols) c.read-r.ensures.0 in
    omega (arith, counted, few_names c.args.s.now)

pub bounds-b-number : goal.bounds-b-number
bounds-b-number c =
    let counted : c.read-r.result.book.variables + c.read-r.result.book.symbols ≡ name_count c.args.s.now = ap (λ r. r.book.variables + r.book.symbols) c.read-r.ensures.0 in
    omega (arith, counted, few_names c.args.s.now)

pub returns-then-number-count : goal.returns-then-number-count
returns-then-number-count c =
    let counted : c.read-r.result.book.variables + c.read-r.result.book.symbols ≡ name_count c.args.s.now = ap (λ r. r.book.variables + r.book.symbols) c.read-r.ensures.0 in
    let a = c.args in
    ap (λ r. get_or r.book.names a.number no_name) c.read-r.ensures.0 ∙ name_held a.s.now a.number (omega (arith, counted))

pub returns : goal.returns
returns c =
    let counted : c.read-r.result.book.variables + c.read-r.result.book.symbols ≡ name_count c.args.s.now = ap (λ r. r.book.variables + r.book.symbols) c.read-r.ensures.0 in
    let a = c.args in
    sym (ap name_of (name_beyond a.s.now a.number (omega (arith, counted))))
