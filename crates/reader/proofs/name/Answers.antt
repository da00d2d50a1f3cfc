-- `reader::name` meets its contract: the part of the text at the name's declaring place, which is inside it.
use mathlib.Core.Path.{refl, ap}
use Prim.Native.Nat.{◌+◌, ◌≤◌}
use native.Mathlib.Omega.{arith}
use lib.ListN.{length}
use Rattle.table.specs.Tables.{span_of}
use Rattle.form.specs.Lines.{bytes_at}
use Rattle.book.specs.Books.{name_bytes}
use Rattle.reader.proofs.Names.{name_inside}
use Rattle.reader.proofs.name.Goals as goal

pub overflow_add-e : goal.overflow_add-e
overflow_add-e c =
    let ends : c.name_place-n.result.start + c.name_place-n.result.size ≤ length c.args.s.now = let a = c.args in rw c.name_place-n.ensures (name_inside a.s.now a.number) in
    omega (arith, ends)

pub slice_bounds-result-end : goal.slice_bounds-result-end
slice_bounds-result-end c =
    let ends : c.name_place-n.result.start + c.name_place-n.result.size ≤ length c.args.s.now = let a = c.args in rw c.name_place-n.ensures (name_inside a.s.now a.number) in
    ends

pub returns : goal.returns
unfolding name_bytes
returns c =
    let a = c.args in
    let e = c.name_place-n.ensures in
    record { bytes = ap (λ x. bytes_at a.s.now (span_of x)) e; place = (refl, omega (arith, ap (λ x. x.start) e)) }
