-- `lines::new_name` meets its contract: the tests of `declare_fault`, one after the other.
use mathlib.Core.Path.{◌≡◌, sym, ap, ◌∙◌}
use mathlib.Core.Bool.{true}
use mathlib.Core.List.{map}
use borrow.Author.Tests.{eq-eqb}
use lib.Dec.{ltb}
use lib.ListN.{length}
use Rattle.std.specs.Option.{is_some}
use Rattle.form.specs.Scan.{fail, part, name_fault}
use Rattle.form.specs.Lines.{index_of}
use Rattle.table.specs.Tables.{span_of}
use Rattle.text.specs.Refusals.{refusal_of}
use Rattle.text.proofs.Steps.{brought_ok}
use Rattle.lookup.proofs.Names.{found_is}
use Rattle.lines.proofs.new_name.Goals as goal

pub returns-then-is_some : goal.returns-then-is_some
unfolding refusal_of
returns-then-is_some c =
    let a = c.args in
    let xs = map span_of a.names.now in
    let w = part a.s.now a.p a.e in
    let n = brought_ok (fail (name_fault a.s.now a.p a.e) a.p) _ c.in_ok-name_told.ensures in
    let k : ltb (index_of a.s.now xs w) (length xs) ≡ true = sym (found_is a.s.now xs w) ∙ ap is_some (sym c.find.ensures) ∙ sym c.is_some.ensures ∙ c.if-is_some.true in
    rw (eq-eqb _ 0 n.0, k)
