-- `items::closed` meets its contract: one return for each case of `Parse.closed`.
use mathlib.Core.Path.{◌∙◌, sym}
use native.Mathlib.Omega.{arith}
use Rattle.form.specs.Parse as Parse
use Rattle.parsing.proofs.Scans.{spaces_end_le}
use Rattle.items.specs.Results.{parsed_of}
use Rattle.items.proofs.Leaves.{good, unfit_parsed, stands}
use Rattle.items.proofs.closed.Goals as goal

pub overflow_add-result : goal.overflow_add-result
overflow_add-result c = omega (arith, spaces_end_le c.args.s.now c.args.a.place c.requires)

pub returns-then-eq : goal.returns-then-eq
unfolding Parse.closed parsed_of
returns-then-eq c vars used x e =
    let g = good vars used x e in
    let here = stands c.args.s.now c.spaces_end-q.result 41 (omega arith) c.peek.ensures (sym c.if-eq.true ∙ c.eq.ensures) in
    rw (g.fault, ← g.place, ← c.spaces_end-q.ensures, here, g.piece)

pub returns-else-eq : goal.returns-else-eq
unfolding Parse.closed
returns-else-eq c vars used x e =
    let g = good vars used x e in
    let other = stands c.args.s.now c.spaces_end-q.result 41 (omega arith) c.peek.ensures (sym c.if-eq.false ∙ c.eq.ensures) in
    rw (g.fault, ← g.place, ← c.spaces_end-q.ensures, other, c.unfit.ensures) (unfit_parsed vars used c.args.s.now c.spaces_end-q.result)
