-- `matching::last_line` meets its contract, branch by branch.
use native.Mathlib.Omega.{arith}
use borrow.Author.Tests.{eq-eqb, ne_eqb}
use Rattle.form.specs.Reading.{last_line}
use Rattle.parsing.proofs.Scans.{spaces_end_le}
use Rattle.text.specs.Refusals.{refusal_of}
use Rattle.items.specs.Results.{parsed_of}
use Rattle.items.proofs.Leaves.{good, unfit_parsed, differs}
use Rattle.matching.proofs.last_line.Goals as goal

pub returns-then-ne : goal.returns-then-ne
unfolding last_line
returns-then-ne c vars used x e =
    let g = good vars used x e in
    let q = c.spaces_end-q in
    let other = differs c.args.s.now q.result 10 (omega arith) c.peek.ensures c.ne.ensures c.if-ne.true in
    rw (g.fault, ← g.place, ← q.ensures, other, c.unfit.ensures) (unfit_parsed vars used c.args.s.now q.result)

pub overflow_add-q : goal.overflow_add-q
overflow_add-q c = omega (arith, spaces_end_le c.args.s.now c.args.a.place c.requires)

pub overflow_add-result-2 : goal.overflow_add-result-2
overflow_add-result-2 c = omega (arith, spaces_end_le c.args.s.now c.args.a.place c.requires)

pub returns-then-q-s : goal.returns-then-q-s
unfolding last_line parsed_of refusal_of
returns-then-q-s c vars used x e =
    let g = good vars used x e in
    let q = c.spaces_end-q in
    let lf = differs c.args.s.now q.result 10 (omega arith) c.peek.ensures c.ne.ensures c.if-ne.false in
    rw (g.fault, ← g.place, ← q.ensures, lf, ne_eqb _ _ c.if-q-s.true)

pub overflow_add-result : goal.overflow_add-result
overflow_add-result c = omega (arith, spaces_end_le c.args.s.now c.args.a.place c.requires)

pub returns : goal.returns
unfolding last_line parsed_of
returns c vars used x e =
    let g = good vars used x e in
    let q = c.spaces_end-q in
    let lf = differs c.args.s.now q.result 10 (omega arith) c.peek.ensures c.ne.ensures c.if-ne.false in
    rw (g.fault, ← g.place, ← q.ensures, lf, eq-eqb _ _ c.if-q-s.false, g.piece)
