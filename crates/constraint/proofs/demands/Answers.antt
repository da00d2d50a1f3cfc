-- `constraint::demands` meets its contract: the demands of the places passed, before those of the places ahead.
use mathlib.Core.Path.{◌≡◌}
use native.Mathlib.Omega.{arith}
use borrow.Author.Rules.{rules}
use lib.ListN.{length}
use Rattle.constraint.proofs.Steps.{gathered_none, gathered_skip, gathered_more, gathered_all}
use Rattle.constraint.proofs.demands.Goals as goal
use Rattle.constraint.proofs.demands.Goals.{then-p-eq1, else-p-eq1}

pub loop-i-init : goal.loop-i-init
loop-i-init c =
    let p = c.requires in
    let a = c.args in
    gathered_none a.y a.e p.0 p.1 (search rules)

pub loop-i-preserved : goal.loop-i-preserved
loop-i-preserved c =
    let y = c.args.y in
    let e = c.args.e in
    let k : length y.parameters ≡ 4 = search rules in
    let j : length e.args ≡ 4 = search rules in
    let g = c.loop-i.invariant in
    elim c.if-p-eq1.branch [
      | then-p-eq1 w ↦ rw w.r-is (gathered_more y e c.requires.0 c.loop-i-test.true k j g w.if-p-eq1.true)
      | else-p-eq1 w ↦ rw w.r-is (gathered_skip y e c.requires.0 c.loop-i-test.true k j g w.if-p-eq1.false)
    ]

pub returns : goal.returns
returns c = gathered_all c.args.y c.args.e c.requires.0 c.requires.2 (omega arith) c.loop-i-test.false c.loop-i.invariant
