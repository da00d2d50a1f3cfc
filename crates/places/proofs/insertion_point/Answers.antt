-- `places::insertion_point` meets its contract. The loop's invariant: x is before each of the first n from i on.
use Rattle.std.proofs.Common.{rules, arith}
use Rattle.places.proofs.Turn.{is_passed, is_found, is_behind}
use Rattle.places.proofs.insertion_point.Goals as goal

pub loop-i-preserved : goal.loop-i-preserved
loop-i-preserved g c =
    let p = g.P.Places in
    let a = c.args in
    let w = a.words.now in
    is_passed g.met.P.Places.is_order a.n (p.list w) (p.view a.x) c.loop-i.i (p.view c.get.result)
    (omega (arith, c.requires.0, g.met.P.Places.is_long w)) c.requires.1 c.loop-i.invariant c.loop-i-test.true c.get.ensures c.in-Before.ensures

pub returns-in-Same : goal.returns-in-Same
returns-in-Same g c =
    let p = g.P.Places in
    let a = c.args in
    let w = a.words.now in
    let found = is_found g.met.P.Places.is_order a.n (p.list w) (p.view a.x) c.loop-i.i (p.view c.get.result)
    (omega (arith, c.requires.0, g.met.P.Places.is_long w)) c.requires.1 c.loop-i.invariant c.loop-i-test.true c.get.ensures c.in-Same.ensures in
    search rules

pub returns-in-After-clause-place : goal.returns-in-After-clause-place
returns-in-After-clause-place g c =
    let p = g.P.Places in
    let a = c.args in
    let w = a.words.now in
    is_behind g.met.P.Places.is_order a.n (p.list w) (p.view a.x) c.loop-i.i (p.view c.get.result)
    (omega (arith, c.requires.0, g.met.P.Places.is_long w)) c.requires.1 c.loop-i.invariant c.loop-i-test.true c.get.ensures c.in-After.ensures
