-- `places::insert` meets its contract: there is no room for x, or it is put where the later elements have been moved up.
use Rattle.std.proofs.Common.{◌+◌, ◌<◌, take, sym, ◌∙◌, arith}
use Rattle.laws.proofs.Turns.{insert_put, counted_few}
use Rattle.places.proofs.insert.Goals as goal

pub returns-clause-set : goal.returns-clause-set
returns-clause-set g c =
    let p = g.P.Places in
    let long = g.met.P.Places.is_long in
    let a = c.args in
    let w = a.words.now in
    let h = c.in-Err.ensures.place in
    let m = c.shift in
    let below : a.n < p.LIMIT = omega (arith, c.requires.0, c.if-n-LIMIT.false, c.LIMIT.ensures) in
    sym (counted_few p.LIMIT (a.n + 1) (take (a.n + 1) (p.list c.put.new.words)) (omega arith))
    ∙ insert_put p.order p.LIMIT a.n (p.list w) (p.view a.x) c.requires.0 (omega (arith, c.requires.0, long w))
    c.in-Err.at h.0 h.1 (p.list m.new.words) (p.list c.put.new.words)
    below (omega (arith, long m.new.words))
    (record { upto = h.0; before = m.ensures.0; behind = m.ensures.1 }) c.put.ensures
