-- `places::shift` meets its contract. The loop's invariant: the elements from i on have been moved up.
use Rattle.std.proofs.Common.{◌≡◌, ◌+◌, ◌-◌, suc, set, get_or, sym, ap, ◌∙◌, arith}
use Rattle.laws.proofs.Turns.{moved_more}
use Rattle.places.proofs.shift.Goals as goal

pub loop-i-preserved : goal.loop-i-preserved
loop-i-preserved g c =
    let p = g.P.Places in
    let long = g.met.P.Places.is_long in
    let v = c.loop-i.words in
    let w = c.args.words.now in
    let j = c.loop-i.i - 1 in
    let x = p.view c.get.result in
    let next : suc j ≡ c.loop-i.i = omega (arith, c.loop-i-test.true) in
    let up : j + 1 ≡ c.loop-i.i = omega arith in
    let put : p.list c.put.new.words ≡ set (p.list v) c.loop-i.i (get_or (p.list v) j x) =
    c.put.ensures ∙ ap (λ k. set (p.list v) k x) up ∙ ap (set (p.list v) c.loop-i.i) (c.get.ensures x) in (
      omega (arith, c.loop-i-test.true),
      moved_more x c.loop-i.invariant.1 (omega (arith, c.requires.1, long w)) (long v ∙ sym (long w)) next put,
    )
