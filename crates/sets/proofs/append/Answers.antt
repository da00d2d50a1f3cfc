-- `sets::append` meets its contract. The loop's invariant: the first i have been written.
use Rattle.std.proofs.Common.{◌+◌, ◌<◌, arith}
use Rattle.sets.proofs.Turns.{appended_more}
use Rattle.sets.proofs.append.Goals as goal

pub loop-i-preserved : goal.loop-i-preserved
loop-i-preserved c =
    let a = c.args in
    let l : a.at + c.loop-i.i < 128 = omega (arith, c.loop-i-test.true, c.requires) in
    appended_more a.words.now a.at a.from.now c.loop-i.i c.loop-i.words c.put.new.words _ c.loop-i.invariant l c.get.ensures c.put.ensures
