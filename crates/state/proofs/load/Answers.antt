-- `state::load` meets its contract. The loop's invariant: the first i places stand in the lent words.
use mathlib.Core.Path.{◌≡◌, refl}
use native.Mathlib.Omega.{arith}
use lib.ListN.{length, take}
use lib.Seq.{length-take-le}
use borrow.Author.Rules.{rules}
use Rattle.laws.proofs.Arrays.{map_length}
use Rattle.state.proofs.Pools.{loaded_none, loaded_more, loaded_all}
use Rattle.state.proofs.load.Goals as goal

pub loop-i-init : goal.loop-i-init
loop-i-init c = loaded_none c.args.variables (take c.args.s.count c.args.s.pool) c.args.words.now

pub loop-i-preserved : goal.loop-i-preserved
loop-i-preserved c =
    let s = c.args.s in
    let l = take s.count s.pool in
    let q : length s.pool ≡ 128 = search (rules, map_length) in
    let k : length l ≡ s.count = length-take-le s.count s.pool (omega arith) in
    loaded_more c.args.variables l c.loop-i.words c.loop-i.i c.loop-i.invariant c.put.new.words
    c.tidied.result _ c.loop-i-test.true (omega arith) c.put.ensures c.tidied.ensures

pub returns : goal.returns
returns c =
    let s = c.args.s in
    let q : length s.pool ≡ 128 = search (rules, map_length) in
    loaded_all c.args.variables (take s.count s.pool) c.loop-i.words c.loop-i.i c.loop-i.invariant s refl (omega arith) c.loop-i.auto.i-end c.loop-i-test.false
