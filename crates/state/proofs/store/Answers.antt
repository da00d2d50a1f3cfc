-- `state::store` meets its contract. The loop's invariant: the first i places are taken, the others free.
use native.Mathlib.Omega.{arith}
use mathlib.Core.Path.{refl}
use Rattle.state.proofs.Pools.{stored_none, stored_more, stored_all}
use Rattle.state.proofs.store.Goals as goal

pub loop-i-init : goal.loop-i-init
loop-i-init c =
    let a = c.args in
    stored_none a.number a.at.now a.words.now a.n c.requires c.told-at c.vacant.result c.copy_from_slice.new.self _ c.vacant.ensures
    c.copy_from_slice.ensures.after refl

pub loop-i-preserved : goal.loop-i-preserved
loop-i-preserved c =
    let a = c.args in
    let l = c.loop-i in
    stored_more a.number a.at.now a.words.now a.n c.requires c.told-at l.s l.i l.invariant c.get.result
    c.tidied.result c.loop-i-test.true c.get.ensures c.tidied.ensures

pub returns : goal.returns
returns c =
    let a = c.args in
    let l = c.loop-i in
    stored_all a.number a.at.now a.words.now a.n c.requires c.told-at l.s l.i l.invariant (omega arith)
