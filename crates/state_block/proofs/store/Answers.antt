-- `store` meets its contract: three parts written, one after the other, each a splice.
use mathlib.Core.Path.{sym}
use Prim.Native.Nat.{◌-◌}
use native.Mathlib.Omega.{arith}
use borrow.Rule.Slice.PartMut.{put_mid}
use lib.ListN.{length, take, drop, length-take, length-drop}
use lib.Seq.{length-take-le}
use Rattle.laws.specs.Lists.{gather}
use Rattle.laws.proofs.Fronts.{lent_front}
use Rattle.blocks.specs.StateBlock.{group_words}
use Rattle.state_block.proofs.Writing.{positions_sized, stored_thrice}
use Rattle.state_block.proofs.store.Goals as goal

pub copy-requires : goal.copy-requires
copy-requires c =
    let m = c.max-m.result in
    let positions = c.args.s.positions in
    let h = c.put_head.new.words in
    omega (arith, length-take m positions, length-take (length h - 3) (drop 3 h), length-drop 3 h)

pub returns : goal.returns
returns c =
    let a = c.args in
    let m = c.max-m.result in
    let h = c.put_head.new.words in
    let v = put_mid 3 (length h - 3) h c.copy.new.to in
    stored_thrice a.words.now h v _ a.old m a.s c.requires.1 c.max-m.ensures c.put_head.ensures
    (lent_front 3 (take m a.s.positions) h (omega arith) c.copy.ensures)
    (lent_front 131 (gather group_words (take m a.s.pool)) v (omega arith) c.put_pool.ensures)
