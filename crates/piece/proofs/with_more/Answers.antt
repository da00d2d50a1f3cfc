-- `piece::with_more` meets its contract: one more set is joined, and those behind it stand as they were.
use mathlib.Core.Path.{ap₂, ◌∙◌}
use native.Mathlib.Omega.{arith}
use lib.Seq.{get_or-set_other}
use Rattle.laws.specs.Bits.{join}
use Rattle.piece.proofs.Fills.{filled_next, filled_all}
use Rattle.piece.proofs.with_more.Goals as goal

pub loop-i-preserved : goal.loop-i-preserved
unfolding join
loop-i-preserved g c =
    let l = c.loop-i in
    let t = c.loop-i-test.true in (
      λ f h. filled_next _ 31 l.i l.sets _ t (ap₂ join (l.invariant.1 l.i (omega arith)) (h l.i c.more.result t c.more.ensures)) (l.invariant.0 f h),
      λ j m. get_or-set_other l.sets l.i j _ 0 (omega arith) ∙ l.invariant.1 j (omega arith),
    )

pub returns : goal.returns
returns g c f h = filled_all _ 31 c.loop-i.i c.loop-i.sets (omega arith) (c.loop-i.invariant.0 f h)
