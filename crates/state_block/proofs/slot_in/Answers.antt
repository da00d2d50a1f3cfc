-- `slot_in` meets its contract: the words say a value, or a count and what stands behind it.
use Rattle.state_block.proofs.Reading.{slot_bound, slot_free}
use Rattle.state_block.proofs.slot_in.Goals as goal

pub returns-then-code-eq-BOUND : goal.returns-then-code-eq-BOUND
returns-then-code-eq-BOUND c =
    slot_bound c.args.words.now c.holding.result c.if-code-eq-BOUND.true c.holding.ensures

pub returns : goal.returns
returns c =
    slot_free c.args.words.now c.copy_from_slice.new.self c.if-code-eq-BOUND.false c.copy_from_slice.ensures.after
