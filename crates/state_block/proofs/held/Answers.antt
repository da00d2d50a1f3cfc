-- `held` meets its contract: the parts of a state are read from their places, no more than the capacity.
use Rattle.state_block.proofs.Reading.{held_read}
use Rattle.state_block.proofs.held.Goals as goal

pub returns : goal.returns
returns c =
    let n = c.min-n in
    held_read c.args.words.now n.result c.positions_in.result c.pool_in.result n.ensures
    c.positions_in.ensures c.pool_in.ensures
