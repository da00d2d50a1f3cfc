-- `state_in` meets its contract: what is held, or the state that no watch reaches, by the number of the layout.
use Rattle.state_block.proofs.Reading.{state_known, state_unknown}
use Rattle.state_block.proofs.state_in.Goals as goal

pub returns-then-words-eq-LAYOUT : goal.returns-then-words-eq-LAYOUT
returns-then-words-eq-LAYOUT c =
    state_known c.args.words.now c.held.result c.if-words-eq-LAYOUT.true c.held.ensures

pub returns-else-words-eq-LAYOUT : goal.returns-else-words-eq-LAYOUT
returns-else-words-eq-LAYOUT c =
    state_unknown c.args.words.now c.vacant.result c.if-words-eq-LAYOUT.false c.vacant.ensures
