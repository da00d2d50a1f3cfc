-- `tally::Tally::added` meets its contract: each counter's saturating sum is the capped one.
use Rattle.tally.specs.Tallies.{capped, tallied}
use Rattle.tally.proofs.Tally.added.Goals as goal

pub returns : goal.returns
unfolding tallied capped
returns c = rw (c.saturating_add.ensures, c.saturating_add-2.ensures, c.saturating_add-3.ensures)
