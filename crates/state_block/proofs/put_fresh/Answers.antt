-- `put_fresh` meets its contract: zeros throughout, and the number of the layout.
use mathlib.Core.Path.{ap, ◌∙◌}
use lib.ListN.{length, set}
use Rattle.state_block.proofs.Writing.{fresh_words}
use Rattle.state_block.proofs.put_fresh.Goals as goal

pub returns : goal.returns
returns c =
    ap (λ l. set l 0 2001) (c.fill.ensures.after (λ y e. e)) ∙ fresh_words (length c.args.words.now) c.requires
