-- `name_in` meets its contract: the two words are the name's start and size.
use mathlib.Core.Path.{refl}
use Rattle.blocks.specs.BookBlock.{name_in}
use Rattle.book_block.proofs.name_in.Goals as goal

pub returns : goal.returns
unfolding name_in
returns c = refl
