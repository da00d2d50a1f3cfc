-- `parameter_in` meets its contract: the two words are the parameter's tag and number.
use mathlib.Core.Path.{refl}
use Rattle.blocks.specs.BookBlock.{parameter_in}
use Rattle.book_block.proofs.parameter_in.Goals as goal

pub returns : goal.returns
unfolding parameter_in
returns c = refl
