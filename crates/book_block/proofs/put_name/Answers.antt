-- `put_name` meets its contract: two words written one after the other are a front.
use native.Mathlib.Omega.{arith}
use lib.Seq.{sets-eq}
use Rattle.laws.specs.Parts.{front}
use Rattle.blocks.specs.BookBlock.{name_words}
use Rattle.book_block.proofs.Splits.{name_numbers}
use Rattle.book_block.proofs.put_name.Goals as goal

pub overflow_cast-words : goal.overflow_cast-words
overflow_cast-words c = omega (arith, name_numbers c.args.x c.requires.1)

pub overflow_cast-words-2 : goal.overflow_cast-words-2
overflow_cast-words-2 c = omega (arith, name_numbers c.args.x c.requires.1)

pub returns : goal.returns
unfolding front
returns c = sets-eq (name_words c.args.x) c.args.words.now 0 c.requires.0
