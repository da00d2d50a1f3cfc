-- `put_parameter` meets its contract: two words written one after the other are a front.
use lib.Seq.{sets-eq}
use Rattle.laws.specs.Parts.{front}
use Rattle.blocks.specs.BookBlock.{parameter_words}
use Rattle.book_block.proofs.put_parameter.Goals as goal

pub returns : goal.returns
unfolding front
returns c = sets-eq (parameter_words c.args.p) c.args.words.now 0 c.requires
