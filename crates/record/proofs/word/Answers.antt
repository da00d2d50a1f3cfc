-- `record::word` meets its contract: the bytes' sum is the definition's; that no sum wraps is found.
use borrow.Author.Rules.{rules}
use Rattle.record.specs.Records.{word_at}
use Rattle.record.proofs.word.Goals as goal

pub returns : goal.returns
unfolding word_at
returns c = search rules
