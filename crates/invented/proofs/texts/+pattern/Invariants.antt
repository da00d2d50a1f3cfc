-- `invented::texts::pattern` ends: the parts of a node are earlier nodes.
use lib.ListN.{length}
use Rattle.invented.proofs.texts.+pattern.Given as goal

abbrev pub decreases-pattern : goal.decreases-pattern
decreases-pattern l = length l.nodes.now
