-- `piece::joined` meets its contract: the closure gives the set of b at the index.
use lib.ListN.{get_or}
use Rattle.std.proofs.Common.{rules}
use Rattle.piece.proofs.joined.Goals as goal

pub returns : goal.returns
returns c = c.with_more.ensures (λ i. get_or c.args.b i 0) (λ i r m p. search rules)
