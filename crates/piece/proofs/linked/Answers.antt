-- `piece::linked` meets its contract: the closure gives the beginnings where `ends` has the position.
use Prim.Native.Nat.{◌+◌}
use Rattle.laws.specs.Bits.{bit}
use Rattle.pattern.specs.Positions.{given}
use Rattle.std.proofs.Common.{rules}
use Rattle.piece.proofs.linked.Goals as goal

pub returns : goal.returns
returns c = c.with_more.ensures (λ i. given (bit (i + 1) c.args.ends) c.args.begins) (λ i r m p. search rules)
