-- `advance::advance` meets its contract: what is held so far, with the labels still ahead, is what the event makes.
use Rattle.advance.proofs.Books.{Advancing}
use Rattle.advance.proofs.advance.Given as goal

abbrev pub invariant-loop-i : goal.invariant-loop-i
invariant-loop-i l = Advancing l.book l.begins l.cs l.held l.at l.n l.i l.total l.next_at l.next
