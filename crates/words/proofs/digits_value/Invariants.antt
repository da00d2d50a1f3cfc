-- `words::digits_value` meets its contract: the value of the digits passed, carried on.
use Rattle.words.proofs.Digits.{Read}
use Rattle.words.proofs.digits_value.Given as goal

abbrev pub invariant-loop-b : goal.invariant-loop-b
invariant-loop-b l = Read l.w l.n l.b-index
