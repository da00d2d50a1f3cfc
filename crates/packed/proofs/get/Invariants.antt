-- `packed::get` meets its contract. The loop's invariant: the variables so far have been read.
use Rattle.packed.proofs.Views.{ReadOut}
use Rattle.packed.proofs.get.Given as goal

abbrev pub invariant-loop-v : goal.invariant-loop-v
invariant-loop-v l = ReadOut l.words l.i l.d l.v
