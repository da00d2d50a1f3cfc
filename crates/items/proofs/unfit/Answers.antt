-- `items::unfit` meets its contract: 2 past the end, 6 elsewhere.
use native.Mathlib.Omega.{arith}
use borrow.Author.Tests.{ne_eqb}
use Rattle.text.specs.Refusals.{refusal_of}
use Rattle.text.proofs.Runs.{at_some, at_none, byte_small}
use Rattle.items.proofs.unfit.Goals as goal

pub returns-in-None : goal.returns-in-None
unfolding refusal_of
returns-in-None c = rw (at_none _ _ c.peek.ensures c.in-None.is)

pub returns-in-Some : goal.returns-in-Some
unfolding refusal_of
returns-in-Some c =
    let small = byte_small _ c.type_inv.s _ c.peek.ensures c.in-Some.is in
    rw (at_some _ _ c.peek.ensures c.in-Some.is, ne_eqb c.in-Some.field-0 256 (omega (arith, small)))
