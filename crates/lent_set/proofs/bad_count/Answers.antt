-- `bad_count` meets its contract: no books, or more than eight.
use borrow.Author.Tests.{eq-eqb, ne_eqb}
use Rattle.parts.specs.SetBlock.{bad_count}
use Rattle.lent_set.proofs.bad_count.Goals as goal

pub returns-then-count-eq0 : goal.returns-then-count-eq0
unfolding bad_count
returns-then-count-eq0 c = rw (eq-eqb _ _ c.if-count-eq0.true)

pub returns-else-count-eq0 : goal.returns-else-count-eq0
unfolding bad_count
returns-else-count-eq0 c = rw (ne_eqb _ _ c.if-count-eq0.false)
