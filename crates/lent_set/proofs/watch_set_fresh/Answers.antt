-- `watch_set_fresh` meets its contract: by the count, and by the words that there are.
use mathlib.Core.Path.{◌≡◌, sym, ◌∙◌}
use mathlib.Core.Bool.{false}
use native.Mathlib.Omega.{arith}
use Rattle.parts.specs.SetBlock.{bad_count}
use Rattle.lent_set.proofs.Answer.{few_books}
use Rattle.lent_set.proofs.Fresh.{fresh_bad, fresh_short, fresh_made}
use Rattle.lent_set.proofs.watch_set_fresh.Goals as goal

pub returns-then-bad_count : goal.returns-then-bad_count
returns-then-bad_count c = fresh_bad _ _ (sym c.bad_count.ensures ∙ c.if-bad_count.true)

pub overflow_mul-count : goal.overflow_mul-count
overflow_mul-count c =
    let right : bad_count c.args.count ≡ false = sym c.bad_count.ensures ∙ c.if-bad_count.false in
    omega (arith, few_books c.args.count right)

pub returns-then-states-count : goal.returns-then-states-count
returns-then-states-count c =
    let right : bad_count c.args.count ≡ false = sym c.bad_count.ensures ∙ c.if-bad_count.false in
    let a = c.args in fresh_short a.states.now a.count right (omega arith)

pub fresh_all-requires : goal.fresh_all-requires
fresh_all-requires c =
    let right : bad_count c.args.count ≡ false = sym c.bad_count.ensures ∙ c.if-bad_count.false in
    (few_books _ right, omega arith)

pub returns : goal.returns
returns c =
    let right : bad_count c.args.count ≡ false = sym c.bad_count.ensures ∙ c.if-bad_count.false in
    let a = c.args in
    fresh_made a.states.now a.count right (omega (arith, c.if-states-count.false)) c.fresh_all.ensures
