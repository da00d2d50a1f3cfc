-- `judge_set` meets its contract: the count, then the books, then the space for their rows.
use mathlib.Core.Path.{◌≡◌, sym, ◌∙◌}
use mathlib.Core.Bool.{false}
use Prim.Native.Nat.{◌+◌, ◌*◌}
use native.Mathlib.Omega.{arith}
use borrow.Author.Tests.{leb-true, leb-false}
use lib.ListN.{length}
use Rattle.parts.specs.SetBlock.{bad_count}
use Rattle.lent_set.proofs.Answer.{few_books, answer_count, answer_refused, answer_fits, answer_short}
use Rattle.lent_set.proofs.judge_set.Goals as goal

pub returns-then-bad_count-clause-refused : goal.returns-then-bad_count-clause-refused
returns-then-bad_count-clause-refused c =
    let a = c.args in (
      answer_count a.books.now a.states.now a.bytes.now a.count a.rows.now a.place (sym c.bad_count.ensures ∙ c.if-bad_count.true),
      λ z. absurd (omega arith),
    )

pub judge_all-requires : goal.judge_all-requires
judge_all-requires c =
    let right : bad_count c.args.count ≡ false = sym c.bad_count.ensures ∙ c.if-bad_count.false in
    few_books _ right

pub returns-then-fits-clause-passed : goal.returns-then-fits-clause-passed
returns-then-fits-clause-passed c =
    let right : bad_count c.args.count ≡ false = sym c.bad_count.ensures ∙ c.if-bad_count.false in
    let a = c.args in
    let j = c.in-Ok.ensures.passed in
    let fits = leb-true (a.place + 24 * c.in-Ok.n) (length a.rows.now) (sym c.fits.ensures ∙ c.if-fits.true) in (
      sym (answer_fits a.books.now a.states.now a.bytes.now a.count a.rows.now a.place right j.0 (omega (arith, fits, j.1))),
      few_books _ right,
      j.1,
      j.2,
    )

pub returns-else-fits-clause-refused : goal.returns-else-fits-clause-refused
returns-else-fits-clause-refused c =
    let right : bad_count c.args.count ≡ false = sym c.bad_count.ensures ∙ c.if-bad_count.false in
    let a = c.args in
    let j = c.in-Ok.ensures.passed in
    let short = leb-false (a.place + 24 * c.in-Ok.n) (length a.rows.now) (sym c.fits.ensures ∙ c.if-fits.false) in (
      answer_short a.books.now a.states.now a.bytes.now a.count a.rows.now a.place right j.0 (omega (arith, short, j.1)),
      λ z. absurd (omega arith),
    )

pub returns-in-Err-clause-refused : goal.returns-in-Err-clause-refused
returns-in-Err-clause-refused c =
    let right : bad_count c.args.count ≡ false = sym c.bad_count.ensures ∙ c.if-bad_count.false in
    let a = c.args in
    let j = c.in-Err.ensures.refused in
    let own = c.number_of.ensures ∙ j.0 in (
      own ∙ answer_refused a.books.now a.states.now a.bytes.now a.count a.rows.now a.place right (λ z. j.1 (j.0 ∙ z)),
      λ z. j.1 (sym c.number_of.ensures ∙ z),
    )
