-- `judge` meets its contract: how many rows the pure step finds where it accepts, or its refusal.
use mathlib.Core.Path.{sym, ap, ap₂, ◌∙◌}
use Rattle.std.proofs.lemmas.Result.{err_from_is_err_and}
use Rattle.laws.specs.Checks.{first_failing}
use Rattle.calls.specs.Answers.{number_of}
use Rattle.calls.specs.declared.EventAnswer.TheVariants.{Accepted}
use Rattle.calls.specs.Calls.{decisions}
use Rattle.part.proofs.Passed.{refusal_number, said_count}
use Rattle.part.proofs.judge.Goals as goal

pub returns-in_err-r-clause-refused : goal.returns-in_err-r-clause-refused
returns-in_err-r-clause-refused c =
    let step = c.in_err-r.ensures in
    let state = c.state_in-s.ensures in
    let book = c.book_in-b.ensures in
    let bytes = c.args.bytes.now in
    let p = err_from_is_err_and c.from_residual.result c.from_residual.ensures.1 in
    rw (p.1, p.2) (
      ap number_of step.0 ∙ ap₂ (λ b s. number_of (first_failing Accepted (decisions b s bytes))) book state,
      refusal_number _ step.1,
    )

pub returns-clause-passed : goal.returns-clause-passed
returns-clause-passed c =
    let step = c.in_ok-r.ensures in
    let state = c.state_in-s.ensures in
    let book = c.book_in-b.ensures in
    let bytes = c.args.bytes.now in (
      sym (ap number_of step.0 ∙ ap₂ (λ b s. number_of (first_failing Accepted (decisions b s bytes))) book state),
      said_count step.1 book state,
      step.1.few,
    )
