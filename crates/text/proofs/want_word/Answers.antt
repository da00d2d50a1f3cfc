-- `text::want_word` meets its contract: the next word, or the end of the line in its place.
use borrow.Author.Tests.{eq-eqb, ne_eqb}
use Rattle.std.proofs.lemmas.Result.{err_from_is_err_and}
use Rattle.form.specs.Lines.{want_word}
use Rattle.form.specs.Scan.{next_word}
use Rattle.text.specs.Refusals.{refusal_of}
use Rattle.text.proofs.Steps.{step_ok, step_err}
use Rattle.text.proofs.want_word.Goals as goal

pub returns-in_err-q : goal.returns-in_err-q
unfolding want_word
returns-in_err-q c =
    let p = err_from_is_err_and c.from_residual.result c.from_residual.ensures.1 in
    let e = step_err (next_word c.args.s.now c.args.p) c.in_err-q.ensures in
    rw (p.1, p.2, ne_eqb _ 0 e.0) c.in_err-q.ensures

pub returns-then-q-p : goal.returns-then-q-p
unfolding want_word refusal_of
returns-then-q-p c =
    let n = step_ok (next_word c.args.s.now c.args.p) c.in_ok-q.ensures in
    rw (n, eq-eqb _ _ c.if-q-p.true)

pub returns : goal.returns
unfolding want_word
returns c =
    let n = step_ok (next_word c.args.s.now c.args.p) c.in_ok-q.ensures in
    rw (n, ne_eqb _ _ c.if-q-p.false)
