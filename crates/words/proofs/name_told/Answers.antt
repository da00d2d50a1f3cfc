-- `words::name_told` meets its contract: one return for each case of `name_fault`.
use native.Mathlib.Omega.{arith}
use borrow.Author.Tests.{eq-eqb, ne_eqb, le-leb, lt-leb}
use Rattle.form.specs.Scan.{name_fault}
use Rattle.parsing.proofs.Scans.{name_end_ge}
use Rattle.text.specs.Refusals.{refusal_of}
use Rattle.words.proofs.name_told.Goals as goal

pub returns-then-name_end-e : goal.returns-then-name_end-e
unfolding name_fault refusal_of
returns-then-name_end-e c = rw (← c.name_end.ensures, ne_eqb _ _ c.if-name_end-e.true)

pub overflow_sub-e : goal.overflow_sub-e
overflow_sub-e c = let a = c.args in omega (arith, name_end_ge a.s.now a.p)

pub returns-then-e-p-gt-NAME_LIMIT : goal.returns-then-e-p-gt-NAME_LIMIT
unfolding name_fault refusal_of
returns-then-e-p-gt-NAME_LIMIT c = rw (← c.name_end.ensures, eq-eqb _ _ c.if-name_end-e.false, lt-leb _ 12 c.if-e-p-gt-NAME_LIMIT.true)

pub returns : goal.returns
unfolding name_fault
returns c = rw (← c.name_end.ensures, eq-eqb _ _ c.if-name_end-e.false, le-leb _ 12 c.if-e-p-gt-NAME_LIMIT.false)
