-- `lines::argument` meets its contract: the tests of `argument_fault`, one after the other.
use mathlib.Core.List.{map}
use Prim.Native.Nat.{◌+◌}
use borrow.Author.Tests.{eq-eqb, ne_eqb}
use Rattle.std.proofs.lemmas.Result.{err_from_is_err_and}
use Rattle.form.specs.Scan.{fail, part, value, name_fault, is_number, fixed_number}
use Rattle.table.specs.Tables.{span_of}
use Rattle.text.specs.Refusals.{refusal_of}
use Rattle.text.proofs.Steps.{brought_ok, brought_err, brought_other}
use Rattle.lookup.proofs.Names.{found_some, found_none}
use Rattle.lines.proofs.Args.{number_none, number_some, signed}
use Rattle.lines.proofs.argument.Goals as goal

pub returns-in-None : goal.returns-in-None
unfolding refusal_of
returns-in-None c =
    let a = c.args in
    let w = part a.s.now (a.p + 1) a.e in
    rw (
      ← c.is_word.ensures,
      c.if-is_word.false,
      signed a.s.now a.p c.peek.ensures c.eq.ensures c.if-eq.true,
      number_none (is_number w) (value 0 w) c.in-None.ensures,
    )

pub returns-in-Some : goal.returns-in-Some
unfolding fixed_number
returns-in-Some c =
    let a = c.args in
    let w = part a.s.now (a.p + 1) a.e in
    let n = number_some (is_number w) (value 0 w) c.in-Some.ensures in
    rw (
      ← c.is_word.ensures,
      c.if-is_word.false,
      signed a.s.now a.p c.peek.ensures c.eq.ensures c.if-eq.true,
      n.0,
      n.1,
    )

pub returns-in_err-name_told : goal.returns-in_err-name_told
returns-in_err-name_told c =
    let a = c.args in
    let p = err_from_is_err_and c.from_residual.result c.from_residual.ensures.1 in
    let x = fail (name_fault a.s.now a.p a.e) a.p in
    let n = brought_err x _ c.in_err-name_told.ensures in
    rw (
      p.1,
      p.2,
      ← c.is_word.ensures,
      c.if-is_word.false,
      signed a.s.now a.p c.peek.ensures c.eq.ensures c.if-eq.false,
      ne_eqb (name_fault a.s.now a.p a.e) 0 n.0,
    ) (brought_other x _ c.in_err-name_told.ensures _)

pub returns-in-None-find : goal.returns-in-None-find
unfolding refusal_of
returns-in-None-find c =
    let a = c.args in
    let n = brought_ok (fail (name_fault a.s.now a.p a.e) a.p) _ c.in_ok-name_told.ensures in
    rw (
      ← c.is_word.ensures,
      c.if-is_word.false,
      signed a.s.now a.p c.peek.ensures c.eq.ensures c.if-eq.false,
      eq-eqb _ 0 n.0,
      found_none a.s.now (map span_of a.variables.now) (part a.s.now a.p a.e) c.in-None-find.ensures,
    )

pub returns-in-Some-find : goal.returns-in-Some-find
returns-in-Some-find c =
    let a = c.args in
    let n = brought_ok (fail (name_fault a.s.now a.p a.e) a.p) _ c.in_ok-name_told.ensures in
    let f = found_some a.s.now (map span_of a.variables.now) (part a.s.now a.p a.e) c.in-Some-find.ensures in
    rw (
      ← c.is_word.ensures,
      c.if-is_word.false,
      signed a.s.now a.p c.peek.ensures c.eq.ensures c.if-eq.false,
      eq-eqb _ 0 n.0,
      ← f.0,
      f.1,
    )
