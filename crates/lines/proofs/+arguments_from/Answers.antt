-- `lines::arguments_from` meets its contract: one turn of `arguments_from`; the room for parameters falls.
use mathlib.Core.Path.{refl, ap}
use Prim.Native.Nat.{◌-◌, ◌≤◌}
use native.Mathlib.Omega.{arith}
use lib.ListN.{length, take, length-take}
use Rattle.std.proofs.lemmas.Result.{err_from_is_err_and}
use Rattle.meaning.specs.Events.{Parameter}
use Rattle.form.specs.Scan.{fail, next_word}
use Rattle.form.specs.Lines.{argument_fault, argument_of}
use Rattle.text.specs.Refusals.{refusal_of}
use Rattle.text.proofs.Steps.{step_ok, brought_ok, brought_err, brought_other}
use Rattle.table.specs.Tables.{view_symbol, view_table}
use Rattle.lines.proofs.Args.{next_inside, arguments_end, arguments_full, argument_wrong, argument_next}
use Rattle.lines.proofs.Args.{arguments_kept, more_kept, more_reads}
use Rattle.lines.proofs.Known.{names_inside}
use Rattle.lines.proofs.Gaps.{word_within}
use Rattle.lines.proofs.+arguments_from.Goals as goal

pub returns-then-q-p : goal.returns-then-q-p
returns-then-q-p m c =
    let a = c.args in
    let stepped = step_ok (next_word a.s.now a.p) c.in_ok-q.ensures in
    arguments_kept c.requires.1
    (arguments_end a.s.now (view_table a.t).variables (view_symbol a.y).parameters a.p stepped refl (4 - a.y.count) c.if-q-p.true)

pub returns-then-count-ge-PARAMETERS : goal.returns-then-count-ge-PARAMETERS
unfolding refusal_of
returns-then-count-ge-PARAMETERS m c =
    let a = c.args in
    let stepped = step_ok (next_word a.s.now a.p) c.in_ok-q.ensures in
    rw (arguments_full a.s.now (view_table a.t).variables (view_symbol a.y).parameters a.p stepped refl c.if-q-p.false a.y.count
    c.if-count-ge-PARAMETERS.true)

pub argument-requires : goal.argument-requires
argument-requires m c =
    let a = c.args in
    let stepped = step_ok (next_word a.s.now a.p) c.in_ok-q.ensures in
    let word = word_within a.s.now c.in_ok-q.q _ c.word_end-e.ensures (omega (arith, next_inside a.s.now a.p c.requires.3, ap (λ y. y.place) stepped)) in
    let few : length (take a.t.variables a.t.names) ≤ 4 = simp length-take (omega (arith, c.requires.0.few_variables)) in
    (word.0, word.1, few, names_inside a.s.now a.t c.requires.0 a.t.variables (omega arith))

pub bounds-more-count : goal.bounds-more-count
bounds-more-count m c = c.if-count-ge-PARAMETERS.false

pub returns-in_err-word : goal.returns-in_err-word
unfolding view_table
returns-in_err-word m c =
    let a = c.args in
    let q = c.in_ok-q.q in
    let stepped = step_ok (next_word a.s.now a.p) c.in_ok-q.ensures in
    let p = err_from_is_err_and c.from_residual-in_err-word.result c.from_residual-in_err-word.ensures.1 in
    let x = fail (argument_fault a.s.now (view_table a.t).variables q c.word_end-e.result) q in
    let f = brought_err x _ c.in_err-word.ensures in
    rw (
      p.1,
      p.2,
      argument_wrong a.s.now (view_table a.t).variables (view_symbol a.y).parameters a.p stepped refl c.if-q-p.false a.y.count
          c.if-count-ge-PARAMETERS.false c.word_end-e.ensures refl f.0,
    ) (brought_other x _ c.in_err-word.ensures _)

pub arguments_from-requires : goal.arguments_from-requires
unfolding view_table
arguments_from-requires m c =
    let a = c.args in
    let q = c.in_ok-q.q in
    let stepped = step_ok (next_word a.s.now a.p) c.in_ok-q.ensures in
    let word = word_within a.s.now q _ c.word_end-e.ensures (omega (arith, next_inside a.s.now a.p c.requires.3, ap (λ y. y.place) stepped)) in
    let argument : Parameter = argument_of a.s.now (view_table a.t).variables q c.word_end-e.result in
    let x = fail (argument_fault a.s.now (view_table a.t).variables q c.word_end-e.result) q in
    let n = brought_ok x _ c.in_ok-word.ensures in
    let m = more_kept c.requires.1 c.if-count-ge-PARAMETERS.false argument n.1 in
    (omega arith, (c.requires.0, m, omega arith, word.1))

pub returns : goal.returns
unfolding view_table
returns m c =
    let a = c.args in
    let q = c.in_ok-q.q in
    let stepped = step_ok (next_word a.s.now a.p) c.in_ok-q.ensures in
    let argument : Parameter = argument_of a.s.now (view_table a.t).variables q c.word_end-e.result in
    let x = fail (argument_fault a.s.now (view_table a.t).variables q c.word_end-e.result) q in
    let n = brought_ok x _ c.in_ok-word.ensures in
    more_reads c.requires.1 c.if-count-ge-PARAMETERS.false argument n.1 a.s.now (view_table a.t).variables c.word_end-e.result c.arguments_from.ensures
    (argument_next a.s.now (view_table a.t).variables (view_symbol a.y).parameters a.p stepped refl c.if-q-p.false a.y.count c.if-count-ge-PARAMETERS.false
    c.word_end-e.ensures refl n.0)
