-- `lines::variables_from` meets its contract: one turn of `variables_from`; the room for variables falls.
use mathlib.Core.Path.{◌≡◌, refl, ap, ◌∙◌}
use mathlib.Core.List.{[], ◌∷◌, ◌++◌, map}
use Prim.Native.Nat.{suc, ◌+◌, ◌-◌}
use native.Mathlib.Omega.{arith}
use lib.ListN.{take}
use Rattle.std.proofs.lemmas.Result.{err_from_is_err_and}
use Rattle.form.specs.Scan.{fail, next_word}
use Rattle.form.specs.Lines.{span_of, declare_fault}
use Rattle.text.specs.Refusals.{refusal_of}
use Rattle.text.proofs.Steps.{step_ok, brought_ok, brought_err, brought_other}
use Rattle.table.specs.Tables as Tables
use Rattle.table.specs.Tables.{view_table, Ready}
use Rattle.table.proofs.Codes.{ready_variable}
use Rattle.lines.proofs.Args.{next_inside}
use Rattle.lines.proofs.Known.{span_inside, names_inside, variables_kept}
use Rattle.lines.proofs.Gaps.{word_within}
use Rattle.lines.proofs.Variables.{variables_end, variables_full, variable_wrong, variable_next}
use Rattle.lines.proofs.+variables_from.Goals as goal

pub returns-then-q-p : goal.returns-then-q-p
returns-then-q-p m c =
    let a = c.args in
    let stepped = step_ok (next_word a.s.now a.p) c.in_ok-q.ensures in
    variables_kept a.s.now a.t c.requires.0 c.requires.1
    (variables_end a.s.now (view_table a.t).variables a.p stepped refl (4 - a.t.variables) c.if-q-p.true)

pub returns-then-count-ge-VARIABLES : goal.returns-then-count-ge-VARIABLES
unfolding refusal_of
returns-then-count-ge-VARIABLES m c =
    let a = c.args in
    let stepped = step_ok (next_word a.s.now a.p) c.in_ok-q.ensures in
    rw (variables_full a.s.now (view_table a.t).variables a.p stepped refl c.if-q-p.false (4 - a.t.variables) (omega arith))

pub new_name-requires : goal.new_name-requires
new_name-requires m c =
    let a = c.args in
    let stepped = step_ok (next_word a.s.now a.p) c.in_ok-q.ensures in
    let word = word_within a.s.now c.in_ok-q.q _ c.word_end-e.ensures (omega (arith, next_inside a.s.now a.p c.requires.2, ap (λ y. y.place) stepped)) in
    (word.0, word.1, names_inside a.s.now a.t c.requires.0 a.t.variables (omega arith))

pub returns-in_err-name : goal.returns-in_err-name
unfolding view_table
returns-in_err-name m c =
    let a = c.args in
    let q = c.in_ok-q.q in
    let stepped = step_ok (next_word a.s.now a.p) c.in_ok-q.ensures in
    let p = err_from_is_err_and c.from_residual-in_err-name.result c.from_residual-in_err-name.ensures.1 in
    let v = a.t.variables in
    let z : 4 - v ≡ suc (4 - (v + 1)) = omega arith in
    let x = fail (declare_fault a.s.now (view_table a.t).variables q c.word_end-e.result) q in
    let f = brought_err x _ c.in_err-name.ensures in
    rw (
      p.1,
      p.2,
      variable_wrong a.s.now (view_table a.t).variables a.p stepped refl c.if-q-p.false _ z c.word_end-e.ensures refl f.0,
    ) (brought_other x _ c.in_err-name.ensures _)

pub variables_from-requires : goal.variables_from-requires
variables_from-requires m c =
    let a = c.args in
    let q = c.in_ok-q.q in
    let stepped = step_ok (next_word a.s.now a.p) c.in_ok-q.ensures in
    let word = word_within a.s.now q _ c.word_end-e.ensures (omega (arith, next_inside a.s.now a.p c.requires.2, ap (λ y. y.place) stepped)) in
    let x = fail (declare_fault a.s.now (map Tables.span_of (take a.t.variables a.t.names)) q c.word_end-e.result) q in
    let n = brought_ok x _ c.in_ok-name.ensures in
    let more : let spans = (view_table a.t).variables ++ (span_of q c.word_end-e.result ∷ []) in
    Ready a.s.now c.with_variable-more.result × (view_table c.with_variable-more.result ≡ record { variables = spans; symbols = []; table = [] }) = let i = span_inside a.s.now q c.word_end-e.result word.0 word.1 in
    rw (c.with_variable-more.ensures, n.1) (ready_variable a.s.now a.t c.requires.0 c.requires.1 (omega arith) _ i) in
    let e = c.with_variable-more.ensures in
    (omega (arith, c.decreases, ap (λ u. u.variables) e), (more.0, ap (λ u. u.count) e ∙ c.requires.1, word.1))

pub returns : goal.returns
unfolding view_table
returns m c =
    let a = c.args in
    let q = c.in_ok-q.q in
    let stepped = step_ok (next_word a.s.now a.p) c.in_ok-q.ensures in
    let word = word_within a.s.now q _ c.word_end-e.ensures (omega (arith, next_inside a.s.now a.p c.requires.2, ap (λ y. y.place) stepped)) in
    let x = fail (declare_fault a.s.now (view_table a.t).variables q c.word_end-e.result) q in
    let n = brought_ok x _ c.in_ok-name.ensures in
    let more : let spans = (view_table a.t).variables ++ (span_of q c.word_end-e.result ∷ []) in
    Ready a.s.now c.with_variable-more.result × (view_table c.with_variable-more.result ≡ record { variables = spans; symbols = []; table = [] }) = let i = span_inside a.s.now q c.word_end-e.result word.0 word.1 in
    rw (c.with_variable-more.ensures, n.1) (ready_variable a.s.now a.t c.requires.0 c.requires.1 (omega arith) _ i) in
    let r = c.with_variable-more in
    let z : 4 - a.t.variables ≡ suc (4 - r.result.variables) = omega (arith, ap (λ u. u.variables) r.ensures) in
    rw (
      variable_next a.s.now (view_table a.t).variables a.p stepped refl c.if-q-p.false _ z c.word_end-e.ensures refl n.0,
      ← ap (λ u. u.variables) more.1,
    ) c.variables_from.ensures
