-- `text::next_word` meets its contract: one arm for each case of `next_word`.
use mathlib.Core.Path.{◌≡◌, refl}
use Prim.Native.Nat.{◌+◌, ◌<◌}
use native.Mathlib.Omega.{arith}
use borrow.Author.Tests.{eq-eqb, ne_eqb}
use lib.Dec.{eqb}
use Rattle.std.specs.Prelude.{Err}
use Rattle.laws.proofs.Lists.{either}
use Rattle.form.specs.Scan.{at, next_word}
use Rattle.parsing.proofs.Scans.{spaces_end_ge}
use Rattle.text.specs.declared.Refusal.TheVariants as Why
use Rattle.text.specs.Refusals.{refusal_of}
use Rattle.text.specs.Steps.{step_of}
use Rattle.text.proofs.Runs.{at_some, at_none, byte_small}
use Rattle.text.proofs.next_word.Goals as goal

pub overflow_sub-q : goal.overflow_sub-q
overflow_sub-q c = let a = c.args in omega (arith, spaces_end_ge a.s.now a.p)

pub returns-in_default : goal.returns-in_default
unfolding next_word refusal_of
returns-in_default c =
    let a = c.args in
    let q = c.spaces_end-q in
    let b : at a.s.now q.result ≡ 256 = at_none a.s.now q.result c.peek.ensures c.in_default.is in
    rw (← q.ensures, b) (either (λ x. Err (Why.BadLine a.p) ≡ step_of x) (eqb q.result a.p) (λ k. refl) (λ k. refl))

pub returns-in-true-eq0 : goal.returns-in-true-eq0
unfolding next_word
returns-in-true-eq0 c =
    let a = c.args in
    let q = c.spaces_end-q in
    let b : at a.s.now q.result ≡ c.in-Some.b = at_some a.s.now q.result c.peek.ensures c.in-Some.is in
    let e : q.result ≡ a.p = omega (arith, q.ensures, spaces_end_ge a.s.now a.p, c.in-true-eq0.is-1) in
    rw (← q.ensures, b, eq-eqb _ _ e, c.in-true-eq0.is-0)

pub returns-in-true-default : goal.returns-in-true-default
unfolding next_word refusal_of
returns-in-true-default c =
    let a = c.args in
    let q = c.spaces_end-q in
    let b : at a.s.now q.result ≡ c.in-Some.b = at_some a.s.now q.result c.peek.ensures c.in-Some.is in
    rw (← q.ensures, b, ne_eqb q.result a.p (λ e. omega arith), c.in-true-default.is-0)

pub returns-in-false-eq0 : goal.returns-in-false-eq0
unfolding next_word refusal_of
returns-in-false-eq0 c =
    let a = c.args in
    let q = c.spaces_end-q in
    let b : at a.s.now q.result ≡ c.in-Some.b = at_some a.s.now q.result c.peek.ensures c.in-Some.is in
    let e : q.result ≡ a.p = omega (arith, q.ensures, spaces_end_ge a.s.now a.p, c.in-false-eq0.is-1) in
    rw (← q.ensures, b, eq-eqb _ _ e, ne_eqb c.in-Some.b 10 c.in-false-eq0.is-0)

pub returns-in-false-eq1 : goal.returns-in-false-eq1
unfolding next_word
returns-in-false-eq1 c =
    let a = c.args in
    let q = c.spaces_end-q in
    let b : at a.s.now q.result ≡ c.in-Some.b = at_some a.s.now q.result c.peek.ensures c.in-Some.is in
    let small : c.in-Some.b < 256 = byte_small a.s.now c.type_inv.s q.result c.peek.ensures c.in-Some.is in
    rw (
      ← q.ensures,
      b,
      ne_eqb q.result a.p (λ e. omega arith),
      ne_eqb c.in-Some.b 10 c.in-false-eq1.is-0,
      ne_eqb c.in-Some.b 256 (λ e. omega arith),
      eq-eqb q.result (a.p + 1) (omega arith),
    )

pub returns-in-false-default : goal.returns-in-false-default
unfolding next_word refusal_of
returns-in-false-default c =
    let a = c.args in
    let q = c.spaces_end-q in
    let b : at a.s.now q.result ≡ c.in-Some.b = at_some a.s.now q.result c.peek.ensures c.in-Some.is in
    let small : c.in-Some.b < 256 = byte_small a.s.now c.type_inv.s q.result c.peek.ensures c.in-Some.is in
    rw (
      ← q.ensures,
      b,
      ne_eqb q.result a.p (λ e. omega arith),
      ne_eqb c.in-Some.b 10 c.in-false-default.is-0,
      ne_eqb c.in-Some.b 256 (λ e. omega arith),
      ne_eqb q.result (a.p + 1) (λ e. omega arith),
    )
