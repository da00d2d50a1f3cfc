-- `judge_all` meets its contract: after k turns the first k books do not refuse, and their rows are counted.
use mathlib.Core.Path.{◌≡◌, refl, sym, ap, ap₂, ◌∙◌}
use Prim.Native.Nat.{◌+◌}
use native.Mathlib.Omega.{arith}
use borrow.Author.Rules.{rules}
use Rattle.std.proofs.lemmas.Result.{err_from_is_err_and}
use Rattle.record.specs.Records.{event_in}
use Rattle.parts.specs.Parts.{rows_together}
use Rattle.parts.specs.SetBlock.{parts_in}
use Rattle.parts.proofs.Blocks.{together_more, first_all, first_passes, first_refuses, first_none}
use Rattle.lent_set.proofs.judge_all.Goals as goal

pub loop-k-init : goal.loop-k-init
unfolding rows_together
loop-k-init c =
    let a = c.args in
    (search rules, refl, search rules, first_all a.books.now a.states.now a.bytes.now a.count)

pub overflow_add-rows : goal.overflow_add-rows
overflow_add-rows c = omega (arith, c.in_ok-rows.ensures.passed.2, c.loop-k.invariant.2, c.loop-k.invariant.0, c.requires)

pub loop-k-preserved : goal.loop-k-preserved
loop-k-preserved c =
    let k = c.loop-k.k in
    let a = c.args in
    let judged = c.in_ok-rows.ensures.passed in
    let inv = c.loop-k.invariant in
    let below = c.loop-k-test.true in (
      omega (arith, below),
      ap₂ ◌+◌ inv.1 judged.1 ∙ sym (together_more a.books.now a.states.now a.bytes.now (event_in a.bytes.now) k),
      omega (arith, inv.2, judged.2),
      first_passes _ _ _ _ k below inv.3 judged.0,
    )

pub returns-in_err-rows-clause-refused : goal.returns-in_err-rows-clause-refused
returns-in_err-rows-clause-refused c =
    let own = c.in_err-rows.ensures.refused in
    let p = err_from_is_err_and c.from_residual.result c.from_residual.ensures.1 in
    rw (p.1, p.2) (
      own.0 ∙ sym (first_refuses _ _ _ _ c.loop-k.k c.loop-k-test.true c.loop-k.invariant.3 (λ z. own.1 (own.0 ∙ z))),
      own.1,
    )

pub returns-clause-passed : goal.returns-clause-passed
returns-clause-passed c =
    let k = c.loop-k.k in
    let a = c.args in
    let inv = c.loop-k.invariant in
    let e : k ≡ a.count = omega (arith, c.loop-k-test.false, inv.0) in (
      first_none _ _ _ _ k (omega (arith, e)) inv.3,
      inv.1 ∙ ap (λ n. rows_together (event_in a.bytes.now) (parts_in a.books.now a.states.now a.bytes.now n)) e,
      omega (arith, inv.2, e, c.requires),
    )
