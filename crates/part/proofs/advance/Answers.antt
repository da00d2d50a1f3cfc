-- `advance` meets its contract: what the pure step leaves is written and stored; that it refuses is absurd.
use mathlib.Core.Path.{ap, ◌∙◌}
use native.Mathlib.Omega.{arith}
use Rattle.laws.specs.Parts.{splice}
use Rattle.blocks.specs.StateBlock.{state_stored}
use Rattle.calls.specs.Answers.{number_of}
use Rattle.part.proofs.Passed.{said_zero, refusal_number, few_variables_law, few_old, old_count, few_new, few_values, said_count, said_rows, said_state}
use Rattle.part.proofs.advance.Goals as goal

pub unreachable-requires : goal.unreachable-requires
unreachable-requires c =
    let zero = said_zero _ _ c.args.bytes.now c.book_in-b.ensures c.state_in-s.ensures c.requires.2 in
    let step = c.in_default.ensures in
    absurd (refusal_number _ step.1 (ap number_of step.0 ∙ zero))

pub overflow_add-number : goal.overflow_add-number
overflow_add-number c = omega (arith, c.in-Ok.ensures.1.below)

pub write_rows-requires : goal.write_rows-requires
write_rows-requires c =
    let zero = said_zero _ _ c.args.bytes.now c.book_in-b.ensures c.state_in-s.ensures c.requires.2 in
    let moved = c.in-Ok.ensures.1 in
    let n = said_count moved c.book_in-b.ensures c.state_in-s.ensures in
    (few_variables_law _ _ _ zero, moved.few, omega (arith, c.requires.3, n))

pub store-after-requires : goal.store-after-requires
store-after-requires c = c.in-Ok.ensures.1.room

pub store-requires : goal.store-requires
store-requires c =
    let zero = said_zero _ _ c.args.bytes.now c.book_in-b.ensures c.state_in-s.ensures c.requires.2 in (
      c.requires.1,
      old_count _ _ _ zero c.args.state.now c.state_in-s.ensures,
      few_old _ _ _ zero,
      few_new c.in-Ok.ensures.1 c.store-after.ensures,
    )

pub returns : goal.returns
returns c =
    let b = c.book_in-b.ensures in
    let s = c.state_in-s.ensures in
    let a = c.args in
    let zero = said_zero _ _ a.bytes.now b s c.requires.2 in
    let m = c.in-Ok.ensures.1 in (
      said_count m b s,
      c.write_rows.ensures
          ∙ ap (λ r. splice a.place r a.rows.now) (said_rows m b s (few_values _ _ _ zero) a.byte5 a.byte6),
      c.store.ensures ∙ ap (state_stored a.state.now) (said_state m b s c.store-after.ensures),
    )
