-- `judge_at` meets its contract: 9 where a block ends beyond the words, else what the book answers to its two blocks.
use mathlib.Core.Path.{sym}
use native.Mathlib.Omega.{arith}
use Rattle.parts.proofs.Blocks.{block_lent, short_book, short_state}
use Rattle.parts.proofs.Left.{part_outside}
use Rattle.lent_set.proofs.Own.{own_judged}
use Rattle.lent_set.proofs.judge_at.Goals as goal
use Rattle.lent_set.proofs.judge_at.Goals.{then-books-end-via-then-books-end, then-books-end-via-else-books-end+then-states-upto}

pub returns-then-books-end-clause-refused : goal.returns-then-books-end-clause-refused
returns-then-books-end-clause-refused c =
    let a = c.args in
    elim c.then-books-end.branch [
      | then-books-end-via-then-books-end w ↦ (sym (part_outside a.books.now a.states.now a.bytes.now a.k (short_book _ _ _ _ (omega arith))), λ z. absurd (omega arith))
      | then-books-end-via-else-books-end+then-states-upto w ↦ (sym (part_outside a.books.now a.states.now a.bytes.now a.k (short_state _ _ _ _ (omega arith))), λ z. absurd (omega arith))
    ]

pub returns : goal.returns
returns c =
    let a = c.args in
    let book = block_lent 269 a.k a.books.now in
    let state = block_lent 3715 a.k a.states.now in
    let (p, r) = own_judged a.books.now a.states.now a.bytes.now a.k book state (omega arith) (omega arith) c.judge.result c.judge.ensures.passed c.judge.ensures.refused in
    record { passed = p; refused = r }
