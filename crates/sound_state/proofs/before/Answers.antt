-- `sound_state::before` meets its contract: the positions, and for one position the order of the tidied disjuncts.
use native.Mathlib.Omega.{arith}
use borrow.Author.Rules.{rules}
use borrow.Author.Tests.{tests}
use Rattle.disjunct.proofs.Disjuncts.{sized}
use Rattle.sound.proofs.Held.{held_told}
use Rattle.sound_state.proofs.before.Goals as goal

pub returns-then-p-q-2 : goal.returns-then-p-q-2
returns-then-p-q-2 c =
    let a = c.args in
    let g = c.well_formed in
    held_told a.p a.q a.n a.d a.e c.tidied.result c.tidied-then-p-q-2.result
    (sized a.d g.1.0).four (sized a.e g.1.1.1.0).four (omega arith)
    c.tidied.ensures c.tidied-then-p-q-2.ensures c.order.ensures
    c.eq.result (λ e. search (rules, tests)) (λ e k. search (rules, tests))
