-- `fresh_all` meets its contract: after k turns the first k states are fresh, and the words behind them as they came.
use mathlib.Core.Path.{◌≡◌, ap, ◌∙◌}
use mathlib.Core.List.{List}
use Prim.Native.Nat.{ℕ}
use native.Mathlib.Omega.{arith}
use borrow.Author.Rules.{rules}
use Rattle.laws.specs.Lists.{gather, numbers}
use Rattle.laws.specs.Parts.{front}
use Rattle.calls.specs.Calls.{fresh_state}
use Rattle.blocks.specs.StateBlock.{state_size, state_words}
use Rattle.parts.proofs.Blocks.{over_none, over_more, over_front}
use Rattle.lent_set.proofs.fresh_all.Goals as goal

abbrev fresh : ℕ → List ℕ
fresh k = state_words fresh_state

pub loop-k-init : goal.loop-k-init
loop-k-init c = (search rules, search rules, over_none fresh state_size c.args.states.now)

pub loop-k-preserved : goal.loop-k-preserved
unfolding fresh_state
loop-k-preserved c =
    let start = c.args.states.now in
    let inv = c.loop-k.invariant in
    (search rules, search rules, over_more fresh state_size start c.loop-k.k inv.2 (omega arith) inv.1 c.put_fresh.ensures)

pub returns : goal.returns
returns c =
    let a = c.args in
    let inv = c.loop-k.invariant in
    let e : c.loop-k.k ≡ a.count = omega arith in
    over_front fresh state_size a.states.now c.loop-k.k inv.2 (omega arith) inv.1
    ∙ ap (λ n. front (gather fresh (numbers 0 n)) a.states.now) e
