-- `fresh_all` meets its contract: after k turns the first k states are fresh, and the words behind them as they came.
use mathlib.Core.Path.{◌≡◌}
use Prim.Native.Nat.{◌≤◌}
use lib.ListN.{length}
use Rattle.calls.specs.Calls.{fresh_state}
use Rattle.blocks.specs.StateBlock.{state_size, state_words}
use Rattle.parts.proofs.Blocks.{blocks_over}
use Rattle.lent_set.proofs.fresh_all.Given as goal

abbrev pub invariant-loop-k : goal.invariant-loop-k
invariant-loop-k l = (l.k ≤ l.count) × (length l.states ≡ length l.initial.states) × (l.states ≡ blocks_over (λ k. state_words fresh_state) state_size l.initial.states l.k)
