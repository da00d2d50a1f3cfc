-- `put_head` meets its contract: three stores over the front.
use mathlib.Core.List.{[], ◌∷◌}
use native.Mathlib.Omega.{arith}
use Rattle.laws.proofs.Fronts.{sets_front}
use Rattle.state_block.proofs.put_head.Goals as goal

pub returns : goal.returns
returns c =
    let a = c.args in
    sets_front (2001 ∷ a.number ∷ a.count ∷ []) a.words.now (omega arith)
