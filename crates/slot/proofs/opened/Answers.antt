-- `slot::opened` meets its contract: the numbers from k on moved up by one, and x written in the gap.
use mathlib.Core.Path.{◌≡◌, ap, ◌∙◌}
use native.Mathlib.Omega.{arith}
use borrow.Author.Rules.{rules}
use lib.ListN.{length, take, set}
use Prim.Native.Nat.{suc}
use Rattle.slot.proofs.Arrays.{gap_opened}
use Rattle.slot.proofs.opened.Goals as goal

pub returns : goal.returns
returns c =
    let a = c.args in
    let l : length a.xs ≡ 6 = search rules in
    ap (λ ys. take (suc a.n) (set ys a.k a.x)) c.copy_within.ensures.after ∙ gap_opened a.xs a.k a.x a.n c.requires.0 (omega arith)
