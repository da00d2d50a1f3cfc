-- `put_slot` meets its contract: seven stores over the front, those of the tidied slot.
use mathlib.Core.Path.{ap, ◌∙◌}
use mathlib.Core.Logic.{inl, inr}
use mathlib.Core.List.{List, ◌++◌}
use Prim.Native.Nat.{ℕ}
use lib.ListN.{drop}
use Rattle.state_block.proofs.Writing.{slot_written}
use Rattle.state_block.proofs.put_slot.Goals as goal
use Rattle.state_block.proofs.put_slot.Goals.{then-t, else-t}

pub returns : goal.returns
returns c =
    let n = c.size-n in
    let t = c.if-t.code in
    ap (λ (r : List ℕ). r ++ drop 7 c.args.words.now) c.copy_from_slice.ensures.after
    ∙ slot_written c.args.s c.tidied-t.result n.result t.0 t.1 c.args.words.now
    c.tidied-t.ensures n.ensures.0 n.ensures.1
    (elim c.if-t.branch [
      | then-t a ↦ inl (a.if-t.true, ap (λ (p : ℕ × ℕ). p.0) a.code-is, ap (λ (p : ℕ × ℕ). p.1) a.code-is)
      | else-t b ↦ inr (b.if-t.false, ap (λ (p : ℕ × ℕ). p.0) b.code-is, ap (λ (p : ℕ × ℕ). p.1) b.code-is)
    ])
