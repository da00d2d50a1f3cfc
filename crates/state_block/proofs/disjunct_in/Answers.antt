-- `disjunct_in` meets its contract: after i turns the first i slots are what their words say, the others free.
use mathlib.Core.Path.{refl, ap, ◌∙◌}
use mathlib.Core.List.{[]}
use Prim.Native.Nat.{◌+◌, ◌*◌}
use native.Mathlib.Omega.{arith}
use borrow.Author.Rules.{rules}
use Rattle.laws.specs.Parts.{pad}
use Rattle.meaning.specs.Labels.{free}
use Rattle.slot.specs.Slots.{slot_of}
use Rattle.disjunct.specs.Disjuncts.{disjunct_of}
use Rattle.blocks.specs.StateBlock.{slot_in, disjunct_in}
use Rattle.state_block.proofs.Reading.{group_next, group_all}
use Rattle.state_block.proofs.disjunct_in.Goals as goal

pub loop-i-init : goal.loop-i-init
unfolding disjunct_of pad
loop-i-init c = (search rules, ap (λ d. d.vars) c.free-d.ensures)

pub loop-i-preserved : goal.loop-i-preserved
loop-i-preserved c =
    let l = c.loop-i in
    let w = c.args.words.now in (
      search rules,
      group_next slot_in 7 4 (slot_of (free [])) w l.i (7 * l.i + 7) (omega arith) refl l.invariant.1 c.slot_in.ensures,
    )

pub returns : goal.returns
unfolding disjunct_in
returns c =
    let l = c.loop-i in
    let w = c.args.words.now in
    ap (λ v. record { vars = v }) (l.invariant.1 ∙ group_all slot_in 7 4 (slot_of (free [])) w l.i (omega arith))
