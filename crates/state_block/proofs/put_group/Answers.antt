-- `put_group` meets its contract: after i turns the words of the first i variables stand over the front of what was lent.
use mathlib.Core.Path.{sym, ap, ◌∙◌}
use mathlib.Core.List.{[]}
use Prim.Native.Nat.{◌*◌}
use native.Mathlib.Omega.{arith}
use borrow.Author.Rules.{rules}
use lib.ListN.{get_or}
use lib.Seq.{take_all}
use Rattle.laws.specs.Lists.{gather}
use Rattle.laws.specs.Parts.{front}
use Rattle.laws.proofs.Fronts.{front_nothing, lent_front, front_more}
use Rattle.meaning.specs.Labels.{free}
use Rattle.slot.specs.Slots.{view_slot}
use Rattle.disjunct.specs.Disjuncts.{view_disjunct}
use Rattle.disjunct.proofs.Disjuncts.{view_length, sized}
use Rattle.disjunct.proofs.Slots.{no_slot, entry_at}
use Rattle.blocks.specs.StateBlock.{entry_words, group_words}
use Rattle.state_block.proofs.Writing.{entries_sized}
use Rattle.state_block.proofs.put_group.Goals as goal

pub loop-i-init : goal.loop-i-init
loop-i-init c = (search rules, search rules, sym (front_nothing _))

pub loop-i-preserved : goal.loop-i-preserved
loop-i-preserved c =
    let d = c.args.d in
    let i = c.loop-i.i in
    let size = sized d c.well_formed.1.0 in
    let many = view_length d size.four in (
      search rules,
      search rules,
      lent_front (7 * i) (entry_words (view_slot (get_or d.vars i no_slot))) c.loop-i.words (omega arith) c.put_slot.ensures
          ∙ front_more entry_words 7 (view_disjunct d) (entries_sized d size) i (free []) c.args.words.now (omega arith) (omega arith)
          (ap entry_words (sym (entry_at d i))) c.loop-i.invariant.2,
    )

pub returns : goal.returns
unfolding group_words
returns c =
    let d = c.args.d in
    let many = view_length d (sized d c.well_formed.1.0).four in
    c.loop-i.invariant.2
    ∙ ap (λ v. front (gather entry_words v) c.args.words.now) (take_all c.loop-i.i (view_disjunct d) (omega arith))
