-- `sound_state::sound_slot` meets its contract: a bound slot by its count, a free one by its exclusions.
use mathlib.Core.Path.{refl, sym, ◌∙◌}
use Prim.Native.Nat.{compare}
use borrow.Author.Tests.{le-leb, lt-leb}
use lib.ListN.{take}
use Rattle.laws.specs.Order.{ascending}
use Rattle.sound.proofs.Loops.{both_second, both_first}
use Rattle.sound.proofs.Sizes.{slot_words_law}
use Rattle.sound.proofs.Parts.{slot_bound, slot_told}
use Rattle.sound_state.proofs.sound_slot.Goals as goal

pub returns-then-s : goal.returns-then-s
returns-then-s c = sym (slot_bound c.args.s (slot_words_law c.args.s c.well_formed.0) c.if-s.true)

pub returns-then-s-le-EXCLUSIONS : goal.returns-then-s-le-EXCLUSIONS
returns-then-s-le-EXCLUSIONS c =
    let s = c.args.s in
    both_second refl (le-leb s.count 6 c.if-s-le-EXCLUSIONS.true) refl c.ascends.ensures
    ∙ sym (slot_told s (slot_words_law s c.well_formed.0) c.if-s.false)

pub returns-else-s-le-EXCLUSIONS : goal.returns-else-s-le-EXCLUSIONS
returns-else-s-le-EXCLUSIONS c =
    let s = c.args.s in
    both_first (ascending compare (take s.count s.excluded)) refl (lt-leb s.count 6 c.if-s-le-EXCLUSIONS.false) refl
    ∙ sym (slot_told s (slot_words_law s c.well_formed.0) c.if-s.false)
