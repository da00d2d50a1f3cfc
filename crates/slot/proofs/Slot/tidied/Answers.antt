-- `Slot::tidied` meets its contract: the array filled with zeros behind what is counted is what is counted, padded.
use mathlib.Core.Path.{◌≡◌, sym, ap, ◌∙◌}
use borrow.Author.Rules.{rules}
use lib.ListN.{length}
use Rattle.slot.specs.Slots.{slot_of}
use Rattle.slot.proofs.Slots.{view_bound, tidy_free}
use Rattle.slot.proofs.Arrays.{filled}
use Rattle.slot.proofs.Slot.tidied.Goals as goal

pub returns-then-self : goal.returns-then-self
returns-then-self c = let s = c.args.self in c.holding.ensures ∙ ap slot_of (sym (view_bound s c.if-self.true))

pub returns : goal.returns
returns c =
    let s = c.args.self in
    let z = c.size-n in
    let l : length s.excluded ≡ 6 = search rules in
    tidy_free s z.result _ c.if-self.false z.ensures.0 (filled 6 z.result s.excluded c.fill.new.self z.ensures.1 l (search rules))
