-- `Slot::holding` meets its contract by the definition.
use mathlib.Core.Path.{refl}
use Rattle.slot.specs.Slots.{slot_of}
use Rattle.slot.proofs.Slot.holding.Goals as goal

pub returns : goal.returns
unfolding slot_of
returns c = refl
