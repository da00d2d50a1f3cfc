-- `Slot::free` meets its contract: nothing padded is all zeros.
use mathlib.Core.Path.{refl}
use Rattle.laws.specs.Parts.{pad}
use Rattle.slot.specs.Slots.{slot_of}
use Rattle.slot.proofs.Slot.free.Goals as goal

pub returns : goal.returns
unfolding slot_of pad
returns c = refl
