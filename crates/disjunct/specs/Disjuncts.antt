-- How the code holds a disjunct: four slots, those beyond the book's variables free.
use Rattle.std.specs.Prelude.{[], map}
use Rattle.laws.specs.Parts.{pad}
use Rattle.meaning.specs.Labels as Labels
use Rattle.meaning.specs.Limits.{variable_limit}
use Rattle.slot.specs.Slots.{view_slot, slot_of}
use Rattle.disjunct.specs.declared.Disjunct.{Disjunct}

-- code to plain, all four variables
unfoldable pub view_disjunct : Disjunct → Labels.Disjunct
view_disjunct d = map view_slot d.vars

-- plain to code
unfoldable pub disjunct_of : Labels.Disjunct → Disjunct
disjunct_of D = record { vars = pad variable_limit (slot_of (Labels.Entry.free [])) (map slot_of D) }
