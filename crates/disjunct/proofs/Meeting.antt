-- A disjunct met with the demands of a constraint one after the other: one step of the meeting. For `Disjunct::meet`.
use mathlib.Core.Path.{◌≡◌, ap, ◌∙◌}
use mathlib.Core.Bool.{Bool, ◌&&◌}
use mathlib.Core.List.{List, ◌∷◌}
use lib.ListN.{set}
use Rattle.meaning.specs.Events as Events
use Rattle.meaning.specs.Labels as Labels
use Rattle.meaning.specs.Labels.{bound, entry_of, admits, bind, meets_all}
use Rattle.demand.specs.declared.Demand.{Demand}
use Rattle.demand.specs.Constraints.{view_demand}
use Rattle.slot.specs.declared.Slot.{Slot}
use Rattle.slot.specs.Slots.{view_slot, slot_of}
use Rattle.disjunct.specs.declared.Disjunct.{Disjunct}
use Rattle.disjunct.specs.Disjuncts.{view_disjunct}
use Rattle.disjunct.proofs.Slots.{view_set}

-- one variable bound
pub bound_view : (d : Disjunct) (x : Demand) (s : Slot) → s ≡ slot_of (bound x.value)
    → view_disjunct (record { vars = set d.vars x.variable s }) ≡ bind (view_disjunct d) (view_demand x)
unfolding view_slot slot_of
bound_view d x s e = view_set d x.variable s ∙ ap (λ t. set (view_disjunct d) x.variable (view_slot t)) e

-- the first demand of those ahead is admitted or not
pub meets_first : (D : Labels.Disjunct) {l ds : List Events.Demand} {x : Events.Demand} {b : Bool} → l ≡ x ∷ ds
    → admits (entry_of D x.variable) x.value ≡ b → meets_all D l ≡ (b && meets_all (bind D x) ds)
meets_first D {ds} {x} e h = ap (meets_all D) e ∙ ap (λ b. b && meets_all (bind D x) ds) h
