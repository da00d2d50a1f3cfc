-- The code's disjunct against the plain one: a disjunct that is coded and read again, how many variables it has, and what the
-- type alone tells of one. For the crates that hold disjuncts.
use mathlib.Core.Path.{◌≡◌, refl, sym, ap₂, subst, ◌∙◌}
use mathlib.Core.Bool.{Bool, true, ◌&&◌}
use mathlib.Core.List.Memᴰ
use mathlib.Core.List.{List, [], ◌∷◌, map, Memᴰ}
use mathlib.Core.Logic.{⊎_elim}
use native.Mathlib.Omega.{arith}
use borrow.Author.Tests.{leb-true, le-leb}
use denote.Laws.{Is}
use denote.Shadow.{shadow}
use denote.Array.{each}
use mir.Val.{Val}
use lib.Dec.{leb}
use lib.ListN.{length, length-map}
use Rattle.laws.specs.Lists.{all}
use Rattle.laws.specs.Parts.{pad}
use Rattle.laws.proofs.Lists.{and_true_split}
use Rattle.laws.proofs.Parts.{pad_full, map_pad}
use Rattle.meaning.specs.Labels as Labels
use Rattle.meaning.specs.Labels.{free, free_disjunct}
use Rattle.meaning.specs.Room.{few_exclusions}
use Rattle.slot.specs.declared.Slot.{Slot}
use Rattle.slot.specs.Slots.{view_slot, slot_of}
use Rattle.slot.proofs.Slots.{view_slot_law, few_excluded}
use Rattle.slot.specs.contracts.Slot as slots
use Rattle.disjunct.specs.declared.Disjunct.{Disjunct}
use Rattle.disjunct.specs.Disjuncts.{view_disjunct, disjunct_of}
use Rattle.disjunct.specs.contracts.Disjunct as disjuncts

view_slots : (D : Labels.Disjunct) → map view_slot (map slot_of D) ≡ D
view_slots [] = refl
view_slots (x ∷ D) = ap₂ ◌∷◌ (view_slot_law x) (view_slots D)

-- coded and read again, a disjunct is as it was, and free at the variables that it did not have
pub view_disjunct_law : (D : Labels.Disjunct) → view_disjunct (disjunct_of D) ≡ pad 4 (free []) D
unfolding view_disjunct disjunct_of
view_disjunct_law D = map_pad view_slot 4 (slot_of (free [])) (map slot_of D) ∙ ap₂ (pad 4) (view_slot_law (free [])) (view_slots D)

-- the free disjunct is as it was
pub free_view : view_disjunct (disjunct_of (free_disjunct 4)) ≡ free_disjunct 4
free_view = view_disjunct_law (free_disjunct 4) ∙ pad_full 4 (free []) (free_disjunct 4) (omega arith)

pub view_length : (d : Disjunct) → length d.vars ≡ 4 → length (view_disjunct d) ≡ 4
unfolding view_disjunct
view_length d h = length-map d.vars view_slot ∙ h

-- a slot with no more than six places for exclusions
abbrev pub six_exclusions : Slot → Bool
six_exclusions s = leb (length s.excluded) 6

few_slots : (l : List Slot) → all six_exclusions l ≡ true → few_exclusions (map view_slot l) ≡ true
few_slots [] h = refl
few_slots (s ∷ l) h =
    let e = and_true_split (six_exclusions s) (all six_exclusions l) h in
    ap₂ ◌&&◌ (few_excluded s (leb-true _ _ e.0)) (few_slots l e.1)

pub few_disjunct : (d : Disjunct) → all six_exclusions d.vars ≡ true → few_exclusions (view_disjunct d) ≡ true
unfolding view_disjunct
few_disjunct d h = few_slots d.vars h

-- what the type tells of an array of slots
six_slots : (l : List Slot) (us : List Val)
    → shadow (each (slots.the_row).Denot (slots.the_row).own_val l us) → all six_exclusions l ≡ true
six_slots [] us h = refl
six_slots (s ∷ l) [] h = absurd h
six_slots (s ∷ l) (u ∷ us) h =
    ap₂ ◌&&◌ (le-leb (length s.excluded) 6 (omega (arith, h.0.1.1.1.1.1.0.1.0.1))) (six_slots l us h.1)

-- the arrays of a disjunct have their lengths
pub record Sized (d : Disjunct) : Type 0 where
  pub four : length d.vars ≡ 4
  pub six : all six_exclusions d.vars ≡ true

-- what the kit tells of a disjunct: a parameter's part of `c.well_formed`, or what a call gives, `c.f.type_inv`
pub sized : (d : Disjunct) {vs : List Val} → Is disjuncts.the_row d vs → Sized d
sized d h =
    let a = h.1.1.0 in
    record { four = a.1.0.1; six = six_slots d.vars a.0 a.1.1 }

-- of each disjunct of an array: with a the array's part of `c.well_formed`, us is a.0 and the fact a .1 .1
pub sized_in : (l : List Disjunct) (us : List Val)
    → shadow (each (disjuncts.the_row).Denot (disjuncts.the_row).own_val l us)
    → (d : Disjunct) → Memᴰ d l → Sized d
sized_in [] us h d m = absurd (Memᴰ.not-nil m)
sized_in (x ∷ l) [] h d m = absurd h
sized_in (x ∷ l) (u ∷ us) h d m = ⊎_elim (λ e. subst Sized (sym e) (sized x h.0)) (sized_in l us h.1 d) (Memᴰ.cases_cons m)
