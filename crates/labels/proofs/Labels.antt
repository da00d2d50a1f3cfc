-- The new label of a position by what became of its step set and of its skip set. For `new_label`.
use mathlib.Core.Path.{◌≡◌, refl, sym, ap₂, ◌∙◌}
use mathlib.Core.Bool.{Bool, true, false, cond, not, and-false}
use mathlib.Core.List.{List, []}
use Prim.Native.Nat.{ℕ}
use native.Mathlib.Omega.{arith}
use lib.Dec.{eqb, leb}
use lib.ListN.{length}
use borrow.Author.Tests.{eq-eqb, ne_eqb}
use Rattle.laws.specs.Bits.{bit}
use Rattle.laws.specs.Order.{ascending}
use Rattle.laws.specs.Sets.{insert_all, Grown, full, grown, within}
use Rattle.laws.proofs.Sets.{set_of_ascending}
use Rattle.meaning.specs.Events.{Constraint}
use Rattle.meaning.specs.Labels.{Disjunct, compare_disjuncts, skip_through}
use Rattle.meaning.specs.Room.{held_limit, skip_room}
use Rattle.automaton.proofs.Orders.{disjunct_order}
use Rattle.bounded.specs.Bounded.{pick, with_start, met_list, met_set, skipped_through, labelled}

-- no room, and a set, against a set that there is room for, or not
module _ (l : List Disjunct) where
  over : (t : Bool) → full ≡ cond t (grown l) full → t ≡ false
  over true e = cc
  over false e = refl

  fits : (k : List Disjunct) (t : Bool) → grown k ≡ cond t (grown l) full → (t ≡ true) × (k ≡ l)
  fits k true e = (refl, cc)
  fits k false e = let z : ◌≡◌ {A = ℕ} 0 1 = cc in absurd (omega arith)

-- the step set in its words, which ascends
step_fits_law : (c : Constraint) (l k : List Disjunct) → grown k ≡ within held_limit (met_set c l) → k ≡ met_set c l
step_fits_law c l k d = (fits (met_set c l) k (leb (length (met_set c l)) held_limit) d).1

pub step_ascending : (c : Constraint) (l k : List Disjunct) → grown k ≡ within held_limit (met_set c l) → ascending compare_disjuncts k ≡ true
unfolding met_set
step_ascending c l k d = rw (step_fits_law c l k d) (set_of_ascending disjunct_order (met_list c l))

module _ (c : Constraint) (cs : List Constraint) (begins : Bool) (q : ℕ) (ps ms : List ℕ) (l : List Disjunct) where
  -- the step set, and the old label
  abbrev stepped : List Disjunct
  stepped = met_set c (with_start begins (pick (λ m. bit q m) ms l))

  abbrev old : List Disjunct
  old = pick (eqb q) ps l

  abbrev step_fits : Bool
  step_fits = leb (length stepped) held_limit

  pub step_over : (goes_on : Bool) → full ≡ within held_limit stepped → full ≡ labelled c cs begins goes_on q ps ms l
  unfolding labelled
  step_over goes_on e = rw (over stepped step_fits e)

  pub skip_over : (goes_on : Bool) → full ≡ skipped_through cs old → full ≡ labelled c cs begins goes_on q ps ms l
  unfolding labelled skipped_through
  skip_over goes_on e = rw (over (skip_through cs old) (skip_room cs old) e, and-false)

  -- both sets with room; f is the set of the positions that follow
  module _ (a b : List Disjunct) (d : grown a ≡ within held_limit stepped) (e : grown b ≡ skipped_through cs old) where
    skip_fits_law : (skip_room cs old ≡ true) × (b ≡ skip_through cs old)
    unfolding skipped_through
    skip_fits_law = fits (skip_through cs old) b (skip_room cs old) e

    pub label_none : (f : ℕ) → f ≡ 0 → grown [] ≡ labelled c cs begins (not (eqb f 0)) q ps ms l
    unfolding labelled
    label_none f z = sym (rw ((fits stepped a step_fits d).0, skip_fits_law.0, eq-eqb f 0 z))

    pub label_joined : (f : ℕ) (g : Grown Disjunct) → (f ≡ 0 → ⊥)
        → g ≡ within held_limit (insert_all compare_disjuncts b a)
        → g ≡ labelled c cs begins (not (eqb f 0)) q ps ms l
    unfolding labelled
    label_joined f g z h =
        h ∙ ap₂ (λ x y. within held_limit (insert_all compare_disjuncts x y)) skip_fits_law.1 (step_fits_law c _ a d)
        ∙ sym (rw ((fits stepped a step_fits d).0, skip_fits_law.0, ne_eqb f 0 z))
