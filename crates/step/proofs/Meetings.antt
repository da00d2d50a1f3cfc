-- What is met of a list of disjuncts, put into a set: of one disjunct, of one list after another, of the start alone. For the proofs
-- of the step set.
use mathlib.Core.Path.{◌≡◌, refl, sym, ap, ◌∙◌}
use mathlib.Core.Bool.{Bool, true, false}
use mathlib.Core.List.{List, [], ◌∷◌, ◌++◌}
use Prim.Native.Nat.{◌<◌, Ordering}
use lib.ListN.{length, take, set}
use lib.Seq.{take-suc-set}
use Rattle.laws.specs.Order.{ascending}
use Rattle.laws.specs.Sets.{insert, insert_all, Grown, within}
use Rattle.laws.proofs.Sets.{set_of_ascending}
use Rattle.meaning.specs.Events.{Constraint, never}
use Rattle.meaning.specs.Labels.{Disjunct, free_disjunct, compare_disjuncts, meets, met}
use Rattle.automaton.proofs.Orders.{disjunct_order}
use Rattle.bounded.specs.Bounded.{with_start, met_list, met_set}
use Rattle.bounded.proofs.RowSets.{met_append, met_never, met_one, met_none}

insert_all_append : {A : Type 0} (cmp : A → A → Ordering) (a b l : List A) → insert_all cmp (a ++ b) l ≡ insert_all cmp b (insert_all cmp a l)
insert_all_append cmp [] b l = refl
insert_all_append cmp (x ∷ a) b l = insert_all_append cmp a b (insert cmp x l)

module _ (c : Constraint) where
  pub met_both : (a b l : List Disjunct)
      → insert_all compare_disjuncts (met_list c (a ++ b)) l ≡ insert_all compare_disjuncts (met_list c b) (insert_all compare_disjuncts (met_list c a) l)
  met_both a b l =
      ap (λ m. insert_all compare_disjuncts m l) (met_append c a b) ∙ insert_all_append compare_disjuncts (met_list c a) (met_list c b) l

  pub met_yes : (D : Disjunct) (l : List Disjunct) → meets D c ≡ true → insert_all compare_disjuncts (met_list c (D ∷ [])) l ≡ insert compare_disjuncts (met D c) l
  met_yes D l h = ap (λ m. insert_all compare_disjuncts m l) (met_one c D h)

  pub met_no : (D : Disjunct) (l : List Disjunct) → meets D c ≡ false → insert_all compare_disjuncts (met_list c (D ∷ [])) l ≡ l
  met_no D l h = ap (λ m. insert_all compare_disjuncts m l) (met_none c D h)

  -- the start alone, and the start before other disjuncts
  pub met_start : met_set c (with_start true []) ≡ insert_all compare_disjuncts (met_list c (free_disjunct 4 ∷ [])) []
  unfolding met_set with_start
  met_start = refl

  pub met_no_start : met_set c (with_start false []) ≡ []
  unfolding met_set with_start met_list
  met_no_start = refl

  met_started : (begins : Bool) (l : List Disjunct) → insert_all compare_disjuncts (met_list c l) (met_set c (with_start begins [])) ≡ met_set c (with_start begins l)
  unfolding met_set with_start
  met_started true l = sym (met_both (free_disjunct 4 ∷ []) l [])
  met_started false l = ap (insert_all compare_disjuncts (met_list c l)) met_no_start

  -- a set with room for so many that grew from the start's part is that of all
  pub grown_started : (begins : Bool) (l b : List Disjunct) (g : Grown Disjunct) → b ≡ met_set c (with_start begins [])
      → g ≡ within 128 (insert_all compare_disjuncts (met_list c l) b) → g ≡ within 128 (met_set c (with_start begins l))
  grown_started begins l b g e h = h ∙ ap (within 128) (ap (insert_all compare_disjuncts (met_list c l)) e ∙ met_started begins l)

  -- the start that meets c, written into the first place, and the start that does not
  pub met_begun : (D : Disjunct) (l : List Disjunct) (b : Bool) → 0 < length l → b ≡ true → meets (free_disjunct 4) c ≡ true → D ≡ met (free_disjunct 4) c
      → take 1 (set l 0 D) ≡ met_set c (with_start b [])
  met_begun D l b h t m e = take-suc-set l 0 D h ∙ ap (λ E. E ∷ []) e ∙ sym (rw t (met_start ∙ met_yes (free_disjunct 4) [] m))

  pub met_not_begun : (b : Bool) → b ≡ true → meets (free_disjunct 4) c ≡ false → [] ≡ met_set c (with_start b [])
  met_not_begun b t m = sym (rw t (met_start ∙ met_no (free_disjunct 4) [] m))

pub met_ascending : (c : Constraint) (l : List Disjunct) {b : List Disjunct} → b ≡ met_set c l → ascending compare_disjuncts b ≡ true
unfolding met_set
met_ascending c l e = ap (ascending compare_disjuncts) e ∙ set_of_ascending disjunct_order (met_list c l)

-- nothing meets a false constraint
pub none_met : (l : List Disjunct) → met_set never l ≡ []
unfolding met_set
none_met l = ap (λ m. insert_all compare_disjuncts m []) (met_never l)
