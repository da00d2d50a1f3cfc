-- One step of a set that grows, as the code answers it: the set as it stands then, or that there is no room. For the loop of skip_by.
use mathlib.Core.Path.{◌≡◌, sym, ap, ◌∙◌}
use mathlib.Core.Bool.{true}
use mathlib.Core.List.{List}
use Rattle.laws.specs.Order.{ascending}
use Rattle.laws.specs.Sets.{full, grown}
use Rattle.meaning.specs.Labels.{Disjunct, compare_disjuncts}
use Rattle.bounded.specs.Bounded.{grow_few}
use Rattle.bounded.proofs.Skips.{few_full, few_ascending}

module _ (xs l : List Disjunct) where
  -- what is to be inserted yet goes into the set
  pub step_grown : (k ys : List Disjunct) → grown k ≡ grow_few xs (grown l) → grow_few ys (grow_few xs (grown l)) ≡ grow_few ys (grown k)
  step_grown k ys e = ap (grow_few ys) (sym e)

  pub step_ascending : (k : List Disjunct) → grown k ≡ grow_few xs (grown l) → ascending compare_disjuncts l ≡ true → ascending compare_disjuncts k ≡ true
  step_ascending k e h = few_ascending xs l k h (sym e)

  pub step_full : (ys : List Disjunct) → full ≡ grow_few xs (grown l) → grow_few ys (grow_few xs (grown l)) ≡ full
  step_full ys e = ap (grow_few ys) (sym e) ∙ few_full ys
