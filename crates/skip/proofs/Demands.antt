-- What a disjunct gives past a constraint, one demand at a time: none or one disjunct, and one insertion of it. For exclude_each
-- and skip_one.
use mathlib.Core.Path.{◌≡◌, refl, sym, ap, ◌∙◌}
use mathlib.Core.Bool.{Bool, true, false, cond, ◌&&◌, and-true}
use mathlib.Core.List.{List, [], ◌∷◌, map}
use Prim.Native.Nat.{ℕ, zero, suc, ◌+◌, ◌≤◌, ◌<◌}
use lib.Dec.{leb}
use lib.ListN.{length, take, drop, get_or, set}
use Rattle.std.proofs.Common.{Some}
use Rattle.laws.specs.Lists.{keep}
use Rattle.laws.specs.Sets.{insert, Grown, full, grown, within}
use Rattle.laws.proofs.Lists.{and_true_split}
use Rattle.meaning.specs.Events as Events
use Rattle.meaning.specs.Labels.{Entry, Disjunct, entry_of, is_free, exclusions, excluding, exclude, compare_disjuncts, meets, skip_one}
use Rattle.meaning.specs.Room.{exclusion_limit, held_limit, few_exclusions}
use Rattle.bounded.specs.Bounded.{grow_few}
use Rattle.bounded.proofs.Skips.{few_full, few_ascending}
use Rattle.packed.specs.Sets.{disjuncts_in, grown_in}
use Rattle.laws.specs.Order.{ascending}
use Rattle.demand.specs.declared.Constraint.{Constraint}
use Rattle.demand.specs.Constraints.{view_demand, demands_in, view_constraint}
use Rattle.demand.proofs.Views.{empty_demand, demands_next, demands_end}

-- the demands of a list whose variable D leaves free, each excluded
abbrev pub given : Disjunct → List Events.Demand → List Disjunct
given D ds = map (exclude D) (keep (λ x. is_free (entry_of D x.variable)) ds)

-- whether a variable has no seventh exclusion
abbrev entry_fits : Entry → Bool
entry_fits y = leb (length (exclusions y)) exclusion_limit

-- whether the exclusion of x is not the seventh one
abbrev pub fits : Disjunct → Events.Demand → Bool
fits D x = entry_fits (excluding (entry_of D x.variable) x.value)

set_few : (D : Disjunct) (v x : ℕ) → few_exclusions D ≡ true
    → few_exclusions (set D v (excluding (entry_of D v) x)) ≡ entry_fits (excluding (entry_of D v) x)
set_few [] v x h = refl
set_few (y ∷ D) zero x h =
    let r = and_true_split (entry_fits y) (few_exclusions D) h in
    ap (λ b. entry_fits (excluding y x) && b) r.1 ∙ and-true (entry_fits (excluding y x))
set_few (y ∷ D) (suc v) x h =
    let r = and_true_split (entry_fits y) (few_exclusions D) h in
    ap (λ b. b && few_exclusions (set D v (excluding (entry_of D v) x))) r.0 ∙ set_few D v x r.1

-- only the variable of the demand has an exclusion more
pub exclude_few : (D : Disjunct) (x : Events.Demand) → few_exclusions D ≡ true → few_exclusions (exclude D x) ≡ fits D x
exclude_few D x h = set_few D x.variable x.value h

module _ (D : Disjunct) (x : Events.Demand) (l : List Disjunct) where
  pub given_none : is_free (entry_of D x.variable) ≡ false → grow_few (given D (x ∷ [])) (grown l) ≡ grown l
  given_none h = rw h

  pub given_one : is_free (entry_of D x.variable) ≡ true → few_exclusions D ≡ true → (b : Bool) → fits D x ≡ b
      → grow_few (given D (x ∷ [])) (grown l) ≡ cond b (within held_limit (insert compare_disjuncts (exclude D x) l)) full
  given_one h f b e = rw (h, exclude_few D x f, e)

pub given_cons : (D : Disjunct) (x : Events.Demand) (ds : List Events.Demand) (g : Grown Disjunct)
    → grow_few (given D (x ∷ ds)) g ≡ grow_few (given D ds) (grow_few (given D (x ∷ [])) g)
given_cons D x ds g = go (is_free (entry_of D x.variable))
  where
    go : (b : Bool) → let later = keep (λ x. is_free (entry_of D x.variable)) ds in
        grow_few (map (exclude D) (cond b (x ∷ later) later)) g ≡ grow_few (given D ds) (grow_few (map (exclude D) (cond b (x ∷ []) [])) g)
    go true = refl
    go false = refl

-- the demands from i on give what the i-th gives, as the code holds it, and then what the others give
pub given_ahead : (c : Constraint) (D : Disjunct) (i : ℕ) (g : Grown Disjunct) → i < c.count → c.count ≤ length c.demands
    → grow_few (given D (drop i (demands_in c))) g
    ≡ grow_few (given D (drop (i + 1) (demands_in c))) (grow_few (given D (view_demand (get_or c.demands i empty_demand) ∷ [])) g)
given_ahead c D i g h k =
    ap (λ ds. grow_few (given D ds) g) (demands_next c i h k)
    ∙ given_cons D (view_demand (get_or c.demands i empty_demand)) (drop (i + 1) (demands_in c)) g

-- d past c by whether they meet
pub skip_met : (c : Constraint) (D : Disjunct) → meets D (view_constraint (Some c)) ≡ true → skip_one (view_constraint (Some c)) D ≡ given D (demands_in c)
skip_met c D h = rw h

pub skip_kept : (c : Constraint) (D : Disjunct) → meets D (view_constraint (Some c)) ≡ false → skip_one (view_constraint (Some c)) D ≡ D ∷ []
skip_kept c D h = rw h

-- d itself put among the others
pub kept_one : (D : Disjunct) (l : List Disjunct) → few_exclusions D ≡ true → grow_few (D ∷ []) (grown l) ≡ within held_limit (insert compare_disjuncts D l)
kept_one D l h = rw h

-- m disjuncts in the words `out` before the i-th demand of y on D: the set that is wanted is that of these and of what the demands left give
pub record Excluding (y : Constraint) (D : Disjunct) (base : List Disjunct) (out : List ℕ) (m i : ℕ) : Type 0 where
  pub few : m ≤ 128
  pub ordered : ascending compare_disjuncts (take m (disjuncts_in out)) ≡ true
  pub same : grow_few (given D (drop i (demands_in y))) (grown (take m (disjuncts_in out))) ≡ grow_few (given D (demands_in y)) (grown base)

module _ {y : Constraint} {D : Disjunct} {base : List Disjunct} {out : List ℕ} {m i : ℕ} (g : Excluding y D base out m i) where
  abbrev whole : Grown Disjunct
  whole = grow_few (given D (demands_in y)) (grown base)

  pub excluding_all : y.count ≤ i → grown (take m (disjuncts_in out)) ≡ whole
  excluding_all h = ap (λ ds. grow_few (given D ds) (grown (take m (disjuncts_in out)))) (sym (demands_end y i h)) ∙ g.same

  module _ (h : i < y.count) (k : y.count ≤ length y.demands) (few : few_exclusions D ≡ true) where
    abbrev demand : Events.Demand
    demand = view_demand (get_or y.demands i empty_demand)

    abbrev l : List Disjunct
    l = take m (disjuncts_in out)

    abbrev later : List Disjunct
    later = given D (drop (i + 1) (demands_in y))

    -- an answer by what the later demands give into a set, where this one gives it
    by_later : (a : Grown Disjunct) → a ≡ grow_few (given D (demand ∷ [])) (grown l) → grow_few later a ≡ whole
    by_later a e = ap (grow_few later) e ∙ sym (given_ahead y D i (grown l) h k) ∙ g.same

    pub excluding_passed : is_free (entry_of D demand.variable) ≡ false → Excluding y D base out m (i + 1)
    excluding_passed f = record { few = g.few; ordered = g.ordered; same = by_later (grown l) (sym (given_none D demand l f)) }

    module _ (f : is_free (entry_of D demand.variable) ≡ true) where
      -- a seventh exclusion
      pub excluding_seventh : fits D demand ≡ false → full ≡ whole
      excluding_seventh e = sym (few_full later) ∙ by_later full (sym (given_one D demand l f few false e))

      module _ (E : Disjunct) (ok : fits D demand ≡ true) (e : E ≡ exclude D demand) where
        put : (a : Grown Disjunct) → a ≡ within held_limit (insert compare_disjuncts E l) → a ≡ grow_few (given D (demand ∷ [])) (grown l)
        put a p = p ∙ ap (λ F. within held_limit (insert compare_disjuncts F l)) e ∙ sym (given_one D demand l f few true ok)

        pub excluding_full : full ≡ within held_limit (insert compare_disjuncts E l) → full ≡ whole
        excluding_full p = sym (few_full later) ∙ by_later full (put full p)

        pub excluding_more : (out' : List ℕ) (m' : ℕ) → m' ≤ 128 → grown_in (Some m') out' ≡ within held_limit (insert compare_disjuncts E l)
            → Excluding y D base out' m' (i + 1)
        excluding_more out' m' c p =
            let r = take m' (disjuncts_in out') in
            let q = put (grown r) p in
            record { few = c; ordered = few_ascending (given D (demand ∷ [])) l r g.ordered (sym q); same = by_later (grown r) q }
