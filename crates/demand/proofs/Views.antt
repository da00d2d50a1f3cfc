-- What a constraint of the code says: its counted demands by element, from a number on, and by their bound.
-- For the crates above.
use mathlib.Core.Path.{◌≡◌, refl, sym, ap, ◌∙◌}
use mathlib.Core.Bool.{Bool}
use mathlib.Core.List.{[], ◌∷◌}
use Prim.Native.Nat.{ℕ, ◌+◌, ◌≤◌, ◌<◌}
use lib.ListN.{length, take, drop, get_or, get_or-map}
use lib.Seq.{get_or-take}
use lib.Dec.{ltb}
use borrow.Author.Tests.{ltb-true}
use Rattle.laws.proofs.Lists.{all_get_d}
use Rattle.laws.proofs.Maps.{mapped_cons, mapped_none}
use Rattle.meaning.specs.Events as Events
use Rattle.demand.specs.declared.Demand.{Demand}
use Rattle.demand.specs.declared.Constraint.{Constraint}
use Rattle.demand.specs.Constraints.{view_demand, demands_in, no_demand, Ready}

-- the struct that holds no demand
abbrev pub empty_demand : Demand
empty_demand = record { variable = 0; value = 0 }

module _ (c : Constraint) where
  pub demand_at : length c.demands ≡ 4 → c.count ≤ 4 → (i : ℕ) → i < c.count
      → get_or (demands_in c) i no_demand ≡ view_demand (get_or c.demands i empty_demand)
  unfolding demands_in
  demand_at l h i k =
      get_or-map view_demand (take c.count c.demands) i empty_demand ∙ ap view_demand (get_or-take c.count c.demands i empty_demand k)

  -- the demands from number i on, by the first of them
  pub demands_next : (i : ℕ) → i < c.count → c.count ≤ length c.demands
      → drop i (demands_in c) ≡ view_demand (get_or c.demands i empty_demand) ∷ drop (i + 1) (demands_in c)
  unfolding demands_in
  demands_next i h g = mapped_cons view_demand c.demands c.count i empty_demand h g

  pub demands_end : (i : ℕ) → c.count ≤ i → drop i (demands_in c) ≡ []
  unfolding demands_in
  demands_end i h = mapped_none view_demand c.demands c.count i h

  pub demand_below : Ready c → length c.demands ≡ 4 → (i : ℕ) → i < c.count → (get_or c.demands i empty_demand).variable < 4
  demand_below r l i k =
      let f : Events.Demand → Bool = λ d. ltb d.variable 4 in
      ltb-true _ 4 (sym (ap f (demand_at l r.few i k)) ∙ all_get_d f (demands_in c) i no_demand refl r.within)
