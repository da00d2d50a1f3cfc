-- How the code holds a constraint: the view of it is the constraint of the meaning.
use Rattle.std.specs.Prelude.{◌≡◌, true, List, map, ◌≤◌, ltb, take, Option, Some, None}
use Rattle.laws.specs.Lists.{all}
use Rattle.meaning.specs.Events as Events
use Rattle.meaning.specs.Limits.{variable_limit, parameter_limit}
use Rattle.demand.specs.declared.Demand.{Demand}
use Rattle.demand.specs.declared.Constraint.{Constraint}

abbrev pub view_demand : Demand → Events.Demand
view_demand d = record { variable = d.variable; value = d.value }

-- the demands that are counted
unfoldable pub demands_in : Constraint → List Events.Demand
demands_in c = map view_demand (take c.count c.demands)

abbrev pub view_constraint : Option Constraint → Events.Constraint
view_constraint None = Events.Constraint.never
view_constraint (Some c) = Events.Constraint.demands (demands_in c)

-- no demand and no constraint, for places that hold none
abbrev pub no_demand : Events.Demand
no_demand = record { variable = 0; value = 0 }

abbrev pub no_constraint : Option Constraint
no_constraint = None

-- a constraint that the code has built: four places, no more counted, and every demand on one of four variables
pub record Ready (c : Constraint) : Type 0 where
  pub few : c.count ≤ parameter_limit
  pub within : all (λ d. ltb d.variable variable_limit) (demands_in c) ≡ true
