-- Symbols, events, constraints and valuations: document 01, "Events, valuations, rows"; document 02, change 1; source document 000, 4.2.
use Rattle.std.specs.Prelude.{Bool, true, false, cond, not, ◌&&◌, ◌||◌, List, [], ◌∷◌, ◌++◌, ℕ, ◌^◌, eqb, leb, ltb, length, get_or}
use Rattle.laws.specs.Lists.{any, all}
use Rattle.meaning.specs.Limits.{kind_limit, argument_limit}

-- an argument place of a symbol: `_` ("that argument is ignored"), a declared variable by its number from 0, or `=` and a number
pub data Parameter : Type 0 where
  ignored : Parameter
  names : ℕ → Parameter
  fixed : ℕ → Parameter

-- `sym NAME KIND ARGS`
pub record Symbol : Type 0 where
  pub kind : ℕ
  pub parameters : List Parameter

-- an event record: kind and arguments
pub record Event : Type 0 where
  pub kind : ℕ
  pub args : List ℕ

-- "a 32-bit number"
abbrev pub word32 : ℕ → Bool
word32 x = ltb x (2 ^ 32)

-- "byte 0 kind (1 to 255); byte 1 argument count (0 to 4); … unsigned 32-bit … arguments"
unfoldable pub well_formed : Event → Bool
well_formed e = leb 1 e.kind && leb e.kind kind_limit && leb (length e.args) argument_limit && all word32 e.args

-- "variable equals argument"
pub record Demand : Type 0 where
  pub variable : ℕ
  pub value : ℕ

-- a constraint: false, or demands that must all hold
pub data Constraint : Type 0 where
  never : Constraint
  demands : List Demand → Constraint

-- "A symbol matches an event when the kinds are equal and the event's argument count equals the symbol's."
unfoldable pub matches : Symbol → Event → Bool
matches s e = eqb s.kind e.kind && eqb (length s.parameters) (length e.args)

-- what a place asks of its argument
abbrev pub demand_of : Parameter → ℕ → List Demand
demand_of ignored x = []
demand_of (names v) x = record { variable = v; value = x } ∷ []
demand_of (fixed n) x = []

-- "'variable equals argument' for each bound place"
abbrev pub demands_of : List Parameter → List ℕ → List Demand
demands_of [] xs = []
demands_of (p ∷ ps) [] = []
demands_of (p ∷ ps) (x ∷ xs) = demand_of p x ++ demands_of ps xs

-- "two unequal demands on one variable make it false"
abbrev pub compatible : Demand → Demand → Bool
compatible c d = not (eqb c.variable d.variable) || eqb c.value d.value

-- no two demands are unequal on one variable
abbrev pub consistent : List Demand → Bool
consistent [] = true
consistent (d ∷ ds) = all (compatible d) ds && consistent ds

-- "The symbol's constraint is false where that argument differs." (document 02, change 1): whether it does not, at a place
abbrev pub fixed_at : Parameter → ℕ → Bool
fixed_at ignored x = true
fixed_at (names v) x = true
fixed_at (fixed n) x = eqb n x

-- the same at each place of a symbol
abbrev pub fixed_all : List Parameter → List ℕ → Bool
fixed_all [] xs = true
fixed_all (p ∷ ps) [] = true
fixed_all (p ∷ ps) (x ∷ xs) = fixed_at p x && fixed_all ps xs

-- the symbol's constraint on an event; "as does no match"
unfoldable pub constraint_of : Symbol → Event → Constraint
constraint_of s e =
    let ds = demands_of s.parameters e.args in
    cond (matches s e && fixed_all s.parameters e.args && consistent ds) (demands ds) never

-- a number for each variable, by declaration
abbrev pub Valuation : Type 0
Valuation = List ℕ

-- "A valuation gives each variable a 32-bit number; with no variables there is one, the empty valuation."
unfoldable pub is_valuation : ℕ → Valuation → Bool
is_valuation variables σ = eqb (length σ) variables && all word32 σ

-- "variable equals argument", read for a valuation
abbrev pub agrees : Valuation → Demand → Bool
agrees σ d = eqb (get_or σ d.variable 0) d.value

-- whether a constraint holds under a valuation
abbrev pub satisfies : Constraint → Valuation → Bool
satisfies never σ = false
satisfies (demands ds) σ = all (agrees σ) ds

-- "'variable equals argument' for each bound place", read for a valuation straight from the symbol and the event: no demand is
-- gathered and none is compared with another. An ignored place asks nothing; at a fixed place the argument is the number.
abbrev pub equal_at : Valuation → Parameter → ℕ → Bool
equal_at σ ignored x = true
equal_at σ (names v) x = eqb (get_or σ v 0) x
equal_at σ (fixed n) x = eqb n x

-- the same at each place of a symbol
abbrev pub equal_all : Valuation → List Parameter → List ℕ → Bool
equal_all σ [] [] = true
equal_all σ [] (x ∷ xs) = false
equal_all σ (p ∷ ps) [] = false
equal_all σ (p ∷ ps) (x ∷ xs) = equal_at σ p x && equal_all σ ps xs

-- The declarative meaning's own word for "the symbol's constraint on the event holds under the valuation": the kinds are equal, there are as
-- many arguments as places, each bound place's variable equals its argument and each fixed place's number equals its argument. `matches` and
-- the matcher's constraint do not enter; that they say the same is a law (../proofs/Holds.antt).
unfoldable pub holds : Symbol → Event → Valuation → Bool
holds s e σ = eqb s.kind e.kind && equal_all σ s.parameters e.args

-- "An event concerns a valuation if some symbol's constraint holds under it."
unfoldable pub concerns : List Symbol → Event → Valuation → Bool
concerns symbols e σ = any (λ s. holds s e σ) symbols
