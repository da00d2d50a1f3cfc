-- Disjuncts, their order, and the labels of positions: document 01, "Labels and room"; source document 000, 4.6.
-- Nothing here is bounded: what there is no room for is said in Room.
use Rattle.std.specs.Prelude.{Bool, true, false, cond, not, ◌&&◌, List, [], ◌∷◌, ◌++◌, map, eqb, get_or, set, replicate}
use Prim.Native.Nat.{ℕ, suc, compare, Ordering}
use Rattle.laws.specs.Lists.{any, keep, gather}
use Rattle.laws.specs.Order.{and_then, lex}
use Rattle.laws.specs.Sets.{insert, insert_all, set_of}
use Rattle.meaning.specs.Events.{Event, Demand, Constraint, never, demands, constraint_of}
use Rattle.meaning.specs.Book.{Book, positions, begins_at, follows_at, goes_on, symbol_of}

-- what a disjunct says of one variable: "a value, or leaves it free with a set of … excluded values"
pub data Entry : Type 0 where
  bound : ℕ → Entry
  free : List ℕ → Entry

-- "A disjunct gives each variable a value, or leaves it free": an entry for each variable, by declaration
abbrev pub Disjunct : Type 0
Disjunct = List Entry

-- "The free disjunct has nothing bound and nothing excluded"
abbrev pub free_disjunct : ℕ → Disjunct
free_disjunct variables = replicate variables (free [])

-- what D says of variable v
abbrev pub entry_of : Disjunct → ℕ → Entry
entry_of D v = get_or D v (free [])

-- "leaves it free"
abbrev pub is_free : Entry → Bool
is_free (bound a) = false
is_free (free xs) = true

-- "then by values (a free variable before any value), then by exclusion lists, a list before any that it begins"
abbrev pub value_key : Entry → ℕ
value_key (bound a) = suc a
value_key (free xs) = 0

-- the "excluded values"; a bound variable has none
abbrev pub exclusions : Entry → List ℕ
exclusions (bound a) = []
exclusions (free xs) = xs

-- the order of disjuncts at one position
unfoldable pub compare_disjuncts : Disjunct → Disjunct → Ordering
compare_disjuncts D E =
    and_then (lex compare (map value_key D) (map value_key E)) (lex (lex compare) (map exclusions D) (map exclusions E))

-- "false if a variable is bound otherwise or the value is excluded"
abbrev pub admits : Entry → ℕ → Bool
admits (bound a) x = eqb a x
admits (free xs) x = not (any (eqb x) xs)

-- "a newly bound variable loses its exclusions"
abbrev pub bind : Disjunct → Demand → Disjunct
bind D d = set D d.variable (bound d.value)

-- "Meeting a disjunct with a constraint yields a new disjunct or false": whether it yields one, and which
abbrev pub meets_all : Disjunct → List Demand → Bool
meets_all D [] = true
meets_all D (d ∷ ds) = admits (entry_of D d.variable) d.value && meets_all (bind D d) ds

-- the new disjunct, bound to one demand after the other
abbrev pub met_all : Disjunct → List Demand → Disjunct
met_all D [] = D
met_all D (d ∷ ds) = met_all (bind D d) ds

-- the same for a constraint: met with a false one it is false
abbrev pub meets : Disjunct → Constraint → Bool
meets D never = false
meets D (demands ds) = meets_all D ds

-- the disjunct that the meeting yields
abbrev pub met : Disjunct → Constraint → Disjunct
met D never = D
met D (demands ds) = met_all D ds

-- "with c's value excluded there"
abbrev pub excluding : Entry → ℕ → Entry
excluding (bound a) x = bound a
excluding (free xs) x = free (insert compare x xs)

-- D "with c's value excluded there", for one variable of c
abbrev pub exclude : Disjunct → Demand → Disjunct
exclude D d = set D d.variable (excluding (entry_of D d.variable) d.value)

-- "c false, or D met with c false, keeps D. Otherwise D gives one disjunct for each variable of c free in D, with c's
-- value excluded there; none if no variable of c is free in D."
abbrev pub skip_one : Constraint → Disjunct → List Disjunct
skip_one never D = D ∷ []
skip_one (demands ds) D =
    cond (meets_all D ds) (map (exclude D) (keep (λ d. is_free (entry_of D d.variable)) ds)) (D ∷ [])

-- a set of disjuncts taken past one symbol, and past several, in their order
unfoldable pub skip_by : Constraint → List Disjunct → List Disjunct
skip_by c l = set_of compare_disjuncts (gather (skip_one c) l)

-- "taken through all symbols in declaration order"
abbrev pub skip_through : List Constraint → List Disjunct → List Disjunct
skip_through [] l = l
skip_through (c ∷ cs) l = skip_through cs (skip_by c l)

-- a disjunct in the label of a position
pub record Held : Type 0 where
  pub position : ℕ
  pub disjunct : Disjunct

-- D in the label of position p
abbrev pub held_at : ℕ → Disjunct → Held
held_at p D = record { position = p; disjunct = D }

-- positions and disjuncts as what is held
abbrev pub held_of : List ℕ → List Disjunct → List Held
held_of [] l = []
held_of (p ∷ ps) [] = []
held_of (p ∷ ps) (D ∷ l) = held_at p D ∷ held_of ps l

-- "Held disjuncts stand by position, then by values …, then by exclusion lists"
abbrev pub compare_held : Held → Held → Ordering
compare_held g h = and_then (compare g.position h.position) (compare_disjuncts g.disjunct h.disjunct)

-- the label of position p
abbrev pub label_of : List Held → ℕ → List Disjunct
label_of held p = map (λ h. h.disjunct) (keep (λ h. eqb h.position p) held)

-- "each disjunct of the start (if q begins) and of each position that q follows"; the free disjunct "is the start's
-- label for ever"
unfoldable pub sources : Book → List Held → ℕ → List Disjunct
sources b held q =
    cond (begins_at b q) (free_disjunct b.variables ∷ []) []
    ++ map (λ h. h.disjunct) (keep (λ h. follows_at b h.position q) held)

module _ (b : Book) (held : List Held) (e : Event) where
  -- "The step set of q: its symbol's constraint met with each disjunct of …"
  unfoldable pub step_set : ℕ → List Disjunct
  step_set q =
      let c = constraint_of (symbol_of b q) e in
      set_of compare_disjuncts (map (λ D. met D c) (keep (λ D. meets D c) (sources b held q)))

  -- "The skip set of p: its old label taken through all symbols in declaration order."
  unfoldable pub skip_set : ℕ → List Disjunct
  skip_set p = skip_through (map (λ s. constraint_of s e) b.symbols) (label_of held p)

  -- "New label: both sets joined. A position that nothing follows keeps none. Equal disjuncts are one."
  unfoldable pub new_label : ℕ → List Disjunct
  new_label p = let l = insert_all compare_disjuncts (skip_set p) (step_set p) in cond (goes_on b p) l []

  -- all new labels together, in the order of what is held
  unfoldable pub new_held : List Held
  new_held = gather (λ p. map (held_at p) (new_label p)) (positions b)

-- the state of a watch: how many events it has accepted, and what it holds
pub record State : Type 0 where
  pub number : ℕ
  pub held : List Held

-- nothing held after so many events
abbrev pub fresh_at : ℕ → State
fresh_at n = record { number = n; held = [] }

-- "A fresh state has all 128 disjunct places free and event number 0."
abbrev pub fresh : State
fresh = fresh_at 0

-- the state after an accepted event: "event number (… from 1, counting accepted events)"
abbrev pub next : Book → State → Event → State
next b s e = record { number = suc s.number; held = new_held b s.held e }
