-- The work sets of one event over the lists that the code holds: positions, masks of the positions that follow each, and
-- disjuncts, the same number of each. A set that may hold only so many elements is `full` once it would hold more.
use Rattle.std.specs.Prelude.{Bool, true, false, cond, ◌&&◌, ◌||◌, List, [], ◌∷◌, ◌++◌, map, ℕ, eqb, leb, length, take}
use Rattle.laws.specs.Bits.{bit}
use Rattle.laws.specs.Lists.{any, keep}
use Rattle.laws.specs.Order.{ascending}
use Rattle.laws.specs.Sets.{insert_all, set_of, Grown, full, grown, within, grow, grow_all}
use Rattle.meaning.specs.Events.{Event, Constraint, Valuation, constraint_of}
use Rattle.meaning.specs.Book.{Book, positions, ends_at, symbol_of}
use Rattle.meaning.specs.Labels.{Disjunct, Held, sources, held_at, free_disjunct, is_free, compare_disjuncts, meets, met, skip_by, skip_through}
use Rattle.meaning.specs.Room.{held_limit, few_exclusions, set_room, skip_room}
use Rattle.meaning.specs.Rows.{row_limit, compare_valuations, valuation_of}
use Rattle.meaning.specs.Limits.{variable_limit}

-- the elements of the second list whose partner in the first passes
abbrev pub pick : {A B : Type 0} → (A → Bool) → List A → List B → List B
pick f [] l = []
pick f (x ∷ k) [] = []
pick f (x ∷ k) (y ∷ l) = let r = pick f k l in cond (f x) (y ∷ r) r

-- the start's label, if the position begins, before the others
unfoldable pub with_start : Bool → List Disjunct → List Disjunct
with_start begins l = cond begins (free_disjunct variable_limit ∷ []) [] ++ l

-- the disjuncts that meet c, met with it
unfoldable pub met_list : Constraint → List Disjunct → List Disjunct
met_list c l = map (λ D. met D c) (keep (λ D. meets D c) l)

-- the step set from the disjuncts of the sources
unfoldable pub met_set : Constraint → List Disjunct → List Disjunct
met_set c l = set_of compare_disjuncts (met_list c l)

-- insertions one after the other, a seventh exclusion or a 129th element refused
abbrev pub grow_few : List Disjunct → Grown Disjunct → Grown Disjunct
grow_few [] g = g
grow_few (x ∷ xs) g = let r = grow compare_disjuncts held_limit x g in grow_few xs (cond (few_exclusions x) r full)

-- a set past one constraint and past several, in their order, or no room for it on the way
unfoldable pub skipped : Constraint → List Disjunct → Grown Disjunct
skipped c l = let r = skip_by c l in cond (set_room r) (grown r) full

unfoldable pub skipped_through : List Constraint → List Disjunct → Grown Disjunct
skipped_through cs l = cond (skip_room cs l) (grown (skip_through cs l)) full

-- the new label of position q with constraint c, or no room for one of its sets
unfoldable pub labelled : (c : Constraint) (cs : List Constraint) (begins goes_on : Bool) (q : ℕ) (ps ms : List ℕ) (l : List Disjunct) → Grown Disjunct
labelled c cs begins goes_on q ps ms l =
    let s = met_set c (with_start begins (pick (λ m. bit q m) ms l)) in
    let k = pick (eqb q) ps l in
    cond (leb (length s) held_limit && skip_room cs k)
    (cond goes_on (within held_limit (insert_all compare_disjuncts (skip_through cs k) s)) (grown []))
    full

-- what is held so far, with the label of position q behind it
abbrev pub appended : ℕ → List Held → Grown Disjunct → Grown Held
appended q h full = full
appended q h (grown l) = within held_limit (h ++ map (held_at q) l)

-- the rows of one ending position put among those before
unfoldable pub rows_with : Constraint → List Disjunct → Grown Valuation → Grown Valuation
rows_with c l g = grow_all compare_valuations row_limit (map valuation_of (met_list c l)) g

-- whether a meeting of one of the disjuncts succeeds and leaves one of the first n variables free
unfoldable pub free_in : ℕ → Constraint → List Disjunct → Bool
free_in n c l = any (λ D. any is_free (take n D)) (met_list c l)

-- "a row that would leave a variable free", where only the first n of the book's variables count
unfoldable pub free_rows : (n : ℕ) → Book → List Held → Event → Bool
free_rows n b held e = any (λ q. free_in n (constraint_of (symbol_of b q) e) (sources b held q)) (keep (ends_at b) (positions b))

-- rows that ascend, as far as there is room for them
abbrev pub rows_ascend : Grown Valuation → Bool
rows_ascend full = true
rows_ascend (grown l) = ascending compare_valuations l

-- what ending positions give: rows, and whether a meeting leaves one of the book's variables free
pub record Yield : Type 0 where
  pub rows : Grown Valuation
  pub free : Bool

abbrev pub no_yield : Yield
no_yield = record { rows = grown []; free = false }

-- the same with the meetings of further disjuncts, where the first n variables count
unfoldable pub yield_with : ℕ → Constraint → List Disjunct → Yield → Yield
yield_with n c l y = record { rows = rows_with c l y.rows; free = y.free || free_in n c l }
