-- The rows of an event position by position: growing a bounded set of rows by those of each ending position in turn gives the rows,
-- and beside them goes the test whether a row would leave a variable free. For the crate collect.
use mathlib.Core.Path.{◌≡◌, refl, sym, ap, ap₂, ◌∙◌}
use mathlib.Core.Bool.{Bool, true, false, cond, ◌||◌, or-false, or_assoc}
use mathlib.Core.List.{List, [], ◌∷◌, ◌++◌, map, map-append, map-id, Memᴰ}
use Prim.Native.Nat.{ℕ, ◌+◌, ◌≤◌, ◌<◌, Ordering}
use native.Mathlib.Numerals.{add-one}
use native.Mathlib.Omega.{arith}
use lib.Dec.{leb}
use lib.ListN.{length, take, drop, get_or, drop_of_length-le}
use lib.Seq.{drop-cons}
use Rattle.laws.specs.Bits.{bit}
use Rattle.laws.specs.Lists.{any, keep, gather, numbers}
use Rattle.laws.specs.Sets.{insert, set_of, Grown, full, grown, within, grow, grow_all}
use Rattle.laws.proofs.Lists.{any_append, any_agree, keep_append, mem_map, mem_gather, length_numbers, get_or_numbers}
use Rattle.laws.proofs.Maps.{gather_agree}
use Rattle.laws.proofs.Sets.{insert_ascending, mem_set_of, set_of_ascending, same_members, grow_all_within}
use Rattle.meaning.specs.Events.{Event, Constraint, never, Valuation, constraint_of}
use Rattle.meaning.specs.Book.{Book, positions, begins_at, ends_at, followers, symbol_of}
use Rattle.meaning.specs.Labels.{Disjunct, is_free, compare_disjuncts, meets, met, held_of}
use Rattle.meaning.specs.Rows.{row_limit, compare_valuations, valuation_of, rows}
use Rattle.automaton.proofs.Orders.{disjunct_order, valuation_order}
use Rattle.meaning.specs.Wide.{wide_book}
use Rattle.bounded.specs.Bounded.{pick, with_start, met_list, met_set, rows_with, free_in, free_rows, rows_ascend, Yield, no_yield, yield_with}
use Rattle.bounded.proofs.Picks.{sources_pick, step_met}

module _ {A : Type 0} (cmp : A → A → Ordering) (cap : ℕ) where
  grow_append : (xs ys : List A) (g : Grown A) → grow_all cmp cap (xs ++ ys) g ≡ grow_all cmp cap ys (grow_all cmp cap xs g)
  grow_append [] ys g = refl
  grow_append (x ∷ xs) ys g = grow_append xs ys _

-- what has grown ascends where it did before
row_ascends : (σ : Valuation) (g : Grown Valuation) → rows_ascend g ≡ true → rows_ascend (grow compare_valuations row_limit σ g) ≡ true
row_ascends σ full h = refl
row_ascends σ (grown l) h = go (leb (length (insert compare_valuations σ l)) row_limit)
  where
    go : (b : Bool) → rows_ascend (cond b (grown (insert compare_valuations σ l)) full) ≡ true
    go true = insert_ascending valuation_order σ l h
    go false = refl

rows_ascend_law : (xs : List Valuation) (g : Grown Valuation) → rows_ascend g ≡ true → rows_ascend (grow_all compare_valuations row_limit xs g) ≡ true
rows_ascend_law [] g h = h
rows_ascend_law (x ∷ xs) g h = rows_ascend_law xs _ (row_ascends x g h)

-- the disjuncts that meet a constraint
pub met_append : (c : Constraint) (k l : List Disjunct) → met_list c (k ++ l) ≡ met_list c k ++ met_list c l
unfolding met_list
met_append c k l = ap (map (λ D. met D c)) (keep_append (λ D. meets D c) k l) ∙ map-append (λ D. met D c) (keep (λ D. meets D c) k) _

pub met_never : (l : List Disjunct) → met_list never l ≡ []
unfolding met_list
met_never [] = refl
met_never (D ∷ l) = met_never l

pub met_one : (c : Constraint) (D : Disjunct) → meets D c ≡ true → met_list c (D ∷ []) ≡ met D c ∷ []
unfolding met_list
met_one c D h = rw h

pub met_none : (c : Constraint) (D : Disjunct) → meets D c ≡ false → met_list c (D ∷ []) ≡ []
unfolding met_list
met_none c D h = rw h

-- what the meetings of disjuncts with a constraint give
module _ (n : ℕ) (c : Constraint) where
  -- by the disjuncts that meet it
  yields : List Disjunct → Yield → Yield
  yields m y =
      record { rows = grow_all compare_valuations row_limit (map valuation_of m) y.rows; free = y.free || any (λ D. any is_free (take n D)) m }

  by_met : (l : List Disjunct) (y : Yield) → yield_with n c l y ≡ yields (met_list c l) y
  unfolding yield_with rows_with free_in yields
  by_met l y = refl

  pub yield_append : (k l : List Disjunct) (y : Yield) → yield_with n c (k ++ l) y ≡ yield_with n c l (yield_with n c k y)
  unfolding yield_with rows_with free_in
  yield_append k l y =
      let f : Disjunct → Bool = λ D. any is_free (take n D) in
      ap₂ (λ xs t. record { rows = grow_all compare_valuations row_limit xs y.rows; free = y.free || t })
      (ap (map valuation_of) (met_append c k l) ∙ map-append valuation_of (met_list c k) (met_list c l))
      (ap (any f) (met_append c k l) ∙ any_append f (met_list c k) (met_list c l))
      ∙ ap₂ (λ g t. record { rows = g; free = t })
      (grow_append compare_valuations row_limit (map valuation_of (met_list c k)) (map valuation_of (met_list c l)) y.rows)
      (sym (or_assoc y.free (any f (met_list c k)) (any f (met_list c l))))

  -- no disjunct
  nothing_met : (y : Yield) → yields [] y ≡ y
  unfolding yields
  nothing_met y = ap (λ t. record { rows = y.rows; free = t }) (or-false y.free)

  pub yield_none : (y : Yield) → yield_with n c [] y ≡ y
  unfolding met_list
  yield_none y = by_met [] y ∙ nothing_met y

  -- one disjunct, that meets it or does not
  pub yield_met : (D : Disjunct) (y : Yield) → meets D c ≡ true
      → yield_with n c (D ∷ []) y
      ≡ record { rows = grow compare_valuations row_limit (valuation_of (met D c)) y.rows; free = y.free || any is_free (take n (met D c)) }
  unfolding yields
  yield_met D y h =
      by_met (D ∷ []) y ∙ ap (λ m. yields m y) (met_one c D h)
      ∙ ap (λ t. record { rows = grow compare_valuations row_limit (valuation_of (met D c)) y.rows; free = y.free || t })
      (or-false (any is_free (take n (met D c))))

  pub yield_unmet : (D : Disjunct) (y : Yield) → meets D c ≡ false → yield_with n c (D ∷ []) y ≡ y
  yield_unmet D y h = by_met (D ∷ []) y ∙ ap (λ m. yields m y) (met_none c D h) ∙ nothing_met y

  pub yield_ascends : (l : List Disjunct) (y : Yield) → rows_ascend y.rows ≡ true → rows_ascend (yield_with n c l y).rows ≡ true
  unfolding yield_with rows_with
  yield_ascends l y h = rows_ascend_law (map valuation_of (met_list c l)) y.rows h

pub yield_never : (n : ℕ) (l : List Disjunct) (y : Yield) → yield_with n never l y ≡ y
yield_never n l y = by_met n never l y ∙ ap (λ m. yields n never m y) (met_never l) ∙ nothing_met n never y

-- rows of lists of disjuncts are rows of lists that have all of these
gathered_through : (f g : ℕ → List Disjunct) → ((q : ℕ) (D : Disjunct) → Memᴰ D (f q) → Memᴰ D (g q)) → (k : List ℕ) (σ : Valuation)
    → Memᴰ σ (gather (λ q. map valuation_of (f q)) k) → Memᴰ σ (gather (λ q. map valuation_of (g q)) k)
gathered_through f g h k σ m =
    let r = (mem_gather (λ q. map valuation_of (f q)) σ k).0 m in
    let s = (mem_map valuation_of σ (f r.0)).0 r.2 in
    (mem_gather (λ q. map valuation_of (g q)) σ k).1 (r.0, r.1, (mem_map valuation_of σ (g r.0)).1 (s.0, h r.0 s.0 s.1, s.2))

-- the rows of sets of disjuncts are those of the lists that the sets are made from
same_rows : (f : ℕ → List Disjunct) (k : List ℕ)
    → set_of compare_valuations (gather (λ q. map valuation_of (f q)) k)
    ≡ set_of compare_valuations (gather (λ q. map valuation_of (set_of compare_disjuncts (f q))) k)
same_rows f k =
    let g : ℕ → List Disjunct = λ q. set_of compare_disjuncts (f q) in
    let a = gather (λ q. map valuation_of (f q)) k in
    let b = gather (λ q. map valuation_of (g q)) k in
    same_members valuation_order (set_of compare_valuations a) (set_of compare_valuations b) (set_of_ascending valuation_order a) (set_of_ascending valuation_order b)
    λ σ. (
      λ m. (mem_set_of valuation_order σ b).1
          (gathered_through f g (λ q D. (mem_set_of disjunct_order D (f q)).1) k σ ((mem_set_of valuation_order σ a).0 m)),
      λ m. (mem_set_of valuation_order σ a).1
          (gathered_through g f (λ q D. (mem_set_of disjunct_order D (f q)).0) k σ ((mem_set_of valuation_order σ b).0 m)),
    )

-- the positions from number i + 1 on, by the first of them
next_positions : (n i : ℕ) → i < n → drop i (numbers 1 n) ≡ (i + 1) ∷ drop (i + 1) (numbers 1 n)
next_positions n i h =
    let at : get_or (numbers 1 n) i 0 ≡ i + 1 =
    sym (ap (λ l. get_or l i 0) (map-id (numbers 1 n))) ∙ get_or_numbers (λ x. x) 1 n i 0 h ∙ omega arith in
    drop-cons (numbers 1 n) i 0 (omega (arith, length_numbers 1 n)) ∙ ap₂ ◌∷◌ at (ap (λ k. drop k (numbers 1 n)) (sym (add-one i)))

no_positions : (n i : ℕ) → n ≤ i → drop i (numbers 1 n) ≡ []
no_positions n i h = let l = length_numbers 1 n in let k : length (numbers 1 n) ≤ i = omega arith in drop_of_length-le (numbers 1 n) k

-- a book's positions with what is held, as positions and disjuncts side by side, and one event
module _ (b : Book) (ps : List ℕ) (l : List Disjunct) (e : Event) where
  -- the constraint of position q, the disjuncts of its sources, and none where it does not end
  abbrev pub asked : ℕ → Constraint
  asked q = constraint_of (symbol_of b q) e

  abbrev pub drawn : ℕ → List Disjunct
  drawn q = with_start (begins_at b q) (pick (λ m. bit q m) (map (followers b) ps) l)

  abbrev pub ending : ℕ → List Disjunct
  ending q = cond (ends_at b q) (drawn q) []

  -- the rows of position q, if it ends
  found : ℕ → List Valuation
  found q = map valuation_of (met_list (asked q) (drawn q))

  rows_wide : rows (wide_book b) (held_of ps l) e
      ≡ set_of compare_valuations (gather (λ q. map valuation_of (met_set (asked q) (drawn q))) (keep (ends_at b) (positions b)))
  unfolding rows wide_book
  rows_wide = ap (set_of compare_valuations) (gather_agree _ _ (keep (ends_at b) (positions b)) (λ q m. ap (map valuation_of) (step_met b ps l e q)))

  module _ (n : ℕ) where
    -- what the positions give, behind what was there
    abbrev yield_through : List ℕ → Yield → Yield
    yield_through [] y = y
    yield_through (q ∷ qs) y = yield_through qs (yield_with n (asked q) (ending q) y)

    -- those from number i + 1 on
    unfoldable pub yield_from : ℕ → Yield → Yield
    yield_from i y = yield_through (drop i (positions b)) y

    pub from_none : (i : ℕ) (y : Yield) → length b.occurrences ≤ i → yield_from i y ≡ y
    unfolding yield_from
    from_none i y h = ap (λ qs. yield_through qs y) (no_positions (length b.occurrences) i h)

    pub from_next : (i : ℕ) (y : Yield) → i < length b.occurrences
        → yield_from i y ≡ yield_from (i + 1) (yield_with n (asked (i + 1)) (ending (i + 1)) y)
    unfolding yield_from
    from_next i y h = ap (λ qs. yield_through qs y) (next_positions (length b.occurrences) i h)

    -- whether position q leaves a variable free, if it ends
    open_at : ℕ → Bool
    open_at q = free_in n (asked q) (drawn q)

    -- all that positions put that end, one's after the other's
    put_by : List ℕ → Yield → Yield
    put_by qs y = record { rows = grow_all compare_valuations row_limit (gather found qs) y.rows; free = y.free || any open_at qs }

    through_all : (qs : List ℕ) (y : Yield) → yield_through qs y ≡ put_by (keep (ends_at b) qs) y
    unfolding yield_with rows_with found open_at put_by
    through_all [] y = ap (λ t. record { rows = y.rows; free = t }) (sym (or-false y.free))
    through_all (q ∷ qs) y = go (ends_at b q) (through_all qs)
      where
        k : List ℕ
        k = keep (ends_at b) qs

        go : (t : Bool) → ((z : Yield) → yield_through qs z ≡ put_by k z)
            → yield_through qs (yield_with n (asked q) (cond t (drawn q) []) y) ≡ put_by (cond t (q ∷ k) k) y
        go true ih =
            ih (yield_with n (asked q) (drawn q) y)
            ∙ ap₂ (λ g t. record { rows = g; free = t }) (sym (grow_append compare_valuations row_limit (found q) (gather found k) y.rows))
            (or_assoc y.free (open_at q) (any open_at k))
        go false ih = ap (yield_through qs) (yield_none n (asked q) y) ∙ ih y

    -- from the first position on they give the rows of the event, and whether one would leave a variable free
    pub yield_all : yield_from 0 no_yield
        ≡ record { rows = within row_limit (rows (wide_book b) (held_of ps l) e); free = free_rows n (wide_book b) (held_of ps l) e }
    unfolding yield_from met_set found free_rows wide_book open_at put_by
    yield_all =
        let qs = keep (ends_at b) (positions b) in
        through_all (positions b) no_yield
        ∙ ap₂ (λ g t. record { rows = g; free = t })
        (grow_all_within valuation_order row_limit (gather found qs) [] (omega arith)
        ∙ ap (within row_limit) (same_rows (λ q. met_list (asked q) (drawn q)) qs ∙ sym rows_wide))
        (any_agree _ _ qs (λ q m. ap (free_in n (asked q)) (sym (sources_pick b ps l q))))
