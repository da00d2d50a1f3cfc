-- The constraint that the code finds for a position is that of the position's symbol, so one turn of the loop over the positions adds what
-- that position gives. For the proof of `collect`.
use mathlib.Core.Path.{◌≡◌, refl, sym, ap, ap₂, ◌∙◌}
use mathlib.Core.Bool.{Bool, true, cond, and-eq-true_iff}
use mathlib.Core.List.{List, [], ◌∷◌, map}
use Rattle.std.proofs.Common.{Option}
use Prim.Native.Nat.{ℕ, zero, suc, ◌+◌, ◌-◌, ◌≤◌, ◌<◌}
use native.Mathlib.Omega.{arith}
use borrow.Author.Tests.{leb-true, ltb-true}
use lib.Dec.{ltb}
use lib.ListN.{length, take, get_or, length-map, length-take, get_or-map}
use lib.Seq.{length-take-le, get_or-take}
use Rattle.laws.specs.Bits.{bit}
use Rattle.laws.specs.Lists.{all}
use Rattle.laws.specs.Sets.{within}
use Rattle.laws.proofs.Lists.{all_at, mem_get_or}
use Rattle.meaning.specs.Events as Events
use Rattle.meaning.specs.Meaning.{no_symbol}
use Rattle.meaning.specs.Book.{sound_book, followers, symbol_of}
use Rattle.meaning.specs.Labels.{Disjunct}
use Rattle.meaning.specs.Rows.{row_limit, rows}
use Rattle.meaning.specs.Wide.{wide_book}
use Rattle.bounded.specs.Bounded.{pick, with_start, free_rows, Yield, no_yield, yield_with}
use Rattle.bounded.proofs.RowSets.{ending, yield_from, from_none, from_next, yield_all}
use Rattle.demand.specs.declared.Constraint.{Constraint}
use Rattle.demand.specs.Constraints.{view_constraint, no_constraint}
use Rattle.packed.specs.Sets.{disjuncts_in}
use Rattle.book.specs.declared.Book.{Book}
use Rattle.book.specs.Books.{view_book}
use Rattle.book.specs.Counts.{Counts, view_from}
use Rattle.packed.specs.Held.{held_in}

-- an element that is there does not depend on what stands for one that is not
get_d_any : {A : Type 0} (l : List A) (i : ℕ) (c d : A) → i < length l → get_or l i c ≡ get_or l i d
get_d_any [] i c d h = absurd (omega arith)
get_d_any (x ∷ l) zero c d h = refl
get_d_any (x ∷ l) (suc i) c d h = get_d_any l i c d (omega arith)

-- two maps that give the same list agree at each place
maps_at : {A B C : Type 0} (f : A → C) (g : B → C) (k : List A) (l : List B) (i : ℕ) (a : A) (b : B) → map f k ≡ map g l → i < length l
    → f (get_or k i a) ≡ g (get_or l i b)
maps_at f g k l i a b e h =
    sym (get_or-map f k i a) ∙ ap (λ xs. get_or xs i (f a)) e ∙ get_d_any (map g l) i (f a) (g b) (omega (arith, length-map l g)) ∙ get_or-map g l i b

-- the number of the symbol of position i + 1, and its constraint
abbrev pub symbol_at : Book → ℕ → ℕ
symbol_at b i = get_or b.occurrences i 0

abbrev pub constraint_at : Book → List (Option Constraint) → ℕ → Option Constraint
constraint_at b cs i = get_or cs (symbol_at b i) no_constraint

-- the constraints are those of the book's symbols on the event
abbrev pub Agree : Book → List (Option Constraint) → Events.Event → Type 0
Agree b cs e = map view_constraint (take b.symbols cs) ≡ map (λ s. Events.constraint_of s e) (view_book b).symbols

-- the disjuncts of the sources of position q where it ends
abbrev pub sources_of : Book → (m n : ℕ) (masks held : List ℕ) → ℕ → List Disjunct
sources_of b m n masks held q = cond (bit q b.ends) (with_start (bit q m) (pick (λ x. bit q x) (take n masks) (take n (disjuncts_in held)))) []

module _ (b : Book) (m n : ℕ) (at held : List ℕ) (e : Events.Event) where
  -- what the positions from number i + 1 on give, behind what was there
  unfoldable pub yield_ahead : ℕ → Yield → Yield
  yield_ahead i y = yield_from (view_from m b) (take n at) (take n (disjuncts_in held)) e b.variables i y

  -- what the event gives
  abbrev pub yield_of : Yield
  yield_of =
      record {
        rows = within row_limit (rows (wide_book (view_from m b)) (held_in n at held) e);
        free = free_rows b.variables (wide_book (view_from m b)) (held_in n at held) e;
      }

  pub yield_first : yield_ahead 0 no_yield ≡ yield_of
  unfolding yield_ahead held_in
  yield_first = yield_all (view_from m b) (take n at) (take n (disjuncts_in held)) e b.variables

-- what the loop goes by: a sound book within its arrays, and the masks of the positions held
pub record Known (b : Book) (m n : ℕ) (at masks : List ℕ) : Type 0 where
  pub sound : sound_book (view_from m b) ≡ true
  pub counts : Counts b
  pub long : length b.occurrences ≡ 31
  pub follows : take n masks ≡ map (followers (view_book b)) (take n at)

module _ {b : Book} {m n : ℕ} {at masks : List ℕ} (k : Known b m n at masks) where
  pub few_variables_law : b.variables ≤ 4
  unfolding sound_book view_book
  few_variables_law = let p = simp and-eq-true_iff at k.sound in omega (arith, leb-true)

  positions_length : length (view_book b).occurrences ≡ b.positions
  unfolding view_book
  positions_length = length-take-le b.positions b.occurrences (omega (arith, k.long, k.counts.positions))

  symbol_view : (i : ℕ) → i < b.positions → get_or (view_book b).occurrences i 0 ≡ symbol_at b i
  unfolding view_book
  symbol_view i h = get_or-take b.positions b.occurrences i 0 h

  declared : all (λ a. ltb a (length (view_book b).symbols)) (view_book b).occurrences ≡ true
  unfolding sound_book
  declared = let p = simp and-eq-true_iff at k.sound in search

  symbol_declared : (i : ℕ) → i < b.positions → symbol_at b i < length (view_book b).symbols
  symbol_declared i h =
      let m = mem_get_or (view_book b).occurrences i 0 (omega (arith, positions_length)) in
      let f : ℕ → Bool = λ a. ltb a (length (view_book b).symbols) in
      ltb-true (symbol_at b i) (length (view_book b).symbols) (ap f (sym (symbol_view i h)) ∙ all_at f declared m)

  pub symbol_below : (i : ℕ) → i < b.positions → symbol_at b i < b.symbols
  unfolding view_book
  symbol_below i h =
      let y = symbol_declared i h in
      omega (arith, simp (length-map, length-take) at y)

  -- its constraint is that of the position's symbol
  constraint_view : (cs : List (Option Constraint)) (e : Events.Event) → Agree b cs e → (i : ℕ) → i < b.positions
      → view_constraint (constraint_at b cs i) ≡ Events.constraint_of (symbol_of (view_from m b) (i + 1)) e
  constraint_view cs e a i h =
      let y = symbol_at b i in
      let s = (view_book b).symbols in
      let z : i + 1 - 1 ≡ i = omega arith in
      let at : get_or (view_book b).occurrences (i + 1 - 1) 0 ≡ y = rw z (symbol_view i h) in
      ap view_constraint (sym (get_or-take b.symbols cs y no_constraint (symbol_below i h)))
      ∙ maps_at view_constraint (λ s. Events.constraint_of s e) (take b.symbols cs) s y no_constraint no_symbol a (symbol_declared i h)
      ∙ ap (λ k. Events.constraint_of (get_or s k no_symbol) e) (sym at)

  sources_view : (held : List ℕ) (e : Events.Event) (q : ℕ)
      → sources_of b m n masks held q ≡ ending (view_from m b) (take n at) (take n (disjuncts_in held)) e q
  unfolding view_book
  sources_view held e q =
      ap (λ ms. cond (bit q b.ends) (with_start (bit q m) (pick (λ x. bit q x) ms (take n (disjuncts_in held)))) []) k.follows

  -- one turn of the loop, and the end
  module _ (held : List ℕ) (e : Events.Event) (i : ℕ) (y : Yield) where
    pub yield_turn : (cs : List (Option Constraint)) → Agree b cs e → i < b.positions
        → yield_ahead b m n at held e i y
        ≡ yield_ahead b m n at held e (i + 1)
        (yield_with b.variables (view_constraint (constraint_at b cs i)) (sources_of b m n masks held (i + 1)) y)
    unfolding yield_ahead
    yield_turn cs a h =
        from_next (view_from m b) (take n at) (take n (disjuncts_in held)) e b.variables i y (omega (arith, positions_length))
        ∙ ap (yield_ahead b m n at held e (i + 1))
        (sym (ap₂ (λ c l. yield_with b.variables c l y) (constraint_view cs e a i h) (sources_view held e (i + 1))))

    pub yield_last : b.positions ≤ i → yield_ahead b m n at held e i y ≡ y
    unfolding yield_ahead
    yield_last h = from_none (view_from m b) (take n at) (take n (disjuncts_in held)) e b.variables i y (omega (arith, positions_length))
