-- One turn of `advance`: what a position of a sound book has, its new label over what is held, and the labels still ahead.
use mathlib.Core.Path.{◌≡◌, sym, ap, ◌∙◌}
use mathlib.Core.Bool.{Bool, true, cond, not, and-eq-true_iff}
use mathlib.Core.List.{List, [], ◌∷◌, map}
use Prim.Native.Nat.{ℕ, zero, suc, ◌+◌, ◌-◌, ◌≤◌, ◌<◌}
use Rattle.std.proofs.Common.{Option}
use native.Mathlib.Nat.{add-sub_cancel, sub-zero}
use native.Mathlib.Omega.{arith}
use lib.Dec.{eqb, ltb}
use lib.ListN.{length, take, get_or, length-map, length-take}
use lib.Seq.{length-take-le, get_or-take}
use borrow.Author.Tests.{ltb-true}
use Rattle.laws.specs.Bits.{bit}
use Rattle.laws.specs.Lists.{all, numbers}
use Rattle.laws.specs.Order.{ascending}
use Rattle.laws.specs.Sets.{Grown, full, grown}
use Rattle.laws.proofs.Lists.{all_taken}
use Rattle.meaning.specs.Events as Events
use Rattle.meaning.specs.Meaning.{no_symbol}
use Rattle.meaning.specs.Book as Plain
use Rattle.meaning.specs.Labels.{Held, compare_disjuncts, new_held}
use Rattle.meaning.specs.Room.{room}
use Rattle.meaning.specs.Sound.{sound_held}
use Rattle.table.specs.Tables.{view_symbol}
use Rattle.meaning.specs.Wide.{wide_book}
use Rattle.bounded.specs.Bounded.{pick, labelled, appended}
use Rattle.bounded.proofs.Picks.{label_pick}
use Rattle.bounded.proofs.Labels.{label_at, advanced, advanced_full, advanced_all, labelled_at, label_ascending}
use Rattle.demand.specs.declared.Constraint.{Constraint}
use Rattle.demand.specs.Constraints.{view_constraint, no_constraint}
use Rattle.packed.specs.Sets.{disjuncts_in}
use Rattle.book.specs.declared.Book.{Book}
use Rattle.book.specs.Books.{view_book}
use Rattle.book.specs.Counts.{view_from}
use Rattle.packed.specs.Held.{held_in, held_grown}

-- two maps that agree, element by element
same_at : {A B C : Type 0} (f : A → C) (g : B → C) (k : List A) (l : List B) → map f k ≡ map g l
    → (i : ℕ) (a : A) (b : B) → i < length l → f (get_or k i a) ≡ g (get_or l i b)
same_at f g [] [] h i a b t = absurd (omega arith)
same_at f g [] (y ∷ l) h i a b t = cc
same_at f g (x ∷ k) [] h i a b t = absurd (omega arith)
same_at f g (x ∷ k) (y ∷ l) h zero a b t = cc
same_at f g (x ∷ k) (y ∷ l) h (suc i) a b t = same_at f g k l (cc) i a b (omega arith)

numbers_next : (i n : ℕ) → i < n → numbers (i + 1) (n - i) ≡ (i + 1) ∷ numbers (i + 1 + 1) (n - (i + 1))
numbers_next i n h =
    let more : n - i ≡ suc (n - (i + 1)) = omega arith in
    let next : i + 1 + 1 ≡ suc (i + 1) = omega arith in
    rw (more, next)

symbols_below : (b : Plain.Book) → Plain.sound_book b ≡ true → all (λ a. ltb a (length b.symbols)) b.occurrences ≡ true
unfolding Plain.sound_book
symbols_below b h = let p = simp and-eq-true_iff at h in search

module _ (b : Book) (m i : ℕ) (h : i < b.positions) (long : length b.occurrences ≡ 31) (few : b.positions ≤ 31) where
  -- the symbol's number at position i + 1
  abbrev number : ℕ
  number = get_or b.occurrences i 0

  number_in : Plain.sound_book (view_from m b) ≡ true → number < length (view_book b).symbols
  unfolding view_book
  number_in s =
      let f : ℕ → Bool = λ a. ltb a (length (view_book b).symbols) in
      ltb-true number _ (all_taken f b.positions b.occurrences i 0 (symbols_below (view_from m b) s) (omega arith) h)

  pub number_below : Plain.sound_book (view_from m b) ≡ true → number < b.symbols
  unfolding view_book
  number_below s =
      omega (arith, number_in s, length-map (take b.symbols b.table) view_symbol, length-take b.symbols b.table)

  -- what the position has, in the book of the matcher
  followers_at : Plain.followers (view_from m b) (i + 1) ≡ get_or b.follows i 0
  unfolding view_book
  followers_at = rw (add-sub_cancel i 1, get_or-take b.positions b.follows i 0 h)

  symbol_at_law : Plain.symbol_of (view_from m b) (i + 1) ≡ get_or (view_book b).symbols number no_symbol
  unfolding view_book
  symbol_at_law = rw (add-sub_cancel i 1, get_or-take b.positions b.occurrences i 0 h)

-- the positions of the book are as many as it counts
positions_all : (b : Book) (m : ℕ) → length b.occurrences ≡ 31 → b.positions ≤ 31 → numbers 1 (b.positions - 0) ≡ Plain.positions (wide_book (view_from m b))
unfolding view_book wide_book
positions_all b m l h = ap (numbers 1) (sub-zero b.positions ∙ sym (length-take-le b.positions b.occurrences (omega arith)))

module _ (b : Book) (m : ℕ) (cs : List (Option Constraint)) (held at : List ℕ) (n : ℕ) where
  -- the constraints are those of the event
  abbrev Told : Events.Event → Type 0
  Told e = map view_constraint (take b.symbols cs) ≡ map (λ s. Events.constraint_of s e) (view_book b).symbols

  -- what the event makes of what is held
  abbrev result : Events.Event → Grown Held
  result e =
      cond (room (wide_book (view_from m b)) (held_in n at held) e) (grown (new_held (wide_book (view_from m b)) (held_in n at held) e)) full

  -- the labels from position i + 1 on, behind g
  abbrev ahead : Events.Event → ℕ → Grown Held → Grown Held
  ahead e i g = advanced (wide_book (view_from m b)) (held_in n at held) e (numbers (i + 1) (b.positions - i)) g

  -- so many are held so far, and with the labels ahead they are what the event makes
  pub record Advancing (i total : ℕ) (positions words : List ℕ) : Type 0 where
    pub few : total ≤ 128
    pub whole : (e : Events.Event) → Told e → ahead e i (grown (held_in total positions words)) ≡ result e

  -- once there is no room there is none for good
  pub ahead_full : (e : Events.Event) (i : ℕ) → ahead e i full ≡ full
  ahead_full e i = advanced_full (wide_book (view_from m b)) (held_in n at held) e (numbers (i + 1) (b.positions - i))

  pub ascending_at : (q : ℕ) → sound_held (wide_book (view_from m b)) (held_in n at held) ≡ true
      → ascending compare_disjuncts (pick (eqb q) (take n at) (take n (disjuncts_in held))) ≡ true
  unfolding held_in
  ascending_at q s =
      ap (ascending compare_disjuncts) (sym (label_pick (take n at) (take n (disjuncts_in held)) q))
      ∙ label_ascending (wide_book (view_from m b)) (held_in n at held) q s

  pub advancing_none : (positions words : List ℕ) → length b.occurrences ≡ 31 → b.positions ≤ 31 → Advancing 0 0 positions words
  unfolding held_in
  advancing_none positions words l h =
      record {
        few = omega arith;
        whole = λ e t. ap (λ k. advanced (wide_book (view_from m b)) (held_in n at held) e k (grown [])) (positions_all b m l h)
            ∙ advanced_all (wide_book (view_from m b)) (held_in n at held) e;
      }

  pub advancing_done : (i total : ℕ) (positions words : List ℕ) → b.positions ≤ i → Advancing i total positions words
      → (e : Events.Event) → Told e → grown (held_in total positions words) ≡ result e
  advancing_done i total positions words h g e t =
      let none : b.positions - i ≡ 0 = omega arith in
      sym (ap (λ k. advanced (wide_book (view_from m b)) (held_in n at held) e (numbers (i + 1) k) (grown (held_in total positions words))) none) ∙ g.whole e t

  -- one turn: the new label of position i + 1 behind what is held so far
  module _ (i total : ℕ) (r : Option ℕ) (positions words positions' words' masks : List ℕ) (begins : Bool) (h : i < b.positions) (long : length b.occurrences ≡ 31)
      (few : b.positions ≤ 31) (sound : Plain.sound_book (view_from m b) ≡ true) (followed : take n masks ≡ map (Plain.followers (view_book b)) (take n at))
      (first : begins ≡ bit (i + 1) m) (g : Advancing i total positions words)
      (put : held_grown r positions' words' ≡ appended (i + 1) (held_in total positions words)
      (labelled (view_constraint (get_or cs (get_or b.occurrences i 0) no_constraint)) (map view_constraint (take b.symbols cs)) begins
      (not (eqb (get_or b.follows i 0) 0)) (i + 1) (take n at) (take n masks) (take n (disjuncts_in held)))) where
    begins_at_law : begins ≡ Plain.begins_at (view_from m b) (i + 1)
    unfolding view_book
    begins_at_law = first

    constraint_at_law : (e : Events.Event) → Told e
        → view_constraint (get_or cs (get_or b.occurrences i 0) no_constraint) ≡ Events.constraint_of (Plain.symbol_of (view_from m b) (i + 1)) e
    constraint_at_law e t =
        let y = get_or b.occurrences i 0 in
        ap view_constraint (sym (get_or-take b.symbols cs y no_constraint (number_below b m i h long few sound)))
        ∙ same_at view_constraint (λ s. Events.constraint_of s e) (take b.symbols cs) (view_book b).symbols t y no_constraint no_symbol
        (number_in b m i h long few sound) ∙ ap (λ s. Events.constraint_of s e) (sym (symbol_at_law b m i h long few))

    label_at_law : (e : Events.Event) → Told e
        → labelled (view_constraint (get_or cs (get_or b.occurrences i 0) no_constraint)) (map view_constraint (take b.symbols cs)) begins
        (not (eqb (get_or b.follows i 0) 0)) (i + 1) (take n at) (take n masks) (take n (disjuncts_in held))
        ≡ label_at (wide_book (view_from m b)) (held_in n at held) e (i + 1)
    unfolding held_in
    label_at_law e t =
        rw (constraint_at_law e t, t, begins_at_law, ← followers_at b m i h long few, followed)
        (labelled_at (view_from m b) (take n at) (take n (disjuncts_in held)) e (i + 1))

    -- with the labels ahead of it, what is held then is what the event makes
    pub turned : (e : Events.Event) → Told e → ahead e (i + 1) (held_grown r positions' words') ≡ result e
    turned e t =
        let B = wide_book (view_from m b) in
        let H = held_in n at held in
        ap (ahead e (i + 1)) (put ∙ ap (appended (i + 1) (held_in total positions words)) (label_at_law e t))
        ∙ sym (ap (λ k. advanced B H e k (grown (held_in total positions words))) (numbers_next i b.positions h)) ∙ g.whole e t
