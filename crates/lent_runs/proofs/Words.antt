-- What an accepted event leaves in the state's words, whatever they were: word by word (`accepted_words`).
use mathlib.Core.Path.{◌≡◌, refl, sym, ap, ap₂, ◌∙◌}
use mathlib.Core.Bool.{Bool, true, false}
use mathlib.Core.List.{List, [], ◌++◌, map, append-nil, Memᴰ}
use Prim.Native.Nat.{ℕ, suc, ◌+◌, ◌-◌, ◌*◌, ◌≤◌, ◌<◌, min, max}
use native.Mathlib.Nat.{mul_comm, mul-add}
use native.Mathlib.Omega.{arith}
use borrow.Author.Tests.{leb-true, eqb-true, eqb-false, eq-eqb}
use lib.Dec.{eqb, leb}
use lib.ListN.{length, get_or, take, drop, replicate, length-map, length-take, length-drop, get_or-map, get_or-append}
use lib.Seq.{length-take-le, get_or-take, get_or-drop, get_or-append-add, drop-drop, drop-append-add}
use Rattle.laws.specs.Lists.{gather}
use Rattle.laws.specs.Parts.{front, pad}
use Rattle.laws.proofs.Lists.{all_at, mem_take, mem_get_or}
use Rattle.laws.proofs.Parts.{pad_length, pad_at, pad_beyond, all_pad}
use Rattle.laws.proofs.Fronts.{gather_length, front_length, front_within, front_behind}
use Rattle.form.specs.Text.{Bytes, is_bytes}
use Rattle.record.specs.Records.{event_in}
use Rattle.book.specs.Books.{view_book}
use Rattle.calls.specs.Calls.{taken}
use Rattle.demands.proofs.Checks.{accepted_zero, accepted_leaves}
use Rattle.meaning.specs.Labels.{Entry, free, exclusions, Held, held_at, State, new_held}
use Rattle.meaning.specs.Room.{few_exclusions}
use Rattle.disjunct.specs.Disjuncts.{disjunct_of}
use Rattle.disjunct.proofs.Disjuncts.{view_disjunct_law}
use Rattle.state.specs.declared.State.{State as Struct}
use Rattle.state.specs.States.{state_of, held_first}
use Rattle.blocks.specs.BookBlock.{book_in}
use Rattle.blocks.specs.StateBlock.{entry_words, group_words, state_held, state_in, state_head, state_stored}
use Rattle.blocks.specs.TallyBlock.{tally_in}
use Rattle.blocks.specs.Lent.{event_left}
use Rattle.blocks.proofs.Groups.{groups_at, groups_gather}
use Rattle.blocks.proofs.States.{entry_length, Canonical, canonical_of, pool_long, positions_long, each_place, stored_parts, stored_length, stored_head}
use Rattle.lent_runs.specs.Stored.{group_at, held_number, StoredWords}
use Rattle.lent_runs.proofs.Accepted.{few_after, each_after, wide_after}
use Rattle.lent_runs.proofs.Places.{any_default, seven}
use Rattle.lent_runs.proofs.Checks.{other_state}

-- The i-th of the groups that are written over the front of words, and one behind them.
module _ {A : Type 0} (f : A → List ℕ) (k : ℕ) (l : List A) (size : (x : A) → Memᴰ x l → length (f x) ≡ k) (w : List ℕ) where
  front_group : (i : ℕ) (d : A) → i < length l → take k (drop (k * i) (front (gather f l) w)) ≡ f (get_or l i d)
  unfolding front
  front_group i d h =
      let r = drop (length (gather f l)) w in
      sym (groups_at k (length l) (gather f l ++ r) i h) ∙ ap (λ gs. get_or gs i []) (groups_gather f k l size r)
      ∙ any_default (map f l) i [] (f d) (rw length-map h) ∙ get_or-map f l i d

  groups_behind : (i : ℕ) → length l ≤ i → drop (k * i) (front (gather f l) w) ≡ drop (k * i) w
  unfolding front
  groups_behind i h =
      let g = gather f l in
      let j = i - length l in
      let long : length g ≡ k * length l = gather_length f k l size ∙ mul_comm (length l) k in
      let whole : i ≡ length l + j = omega arith in
      let parts : k * i ≡ length g + k * j = ap (λ n. k * n) whole ∙ mul-add k (length l) j ∙ ap (λ n. n + k * j) (sym long) in
      ap (λ n. drop n (g ++ drop (length g) w)) parts ∙ drop-append-add g (drop (length g) w) (k * j) ∙ drop-drop (k * j) (length g) w
      ∙ ap (λ n. drop n w) (sym parts)

-- A state stored in a block.
module _ (w : List ℕ) (long : length w ≡ 3715) (p : State) (few : length p.held ≤ 128)
    (each : (h : Held) → Memᴰ h p.held → (length h.disjunct ≤ 4) × (few_exclusions h.disjunct ≡ true)) where
  abbrev s : Struct
  s = state_of p

  abbrev m : ℕ
  m = max (get_or w 2 0) (length p.held)

  abbrev after : List ℕ
  after = state_stored w s

  can : Canonical s
  can = canonical_of p few each

  abbrev P : List ℕ
  P = take m s.positions

  abbrev X : List ℕ
  X = front P (take 128 (drop 3 w))

  abbrev Y : List ℕ
  Y = front (gather group_words (take m s.pool)) (drop 131 w)

  parts : after ≡ state_head s ++ (X ++ Y)
  unfolding state_of
  parts = stored_parts w long s can

  P-long : length P ≡ min m 128
  P-long = length-take m s.positions ∙ ap (min m) (positions_long s can)

  X-long : length X ≡ 128
  X-long =
      let behind : length (take 128 (drop 3 w)) ≡ 128 = length-take-le 128 (drop 3 w) (omega (arith, length-drop 3 w)) in
      front_length P (take 128 (drop 3 w)) (omega (arith, P-long)) ∙ behind

  -- a position, and a group, of the block
  position_word : (i : ℕ) → i < 128 → get_or after (3 + i) 0 ≡ get_or X i 0
  position_word i h = ap (λ l. get_or l (3 + i) 0) parts ∙ get_or-append-add (state_head s) (X ++ Y) i 0 ∙ get_or-append X Y 0 i (omega (arith, X-long))

  group_words_law : (i : ℕ) → group_at after i ≡ take 28 (drop (28 * i) Y)
  group_words_law i =
      let split : 131 + 28 * i ≡ 3 + (128 + 28 * i) = omega arith in
      ap (take 28)
      (ap₂ drop split parts ∙ drop-append-add (state_head s) (X ++ Y) (128 + 28 * i) ∙ ap (λ n. drop (n + 28 * i) (X ++ Y)) (sym X-long)
      ∙ drop-append-add X Y (28 * i))

  -- one that is or was held is that of the state
  position_in : (i : ℕ) → i < m → i < 128 → get_or after (3 + i) 0 ≡ get_or s.positions i 0
  position_in i h k =
      position_word i k ∙ front_within P (take 128 (drop 3 w)) i 0 (omega (arith, P-long)) ∙ get_or-take m s.positions i 0 h

  group_in : (i : ℕ) → i < m → i < 128 → group_at after i ≡ group_words (get_or s.pool i (disjunct_of []))
  group_in i h k =
      group_words_law i
      ∙ front_group group_words 28 (take m s.pool) (λ d n. (each_place s can d (mem_take m n)).size) (drop 131 w) i (disjunct_of [])
      (omega (arith, length-take m s.pool, pool_long s can))
      ∙ ap group_words (get_or-take m s.pool i (disjunct_of []) h)

  -- the words of a disjunct as the code holds it
  disjunct_words_law : (D : List Entry) → group_words (disjunct_of D) ≡ gather entry_words (pad 4 (free []) D)
  unfolding group_words
  disjunct_words_law D = ap (gather entry_words) (view_disjunct_law D)

  free_words : group_words (disjunct_of []) ≡ replicate 28 0
  unfolding pad
  free_words = disjunct_words_law []

  -- what is held
  held_group : (i : ℕ) → i < length p.held → group_at after i ≡ gather entry_words (pad 4 (free []) (held_number p.held i).disjunct)
  unfolding state_of
  held_group i h =
      let held = p.held in
      group_in i (omega arith) (omega arith)
      ∙ ap group_words
      (pad_at 128 (disjunct_of []) (map (λ h. disjunct_of h.disjunct) held) i (disjunct_of [])
      (omega (arith, length-map held (λ h. disjunct_of h.disjunct)))
      ∙ get_or-map (λ h. disjunct_of h.disjunct) held i (held_at 0 []))
      ∙ disjunct_words_law (held_number held i).disjunct

  -- the seven words of a variable that the disjunct does not have
  module _ (i v : ℕ) (h : i < length p.held) (behind : length (held_number p.held i).disjunct ≤ v) (u : v < 4) where
    abbrev D : List Entry
    D = (held_number p.held i).disjunct

    abbrev E : List Entry
    E = pad 4 (free []) D

    there : (length D ≤ 4) × (few_exclusions D ≡ true)
    there = each (held_number p.held i) (mem_get_or p.held i (held_at 0 []) h)

    E-long : length E ≡ 4
    E-long = pad_length 4 (free []) D there.0

    E-six : (x : Entry) → Memᴰ x E → length (entry_words x) ≡ 7
    E-six x m =
        entry_length x
        (leb-true (length (exclusions x)) 6 (all_at _ (all_pad (λ x. leb (length (exclusions x)) 6) 4 (free []) D refl there.1) m))

    variable_zero : group_at after i ≡ gather entry_words E → take 7 (drop (131 + 28 * i + 7 * v) after) ≡ replicate 7 0
    unfolding pad
    variable_zero group =
        sym (seven after i v (omega arith) u (stored_length w long s can))
        ∙ ap (λ g. take 7 (drop (7 * v) g)) (ap (take 28) (drop-drop (28 * i) 131 after) ∙ group ∙ sym (append-nil (gather entry_words E)))
        ∙ sym (groups_at 7 (length E) (gather entry_words E ++ []) v (omega (arith, E-long)))
        ∙ ap (λ gs. get_or gs v []) (groups_gather entry_words 7 E E-six [])
        ∙ any_default (map entry_words E) v [] (entry_words (free [])) (rw length-map (omega (arith, E-long)))
        ∙ get_or-map entry_words E v (free []) ∙ ap entry_words (pad_beyond 4 (free []) D v (free []) behind u)

  stored_words : (variables : ℕ) → ((h : Held) → Memᴰ h p.held → length h.disjunct ≡ variables)
      → StoredWords variables p.number p.held (get_or w 2 0) w after
  unfolding state_of
  stored_words variables wide =
      let held = p.held in
      record {
        size = stored_length w long s can;
        head = stored_head w long s can;
        positions = λ i h.
            position_in i (omega arith) (omega arith)
            ∙ pad_at 128 0 (map (λ h. h.position) held) i 0 (omega (arith, length-map held (λ h. h.position)))
            ∙ get_or-map (λ h. h.position) held i (held_at 0 []);
        groups = λ i h. held_group i h;
        beyond = λ i v h k u.
            let size = wide (held_number held i) (mem_get_or held i (held_at 0 []) h) in
            variable_zero i v h (omega arith) u (held_group i h);
        freed = λ i h k u. (
          position_in i (omega arith) u ∙ pad_beyond 128 0 (map (λ h. h.position) held) i 0 (omega (arith, length-map held (λ h. h.position))) u,
          group_in i (omega arith) u
              ∙ ap group_words
              (pad_beyond 128 (disjunct_of []) (map (λ h. disjunct_of h.disjunct) held) i (disjunct_of [])
              (omega (arith, length-map held (λ h. disjunct_of h.disjunct))) u)
              ∙ free_words,
        );
        later = λ i h k u. (
          position_word i u ∙ front_behind P (take 128 (drop 3 w)) i 0 (omega (arith, P-long)) ∙ get_or-take 128 (drop 3 w) i 0 u ∙ get_or-drop 3 w i 0,
          group_words_law i
              ∙ ap (take 28)
              (groups_behind group_words 28 (take m s.pool) (λ d n. (each_place s can d (mem_take m n)).size) (drop 131 w) i
              (omega (arith, length-take m s.pool)) ∙ drop-drop (28 * i) 131 w),
        );
      }

-- The block of an accepted event is one of this layout, or it would be 9.
layout : (w s : List ℕ) (bytes buffer : Bytes) (place : ℕ) (t : List ℕ) → (event_left w s bytes buffer place t).number ≡ 0 → get_or s 0 0 ≡ 2001
layout w s bytes buffer place t none = go (eqb (get_or s 0 0) 2001) refl
  where
    go : (z : Bool) → eqb (get_or s 0 0) 2001 ≡ z → get_or s 0 0 ≡ 2001
    go true e = eqb-true (get_or s 0 0) 2001 e
    go false e = absurd (let nine = other_state w s bytes buffer place t (eqb-false (get_or s 0 0) 2001 e) in omega (arith, nine, none))

number_word : (s : List ℕ) → get_or s 0 0 ≡ 2001 → (state_in s).number ≡ get_or s 1 0
unfolding state_in state_held
number_word s e = rw (eq-eqb (get_or s 0 0) 2001 e)

-- An accepted event, whatever the words were.
pub accepted_words : (w s : List ℕ) → length s ≡ 3715 → (bytes : Bytes) → is_bytes bytes ≡ true → (buffer : Bytes) (place : ℕ) (t : List ℕ)
    → (event_left w s bytes buffer place t).number ≡ 0
    → StoredWords (book_in w).variables (suc (get_or s 1 0)) (new_held (view_book (book_in w)) (held_first (book_in w).variables (state_in s)) (event_in bytes))
    (get_or s 2 0) s (event_left w s bytes buffer place t).state
unfolding event_left
accepted_words w s long bytes lent buffer place t none =
    let b = book_in w in
    let r = taken b (state_in s) bytes buffer place (tally_in t) in
    let e = (accepted_leaves b (state_in s) bytes buffer place (tally_in t) none).0 in
    let few = few_after b (state_in s) bytes lent buffer place (tally_in t) none in
    let each = each_after b (state_in s) bytes lent buffer place (tally_in t) none in
    let held = new_held (view_book b) (held_first b.variables (state_in s)) (event_in bytes) in
    rw (accepted_zero r.answer none, e, ← number_word s (layout w s bytes buffer place t none))
    (stored_words s long (record { number = suc (state_in s).number; held = held }) few each b.variables
    (wide_after b (state_in s) bytes lent buffer place (tally_in t) none))
