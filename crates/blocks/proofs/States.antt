-- A state as the code holds it, written into words or stored in a block, is read back from it, whatever stands behind what is held. For the lent calls.
use mathlib.Core.Path.{◌≡◌, refl, sym, ap, ap₂, subst, ◌∙◌}
use mathlib.Core.Bool.{true, false}
use mathlib.Core.List.{List, [], ◌++◌, map, map-map, append_assoc, append-nil, Memᴰ}
use Prim.Native.Nat.{ℕ, suc, ◌*◌, ◌≤◌, max}
use native.Mathlib.Omega.{arith}
use borrow.Author.Tests.{leb-true, ne_eqb}
use lib.Dec.{leb}
use lib.ListN.{length, take, drop, get_or, length-map, length-append, length-take, length-drop, take-append-drop}
use lib.Seq.{take_all, take_at, drop_at, take-take, take-append-le, drop-drop, length-take-le}
use Rattle.laws.specs.Lists.{gather}
use Rattle.laws.specs.Parts.{front, splice, pad}
use Rattle.laws.proofs.Lists.{all_at, mem_map, mem_take}
use Rattle.laws.proofs.Maps.{map_agree, take_map}
use Rattle.laws.proofs.Parts.{pad_length, pad_take, map_pad, all_pad, mem_pad, pads_agree}
use Rattle.laws.proofs.Fronts.{front_length, front_first, splice_seam, gather_length, gather_append}
use Rattle.meaning.specs.Labels as Labels
use Rattle.meaning.specs.Labels.{Entry, bound, free, exclusions, Held}
use Rattle.meaning.specs.Room.{few_exclusions}
use Rattle.slot.specs.Slots.{slot_of}
use Rattle.disjunct.specs.declared.Disjunct.{Disjunct}
use Rattle.disjunct.specs.Disjuncts.{view_disjunct, disjunct_of}
use Rattle.disjunct.proofs.Disjuncts.{view_disjunct_law}
use Rattle.state.specs.declared.State.{State}
use Rattle.state.specs.States.{state_of}
use Rattle.blocks.specs.Groups.{groups}
use Rattle.blocks.specs.StateBlock.{slot_in, disjunct_in, state_held, state_in, entry_words, group_words, state_head, state_words, state_stored}
use Rattle.blocks.proofs.Groups.{groups_gather, gathered_back, groups_take}

-- An entry in seven words.
pub entry_length : (x : Entry) → length (exclusions x) ≤ 6 → length (entry_words x) ≡ 7
entry_length (bound a) h = refl
entry_length (free xs) h = ap suc (pad_length 6 0 xs h)

entry_back : (x : Entry) → length (exclusions x) ≤ 6 → slot_in (entry_words x) ≡ slot_of x
unfolding slot_in slot_of
entry_back (bound a) h = refl
entry_back (free xs) h =
    rw (ne_eqb (length xs) 7 (λ e. omega arith))
    (ap (λ l. record { bound = false; value = 0; count = length xs; excluded = l }) (take_all 6 (pad 6 0 xs) (omega (arith, pad_length 6 0 xs h))))

-- A disjunct in its group: four entries of no more than six exclusions.
pub record Grouped (d : Disjunct) : Type 0 where
  pub size : length (group_words d) ≡ 28
  pub back : disjunct_in (group_words d) ≡ d

pub grouped : (D : Labels.Disjunct) → length D ≤ 4 → few_exclusions D ≡ true → Grouped (disjunct_of D)
unfolding group_words disjunct_in disjunct_of
grouped D four few =
    let E = pad 4 (free []) D in
    let long : length E ≡ 4 = pad_length 4 (free []) D four in
    let six : (x : Entry) → Memᴰ x E → length (exclusions x) ≤ 6 =
    λ x m. leb-true (length (exclusions x)) 6 (all_at _ (all_pad (λ x. leb (length (exclusions x)) 6) 4 (free []) D refl few) m) in
    let size : (x : Entry) → Memᴰ x E → length (entry_words x) ≡ 7 = λ x m. entry_length x (six x m) in
    let view : view_disjunct (disjunct_of D) ≡ E = view_disjunct_law D in
    record {
      size = ap (λ l. length (gather entry_words l)) view ∙ omega (arith, gather_length entry_words 7 E size, long);
      back =
          ap (λ l. record { vars = l })
          (ap (λ l. map slot_in (groups 7 4 (gather entry_words l))) view ∙ ap (λ w. map slot_in (groups 7 4 w)) (sym (append-nil (gather entry_words E)))
          ∙ ap (λ n. map slot_in (groups 7 n (gather entry_words E ++ []))) (sym long) ∙ ap (map slot_in) (groups_gather entry_words 7 E size [])
          ∙ map-map slot_in entry_words E ∙ map_agree (λ x. slot_in (entry_words x)) slot_of E (λ x m. entry_back x (six x m)) ∙ map_pad slot_of 4 (free []) D);
    }

-- A state as the code holds one: what is held in the first places, the others free, and each disjunct one that its group tells.
pub record Canonical (s : State) : Type 0 where
  pub few : s.count ≤ 128
  pub positions : List ℕ
  pub pool : List Disjunct
  pub positions_held : length positions ≡ s.count
  pub pool_held : length pool ≡ s.count
  pub positions_padded : s.positions ≡ pad 128 0 positions
  pub pool_padded : s.pool ≡ pad 128 (disjunct_of []) pool
  pub each : (d : Disjunct) → Memᴰ d pool → Grouped d

-- the free disjunct is one too
free_grouped : Grouped (disjunct_of [])
free_grouped = grouped [] (omega arith) refl

pub canonical_of : (s : Labels.State) → length s.held ≤ 128
    → ((h : Held) → Memᴰ h s.held → (length h.disjunct ≤ 4) × (few_exclusions h.disjunct ≡ true)) → Canonical (state_of s)
unfolding state_of
canonical_of s few each =
    record {
      few = few;
      positions = map (λ h. h.position) s.held;
      pool = map (λ h. disjunct_of h.disjunct) s.held;
      positions_held = length-map s.held _;
      pool_held = length-map s.held _;
      positions_padded = refl;
      pool_padded = refl;
      each = λ d m.
          let (h, k, e) = (mem_map (λ h. disjunct_of h.disjunct) d s.held).0 m in
          let (four, six) = each h k in
          subst Grouped (sym e) (grouped h.disjunct four six);
    }

-- A block of 3,715 words written over in its three parts.
module _ (w : List ℕ) (long : length w ≡ 3715) (head first second : List ℕ) (three : length head ≡ 3) (few : length first ≤ 128) where
  headed : splice 0 head w ≡ head ++ drop 3 w
  unfolding splice front
  headed = ap (λ n. head ++ drop n w) three

  parts_written : splice 131 second (splice 3 first (splice 0 head w)) ≡ head ++ (front first (take 128 (drop 3 w)) ++ front second (drop 131 w))
  parts_written =
      let P = take 128 (drop 3 w) in
      let Q = drop 131 w in
      let behind : length (drop 3 w) ≡ 3712 = length-drop 3 w ∙ omega arith in
      let held : length P ≡ 128 = length-take-le 128 (drop 3 w) (omega arith) in
      let split : drop 3 w ≡ P ++ Q = sym (take-append-drop 128 (drop 3 w)) ∙ ap (λ r. P ++ r) (drop-drop 128 3 w) in
      let over : length (head ++ front first P) ≡ 131 =
      length-append head (front first P) ∙ omega (arith, three, held, front_length first P (omega (arith, held))) in
      let first_two : splice 3 first (splice 0 head w) ≡ (head ++ front first P) ++ Q =
      ap (splice 3 first) (headed ∙ ap (λ r. head ++ r) split) ∙ splice_seam 3 first head (P ++ Q) three
      ∙ ap (λ r. head ++ r) (front_first first P Q (omega (arith, held))) ∙ sym (append_assoc head (front first P) Q) in
      ap (splice 131 second) first_two ∙ splice_seam 131 second (head ++ front first P) Q over ∙ append_assoc head (front first P) (front second Q)

-- How long a state's arrays, its groups and its words are.
module _ (s : State) (c : Canonical s) where
  pub pool_long : length s.pool ≡ 128
  pool_long = ap length c.pool_padded ∙ pad_length 128 (disjunct_of []) c.pool (omega (arith, c.pool_held, c.few))

  pub each_place : (d : Disjunct) → Memᴰ d s.pool → Grouped d
  each_place d m = mem_pad Grouped 128 (disjunct_of []) c.pool free_grouped c.each d (subst (Memᴰ d) c.pool_padded m)

  pub positions_long : length s.positions ≡ 128
  positions_long = ap length c.positions_padded ∙ pad_length 128 0 c.positions (omega (arith, c.positions_held, c.few))

  groups_long : length (gather group_words s.pool) ≡ 3584
  groups_long = omega (arith, gather_length group_words 28 s.pool (λ d m. (each_place d m).size), pool_long)

  pub state_length : length (state_words s) ≡ 3715
  unfolding state_words
  state_length = omega (arith, length-append s.positions (gather group_words s.pool), positions_long, groups_long)

-- What a state leaves of the block that it is stored in.
module _ (w : List ℕ) (long : length w ≡ 3715) (s : State) (c : Canonical s) where
  abbrev m : ℕ
  m = max (get_or w 2 0) s.count

  abbrev P : List ℕ
  P = take m s.positions

  abbrev G : List ℕ
  G = gather group_words (take m s.pool)

  pub stored_parts : state_stored w s ≡ state_head s ++ (front P (take 128 (drop 3 w)) ++ front G (drop 131 w))
  unfolding state_stored
  stored_parts = parts_written w long (state_head s) P G refl (omega (arith, length-take m s.positions, positions_long s c))

  first_long : length (take 128 (drop 3 w)) ≡ 128
  first_long = length-take-le 128 (drop 3 w) (omega (arith, length-drop 3 w))

  front_long : length (front P (take 128 (drop 3 w))) ≡ 128
  front_long = front_length P (take 128 (drop 3 w)) (omega (arith, length-take m s.positions, positions_long s c, first_long)) ∙ first_long

  pub stored_length : length (state_stored w s) ≡ 3715
  stored_length =
      let behind : length (drop 131 w) ≡ 3584 = length-drop 131 w ∙ omega arith in
      let short : length G ≤ 3584 =
      omega (arith, gather_length group_words 28 (take m s.pool) (λ d k. (each_place s c d (mem_take m k)).size), length-take m s.pool, pool_long s c) in
      ap length stored_parts
      ∙ omega (arith, length-append (front P (take 128 (drop 3 w))) (front G (drop 131 w)), front_long, front_length G (drop 131 w) (omega arith))

  -- the head of it
  pub stored_head : (get_or (state_stored w s) 0 0 ≡ 2001) × (get_or (state_stored w s) 1 0 ≡ s.number) × (get_or (state_stored w s) 2 0 ≡ s.count)
  stored_head = (ap (λ l. get_or l 0 0) stored_parts, ap (λ l. get_or l 1 0) stored_parts, ap (λ l. get_or l 2 0) stored_parts)

  held_positions : take s.count (front P (take 128 (drop 3 w))) ≡ c.positions
  unfolding front
  held_positions =
      let n = s.count in
      take-append-le n P (drop (length P) (take 128 (drop 3 w))) (omega (arith, length-take m s.positions, positions_long s c, c.few))
      ∙ take-take n m s.positions (omega arith) ∙ ap₂ take (sym c.positions_held) c.positions_padded ∙ pad_take 128 0 c.positions

  held_pool : take s.count (map disjunct_in (groups 28 128 (front G (drop 131 w)))) ≡ c.pool
  unfolding front
  held_pool =
      let n = s.count in
      let r = drop (length G) (drop 131 w) in
      let rest = drop n (take m s.pool) in
      let held : take n (take m s.pool) ≡ c.pool =
      take-take n m s.pool (omega arith) ∙ ap₂ take (sym c.pool_held) c.pool_padded ∙ pad_take 128 (disjunct_of []) c.pool in
      let split : G ≡ gather group_words c.pool ++ gather group_words rest =
      ap (gather group_words) (sym (take-append-drop n (take m s.pool))) ∙ gather_append group_words (take n (take m s.pool)) rest
      ∙ ap (λ l. gather group_words l ++ gather group_words rest) held in
      take_map disjunct_in n (groups 28 128 (G ++ r)) ∙ ap (map disjunct_in) (groups_take 28 n 128 (G ++ r) c.few)
      ∙ ap (λ w. map disjunct_in (groups 28 n w)) (ap (λ l. l ++ r) split ∙ append_assoc (gather group_words c.pool) (gather group_words rest) r)
      ∙ gathered_back group_words 28 disjunct_in c.pool n c.pool_held (λ d k. (c.each d k).size) (λ d k. (c.each d k).back)
      (gather group_words rest ++ r)

  pub stored_back : state_in (state_stored w s) ≡ s
  unfolding state_in state_held
  stored_back =
      let X = front P (take 128 (drop 3 w)) in
      let Y = front G (drop 131 w) in
      let n = s.count in
      let made : List ℕ → List Disjunct → State = λ p d. record { number = s.number; count = n; positions = pad 128 0 p; pool = pad 128 (disjunct_of []) d } in
      ap state_in stored_parts
      ∙ ap₂ made (ap (take n) (take_at X Y 128 front_long) ∙ held_positions)
      (ap (λ w. take n (map disjunct_in (groups 28 128 w))) (drop_at X Y 128 front_long) ∙ held_pool)
      ∙ ap₂ (λ p d. record { number = s.number; count = n; positions = p; pool = d }) (sym c.positions_padded) (sym c.pool_padded)

-- Another state over it: its words, all of them.
module _ (s : State) (c : Canonical s) (t : State) (e : Canonical t) where
  abbrev k : ℕ
  k = max s.count t.count

  k_few : k ≤ 128
  k_few = omega (arith, c.few, e.few)

  positions_over : front (take k t.positions) s.positions ≡ t.positions
  unfolding front
  positions_over =
      let size : length (take k t.positions) ≡ k = length-take-le k t.positions (omega (arith, k_few, positions_long t e)) in
      let behind : drop k s.positions ≡ drop k t.positions =
      ap (drop k) c.positions_padded
      ∙ pads_agree 128 0 c.positions e.positions k (omega (arith, c.positions_held)) (omega (arith, e.positions_held)) k_few
      ∙ sym (ap (drop k) e.positions_padded) in
      ap (λ r. take k t.positions ++ r) (ap (λ n. drop n s.positions) size ∙ behind) ∙ take-append-drop k t.positions

  groups_over : front (gather group_words (take k t.pool)) (gather group_words s.pool) ≡ gather group_words t.pool
  unfolding front
  groups_over =
      let g : List Disjunct → List ℕ = gather group_words in
      let parted : (l : List Disjunct) → g l ≡ g (take k l) ++ g (drop k l) =
      λ l. ap g (sym (take-append-drop k l)) ∙ gather_append group_words (take k l) (drop k l) in
      let long : (z : State) → Canonical z → length (g (take k z.pool)) ≡ k * 28 =
      λ z h. gather_length group_words 28 (take k z.pool) (λ d m. (each_place z h d (mem_take k m)).size)
      ∙ ap (λ n. n * 28) (length-take-le k z.pool (omega (arith, k_few, pool_long z h))) in
      let behind : drop k s.pool ≡ drop k t.pool =
      ap (drop k) c.pool_padded
      ∙ pads_agree 128 (disjunct_of []) c.pool e.pool k (omega (arith, c.pool_held)) (omega (arith, e.pool_held)) k_few
      ∙ sym (ap (drop k) e.pool_padded) in
      ap₂ (λ n w. g (take k t.pool) ++ drop n w) (long t e) (parted s.pool)
      ∙ ap (λ r. g (take k t.pool) ++ r) (drop_at (g (take k s.pool)) (g (drop k s.pool)) (k * 28) (long s c) ∙ ap g behind) ∙ sym (parted t.pool)

  pub stored_over : state_stored (state_words s) t ≡ state_words t
  unfolding state_words
  stored_over =
      let w = state_words s in
      stored_parts w (state_length s c) t e
      ∙ ap (λ r. state_head t ++ r)
      (ap₂ (λ a b. front (take k t.positions) a ++ front (gather group_words (take k t.pool)) b)
      (take_at s.positions (gather group_words s.pool) 128 (positions_long s c))
      (drop_at s.positions (gather group_words s.pool) 128 (positions_long s c))
      ∙ ap₂ ◌++◌ positions_over groups_over)

pub state_back : (s : State) → Canonical s → state_in (state_words s) ≡ s
state_back s c = ap state_in (sym (stored_over s c s c)) ∙ stored_back (state_words s) (state_length s c) s c
