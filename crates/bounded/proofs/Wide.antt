-- The same book with four variables, and what is held made four wide, gives the same labels made four wide, the same room,
-- the rows made four wide, and the same answer whether a row would leave a variable free. For the crate
-- matcher, whose words have four slots to a disjunct whatever the book declares.
use mathlib.Core.Path.{◌≡◌, refl, sym, ap, ap₂, ◌∙◌}
use mathlib.Core.Bool.{Bool, true, false, cond, ◌&&◌, and-eq-true_iff}
use mathlib.Core.List.{List, [], ◌∷◌, ◌++◌, map, map-append, map-map, Memᴰ}
use Prim.Native.Nat.{ℕ, ◌-◌, ◌≤◌, compare}
use native.Mathlib.Omega.{arith}
use lib.Dec.{eqb, leb}
use lib.ListN.{length, take, get_or, length-map}
use borrow.Author.Tests.{leb-true, eqb-true, eq-eqb}
use Rattle.laws.specs.Lists.{any, all, keep, gather}
use Rattle.laws.specs.Order.{and_then}
use Rattle.laws.specs.Sets.{insert_all, set_of}
use Rattle.laws.proofs.Lists.{and_true_split, any_agree, any_map, any_keep, all_agree, all_map, all_at, all_of, keep_agree}
use Rattle.laws.proofs.Lists.{mem_keep, mem_map, mem_gather, mem_picked}
use Rattle.laws.proofs.Maps.{map_agree, gather_agree, keep_map, gather_map, map_gather, ascending_map, insert_all_map, set_of_map}
use Rattle.meaning.specs.Events.{Event, Constraint, Valuation, constraint_of}
use Rattle.meaning.specs.Book.{Book, sound_symbol, sound_book, positions, begins_at, ends_at, follows_at, goes_on, symbol_of}
use Rattle.meaning.specs.Labels.{Disjunct, free_disjunct, is_free, compare_disjuncts, meets, met, skip_one, skip_by, skip_through}
use Rattle.meaning.specs.Labels.{Held, held_at, compare_held, label_of, sources, step_set, skip_set, new_label, new_held}
use Rattle.meaning.specs.Room.{held_limit, few_exclusions, set_room, skip_room, room}
use Rattle.meaning.specs.Rows.{compare_valuations, valuation_of, rows, leaves_free}
use Rattle.meaning.specs.Sound.{sound_entry, sound_piece, sound_held}
use Rattle.automaton.proofs.Orders.{disjunct_order, held_order, valuation_order}
use Rattle.automaton.proofs.Step.{Long, skip_one_long, skip_by_long, numbered_in_range, symbols_in_range}
use Rattle.automaton.proofs.Step.{label_long, sources_long, step_set_long, skip_set_long}
use Rattle.automaton.proofs.Fits.{in_range, met_length}
use Rattle.meaning.specs.Wide.{wide, wide_held, wide_valuation, wide_book}
use Rattle.bounded.specs.Bounded.{met_list, free_in, free_rows}
use Rattle.bounded.proofs.WideDisjuncts.{wide_length, wide_take, wide_compare, wide_valuation_compare, wide_few, wide_entries, wide_free_disjunct}
use Rattle.bounded.proofs.WideDisjuncts.{wide_valuation_law, wide_meets, wide_met, wide_skip}

set_room_wide : (l : List Disjunct) → set_room (map wide l) ≡ set_room l
unfolding set_room
set_room_wide l =
    ap₂ (λ k t. leb k held_limit && t) (length-map l wide) (all_map few_exclusions wide l ∙ all_agree _ few_exclusions l (λ D m. wide_few D))

-- sets of disjuncts over n variables
module _ (n : ℕ) where
  compare_wide : (D E : Disjunct) → length D ≡ n → length E ≡ n → compare_disjuncts (wide D) (wide E) ≡ compare_disjuncts D E
  compare_wide D E h k = wide_compare D E (h ∙ sym k)

  met_list_wide : (c : Constraint) (l : List Disjunct) → in_range n c ≡ true → Long n l → met_list c (map wide l) ≡ map wide (met_list c l)
  unfolding met_list
  met_list_wide c l k h =
      ap (map (λ D. met D c)) (keep_map (λ D. meets D c) wide l ∙ ap (map wide) (keep_agree _ (λ D. meets D c) l (λ D m. wide_meets n D c (h D m) k)))
      ∙ map-map (λ D. met D c) wide (keep (λ D. meets D c) l)
      ∙ map_agree _ (λ D. wide (met D c)) (keep (λ D. meets D c) l) (λ D m. wide_met n D c (h D ((mem_keep (λ E. meets E c) D l).0 m).0) k)
      ∙ sym (map-map wide (λ D. met D c) (keep (λ D. meets D c) l))

  met_list_long : (c : Constraint) (l : List Disjunct) → Long n l → Long n (met_list c l)
  unfolding met_list
  met_list_long c l h D m =
      let r = (mem_picked (λ E. meets E c) (λ E. met E c) D l).0 m in
      ap length r.3 ∙ met_length r.0 c ∙ h r.0 r.1

  -- the first n variables of a disjunct made wide are its own
  free_in_wide : (c : Constraint) (l : List Disjunct) → in_range n c ≡ true → Long n l
      → free_in n c (map wide l) ≡ any (λ D. meets D c && any is_free (met D c)) l
  unfolding free_in met_list
  free_in_wide c l k h =
      ap (any (λ D. any is_free (take n D))) (met_list_wide c l k h) ∙ any_map (λ D. any is_free (take n D)) wide (met_list c l)
      ∙ any_agree _ (any is_free) (met_list c l) (λ D m. ap (any is_free) (wide_take n D (met_list_long c l h D m)))
      ∙ any_map (any is_free) (λ D. met D c) (keep (λ D. meets D c) l) ∙ any_keep (λ D. any is_free (met D c)) (λ D. meets D c) l

  skip_by_wide : (c : Constraint) (l : List Disjunct) → in_range n c ≡ true → Long n l → skip_by c (map wide l) ≡ map wide (skip_by c l)
  unfolding skip_by
  skip_by_wide c l k h =
      ap (set_of compare_disjuncts)
      (gather_map (skip_one c) wide l ∙ gather_agree _ (λ D. map wide (skip_one c D)) l (λ D m. wide_skip n D c (h D m) k)
      ∙ sym (map_gather wide (skip_one c) l))
      ∙ set_of_map compare_disjuncts wide (λ D. length D ≡ n) disjunct_order compare_wide (gather (skip_one c) l) λ D m.
      let r = (mem_gather (skip_one c) D l).0 m in
      skip_one_long n c r.0 D (h r.0 r.1) r.2

  skip_through_wide : (cs : List Constraint) (l : List Disjunct) → all (in_range n) cs ≡ true → Long n l
      → skip_through cs (map wide l) ≡ map wide (skip_through cs l)
  skip_through_wide [] l k h = refl
  skip_through_wide (c ∷ cs) l k h =
      let s = and_true_split (in_range n c) (all (in_range n) cs) k in
      ap (skip_through cs) (skip_by_wide c l s.0 h) ∙ skip_through_wide cs (skip_by c l) s.1 (skip_by_long n c l h)

  skip_room_wide : (cs : List Constraint) (l : List Disjunct) → all (in_range n) cs ≡ true → Long n l
      → skip_room cs (map wide l) ≡ skip_room cs l
  skip_room_wide [] l k h = refl
  skip_room_wide (c ∷ cs) l k h =
      let s = and_true_split (in_range n c) (all (in_range n) cs) k in
      ap (λ r. set_room r && skip_room cs r) (skip_by_wide c l s.0 h)
      ∙ ap₂ ◌&&◌ (set_room_wide (skip_by c l)) (skip_room_wide cs (skip_by c l) s.1 (skip_by_long n c l h))

book_parts : (b : Book) → sound_book b ≡ true → (b.variables ≤ 4) × (all (sound_symbol b.variables) b.symbols ≡ true)
unfolding sound_book
book_parts b h = let p = simp and-eq-true_iff at h in (omega (arith, leb-true), search)

-- the disjuncts held at the positions that pass
abbrev disjuncts_at : (ℕ → Bool) → List Held → List Disjunct
disjuncts_at f held = map (λ h. h.disjunct) (keep (λ (h : Held). f h.position) held)

picked_wide : (f : ℕ → Bool) (held : List Held) → disjuncts_at f (map wide_held held) ≡ map wide (disjuncts_at f held)
unfolding wide_held
picked_wide f held =
    let k = keep (λ (h : Held). f h.position) held in
    ap (map (λ h. h.disjunct)) (keep_map (λ (h : Held). f h.position) wide_held held)
    ∙ map-map (λ (h : Held). h.disjunct) wide_held k ∙ sym (map-map wide (λ (h : Held). h.disjunct) k)

label_wide : (held : List Held) (p : ℕ) → label_of (map wide_held held) p ≡ map wide (label_of held p)
label_wide held p = picked_wide (λ q. eqb q p) held

start_wide : (n : ℕ) → n ≤ 4 → (t : Bool) → cond t (free_disjunct 4 ∷ []) [] ≡ map wide (cond t (free_disjunct n ∷ []) [])
start_wide n h true = ap (λ D. D ∷ []) (wide_free_disjunct n h)
start_wide n h false = refl

module _ (b : Book) (sb : sound_book b ≡ true) (held : List Held) (sh : sound_held b held ≡ true) where
  held_piece : (h : Held) → Memᴰ h held → sound_piece b h ≡ true
  unfolding sound_held
  held_piece h m = let p = simp and-eq-true_iff at sh in all_at (sound_piece b) p.0.1 m

  held_long : (h : Held) → Memᴰ h held → length h.disjunct ≡ b.variables
  unfolding sound_piece
  held_long h m = let p = simp and-eq-true_iff at (held_piece h m) in eqb-true _ _ p.1.0

  -- one held disjunct made wide is sound, and two compare as before
  wide_piece : (h : Held) → Memᴰ h held → sound_piece (wide_book b) (wide_held h) ≡ true
  unfolding sound_piece wide_book wide_held
  wide_piece h m =
      let s = and_true_split (leb 1 h.position && leb h.position (length b.occurrences)) _ (held_piece h m) in
      let entries = (and_true_split (eqb (length h.disjunct) b.variables) (all sound_entry h.disjunct) s.1).1 in
      let few : length h.disjunct ≤ 4 = omega (arith, held_long h m, (book_parts b sb).0) in
      ap₂ ◌&&◌ s.0 (ap₂ ◌&&◌ (eq-eqb _ 4 (wide_length h.disjunct few)) (wide_entries h.disjunct ∙ entries))

  wide_order : (g h : Held) → length g.disjunct ≡ b.variables → length h.disjunct ≡ b.variables
      → compare_held (wide_held g) (wide_held h) ≡ compare_held g h
  unfolding wide_held
  wide_order g h k l = ap (and_then (compare g.position h.position)) (compare_wide b.variables g.disjunct h.disjunct k l)

  sources_wide : (q : ℕ) → sources (wide_book b) (map wide_held held) q ≡ map wide (sources b held q)
  unfolding sources wide_book
  sources_wide q =
      ap₂ ◌++◌ (start_wide b.variables (book_parts b sb).0 (begins_at b q)) (picked_wide (λ p. follows_at b p q) held)
      ∙ sym (map-append wide (cond (begins_at b q) (free_disjunct b.variables ∷ []) []) _)

  pub wide_sound : sound_held (wide_book b) (map wide_held held) ≡ true
  unfolding sound_held
  wide_sound =
      let p = simp and-eq-true_iff at sh in
      ap₂ ◌&&◌ (ap₂ ◌&&◌ (ap (λ k. leb k held_limit) (length-map held wide_held) ∙ p.0.0)
      (all_map (sound_piece (wide_book b)) wide_held held ∙ all_of _ held wide_piece))
      (ascending_map compare_held wide_held (λ h. length h.disjunct ≡ b.variables) held_order wide_order held held_long ∙ p.1)

  module _ (e : Event) where
    constraint_range : (q : ℕ) → in_range b.variables (constraint_of (symbol_of b q) e) ≡ true
    constraint_range q = numbered_in_range b.variables b.symbols (get_or b.occurrences (q - 1) 0) e (book_parts b sb).1

    constraints_range : all (in_range b.variables) (map (λ s. constraint_of s e) b.symbols) ≡ true
    constraints_range = symbols_in_range b.variables b.symbols e (book_parts b sb).1

    step_wide : (q : ℕ) → step_set (wide_book b) (map wide_held held) e q ≡ map wide (step_set b held e q)
    unfolding step_set wide_book met_list
    step_wide q =
        let c = constraint_of (symbol_of b q) e in
        let n = b.variables in
        ap (λ l. set_of compare_disjuncts (met_list c l)) (sources_wide q)
        ∙ ap (set_of compare_disjuncts) (met_list_wide n c (sources b held q) (constraint_range q) (sources_long b held held_long q))
        ∙ set_of_map compare_disjuncts wide (λ D. length D ≡ n) disjunct_order (compare_wide n) (met_list c (sources b held q))
        (met_list_long n c (sources b held q) (sources_long b held held_long q))

    skip_wide : (p : ℕ) → skip_set (wide_book b) (map wide_held held) e p ≡ map wide (skip_set b held e p)
    unfolding skip_set wide_book
    skip_wide p =
        let cs = map (λ s. constraint_of s e) b.symbols in
        ap (skip_through cs) (label_wide held p)
        ∙ skip_through_wide b.variables cs (label_of held p) constraints_range (label_long b held held_long p)

    new_wide : (p : ℕ) → new_label (wide_book b) (map wide_held held) e p ≡ map wide (new_label b held e p)
    unfolding new_label wide_book
    new_wide p = ap₂ (λ k l. cond (goes_on b p) (insert_all compare_disjuncts k l) []) (skip_wide p) (step_wide p) ∙ go (goes_on b p)
      where
        go : (t : Bool) → cond t (insert_all compare_disjuncts (map wide (skip_set b held e p)) (map wide (step_set b held e p))) []
            ≡ map wide (cond t (insert_all compare_disjuncts (skip_set b held e p) (step_set b held e p)) [])
        go true =
            insert_all_map compare_disjuncts wide (λ D. length D ≡ b.variables) disjunct_order (compare_wide b.variables)
            (skip_set b held e p) (step_set b held e p) (skip_set_long b held held_long e p) (step_set_long b held held_long e p)
        go false = refl

    pub wide_held_law : new_held (wide_book b) (map wide_held held) e ≡ map wide_held (new_held b held e)
    unfolding new_held wide_book wide_held
    wide_held_law =
        gather_agree _ (λ p. map wide_held (map (held_at p) (new_label b held e p))) (positions b)
        (λ p m. ap (map (held_at p)) (new_wide p) ∙ map-map (held_at p) wide (new_label b held e p)
        ∙ sym (map-map wide_held (held_at p) (new_label b held e p)))
        ∙ sym (map_gather wide_held (λ p. map (held_at p) (new_label b held e p)) (positions b))

    pub wide_room : room (wide_book b) (map wide_held held) e ≡ room b held e
    unfolding room wide_book
    wide_room =
        let cs = map (λ s. constraint_of s e) b.symbols in
        ap₂ ◌&&◌ (ap₂ ◌&&◌
        (all_agree _ _ (positions b) (λ q m. ap (λ k. leb k held_limit) (ap length (step_wide q) ∙ length-map (step_set b held e q) wide)))
        (all_agree _ _ (positions b)
        (λ p m. ap (skip_room cs) (label_wide held p)
        ∙ skip_room_wide b.variables cs (label_of held p) constraints_range (label_long b held held_long p))))
        (ap (λ k. leb k held_limit) (ap length wide_held_law ∙ length-map (new_held b held e) wide_held))

    step_rows : (q : ℕ) → map valuation_of (step_set (wide_book b) (map wide_held held) e q) ≡ map wide_valuation (map valuation_of (step_set b held e q))
    step_rows q =
        let l = step_set b held e q in
        ap (map valuation_of) (step_wide q) ∙ map-map valuation_of wide l
        ∙ map_agree _ (λ D. wide_valuation (valuation_of D)) l (λ D m. wide_valuation_law D) ∙ sym (map-map wide_valuation valuation_of l)

    pub wide_rows : rows (wide_book b) (map wide_held held) e ≡ map wide_valuation (rows b held e)
    unfolding rows wide_book
    wide_rows =
        let qs = keep (ends_at b) (positions b) in
        let each : ℕ → List Valuation = λ q. map valuation_of (step_set b held e q) in
        ap (set_of compare_valuations) (gather_agree _ (λ q. map wide_valuation (each q)) qs (λ q m. step_rows q) ∙ sym (map_gather wide_valuation each qs))
        ∙ set_of_map compare_valuations wide_valuation (λ σ. length σ ≡ b.variables) valuation_order (λ σ τ h k. wide_valuation_compare σ τ (h ∙ sym k))
        (gather each qs) λ σ m.
        let r = (mem_gather each σ qs).0 m in
        let s = (mem_map valuation_of σ (step_set b held e r.0)).0 r.2 in
        ap length s.2 ∙ length-map s.0 _ ∙ step_set_long b held held_long e r.0 s.0 s.1

    pub wide_free : free_rows b.variables (wide_book b) (map wide_held held) e ≡ leaves_free b held e
    unfolding free_rows leaves_free wide_book
    wide_free =
        any_agree _ _ (keep (ends_at b) (positions b)) λ q m.
        let c = constraint_of (symbol_of b q) e in
        ap (free_in b.variables c) (sources_wide q)
        ∙ free_in_wide b.variables c (sources b held q) (constraint_range q) (sources_long b held held_long q)
