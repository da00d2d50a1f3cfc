-- Soundness is kept by every accepted event, so a proper tracematch with a reached state never gets answer 9.
use mathlib.Core.Path.{◌≡◌, refl, sym, ap, ap₂, ◌∙◌}
use mathlib.Core.Bool.{Bool, true, false, cond, not, ◌&&◌, and_assoc}
use mathlib.Core.List.{List, [], ◌∷◌, map, Memᴰ}
use mathlib.Core.Logic.{⊎_elim}
use Prim.Native.Nat.{ℕ, zero, suc, ◌+◌, ◌^◌, ◌≤◌, ◌<◌, compare}
use native.Mathlib.Omega.{arith}
use lib.Dec.{eqb, leb}
use lib.ListN.{length, set, length-map, length-replicate}
use borrow.Author.Tests.{lt-ltb, le-leb, eq-eqb, eqb-true}
use Rattle.laws.specs.Bits.{bit}
use Rattle.laws.specs.Lists.{all, gather, numbers}
use Rattle.laws.specs.Order.{and_then, ascending}
use Rattle.laws.proofs.Lists.{and_true_split, and_swap, either, all_at, all_get_d, all_of, all_map, mem_map, mem_gather, mem_numbers, length_numbers}
use Rattle.laws.proofs.Maps.{all_replicate}
use Rattle.laws.proofs.Order.{compare_order, lt_compare}
use Rattle.laws.proofs.Sets.{all_insert, insert_ascending, append_ascending, map_ascending}
use Rattle.runs.proofs.Runs.{kept_along}
use Rattle.pattern.specs.Regex.{Regex, In, nullable}
use Rattle.pattern.specs.Positions as Positions
use Rattle.pattern.proofs.Masks.{beginning_among, ending_among, following_among, beginning_below, ending_below, following_below}
use Rattle.pattern.proofs.Masks.{size_pos, symbols_length}
use Rattle.pattern.proofs.Words.{empty_word_law}
use Rattle.meaning.specs.Events.{Parameter, ignored, names, fixed, Symbol, Event, word32, well_formed, Demand, Constraint, never, demands}
use Rattle.meaning.specs.Events.{demands_of, constraint_of}
use Rattle.meaning.specs.Meaning.{Tracematch}
use Rattle.meaning.specs.Book.{Book, book_of, Proper, symbol_of, sound_mask, sound_book}
use Rattle.meaning.specs.Labels.{Entry, bound, free, Disjunct, entry_of, exclusions, bind, met, excluding, exclude}
use Rattle.meaning.specs.Labels.{skip_one, skip_by, skip_through, Held, held_at, compare_disjuncts, compare_held, label_of}
use Rattle.meaning.specs.Labels.{sources, step_set, skip_set, new_label, new_held, State, fresh, next}
use Rattle.meaning.specs.Room.{few_exclusions, set_room, skip_room, room}
use Rattle.meaning.specs.Rows.{leaves_free}
use Rattle.meaning.specs.Sound.{sound_entry, sound_piece, sound_held, event_limit, sound_state}
use Rattle.meaning.specs.Runs.{Call, plain_machine, sent_event, was_taken, trace_of, run, state_after, held_after, Admissible, OrderlyFrom, Orderly}
use Rattle.meaning.proofs.Holds.{constraint_either}
use Rattle.automaton.proofs.Orders.{held_order}
use Rattle.automaton.proofs.Fits.{met_length, skip_length}
use Rattle.automaton.proofs.Members.{step_set_member, new_label_ascending}
use Rattle.automaton.proofs.NoRoom.{room_parts}
use Rattle.automaton.proofs.Stems.{asked, label_held, skip_cases, skip_kept, source_cases, new_cases}
use Rattle.automaton.proofs.Plain.{run_state}
use Rattle.automaton.proofs.Bound.{none_left_free}

pub fresh_sound : (b : Book) → sound_held b [] ≡ true
unfolding sound_held
fresh_sound b = refl

-- a test over a list with one element set
module _ {A : Type 0} (f : A → Bool) where
  all_set : (l : List A) (i : ℕ) (x : A) → f x ≡ true → all f l ≡ true → all f (set l i x) ≡ true
  all_set [] i x h k = refl
  all_set (y ∷ l) zero x h k = ap₂ ◌&&◌ h (and_true_split (f y) (all f l) k).1
  all_set (y ∷ l) (suc i) x h k = let s = and_true_split (f y) (all f l) k in ap₂ ◌&&◌ s.0 (all_set l i x h s.1)

-- the demands of a well-formed event ask for its arguments
abbrev asks_word : Demand → Bool
asks_word d = word32 d.value

demands_words : (ps : List Parameter) (xs : List ℕ) → all word32 xs ≡ true → all asks_word (demands_of ps xs) ≡ true
demands_words [] xs h = refl
demands_words (p ∷ ps) [] h = refl
demands_words (ignored ∷ ps) (x ∷ xs) h = demands_words ps xs (and_true_split (word32 x) (all word32 xs) h).1
demands_words (names v ∷ ps) (x ∷ xs) h =
    let s = and_true_split (word32 x) (all word32 xs) h in
    ap₂ ◌&&◌ s.0 (demands_words ps xs s.1)
demands_words (fixed n ∷ ps) (x ∷ xs) h = demands_words ps xs (and_true_split (word32 x) (all word32 xs) h).1

constraint_words : (s : Symbol) (e : Event) → well_formed e ≡ true → all asks_word (asked (constraint_of s e)) ≡ true
unfolding well_formed
constraint_words s e h =
    constraint_either (λ c. all asks_word (asked c) ≡ true) s e refl
    (λ _. demands_words s.parameters e.args (and_true_split (leb 1 e.kind && leb e.kind 255 && leb (length e.args) 4) _ h).1)

-- what is sound of an entry but for the number of its exclusions
abbrev sound_values : Entry → Bool
sound_values (bound a) = word32 a
sound_values (free xs) = all word32 xs && ascending compare xs

entry_split : (x : Entry) → sound_entry x ≡ (leb (length (exclusions x)) 6 && sound_values x)
entry_split (bound a) = refl
entry_split (free xs) = and_assoc (leb (length xs) 6) (all word32 xs) (ascending compare xs)

entries_split : (D : Disjunct) → all sound_entry D ≡ (few_exclusions D && all sound_values D)
entries_split [] = refl
entries_split (x ∷ D) =
    ap₂ ◌&&◌ (entry_split x) (entries_split D) ∙ and_swap (leb (length (exclusions x)) 6) (sound_values x) (few_exclusions D) (all sound_values D)

entries_parts : (D : Disjunct) → all sound_entry D ≡ true → (few_exclusions D ≡ true) × (all sound_values D ≡ true)
entries_parts D h = and_true_split (few_exclusions D) (all sound_values D) (sym (entries_split D) ∙ h)

excluding_sound : (x : Entry) (a : ℕ) → word32 a ≡ true → sound_values x ≡ true → sound_values (excluding x a) ≡ true
excluding_sound (bound c) a h k = k
excluding_sound (free xs) a h k =
    let s = and_true_split (all word32 xs) (ascending compare xs) k in
    ap₂ ◌&&◌ (all_insert compare_order word32 a xs ∙ ap₂ ◌&&◌ h s.0) (insert_ascending compare_order a xs s.1)

met_sound : (c : Constraint) (D : Disjunct) → all asks_word (asked c) ≡ true → all sound_entry D ≡ true → all sound_entry (met D c) ≡ true
met_sound never D h k = k
met_sound (demands []) D h k = k
met_sound (demands (d ∷ ds)) D h k =
    let s = and_true_split (asks_word d) (all asks_word ds) h in
    met_sound (demands ds) (bind D d) s.1 (all_set sound_entry D d.variable (bound d.value) s.0 k)

-- past a symbol everything but the number of exclusions stays sound
skip_values : (c : Constraint) (D E : Disjunct) → all asks_word (asked c) ≡ true → Memᴰ E (skip_one c D)
    → all sound_values D ≡ true → all sound_values E ≡ true
skip_values c D E h m k = ⊎_elim (λ p. rw p k) (λ r. rw r.2 (one r.0 (all_at asks_word h r.1))) (skip_cases c D m)
  where
    one : (d : Demand) → asks_word d ≡ true → all sound_values (exclude D d) ≡ true
    one d w =
        all_set sound_values D d.variable _
        (excluding_sound (entry_of D d.variable) d.value w (all_get_d sound_values D d.variable (free []) refl k)) k

-- the number of exclusions is judged after each symbol
few_through : (cs : List Constraint) (l : List Disjunct) → skip_room cs l ≡ true → all few_exclusions l ≡ true → all few_exclusions (skip_through cs l) ≡ true
unfolding set_room
few_through [] l r h = h
few_through (c ∷ cs) l r h =
    let s = and_true_split (set_room (skip_by c l)) (skip_room cs (skip_by c l)) r in
    few_through cs (skip_by c l) s.1 (and_true_split (leb (length (skip_by c l)) 128) _ s.0).1

-- the right length and sound entries
abbrev Sound : ℕ → Disjunct → Type 0
Sound n D = (length D ≡ n) × (all sound_entry D ≡ true)

module _ (b : Book) (held : List Held) (sh : sound_held b held ≡ true) (e : Event) (we : well_formed e ≡ true) where
  old_sound : (h : Held) → Memᴰ h held → Sound b.variables h.disjunct
  unfolding sound_held sound_piece
  old_sound h m =
      let pieces = (and_true_split (leb (length held) 128) (all (sound_piece b) held) (and_true_split _ (ascending compare_held held) sh).0).1 in
      let piece = (and_true_split (leb 1 h.position && leb h.position (length b.occurrences)) _ (all_at (sound_piece b) pieces m)).1 in
      let parts = and_true_split (eqb (length h.disjunct) b.variables) (all sound_entry h.disjunct) piece in
      (eqb-true _ _ parts.0, parts.1)

  label_sound : (p : ℕ) (D : Disjunct) → Memᴰ D (label_of held p) → Sound b.variables D
  label_sound p D m = let r = label_held held p m in rw r.3 (old_sound r.0 r.1)

  source_sound : (q : ℕ) (D : Disjunct) → Memᴰ D (sources b held q) → Sound b.variables D
  source_sound q D m =
      ⊎_elim (λ s. rw s.1 (length-replicate _ _, all_replicate sound_entry b.variables (free []) refl)) (λ s. rw s.3 (old_sound s.0 s.1))
      (source_cases b held q m)

  step_sound : (q : ℕ) (D : Disjunct) → Memᴰ D (step_set b held e q) → Sound b.variables D
  step_sound q D m =
      let r = (step_set_member b held e q D).0 m in
      let c = constraint_of (symbol_of b q) e in
      let old = source_sound q r.0 r.1 in
      rw r.3 (met_length r.0 c ∙ old.0, met_sound c r.0 (constraint_words (symbol_of b q) e we) old.1)

  skip_sound : (p : ℕ) → skip_room (map (λ s. constraint_of s e) b.symbols) (label_of held p) ≡ true
      → (D : Disjunct) → Memᴰ D (skip_set b held e p) → Sound b.variables D
  unfolding skip_set
  skip_sound p r D m = (values.0, entries_split D ∙ ap₂ ◌&&◌ (all_at few_exclusions few m) values.1)
    where
      few : all few_exclusions (skip_through (map (λ s. constraint_of s e) b.symbols) (label_of held p)) ≡ true
      few =
          few_through (map (λ s. constraint_of s e) b.symbols) (label_of held p) r
          (all_of few_exclusions (label_of held p) (λ E k. (entries_parts E (label_sound p E k).1).0))

      values : (length D ≡ b.variables) × (all sound_values D ≡ true)
      values = skip_kept e (λ E. (length E ≡ b.variables) × (all sound_values E ≡ true))
          (λ s E k F n. (
            eqb-true _ _ (all_at (λ G. eqb (length G) b.variables) (skip_length (constraint_of s e) E b.variables k.0) n),
            skip_values (constraint_of s e) E F (constraint_words s e we) n k.1,
          )) b held p
          (λ E k. let o = label_sound p E k in (o.0, (entries_parts E o.1).1)) D m

-- each label ascends, and so do the labels one after the other
labels_ascend : (f : ℕ → List Disjunct) → ((p : ℕ) → ascending compare_disjuncts (f p) ≡ true)
    → (k n : ℕ) → ascending compare_held (gather (λ p. map (held_at p) (f p)) (numbers k n)) ≡ true
labels_ascend f h k zero = refl
labels_ascend f h k (suc n) =
    append_ascending held_order (map (held_at k) (f k)) (gather (λ p. map (held_at p) (f p)) (numbers (suc k) n))
    (map_ascending compare_disjuncts compare_held (held_at k) (λ D E. ap (λ c. and_then c (compare_disjuncts D E)) (compare_order.self k)) (f k) ∙ h k)
    (labels_ascend f h (suc k) n) λ x y m l.
    let i = (mem_map (held_at k) x (f k)).0 m in
    let g = (mem_gather (λ p. map (held_at p) (f p)) y (numbers (suc k) n)).0 l in
    let j = (mem_map (held_at g.0) y (f g.0)).0 g.2 in
    rw (i.2, j.2, lt_compare k g.0 ((mem_numbers g.0 (suc k) n).0 g.1).0)

pub kept : (b : Book) → sound_book b ≡ true → (held : List Held) → sound_held b held ≡ true → (e : Event) → well_formed e ≡ true
    → room b held e ≡ true → sound_held b (new_held b held e) ≡ true
unfolding sound_held sound_piece new_held
kept b sb held sh e we r =
    ap₂ ◌&&◌ (ap₂ ◌&&◌ (room_parts b held e r).2 (all_of (sound_piece b) (new_held b held e) piece))
    (labels_ascend (new_label b held e) (new_label_ascending b held e) 1 (length b.occurrences))
  where
    piece : (h : Held) → Memᴰ h (new_held b held e) → sound_piece b h ≡ true
    piece h m =
        let from = new_cases b held e h m in
        let range = (mem_numbers h.position 1 (length b.occurrences)).0 from.0 in
        let sound : Sound b.variables h.disjunct =
        ⊎_elim (skip_sound b held sh e we h.position (all_at _ (room_parts b held e r).1 from.0) h.disjunct)
        (step_sound b held sh e we h.position h.disjunct) from.1 in
        rw (le-leb 1 h.position range.0, le-leb h.position (length b.occurrences) (omega arith), eq-eqb _ _ sound.0) sound.1

-- a set of positions 1 to n
mask_sound : (n m : ℕ) → m < 2 ^ suc n → ((p : ℕ) → Positions.Has p m → 1 ≤ p) → sound_mask n m ≡ true
mask_sound n m h k = ap₂ ◌&&◌ (lt-ltb m (2 ^ suc n) h) (go (bit 0 m) refl)
  where
    go : (t : Bool) → bit 0 m ≡ t → not t ≡ true
    go true e = absurd (omega (arith, k 0 e))
    go false e = refl

module _ (r : Regex) where
  begins_sound : sound_mask (Positions.size r) (Positions.beginning r 1) ≡ true
  begins_sound =
      mask_sound (Positions.size r) (Positions.beginning r 1) (beginning_below r 1 (suc (Positions.size r)) (omega arith))
      (λ p h. (beginning_among r 1 p h).low)

  ends_sound : sound_mask (Positions.size r) (Positions.ending r 1) ≡ true
  ends_sound =
      mask_sound (Positions.size r) (Positions.ending r 1) (ending_below r 1 (suc (Positions.size r)) (omega arith)) (λ p h. (ending_among r 1 p h).low)

  follows_sound : all (sound_mask (Positions.size r)) (map (Positions.following r 1) (numbers 1 (Positions.size r))) ≡ true
  follows_sound =
      rw all_map (all_of (λ p. sound_mask (Positions.size r) (Positions.following r 1 p)) (numbers 1 (Positions.size r)) λ p m.
      mask_sound (Positions.size r) (Positions.following r 1 p) (following_below r 1 p (suc (Positions.size r)) (omega arith))
      (λ q h. (following_among r 1 p q h).1.low))

  not_nullable : (In r [] → ⊥) → nullable r ≡ false
  not_nullable h = go (nullable r) refl
    where
      go : (t : Bool) → nullable r ≡ t → t ≡ false
      go true e = absurd (h ((empty_word_law r).1 e))
      go false e = refl

pub proper_sound : (tm : Tracematch) → Proper tm → sound_book (book_of tm) ≡ true
unfolding sound_book book_of
proper_sound tm ok = let r = tm.pattern in rw (
  le-leb tm.variables 4 ok.variables,
  le-leb 1 (length tm.symbols) ok.some,
  le-leb (length tm.symbols) 16 ok.few,
  ok.symbols,
  ok.declared,
  symbols_length r,
  le-leb 1 (Positions.size r) (size_pos r),
  le-leb (Positions.size r) 31 ok.occurrences,
  begins_sound r,
  ends_sound r,
  length-map,
  length_numbers 1 (Positions.size r),
  eq-eqb (Positions.size r) (Positions.size r) refl,
  follows_sound r,
  not_nullable r ok.nonempty,
)

-- the state after a run: as many events as its trace has, and what is held
pub state_after_law : (tm : Tracematch) (cs : List Call) → state_after tm cs ≡ record { number = length (trace_of cs); held = held_after tm cs }
state_after_law tm cs =
    let none : 0 + length (trace_of cs) ≡ length (trace_of cs) = omega arith in
    run_state (book_of tm) fresh cs ∙ ap (λ n. record { number = n; held = held_after tm cs }) none

-- an admissible event keeps the state sound
pub admissible_sound : (b : Book) → sound_book b ≡ true → (s : State) → sound_state b s ≡ true → (e : Event) → Admissible b s e
    → sound_state b (next b s e) ≡ true
unfolding sound_state
admissible_sound b sb s h e a =
    ap₂ ◌&&◌ (le-leb _ _ a.below) (kept b sb s.held (and_true_split (leb s.number event_limit) _ h).1 e a.formed a.roomy)

run_sound : (b : Book) → sound_book b ≡ true → {s : State} {cs : List Call} → sound_state b s ≡ true → OrderlyFrom b s cs
    → sound_state b (run (next b) s cs) ≡ true
run_sound b sb h o =
    kept_along (plain_machine (next b) (λ s e. e)) (λ s. sound_state b s ≡ true)
    {P = λ s c. was_taken c ≡ true → Admissible b s (sent_event c)} each h o
  where
    each : (s : State) → sound_state b s ≡ true → (c : Call) → (was_taken c ≡ true → Admissible b s (sent_event c))
        → sound_state b (cond (was_taken c) (next b s (sent_event c)) s) ≡ true
    each s h c a = either (λ z. sound_state b z ≡ true) (was_taken c) (λ t. admissible_sound b sb s h (sent_event c) (a t)) (λ _. h)

-- after every run that accepts only well-formed events for which there is room: nothing that answer 9 covers
pub never_unsound : (tm : Tracematch) → Proper tm → (cs : List Call) → Orderly (book_of tm) cs → (e : Event)
    → (sound_book (book_of tm) ≡ true) × (sound_state (book_of tm) (state_after tm cs) ≡ true) × (leaves_free (book_of tm) (state_after tm cs).held e ≡ false)
unfolding sound_state
never_unsound tm ok cs ord e =
    let sb = proper_sound tm ok in
    (sb, run_sound (book_of tm) sb (fresh_sound (book_of tm)) ord, rw (state_after_law tm cs) (none_left_free tm ok cs e))
