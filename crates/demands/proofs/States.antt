-- A sound plain state in the struct of the code: its counts are in range; and what soundness says of its parts. For the bridge from
-- runs of event calls to plain runs.
use mathlib.Core.Path.{◌≡◌, refl, sym, ap, ap₂, ◌∙◌}
use mathlib.Core.Bool.{true, ◌&&◌}
use mathlib.Core.List.{List, map, Memᴰ}
use Prim.Native.Nat.{ℕ, compare, ◌≤◌}
use borrow.Author.Tests.{eqb-true, leb-true}
use lib.Dec.{eqb, leb}
use lib.ListN.{length, take, length-map}
use Rattle.laws.specs.Lists.{all}
use Rattle.laws.specs.Order.{ascending}
use Rattle.laws.specs.Parts.{pad}
use Rattle.laws.proofs.Lists.{and_true_split, all_map, all_at, all_of}
use Rattle.laws.proofs.Parts.{pad_take}
use Rattle.meaning.specs.Book as Plain
use Rattle.meaning.specs.Events.{word32}
use Rattle.meaning.specs.Labels as Labels
use Rattle.meaning.specs.Labels.{Entry, bound, free, Held, compare_held}
use Rattle.meaning.specs.Room.{held_limit}
use Rattle.meaning.specs.Sound.{sound_entry, sound_piece, sound_held, sound_state, event_limit}
use Rattle.slot.specs.Slots.{slot_of}
use Rattle.disjunct.specs.Disjuncts.{disjunct_of}
use Rattle.state.specs.States.{state_of}
use Rattle.sound.specs.Soundness.{slot_counts, state_counts}

-- what is counted of a padded map
pub taken_back : {A B : Type 0} (n : ℕ) (d : B) (f : A → B) (l : List A) → take (length l) (pad n d (map f l)) ≡ map f l
taken_back n d f l = ap (λ k. take k (pad n d (map f l))) (sym (length-map l f)) ∙ pad_take n d (map f l)

slot_counts_law : (x : Entry) → sound_entry x ≡ true → slot_counts (slot_of x) ≡ true
unfolding slot_counts slot_of
slot_counts_law (bound a) h = refl
slot_counts_law (free xs) h = (and_true_split (leb (length xs) 6) (all word32 xs) (and_true_split _ (ascending compare xs) h).0).0

disjunct_counts : (n : ℕ) (D : Labels.Disjunct) → length D ≡ n → all sound_entry D ≡ true → all slot_counts (take n (disjunct_of D).vars) ≡ true
unfolding disjunct_of
disjunct_counts n D e h = rw (← e, taken_back, all_map) (all_of _ D λ x m. slot_counts_law x (all_at sound_entry h m))

-- What soundness says of each part.
module _ (b : Plain.Book) (s : Labels.State) (sound : sound_state b s ≡ true) where
  pub number_within : s.number ≤ event_limit
  unfolding sound_state
  number_within = leb-true _ event_limit (and_true_split (leb s.number event_limit) _ sound).0

  pub held_sound : sound_held b s.held ≡ true
  unfolding sound_state
  held_sound = (and_true_split (leb s.number event_limit) _ sound).1

  pieces : (leb (length s.held) held_limit ≡ true) × (all (sound_piece b) s.held ≡ true)
  unfolding sound_held
  pieces = and_true_split _ _ (and_true_split _ (ascending compare_held s.held) held_sound).0

  pub piece : (h : Held) → Memᴰ h s.held → (length h.disjunct ≡ b.variables) × (all sound_entry h.disjunct ≡ true)
  unfolding sound_piece
  piece h m =
      let p = (and_true_split (leb 1 h.position && leb h.position (length b.occurrences)) _ (all_at (sound_piece b) pieces.1 m)).1 in
      let q = and_true_split (eqb (length h.disjunct) b.variables) (all sound_entry h.disjunct) p in
      (eqb-true _ _ q.0, q.1)

  pub few_held : length s.held ≤ held_limit
  few_held = leb-true _ held_limit pieces.0

  pub lengths : (h : Held) → Memᴰ h s.held → length h.disjunct ≡ b.variables
  lengths h m = (piece h m).0

  -- at most six exclusions, and none at a bound variable
  pub counts : state_counts b.variables (state_of s) ≡ true
  unfolding state_counts state_of
  counts =
      ap₂ ◌&&◌ pieces.0
      (rw (taken_back, all_map) (all_of _ s.held λ h m. disjunct_counts b.variables h.disjunct (piece h m).0 (piece h m).1))
