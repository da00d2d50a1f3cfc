-- After an accepted event, for any book and state: what is held is what a state's words can tell, and both counts are within the limit. For the lent
-- call, which stores it.
use mathlib.Core.Path.{◌≡◌, refl, sym, subst}
use mathlib.Core.Bool.{Bool, true, false}
use mathlib.Core.List.{List, Memᴰ}
use mathlib.Core.Logic.{⊎_elim}
use Prim.Native.Nat.{ℕ, suc, ◌≤◌, ◌<◌}
use native.Mathlib.Nat.{eq-or-lt_of_le}
use native.Mathlib.Omega.{arith}
use borrow.Author.Tests.{leb-true}
use lib.Dec.{leb}
use lib.ListN.{length}
use Rattle.laws.specs.Lists.{all}
use Rattle.laws.proofs.Lists.{and_true_split, all_at, all_of}
use Rattle.meaning.specs.Book.{sound_book}
use Rattle.meaning.specs.Labels.{Entry, bound, free, exclusions, Held, State, next, new_held}
use Rattle.meaning.specs.Room.{room, few_exclusions}
use Rattle.meaning.specs.Runs.{Admissible}
use Rattle.meaning.specs.Sound.{sound_entry, sound_state, event_limit}
use Rattle.automaton.proofs.Kept.{admissible_sound}
use Rattle.automaton.proofs.NoRoom.{no_room_law}
use Rattle.form.specs.Text.{Bytes, is_bytes}
use Rattle.record.specs.Records.{is_record, event_in}
use Rattle.record.proofs.Records.{record_event}
use Rattle.book.specs.declared.Book.{Book}
use Rattle.book.specs.Books.{view_book}
use Rattle.state.specs.declared.State.{State as Struct}
use Rattle.state.specs.States.{held_first, view_state}
use Rattle.sound.specs.Soundness.{book_counts, book_sound, state_counts, state_sound}
use Rattle.sound.proofs.Soundness.{book_counts_law}
use Rattle.tally.specs.declared.Tally.{Tally}
use Rattle.calls.specs.Answers.{number_of}
use Rattle.calls.specs.Calls.{taken}
use Rattle.calls.specs.Checks.{unsound_book, unsound_state}
use Rattle.demands.proofs.Checks.{first_failing_law, accepted_leaves}
use Rattle.demands.proofs.States.{number_within, few_held, piece}
use Rattle.blocks.proofs.States.{Canonical, canonical_of}

-- a test that cannot fail passes
passes : (z : Bool) → (z ≡ false → ⊥) → z ≡ true
passes true h = refl
passes false h = absurd (h refl)

less : (n : ℕ) → (n ≡ event_limit → ⊥) → n ≤ event_limit → n < event_limit
less n h k = ⊎_elim (λ e. absurd (h e)) (λ x. x) (eq-or-lt_of_le k)

pub few_of : (D : List Entry) → all sound_entry D ≡ true → few_exclusions D ≡ true
few_of D h = all_of _ D λ x m. few x (all_at sound_entry h m)
  where
    few : (x : Entry) → sound_entry x ≡ true → leb (length (exclusions x)) 6 ≡ true
    few (bound a) h = refl
    few (free xs) h = (and_true_split (leb (length xs) 6) _ (and_true_split _ _ h).0).0

module _ (b : Book) (s : Struct) (bytes : Bytes) (lent : is_bytes bytes ≡ true) (buffer : Bytes) (place : ℕ) (t : Tally)
    (accepted : number_of (taken b s bytes buffer place t).answer ≡ 0) where
  -- none of the checks fails
  pub book_is_sound : book_sound b ≡ true
  book_is_sound = passes (book_sound b) (λ h. ((first_failing_law b s bytes buffer place t).zero.0 accepted).0 (unsound_book h))

  pub state_is_sound : state_sound b s ≡ true
  state_is_sound = passes (state_sound b s) (λ h. ((first_failing_law b s bytes buffer place t).zero.0 accepted).0 (unsound_state h))

  in_form : is_record bytes ≡ true
  in_form = passes (is_record bytes) ((first_failing_law b s bytes buffer place t).zero.0 accepted).1

  abbrev before : State
  before = view_state b.variables s

  plain_sound : (sound_book (view_book b) ≡ true) × (sound_state (view_book b) before ≡ true)
  unfolding book_sound state_sound
  plain_sound = ((and_true_split (book_counts b) _ book_is_sound).1, (and_true_split (state_counts b.variables s) _ state_is_sound).1)

  admissible : Admissible (view_book b) before (event_in bytes)
  unfolding view_state
  admissible =
      record {
        formed = record_event bytes lent in_form;
        below = let none : s.number ≡ event_limit → ⊥ = ((first_failing_law b s bytes buffer place t).zero.0 accepted).2 in
            less s.number none (number_within (view_book b) before plain_sound.1);
        roomy = passes (room (view_book b) (held_first b.variables s) (event_in bytes))
            (λ h. ((first_failing_law b s bytes buffer place t).zero.0 accepted).3 ((no_room_law (view_book b) (held_first b.variables s) (event_in bytes)).0 h));
      }

  after_sound : sound_state (view_book b) (next (view_book b) before (event_in bytes)) ≡ true
  after_sound = admissible_sound (view_book b) plain_sound.0 before plain_sound.1 (event_in bytes) admissible

  -- how many are held before
  pub few_before : s.count ≤ 128
  unfolding state_sound state_counts
  few_before = leb-true s.count 128 (and_true_split (leb s.count 128) _ (and_true_split _ (sound_state (view_book b) before) state_is_sound).0).0

  -- what is held behind
  abbrev pub after : State
  after = record { number = suc s.number; held = new_held (view_book b) (held_first b.variables s) (event_in bytes) }

  pub few_after : length after.held ≤ 128
  unfolding view_state
  few_after = few_held (view_book b) (next (view_book b) before (event_in bytes)) after_sound

  pub each_after : (h : Held) → Memᴰ h after.held → (length h.disjunct ≤ 4) × (few_exclusions h.disjunct ≡ true)
  unfolding view_book view_state
  each_after h m =
      let (size, each) = piece (view_book b) (next (view_book b) before (event_in bytes)) after_sound h m in
      (omega (arith, size, (book_counts_law b book_is_sound).0), few_of h.disjunct each)

  pub wide_after : (h : Held) → Memᴰ h after.held → length h.disjunct ≡ b.variables
  unfolding view_book view_state
  wide_after h m = (piece (view_book b) (next (view_book b) before (event_in bytes)) after_sound h m).0

  pub canonical_after : Canonical (taken b s bytes buffer place t).state
  canonical_after = subst Canonical (sym (accepted_leaves b s bytes buffer place t accepted).0) (canonical_of after few_after each_after)
