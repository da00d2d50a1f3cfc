-- The answer of the pure step by the checks in their order: what the first that fails answers, and what is left of them once book, state and record
-- have passed. For the functions of this crate, and for `watch`.
use mathlib.Core.Path.{◌≡◌, sym, ap, subst, ◌∙◌}
use mathlib.Core.Bool.{true, false}
use mathlib.Core.List.{List}
use Prim.Native.Nat.{ℕ, ◌≤◌}
use Rattle.std.proofs.Common.{Option, Some, None, is_some, Result, Ok, Err}
use borrow.Author.Tests.{eq-eqb, ne_eqb}
use Rattle.laws.specs.Checks.{Check, first_failing}
use Rattle.meaning.specs.Events as Events
use Rattle.meaning.specs.Sound.{event_limit}
use Rattle.book.specs.declared.Book.{Book}
use Rattle.state.specs.declared.State.{State}
use Rattle.sound.specs.Soundness.{book_sound, state_sound}
use Rattle.record.specs.declared.Event.{Event}
use Rattle.record.specs.Records.{is_record, event_in, event_of, view_event, decoded}
use Rattle.record.proofs.Records.{decoded_ok, decoded_event, view_event_law, event_count, event_few}
use Rattle.calls.specs.declared.EventAnswer.{EventAnswer}
use Rattle.calls.specs.declared.EventAnswer.TheVariants.{Accepted, Unsound, OutOfForm, TooMany, NoRoom}
use Rattle.calls.specs.Calls.{is_accepted, leaves_free_by, room_by, unsound, out_of_form, too_many, no_room, decisions}
use Rattle.transition.specs.declared.Stepped.{Stepped}
use Rattle.transition.specs.Moves.{judgements, Decided}

-- the same by another list of checks, of which the same fails first
decided_by : (b : Book) (s : State) (e : Events.Event) (k l : List (Check EventAnswer)) → first_failing Accepted k ≡ first_failing Accepted l
    → (x : Result Stepped EventAnswer) (at next out : List ℕ) → Decided b s e k x at next out → Decided b s e l x at next out
decided_by b s e k l h (Ok r) at next out d = (d.0 ∙ h, d.1)
decided_by b s e k l h (Err a) at next out d = (d.0 ∙ h, d.1)

-- the checks of a sound book in a sound state
module _ (b : Book) (s : State) (e : Events.Event) where
  pub judged_free : leaves_free_by b s e ≡ true → first_failing Accepted (judgements b s e) ≡ Unsound
  judged_free h = rw h

  module _ (all_bound : leaves_free_by b s e ≡ false) where
    pub judged_many : s.number ≡ event_limit → first_failing Accepted (judgements b s e) ≡ TooMany
    judged_many h = rw (all_bound, eq-eqb s.number event_limit h)

    module _ (few : s.number ≡ event_limit → ⊥) where
      pub judged_none : room_by b s e ≡ false → first_failing Accepted (judgements b s e) ≡ NoRoom
      judged_none h = rw (all_bound, ne_eqb s.number event_limit few, h)

      pub judged_passed : room_by b s e ≡ true → first_failing Accepted (judgements b s e) ≡ Accepted
      judged_passed h = rw (all_bound, ne_eqb s.number event_limit few, h)

-- the checks that do not look at what is lent for the rows
module _ (b : Book) (s : State) (r : List ℕ) where
  pub first_book : book_sound b ≡ false → first_failing Accepted (decisions b s r) ≡ Unsound
  unfolding unsound
  first_book h = rw h

  module _ (sb : book_sound b ≡ true) where
    pub first_state : state_sound b s ≡ false → first_failing Accepted (decisions b s r) ≡ Unsound
    unfolding unsound
    first_state h = rw (sb, h)

    module _ (ss : state_sound b s ≡ true) where
      pub first_form : is_record r ≡ false → first_failing Accepted (decisions b s r) ≡ OutOfForm
      unfolding unsound out_of_form
      first_form h = rw (sb, ss, h)

      -- those that are left
      pub first_judged : is_record r ≡ true → first_failing Accepted (decisions b s r) ≡ first_failing Accepted (judgements b s (event_in r))
      unfolding unsound out_of_form too_many no_room
      first_judged h = rw (sb, ss, h)

-- what is decoded of a record
pub decoded_not : (r : List ℕ) → None ≡ decoded r → is_record r ≡ false
decoded_not r e = sym (decoded_ok r) ∙ ap is_some (sym e)

module _ (r : List ℕ) (d : Event) (e : Some d ≡ decoded r) where
  decoded_record : is_record r ≡ true
  decoded_record = sym (decoded_ok r) ∙ ap is_some (sym e)

  decoded_same : d ≡ event_of (event_in r)
  decoded_same = let same : Some d ≡ Some (event_of (event_in r)) = e ∙ decoded_event r decoded_record in cc

  pub decoded_few : d.count ≤ 4
  decoded_few = rw (decoded_same, event_count (event_in r)) (event_few r decoded_record)

  decoded_view : view_event d ≡ event_in r
  decoded_view = ap view_event decoded_same ∙ view_event_law (event_in r)

  -- what is decided of the event that is decoded is decided of the record
  pub decided_record : (b : Book) (s : State) → book_sound b ≡ true → state_sound b s ≡ true → (x : Result Stepped EventAnswer) (at next out : List ℕ)
      → Decided b s (view_event d) (judgements b s (view_event d)) x at next out
      → Decided b s (event_in r) (decisions b s r) x at next out
  decided_record b s sb ss x at next out g =
      decided_by b s (event_in r) (judgements b s (event_in r)) (decisions b s r) (sym (first_judged b s r sb ss decoded_record)) x
      at next out (subst (λ v. Decided b s v (judgements b s v) x at next out) decoded_view g)
