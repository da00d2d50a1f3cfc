-- What the pure step over lent words says, as what the event call says of the book and the state: what is held, free variables, room, the rows and
-- the state after the event. For `judged`.
use mathlib.Core.Path.{◌≡◌, refl, sym, ap, ap₂, subst, ◌∙◌}
use mathlib.Core.Bool.{Bool, true, false, cond}
use mathlib.Core.List.{List, map}
use Prim.Native.Nat.{ℕ, suc, ◌+◌, ◌≤◌, ◌<◌}
use Rattle.std.proofs.Common.{Some, None, Ok}
use Rattle.meaning.specs.Room.{held_limit}
use native.Mathlib.Numerals.{add-one}
use native.Mathlib.Omega.{arith}
use Rattle.laws.specs.Sets.{full, grown}
use Rattle.meaning.specs.Events as Events
use Rattle.meaning.specs.Book.{sound_book}
use Rattle.meaning.specs.Labels.{Held, new_held}
use Rattle.meaning.specs.Sound.{sound_held, event_limit}
use Rattle.meaning.specs.Wide.{wide_held}
use Rattle.book.specs.declared.Book.{Book}
use Rattle.book.specs.Books.{view_book}
use Rattle.book.specs.Counts.{view_from}
use Rattle.packed.specs.Held.{held_in, held_grown}
use Rattle.packed.proofs.Held.{width_in}
use Rattle.state.specs.declared.State.{State}
use Rattle.state.specs.States.{state_of, held_first, view_state}
use Rattle.state.proofs.States.{state_wide}
use Rattle.sound.specs.Soundness.{book_sound, state_sound}
use Rattle.sound.proofs.Soundness.{book_view, state_view}
use Rattle.calls.specs.Calls.{rows_by, state_by, leaves_free_by, room_by}
use Rattle.matcher.specs.declared.Effect.{Effect}
use Rattle.matcher.specs.Effects.{Holding, Effects}
use Rattle.transition.specs.Moves.{judgements, Decided}
use Rattle.transition.proofs.Checks.{judged_passed}

-- a match begins where the book says
pub own_begins : (b : Book) → view_from b.begins b ≡ view_book b
unfolding view_book
own_begins b = refl

pub begins_sound : (b : Book) → book_sound b ≡ true → sound_book (view_from b.begins b) ≡ true
begins_sound b h = ap sound_book (own_begins b) ∙ book_view b h

module _ (b : Book) (s : State) where
  -- the lent words hold what the state holds
  abbrev pub holding : state_sound b s ≡ true → (at w : List ℕ) → held_in s.count at w ≡ map wide_held (held_first b.variables s)
      → Holding (view_from b.begins b) s.count at w
  holding ss at w e =
      record {
        plain = held_first b.variables s;
        sound = ap (λ x. sound_held x (held_first b.variables s)) (own_begins b) ∙ state_view b s ss;
        wide = e;
      }

  -- what the event leaves in the lent words
  module _ (e : Events.Event) (r : Effect) (at w out : List ℕ)
      (left : Effects (view_from b.begins b) (held_first b.variables s) e r at w out) where
    known : Effects (view_book b) (held_first b.variables s) e r at w out
    known = subst (λ x. Effects x (held_first b.variables s) e r at w out) (own_begins b) left

    pub free_known : {t : Bool} → r.free ≡ t → leaves_free_by b s e ≡ t
    unfolding leaves_free_by
    free_known h = sym known.free ∙ h

    -- what is held after the event
    abbrev after : List Held
    after = new_held (view_book b) (held_first b.variables s) e

    grew_known : held_grown r.held at w ≡ cond (room_by b s e) (grown (map wide_held after)) full
    unfolding room_by
    grew_known = known.after

    pub no_room_law : r.held ≡ None → room_by b s e ≡ false
    no_room_law h = go (room_by b s e) (ap (λ k. held_grown k at w) (sym h) ∙ grew_known)
      where
        go : (t : Bool) → full ≡ cond t (grown (map wide_held after)) full → t ≡ false
        go true g = cc
        go false g = refl

    module _ (n : ℕ) (h : r.held ≡ Some n) where
      room_held : (room_by b s e ≡ true) × (held_in n at w ≡ map wide_held after)
      room_held = go (room_by b s e) (ap (λ k. held_grown k at w) (sym h) ∙ grew_known)
        where
          go : (t : Bool) → grown (held_in n at w) ≡ cond t (grown (map wide_held after)) full
              → (t ≡ true) × (held_in n at w ≡ map wide_held after)
          go true g = (refl, cc)
          go false g = let z : ◌≡◌ {A = ℕ} 0 1 = cc in absurd (omega arith)

      room_few : n ≤ held_limit
      room_few = rw h at known.room

      stored_known : state_of (record { number = s.number + 1; held = held_in n at w }) ≡ state_by b s e
      unfolding state_by view_state
      stored_known =
          let k = room_held.1 in
          ap₂ (λ n l. state_of (record { number = n; held = l })) (add-one s.number) k
          ∙ state_wide (suc s.number) after (width_in n at w after k)

      -- accepted: no check fails, and the next state can be stored
      pub accepted_by : r.free ≡ false → s.number ≤ event_limit → (s.number ≡ event_limit → ⊥)
          → Decided b s e (judgements b s e) (Ok (record { held = n; rows = r.rows })) at w out
      unfolding rows_by
      accepted_by f l m = (
        sym (judged_passed b s e (free_known f) m room_held.0),
        record {
          below = omega (arith, l, m);
          room = room_few;
          after = stored_known;
          counted = known.counted;
          few = known.few;
          listed = known.listed;
        },
      )
