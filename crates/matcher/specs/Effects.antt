-- What the pure step over lent words asks of them, and what it leaves in them. No public contract and no theorem cites this page: a buyer may pass
-- it over.
use Rattle.std.specs.Prelude.{◌≡◌, IfSome, true, cond, List, map, ℕ, ◌≤◌, length, take}
use Rattle.laws.specs.Sets.{full, grown}
use Rattle.meaning.specs.Events as Events
use Rattle.meaning.specs.Book.{Book}
use Rattle.meaning.specs.Labels.{Held, new_held}
use Rattle.meaning.specs.Room as Room
use Rattle.meaning.specs.Rows as Rows
use Rattle.meaning.specs.Sound.{sound_held}
use Rattle.meaning.specs.Wide.{wide_held, wide_valuation}
use Rattle.packed.specs.Held.{held_in, held_grown}
use Rattle.rows.specs.Valuations.{valuations_in}
use Rattle.matcher.specs.declared.Effect.{Effect}

-- the first n of the lent words hold what is sound with the book, made four wide
pub record Holding (b : Book) (n : ℕ) (at words : List ℕ) : Type 0 where
  pub plain : List Held
  pub sound : sound_held b plain ≡ true
  pub wide : held_in n at words ≡ map wide_held plain

-- what an event leaves: the flag of a free variable, the new labels or no room for them, and words that begin with the rows' valuations
pub record Effects (b : Book) (held : List Held) (e : Events.Event) (r : Effect) (at words out : List ℕ) : Type 0 where
  pub free : r.free ≡ Rows.leaves_free b held e
  pub after : held_grown r.held at words ≡ cond (Room.room b held e) (grown (map wide_held (new_held b held e))) full
  pub room : IfSome r.held (λ k. k ≤ Room.held_limit)
  pub counted : r.rows ≡ length (Rows.rows b held e)
  pub few : r.rows ≤ Rows.row_limit
  pub listed : take r.rows (valuations_in out) ≡ map wide_valuation (Rows.rows b held e)
