-- The five checks of an event call in words, for any book and state, reached by a run or not: document 01, "What a call hands back". The
-- theorem `first_failing_law` (crate demands, Checks) says of what a call hands back that its number is that of the first that fails.
use Rattle.std.specs.Prelude.{◌≡◌, true, false, ◌↔◌, ℕ, ◌+◌, ◌*◌, ◌<◌, length}
use mathlib.Core.List.{List, Memᴰ}
use Rattle.meaning.specs.Events.{Valuation}
use Rattle.meaning.specs.Room.{Broken}
use Rattle.laws.specs.Lists.{any}
use Rattle.meaning.specs.Book.{positions, ends_at}
use Rattle.meaning.specs.Labels.{Disjunct, is_free, step_set}
use Rattle.meaning.specs.Rows.{rows}
use Rattle.meaning.specs.Sound.{event_limit}
use Rattle.form.specs.Text.{Bytes}
use Rattle.record.specs.Records.{is_record, event_in}
use Rattle.book.specs.declared.Book.{Book}
use Rattle.book.specs.Books.{view_book}
use Rattle.state.specs.declared.State.{State}
use Rattle.state.specs.States.{held_first}
use Rattle.row.specs.RowBytes.{row_size}
use Rattle.sound.specs.Soundness.{book_sound, state_sound}

module _ (b : Book) (s : State) (bytes : Bytes) where
  -- 9: "unsound book or state"; "9 also covers a row that would leave a variable free", which asks for a record in form
  pub data Unsound : Type 0 where
    unsound_book : book_sound b ≡ false → Unsound
    unsound_state : state_sound b s ≡ false → Unsound
    left_free : is_record bytes ≡ true → (q : ℕ) → Memᴰ q (positions (view_book b)) → ends_at (view_book b) q ≡ true
        → (D : Disjunct) → Memᴰ D (step_set (view_book b) (held_first b.variables s) (event_in bytes) q) → any is_free D ≡ true → Unsound

  -- 10: "event record out of form, or not 20 bytes"
  abbrev pub OutOfForm : Type 0
  OutOfForm = is_record bytes ≡ false

  -- 11: "1,000,000 events already accepted"
  abbrev pub TooMany : Type 0
  TooMany = s.number ≡ event_limit

  -- 12: "no room", by a rule that is broken
  abbrev pub NoRoom : Type 0
  NoRoom = Broken (view_book b) (held_first b.variables s) (event_in bytes)

  -- the rows that the call would write
  abbrev pub rows_due : List Valuation
  rows_due = rows (view_book b) (held_first b.variables s) (event_in bytes)

  -- 13: "row buffer too short, or start place beyond it"
  abbrev pub NoSpace : (buffer : Bytes) (place : ℕ) → Type 0
  NoSpace buffer place = length buffer < place + row_size * length rows_due

  -- "Events: 9 to 13 in that order": n is the number of the first that fails, and 0 where none does
  pub record FirstFailing (buffer : Bytes) (place : ℕ) (n : ℕ) : Type 0 where
    pub nine : (n ≡ 9) ↔ Unsound
    pub ten : (n ≡ 10) ↔ ((Unsound → ⊥) × OutOfForm)
    pub eleven : (n ≡ 11) ↔ ((Unsound → ⊥) × (OutOfForm → ⊥) × TooMany)
    pub twelve : (n ≡ 12) ↔ ((Unsound → ⊥) × (OutOfForm → ⊥) × (TooMany → ⊥) × NoRoom)
    pub thirteen : (n ≡ 13) ↔ ((Unsound → ⊥) × (OutOfForm → ⊥) × (TooMany → ⊥) × (NoRoom → ⊥) × NoSpace buffer place)
    pub zero : (n ≡ 0) ↔ ((Unsound → ⊥) × (OutOfForm → ⊥) × (TooMany → ⊥) × (NoRoom → ⊥) × (NoSpace buffer place → ⊥))
