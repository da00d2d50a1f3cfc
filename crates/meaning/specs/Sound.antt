-- Soundness of what is held: document 01, "every number in its declared range, … exclusions and disjuncts ascending and
-- distinct, no exclusions at a bound variable, at most 128 disjuncts". An entry is bound or has exclusions, never both.
use Rattle.std.specs.Prelude.{Bool, ◌&&◌, List, eqb, leb, length}
use Prim.Native.Nat.{ℕ, compare}
use Rattle.laws.specs.Lists.{all}
use Rattle.laws.specs.Order.{ascending}
use Rattle.meaning.specs.Events.{word32}
use Rattle.meaning.specs.Book.{Book}
use Rattle.meaning.specs.Labels.{Entry, bound, free, Disjunct, Held, State, compare_held}
use Rattle.meaning.specs.Room.{exclusion_limit, held_limit}

-- "every number in its declared range", "exclusions … ascending and distinct"
abbrev pub sound_entry : Entry → Bool
sound_entry (bound a) = word32 a
sound_entry (free xs) = leb (length xs) exclusion_limit && all word32 xs && ascending compare xs

-- an entry for each variable, each sound
abbrev pub sound_disjunct : ℕ → Disjunct → Bool
sound_disjunct variables D = eqb (length D) variables && all sound_entry D

-- one held disjunct: its position is one of the book's
unfoldable pub sound_piece : Book → Held → Bool
sound_piece b h =
    leb 1 h.position && leb h.position (length b.occurrences) && sound_disjunct b.variables h.disjunct

-- "disjuncts ascending and distinct, … at most 128 disjuncts"
unfoldable pub sound_held : Book → List Held → Bool
sound_held b held = leb (length held) held_limit && all (sound_piece b) held && ascending compare_held held

-- "1,000,000 events already accepted"
abbrev pub event_limit : ℕ
event_limit = 1000000

-- the event number in its range, and what is held sound
unfoldable pub sound_state : Book → State → Bool
sound_state b s = leb s.number event_limit && sound_held b s.held
