-- What the types alone tell of a slot, a state and a book: the lengths of their arrays, and that their numbers are words. The kit
-- says it of a parameter as a part of `c.well_formed`. For the functions of this crate and for the event call.
use mathlib.Core.Path.{◌≡◌, refl, ap₂}
use mathlib.Core.Bool.{true, ◌&&◌}
use mathlib.Core.List.{List, [], ◌∷◌, Memᴰ}
use Prim.Native.Nat.{ℕ, ◌^◌}
use borrow.Author.Tests.{lt-ltb}
use denote.Laws.{Is}
use denote.Shadow.{shadow}
use denote.Array.{each}
use denote.Builtin.{u32}
use mir.Val.{Val}
use lib.ListN.{length}
use Rattle.laws.specs.Lists.{all}
use Rattle.meaning.specs.Events.{word32}
use Rattle.slot.specs.declared.Slot.{Slot}
use Rattle.slot.specs.contracts.Slot as slots
use Rattle.disjunct.specs.declared.Disjunct.{Disjunct}
use Rattle.disjunct.proofs.Disjuncts.{sized_in}
use Rattle.book.specs.declared.Book.{Book}
use Rattle.book.specs.contracts.Book as books
use Rattle.state.specs.declared.State.{State}
use Rattle.state.specs.contracts.State as states

words : (xs : List ℕ) (us : List Val) → shadow (each u32.Denot u32.own_val xs us) → all word32 xs ≡ true
words [] us h = refl
words (x ∷ xs) [] h = absurd h
words (x ∷ xs) (u ∷ us) h = ap₂ ◌&&◌ (lt-ltb x (2 ^ 32) h.0.1) (words xs us h.1)

-- the numbers of a slot are words
pub record Words (s : Slot) : Type 0 where
  pub value : word32 s.value ≡ true
  pub excluded : all word32 s.excluded ≡ true

pub slot_words_law : (s : Slot) {vs : List Val} → Is slots.the_row s vs → Words s
slot_words_law s h =
    let a = h.1.1.1.1.1.0 in
    record { value = lt-ltb s.value (2 ^ 32) h.1.1.1.0.1; excluded = words s.excluded a.0 a.1.1 }

-- the arrays of a state, and those of each disjunct in it, have their lengths
pub record StateSized (s : State) : Type 0 where
  pub positions : length s.positions ≡ 128
  pub pool : length s.pool ≡ 128
  pub vars : (d : Disjunct) → Memᴰ d s.pool → length d.vars ≡ 4

pub state_sized : (s : State) {vs : List Val} → Is states.the_row s vs → StateSized s
state_sized s h =
    let a = h.1.1.1.1.1.0 in
    record {
      positions = h.1.1.1.1.0.1.0.1;
      pool = a.1.0.1;
      vars = λ d m. (sized_in s.pool a.0 a.1.1 d m).four;
    }

-- the arrays of a book have their lengths
pub record BookSized (b : Book) : Type 0 where
  pub names : length b.names ≡ 20
  pub table : length b.table ≡ 16
  pub occurrences : length b.occurrences ≡ 31
  pub follows : length b.follows ≡ 31

pub book_sized : (b : Book) {vs : List Val} → Is books.the_row b vs → BookSized b
book_sized b h =
    let t = h.1.1.1.1.1 in
    let f = t.1.1.1.1.1 in
    record {
      names = h.1.1.1.1.0.1.0.1;
      table = t.0.1.0.1;
      occurrences = t.1.1.0.1.0.1;
      follows = f.0.1.0.1;
    }
