-- From event calls over structs and bytes to plain states: the book of a read text is that of its tracematch, and a call in the struct of a
-- steady plain state is decided by the definitions of the crate meaning. For Course.
use mathlib.Core.Path.{◌≡◌, refl, ap, ap₂}
use mathlib.Core.Bool.{true, false, ◌&&◌, and-eq-true_iff, and-true, and-false}
use mathlib.Core.List.{List, map, Memᴰ}
use Prim.Native.Nat.{ℕ, ◌+◌, ◌*◌, ◌≤◌, ◌<◌}
use native.Mathlib.Omega.{arith}
use borrow.Author.Tests.{leb-true, le-leb}
use lib.Dec.{leb}
use lib.ListN.{length, take}
use Rattle.laws.specs.Checks.{FirstToFail}
use Rattle.laws.specs.Lists.{all}
use Rattle.laws.proofs.Checks.{first_passed}
use Rattle.laws.proofs.Lists.{all_map, all_at, all_of}
use Rattle.pattern.specs.Regex.{Regex}
use Rattle.pattern.specs.Positions as Positions
use Rattle.meaning.specs.Events as Events
use Rattle.meaning.specs.Events.{Event, well_formed}
use Rattle.meaning.specs.Meaning.{Tracematch}
use Rattle.meaning.specs.Book.{book_of, Proper, sound_symbol}
use Rattle.meaning.specs.Labels.{State, fresh_at, next}
use Rattle.meaning.specs.Room.{room}
use Rattle.meaning.specs.Rows.{rows}
use Rattle.meaning.specs.Sound.{sound_state, sound_held, event_limit}
use Rattle.meaning.specs.Runs as Runs
use Rattle.automaton.proofs.Kept.{proper_sound, admissible_sound}
use Rattle.automaton.proofs.Bound.{AllBacked, backed_none, backed_next, backed_free}
use Rattle.form.specs.Text.{Bytes, Declarations, tracematch_of}
use Rattle.form.specs.Limits.{text_limit}
use Rattle.form.specs.Form.{Form}
use Rattle.parsing.proofs.Accepted.{form_proper}
use Rattle.form.specs.Lines.{declared_table}
use Rattle.table.specs.Tables.{parameter_of, symbol_of, table_of}
use Rattle.record.specs.Records.{is_record, event_in}
use Rattle.book.specs.declared.Book.{Book}
use Rattle.book.specs.Books.{reading, view_book, book_for}
use Rattle.book.proofs.Bench.{fields, whole, names_inside}
use Rattle.state.specs.States.{state_of, held_first, view_state}
use Rattle.state.proofs.States.{view_state_law}
use Rattle.sound.specs.Soundness.{symbol_counts, name_placed, book_counts, book_sound, state_sound}
use Rattle.row.specs.RowBytes.{row_size}
use Rattle.calls.specs.Answers.{ten_to_thirteen}
use Rattle.calls.specs.declared.EventAnswer.{EventAnswer}
use Rattle.calls.specs.declared.EventAnswer.TheVariants.{Accepted, Unsound, OutOfForm, TooMany, NoRoom, NoSpace}
use Rattle.calls.specs.Runs.{Lent, Made, was_accepted}
use Rattle.calls.specs.Calls.{is_accepted, unsound, leaves_free_by, rows_by, state_by, room_by}
use Rattle.demands.proofs.States.{taken_back, few_held, lengths, counts}

-- a struct that holds the book of a tracematch, as a reading hands it back
pub record Read (b : Book) (tm : Tracematch) : Type 0 where
  pub view : view_book b ≡ book_of tm
  pub proper : Proper tm
  pub sound : book_sound b ≡ true

-- the counts and tags of the struct are in range
parameter_tag : (p : Events.Parameter) → leb (parameter_of p).tag 2 ≡ true
parameter_tag Events.Parameter.ignored = refl
parameter_tag (Events.Parameter.names v) = refl
parameter_tag (Events.Parameter.fixed n) = refl

symbol_counts_law : (n : ℕ) (y : Events.Symbol) → sound_symbol n y ≡ true → symbol_counts (symbol_of y) ≡ true
unfolding symbol_counts symbol_of sound_symbol
symbol_counts_law n y h =
    let few : leb (length y.parameters) 4 ≡ true = (simp and-eq-true_iff at h).0.1 in
    rw (few, taken_back, all_map) (all_of _ y.parameters λ p m. parameter_tag p)

module _ (text : Bytes) (d : Declarations) (r : Regex) (f : Form text d r) where
  names_placed : let b = (reading text).book in all name_placed (take (b.variables + b.symbols) b.names) ≡ true
  names_placed =
      let b = (reading text).book in
      all_of name_placed (take (b.variables + b.symbols) b.names) λ x m. le-leb (x.start + x.size) text_limit
      (omega (arith, leb-true (x.start + x.size) (length text) (all_at _ (names_inside text d r f) m), f.shape.short))

  book_counts_law : book_counts (reading text).book ≡ true
  unfolding book_counts book_for table_of
  book_counts_law =
      let ok = form_proper text d r f in
      let t = (declared_table d).table in
      rw (
        names_placed,
        and-true,
        whole text d r f,
        le-leb (length t) 16 ok.few,
        le-leb (Positions.size r) 31 ok.occurrences,
        taken_back,
        all_map symbol_counts symbol_of t,
      )
      (all_of _ t λ y m. symbol_counts_law _ y (all_at _ ok.symbols m))

  pub read : Read (reading text).book (tracematch_of d r)
  unfolding book_sound
  read =
      let ok = form_proper text d r f in
      record {
        view = fields text d r f;
        proper = ok;
        sound = ap₂ ◌&&◌ book_counts_law (rw (fields text d r f) (proper_sound _ ok));
      }

-- the plain call of a made one
abbrev pub plain_call : Made → Runs.Call
plain_call m = Runs.event (event_in m.lent.bytes) (was_accepted m)

abbrev pub plain : List Made → List Runs.Call
plain ms = map plain_call ms

-- The checks of a call in a plain state, by the definitions of the crate meaning, each by its answer: when it fails, and when it passes.
module _ (tm : Tracematch) (s : State) (l : Lent) where
  -- where the rows would end
  abbrev rows_end : ℕ
  rows_end = l.place + row_size * length (rows (book_of tm) s.held (event_in l.bytes))

  abbrev pub FailsIn : EventAnswer → Type 0
  FailsIn Accepted = ⊥
  FailsIn Unsound = ⊥
  FailsIn OutOfForm = is_record l.bytes ≡ false
  FailsIn TooMany = s.number ≡ event_limit
  FailsIn NoRoom = room (book_of tm) s.held (event_in l.bytes) ≡ false
  FailsIn NoSpace = length l.buffer < rows_end

  abbrev pub PassesIn : EventAnswer → Type 0
  PassesIn Accepted = ⊥ → ⊥
  PassesIn Unsound = ⊥ → ⊥
  PassesIn OutOfForm = is_record l.bytes ≡ true
  PassesIn TooMany = s.number < event_limit
  PassesIn NoRoom = room (book_of tm) s.held (event_in l.bytes) ≡ true
  PassesIn NoSpace = rows_end ≤ length l.buffer

  -- the answer to the call
  pub record Decision (a : EventAnswer) : Type 0 where
    pub first : FirstToFail FailsIn PassesIn (λ x. x) Accepted ten_to_thirteen a

  -- what acceptance says: all of them pass
  pub all_pass : {a : EventAnswer} → Decision a → is_accepted a ≡ true → (k : EventAnswer)
      → Memᴰ k ten_to_thirteen → PassesIn k
  all_pass d h = first_passed is_accepted d.first refl h

  pub in_form : {a : EventAnswer} → Decision a → is_accepted a ≡ true → is_record l.bytes ≡ true
  in_form d h = all_pass d h OutOfForm (Memᴰ.head refl)

  pub fitting : {a : EventAnswer} → Decision a → is_accepted a ≡ true → rows_end ≤ length l.buffer
  fitting d h = all_pass d h NoSpace (Memᴰ.tail (Memᴰ.tail (Memᴰ.tail (Memᴰ.head refl))))

  pub admissible : {a : EventAnswer} → Decision a → is_accepted a ≡ true → (is_record l.bytes ≡ true → well_formed (event_in l.bytes) ≡ true)
      → Runs.Admissible (book_of tm) s (event_in l.bytes)
  admissible d h w = record {
    formed = w (in_form d h);
    below = all_pass d h TooMany (Memᴰ.tail (Memᴰ.head refl));
    roomy = all_pass d h NoRoom (Memᴰ.tail (Memᴰ.tail (Memᴰ.head refl)));
  }

-- a plain state that is sound and in which no row leaves a variable free
pub record Steady (tm : Tracematch) (s : State) : Type 0 where
  pub sound : sound_state (book_of tm) s ≡ true
  pub backed : AllBacked tm s.held

pub steady_fresh : (tm : Tracematch) (n : ℕ) → n ≤ event_limit → Steady tm (fresh_at n)
unfolding sound_state sound_held
steady_fresh tm n h = record { sound = ap₂ ◌&&◌ (le-leb n event_limit h) refl; backed = backed_none tm }

-- after an event that is accepted
pub steady_next : (tm : Tracematch) → Proper tm → (s : State) → Steady tm s → (e : Event) → Runs.Admissible (book_of tm) s e
    → Steady tm (next (book_of tm) s e)
steady_next tm ok s h e a = record {
  sound = admissible_sound (book_of tm) (proper_sound tm ok) s h.sound e a;
  backed = backed_next tm s.held h.backed e;
}

-- The struct of a steady state: what the contract of `event` reads in it is what the plain state holds, and check 9 passes.
module _ (b : Book) (tm : Tracematch) (rd : Read b tm) (s : State) (h : Steady tm s) where
  pub variables : b.variables ≡ (book_of tm).variables
  unfolding view_book
  variables = ap (λ z. z.variables) rd.view

  state_is : view_state b.variables (state_of s) ≡ s
  unfolding book_of
  state_is = rw variables (view_state_law _ rd.proper.variables s (few_held (book_of tm) s h.sound) (lengths (book_of tm) s h.sound))

  held_is : held_first b.variables (state_of s) ≡ s.held
  unfolding view_state
  held_is = ap (λ z. z.held) state_is

  pub rows_by_law : (e : Event) → rows_by b (state_of s) e ≡ rows (book_of tm) s.held e
  unfolding rows_by
  rows_by_law e = rw (rd.view, held_is)

  pub state_by_law : (e : Event) → state_by b (state_of s) e ≡ state_of (next (book_of tm) s e)
  unfolding state_by
  state_by_law e = rw (rd.view, state_is)

  pub room_by_law : (e : Event) → room_by b (state_of s) e ≡ room (book_of tm) s.held e
  unfolding room_by
  room_by_law e = rw (rd.view, held_is)

  free_by : (e : Event) → leaves_free_by b (state_of s) e ≡ false
  unfolding leaves_free_by
  free_by e = rw (rd.view, held_is) (backed_free tm rd.proper s.held h.backed e)

  state_sound_law : state_sound b (state_of s) ≡ true
  unfolding state_sound
  state_sound_law = rw (state_is, rd.view, variables) (ap₂ ◌&&◌ (counts (book_of tm) s h.sound) h.sound)

  pub sound_by : (bytes : Bytes) → unsound b (state_of s) bytes ≡ false
  unfolding unsound
  sound_by bytes = rw (rd.sound, state_sound_law, free_by) (and-false (is_record bytes))
