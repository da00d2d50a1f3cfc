-- What a lent reading and a lent event leave, put together of what the calls by value hand back. For the functions of this crate.
use mathlib.Core.Path.{◌≡◌, refl, sym, ap, ap₂, ◌∙◌}
use mathlib.Core.Bool.{Bool, true, false, cond}
use mathlib.Core.List.{List, [], ◌∷◌}
use Prim.Native.Nat.{ℕ, ◌≤◌}
use native.Mathlib.Omega.{arith}
use borrow.Author.Tests.{eq-eqb, ne_eqb, eqb-false}
use lib.Dec.{eqb}
use lib.ListN.{length, get_or, replicate}
use Rattle.form.specs.Text.{Bytes, is_bytes}
use Rattle.book.specs.Answers as Reading
use Rattle.book.specs.Books.{reading}
use Rattle.book.specs.declared.Book.{Book}
use Rattle.book.specs.declared.Reading.{Reading}
use Rattle.state.specs.declared.State.{State}
use Rattle.tally.specs.declared.Tally.{Tally}
use Rattle.calls.specs.Answers.{number_of}
use Rattle.calls.specs.Calls.{is_accepted, taken, buffer_after}
use Rattle.calls.specs.declared.Taken.{Taken}
use Rattle.demands.proofs.Checks.{accepted_zero, refused_number}
use Rattle.blocks.specs.BookBlock.{book_in, book_words}
use Rattle.blocks.specs.StateBlock.{state_held, state_in, unknown_state, state_stored}
use Rattle.blocks.specs.TallyBlock.{tally_in, tally_words}
use Rattle.blocks.specs.Lent.{read_left, event_left}
use Rattle.lent_runs.proofs.Accepted.{few_before, canonical_after}
use Rattle.lent_runs.proofs.Checks.{other_state}

module _ (text : Bytes) (r : Reading) (same : r ≡ reading text) where
  pub read_accepted : (n p : ℕ) (w : List ℕ) → n ≡ Reading.number_of r.answer → p ≡ Reading.place_of r.answer → n ≡ 0 → w ≡ book_words r.book
      → read_left text ≡ record { number = n; book = w; place = p; begins = r.begin_count; ends = r.end_count }
  unfolding read_left
  read_accepted n p w number place zero words =
      rw (← same, ← number, ← place, words, eq-eqb n 0 zero)

  pub read_refused : (n p k : ℕ) (w : List ℕ) → n ≡ Reading.number_of r.answer → p ≡ Reading.place_of r.answer → (n ≡ 0 → ⊥)
      → k ≡ 269 → w ≡ replicate k 0
      → read_left text ≡ record { number = n; book = w; place = p; begins = r.begin_count; ends = r.end_count }
  unfolding read_left
  read_refused n p k w number place more size words =
      rw (← same, ← number, ← place, words, size, ne_eqb n 0 more)

-- An event taken over what the words say: r is what the call by value handed back.
pub record Over (w sw : List ℕ) (bytes buffer : Bytes) (place : ℕ) (tw : List ℕ) (b : Book) (s : State) (t : Tally) (r : Taken) : Type 0 where
  pub book : b ≡ book_in w
  pub state : s ≡ state_in sw
  pub tally : t ≡ tally_in tw
  pub made : r ≡ taken b s bytes buffer place t

pub of_words : {w sw : List ℕ} {bytes buffer : Bytes} {place : ℕ} {tw : List ℕ} {b : Book} {s : State} {t : Tally} {r : Taken}
    → b ≡ book_in w → s ≡ state_in sw → t ≡ tally_in tw → r ≡ taken b s bytes buffer place t → Over w sw bytes buffer place tw b s t r
of_words x y z e = record { book = x; state = y; tally = z; made = e }

module _ {w sw : List ℕ} {bytes buffer : Bytes} {place : ℕ} {tw : List ℕ} {b : Book} {s : State} {t : Tally} {r : Taken}
    (o : Over w sw bytes buffer place tw b s t r) where
  whole : r ≡ taken (book_in w) (state_in sw) bytes buffer place (tally_in tw)
  whole =
      o.made ∙ ap (λ u. taken b s bytes buffer place u) o.tally ∙ ap₂ (λ c z. taken c z bytes buffer place (tally_in tw)) o.book o.state

  -- what it leaves, where the state's words are as they must be
  pub event_left_law : {n : ℕ} {rows tallies words : List ℕ} → n ≡ number_of r.answer → rows ≡ buffer_after b s bytes buffer place
      → tallies ≡ tally_words r.tally
      → words ≡ cond (is_accepted r.answer) (state_stored sw r.state) sw
      → event_left w sw bytes buffer place tw ≡ record { number = n; rows = r.rows; buffer = rows; tally = tallies; state = words }
  unfolding event_left
  event_left_law number left counters stored =
      rw (number, left, counters, stored, o.book, o.state, whole)

  -- a refused one leaves them
  pub kept : {n : ℕ} → n ≡ number_of r.answer → (n ≡ 0 → ⊥) → sw ≡ cond (is_accepted r.answer) (state_stored sw r.state) sw
  kept number more = rw (refused_number r.answer (λ z. more (number ∙ z)))

  module _ (lent : is_bytes bytes ≡ true) {n : ℕ} (number : n ≡ number_of r.answer) (zero : n ≡ 0) where
    accepted : number_of (taken (book_in w) (state_in sw) bytes buffer place (tally_in tw)).answer ≡ 0
    accepted = ap (λ r. number_of r.answer) (sym whole) ∙ sym number ∙ zero

    -- an accepted event's state is stored
    pub stored : state_stored sw r.state ≡ cond (is_accepted r.answer) (state_stored sw r.state) sw
    stored = rw (accepted_zero r.answer (sym number ∙ zero))

    -- the counts of what was held and of what is held
    pub old_count : s.count ≡ get_or sw 2 0
    unfolding state_in state_held event_left
    old_count = ap (λ z. z.count) o.state ∙ go (eqb (get_or sw 0 0) 2001) refl
      where
        go : (z : Bool) → eqb (get_or sw 0 0) 2001 ≡ z → (state_in sw).count ≡ get_or sw 2 0
        go true e = ap (λ z. (cond z (state_held sw) unknown_state).count) e
        go false e = absurd (let nine = other_state w sw bytes buffer place tw (eqb-false (get_or sw 0 0) 2001 e) in omega (arith, nine, accepted))

    pub few_old : s.count ≤ 128
    few_old = rw o.state (few_before (book_in w) (state_in sw) bytes lent buffer place (tally_in tw) accepted)

    pub few_new : r.state.count ≤ 128
    few_new = rw whole (canonical_after (book_in w) (state_in sw) bytes lent buffer place (tally_in tw) accepted).few
