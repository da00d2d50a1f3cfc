-- What the event call hands back and leaves in the buffer, by the three ways in which it ends: refused before the rows are placed,
-- refused for want of space, accepted. For `event`.
use mathlib.Core.Path.{◌≡◌, refl, sym, ap, ap₂, ◌∙◌}
use mathlib.Core.Bool.{Bool, true, false, cond, false≢true}
use mathlib.Core.List.{List, [], ◌∷◌, Memᴰ}
use Prim.Native.Nat.{ℕ, suc, ◌+◌, ◌*◌, ◌≤◌}
use native.Mathlib.Numerals.{add-one}
use borrow.Author.Tests.{leb-true, leb-false, lt-ltb, le-ltb}
use lib.Dec.{leb}
use lib.ListN.{length, take}
use Rattle.laws.specs.Checks.{Check, first_failing}
use Rattle.laws.specs.Lists.{gather}
use Rattle.laws.specs.Parts.{splice}
use Rattle.laws.proofs.Checks.{first_refused, first_behind}
use Rattle.laws.proofs.Lists.{mem_map, mem_take}
use Rattle.laws.proofs.Maps.{gather_agree, gather_map}
use Rattle.laws.proofs.Parts.{pad_few}
use Rattle.meaning.specs.Events.{Valuation}
use Rattle.meaning.specs.Wide.{wide_valuation}
use Rattle.form.specs.Text.{Bytes}
use Rattle.record.specs.Records.{event_in}
use Rattle.book.specs.declared.Book.{Book}
use Rattle.state.specs.declared.State.{State}
use Rattle.packed.specs.Held.{held_in}
use Rattle.state.specs.States.{state_of}
use Rattle.sound.specs.Soundness.{book_sound}
use Rattle.sound.proofs.Soundness.{book_counts_law}
use Rattle.rows.specs.Valuations.{valuations_in}
use Rattle.rows.proofs.Valuations as Words
use Rattle.row.specs.RowBytes.{row_size, row_bytes}
use Rattle.row.proofs.RowBytes.{row_wide}
use Rattle.tally.specs.declared.Tally.{Tally}
use Rattle.tally.specs.Tallies.{tallied}
use Rattle.calls.specs.Calls.{is_accepted, rows_by, no_space, decisions, answer_to, taken, buffer_after}
use Rattle.transition.specs.declared.Stepped.{Stepped}
use Rattle.transition.specs.Moves.{Moved}
use Rattle.calls.specs.declared.EventAnswer.{EventAnswer}
use Rattle.calls.specs.declared.EventAnswer.TheVariants.{Accepted, NoSpace}
use Rattle.calls.specs.declared.Taken.{Taken}
use Rattle.transition.proofs.Checks.{first_book}

-- what the pure step answers
abbrev step_answer : Book → State → Bytes → EventAnswer
step_answer b s r = first_failing Accepted (decisions b s r)

-- the pure step accepts where none of its checks fails
pub step_passed : (b : Book) (s : State) (r : Bytes) → Accepted ≡ step_answer b s r → is_accepted (step_answer b s r) ≡ true
step_passed b s r h = ap is_accepted (sym h)

-- where no check before the buffer's fails the book is sound
pub passed_variables : (b : Book) (s : State) (r : Bytes) → is_accepted (step_answer b s r) ≡ true → b.variables ≤ 4
passed_variables b s r h = (book_counts_law b (go (book_sound b) refl)).0
  where
    go : (t : Bool) → book_sound b ≡ t → book_sound b ≡ true
    go true e = e
    go false e = absurd (false≢true (sym (ap is_accepted (first_book b s r e)) ∙ h))

module _ (b : Book) (s : State) (r buffer : Bytes) (place : ℕ) where
  -- the answer of the buffer's check
  abbrev last : EventAnswer
  last = cond (no_space b s r buffer place) NoSpace Accepted

  -- the rows of the event, as the rules have them
  abbrev its_rows : List Valuation
  its_rows = rows_by b s (event_in r)

  abbrev buffer_check : List (Check EventAnswer)
  buffer_check = record { fails = no_space b s r buffer place; answer = NoSpace } ∷ []

  -- the buffer's check is not looked at, or decides
  answer_refused : is_accepted (step_answer b s r) ≡ false → answer_to b s r buffer place ≡ step_answer b s r
  unfolding answer_to
  answer_refused h = first_refused Accepted is_accepted refl (decisions b s r) buffer_check h

  answer_passed : is_accepted (step_answer b s r) ≡ true → answer_to b s r buffer place ≡ last
  unfolding answer_to
  answer_passed h = first_behind Accepted is_accepted (decisions b s r) buffer_check refl h

  -- what `outcome::refused` hands back
  abbrev refusal : Tally → EventAnswer → Taken
  refusal t a = record { answer = a; rows = 0; book = b; state = s; tally = tallied t 0 1 0 }

  -- a refusal, whatever its answer
  ends_not : (t : Tally) {a : EventAnswer} → answer_to b s r buffer place ≡ a → is_accepted a ≡ false → {x : Taken} → x ≡ refusal t a
      → (x ≡ taken b s r buffer place t) × (buffer ≡ buffer_after b s r buffer place)
  unfolding taken buffer_after
  ends_not t h k e = (e ∙ rw (h, k), rw (h, k))

  -- refused by one of the checks before the buffer's
  pub ends_refused : (t : Tally) {a : EventAnswer} → a ≡ step_answer b s r → is_accepted a ≡ false → {x : Taken} → x ≡ refusal t a
      → (x ≡ taken b s r buffer place t) × (buffer ≡ buffer_after b s r buffer place)
  ends_refused t f h = ends_not t (answer_refused (sym (ap is_accepted f) ∙ h) ∙ sym f) h

  -- the words that hold the state after an accepted event, and those that hold its rows
  module _ (passed : is_accepted (step_answer b s r) ≡ true) (x : Stepped) (at next words : List ℕ) (moved : Moved b s (event_in r) x at next words) where
    abbrev n : ℕ
    n = x.rows

    -- the answer is that of the buffer's check, by what that finds
    told : {z : Bool} → no_space b s r buffer place ≡ z → answer_to b s r buffer place ≡ cond z NoSpace Accepted
    told e = answer_passed passed ∙ ap (λ z. cond z NoSpace Accepted) e

    -- refused by the buffer's check
    ends_short : (t : Tally) → leb (place + row_size * n) (length buffer) ≡ false → {y : Taken} → y ≡ refusal t NoSpace
        → (y ≡ taken b s r buffer place t) × (buffer ≡ buffer_after b s r buffer place)
    unfolding no_space
    ends_short t h =
        let k = leb-false (place + row_size * n) (length buffer) h in
        let a = told (lt-ltb (length buffer) (place + row_size * length its_rows) (rw (← moved.counted) k)) in
        ends_not t a refl

    accepted : leb (place + row_size * n) (length buffer) ≡ true → answer_to b s r buffer place ≡ Accepted
    unfolding no_space
    accepted h =
        let k = leb-true (place + row_size * n) (length buffer) h in
        told (le-ltb (length buffer) (place + row_size * length its_rows) (rw (← moved.counted) k))

    -- a row has at most four values, as the words that hold it
    row_few : (σ : Valuation) → Memᴰ σ its_rows → length σ ≤ 4
    unfolding wide_valuation
    row_few σ m =
        let among = (mem_map wide_valuation (wide_valuation σ) its_rows).1 (σ, m, refl) in
        pad_few 4 0 σ (Words.wide_in words (wide_valuation σ) (mem_take n (rw moved.listed among)))

    rows_written : gather (row_bytes (s.number + 1) b.variables) (take n (valuations_in words))
        ≡ gather (row_bytes (suc s.number) b.variables) its_rows
    unfolding wide_valuation
    rows_written =
        let f = row_bytes (suc s.number) b.variables in
        ap₂ (λ k z. gather (row_bytes k b.variables) z) (add-one s.number) moved.listed ∙ gather_map f wide_valuation its_rows
        ∙ gather_agree (λ σ. f (wide_valuation σ)) f its_rows (λ σ m. row_wide (suc s.number) b.variables σ (row_few σ m))

    -- what `outcome::settled` hands back and writes where the rows fit
    abbrev settling : Tally → Taken
    settling t =
        record {
          answer = Accepted;
          rows = n;
          book = b;
          state = state_of (record { number = s.number + 1; held = held_in x.held at next });
          tally = tallied t 1 0 n;
        }

    abbrev writing : Bytes
    writing = splice place (gather (row_bytes (s.number + 1) b.variables) (take n (valuations_in words))) buffer

    -- accepted
    ends_accepted : (t : Tally) → leb (place + row_size * n) (length buffer) ≡ true → {y : Taken} → y ≡ settling t → {out : Bytes} → out ≡ writing
        → (y ≡ taken b s r buffer place t) × (out ≡ buffer_after b s r buffer place)
    unfolding taken buffer_after
    ends_accepted t h e f =
        let a = accepted h in
        (e ∙ rw (a, ← moved.counted, ← moved.after), f ∙ rw (a, rows_written))

    -- what it hands back, by its test for space
    pub ends_settled : (t : Tally) {y : Taken} {out : Bytes} → let fits = leb (place + row_size * n) (length buffer) in
        y ≡ cond fits (settling t) (refusal t NoSpace) → out ≡ cond fits writing buffer
        → (y ≡ taken b s r buffer place t) × (out ≡ buffer_after b s r buffer place)
    ends_settled t {y} {out} = go (leb (place + row_size * n) (length buffer)) refl
      where
        go : (fits : Bool) → leb (place + row_size * n) (length buffer) ≡ fits
            → y ≡ cond fits (settling t) (refusal t NoSpace) → out ≡ cond fits writing buffer
            → (y ≡ taken b s r buffer place t) × (out ≡ buffer_after b s r buffer place)
        go true h e f = ends_accepted t h e f
        go false h e f = let k = ends_short t h e in (k.0, f ∙ k.1)
