-- An event that none of the checks 9 to 12 refuses: book and state are sound, the state's words count what it holds, and what the pure step leaves in
-- words are the rows and the next state. For the functions of this crate; `few_values` for those of a set too.
use mathlib.Core.Path.{◌≡◌, refl, sym, ap, ap₂, ◌∙◌}
use mathlib.Core.Bool.{Bool, true, false, cond, false≢true}
use mathlib.Core.List.{List, [], Memᴰ}
use Prim.Native.Nat.{ℕ, suc, ◌+◌, ◌≤◌}
use native.Mathlib.Numerals.{add-one}
use native.Mathlib.Omega.{arith}
use lib.Dec.{eqb}
use lib.ListN.{length, get_or, take, length-take, length-map}
use Rattle.laws.specs.Checks.{first_failing}
use Rattle.laws.specs.Lists.{gather}
use Rattle.laws.proofs.Lists.{and_true_split}
use Rattle.laws.proofs.Maps.{gather_agree, gather_map}
use Rattle.meaning.specs.Events.{Event, Valuation}
use Rattle.meaning.specs.Rows.{value_of}
use Rattle.meaning.specs.Wide.{wide_valuation}
use Rattle.automaton.proofs.Members.{rows_member}
use Rattle.automaton.proofs.Step.{step_set_long}
use Rattle.form.specs.Text.{Bytes}
use Rattle.record.specs.Records.{event_in}
use Rattle.packed.specs.Held.{held_in}
use Rattle.packed.proofs.Held.{positions_in}
use Rattle.book.specs.declared.Book.{Book}
use Rattle.book.specs.Books.{view_book}
use Rattle.state.specs.declared.State.{State}
use Rattle.state.specs.States.{state_of, held_first, view_state}
use Rattle.sound.specs.Soundness.{book_sound, state_counts, state_sound}
use Rattle.sound.proofs.Soundness.{book_counts_law, state_count, state_number}
use Rattle.rows.specs.Valuations.{valuations_in}
use Rattle.row.specs.RowBytes.{bytes_of, with_values}
use Rattle.row.specs.declared.RowFields.{RowFields}
use Rattle.row.proofs.RowBytes.{bytes_wide}
use Rattle.calls.specs.Answers.{number_of}
use Rattle.calls.specs.declared.EventAnswer.{EventAnswer}
use Rattle.calls.specs.declared.EventAnswer.TheVariants.{Accepted}
use Rattle.calls.specs.Calls.{is_accepted, rows_by, state_by, decisions}
use Rattle.demands.proofs.Checks.{accepted_zero}
use Rattle.demands.proofs.States.{lengths}
use Rattle.transition.specs.declared.Stepped.{Stepped}
use Rattle.transition.specs.Moves.{Moved}
use Rattle.transition.proofs.Checks.{first_book, first_state}
use Rattle.blocks.specs.BookBlock.{book_in}
use Rattle.blocks.specs.StateBlock.{state_held, state_in, unknown_state}
use Rattle.parts.specs.Parts.{row_with}

-- rows of at most four values
abbrev Few : List Valuation → Type 0
Few l = (σ : Valuation) → Memᴰ σ l → length σ ≤ 4

-- what no check refuses as the words say it, none refuses of the book and the state taken out of them
pub said_zero : {b : Book} {s : State} (w sw : List ℕ) (bytes : Bytes) → b ≡ book_in w → s ≡ state_in sw
    → number_of (first_failing Accepted (decisions (book_in w) (state_in sw) bytes)) ≡ 0
    → number_of (first_failing Accepted (decisions b s bytes)) ≡ 0
said_zero w sw bytes book state zero = ap₂ (λ b s. number_of (first_failing Accepted (decisions b s bytes))) book state ∙ zero

-- a refusal of the pure step has a number, so that what no check refuses, the pure step does not refuse
pub refusal_number : (a : EventAnswer) → is_accepted a ≡ false → number_of a ≡ 0 → ⊥
refusal_number a refused zero = false≢true (sym refused ∙ accepted_zero a zero)

module _ (b : Book) (s : State) (bytes : Bytes) (zero : number_of (first_failing Accepted (decisions b s bytes)) ≡ 0) where
  book_sound_law : book_sound b ≡ true
  book_sound_law = go (book_sound b) refl
    where
      go : (z : Bool) → book_sound b ≡ z → book_sound b ≡ true
      go true e = e
      go false e = absurd (omega (arith, zero, ap number_of (first_book b s bytes e)))

  state_sound_law : state_sound b s ≡ true
  state_sound_law = go (state_sound b s) refl
    where
      go : (z : Bool) → state_sound b s ≡ z → state_sound b s ≡ true
      go true e = e
      go false e = absurd (omega (arith, zero, ap number_of (first_state b s bytes book_sound_law e)))

  pub few_variables_law : b.variables ≤ 4
  few_variables_law = (book_counts_law b book_sound_law).0

  pub few_old : s.count ≤ 128
  few_old = state_count b s state_sound_law

  -- a row has a value for each variable
  pub few_values : (σ : Valuation) → Memᴰ σ (rows_by b s (event_in bytes)) → length σ ≤ 4
  unfolding rows_by state_sound view_state view_book
  few_values σ m =
      let plain = (and_true_split (state_counts b.variables s) _ state_sound_law).1 in
      let (q, _, _, (D, step, value)) = (rows_member (view_book b) (held_first b.variables s) (event_in bytes) σ).0 m in
      let wide = step_set_long (view_book b) (held_first b.variables s) (lengths (view_book b) (view_state b.variables s) plain) (event_in bytes) q D step in
      omega (arith, ap length value, length-map D value_of, wide, few_variables_law)

  -- words of another layout hold a state above the limit of events
  pub old_count : (w : List ℕ) → s ≡ state_in w → s.count ≡ get_or w 2 0
  unfolding state_in state_held state_of
  old_count w state = ap (λ z. z.count) state ∙ go (eqb (get_or w 0 0) 2001) refl
    where
      go : (z : Bool) → eqb (get_or w 0 0) 2001 ≡ z → (state_in w).count ≡ get_or w 2 0
      go true e = ap (λ z. (cond z (state_held w) unknown_state).count) e
      go false e =
          let above : s.number ≡ 1000001 = ap (λ z. z.number) state ∙ ap (λ z. (cond z (state_held w) unknown_state).number) e in
          absurd (omega (arith, above, state_number b s state_sound_law))

module _ {b : Book} {s : State} {e : Event} {x : Stepped} {at next words : List ℕ} (moved : Moved b s e x at next words) where
  pub few_new : {after : State} → after ≡ state_of (record { number = s.number + 1; held = held_in x.held at next }) → after.count ≤ 128
  unfolding state_of
  few_new stored =
      let held = held_in x.held at next in
      let positions = ap length (positions_in x.held at next moved.room) in
      rw stored (omega (arith, moved.room, positions, length-map held (λ h. h.position), length-take x.held at))

  -- the bytes of what the words hold are those of the rows, whatever else the rows share
  rows_written : Few (rows_by b s e) → (shared : RowFields)
      → gather (λ σ. bytes_of (with_values shared σ)) (take x.rows (valuations_in words)) ≡ gather (λ σ. bytes_of (with_values shared σ)) (rows_by b s e)
  unfolding wide_valuation
  rows_written few shared =
      let f : Valuation → Bytes = λ σ. bytes_of (with_values shared σ) in
      ap (gather f) moved.listed ∙ gather_map f wide_valuation (rows_by b s e)
      ∙ gather_agree (λ σ. f (wide_valuation σ)) f (rows_by b s e) (λ σ m. bytes_wide (with_values shared σ) (few σ m))

  -- the same of the book and the state that the lent words say
  module _ {c : Book} {z : State} (book : b ≡ c) (state : s ≡ z) where
    pub said_count : x.rows ≡ length (rows_by c z e)
    said_count = moved.counted ∙ ap₂ (λ d y. length (rows_by d y e)) book state

    pub said_rows : Few (rows_by b s e) → (byte5 byte6 : ℕ)
        → gather (row_with (s.number + 1) b.variables byte5 byte6) (take x.rows (valuations_in words))
        ≡ gather (row_with (suc z.number) c.variables byte5 byte6) (rows_by c z e)
    said_rows few byte5 byte6 =
        rows_written few (record { number = s.number + 1; variables = b.variables; byte5 = byte5; byte6 = byte6; values = [] })
        ∙ ap (λ n. gather (row_with n b.variables byte5 byte6) (rows_by b s e)) (add-one s.number)
        ∙ ap₂ (λ d y. gather (row_with (suc y.number) d.variables byte5 byte6) (rows_by d y e)) book state

    pub said_state : {after : State} → after ≡ state_of (record { number = s.number + 1; held = held_in x.held at next }) → after ≡ state_by c z e
    said_state stored = stored ∙ moved.after ∙ ap₂ (λ d y. state_by d y e) book state
