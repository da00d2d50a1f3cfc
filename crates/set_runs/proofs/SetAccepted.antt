-- What an accepted call on a set leaves, for any words: the rows of all books in book order, the tally, and of each book's state every word, as the call of
-- that
-- book alone would leave it; the words behind the states stay.
use mathlib.Core.Path.{◌≡◌, sym, ap, subst, ◌∙◌}
use mathlib.Core.Bool.{true}
use mathlib.Core.List.{List, ◌++◌, Memᴰ}
use Prim.Native.Nat.{ℕ, suc, ◌-◌, ◌*◌, ◌≤◌, ◌<◌}
use native.Mathlib.Omega.{arith}
use borrow.Author.Tests.{eqb-false, ltb-false}
use lib.Dec.{eqb, ltb}
use lib.ListN.{length, get_or, drop, replicate, length-append, length-drop, length-replicate}
use lib.Seq.{drop_at}
use Rattle.laws.specs.Checks.{first_failing}
use Rattle.laws.specs.Lists.{gather, numbers}
use Rattle.laws.specs.Parts.{splice}
use Rattle.laws.proofs.Fronts.{gather_length}
use Rattle.laws.proofs.Lists.{or_false_split, mem_numbers, length_numbers}
use Rattle.laws.proofs.Maps.{gather_map}
use Rattle.meaning.specs.Labels.{new_held}
use Rattle.form.specs.Text.{Bytes, is_bytes}
use Rattle.record.specs.Records.{event_in}
use Rattle.book.specs.Books.{view_book}
use Rattle.state.specs.States.{held_first}
use Rattle.tally.specs.Tallies.{tallied}
use Rattle.calls.specs.declared.EventAnswer.TheVariants.{Accepted}
use Rattle.calls.specs.Answers.{number_of}
use Rattle.calls.specs.Calls.{rows_by, decisions}
use Rattle.calls.specs.Checks as Single
use Rattle.blocks.specs.BookBlock.{book_in}
use Rattle.blocks.specs.StateBlock.{state_in, state_stored}
use Rattle.blocks.specs.TallyBlock.{tally_in, tally_words}
use Rattle.blocks.specs.Lent.{event_left}
use Rattle.lent_runs.specs.Lending.{LentCall}
use Rattle.lent_runs.specs.Stored.{StoredWords}
use Rattle.lent_runs.proofs.Words.{accepted_words}
use Rattle.parts.specs.Parts.{row_with, part_rows, part_bytes, part_next}
use Rattle.parts.specs.SetBlock.{set_limit, bad_count, block_at, book_part, parts_in, states_after, set_left}
use Rattle.parts.proofs.Left.{each_passes, part_passes, number, number_zero, left_number, left_accepted}
use Rattle.set_runs.specs.SetChecks.{set_rows_due}
use Rattle.set_runs.proofs.SetAnyWords.{rows_due_law}
use Rattle.set_runs.proofs.SetBlocks.{block_long, block_gather, numbers_from}
use Rattle.set_runs.proofs.SetCourse.{words_next}
use Rattle.set_runs.proofs.Alone.{call_alone}

module _ (w s : List ℕ) (count : ℕ) (bytes buffer : Bytes) (place : ℕ) (t : List ℕ) (zero : (set_left w s count bytes buffer place t).number ≡ 0) where
  none : number w s bytes count buffer place ≡ 0
  none = sym (left_number w s bytes count buffer place t) ∙ zero

  refuses : first_failing 0 (gather (λ p. p.checks) (parts_in w s bytes count)) ≡ 0
  refuses = (number_zero w s bytes count buffer place none).1

  -- the count is right, and all blocks are inside
  count_right : (1 ≤ count) × (count ≤ set_limit)
  unfolding bad_count
  count_right =
      let (a, b) = or_false_split (eqb count 0) (ltb set_limit count) (number_zero w s bytes count buffer place none).0 in
      let no = eqb-false count 0 a in
      (omega (arith, ltb-false set_limit count b, no), omega (arith, ltb-false set_limit count b))

  -- Book number k.
  module _ (k : ℕ) (h : k < count) where
    own : (269 * suc k ≤ length w) × (3715 * suc k ≤ length s)
        × (number_of (first_failing Accepted (decisions (book_in (block_at 269 k w)) (state_in (block_at 3715 k s)) bytes)) ≡ 0)
    own = part_passes w s bytes k (each_passes w s bytes 0 count refuses k (omega arith) (omega arith))

    -- its call alone, with space for its rows
    abbrev c : LentCall
    c =
        record {
          bytes = bytes;
          buffer = replicate (24 * length (rows_by (book_in (block_at 269 k w)) (state_in (block_at 3715 k s)) (event_in bytes))) 0;
          place = 0;
          tally = t;
        }

    alone_taken : ((event_left (block_at 269 k w) (block_at 3715 k s) bytes c.buffer 0 t).number ≡ 0)
        × ((event_left (block_at 269 k w) (block_at 3715 k s) bytes c.buffer 0 t).state ≡ words_next (book_in (block_at 269 k w)) (block_at 3715 k s) bytes)
    alone_taken =
        let n = 24 * length (rows_by (book_in (block_at 269 k w)) (state_in (block_at 3715 k s)) (event_in bytes)) in
        let e = call_alone (block_at 269 k w) (block_at 3715 k s) c own.2 (omega (arith, length-replicate {A = ℕ} n 0)) in
        (ap (λ l. l.number) e, ap (λ l. l.state) e)

    abbrev Stored : List ℕ → Type 0
    Stored after =
        StoredWords (book_in (block_at 269 k w)).variables (suc (get_or (block_at 3715 k s) 1 0))
        (new_held (view_book (book_in (block_at 269 k w))) (held_first (book_in (block_at 269 k w)).variables (state_in (block_at 3715 k s))) (event_in bytes))
        (get_or (block_at 3715 k s) 2 0) (block_at 3715 k s) after

    stored : is_bytes bytes ≡ true → Stored (words_next (book_in (block_at 269 k w)) (block_at 3715 k s) bytes)
    stored lent =
        subst Stored alone_taken.1
        (accepted_words (block_at 269 k w) (block_at 3715 k s) (block_long 3715 s k own.1) bytes lent c.buffer 0 t alone_taken.0)

  -- all blocks of the states
  abbrev next_words : ℕ → List ℕ
  next_words k = state_stored (block_at 3715 k s) (part_next (event_in bytes) (book_part w s bytes k))

  next_size : is_bytes bytes ≡ true → (k : ℕ) → Memᴰ k (numbers 0 count) → length (next_words k) ≡ 3715
  unfolding part_next book_part
  next_size lent k m = let h : k < count = omega (arith, ((mem_numbers k 0 count).0 m).1) in (stored k h lent).size

  abbrev after : List ℕ
  after = (set_left w s count bytes buffer place t).states

  after_is : after ≡ gather next_words (numbers 0 count) ++ drop (3715 * count) s
  unfolding states_after
  after_is = ap (λ l. l.states) (left_accepted w s bytes count buffer place t none)

  long_states : 3715 * count ≤ length s
  long_states =
      let (some, few) = count_right in
      let e : suc (count - 1) ≡ count = omega arith in
      subst (λ n. 3715 * n ≤ length s) e (own (count - 1) (omega arith)).1

  block_after : is_bytes bytes ≡ true → (k : ℕ) → (h : k < count) → Stored k h (block_at 3715 k after)
  unfolding part_next book_part
  block_after lent k h =
      rw (after_is, block_gather 3715 next_words (numbers 0 count) (next_size lent) (drop (3715 * count) s) k k (numbers_from count k h)) (stored k h lent)

  words_behind_law : is_bytes bytes ≡ true → (drop (3715 * count) after ≡ drop (3715 * count) s) × (length after ≡ length s)
  words_behind_law lent =
      let size : length (gather next_words (numbers 0 count)) ≡ 3715 * count =
      gather_length next_words 3715 (numbers 0 count) (next_size lent) ∙ omega (arith, length_numbers 0 count) in
      let rest = drop (3715 * count) s in
      let enough = long_states in (
        ap (drop (3715 * count)) after_is ∙ drop_at (gather next_words (numbers 0 count)) rest (3715 * count) size,
        ap length after_is ∙ omega (arith, length-append (gather next_words (numbers 0 count)) rest, size, length-drop (3715 * count) s),
      )

-- the rows of what the words hold, in book order from the place on, each with the number of the event in its own state and the book's number in byte 5; one
-- accepted event and all these rows more; and such a set has 1 to 8 books, whose words are all there
pub set_accepted_leaves : (w s : List ℕ) (count : ℕ) (bytes buffer : Bytes) (place : ℕ) (t : List ℕ) → (set_left w s count bytes buffer place t).number ≡ 0
    → let l = set_left w s count bytes buffer place t in
    let due = set_rows_due w s count bytes buffer place in
    let own : ℕ → Bytes = λ k.
    let b = book_in (block_at 269 k w) in
    let z = state_in (block_at 3715 k s) in
    gather (row_with (suc z.number) b.variables k 0) (Single.rows_due b z bytes) in
    (1 ≤ count) × (count ≤ 8) × (269 * count ≤ length w) × (3715 * count ≤ length s)
    × (l.rows ≡ length due) × (l.tally ≡ tally_words (tallied (tally_in t) 1 0 (length due)))
    × (l.buffer ≡ splice place (gather own (numbers 0 count)) buffer)
unfolding part_bytes part_rows book_part rows_by
set_accepted_leaves w s count bytes buffer place t zero =
    let (some, few) = count_right w s count bytes buffer place t zero in
    let e = left_accepted w s bytes count buffer place t (none w s count bytes buffer place t zero) in
    let due = rows_due_law w s count bytes buffer place in
    let last : suc (count - 1) ≡ count = omega arith in (
      some,
      few,
      subst (λ n. 269 * n ≤ length w) last (own w s count bytes buffer place t zero (count - 1) (omega arith)).0,
      long_states w s count bytes buffer place t zero,
      ap (λ l. l.rows) e ∙ due,
      ap (λ l. l.tally) e ∙ ap (λ n. tally_words (tallied (tally_in t) 1 0 n)) due,
      ap (λ l. l.buffer) e ∙ ap (λ b. splice place b buffer) (gather_map (part_bytes (event_in bytes)) (book_part w s bytes) (numbers 0 count)),
    )

-- every word of every state: of book number k, as `accepted_words` has it of one book alone; and the words behind the states stay
pub set_accepted_words : (w s : List ℕ) (count : ℕ) (bytes : Bytes) → is_bytes bytes ≡ true → (buffer : Bytes) (place : ℕ) (t : List ℕ)
    → (set_left w s count bytes buffer place t).number ≡ 0
    → let after = (set_left w s count bytes buffer place t).states in
    ((k : ℕ) → k < count → let b = book_in (block_at 269 k w) in
    let before = block_at 3715 k s in
    StoredWords b.variables (suc (get_or before 1 0)) (new_held (view_book b) (held_first b.variables (state_in before)) (event_in bytes))
    (get_or before 2 0) before
    (block_at 3715 k after))
    × (drop (3715 * count) after ≡ drop (3715 * count) s) × (length after ≡ length s)
set_accepted_words w s count bytes lent buffer place t zero =
    let (rest, size) = words_behind_law w s count bytes buffer place t zero lent in
    (λ k h. block_after w s count bytes buffer place t zero lent k h, rest, size)
