-- The hypotheses of the theorems about runs on sets can be met, by two runs with rows of both books; the second takes the events in another order and
-- refuses one
-- that the first book alone would take. For the buyer.
use mathlib.Core.Path.{◌≡◌, refl}
use mathlib.Core.Bool.{true, ◌&&◌, or-false}
use mathlib.Core.List.{List, [], ◌∷◌, ◌++◌, map}
use mathlib.Core.Logic.{◌⊎◌, inl, inr, ⊎_elim}
use Prim.Native.Nat.{ℕ, zero, suc, ◌<◌}
use native.Mathlib.Omega.{arith}
use borrow.Author.Tests.{eqb-true}
use lib.Count.{ones}
use lib.Dec.{eqb}
use lib.ListN.{get_or, replicate}
use Rattle.laws.specs.Bits.{bit, join, meet, single}
use Rattle.laws.specs.Parts.{front, splice, pad}
use Rattle.laws.proofs.Lists.{and_true_split, or_true_split}
use Rattle.runs.specs.Runs.{Within}
use Rattle.runs.proofs.Runs.{within_head, within_tail, within_none}
use Rattle.meaning.specs.Events.{Valuation, matches, constraint_of, holds, concerns}
use Rattle.meaning.specs.Meaning.{Tracematch}
use Rattle.meaning.specs.Book.{Proper, is_proper, sound_book, sound_symbol}
use Rattle.meaning.specs.Labels.{compare_disjuncts, skip_by, sources, step_set, skip_set, new_label, new_held}
use Rattle.meaning.specs.Room.{set_room, room}
use Rattle.meaning.specs.Rows.{rows, leaves_free}
use Rattle.meaning.specs.Runs.{Dependent}
use Rattle.meaning.specs.Sound.{sound_piece, sound_held, sound_state}
use Rattle.automaton.proofs.ProperTest.{proper_test}
use Rattle.form.specs.Text.{Bytes, ascii, decimal, header, text as text_of}
use Rattle.form.specs.Phrase.{symbol, plain, last, then, only, or}
use Rattle.form.specs.Form.{Form}
use Rattle.form.specs.Scan.{spaces_end, word_end, name_end, next_word, name_fault, kind_of, fixed_number}
use Rattle.form.specs.Lines.{want_word, kind_from, symbol_from, lines_of}
use Rattle.form.specs.Parse.{item_of, name_atom, closed, alternation_from, pattern_from}
use Rattle.form.specs.Reading.{last_line, match_from, reading_of}
use Rattle.table.specs.Tables.{symbol_of, table_of, view_symbol}
use Rattle.record.specs.Records.{word_at, arguments_in, is_record, event_in}
use Rattle.slot.specs.Slots.{view_slot, slot_of}
use Rattle.disjunct.specs.Disjuncts.{view_disjunct, disjunct_of}
use Rattle.book.specs.Answers.{answer_of}
use Rattle.book.specs.Books.{reading_for, book_for, empty_book, view_book}
use Rattle.state.specs.States.{state_of, held_first, view_state}
use Rattle.sound.specs.Soundness.{symbol_counts, book_counts, book_sound, slot_counts, state_counts, state_sound}
use Rattle.row.specs.RowBytes.{word_bytes, bytes_of, row_bytes}
use Rattle.tally.specs.Tallies.{capped, tallied}
use Rattle.calls.specs.Calls.{fresh_state, rows_by, state_by, leaves_free_by, room_by, unsound, out_of_form, too_many, no_room, no_space, answer_to, taken, buffer_after}
use Rattle.calls.specs.Runs.{Partners, InOrder}
use Rattle.calls.specs.Witness as First
use Rattle.calls.specs.Witness.{load, dropped}
use Rattle.demands.proofs.Witness as FirstBook
use Rattle.blocks.specs.BookBlock.{name_in, parameter_in, symbol_in, book_held, book_in, book_words}
use Rattle.blocks.specs.StateBlock.{slot_in, disjunct_in, state_held, state_in, group_words, state_words, state_stored}
use Rattle.blocks.specs.TallyBlock.{tally_in, tally_words}
use Rattle.blocks.specs.Lent.{read_left, event_left}
use Rattle.parts.specs.Parts.{part_rows, part_bytes, part_next, rows_together, no_space_together, number_for, parts_left}
use Rattle.parts.specs.SetBlock.{bad_count, block_at, outside, book_part, states_after, set_left, set_fresh}
use Rattle.set_runs.specs.Setting.{set_run, set_records, AllDeclare, none_declared, one_declared, SetCrossed}
use Rattle.set_runs.specs.Witness.{second, declared, pattern, tm, texts, tms, opens, four, xs, ys, run_x, run_y, row_of}
use Rattle.set_runs.proofs.SetCrossed.{set_crossed}

proper : Proper tm
unfolding bit join meet single is_proper sound_symbol
proper = (proper_test tm).0 refl

form : Form second declared pattern
unfolding second text_of header decimal sound_symbol
form = record {
  shape = record {
    short = omega arith;
    written = ascii "o a | c";
    one_line = refl;
    text = refl;
    named = refl;
    distinct = refl;
    few_variables = omega arith;
    some_symbols = omega arith;
    few_symbols = omega arith;
    symbols = refl;
    phrase = or (then (plain (symbol {a = 0} (omega arith))) (last (plain (symbol {a = 1} (omega arith))))) (only (last (plain (symbol {a = 2}
        (omega arith)))));
    occurrences = omega arith;
  };
  nonempty = proper.nonempty;
  binding = proper.binding;
}

pub declares : AllDeclare texts tms
declares = one_declared First.declared First.pattern FirstBook.form (one_declared declared pattern form none_declared)

-- the records that they accept
abbrev sent_x : List Bytes
sent_x = opens ∷ load 1 7 ∷ load 2 8 ∷ dropped 1 ∷ dropped 2 ∷ []

abbrev sent_y : List Bytes
sent_y = opens ∷ load 2 8 ∷ load 1 7 ∷ dropped 2 ∷ dropped 1 ∷ []

pub computed : (set_records run_x ≡ sent_x) × (set_records run_y ≡ sent_y)
    × (map (λ m. m.left.number) run_x ≡ 0 ∷ 0 ∷ 0 ∷ 0 ∷ 0 ∷ []) × (map (λ m. m.left.number) run_y ≡ 0 ∷ 0 ∷ 0 ∷ 12 ∷ 0 ∷ 0 ∷ [])
    × (map (λ m. m.left.buffer) run_x ≡ replicate 24 255 ∷ row_of 2 1 1 1 0 ∷ row_of 3 1 1 2 0 ∷ row_of 4 2 0 1 7 ∷ row_of 5 2 0 2 8 ∷ [])
    × (map (λ m. m.left.buffer) run_y
    ≡ [] ∷ row_of 2 1 1 2 0 ∷ (replicate 25 255 ++ (row_of 3 1 1 1 0 ++ (255 ∷ []))) ∷ replicate 500 255 ∷ row_of 4 2 0 2 8
    ∷ (replicate 3 255 ++ (row_of 5 2 0 1 7 ++ replicate 23 255)) ∷ [])
    × ((event_left (read_left First.text).book (block_at 3715 0 (get_or (map (λ m. m.left.states) run_y) 2 [])) four (replicate 500 255) 0
    (0 ∷ 0 ∷ 0 ∷ [])).number ≡ 0)
unfolding bit join meet single ones front splice pad matches constraint_of sound_book sound_symbol compare_disjuncts skip_by sources step_set skip_set new_label
    new_held set_room room rows leaves_free sound_piece sound_held sound_state spaces_end word_end name_end next_word name_fault kind_of fixed_number want_word kind_from
    symbol_from lines_of item_of name_atom closed alternation_from pattern_from last_line match_from reading_of symbol_of table_of view_symbol word_at arguments_in
    is_record event_in view_slot slot_of view_disjunct disjunct_of answer_of reading_for book_for empty_book view_book state_of held_first view_state symbol_counts
    book_counts book_sound slot_counts state_counts state_sound word_bytes bytes_of row_bytes fresh_state rows_by state_by leaves_free_by room_by unsound out_of_form too_many
    no_room no_space answer_to taken buffer_after capped tallied name_in parameter_in symbol_in book_held book_in book_words slot_in disjunct_in state_held state_in
    group_words state_words state_stored tally_in tally_words read_left event_left part_rows part_bytes part_next rows_together no_space_together number_for parts_left bad_count
    outside book_part states_after set_left set_fresh First.text second xs ys
computed = (refl, refl, refl, refl, refl, refl, refl)

-- an event of the second book concerns only valuations with one of its arguments at v
of_load : (x y : ℕ) (σ : Valuation) → concerns tm.symbols (record { kind = 1; args = x ∷ y ∷ [] }) σ ≡ true → (get_or σ 0 0 ≡ x) ⊎ (get_or σ 0 0 ≡ y)
unfolding concerns holds
of_load x y σ h =
    ⊎_elim (λ k. inl (eqb-true _ _ (and_true_split (eqb (get_or σ 0 0) x) _ k).0))
    (λ k. inr (eqb-true _ _ (and_true_split (eqb (get_or σ 0 0) y) _ (simp or-false at k)).0))
    (or_true_split (eqb (get_or σ 0 0) x && true) _ h)

of_drop : (x : ℕ) (σ : Valuation) → concerns tm.symbols (record { kind = 2; args = x ∷ [] }) σ ≡ true → get_or σ 0 0 ≡ x
unfolding concerns holds
of_drop x σ h = eqb-true _ _ (and_true_split (eqb (get_or σ 0 0) x) _ (simp or-false at h)).0

apart_loads : Dependent tm (event_in (load 1 7)) (event_in (load 2 8)) → ⊥
unfolding event_in arguments_in word_at
apart_loads c =
    ⊎_elim (λ a. ⊎_elim (λ b. omega (arith, a, b)) (λ b. omega (arith, a, b)) (of_load 2 8 c.common c.second))
    (λ a. ⊎_elim (λ b. omega (arith, a, b)) (λ b. omega (arith, a, b)) (of_load 2 8 c.common c.second)) (of_load 1 7 c.common c.first)

apart_drops : Dependent tm (event_in (dropped 1)) (event_in (dropped 2)) → ⊥
unfolding event_in arguments_in word_at
apart_drops c = omega (arith, of_drop 1 c.common c.first, of_drop 2 c.common c.second)

-- 1 and 2 exchanged, 3 and 4 exchanged
abbrev swap : ℕ → ℕ
swap zero = 0
swap (suc zero) = 2
swap (suc (suc zero)) = 1
swap (suc (suc (suc zero))) = 4
swap (suc (suc (suc (suc n)))) = 3

-- what holds of each number below 5
pub each : (P : ℕ → Type 0) → P 0 → P 1 → P 2 → P 3 → P 4 → (i : ℕ) → i < 5 → P i
each P a b c d e zero h = a
each P a b c d e (suc zero) h = b
each P a b c d e (suc (suc zero)) h = c
each P a b c d e (suc (suc (suc zero))) h = d
each P a b c d e (suc (suc (suc (suc zero)))) h = e
each P a b c d e (suc (suc (suc (suc (suc n))))) h = absurd (omega arith)

-- dependent events are not exchanged, in a book for which the loads and the drops are apart
module _ (u : Tracematch) (loads : Dependent u (event_in (load 1 7)) (event_in (load 2 8)) → ⊥)
    (drops : Dependent u (event_in (dropped 1)) (event_in (dropped 2)) → ⊥) where
  abbrev Kept : ℕ → ℕ → Type 0
  Kept j i = i < j → Dependent u (event_in (get_or sent_x i [])) (event_in (get_or sent_x j [])) → swap i < swap j

  keeps : (j : ℕ) → j < 5 → (i : ℕ) → i < 5 → Kept j i
  keeps =
      each (λ j. (i : ℕ) → i < 5 → Kept j i)
      (λ i k h. absurd (omega arith))
      (each (Kept 1) (λ h e. omega arith) (λ h. absurd (omega arith)) (λ h. absurd (omega arith)) (λ h. absurd (omega arith)) (λ h. absurd (omega arith)))
      (each (Kept 2) (λ h e. omega arith) (λ h e. absurd (loads e)) (λ h. absurd (omega arith)) (λ h. absurd (omega arith)) (λ h. absurd (omega arith)))
      (each (Kept 3) (λ h e. omega arith) (λ h e. omega arith) (λ h e. omega arith) (λ h. absurd (omega arith)) (λ h. absurd (omega arith)))
      (each (Kept 4) (λ h e. omega arith) (λ h e. omega arith) (λ h e. omega arith) (λ h e. absurd (drops e)) (λ h. absurd (omega arith)))

module _ (t u : List Bytes) (et : t ≡ sent_x) (eu : u ≡ sent_y) where
  abbrev pairing : Partners t u
  pairing = record {
    to = swap;
    back = swap;
    to_inside = λ i h. rw eu (each (λ i. swap i < 5) (omega arith) (omega arith) (omega arith) (omega arith) (omega arith) i (rw et at h));
    back_inside = λ i h. rw et (each (λ i. swap i < 5) (omega arith) (omega arith) (omega arith) (omega arith) (omega arith) i (rw eu at h));
    back_to = λ i h. each (λ i. swap (swap i) ≡ i) refl refl refl refl refl i (rw et at h);
    to_back = λ i h. each (λ i. swap (swap i) ≡ i) refl refl refl refl refl i (rw eu at h);
    same = λ i h. rw (et, eu) (each (λ i. get_or sent_y (swap i) [] ≡ get_or sent_x i []) refl refl refl refl refl i (rw et at h));
  }

  ordered : (v : Tracematch) → (Dependent v (event_in (load 1 7)) (event_in (load 2 8)) → ⊥) → (Dependent v (event_in (dropped 1)) (event_in (dropped 2)) → ⊥)
      → InOrder v t u pairing
  ordered v loads drops = record { keeps = λ i j h k e. keeps v loads drops j (rw et at k) i (omega (arith, rw et at k)) h (rw et at e) }

abbrev pub partners : Partners (set_records run_x) (set_records run_y)
partners = pairing (set_records run_x) (set_records run_y) computed.0 computed.1

pub each_in_order : (k : ℕ) (u : Tracematch) → Within tms k u → InOrder u (set_records run_x) (set_records run_y) partners
each_in_order zero u w =
    rw (within_head w) (ordered (set_records run_x) (set_records run_y) computed.0 computed.1 First.tm FirstBook.apart_loads FirstBook.apart_drops)
each_in_order (suc zero) u w =
    rw (within_head (within_tail w)) (ordered (set_records run_x) (set_records run_y) computed.0 computed.1 tm apart_loads apart_drops)
each_in_order (suc (suc k)) u w = absurd (within_none (within_tail (within_tail w)))

-- Two read texts, two runs, partners, and the order of dependent events kept in each book; then the claim of `set_crossed`; the numbers of all answers; the
-- bytes of
-- all buffers, with rows of the second book at the loads and of the first at the drops; and that the first book alone would have taken the refused record.
pub set_witness : AllDeclare (First.text ∷ second ∷ []) tms
    × ((k : ℕ) (u : Tracematch) → Within tms k u → InOrder u (set_records run_x) (set_records run_y) partners) × SetCrossed tms run_x run_y partners
    × (map (λ m. m.left.number) run_x ≡ 0 ∷ 0 ∷ 0 ∷ 0 ∷ 0 ∷ []) × (map (λ m. m.left.number) run_y ≡ 0 ∷ 0 ∷ 0 ∷ 12 ∷ 0 ∷ 0 ∷ [])
    × (map (λ m. m.left.buffer) run_x ≡ replicate 24 255 ∷ row_of 2 1 1 1 0 ∷ row_of 3 1 1 2 0 ∷ row_of 4 2 0 1 7 ∷ row_of 5 2 0 2 8 ∷ [])
    × (map (λ m. m.left.buffer) run_y
    ≡ [] ∷ row_of 2 1 1 2 0 ∷ (replicate 25 255 ++ (row_of 3 1 1 1 0 ++ (255 ∷ []))) ∷ replicate 500 255 ∷ row_of 4 2 0 2 8
    ∷ (replicate 3 255 ++ (row_of 5 2 0 1 7 ++ replicate 23 255)) ∷ [])
    × ((event_left (read_left First.text).book (block_at 3715 0 (get_or (map (λ m. m.left.states) run_y) 2 [])) four (replicate 500 255) 0
    (0 ∷ 0 ∷ 0 ∷ [])).number ≡ 0)
unfolding xs ys
set_witness = (
  declares,
  each_in_order,
  set_crossed texts tms declares (omega arith) (omega arith) [] (replicate 7430 9) (1 ∷ []) (replicate 8000 1) (omega arith) (omega arith) xs ys refl refl
      partners,
  computed.2,
  computed.3,
  computed.4,
  computed.5,
  computed.6,
)

-- what the two runs are of: the texts, and the calls, of which the fourth of the second run is refused
pub witness_said : (texts ≡ First.text ∷ second ∷ []) × (run_x ≡ set_run texts [] (replicate 7430 9) xs) × (run_y ≡ set_run texts (1 ∷ []) (replicate 8000 1) ys)
    × (map (λ c. c.bytes) xs ≡ opens ∷ load 1 7 ∷ load 2 8 ∷ dropped 1 ∷ dropped 2 ∷ [])
    × (map (λ c. c.bytes) ys ≡ opens ∷ load 2 8 ∷ load 1 7 ∷ four ∷ dropped 2 ∷ dropped 1 ∷ [])
unfolding xs ys
witness_said = (refl, refl, refl, refl, refl)
