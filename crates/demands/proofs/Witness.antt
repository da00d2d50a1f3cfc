-- The hypotheses of `crossed` can be met, by two runs with rows: the text of book B1 of document 01, one run that accepts four events,
-- and one that takes them in another order and refuses a record of 19 bytes on the way. For the buyer.
use mathlib.Core.Path.{◌≡◌, refl}
use mathlib.Core.Bool.{true, or-false}
use mathlib.Core.List.{List, [], ◌∷◌}
use Prim.Native.Nat.{ℕ, zero, suc, ◌<◌}
use native.Mathlib.Omega.{arith}
use borrow.Author.Tests.{eqb-true}
use lib.Dec.{eqb}
use lib.ListN.{get_or}
use Rattle.laws.specs.Bits.{bit, join, meet, single}
use Rattle.laws.specs.Parts.{pad}
use Rattle.laws.proofs.Lists.{and_true_split}
use Rattle.meaning.specs.Events.{Valuation, matches, constraint_of, holds, concerns}
use Rattle.meaning.specs.Book.{Proper, is_proper, sound_book, sound_symbol}
use Rattle.meaning.specs.Labels.{compare_disjuncts, skip_by, sources, step_set, skip_set, new_label, new_held}
use Rattle.meaning.specs.Room.{set_room, room}
use Rattle.meaning.specs.Rows.{rows, leaves_free}
use Rattle.meaning.specs.Runs.{Dependent}
use Rattle.meaning.specs.Sound.{sound_piece, sound_held, sound_state}
use Rattle.automaton.proofs.ProperTest.{proper_test}
use Rattle.form.specs.Text.{Bytes, ascii, decimal, header, text as text_of}
use Rattle.form.specs.Phrase.{symbol, plain, plussed, last, then, only}
use Rattle.form.specs.Form.{Form}
use Rattle.form.specs.Scan.{spaces_end, word_end, name_end, next_word, name_fault, kind_of}
use Rattle.form.specs.Lines.{want_word, kind_from, symbol_from, lines_of}
use Rattle.form.specs.Parse.{item_of, name_atom, closed, alternation_from, pattern_from}
use Rattle.form.specs.Reading.{last_line, match_from, reading_of}
use Rattle.table.specs.Tables.{symbol_of, table_of, view_symbol}
use Rattle.record.specs.Records.{word_at, arguments_in, is_record, event_in}
use Rattle.slot.specs.Slots.{view_slot, slot_of}
use Rattle.disjunct.specs.Disjuncts.{view_disjunct, disjunct_of}
use Rattle.book.specs.Books.{reading_for, book_for, view_book}
use Rattle.state.specs.States.{state_of, held_first, view_state}
use Rattle.sound.specs.Soundness.{symbol_counts, book_counts, book_sound, slot_counts, state_counts, state_sound}
use Rattle.calls.specs.Calls.{fresh_state, rows_by, state_by, leaves_free_by, room_by, unsound, out_of_form, too_many, no_room, no_space, answer_to, taken}
use Rattle.calls.specs.Runs.{make, records_of, Partners, InOrder, Crossed}
use Rattle.calls.specs.Witness.{text, declared, pattern, tm, load, dropped, xs, ys, run_x, run_y, answers, counts}
use Rattle.demands.proofs.Crossed.{crossed}

proper : Proper tm
unfolding bit join meet single is_proper sound_symbol
proper = (proper_test tm).0 refl

pub form : Form text declared pattern
unfolding text text_of header decimal sound_symbol
form = record {
  shape = record {
    short = omega arith;
    written = ascii "load drop+";
    one_line = refl;
    text = refl;
    named = refl;
    distinct = refl;
    few_variables = omega arith;
    some_symbols = omega arith;
    few_symbols = omega arith;
    symbols = refl;
    phrase = only (then (plain (symbol {a = 0} (omega arith))) (last (plussed (plain (symbol {a = 1} (omega arith))))));
    occurrences = omega arith;
  };
  nonempty = proper.nonempty;
  binding = proper.binding;
}

-- the records that they accept
abbrev sent_x : List Bytes
sent_x = load 1 7 ∷ load 2 8 ∷ dropped 1 ∷ dropped 2 ∷ []

abbrev sent_y : List Bytes
sent_y = load 2 8 ∷ load 1 7 ∷ dropped 2 ∷ dropped 1 ∷ []

pub computed : (records_of run_x ≡ sent_x) × (records_of run_y ≡ sent_y) × (answers run_x ≡ 0 ∷ 0 ∷ 0 ∷ 0 ∷ []) × (answers run_y ≡ 0 ∷ 10 ∷ 0 ∷ 0 ∷ 0 ∷ [])
    × (counts run_x ≡ 0 ∷ 0 ∷ 1 ∷ 1 ∷ []) × (counts run_y ≡ 0 ∷ 0 ∷ 1 ∷ 1 ∷ [])
unfolding bit join meet single pad matches constraint_of sound_book sound_symbol compare_disjuncts skip_by sources step_set skip_set new_label new_held
    set_room room rows leaves_free sound_piece sound_held sound_state spaces_end word_end name_end next_word name_fault kind_of want_word kind_from symbol_from
    lines_of item_of name_atom closed alternation_from pattern_from last_line match_from reading_of symbol_of table_of view_symbol word_at arguments_in is_record
    event_in view_slot slot_of view_disjunct disjunct_of reading_for book_for view_book state_of held_first view_state symbol_counts book_counts book_sound
    slot_counts state_counts state_sound fresh_state rows_by state_by leaves_free_by room_by unsound out_of_form too_many no_room no_space answer_to taken make
    text xs ys
computed = (refl, refl, refl, refl, refl, refl)

-- an event of the book concerns only valuations with its first argument at d
of_load : (x y : ℕ) (σ : Valuation) → concerns tm.symbols (record { kind = 1; args = x ∷ y ∷ [] }) σ ≡ true → get_or σ 0 0 ≡ x
unfolding concerns holds constraint_of matches
of_load x y σ h = eqb-true _ _ (and_true_split (eqb (get_or σ 0 0) x) _ (simp or-false at h)).0

of_drop : (x : ℕ) (σ : Valuation) → concerns tm.symbols (record { kind = 2; args = x ∷ [] }) σ ≡ true → get_or σ 0 0 ≡ x
unfolding concerns holds constraint_of matches
of_drop x σ h = eqb-true _ _ (and_true_split (eqb (get_or σ 0 0) x) _ (simp or-false at h)).0

pub apart_loads : Dependent tm (event_in (load 1 7)) (event_in (load 2 8)) → ⊥
unfolding event_in arguments_in word_at
apart_loads c = omega (arith, of_load 1 7 c.common c.first, of_load 2 8 c.common c.second)

pub apart_drops : Dependent tm (event_in (dropped 1)) (event_in (dropped 2)) → ⊥
unfolding event_in arguments_in word_at
apart_drops c = omega (arith, of_drop 1 c.common c.first, of_drop 2 c.common c.second)

-- 0 and 1 exchanged, 2 and 3 exchanged
abbrev swap : ℕ → ℕ
swap zero = 1
swap (suc zero) = 0
swap (suc (suc zero)) = 3
swap (suc (suc (suc n))) = 2

-- what holds of each number below 4
pub each : (P : ℕ → Type 0) → P 0 → P 1 → P 2 → P 3 → (i : ℕ) → i < 4 → P i
each P a b c d zero h = a
each P a b c d (suc zero) h = b
each P a b c d (suc (suc zero)) h = c
each P a b c d (suc (suc (suc zero))) h = d
each P a b c d (suc (suc (suc (suc n)))) h = absurd (omega arith)

-- dependent events are not exchanged
keeps : (j : ℕ) → j < 4 → (i : ℕ) → i < 4 → i < j → Dependent tm (event_in (get_or sent_x i [])) (event_in (get_or sent_x j [])) → swap i < swap j
keeps =
    each _
    (λ i k h. absurd (omega arith))
    (each _ (λ h e. absurd (apart_loads e)) (λ h. absurd (omega arith)) (λ h. absurd (omega arith)) (λ h. absurd (omega arith)))
    (each _ (λ h e. omega arith) (λ h e. omega arith) (λ h. absurd (omega arith)) (λ h. absurd (omega arith)))
    (each _ (λ h e. omega arith) (λ h e. omega arith) (λ h e. absurd (apart_drops e)) (λ h. absurd (omega arith)))

module _ (t u : List Bytes) (et : t ≡ sent_x) (eu : u ≡ sent_y) where
  abbrev pairing : Partners t u
  pairing = record {
    to = swap;
    back = swap;
    to_inside = λ i h. rw eu (each (λ i. swap i < 4) (omega arith) (omega arith) (omega arith) (omega arith) i (rw et at h));
    back_inside = λ i h. rw et (each (λ i. swap i < 4) (omega arith) (omega arith) (omega arith) (omega arith) i (rw eu at h));
    back_to = λ i h. each (λ i. swap (swap i) ≡ i) refl refl refl refl i (rw et at h);
    to_back = λ i h. each (λ i. swap (swap i) ≡ i) refl refl refl refl i (rw eu at h);
    same = λ i h. rw (et, eu) (each (λ i. get_or sent_y (swap i) [] ≡ get_or sent_x i []) refl refl refl refl i (rw et at h));
  }

  ordered : InOrder tm t u pairing
  ordered = record { keeps = λ i j h k e. keeps j (rw et at k) i (omega (arith, rw et at k)) h (rw et at e) }

abbrev pub partners : Partners (records_of run_x) (records_of run_y)
partners = pairing (records_of run_x) (records_of run_y) computed.0 computed.1

pub in_order : InOrder tm (records_of run_x) (records_of run_y) partners
in_order = ordered (records_of run_x) (records_of run_y) computed.0 computed.1

-- the claim of `crossed` for the two runs; and the numbers of all answers, and the row counts of the accepted calls
pub witness : Crossed tm run_x run_y partners × (answers run_x ≡ 0 ∷ 0 ∷ 0 ∷ 0 ∷ []) × (answers run_y ≡ 0 ∷ 10 ∷ 0 ∷ 0 ∷ 0 ∷ [])
    × (counts run_x ≡ 0 ∷ 0 ∷ 1 ∷ 1 ∷ []) × (counts run_y ≡ 0 ∷ 0 ∷ 1 ∷ 1 ∷ [])
unfolding xs ys
witness = (crossed text declared pattern form xs ys refl refl partners in_order, computed.2, computed.3, computed.4, computed.5)
