-- A run of lent calls, computed from the very definitions that the contracts of the lent calls cite: an event that is held, one whose row finds no space,
-- the same with space, and a record out of form. All that each leaves is given word by word and byte by byte. And demand 3's bytes, said apart.
use mathlib.Core.Path.{◌≡◌, refl}
use mathlib.Core.List.{List, [], ◌∷◌, ◌++◌, map}
use Prim.Native.Nat.{ℕ, ◌+◌, ◌*◌, ◌<◌}
use lib.Count.{ones}
use lib.ListN.{replicate}
use Rattle.laws.specs.Bits.{bit, join, meet, single}
use Rattle.laws.specs.Parts.{front, splice, pad}
use Rattle.meaning.specs.Events.{Event, matches, constraint_of}
use Rattle.meaning.specs.Meaning.{Tracematch}
use Rattle.meaning.specs.Book.{sound_book, sound_symbol}
use Rattle.meaning.specs.Labels.{compare_disjuncts, skip_by, sources, step_set, skip_set, new_label, new_held}
use Rattle.meaning.specs.Room.{set_room, room}
use Rattle.meaning.specs.Rows.{rows, leaves_free}
use Rattle.meaning.specs.Sound.{sound_piece, sound_held, sound_state}
use Rattle.form.specs.Text.{Bytes, ascii}
use Rattle.form.specs.Scan.{spaces_end, word_end, name_end, next_word, name_fault, kind_of, fixed_number}
use Rattle.form.specs.Lines.{want_word, kind_from, symbol_from, lines_of}
use Rattle.form.specs.Parse.{item_of, name_atom, closed, alternation_from, pattern_from}
use Rattle.form.specs.Reading.{last_line, match_from, reading_of}
use Rattle.table.specs.Tables.{symbol_of, table_of, view_symbol}
use Rattle.record.specs.Records.{word_at, arguments_in, is_record, event_in}
use Rattle.slot.specs.Slots.{view_slot, slot_of}
use Rattle.disjunct.specs.Disjuncts.{view_disjunct, disjunct_of}
use Rattle.book.specs.Answers.{answer_of}
use Rattle.book.specs.Books.{reading_for, book_for, empty_book, view_book}
use Rattle.state.specs.States.{state_of, held_first, view_state}
use Rattle.sound.specs.Soundness.{symbol_counts, book_counts, book_sound, slot_counts, state_counts, state_sound}
use Rattle.row.specs.RowBytes.{row_size, word_bytes, bytes_of, row_bytes}
use Rattle.tally.specs.Tallies.{capped, tallied}
use Rattle.calls.specs.Calls.{fresh_state, rows_by, state_by, leaves_free_by, room_by, unsound, out_of_form, too_many, no_room, no_space, answer_to, taken, buffer_after}
use Rattle.calls.specs.Runs.{behind_number}
use Rattle.blocks.specs.BookBlock.{name_in, parameter_in, symbol_in, book_held, book_in, book_words}
use Rattle.blocks.specs.StateBlock.{slot_in, disjunct_in, state_held, state_in, group_words, state_words, state_stored}
use Rattle.blocks.specs.TallyBlock.{tally_in, tally_words}
use Rattle.blocks.specs.Lent.{read_left, EventLeft, event_left}
use Rattle.lent_runs.specs.Lending.{LentCall, LentMade, lent_run, LentAlike}

-- the records of load(41) and of stop, and calls that lend 25 bytes of 255 and a tally of 5, 6 and 7
abbrev load : Bytes
load = 1 ∷ 1 ∷ 0 ∷ 0 ∷ 41 ∷ replicate 15 0

abbrev stop : Bytes
stop = 9 ∷ replicate 19 0

abbrev call : Bytes → ℕ → LentCall
call bytes place = record { bytes = bytes; buffer = replicate 25 255; place = place; tally = 5 ∷ 6 ∷ 7 ∷ [] }

-- what a refused call leaves beside the state
abbrev refusal : ℕ → List ℕ → EventLeft
refusal n s = record { number = n; rows = 0; buffer = replicate 25 255; tally = 5 ∷ 7 ∷ 7 ∷ []; state = s }

-- the state's words after load(41), and after stop: then nothing is held, and the group is cleared
abbrev loaded : List ℕ
loaded = 2001 ∷ 1 ∷ 1 ∷ 1 ∷ replicate 127 0 ++ (7 ∷ 41 ∷ replicate 3582 0)

abbrev stopped : List ℕ
stopped = 2001 ∷ 2 ∷ replicate 3713 0

pub run_left : map (λ m. m.left)
    (lent_run (ascii "vars d\nsym load 1 d\nsym stop 9\nmatch load stop\n") (call load 1 ∷ call stop 2 ∷ call stop 1 ∷ call [] 0 ∷ []))
    ≡ record { number = 0; rows = 0; buffer = replicate 25 255; tally = 6 ∷ 6 ∷ 7 ∷ []; state = loaded }
    ∷ refusal 13 loaded
    ∷ record {
      number = 0;
      rows = 1;
      buffer = 255 ∷ 2 ∷ 0 ∷ 0 ∷ 0 ∷ 1 ∷ 0 ∷ 0 ∷ 0 ∷ 41 ∷ replicate 15 0;
      tally = 6 ∷ 6 ∷ 8 ∷ [];
      state = stopped;
    }
    ∷ refusal 10 stopped
    ∷ []
unfolding bit join meet single ones front splice pad matches constraint_of sound_book sound_symbol compare_disjuncts skip_by sources step_set skip_set new_label
    new_held set_room room rows leaves_free sound_piece sound_held sound_state spaces_end word_end name_end next_word name_fault kind_of fixed_number want_word kind_from
    symbol_from lines_of item_of name_atom closed alternation_from pattern_from last_line match_from reading_of symbol_of table_of view_symbol word_at arguments_in
    is_record event_in view_slot slot_of view_disjunct disjunct_of answer_of reading_for book_for empty_book view_book state_of held_first view_state symbol_counts
    book_counts book_sound slot_counts state_counts state_sound word_bytes row_bytes bytes_of fresh_state rows_by state_by leaves_free_by room_by unsound out_of_form too_many
    no_room no_space answer_to taken buffer_after capped tallied name_in parameter_in symbol_in book_held book_in book_words slot_in disjunct_in state_held state_in
    group_words state_words state_stored tally_in tally_words read_left event_left
run_left = refl

-- of partners the rows are the same, byte by byte but for the event's number
pub partner_bytes : (tm : Tracematch) (t u : List Event) (n k : ℕ) (a c : LentMade) → LentAlike tm t u n k a c → (i : ℕ) → i < a.left.rows
    → behind_number (a.lent.place + row_size * i) a.left.buffer ≡ behind_number (c.lent.place + row_size * i) c.left.buffer
partner_bytes tm t u n k a c g = g.bytes
