-- `set_samples_law`: the calls of Samples leave what stands there, by computation from the very definitions that the contracts of the calls cite.
use mathlib.Core.Path.{◌≡◌, refl}
use mathlib.Core.List.{map}
use lib.Count.{ones}
use lib.ListN.{replicate}
use Rattle.laws.specs.Bits.{bit, join, meet, single}
use Rattle.laws.specs.Parts.{front, splice, pad}
use Rattle.meaning.specs.Events.{matches, constraint_of}
use Rattle.meaning.specs.Book.{sound_book, sound_symbol}
use Rattle.meaning.specs.Labels.{compare_disjuncts, skip_by, sources, step_set, skip_set, new_label, new_held}
use Rattle.meaning.specs.Room.{set_room, room}
use Rattle.meaning.specs.Rows.{rows, leaves_free}
use Rattle.meaning.specs.Sound.{sound_piece, sound_held, sound_state}
use Rattle.form.specs.Scan.{spaces_end, word_end, name_end, next_word, name_fault, kind_of, fixed_number}
use Rattle.form.specs.Lines.{want_word, kind_from, symbol_from, lines_of}
use Rattle.form.specs.Parse.{item_of, name_atom, closed, alternation_from, pattern_from}
use Rattle.form.specs.Reading.{last_line, match_from, reading_of}
use Rattle.table.specs.Tables.{symbol_of, table_of, view_symbol}
use Rattle.record.specs.Records.{word_at, arguments_in, is_record, event_in}
use Rattle.slot.specs.Slots.{view_slot, slot_of}
use Rattle.disjunct.specs.Disjuncts.{view_disjunct, disjunct_of}
use Rattle.book.specs.Answers.{answer_of}
use Rattle.book.specs.Books.{reading_for, book_for, empty_book, view_book}
use Rattle.state.specs.States.{state_of, held_first, view_state}
use Rattle.sound.specs.Soundness.{symbol_counts, book_counts, book_sound, slot_counts, state_counts, state_sound}
use Rattle.row.specs.RowBytes.{word_bytes, bytes_of}
use Rattle.tally.specs.Tallies.{capped, tallied}
use Rattle.calls.specs.Calls.{rows_by, state_by, leaves_free_by, room_by, unsound, out_of_form, too_many, no_room, fresh_state}
use Rattle.blocks.specs.BookBlock.{name_in, parameter_in, symbol_in, book_held, book_in, book_words}
use Rattle.blocks.specs.StateBlock.{slot_in, disjunct_in, state_held, state_in, group_words, state_words, state_stored}
use Rattle.blocks.specs.TallyBlock.{tally_in, tally_words}
use Rattle.blocks.specs.Lent.{read_left}
use Rattle.parts.specs.Parts.{part_rows, part_bytes, part_next, rows_together, no_space_together, number_for, parts_left}
use Rattle.parts.specs.SetBlock.{bad_count, outside, book_part, states_after, set_left, set_fresh}
use Rattle.parts.specs.Samples.{set_samples, fresh_samples}

pub set_samples_law : map (λ r. set_left r.books r.states r.count r.bytes r.buffer r.place r.tally) set_samples ≡ map (λ r. r.left) set_samples
unfolding bit join meet single ones front splice pad matches constraint_of sound_book sound_symbol compare_disjuncts skip_by sources step_set skip_set new_label
    new_held set_room room rows leaves_free sound_piece sound_held sound_state spaces_end word_end name_end next_word name_fault kind_of fixed_number want_word kind_from
    symbol_from lines_of item_of name_atom closed alternation_from pattern_from last_line match_from reading_of symbol_of table_of view_symbol word_at arguments_in
    is_record event_in view_slot slot_of view_disjunct disjunct_of answer_of reading_for book_for empty_book view_book state_of held_first view_state symbol_counts
    book_counts book_sound slot_counts state_counts state_sound word_bytes bytes_of rows_by state_by leaves_free_by room_by unsound out_of_form too_many no_room capped
    tallied name_in parameter_in symbol_in book_held book_in book_words slot_in disjunct_in state_held state_in group_words state_words state_stored tally_in tally_words
    read_left part_rows part_bytes part_next rows_together no_space_together number_for parts_left bad_count outside book_part states_after set_left
set_samples_law = refl

-- and those that make fresh states
pub fresh_samples_law : map (λ (n, (size, _)). set_fresh (replicate size 9) n) fresh_samples ≡ map (λ (_, (_, left)). left) fresh_samples
unfolding front pad slot_of view_slot view_disjunct disjunct_of state_of fresh_state group_words state_words bad_count set_fresh
fresh_samples_law = refl
