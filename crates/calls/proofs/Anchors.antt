-- A few calls over books that are read, decided by computation from the definitions alone: answers, row counts, tallies, event numbers and
-- whole buffers. A wrong definition of a call is refused here first, because a fact is false.
use mathlib.Core.Path.{◌≡◌, refl}
use mathlib.Core.List.{List, [], ◌∷◌, ◌++◌, map}
use Prim.Native.Nat.{ℕ}
use lib.ListN.{replicate}
use Rattle.laws.specs.Bits.{bit, join, meet, single}
use Rattle.laws.specs.Lists.{numbers}
use Rattle.laws.specs.Parts.{front, splice, pad}
use Rattle.meaning.specs.Events.{matches, constraint_of}
use Rattle.meaning.specs.Book.{sound_book, sound_symbol}
use Rattle.meaning.specs.Labels.{bound, free, held_at, compare_disjuncts, skip_by, sources, step_set, skip_set, new_label, new_held}
use Rattle.meaning.specs.Room.{set_room, room}
use Rattle.meaning.specs.Rows.{rows, leaves_free}
use Rattle.meaning.specs.Sound.{sound_piece, sound_held, sound_state}
use Rattle.form.specs.Text.{Bytes, ascii}
use Rattle.form.specs.Scan.{spaces_end, word_end, name_end, next_word, name_fault, kind_of}
use Rattle.form.specs.Lines.{want_word, kind_from, symbol_from, lines_of}
use Rattle.form.specs.Parse.{item_of, name_atom, closed, alternation_from, pattern_from}
use Rattle.form.specs.Reading.{last_line, match_from, reading_of}
use Rattle.table.specs.Tables.{symbol_of, table_of, view_symbol}
use Rattle.record.specs.Records.{word_at, arguments_in, is_record, event_in}
use Rattle.slot.specs.Slots.{view_slot, slot_of}
use Rattle.disjunct.specs.Disjuncts.{view_disjunct, disjunct_of}
use Rattle.book.specs.declared.Book.{Book}
use Rattle.book.specs.Books.{reading, reading_for, book_for, view_book}
use Rattle.state.specs.declared.State.{State}
use Rattle.state.specs.States.{state_of, held_first, view_state}
use Rattle.tally.specs.Tallies.{capped, tallied}
use Rattle.row.specs.RowBytes.{word_bytes, bytes_of, row_bytes}
use Rattle.sound.specs.Soundness.{symbol_counts, book_counts, book_sound, slot_counts, state_counts, state_sound}
use Rattle.calls.specs.Calls.{fresh_state, rows_by, state_by, leaves_free_by, room_by, unsound, out_of_form, too_many, no_room, no_space}
use Rattle.calls.specs.Calls.{answer_to, taken, buffer_after}
use Rattle.calls.specs.Answers.{number_of}
use Rattle.calls.specs.declared.EventAnswer.TheVariants.{Accepted, Unsound, OutOfForm, TooMany, NoRoom, NoSpace}
use Rattle.calls.specs.Runs.{Call, event, Made, make, run_of, behind_number}
use Rattle.calls.specs.Witness.{text, load, dropped}

-- what a call hands back and leaves: number, rows, tally (accepted, refused, rows), the state's event number and count, the buffer
abbrev Seen : Type 0
Seen = ℕ × ℕ × List ℕ × List ℕ × Bytes

abbrev seen : Made → Seen
seen m =
    let t = m.taken in
    (number_of t.answer, t.rows, t.tally.accepted ∷ t.tally.refused ∷ t.tally.rows ∷ [], t.state.number ∷ t.state.count ∷ [], m.buffer)

-- a call over a tally of 5 accepted, 6 refused and 7 rows
abbrev pub lending : Bytes → (size place : ℕ) → Call
lending bytes size place = event (record { bytes = bytes; buffer = replicate size 255; place = place; tally = record { accepted = 5; refused = 6; rows = 7 } })

-- B1: load(1,7); drop(1) with no space from its place on, then behind the buffer's first 25 bytes; a record that is too short
abbrev calls : List Call
calls = lending (load 1 7) 0 0 ∷ lending (dropped 1) 30 10 ∷ lending (dropped 1) 50 25 ∷ lending (replicate 19 1) 0 0 ∷ []

abbrev wanted : List Seen
wanted =
    (0, 0, 6 ∷ 6 ∷ 7 ∷ [], 1 ∷ 1 ∷ [], [])
    ∷ (13, 0, 5 ∷ 7 ∷ 7 ∷ [], 1 ∷ 1 ∷ [], replicate 30 255)
    ∷ (
      0,
      1,
      6 ∷ 6 ∷ 8 ∷ [],
      2 ∷ 1 ∷ [],
      replicate 25 255 ++ (2 ∷ 0 ∷ 0 ∷ 0 ∷ 2 ∷ 0 ∷ 0 ∷ 0 ∷ 1 ∷ 0 ∷ 0 ∷ 0 ∷ 7 ∷ replicate 11 0) ++ (255 ∷ []),
    )
    ∷ (10, 0, 5 ∷ 7 ∷ 7 ∷ [], 2 ∷ 1 ∷ [], [])
    ∷ []

pub anchored : map seen (run_of (reading text).book calls) ≡ wanted
unfolding bit join meet single pad matches constraint_of sound_book sound_symbol compare_disjuncts skip_by sources step_set skip_set new_label new_held
    set_room room rows leaves_free sound_piece sound_held sound_state spaces_end word_end name_end next_word name_fault kind_of want_word kind_from symbol_from
    lines_of item_of name_atom closed alternation_from pattern_from last_line match_from reading_of symbol_of table_of view_symbol word_at arguments_in is_record
    event_in view_slot slot_of view_disjunct disjunct_of reading_for book_for view_book state_of held_first view_state symbol_counts book_counts book_sound
    slot_counts state_counts state_sound fresh_state rows_by state_by leaves_free_by room_by unsound out_of_form too_many no_room no_space answer_to taken make
    text buffer_after row_bytes bytes_of word_bytes splice front tallied capped
anchored = refl

-- A pool that is full: 128 disjuncts held of `vars d`, `sym a 1 d`, `match a a`. An event of another kind breaks no room rule and is accepted.
abbrev pub one : Book
one = (reading (ascii "vars d\nsym a 1 d\nmatch a a\n")).book

abbrev pub full : State
full = state_of (record { number = 128; held = map (λ i. held_at 1 (bound i ∷ [])) (numbers 0 128) })

-- B2, the variable s of a held disjunct with six exclusions: a seventh is 12, also where 13 would be next
abbrev pub two : Book
two = (reading (ascii "vars d s\nsym open 5 d\nsym fill 1 d s\nsym seal 6 d s\nmatch open seal\n")).book

abbrev six : State
six = state_of (record { number = 7; held = held_at 1 (bound 1 ∷ free (1 ∷ 2 ∷ 3 ∷ 4 ∷ 5 ∷ 6 ∷ []) ∷ []) ∷ [] })

pub room_first : (seen (make one full (lending (9 ∷ replicate 19 0) 0 0)) ≡ (0, 0, 6 ∷ 6 ∷ 7 ∷ [], 129 ∷ 128 ∷ [], []))
    × (seen (make two six (lending (load 1 7) 0 1)) ≡ (12, 0, 5 ∷ 7 ∷ 7 ∷ [], 7 ∷ 1 ∷ [], []))
    × (seen (make two six (lending (load 2 7) 0 1)) ≡ (13, 0, 5 ∷ 7 ∷ 7 ∷ [], 7 ∷ 1 ∷ [], []))
unfolding bit join meet single pad matches constraint_of sound_book sound_symbol compare_disjuncts skip_by sources step_set skip_set new_label new_held
    set_room room rows leaves_free sound_piece sound_held sound_state spaces_end word_end name_end next_word name_fault kind_of want_word kind_from symbol_from
    lines_of item_of name_atom closed alternation_from pattern_from last_line match_from reading_of symbol_of table_of view_symbol word_at arguments_in is_record
    event_in view_slot slot_of view_disjunct disjunct_of reading_for book_for view_book state_of held_first view_state symbol_counts book_counts book_sound
    slot_counts state_counts state_sound fresh_state rows_by state_by leaves_free_by room_by unsound out_of_form too_many no_room no_space answer_to taken make
    buffer_after row_bytes bytes_of word_bytes splice front tallied capped
room_first = (refl, refl, refl)

-- "bytes 4 to 23" of the row that begins at 0, and of the one at 30
pub tail_bytes : (behind_number 0 (numbers 0 60) ≡ numbers 4 20) × (behind_number 30 (numbers 0 60) ≡ numbers 34 20)
tail_bytes = (refl, refl)

-- the numbers of the table of "What a call hands back", case by case
pub case_numbers : map number_of (Accepted ∷ Unsound ∷ OutOfForm ∷ TooMany ∷ NoRoom ∷ NoSpace ∷ []) ≡ 0 ∷ 9 ∷ 10 ∷ 11 ∷ 12 ∷ 13 ∷ []
case_numbers = refl
