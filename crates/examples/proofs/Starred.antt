-- Theorem `starred`, about the whole table: every starred roast of document 01, its text read and its records taken, comes out as
-- document 01 has it, by computation from the very definitions that the contracts of `read` and `event` cite (`computed`); and this
-- is what the meanings say: rows of the declarative meaning, answers by the stated rules, numbers and places by the rules for texts.
use mathlib.Core.Path.{◌≡◌, refl, ap}
use mathlib.Core.Bool.{Bool, true, ◌&&◌}
use mathlib.Core.List.{List, [], ◌∷◌, map, Memᴰ}
use Prim.Native.Nat.{ℕ}
use Prim.Native.String.{String}
use Rattle.laws.specs.Bits.{bit, join, meet, single}
use Rattle.laws.specs.Lists.{all}
use Rattle.laws.specs.Parts.{front, splice, pad}
use Rattle.laws.proofs.Lists.{all_at, and_true_split, map_at}
use Rattle.meaning.specs.Events.{matches, constraint_of}
use Rattle.meaning.specs.Book.{sound_book, sound_symbol}
use Rattle.meaning.specs.Labels.{compare_disjuncts, skip_by, sources, step_set, skip_set, new_label, new_held}
use Rattle.meaning.specs.Room.{set_room, room}
use Rattle.meaning.specs.Rows.{rows, leaves_free}
use Rattle.meaning.specs.Sound.{sound_piece, sound_held, sound_state}
use Rattle.form.specs.Text.{ascii, is_bytes}
use Rattle.form.specs.Scan.{spaces_end, word_end, name_end, next_word, name_fault, kind_of, fixed_number}
use Rattle.form.specs.Lines.{want_word, kind_from, symbol_from, lines_of}
use Rattle.form.specs.Parse.{item_of, name_atom, closed, alternation_from, pattern_from}
use Rattle.form.specs.Reading.{last_line, match_from, reading_of}
use Rattle.table.specs.Tables.{symbol_of, table_of, view_symbol}
use Rattle.record.specs.Records.{word_at, arguments_in, is_record, event_in}
use Rattle.slot.specs.Slots.{view_slot, slot_of}
use Rattle.disjunct.specs.Disjuncts.{view_disjunct, disjunct_of}
use Rattle.book.specs.Answers.{answer_of}
use Rattle.book.specs.Books.{reading, reading_for, book_for, empty_book, view_book}
use Rattle.state.specs.States.{state_of, held_first, view_state}
use Rattle.sound.specs.Soundness.{symbol_counts, book_counts, book_sound, slot_counts, state_counts, state_sound}
use Rattle.row.specs.RowBytes.{word_bytes, bytes_of, row_bytes}
use Rattle.calls.specs.Calls.{fresh_state, rows_by, state_by, leaves_free_by, room_by, unsound, out_of_form, too_many, no_room, no_space, answer_to, taken, buffer_after}
use Rattle.tally.specs.Tallies.{capped, tallied}
use Rattle.calls.specs.Answers.{number_of}
use Rattle.calls.specs.Runs.{lent_at, make, all_bytes}
use Rattle.book.proofs.Bench as Bench
use Rattle.least.proofs.Refused.{refused}
use Rattle.demands.proofs.Answered.{answered}
use Rattle.demands.proofs.Checks.{first_failing_law}
use Rattle.demands.proofs.Listed.{listed}
use Rattle.examples.specs.Starred.{Line, Entry, runs, late, reads, Back, buffer, place, call_of, idle, outcome, wanted, Meant, table}

pub computed : map outcome table ≡ map wanted table
unfolding bit join meet single front splice pad matches constraint_of sound_book sound_symbol compare_disjuncts skip_by sources step_set skip_set new_label
    new_held set_room room rows leaves_free sound_piece sound_held sound_state spaces_end word_end name_end next_word name_fault kind_of fixed_number want_word kind_from
    symbol_from lines_of item_of name_atom closed alternation_from pattern_from last_line match_from reading_of symbol_of table_of view_symbol word_at arguments_in
    is_record event_in view_slot slot_of view_disjunct disjunct_of answer_of reading_for book_for empty_book view_book state_of held_first view_state symbol_counts
    book_counts book_sound slot_counts state_counts state_sound word_bytes row_bytes bytes_of fresh_state rows_by state_by leaves_free_by room_by unsound out_of_form too_many
    no_room no_space answer_to taken buffer_after make capped tallied table
computed = refl

-- the text and the records of an entry are bytes
abbrev in_bytes : Entry → Bool
in_bytes (runs t ls) = is_bytes (ascii t) && all_bytes (map call_of ls)
in_bytes (late t k l) = true
in_bytes (reads t n p) = is_bytes (ascii t)

bytes : all in_bytes table ≡ true
unfolding table pad
bytes = refl

-- the number of the first line
abbrev first_number : List Back → ℕ
first_number [] = 0
first_number (b ∷ bs) = b.number

-- what an entry `late` says of the one call
late_number : (t : String) (k : ℕ) (l : Line) → outcome (late t k l) ≡ wanted (late t k l)
    → number_of (taken (reading (ascii t)).book (idle k) l.bytes buffer place (lent_at (call_of l)).tally).answer ≡ l.number
unfolding make
late_number t k l o = ap (λ x. first_number x.lines) o

meant : (e : Entry) → Memᴰ e table → outcome e ≡ wanted e → Meant e
meant (runs t ls) h o =
    let (d, r, f) = (Bench.accepted (ascii t)).0 (ap (λ x. x.number) o) in
    let b = (and_true_split (is_bytes (ascii t)) _ (all_at in_bytes bytes h)).1 in
    (d, r, f, listed (ascii t) d r f (map call_of ls) b, answered (ascii t) d r f (map call_of ls) b)
meant (late t k l) h o = rw (late_number t k l o) at (first_failing_law (reading (ascii t)).book (idle k) l.bytes buffer place (lent_at (call_of l)).tally)
meant (reads t n p) h o = rw (ap (λ x. x.number) o, ap (λ x. x.place) o) at (refused (ascii t) (all_at in_bytes bytes h))

pub starred : (e : Entry) → Memᴰ e table → (outcome e ≡ wanted e) × Meant e
starred e h = let o = map_at outcome wanted computed h in (o, meant e h o)
