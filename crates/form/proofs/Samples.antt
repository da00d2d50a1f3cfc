-- Theorem `sampled`: every text of the table is read as document 01 has it, by computation from the definitions alone. List by list, so
-- that a refusal says which reading is another.
use mathlib.Core.Path.{◌≡◌, refl}
use mathlib.Core.List.{map, map-append}
use Rattle.laws.specs.Bits.{bit, join, meet, single}
use Rattle.form.specs.Text.{decimal, header, text}
use Rattle.form.specs.Scan.{spaces_end, word_end, name_end, next_word, name_fault, kind_of, fixed_number}
use Rattle.form.specs.Lines.{want_word, kind_from, symbol_from, lines_of}
use Rattle.form.specs.Parse.{item_of, name_atom, closed, alternation_from, pattern_from}
use Rattle.form.specs.Reading.{last_line, match_from, reading_of}
use Rattle.form.specs.Samples.{outcome, wanted, first, full, fixed_numbers, variables, lines, patterns, many, deep, long, table}

first_read : map outcome first ≡ map wanted first
unfolding bit join meet single decimal header text spaces_end word_end name_end next_word name_fault kind_of want_word kind_from symbol_from lines_of item_of
    name_atom closed alternation_from pattern_from last_line match_from reading_of first
first_read = refl

full_read : map outcome full ≡ map wanted full
unfolding bit join meet single decimal header text spaces_end word_end name_end next_word name_fault kind_of want_word kind_from symbol_from lines_of item_of
    name_atom closed alternation_from pattern_from last_line match_from reading_of full
full_read = refl

fixed_numbers_read : map outcome fixed_numbers ≡ map wanted fixed_numbers
unfolding bit join meet single decimal header text spaces_end word_end name_end next_word name_fault kind_of fixed_number want_word kind_from symbol_from lines_of item_of
    name_atom closed alternation_from pattern_from last_line match_from reading_of fixed_numbers
fixed_numbers_read = refl

variables_read_law : map outcome variables ≡ map wanted variables
unfolding bit join meet single decimal header text spaces_end word_end name_end next_word name_fault kind_of want_word kind_from symbol_from lines_of item_of
    name_atom closed alternation_from pattern_from last_line match_from reading_of variables
variables_read_law = refl

lines_read_law : map outcome lines ≡ map wanted lines
unfolding bit join meet single decimal header text spaces_end word_end name_end next_word name_fault kind_of want_word kind_from symbol_from lines_of item_of
    name_atom closed alternation_from pattern_from last_line match_from reading_of lines
lines_read_law = refl

patterns_read : map outcome patterns ≡ map wanted patterns
unfolding bit join meet single decimal header text spaces_end word_end name_end next_word name_fault kind_of want_word kind_from symbol_from lines_of item_of
    name_atom closed alternation_from pattern_from last_line match_from reading_of patterns
patterns_read = refl

many_read : map outcome many ≡ map wanted many
unfolding bit join meet single decimal header text spaces_end word_end name_end next_word name_fault kind_of want_word kind_from symbol_from lines_of item_of
    name_atom closed alternation_from pattern_from last_line match_from reading_of many
many_read = refl

deep_read : map outcome deep ≡ map wanted deep
unfolding bit join meet single decimal header text spaces_end word_end name_end next_word name_fault kind_of want_word kind_from symbol_from lines_of item_of
    name_atom closed alternation_from pattern_from last_line match_from reading_of deep
deep_read = refl

long_read : map outcome long ≡ map wanted long
unfolding bit join meet single decimal header text spaces_end word_end name_end next_word name_fault kind_of want_word kind_from symbol_from lines_of item_of
    name_atom closed alternation_from pattern_from last_line match_from reading_of long
long_read = refl

pub sampled : map outcome table ≡ map wanted table
sampled = simp (map-append, first_read, full_read, fixed_numbers_read, variables_read_law, lines_read_law, patterns_read, many_read, deep_read, long_read)
