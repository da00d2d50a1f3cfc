-- Where each word of a block stands and what it says, computed of literal words: the layouts' numbers, the beginnings of the parts, words that are their own
-- places, and codes, counts and flags that no state or book of a watch has. For the buyer who reads words by their places, and for the must-fail edits.
use mathlib.Core.Path.{◌≡◌, refl}
use mathlib.Core.Bool.{true, false}
use mathlib.Core.List.{List, [], ◌∷◌, ◌++◌, map}
use Prim.Native.Nat.{ℕ, ◌+◌, ◌*◌}
use lib.Count.{ones}
use lib.ListN.{replicate}
use Rattle.laws.specs.Lists.{numbers}
use Rattle.laws.specs.Parts.{front, splice, pad}
use Rattle.meaning.specs.Labels.{bound, free, held_at}
use Rattle.form.specs.Text.{Bytes, ascii}
use Rattle.form.specs.Scan.{spaces_end, word_end, name_end, next_word, name_fault, kind_of, fixed_number}
use Rattle.form.specs.Lines.{want_word, kind_from, symbol_from, lines_of}
use Rattle.form.specs.Parse.{item_of, name_atom, closed, alternation_from, pattern_from}
use Rattle.form.specs.Reading.{last_line, match_from, reading_of}
use Rattle.table.specs.Tables.{symbol_of, table_of}
use Rattle.meaning.specs.Book.{sound_symbol}
use Rattle.laws.specs.Bits.{bit, join, meet, single}
use Rattle.slot.specs.Slots.{view_slot, slot_of}
use Rattle.disjunct.specs.Disjuncts.{view_disjunct, disjunct_of}
use Rattle.book.specs.Answers.{answer_of}
use Rattle.book.specs.declared.Book.{Book}
use Rattle.book.specs.Books.{empty_book, reading_for, book_for}
use Rattle.state.specs.declared.State.{State}
use Rattle.state.specs.States.{state_of}
use Rattle.tally.specs.Tallies.{tallied}
use Rattle.calls.specs.Calls.{fresh_state, is_accepted, answer_to, taken, buffer_after}
use Rattle.blocks.specs.BookBlock.{book_layout, names_from, table_from, occurrences_from, follows_from, book_size}
use Rattle.blocks.specs.BookBlock.{name_in, parameter_in, symbol_in, book_held, book_in, book_words}
use Rattle.blocks.specs.StateBlock.{state_layout, positions_from, pool_from, state_size}
use Rattle.blocks.specs.StateBlock.{slot_in, disjunct_in, state_held, state_in, entry_words, group_words, state_words, state_stored}
use Rattle.blocks.specs.TallyBlock.{tally_size, tally_in, tally_words}
use Rattle.blocks.specs.Lent.{read_left, event_left}

-- the numbers of the layouts, where the parts begin, and how many words there are
pub book_places : (book_layout ∷ names_from ∷ table_from ∷ occurrences_from ∷ follows_from ∷ book_size ∷ []) ≡ (1001 ∷ 7 ∷ 47 ∷ 207 ∷ 238 ∷ 269 ∷ [])
book_places = refl

pub state_places : (state_layout ∷ positions_from ∷ pool_from ∷ state_size ∷ tally_size ∷ []) ≡ (2001 ∷ 3 ∷ 131 ∷ 3715 ∷ 3 ∷ [])
state_places = refl

-- The book in words that are their own places, but for the layout's number, and its words: the flag, which is 6 and so set, is 1 in these.
abbrev own_book : Book
own_book =
    record {
      variables = 1;
      symbols = 2;
      names = map (λ i. record { start = 7 + 2 * i; size = 8 + 2 * i }) (numbers 0 20);
      table =
          map (λ a. record {
            kind = 47 + 10 * a;
            count = 48 + 10 * a;
            parameters = map (λ j. record { tag = 49 + 10 * a + 2 * j; number = 50 + 10 * a + 2 * j }) (numbers 0 4);
          }) (numbers 0 16);
      positions = 3;
      occurrences = numbers 207 31;
      begins = 4;
      ends = 5;
      follows = numbers 238 31;
      empty = true;
    }

pub own_book_law : book_in (1001 ∷ numbers 1 268) ≡ own_book
unfolding book_in book_held name_in symbol_in parameter_in
own_book_law = refl

pub own_book_words : book_words own_book ≡ 1001 ∷ 1 ∷ 2 ∷ 3 ∷ 4 ∷ 5 ∷ 1 ∷ numbers 7 262
unfolding book_words
own_book_words = refl

-- any other number of a layout: the empty book
pub other_layout_book : (book_in (1000 ∷ numbers 1 268) ≡ empty_book) × (book_in (1002 ∷ numbers 1 268) ≡ empty_book) × (book_in (2001 ∷ numbers 1 268) ≡ empty_book)
unfolding book_in
other_layout_book = (refl, refl, refl)

-- The words of a variable: a value, exclusions, and codes above 7, which are counts as they stand.
pub slot_words_law : map slot_in ((7 ∷ numbers 41 6) ∷ (2 ∷ numbers 41 6) ∷ (6 ∷ numbers 41 6) ∷ (8 ∷ numbers 41 6) ∷ [])
    ≡ record { bound = true; value = 41; count = 0; excluded = replicate 6 0 }
    ∷ record { bound = false; value = 0; count = 2; excluded = numbers 41 6 }
    ∷ record { bound = false; value = 0; count = 6; excluded = numbers 41 6 }
    ∷ record { bound = false; value = 0; count = 8; excluded = numbers 41 6 }
    ∷ []
unfolding slot_in slot_of
slot_words_law = refl

pub entry_words_law : map entry_words (bound 41 ∷ free [] ∷ free (41 ∷ 42 ∷ []) ∷ free (numbers 41 6) ∷ [])
    ≡ (7 ∷ 41 ∷ 0 ∷ 0 ∷ 0 ∷ 0 ∷ 0 ∷ []) ∷ (0 ∷ 0 ∷ 0 ∷ 0 ∷ 0 ∷ 0 ∷ 0 ∷ []) ∷ (2 ∷ 41 ∷ 42 ∷ 0 ∷ 0 ∷ 0 ∷ 0 ∷ []) ∷ (6 ∷ numbers 41 6) ∷ []
unfolding pad
entry_words_law = refl

-- The state in words that are their own places, but for the layout's number and the count: the places that are counted, the others free.
abbrev own_places : ℕ → State
own_places n =
    record {
      number = 1;
      count = n;
      positions = pad 128 0 (numbers 3 n);
      pool =
          pad 128 (disjunct_of [])
          (map (λ i. record {
            vars =
                map (λ v. record { bound = false; value = 0; count = 131 + 28 * i + 7 * v; excluded = numbers (132 + 28 * i + 7 * v) 6 }) (numbers 0 4);
          }) (numbers 0 n));
    }

pub own_state : (state_in (2001 ∷ 1 ∷ 0 ∷ numbers 3 3712) ≡ own_places 0) × (state_in (2001 ∷ 1 ∷ 2 ∷ numbers 3 3712) ≡ own_places 2)
    × (state_in (2001 ∷ 1 ∷ 128 ∷ numbers 3 3712) ≡ own_places 128)
unfolding state_in state_held disjunct_in slot_in pad
own_state = (refl, refl, refl)

-- a count over 128 stays
pub own_count : (state_in (2001 ∷ 1 ∷ 129 ∷ numbers 3 3712)).count ≡ 129
unfolding state_in state_held
own_count = refl

-- any other number of a layout: a state of 1,000,001 events
pub other_layout_state : ((state_in (2000 ∷ numbers 1 3714)).number ≡ 1000001) × ((state_in (2002 ∷ numbers 1 3714)).number ≡ 1000001)
    × ((state_in (1001 ∷ numbers 1 3714)).number ≡ 1000001)
unfolding state_in state_of
other_layout_state = (refl, refl, refl)

-- A state of one disjunct stored in words that are their own places, of which it held two, then none: what was held is cleared, what is behind stays.
abbrev one : State
one = state_of (record { number = 9; held = held_at 5 (bound 41 ∷ free (42 ∷ []) ∷ []) ∷ [] })

abbrev one_group : List ℕ
one_group = 7 ∷ 41 ∷ 0 ∷ 0 ∷ 0 ∷ 0 ∷ 0 ∷ 1 ∷ 42 ∷ replicate 19 0

pub one_stored : (state_stored (2001 ∷ 8 ∷ 2 ∷ numbers 3 3712) one ≡ 2001 ∷ 9 ∷ 1 ∷ 5 ∷ 0 ∷ numbers 5 126 ++ (one_group ++ (replicate 28 0 ++ numbers 187 3528)))
    × (state_stored (2001 ∷ 8 ∷ 0 ∷ numbers 3 3712) one ≡ 2001 ∷ 9 ∷ 1 ∷ 5 ∷ numbers 4 127 ++ (one_group ++ numbers 159 3556))
    × (state_words one ≡ 2001 ∷ 9 ∷ 1 ∷ 5 ∷ replicate 127 0 ++ (one_group ++ replicate 3556 0))
unfolding state_stored state_words state_of splice front pad group_words view_disjunct disjunct_of view_slot slot_of
one_stored = (refl, refl, refl)

-- the words of a fresh state
pub fresh_words : state_words fresh_state ≡ 2001 ∷ replicate 3714 0
unfolding state_words fresh_state state_of pad group_words view_disjunct disjunct_of view_slot slot_of
fresh_words = refl

-- the counters
pub own_tally : (tally_in (1 ∷ 2 ∷ 3 ∷ []) ≡ record { accepted = 1; refused = 2; rows = 3 })
    × (tally_words (record { accepted = 1; refused = 2; rows = 3 }) ≡ (1 ∷ 2 ∷ 3 ∷ []))
unfolding tally_in tally_words
own_tally = (refl, refl)

-- A reading of a text whose variable d stands at 5 and whose symbols a and b stand at 11 and 21: the words of its book, place 0, two positions that begin a
-- word and one that ends it. And of a text that is refused: the number and place, a book of zeros, and no counts.
pub read_left_law : (read_left (ascii "vars d\nsym a 1 d\nsym b 2 _ =9\nmatch (a | b)+ a\n")
    ≡ record {
      number = 0;
      book = 1001 ∷ 1 ∷ 2 ∷ 3 ∷ 6 ∷ 8 ∷ 0 ∷ pad 40 0 (5 ∷ 1 ∷ 11 ∷ 1 ∷ 21 ∷ 1 ∷ [])
          ++ (pad 160 0 (pad 10 0 (1 ∷ 1 ∷ 1 ∷ 0 ∷ []) ++ (2 ∷ 2 ∷ 0 ∷ 0 ∷ 2 ∷ 9 ∷ [])) ++ (pad 31 0 (0 ∷ 1 ∷ 0 ∷ []) ++ pad 31 0 (14 ∷ 14 ∷ 0 ∷ [])));
      place = 0;
      begins = 2;
      ends = 1;
    })
    × (read_left (ascii "vars d\nsym a 1 d\nmatch b\n") ≡ record { number = 5; book = replicate 269 0; place = 23; begins = 0; ends = 0 })
unfolding read_left book_words bit join meet single ones pad sound_symbol spaces_end word_end name_end next_word name_fault kind_of fixed_number want_word kind_from
    symbol_from lines_of item_of name_atom closed alternation_from pattern_from last_line match_from reading_of symbol_of table_of answer_of reading_for book_for empty_book
read_left_law = (refl, refl)

-- An event that is not accepted, by whichever check: no row, buffer and state as lent, one refused event more.
pub event_refused : (w s : List ℕ) (bytes buffer : Bytes) (place : ℕ) (t : List ℕ)
    → is_accepted (answer_to (book_in w) (state_in s) bytes buffer place) ≡ false → let l = event_left w s bytes buffer place t in
    (l.rows ≡ 0) × (l.buffer ≡ buffer) × (l.state ≡ s) × (l.tally ≡ tally_words (tallied (tally_in t) 0 1 0))
unfolding event_left taken buffer_after
event_refused w s bytes buffer place t h = rw h (refl, refl, rw h, refl)
