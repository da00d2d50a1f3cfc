-- Answer 9, the order of the checks, and a state as it is stored, by computation from the definitions alone, as Anchors of the crate calls; here,
-- where no edit computes them again.
use mathlib.Core.Path.{◌≡◌, refl}
use mathlib.Core.Bool.{Bool, true, false}
use mathlib.Core.List.{List, [], ◌∷◌, ◌++◌, map}
use Prim.Native.Nat.{ℕ, ◌-◌}
use lib.ListN.{length, replicate}
use Rattle.laws.specs.Bits.{bit, join, meet, single}
use Rattle.laws.specs.Parts.{front, splice, pad}
use Rattle.meaning.specs.Events.{matches, constraint_of}
use Rattle.meaning.specs.Book.{sound_book, sound_symbol}
use Rattle.meaning.specs.Labels.{bound, free, held_at, compare_disjuncts, skip_by, sources, step_set, skip_set, new_label, new_held}
use Rattle.meaning.specs.Room.{set_room, room}
use Rattle.meaning.specs.Rows.{rows, leaves_free}
use Rattle.meaning.specs.Sound.{sound_piece, sound_held, sound_state}
use Rattle.form.specs.Text.{Bytes, ascii}
use Rattle.form.specs.Scan.{spaces_end, word_end, name_end, next_word, name_fault, kind_of}
use Rattle.form.specs.Lines.{want_word, kind_from, symbol_from, lines_of}
use Rattle.form.specs.Parse.{item_of, name_atom, closed, alternation_from, pattern_from}
use Rattle.form.specs.Reading.{last_line, match_from, reading_of}
use Rattle.table.specs.Tables.{symbol_of, table_of, view_symbol}
use Rattle.record.specs.Records.{word_at, arguments_in, is_record, event_in}
use Rattle.table.specs.declared.Parameter.{Parameter}
use Rattle.table.specs.declared.Symbol.{Symbol}
use Rattle.table.specs.declared.Name.{Name}
use Rattle.slot.specs.declared.Slot.{Slot}
use Rattle.slot.specs.Slots.{view_slot, slot_of}
use Rattle.disjunct.specs.Disjuncts.{view_disjunct, disjunct_of}
use Rattle.book.specs.declared.Book.{Book}
use Rattle.book.specs.Books.{reading, reading_for, book_for, view_book}
use Rattle.state.specs.declared.State.{State}
use Rattle.state.specs.States.{state_of, held_first, view_state}
use Rattle.tally.specs.Tallies.{capped, tallied}
use Rattle.row.specs.RowBytes.{word_bytes, bytes_of, row_bytes}
use Rattle.sound.specs.Soundness.{symbol_counts, book_counts, book_sound, slot_counts, state_counts, state_sound}
use Rattle.calls.specs.Calls.{fresh_state, rows_by, state_by, leaves_free_by, room_by, unsound, out_of_form, too_many, no_room, no_space}
use Rattle.calls.specs.Calls.{answer_to, taken, buffer_after}
use Rattle.calls.specs.Answers.{number_of, place_of}
use Rattle.calls.specs.declared.EventAnswer.{EventAnswer}
use Rattle.calls.specs.Runs.{make}
use Rattle.calls.specs.Witness.{load}
use Rattle.calls.proofs.Anchors.{lending, one, full, two}

-- Answer 9, and "Events: 9 to 13 in that order". The book `one` with other names, another symbol table, another number of variables.
abbrev altered : Book → (variables : ℕ) → List Name → List Symbol → Book
altered b v ns ys =
    record {
      variables = v;
      symbols = b.symbols;
      names = ns;
      table = ys;
      positions = b.positions;
      occurrences = b.occurrences;
      begins = b.begins;
      ends = b.ends;
      follows = b.follows;
      empty = b.empty;
    }

abbrev named : (first second : Name) → Book
named x y = altered one 1 (x ∷ y ∷ replicate 18 (record { start = 0; size = 0 })) one.table

abbrev at : (start size : ℕ) → Name
at p n = record { start = p; size = n }

abbrev tagged : ℕ → Book
tagged t =
    altered one 1 one.names
    (replicate 16 (record { kind = 1; count = 1; parameters = replicate 4 (record { tag = t; number = 0 }) }))

-- `sym a 1`, `match a`, and a variable that it does not bind
abbrev unbound : Book
unbound = let b = (reading (ascii "vars\nsym a 1\nmatch a\n")).book in altered b 1 b.names b.table

abbrev idle : ℕ → State
idle n = state_of (record { number = n; held = [] })

-- one disjunct held whose first variable is as told
abbrev holding : Slot → State
holding x =
    record {
      number = 1;
      count = 1;
      positions = 1 ∷ replicate 127 0;
      pool = replicate 128 (record { vars = x ∷ replicate 3 (slot_of (free [])) });
    }

abbrev slot : (counted : ℕ) → Slot
slot n = record { bound = true; value = 1; count = n; excluded = replicate 6 0 }

abbrev loose : (counted : ℕ) → Slot
loose n = record { bound = false; value = 0; count = n; excluded = 1 ∷ 2 ∷ 3 ∷ 4 ∷ 5 ∷ 6 ∷ [] }

abbrev number : Book → State → Bytes → ℕ
number b s bytes = number_of (make b s (lending bytes 0 1)).taken.answer

abbrev other : Bytes
other = 9 ∷ replicate 19 0

-- 13 where all is sound (the buffer is too short); 9 for the place of a variable's and of a symbol's name, for a tag, for exclusions at a bound
-- variable, for a seventh that is counted, for a row that would leave a variable free; 9 before 10, 10 before 11, 11 before 12
abbrev NineFirst : Type 0
NineFirst =
    map (λ b. number b (idle 0) other)
    (named (at 4095 1) (at 0 12) ∷ named (at 4096 1) (at 0 12) ∷ named (at 4095 1) (at 4096 1) ∷ tagged 1 ∷ tagged 2 ∷ tagged 3 ∷ [])
    ++ (map (λ s. number one s other) (holding (slot 0) ∷ holding (slot 1) ∷ holding (loose 6) ∷ holding (loose 7) ∷ [])
    ++ (number unbound (idle 0) (1 ∷ replicate 19 0) ∷ number unbound (idle 1000000) (1 ∷ replicate 19 0)
    ∷ number unbound (idle 0) (1 ∷ 0 ∷ 1 ∷ replicate 17 0) ∷ number one (idle 1000001) [] ∷ number one (idle 1000000) []
    ∷ number two (state_of (record { number = 1000000; held = held_at 1 (bound 1 ∷ free (1 ∷ 2 ∷ 3 ∷ 4 ∷ 5 ∷ 6 ∷ []) ∷ []) ∷ [] })) (load 1 7) ∷ []))
    ≡ (13 ∷ 9 ∷ 9 ∷ 13 ∷ 13 ∷ 9 ∷ []) ++ ((13 ∷ 9 ∷ 13 ∷ 9 ∷ []) ++ (9 ∷ 9 ∷ 10 ∷ 9 ∷ 10 ∷ 11 ∷ []))

-- What no count reaches is not judged: names, symbols and positions beyond the book's, a symbol's parameters beyond its own, places of the pool that
-- are not taken, variables beyond the book's, exclusions that are not counted, the value of a free variable. A count beyond its array is 9: 17
-- symbols, 32 positions, 129 disjuncts.
abbrev wild : ℕ → List Parameter
wild n = replicate n (record { tag = 7; number = 77 })

abbrev counted : (symbols positions : ℕ) → List Name → List Symbol → List ℕ → List ℕ → Book
counted y p ns ys os fs =
    record { variables = 1; symbols = y; names = ns; table = ys; positions = p; occurrences = os; begins = 2; ends = 4; follows = fs; empty = false }

abbrev spare : Book
spare =
    counted 1 2 (at 5 1 ∷ at 11 1 ∷ replicate 18 (at 9999 9999))
    (record { kind = 1; count = 1; parameters = record { tag = 1; number = 0 } ∷ wild 3 }
    ∷ replicate 15 (record { kind = 999; count = 9; parameters = wild 4 }))
    (0 ∷ 0 ∷ replicate 29 99) (4 ∷ 0 ∷ replicate 29 1)

abbrev filled : (symbols positions : ℕ) → Book
filled y p =
    counted y p (replicate 20 (at 0 1)) (replicate 16 (record { kind = 1; count = 1; parameters = replicate 4 (record { tag = 1; number = 0 }) }))
    (replicate 31 0) (4 ∷ replicate 30 0)

abbrev unusable : Slot
unusable = record { bound = true; value = 77; count = 9; excluded = replicate 6 9 }

abbrev spare_state : State
spare_state =
    record {
      number = 1;
      count = 1;
      positions = 1 ∷ replicate 127 99;
      pool = record { vars = record { bound = false; value = 77; count = 2; excluded = 3 ∷ 8 ∷ replicate 4 1 } ∷ replicate 3 unusable }
          ∷ replicate 127 (record { vars = replicate 4 unusable });
    }

abbrev holds_many : (counted : ℕ) → State
holds_many n = record { number = 1; count = n; positions = full.positions; pool = full.pool }

abbrev CountedOnly : Type 0
CountedOnly =
    number spare spare_state other ∷ number (filled 16 31) (idle 0) other ∷ number (filled 17 31) (idle 0) other ∷ number (filled 16 32) (idle 0) other
    ∷ number one (holds_many 128) other ∷ number one (holds_many 129) other ∷ []
    ≡ 13 ∷ 13 ∷ 9 ∷ 9 ∷ 13 ∷ 9 ∷ []

-- 13 where all is sound, 9 where one number of the structs is out of its range: the views hide nothing
abbrev struct : (variables symbols : ℕ) → List Name → List Symbol → (positions : ℕ) → List ℕ → (begins ends : ℕ) → List ℕ → Bool → Book
struct v y ns ys p os b e fs x =
    record { variables = v; symbols = y; names = ns; table = ys; positions = p; occurrences = os; begins = b; ends = e; follows = fs; empty = x }

abbrev inside : List Name
inside = replicate 20 (at 0 1)

abbrev parameter : (tag number : ℕ) → Parameter
parameter t n = record { tag = t; number = n }

abbrev symbols : (kind tag number : ℕ) → List Symbol
symbols k t n = replicate 16 (record { kind = k; count = 1; parameters = parameter t n ∷ replicate 3 (parameter 0 0) })

-- `vars d`, `sym a 1 d`, `match a a` with another pattern
abbrev patterned : (positions : ℕ) → List ℕ → (begins ends : ℕ) → List ℕ → Bool → Book
patterned p os b e fs x = struct 1 1 inside (symbols 1 1 0) p (os ++ replicate 29 0) b e (fs ++ replicate 29 0) x

abbrev declaring : (variables symbols kind tag number : ℕ) → Book
declaring v y k t n = struct v y inside (symbols k t n) 2 (replicate 31 0) 2 4 (4 ∷ replicate 30 0) false

-- a name as long as a text, and any number beside an ignored parameter
abbrev long_named : Book
long_named = struct 1 1 (at 0 13 ∷ at 0 4096 ∷ replicate 18 (at 0 0)) (symbols 1 0 77) 2 (replicate 31 0) 2 4 (4 ∷ replicate 30 0) false

abbrev StructBooks : Type 0
StructBooks =
    map (λ b. number b (idle 0) other)
    (declaring 1 1 1 1 0 ∷ declaring 1 1 1 2 4294967295 ∷ long_named ∷ declaring 4 16 255 1 3 ∷ patterned 2 (0 ∷ 0 ∷ []) 0 0 (0 ∷ 0 ∷ []) false
    ∷ declaring 5 1 1 1 0 ∷ declaring 1 0 1 1 0 ∷ declaring 1 1 0 1 0 ∷ declaring 1 1 256 1 0 ∷ declaring 1 1 1 1 1 ∷ declaring 1 1 1 3 0
    ∷ patterned 0 (0 ∷ 0 ∷ []) 0 0 (0 ∷ 0 ∷ []) false ∷ patterned 2 (0 ∷ 1 ∷ []) 2 4 (4 ∷ 0 ∷ []) false ∷ patterned 2 (0 ∷ 0 ∷ []) 3 4 (4 ∷ 0 ∷ []) false
    ∷ patterned 2 (0 ∷ 0 ∷ []) 10 4 (4 ∷ 0 ∷ []) false ∷ patterned 2 (0 ∷ 0 ∷ []) 2 5 (4 ∷ 0 ∷ []) false ∷ patterned 2 (0 ∷ 0 ∷ []) 2 12 (4 ∷ 0 ∷ []) false
    ∷ patterned 2 (0 ∷ 0 ∷ []) 2 4 (5 ∷ 0 ∷ []) false ∷ patterned 2 (0 ∷ 0 ∷ []) 2 4 (4 ∷ 8 ∷ []) false ∷ patterned 2 (0 ∷ 0 ∷ []) 2 4 (4 ∷ 0 ∷ []) true ∷ [])
    ≡ replicate 5 13 ++ replicate 15 9

-- the same of a state: what is held, one disjunct after the other, of the book `one`
abbrev slotted : Bool → (value count : ℕ) → List ℕ → Slot
slotted b v n xs = record { bound = b; value = v; count = n; excluded = xs }

abbrev having : List ℕ → List Slot → State
having ps xs =
    record {
      number = 1;
      count = length ps;
      positions = ps ++ replicate (128 - length ps) 0;
      pool = map (λ x. record { vars = x ∷ replicate 3 (slot_of (free [])) }) xs ++ replicate (128 - length xs) (disjunct_of []);
    }

abbrev value : ℕ → Slot
value x = slotted true x 0 (replicate 6 77)

abbrev without : List ℕ → Slot
without xs = slotted false 77 (length xs) (xs ++ replicate (6 - length xs) 77)

-- held before any event
abbrev early : State
early = record { number = 0; count = 1; positions = 1 ∷ replicate 127 0; pool = (having (1 ∷ []) (value 5 ∷ [])).pool }

abbrev StructStates : Type 0
StructStates =
    map (λ s. number one s other)
    (early ∷ having (1 ∷ 1 ∷ 1 ∷ 2 ∷ []) (without [] ∷ without (7 ∷ 9 ∷ []) ∷ value 5 ∷ value 0 ∷ [])
    ∷ having (0 ∷ []) (value 5 ∷ []) ∷ having (0 ∷ 1 ∷ []) (value 5 ∷ value 6 ∷ []) ∷ having (3 ∷ []) (value 5 ∷ [])
    ∷ having (1 ∷ 1 ∷ []) (value 6 ∷ value 5 ∷ []) ∷ having (1 ∷ 1 ∷ []) (value 5 ∷ value 5 ∷ []) ∷ having (2 ∷ 1 ∷ []) (value 5 ∷ value 6 ∷ [])
    ∷ having (1 ∷ 1 ∷ 1 ∷ []) (value 5 ∷ value 7 ∷ value 6 ∷ []) ∷ having (1 ∷ []) (without (9 ∷ 7 ∷ []) ∷ []) ∷ having (1 ∷ []) (without (7 ∷ 7 ∷ []) ∷ [])
    ∷ having (1 ∷ []) (without (5 ∷ 9 ∷ 7 ∷ []) ∷ []) ∷ [])
    ≡ 13 ∷ 13 ∷ replicate 10 9

-- "9, 0" to "13, 0"
pub no_place : (a : EventAnswer) → place_of a ≡ 0
no_place a = refl

-- each symbol, each variable and each disjunct is judged, not one for all
abbrev tags : List ℕ → Book
tags ts =
    struct 1 2 inside
    (map (λ t. record { kind = 1; count = 1; parameters = parameter t 0 ∷ replicate 3 (parameter 0 0) }) ts
    ++ replicate 14 (record { kind = 1; count = 0; parameters = replicate 4 (parameter 0 0) })) 2 (replicate 31 0) 2 4 (4 ∷ replicate 30 0) false

abbrev having_two : List (List Slot) → State
having_two xs =
    record {
      number = 1;
      count = length xs;
      positions = replicate 128 1;
      pool = map (λ x. record { vars = x ++ replicate 2 (slot_of (free [])) }) xs ++ replicate (128 - length xs) (disjunct_of []);
    }

abbrev EachJudged : Type 0
EachJudged =
    map (λ b. number b (idle 0) other) (tags (0 ∷ 1 ∷ []) ∷ tags (2 ∷ 1 ∷ []) ∷ tags (3 ∷ 1 ∷ []) ∷ tags (1 ∷ 3 ∷ []) ∷ [])
    ++ map (λ s. number two s other)
    (having_two ((value 5 ∷ value 6 ∷ []) ∷ (value 5 ∷ value 7 ∷ []) ∷ [])
    ∷ having_two ((value 5 ∷ slotted true 6 1 (replicate 6 0) ∷ []) ∷ []) ∷ having_two ((slotted true 5 1 (replicate 6 0) ∷ value 6 ∷ []) ∷ [])
    ∷ having_two ((value 5 ∷ value 6 ∷ []) ∷ (value 5 ∷ slotted true 7 1 (replicate 6 0) ∷ []) ∷ [])
    ∷ having_two ((value 5 ∷ slotted false 0 7 (1 ∷ 2 ∷ 3 ∷ 4 ∷ 5 ∷ 6 ∷ []) ∷ []) ∷ []) ∷ [])
    ≡ (13 ∷ 13 ∷ 9 ∷ 9 ∷ []) ++ (13 ∷ 9 ∷ 9 ∷ 9 ∷ 9 ∷ [])

-- "Held disjuncts stand by position, …": what is held stands in the first places of the pool, in its order; every number of the struct
pub stored : state_of (record { number = 3; held = held_at 1 (free (7 ∷ 8 ∷ []) ∷ bound 6 ∷ []) ∷ held_at 2 (bound 5 ∷ free [] ∷ []) ∷ [] })
    ≡ record {
      number = 3;
      count = 2;
      positions = 1 ∷ 2 ∷ replicate 126 0;
      pool = record { vars = slotted false 0 2 (7 ∷ 8 ∷ replicate 4 0) ∷ slotted true 6 0 (replicate 6 0) ∷ replicate 2 (slotted false 0 0 (replicate 6 0)) }
          ∷ record { vars = slotted true 5 0 (replicate 6 0) ∷ replicate 3 (slotted false 0 0 (replicate 6 0)) }
          ∷ replicate 126 (record { vars = replicate 4 (slotted false 0 0 (replicate 6 0)) });
    }
unfolding state_of pad disjunct_of slot_of
stored = refl

-- 9 before all else, with more than one thing wrong: an unsound book with a record out of form and with 1,000,000 events, an unsound disjunct with
-- 1,000,000 events, one at a position that nothing follows, and a row that would leave a variable free where there is no room either
abbrev crowded : Book
crowded =
    struct 1 2 inside
    (record { kind = 1; count = 1; parameters = parameter 1 0 ∷ replicate 3 (parameter 0 0) }
    ∷ record { kind = 1; count = 1; parameters = replicate 4 (parameter 0 0) }
    ∷ replicate 14 (record { kind = 0; count = 0; parameters = replicate 4 (parameter 0 0) })) 2 (1 ∷ replicate 30 0) 2 2 (4 ∷ replicate 30 0) false

abbrev tired : State
tired = record { number = 1000000; count = 1; positions = 1 ∷ replicate 127 0; pool = (having (1 ∷ []) (without (9 ∷ 7 ∷ []) ∷ [])).pool }

abbrev NineBefore : Type 0
NineBefore =
    number (declaring 5 1 1 1 0) (idle 0) [] ∷ number (declaring 5 1 1 1 0) (idle 1000000) other ∷ number one tired other ∷ number one tired []
    ∷ number one (having (2 ∷ []) (without (9 ∷ 7 ∷ []) ∷ [])) other ∷ number one (having (2 ∷ []) (slotted true 5 1 (replicate 6 0) ∷ [])) other
    ∷ number crowded (having (1 ∷ []) (without (1 ∷ 2 ∷ 3 ∷ 4 ∷ 5 ∷ 6 ∷ []) ∷ [])) (1 ∷ 1 ∷ 0 ∷ 0 ∷ 7 ∷ replicate 15 0) ∷ []
    ≡ replicate 7 9

-- the state that an accepted event leaves, every number of it: what no count reaches is zero or free, whatever the state that came had there, and
-- where a disjunct has ended. The state `spare_state` of `one` after another event, and B1 after load(1,7), clean(1).
abbrev leaves : Book → State → Bytes → State
leaves b s bytes = (make b s (lending bytes 0 0)).taken.state

abbrev free_slots : ℕ → List Slot
free_slots n = replicate n (slotted false 0 0 (replicate 6 0))

abbrev LeftWhole : Type 0
LeftWhole =
    (leaves spare spare_state other
    ≡ record {
      number = 2;
      count = 1;
      positions = 1 ∷ replicate 127 0;
      pool = record { vars = slotted false 0 2 (3 ∷ 8 ∷ replicate 4 0) ∷ free_slots 3 } ∷ replicate 127 (record { vars = free_slots 4 });
    })
    × (let b1 = (reading (ascii "vars d s\nsym load 1 d s\nsym drop 2 d\nsym clean 3 d\nmatch load drop+\n")).book in
    leaves b1 (leaves b1 fresh_state (load 1 7)) (3 ∷ 1 ∷ 0 ∷ 0 ∷ 1 ∷ replicate 15 0)
    ≡ record { number = 2; count = 0; positions = replicate 128 0; pool = replicate 128 (record { vars = free_slots 4 }) })

-- the place of each declared name is judged, "variables from 0, then symbols", and of no other: two variables, three symbols
abbrev misplaced : (at : ℕ) → Book
misplaced i =
    struct 2 3 (replicate i (at 0 1) ++ (at 4096 1 ∷ replicate (19 - i) (at 0 1))) (symbols 1 1 0) 2 (replicate 31 0) 2 4 (4 ∷ replicate 30 0) false

abbrev EachName : Type 0
EachName =
    map (λ i. number (misplaced i) (idle 0) other) (0 ∷ 1 ∷ 2 ∷ 3 ∷ 4 ∷ 5 ∷ []) ≡ replicate 5 9 ++ (13 ∷ [])

pub refusals : NineFirst × CountedOnly × StructBooks × StructStates × EachJudged × NineBefore × LeftWhole × EachName
unfolding bit join meet single pad matches constraint_of sound_book sound_symbol compare_disjuncts skip_by sources step_set skip_set new_label new_held
    set_room room rows leaves_free sound_piece sound_held sound_state spaces_end word_end name_end next_word name_fault kind_of want_word kind_from symbol_from
    lines_of item_of name_atom closed alternation_from pattern_from last_line match_from reading_of symbol_of table_of view_symbol word_at arguments_in is_record
    event_in view_slot slot_of view_disjunct disjunct_of reading_for book_for view_book state_of held_first view_state symbol_counts book_counts book_sound
    slot_counts state_counts state_sound fresh_state rows_by state_by leaves_free_by room_by unsound out_of_form too_many no_room no_space answer_to taken make
    buffer_after row_bytes bytes_of word_bytes splice front tallied capped
refusals = (refl, refl, refl, refl, refl, refl, (refl, refl), refl)
