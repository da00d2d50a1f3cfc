-- What the definitions of the crate meaning compute at their limits: all new labels with 128 disjuncts and one more (`full_room`), sound
-- books and states from both sides of each limit (`sound_books`, `sound_states`). Here and not there, since an edit of meaning would compute them
-- again each time.
use mathlib.Core.Path.{◌≡◌, refl}
use mathlib.Core.Bool.{Bool, true, false}
use mathlib.Core.List.{List, [], ◌∷◌, ◌++◌, map}
use Prim.Native.Nat.{ℕ, ◌-◌, ◌^◌}
use lib.ListN.{length, replicate}
use Rattle.laws.specs.Bits.{bit}
use Rattle.laws.specs.Lists.{numbers}
use Rattle.meaning.specs.Events.{Parameter, ignored, names, Symbol, matches, constraint_of}
use Rattle.meaning.specs.Book.{Book, sound_symbol, sound_book}
use Rattle.meaning.specs.Labels.{bound, free, Held, held_at, State, compare_disjuncts, skip_by, sources, step_set, skip_set, new_label, new_held}
use Rattle.meaning.specs.Room.{set_room, room}
use Rattle.meaning.specs.Rows.{rows, leaves_free}
use Rattle.meaning.specs.Sound.{sound_piece, sound_held, sound_state}

abbrev book : ℕ → List Symbol → List ℕ → (begins ends : ℕ) → List ℕ → Bool → Book
book v ss os b e fs x = record { variables = v; symbols = ss; occurrences = os; begins = b; ends = e; follows = fs; empty = x }

abbrev symbol : ℕ → List Parameter → Symbol
symbol k ps = record { kind = k; parameters = ps }

abbrev state : ℕ → List Held → State
state n h = record { number = n; held = h }

-- "or all new labels together exceed 128": `vars d`, a 1 d, `match a a` with 127 and with 128 disjuncts held, and one more to come
abbrev pairs : Book
pairs = book 1 (symbol 1 (names 0 ∷ []) ∷ []) (0 ∷ 0 ∷ []) 2 4 (4 ∷ 0 ∷ []) false

abbrev many : ℕ → List Held
many n = map (λ x. held_at 1 (bound x ∷ [])) (numbers 0 n)

pub full_room : (room pairs (many 127) (record { kind = 1; args = 900 ∷ [] }) ≡ true)
    × (room pairs (many 128) (record { kind = 1; args = 900 ∷ [] }) ≡ false)
unfolding bit matches constraint_of compare_disjuncts skip_by sources step_set skip_set new_label new_held set_room room
full_room = (refl, refl)

-- "Sound means: …" of a book: the first is sound, and so are the second, with all at its limit, and the third; of each other one number is
-- out of its range
pub sound_books : map sound_book
    (pairs
    ∷ book 4 (replicate 16 (symbol 255 (names 3 ∷ ignored ∷ names 0 ∷ names 3 ∷ []))) (replicate 31 15) (2 ^ 32 - 2) (2 ^ 32 - 2)
    (replicate 31 (2 ^ 32 - 2)) false
    ∷ book 0 (symbol 1 [] ∷ []) (0 ∷ []) 2 2 (0 ∷ []) false
    ∷ book 5 (symbol 1 (names 0 ∷ []) ∷ []) (0 ∷ 0 ∷ []) 2 4 (4 ∷ 0 ∷ []) false
    ∷ book 1 [] [] 2 4 [] false
    ∷ book 1 (replicate 17 (symbol 1 (names 0 ∷ []))) (0 ∷ 0 ∷ []) 2 4 (4 ∷ 0 ∷ []) false
    ∷ book 1 (symbol 0 (names 0 ∷ []) ∷ []) (0 ∷ 0 ∷ []) 2 4 (4 ∷ 0 ∷ []) false
    ∷ book 1 (symbol 256 (names 0 ∷ []) ∷ []) (0 ∷ 0 ∷ []) 2 4 (4 ∷ 0 ∷ []) false
    ∷ book 1 (symbol 1 (replicate 5 ignored) ∷ []) (0 ∷ 0 ∷ []) 2 4 (4 ∷ 0 ∷ []) false
    ∷ book 1 (symbol 1 (names 1 ∷ []) ∷ []) (0 ∷ 0 ∷ []) 2 4 (4 ∷ 0 ∷ []) false
    ∷ book 1 (symbol 1 (names 0 ∷ []) ∷ []) [] 0 0 [] false
    ∷ book 1 (symbol 1 (names 0 ∷ []) ∷ []) (replicate 32 0) 2 4 (replicate 32 0) false
    ∷ book 1 (symbol 1 (names 0 ∷ []) ∷ []) (0 ∷ 1 ∷ []) 2 4 (4 ∷ 0 ∷ []) false
    ∷ book 1 (symbol 1 (names 0 ∷ []) ∷ []) (0 ∷ 0 ∷ []) 3 4 (4 ∷ 0 ∷ []) false
    ∷ book 1 (symbol 1 (names 0 ∷ []) ∷ []) (0 ∷ 0 ∷ []) 2 8 (4 ∷ 0 ∷ []) false
    ∷ book 1 (symbol 1 (names 0 ∷ []) ∷ []) (0 ∷ 0 ∷ []) 2 4 (4 ∷ 1 ∷ []) false
    ∷ book 1 (symbol 1 (names 0 ∷ []) ∷ []) (0 ∷ 0 ∷ []) 2 4 (4 ∷ 0 ∷ []) true
    ∷ [])
    ≡ true ∷ true ∷ true ∷ replicate 14 false
unfolding bit sound_book sound_symbol
sound_books = refl

-- the same of a state
pub sound_states : map (sound_state pairs)
    (state 0 []
    ∷ state 1000000
    (held_at 1 (free [] ∷ []) ∷ held_at 1 (free (1 ∷ 2 ∷ 3 ∷ 4 ∷ 5 ∷ 6 ∷ []) ∷ []) ∷ held_at 1 (bound (2 ^ 32 - 1) ∷ []) ∷ held_at 2 (bound 0 ∷ []) ∷ [])
    ∷ state 1000001 []
    ∷ state 1 (held_at 0 (bound 1 ∷ []) ∷ [])
    ∷ state 1 (held_at 3 (bound 1 ∷ []) ∷ [])
    ∷ state 1 (held_at 1 [] ∷ [])
    ∷ state 1 (held_at 1 (bound (2 ^ 32) ∷ []) ∷ [])
    ∷ state 1 (held_at 1 (free (1 ∷ 2 ∷ 3 ∷ 4 ∷ 5 ∷ 6 ∷ 7 ∷ []) ∷ []) ∷ [])
    ∷ state 1 (held_at 1 (free (8 ∷ 7 ∷ []) ∷ []) ∷ [])
    ∷ state 1 (held_at 1 (free (7 ∷ 7 ∷ []) ∷ []) ∷ [])
    ∷ state 1 (held_at 1 (free (2 ^ 32 ∷ []) ∷ []) ∷ [])
    ∷ state 1 (held_at 1 (bound 1 ∷ []) ∷ held_at 1 (bound 1 ∷ []) ∷ [])
    ∷ state 1 (held_at 2 (bound 1 ∷ []) ∷ held_at 1 (bound 1 ∷ []) ∷ [])
    ∷ state 1 (held_at 1 (bound 2 ∷ []) ∷ held_at 1 (bound 1 ∷ []) ∷ [])
    ∷ state 1 (held_at 1 (free (7 ∷ []) ∷ []) ∷ held_at 1 (free [] ∷ []) ∷ [])
    ∷ state 1 (many 129)
    ∷ [])
    ≡ true ∷ true ∷ replicate 14 false
unfolding sound_state sound_held sound_piece compare_disjuncts
sound_states = refl

-- each of two variables is judged
pub sound_entries : map (λ D. sound_piece (book 2 [] (0 ∷ []) 0 0 [] false) (held_at 1 D))
    ((bound 1 ∷ free (7 ∷ 8 ∷ []) ∷ []) ∷ (bound 1 ∷ free (8 ∷ 7 ∷ []) ∷ []) ∷ (free (8 ∷ 7 ∷ []) ∷ bound 1 ∷ []) ∷ [])
    ≡ true ∷ false ∷ false ∷ []
unfolding sound_piece
sound_entries = refl

-- each of four variables is judged
pub sound_four : map (λ D. sound_piece (book 4 [] (0 ∷ []) 0 0 [] false) (held_at 1 D))
    ((bound 1 ∷ bound 1 ∷ free (7 ∷ 8 ∷ []) ∷ free [] ∷ []) ∷ (bound 1 ∷ bound 1 ∷ free (8 ∷ 7 ∷ []) ∷ free [] ∷ [])
    ∷ (bound 1 ∷ bound 1 ∷ free [] ∷ free (7 ∷ 7 ∷ []) ∷ []) ∷ [])
    ≡ true ∷ false ∷ false ∷ []
unfolding sound_piece
sound_four = refl

-- a state is judged also where the book has no variables
pub sound_none : map (sound_state (book 0 (symbol 1 [] ∷ []) (0 ∷ 0 ∷ []) 2 4 (4 ∷ 0 ∷ []) false))
    (state 1 (held_at 1 [] ∷ held_at 2 [] ∷ []) ∷ state 1 (held_at 1 [] ∷ held_at 1 [] ∷ []) ∷ state 1 (held_at 2 [] ∷ held_at 1 [] ∷ [])
    ∷ state 1 (held_at 0 [] ∷ []) ∷ state 1 (held_at 3 [] ∷ []) ∷ state 1000001 [] ∷ [])
    ≡ true ∷ replicate 5 false
unfolding sound_state sound_held sound_piece compare_disjuncts
sound_none = refl

-- "No room, exactly", at 128: one disjunct ends and one comes; a step set of 128; 129 meetings that are one disjunct; 129 exclusions that are 86
-- disjuncts; four exclusions at each of two variables. Then: a step set of 129, and a seventh exclusion, at a position that nothing follows.
abbrev two : ℕ → List Symbol → Book
two b ss = book 2 ss (0 ∷ 1 ∷ []) b 4 (4 ∷ 0 ∷ []) false

abbrev apart : List Symbol
apart = symbol 1 (names 0 ∷ []) ∷ symbol 2 (names 1 ∷ []) ∷ []

abbrev both : List Symbol
both = symbol 1 (names 0 ∷ names 1 ∷ []) ∷ symbol 1 (names 0 ∷ names 1 ∷ []) ∷ []

-- the second symbol ends all that the first leaves
abbrev ended : Book
ended = book 2 (symbol 1 (names 0 ∷ names 1 ∷ []) ∷ symbol 1 (ignored ∷ ignored ∷ []) ∷ []) (0 ∷ 0 ∷ []) 4 4 (4 ∷ 0 ∷ []) false

abbrev load_drop : List Symbol
load_drop = symbol 1 (names 0 ∷ names 1 ∷ []) ∷ symbol 2 (names 0 ∷ []) ∷ []

pub exact_room :
    (room pairs (many 128) (record { kind = 1; args = 5 ∷ [] }) ≡ true)
    × (room (two 2 load_drop) (map (λ x. held_at 1 (bound 1 ∷ bound x ∷ [])) (numbers 0 128)) (record { kind = 2; args = 1 ∷ [] }) ≡ true)
    × (room (book 1 (symbol 1 (names 0 ∷ []) ∷ []) (0 ∷ 0 ∷ []) 4 4 (4 ∷ 0 ∷ []) false) (map (λ x. held_at 1 (free (x ∷ []) ∷ [])) (numbers 0 128))
    (record { kind = 1; args = 900 ∷ [] }) ≡ true)
    × (room (book 2 (symbol 1 (names 0 ∷ names 1 ∷ []) ∷ []) (0 ∷ 0 ∷ []) 4 4 (4 ∷ 0 ∷ []) false)
    (map (λ x. held_at 1 (free [] ∷ free (x ∷ []) ∷ [])) (numbers 10 43) ++ map (λ x. held_at 1 (free (1 ∷ []) ∷ free (x ∷ []) ∷ [])) (numbers 10 43))
    (record { kind = 1; args = 1 ∷ 900 ∷ [] }) ≡ true)
    × (room (two 2 apart) (held_at 1 (free (1 ∷ 2 ∷ 3 ∷ 4 ∷ []) ∷ free (5 ∷ 6 ∷ 7 ∷ 8 ∷ []) ∷ []) ∷ []) (record { kind = 9; args = [] }) ≡ true)
    × (room (two 4 apart) (map (λ x. held_at 1 (bound x ∷ free [] ∷ [])) (numbers 0 128)) (record { kind = 2; args = 900 ∷ [] }) ≡ false)
    × (room pairs (held_at 2 (free (1 ∷ 2 ∷ 3 ∷ 4 ∷ 5 ∷ 6 ∷ []) ∷ []) ∷ []) (record { kind = 1; args = 7 ∷ [] }) ≡ false)
    × (room ended (map (λ x. held_at 1 (free [] ∷ free (x ∷ []) ∷ [])) (numbers 10 64)) (record { kind = 1; args = 1 ∷ 900 ∷ [] }) ≡ true)
    × (room ended (map (λ x. held_at 1 (free [] ∷ free (x ∷ []) ∷ [])) (numbers 10 65)) (record { kind = 1; args = 1 ∷ 900 ∷ [] }) ≡ false)
unfolding bit matches constraint_of compare_disjuncts skip_by sources step_set skip_set new_label new_held set_room room
exact_room = (refl, refl, refl, refl, refl, refl, refl, refl, refl)

-- "some step set, or some skip set after one of its symbols": each set by itself, and no more than these; each of two step sets of 65 (130 rows
-- in all), of two skip sets of 66, has room. "Places of disjuncts that end are used again", also where a later position's end: 127 end at
-- the second position while one comes at the first.
abbrev fork : Book
fork =
    book 2 (symbol 1 (names 0 ∷ []) ∷ symbol 2 (names 1 ∷ ignored ∷ []) ∷ symbol 2 (ignored ∷ names 1 ∷ []) ∷ []) (0 ∷ 1 ∷ 2 ∷ []) 2 12
    (12 ∷ 0 ∷ 0 ∷ []) false

abbrev twice : Book
twice = book 2 (symbol 1 (names 0 ∷ names 1 ∷ []) ∷ symbol 1 (ignored ∷ ignored ∷ []) ∷ []) (0 ∷ 0 ∷ 0 ∷ []) 8 8 (8 ∷ 8 ∷ 0 ∷ []) false

abbrev row_on : Book
row_on = book 2 (symbol 2 (names 0 ∷ []) ∷ symbol 1 (names 0 ∷ names 1 ∷ []) ∷ []) (0 ∷ 1 ∷ 1 ∷ []) 2 8 (4 ∷ 8 ∷ 0 ∷ []) false

abbrev loose : ℕ → List Held
loose p = map (λ x. held_at p (free [] ∷ free (x ∷ []) ∷ [])) (numbers 10 33)

-- "through all symbols in declaration order", also where the first is one that the pattern does not name: it ends what the second would give a
-- seventh exclusion
abbrev unnamed_first : Book
unnamed_first = book 1 (symbol 2 (ignored ∷ []) ∷ symbol 2 (names 0 ∷ []) ∷ []) (1 ∷ 1 ∷ []) 2 4 (4 ∷ 0 ∷ []) false

pub each_set :
    (room fork (map (λ x. held_at 1 (bound x ∷ free [] ∷ [])) (numbers 0 65)) (record { kind = 2; args = 7 ∷ 8 ∷ [] }) ≡ true)
    × (length (rows fork (map (λ x. held_at 1 (bound x ∷ free [] ∷ [])) (numbers 0 65)) (record { kind = 2; args = 7 ∷ 8 ∷ [] })) ≡ 130)
    × (room twice (loose 1 ++ loose 2) (record { kind = 1; args = 1 ∷ 900 ∷ [] }) ≡ true)
    × (room row_on (held_at 1 (bound 5 ∷ free [] ∷ []) ∷ map (λ x. held_at 2 (bound 1 ∷ bound x ∷ [])) (numbers 0 127))
    (record { kind = 2; args = 1 ∷ [] }) ≡ true)
    × (room unnamed_first (held_at 1 (free (1 ∷ 2 ∷ 3 ∷ 4 ∷ 5 ∷ 6 ∷ []) ∷ []) ∷ []) (record { kind = 2; args = 7 ∷ [] }) ≡ true)
unfolding bit matches constraint_of compare_disjuncts skip_by sources step_set skip_set new_label new_held set_room room rows
each_set = (refl, refl, refl, refl, refl)

-- "a row that would leave a variable free": by any of the variables, with exclusions or without, from a held disjunct and from the start, at an
-- ending position; not where all are bound, and not at a position that ends no word
-- of two ending positions one leaves s free
abbrev one_of : Book
one_of =
    book 2 (symbol 1 (names 0 ∷ []) ∷ symbol 2 (names 1 ∷ []) ∷ symbol 2 (ignored ∷ []) ∷ []) (0 ∷ 1 ∷ 2 ∷ []) 2 12 (12 ∷ 0 ∷ 0 ∷ []) false

pub left_free_law : map (λ h. leaves_free (two 2 apart) h (record { kind = 2; args = 4 ∷ [] }))
    ((held_at 1 (bound 3 ∷ free [] ∷ []) ∷ [])
    ∷ (held_at 1 (free (1 ∷ []) ∷ bound 4 ∷ []) ∷ [])
    ∷ (held_at 1 (bound 3 ∷ bound 4 ∷ []) ∷ held_at 1 (free [] ∷ free [] ∷ []) ∷ [])
    ∷ [])
    ++ (leaves_free (two 4 apart) [] (record { kind = 2; args = 4 ∷ [] }) ∷ leaves_free (two 2 (symbol 1 (names 0 ∷ []) ∷ symbol 2 (names 0 ∷ []) ∷ []))
    (held_at 1 (bound 4 ∷ free (2 ∷ []) ∷ []) ∷ []) (record { kind = 2; args = 4 ∷ [] }) ∷ leaves_free (two 2 apart) [] (record { kind = 1; args = 4 ∷ [] })
    ∷ leaves_free one_of (held_at 1 (bound 3 ∷ free [] ∷ []) ∷ []) (record { kind = 2; args = 4 ∷ [] }) ∷ [])
    ≡ false ∷ true ∷ true ∷ true ∷ true ∷ false ∷ true ∷ []
unfolding bit matches constraint_of sources leaves_free
left_free_law = refl

-- "A position that nothing follows keeps none", whatever a state holds there
pub none_kept : new_held pairs (held_at 1 (bound 4 ∷ []) ∷ held_at 2 (bound 3 ∷ []) ∷ []) (record { kind = 1; args = 5 ∷ [] })
    ≡ held_at 1 (bound 4 ∷ []) ∷ held_at 1 (bound 5 ∷ []) ∷ []
unfolding bit matches constraint_of compare_disjuncts skip_by sources step_set skip_set new_label new_held
none_kept = refl

-- no more is asked of a book or a state than the list after "Sound means"
pub no_more : (sound_book (book 1 (symbol 1 [] ∷ []) (0 ∷ []) 0 0 (0 ∷ []) false) ≡ true) × (sound_state pairs (state 0 (held_at 2 (bound 3 ∷ []) ∷ [])) ≡ true)
unfolding bit sound_book sound_symbol sound_state sound_held sound_piece compare_disjuncts
no_more = (refl, refl)

-- "No room, exactly", and no more: the start has no skip set (the free disjunct taken through these four symbols would be 256 disjuncts), and a
-- position that nothing follows, with a step set of 64 and a skip set of 128, has no label in which they are joined
abbrev turning : Book
turning =
    book 4
    (symbol 1 (names 0 ∷ names 1 ∷ names 2 ∷ names 3 ∷ []) ∷ symbol 1 (names 1 ∷ names 2 ∷ names 3 ∷ names 0 ∷ [])
    ∷ symbol 1 (names 2 ∷ names 3 ∷ names 0 ∷ names 1 ∷ []) ∷ symbol 1 (names 3 ∷ names 0 ∷ names 1 ∷ names 2 ∷ []) ∷ [])
    (0 ∷ 0 ∷ []) 2 4 (4 ∷ 0 ∷ []) false

abbrev last_joined : Book
last_joined = book 2 (symbol 1 (names 0 ∷ names 1 ∷ []) ∷ symbol 1 (ignored ∷ names 1 ∷ []) ∷ []) (0 ∷ 1 ∷ []) 2 4 (4 ∷ 0 ∷ []) false

pub no_other_room :
    (room turning [] (record { kind = 1; args = 1 ∷ 2 ∷ 3 ∷ 4 ∷ [] }) ≡ true)
    × (room last_joined
    (map (λ x. held_at 1 (bound x ∷ free [] ∷ [])) (numbers 2 64) ++ map (λ x. held_at 2 (free [] ∷ free (x ∷ []) ∷ [])) (numbers 10 64))
    (record { kind = 1; args = 1 ∷ 900 ∷ [] }) ≡ true)
unfolding bit matches constraint_of compare_disjuncts skip_by sources step_set skip_set new_label new_held set_room room
no_other_room = (refl, refl)

-- "some step set, or some skip set after one of its symbols", of every position: also of one that nothing follows and at which no word ends, where
-- a step set of 129 and a seventh exclusion have no room; and a skip set of 130, not one of 128, at a position that nothing follows. A step set is not
-- counted with the skip sets on the way: 1 and 128 at a position that goes on; nor are the new labels of other positions: 1 at the first, 128 on the way
-- at the second.
abbrev inner : ℕ → List Symbol → Book
inner v ss = book v ss (0 ∷ 1 ∷ []) 4 0 (4 ∷ 0 ∷ []) false

abbrev lone : Book
lone = book 2 (symbol 1 (names 0 ∷ names 1 ∷ []) ∷ []) (0 ∷ 0 ∷ []) 2 4 (4 ∷ 0 ∷ []) false

abbrev spread : (position count : ℕ) → List Held
spread p n = map (λ x. held_at p (free [] ∷ free (x ∷ []) ∷ [])) (numbers 10 n)

pub every_position :
    (room (inner 2 apart) (map (λ x. held_at 1 (bound x ∷ free [] ∷ [])) (numbers 0 128)) (record { kind = 2; args = 900 ∷ [] }) ≡ false)
    × (room (inner 1 (symbol 1 (names 0 ∷ []) ∷ symbol 1 (names 0 ∷ []) ∷ [])) (held_at 2 (free (1 ∷ 2 ∷ 3 ∷ 4 ∷ 5 ∷ 6 ∷ []) ∷ []) ∷ [])
    (record { kind = 1; args = 7 ∷ [] }) ≡ false)
    × (room lone (spread 2 64) (record { kind = 1; args = 1 ∷ 900 ∷ [] }) ≡ true)
    × (room lone (spread 2 65) (record { kind = 1; args = 1 ∷ 900 ∷ [] }) ≡ false)
    × (room (book 2 (symbol 1 (names 0 ∷ names 1 ∷ []) ∷ symbol 1 (ignored ∷ ignored ∷ []) ∷ []) (0 ∷ 0 ∷ []) 2 4 (4 ∷ 0 ∷ []) false) (spread 1 64)
    (record { kind = 1; args = 1 ∷ 900 ∷ [] }) ≡ true)
    × (room (book 2 (symbol 1 (names 0 ∷ names 1 ∷ []) ∷ symbol 1 (ignored ∷ ignored ∷ []) ∷ []) (0 ∷ 0 ∷ 0 ∷ []) 2 8 (4 ∷ 8 ∷ 0 ∷ []) false) (spread 2 64)
    (record { kind = 1; args = 1 ∷ 900 ∷ [] }) ≡ true)
unfolding bit matches constraint_of compare_disjuncts skip_by sources step_set skip_set new_label new_held set_room room
every_position = (refl, refl, refl, refl, refl, refl)

-- a position that nothing follows keeps none, though no word ends there; any other keeps its label, though no word ends behind it or none comes
-- to it; and a row that would leave a variable free is one also where the pattern goes on
pub inner_positions :
    (new_held (inner 1 (symbol 1 (names 0 ∷ []) ∷ symbol 2 [] ∷ [])) (held_at 2 (bound 3 ∷ []) ∷ []) (record { kind = 1; args = 5 ∷ [] }) ≡ [])
    × (new_held (book 1 (symbol 1 (names 0 ∷ []) ∷ []) (0 ∷ 0 ∷ []) 2 0 (4 ∷ 0 ∷ []) false) [] (record { kind = 1; args = 5 ∷ [] })
    ≡ held_at 1 (bound 5 ∷ []) ∷ [])
    × (new_held (book 1 (symbol 1 (names 0 ∷ []) ∷ []) (0 ∷ 0 ∷ []) 0 4 (4 ∷ 0 ∷ []) false) (held_at 1 (bound 3 ∷ []) ∷ []) (record { kind = 1; args = 5 ∷ [] })
    ≡ held_at 1 (bound 3 ∷ []) ∷ [])
    × (leaves_free (book 2 apart (0 ∷ 1 ∷ []) 2 2 (4 ∷ 0 ∷ []) false) [] (record { kind = 1; args = 4 ∷ [] }) ≡ true)
unfolding bit matches constraint_of compare_disjuncts skip_by sources step_set skip_set new_label new_held leaves_free
inner_positions = (refl, refl, refl, refl)

-- a symbol that the pattern does not name is judged like the others
pub unnamed_judged : map (λ y. sound_book (book 1 (symbol 1 (names 0 ∷ []) ∷ y ∷ []) (0 ∷ 0 ∷ []) 2 4 (4 ∷ 0 ∷ []) false))
    (symbol 255 (names 0 ∷ []) ∷ symbol 0 (names 0 ∷ []) ∷ symbol 256 (names 0 ∷ []) ∷ symbol 1 (replicate 5 ignored) ∷ symbol 1 (names 1 ∷ []) ∷ [])
    ≡ true ∷ replicate 4 false
unfolding bit sound_book sound_symbol
unnamed_judged = refl
