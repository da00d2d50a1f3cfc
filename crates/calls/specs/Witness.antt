-- Two runs over book B1 of document 01, for the theorem `witness` (crate demands): one accepts four events, the other takes
-- them in another order and refuses a record of 19 bytes on the way. For the buyer.
use Rattle.std.specs.Prelude.{List, [], ◌∷◌, map, ℕ, ◌+◌, ◌*◌, replicate}
use Rattle.pattern.specs.Regex.{Regex, lit, cat, plus}
use Rattle.meaning.specs.Events.{names}
use Rattle.meaning.specs.Meaning.{Tracematch}
use Rattle.form.specs.Text.{Bytes, ascii, Declarations, tracematch_of}
use Rattle.row.specs.RowBytes.{row_size}
use Rattle.book.specs.Books.{reading}
use Rattle.calls.specs.Answers.{number_of}
use Rattle.calls.specs.Runs.{Call, event, Made, run_of, accepted_in}

-- book B1
unfoldable pub text : Bytes
text = ascii "vars d s\nsym load 1 d s\nsym drop 2 d\nsym clean 3 d\nmatch load drop+\n"

abbrev pub declared : Declarations
declared =
    record {
      variables = ascii "d" ∷ ascii "s" ∷ [];
      symbols =
          record { name = ascii "load"; kind = 1; parameters = names 0 ∷ names 1 ∷ [] }
          ∷ record { name = ascii "drop"; kind = 2; parameters = names 0 ∷ [] }
          ∷ record { name = ascii "clean"; kind = 3; parameters = names 0 ∷ [] }
          ∷ [];
    }

abbrev pub pattern : Regex
pattern = cat (lit 0) (plus (lit 1))

abbrev pub tm : Tracematch
tm = tracematch_of declared pattern

-- records of 20 bytes, of arguments below 256
abbrev pub load : (x y : ℕ) → Bytes
load x y = 1 ∷ 2 ∷ 0 ∷ 0 ∷ x ∷ 0 ∷ 0 ∷ 0 ∷ y ∷ replicate 11 0

abbrev pub dropped : ℕ → Bytes
dropped x = 2 ∷ 1 ∷ 0 ∷ 0 ∷ x ∷ replicate 15 0

-- a call that lends a record, a buffer of so many bytes, a place in it, and an empty tally
abbrev pub call : Bytes → (size place : ℕ) → Call
call bytes size place = event (record { bytes = bytes; buffer = replicate size 255; place = place; tally = record { accepted = 0; refused = 0; rows = 0 } })

unfoldable pub xs : List Call
xs = call (load 1 7) row_size 0 ∷ call (load 2 8) row_size 0 ∷ call (dropped 1) row_size 0 ∷ call (dropped 2) row_size 0 ∷ []

-- the second call is refused
unfoldable pub ys : List Call
ys =
    call (load 2 8) row_size 0 ∷ call (replicate 19 1) row_size 0 ∷ call (load 1 7) row_size 0 ∷ call (dropped 2) (2 * row_size + 2) (row_size + 1)
    ∷ call (dropped 1) row_size 0 ∷ []

-- the two runs
abbrev pub run_x : List Made
run_x = run_of (reading text).book xs

abbrev pub run_y : List Made
run_y = run_of (reading text).book ys

-- the numbers of all answers, and the row counts of the accepted calls
abbrev pub answers : List Made → List ℕ
answers ms = map (λ m. number_of m.taken.answer) ms

abbrev pub counts : List Made → List ℕ
counts ms = map (λ m. m.taken.rows) (accepted_in ms)
