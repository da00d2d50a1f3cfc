-- Two runs on a set of two books, for the theorem `set_witness`: book B1 of document 01, and one that has no room for the fourth record of the second run,
-- which B1
-- alone would take. The second run takes the events in another order. For the buyer.
use Rattle.std.specs.Prelude.{List, [], ◌∷◌, ℕ, replicate}
use Rattle.pattern.specs.Regex.{Regex, lit, cat, alt}
use Rattle.meaning.specs.Events.{ignored, names}
use Rattle.meaning.specs.Meaning.{Tracematch}
use Rattle.form.specs.Text.{Bytes, ascii, Declarations, tracematch_of}
use Rattle.calls.specs.Witness as First
use Rattle.calls.specs.Witness.{load, dropped}
use Rattle.lent_runs.specs.Lending.{LentCall}
use Rattle.set_runs.specs.Setting.{SetMade, set_run}

-- an `o` and then an `a`; or a `c`: the others are there to exclude values
unfoldable pub second : Bytes
second =
    ascii "vars v\nsym o 5\nsym a 2 v\nsym c 1 v _\nsym d 1 _ v\nsym e 7 v _ _ _\nsym f 7 _ v _ _\nsym g 7 _ _ v _\nsym h 7 _ _ _ v\nmatch o a | c\n"

abbrev pub declared : Declarations
declared =
    record {
      variables = ascii "v" ∷ [];
      symbols =
          record { name = ascii "o"; kind = 5; parameters = [] }
          ∷ record { name = ascii "a"; kind = 2; parameters = names 0 ∷ [] }
          ∷ record { name = ascii "c"; kind = 1; parameters = names 0 ∷ ignored ∷ [] }
          ∷ record { name = ascii "d"; kind = 1; parameters = ignored ∷ names 0 ∷ [] }
          ∷ record { name = ascii "e"; kind = 7; parameters = names 0 ∷ ignored ∷ ignored ∷ ignored ∷ [] }
          ∷ record { name = ascii "f"; kind = 7; parameters = ignored ∷ names 0 ∷ ignored ∷ ignored ∷ [] }
          ∷ record { name = ascii "g"; kind = 7; parameters = ignored ∷ ignored ∷ names 0 ∷ ignored ∷ [] }
          ∷ record { name = ascii "h"; kind = 7; parameters = ignored ∷ ignored ∷ ignored ∷ names 0 ∷ [] }
          ∷ [];
    }

abbrev pub pattern : Regex
pattern = alt (cat (lit 0) (lit 1)) (lit 2)

abbrev pub tm : Tracematch
tm = tracematch_of declared pattern

-- the set
abbrev pub texts : List Bytes
texts = First.text ∷ second ∷ []

abbrev pub tms : List Tracematch
tms = First.tm ∷ tm ∷ []

-- records of o and of 7(3, 4, 5, 6)
abbrev pub opens : Bytes
opens = 5 ∷ replicate 19 0

abbrev pub four : Bytes
four = 7 ∷ 4 ∷ 0 ∷ 0 ∷ 3 ∷ 0 ∷ 0 ∷ 0 ∷ 4 ∷ 0 ∷ 0 ∷ 0 ∷ 5 ∷ 0 ∷ 0 ∷ 0 ∷ 6 ∷ 0 ∷ 0 ∷ 0 ∷ []

-- a call that lends a record, a buffer of so many bytes, a place in it, and an empty tally
abbrev pub call : Bytes → (size place : ℕ) → LentCall
call bytes size place = record { bytes = bytes; buffer = replicate size 255; place = place; tally = 0 ∷ 0 ∷ 0 ∷ [] }

unfoldable pub xs : List LentCall
xs = call opens 24 0 ∷ call (load 1 7) 24 0 ∷ call (load 2 8) 24 0 ∷ call (dropped 1) 24 0 ∷ call (dropped 2) 24 0 ∷ []

unfoldable pub ys : List LentCall
ys =
    call opens 0 0 ∷ call (load 2 8) 24 0 ∷ call (load 1 7) 50 25 ∷ call four 500 0 ∷ call (dropped 2) 24 0 ∷ call (dropped 1) 50 3 ∷ []

-- the two runs, with other words behind the books and in the states
abbrev pub run_x : List SetMade
run_x = set_run texts [] (replicate 7430 9) xs

abbrev pub run_y : List SetMade
run_y = set_run texts (1 ∷ []) (replicate 8000 1) ys

-- the row of event number n, of book number k, that begins with these values
abbrev pub row_of : (n variables k x y : ℕ) → Bytes
row_of n v k x y = n ∷ 0 ∷ 0 ∷ 0 ∷ v ∷ k ∷ 0 ∷ 0 ∷ x ∷ 0 ∷ 0 ∷ 0 ∷ y ∷ replicate 11 0
