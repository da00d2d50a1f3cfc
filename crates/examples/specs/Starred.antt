-- The table of the starred roasts of document 01 and some of our own, those of document 02's change 1 among them, as bytes: texts with the records
-- sent under them and the lines that come back, and texts with the number and place that their reading gets. The theorems about the whole table
-- are in ../proofs/Starred.antt.
use Rattle.std.specs.Prelude.{List, [], ◌∷◌, ◌++◌, map, cond, ℕ, suc, ◌+◌, ◌-◌, ◌/◌, ◌%◌, eqb, length, take, replicate}
use Rattle.tally.specs.declared.Tally.{Tally}
use Prim.Native.String.{String}
use Rattle.laws.specs.Lists.{gather}
use Rattle.laws.specs.Parts.{pad}
use Rattle.pattern.specs.Regex.{Regex}
use Rattle.form.specs.Text.{Bytes, ascii, Declarations, tracematch_of}
use Rattle.form.specs.Form.{Form}
use Rattle.fault.specs.Rules.{Rules}
use Rattle.book.specs.Answers as Reading
use Rattle.book.specs.Books.{reading}
use Rattle.state.specs.declared.State.{State}
use Rattle.state.specs.States.{state_of}
use Rattle.runs.specs.Runs.{Within}
use Rattle.calls.specs.Answers.{number_of}
use Rattle.calls.specs.Checks.{FirstFailing}
use Rattle.calls.specs.Runs.{Call, event, Made, make, run_of, accepted_in, trace_of, Delivered, Judged}

-- "32-bit little-endian": a number in four bytes, the lowest first
abbrev word : ℕ → Bytes
word x = x % 256 ∷ x / 256 % 256 ∷ x / 65536 % 256 ∷ x / 16777216 % 256 ∷ []

-- an event record, and the bytes of a row: event number, values
abbrev pub sent : ℕ → List ℕ → Bytes
sent kind args = kind ∷ length args ∷ 0 ∷ 0 ∷ pad 16 0 (gather word args)

abbrev pub row : ℕ → List ℕ → Bytes
row number values = word number ++ (word (length values) ++ pad 16 0 (gather word values))

-- a record, the answer's number, and the rows
pub record Line : Type 0 where
  pub bytes : Bytes
  pub number : ℕ
  pub rows : List Bytes

abbrev line : Bytes → ℕ → List Bytes → Line
line bytes number rows = record { bytes = bytes; number = number; rows = rows }

pub data Entry : Type 0 where
  -- an accepted text and the records sent under it
  runs : String → List Line → Entry
  -- an accepted text and one record sent after so many events, in the state that holds nothing: a run of so many events cannot be computed
  late : String → (events : ℕ) → Line → Entry
  -- a text and the number and place of its reading
  reads : String → (number place : ℕ) → Entry

-- what comes back for a record: the answer's number, the count of rows, and the bytes in the buffer
pub record Back : Type 0 where
  pub number : ℕ
  pub count : ℕ
  pub written : Bytes
  pub tally : Tally

pub record Outcome : Type 0 where
  pub number : ℕ
  pub place : ℕ
  pub lines : List Back

-- the row buffer of every call: just room for two rows behind the place 1
abbrev pub buffer : Bytes
buffer = replicate 49 255

abbrev pub place : ℕ
place = 1

-- the tally of every call
abbrev pub lent_tally : Tally
lent_tally = record { accepted = 5; refused = 6; rows = 7 }

-- a call that lends the record, the buffer from the place on, and the tally
abbrev pub call_of : Line → Call
call_of l = event (record { bytes = l.bytes; buffer = buffer; place = place; tally = lent_tally })

-- the state that holds nothing after so many events
abbrev pub idle : ℕ → State
idle events = state_of (record { number = events; held = [] })

abbrev pub back_of : Made → Back
back_of m = record { number = number_of m.taken.answer; count = m.taken.rows; written = m.buffer; tally = m.taken.tally }

-- what the definitions that the contracts cite give
abbrev pub outcome : Entry → Outcome
outcome (runs t ls) =
    let r = reading (ascii t) in
    record { number = Reading.number_of r.answer; place = Reading.place_of r.answer; lines = map back_of (run_of r.book (map call_of ls)) }
outcome (late t k l) =
    let r = reading (ascii t) in
    record { number = Reading.number_of r.answer; place = Reading.place_of r.answer; lines = back_of (make r.book (idle k) (call_of l)) ∷ [] }
outcome (reads t n p) =
    let r = reading (ascii t) in record { number = Reading.number_of r.answer; place = Reading.place_of r.answer; lines = [] }

-- what document 01 says: the rows at the buffer's beginning, all else as lent
abbrev pub wanted_back : Line → Back
wanted_back l =
    let rows = gather (λ r. r) l.rows in
    let accepted : Tally = record { accepted = 6; refused = 6; rows = 7 + length l.rows } in
    let refused : Tally = record { accepted = 5; refused = 7; rows = 7 } in
    record {
      number = l.number;
      count = length l.rows;
      written = 255 ∷ rows ++ replicate (48 - length rows) 255;
      tally = cond (eqb l.number 0) accepted refused;
    }

abbrev pub wanted : Entry → Outcome
wanted (runs t ls) = record { number = 0; place = 0; lines = map wanted_back ls }
wanted (late t k l) = record { number = 0; place = 0; lines = wanted_back l ∷ [] }
wanted (reads t n p) = record { number = n; place = p; lines = [] }

-- What the outcome means: under an accepted text, of the stated form, the rows of each accepted call are those of the declarative meaning
-- and the answer to each call is by the stated rules; a call in any state gets the number of its first failing check; the number and
-- place of a reading are those of the rules for texts.
abbrev pub Meant : Entry → Type 0
Meant (runs t ls) =
    let ms = run_of (reading (ascii t)).book (map call_of ls) in
    (d : Declarations) × (r : Regex) × Form (ascii t) d r
    × ((i : ℕ) (m : Made) → Within (accepted_in ms) i m → Delivered (tracematch_of d r) (trace_of ms) (suc i) m)
    × ((k : ℕ) (m : Made) → Within ms k m → Judged (tracematch_of d r) (trace_of (take k ms)) m.lent (number_of m.taken.answer))
Meant (late t k l) = FirstFailing (reading (ascii t)).book (idle k) l.bytes buffer place l.number
Meant (reads t n p) = Rules (ascii t) p n

-- the records of B1 and B2, variables d and s
abbrev load : ℕ → ℕ → Bytes
load d s = sent 1 (d ∷ s ∷ [])

abbrev dropped : ℕ → Bytes
dropped d = sent 2 (d ∷ [])

abbrev clean : ℕ → Bytes
clean d = sent 3 (d ∷ [])

abbrev opened : ℕ → Bytes
opened d = sent 5 (d ∷ [])

abbrev fill : ℕ → ℕ → Bytes
fill d s = sent 1 (d ∷ s ∷ [])

abbrev seal : ℕ → ℕ → Bytes
seal d s = sent 6 (d ∷ s ∷ [])

unfoldable pub table : List Entry
table =
    -- "Events load(1,7), load(2,8), drop(1), clean(2), drop(2), drop(1) print, whole"
    runs "vars d s\nsym load 1 d s\nsym drop 2 d\nsym clean 3 d\nmatch load drop+\n"
    (line (load 1 7) 0 [] ∷ line (load 2 8) 0 [] ∷ line (dropped 1) 0 (row 3 (1 ∷ 7 ∷ []) ∷ []) ∷ line (clean 2) 0 [] ∷ line (dropped 2) 0 []
    ∷ line (dropped 1) 0 (row 6 (1 ∷ 7 ∷ []) ∷ []) ∷ [])
    -- "B1, load(1,7), a kind-9 event, drop(1): row 1 7."
    ∷ runs "vars d s\nsym load 1 d s\nsym drop 2 d\nsym clean 3 d\nmatch load drop+\n"
    (line (load 1 7) 0 [] ∷ line (sent 9 []) 0 [] ∷ line (dropped 1) 0 (row 3 (1 ∷ 7 ∷ []) ∷ []) ∷ [])
    -- "No variables, `sym a 1 _`, `sym b 1 _`, `match a b`: two kind-1 events of one argument give nothing, then the empty valuation."
    ∷ runs "vars\nsym a 1 _\nsym b 1 _\nmatch a b\n" (line (sent 1 (4 ∷ [])) 0 [] ∷ line (sent 1 (5 ∷ [])) 0 (row 2 [] ∷ []) ∷ [])
    -- "Pattern `load* load drop`, load(1,7) twice, drop(1): one row."
    ∷ runs "vars d s\nsym load 1 d s\nsym drop 2 d\nsym clean 3 d\nmatch load* load drop\n"
    (line (load 1 7) 0 [] ∷ line (load 1 7) 0 [] ∷ line (dropped 1) 0 (row 3 (1 ∷ 7 ∷ []) ∷ []) ∷ [])
    -- "open(1), fill(1,7), seal(1,7), seal(1,8): only the last gives a row, 1 8."
    ∷ runs "vars d s\nsym open 5 d\nsym fill 1 d s\nsym seal 6 d s\nmatch open seal\n"
    (line (opened 1) 0 [] ∷ line (fill 1 7) 0 [] ∷ line (seal 1 7) 0 [] ∷ line (seal 1 8) 0 (row 4 (1 ∷ 8 ∷ []) ∷ []) ∷ [])
    -- "B2, open(1), fill(1,1) to fill(1,6): 0. Then fill(1,7): 12; seal(1,6): 0, no row; seal(1,9): 12."
    ∷ runs "vars d s\nsym open 5 d\nsym fill 1 d s\nsym seal 6 d s\nmatch open seal\n"
    (line (opened 1) 0 [] ∷ line (fill 1 1) 0 [] ∷ line (fill 1 2) 0 [] ∷ line (fill 1 3) 0 [] ∷ line (fill 1 4) 0 [] ∷ line (fill 1 5) 0 []
    ∷ line (fill 1 6) 0 [] ∷ line (fill 1 7) 12 [] ∷ line (seal 1 6) 0 [] ∷ line (seal 1 9) 12 [] ∷ [])
    -- ours: `?`, `|` and a group; the words load clean drop, load drop and load drop drop
    ∷ runs "vars d\nsym load 1 d\nsym drop 2 d\nsym clean 3 d\nmatch load (clean | drop?) drop\n"
    (line (sent 1 (1 ∷ [])) 0 [] ∷ line (sent 3 (1 ∷ [])) 0 [] ∷ line (sent 2 (1 ∷ [])) 0 (row 3 (1 ∷ []) ∷ []) ∷ line (sent 1 (1 ∷ [])) 0 []
    ∷ line (sent 2 (1 ∷ [])) 0 (row 5 (1 ∷ []) ∷ []) ∷ line (sent 2 (1 ∷ [])) 0 (row 6 (1 ∷ []) ∷ []) ∷ line (sent 2 (1 ∷ [])) 0 [] ∷ [])
    -- ours: one variable at two places of a symbol; only equal arguments concern it
    ∷ runs "vars d\nsym a 1 d d\nmatch a\n"
    (line (sent 1 (5 ∷ 5 ∷ [])) 0 (row 1 (5 ∷ []) ∷ []) ∷ line (sent 1 (5 ∷ 6 ∷ [])) 0 [] ∷ line (sent 1 (0 ∷ 0 ∷ [])) 0 (row 3 (0 ∷ []) ∷ []) ∷ [])
    -- ours: arguments with more than one byte in use; the rows ascend by the first differing value, 1 before 256
    ∷ runs "vars d s\nsym load 1 d s\nsym stop 9\nmatch load stop\n"
    (line (load 256 3) 0 [] ∷ line (load 1 67305985) 0 [] ∷ line (sent 9 []) 0 (row 3 (1 ∷ 67305985 ∷ []) ∷ row 3 (256 ∷ 3 ∷ []) ∷ []) ∷ [])
    -- ours: four variables and four arguments, every byte of them another
    ∷ runs "vars a b c d\nsym e 1 a b c d\nmatch e\n"
    (line (1 ∷ 4 ∷ 0 ∷ 0 ∷ 1 ∷ 2 ∷ 3 ∷ 4 ∷ 5 ∷ 6 ∷ 7 ∷ 8 ∷ 9 ∷ 10 ∷ 11 ∷ 12 ∷ 13 ∷ 14 ∷ 15 ∷ 16 ∷ []) 0
    ((1 ∷ 0 ∷ 0 ∷ 0 ∷ 4 ∷ 0 ∷ 0 ∷ 0 ∷ 1 ∷ 2 ∷ 3 ∷ 4 ∷ 5 ∷ 6 ∷ 7 ∷ 8 ∷ 9 ∷ 10 ∷ 11 ∷ 12 ∷ 13 ∷ 14 ∷ 15 ∷ 16 ∷ []) ∷ []) ∷ [])
    -- ours: "the kinds are equal and the event's argument count equals the symbol's": one more, one less, another kind, and a match
    ∷ runs "vars d\nsym a 1 d\nmatch a\n"
    (line (sent 1 (5 ∷ 6 ∷ [])) 0 [] ∷ line (sent 1 []) 0 [] ∷ line (sent 2 (5 ∷ [])) 0 [] ∷ line (sent 1 (5 ∷ [])) 0 (row 4 (5 ∷ []) ∷ []) ∷ [])
    -- ours: ignored arguments beside bound ones, the variables not in their order
    ∷ runs "vars d s\nsym a 1 _ s _ d\nmatch a\n" (line (sent 1 (9 ∷ 8 ∷ 7 ∷ 6 ∷ [])) 0 (row 1 (6 ∷ 8 ∷ []) ∷ []) ∷ [])
    -- ours: rows that differ in the second value only
    ∷ runs "vars d s\nsym load 1 d s\nsym stop 9\nmatch load stop\n"
    (line (load 1 9) 0 [] ∷ line (load 1 8) 0 [] ∷ line (sent 9 []) 0 (row 3 (1 ∷ 8 ∷ []) ∷ row 3 (1 ∷ 9 ∷ []) ∷ []) ∷ [])
    -- ours: "event record out of form, or not 20 bytes": kind 0, five arguments, byte 2, byte 3, a byte beyond the count, 19 bytes, 21 bytes; 255 is a kind
    ∷ runs "vars\nsym a 255\nmatch a\n"
    (line (sent 0 []) 10 [] ∷ line (255 ∷ 5 ∷ replicate 18 0) 10 [] ∷ line (255 ∷ 0 ∷ 1 ∷ replicate 17 0) 10 [] ∷ line (255 ∷ 0 ∷ 0 ∷ 1 ∷ replicate 16 0) 10 []
    ∷ line (255 ∷ 0 ∷ (replicate 17 0 ++ (1 ∷ []))) 10 [] ∷ line (255 ∷ replicate 18 0) 10 [] ∷ line (255 ∷ replicate 20 0) 10 []
    ∷ line (sent 255 []) 0 (row 1 [] ∷ []) ∷ [])
    -- ours: a third row does not fit
    ∷ runs "vars d\nsym load 1 d\nsym stop 9\nmatch load stop\n"
    (line (sent 1 (1 ∷ [])) 0 [] ∷ line (sent 1 (2 ∷ [])) 0 [] ∷ line (sent 1 (3 ∷ [])) 0 [] ∷ line (sent 9 []) 13 [] ∷ [])
    -- ours: a row number with three bytes in use, and the last event that is taken
    ∷ late "vars d s\nsym load 1 d s\nmatch load\n" 66050 (line (load 4294967295 67305985) 0 (row 66051 (4294967295 ∷ 67305985 ∷ []) ∷ []))
    ∷ late "vars d s\nsym load 1 d s\nmatch load\n" 999999 (line (load 1 7) 0 (row 1000000 (1 ∷ 7 ∷ []) ∷ []))
    ∷ late "vars d s\nsym load 1 d s\nmatch load\n" 1000000 (line (load 1 7) 11 [])
    -- "`vars d`, `sym a 1 d`: `match a*` is 7 at 23; `match b` 5 at 23; `match (a` 6 at 25; 17 parentheses 3 at 39, 16 accepted."
    ∷ reads "vars d\nsym a 1 d\nmatch a*\n" 7 23
    ∷ reads "vars d\nsym a 1 d\nmatch b\n" 5 23
    ∷ reads "vars d\nsym a 1 d\nmatch (a\n" 6 25
    ∷ reads "vars d\nsym a 1 d\nmatch (((((((((((((((((a)))))))))))))))))\n" 3 39
    ∷ reads "vars d\nsym a 1 d\nmatch ((((((((((((((((a))))))))))))))))\n" 0 0
    -- "`vars d s` with the same symbol, `match a`: 8 at 25." "Empty book: 2 at 0."
    ∷ reads "vars d s\nsym a 1 d\nmatch a\n" 8 25
    ∷ reads "" 2 0
    -- ours: what may be empty is repeated like anything else: b a a a b and b a a b are words of these patterns
    ∷ runs "vars\nsym a 1\nsym b 2\nmatch b (a? a?)* b\n"
    (line (sent 2 []) 0 [] ∷ line (sent 1 []) 0 [] ∷ line (sent 1 []) 0 [] ∷ line (sent 1 []) 0 [] ∷ line (sent 2 []) 0 (row 5 [] ∷ []) ∷ [])
    ∷ runs "vars\nsym a 1\nsym b 2\nmatch b a?+ b\n"
    (line (sent 2 []) 0 [] ∷ line (sent 1 []) 0 [] ∷ line (sent 1 []) 0 [] ∷ line (sent 2 []) 0 (row 4 [] ∷ []) ∷ [])
    -- ours, "The symbol's constraint is false where that argument differs.": load(3,7) counts, load(4,8), clean(4) and drop(4) concern nothing
    ∷ runs "vars s\nsym load 1 =3 s\nsym drop 2 =3\nsym clean 3 =3\nmatch load drop\n"
    (line (load 3 7) 0 [] ∷ line (load 4 8) 0 [] ∷ line (clean 4) 0 [] ∷ line (dropped 4) 0 [] ∷ line (dropped 3) 0 (row 5 (7 ∷ []) ∷ [])
    ∷ line (load 3 9) 0 [] ∷ line (clean 3) 0 [] ∷ line (dropped 3) 0 [] ∷ [])
    -- ours: fill(1,7,0), whose third argument is not 1, excludes nothing, so that seal(1,7) gives a row; fill(1,8,1) excludes
    ∷ runs "vars d s\nsym open 5 d\nsym fill 1 d s =1\nsym seal 6 d s\nmatch open seal\n"
    (line (opened 1) 0 [] ∷ line (sent 1 (1 ∷ 7 ∷ 0 ∷ [])) 0 [] ∷ line (seal 1 7) 0 (row 3 (1 ∷ 7 ∷ []) ∷ []) ∷ line (sent 1 (1 ∷ 8 ∷ 1 ∷ [])) 0 []
    ∷ line (seal 1 8) 0 [] ∷ line (seal 1 9) 0 (row 6 (1 ∷ 9 ∷ []) ∷ []) ∷ [])
    -- ours: nor does it take room: after six exclusions fill(1,7,0) is taken, fill(1,7,1) is 12
    ∷ runs "vars d s\nsym open 5 d\nsym fill 1 d s =1\nsym seal 6 d s\nmatch open seal\n"
    (line (opened 1) 0 [] ∷ line (sent 1 (1 ∷ 1 ∷ 1 ∷ [])) 0 [] ∷ line (sent 1 (1 ∷ 2 ∷ 1 ∷ [])) 0 [] ∷ line (sent 1 (1 ∷ 3 ∷ 1 ∷ [])) 0 []
    ∷ line (sent 1 (1 ∷ 4 ∷ 1 ∷ [])) 0 [] ∷ line (sent 1 (1 ∷ 5 ∷ 1 ∷ [])) 0 [] ∷ line (sent 1 (1 ∷ 6 ∷ 1 ∷ [])) 0 [] ∷ line (sent 1 (1 ∷ 7 ∷ 0 ∷ [])) 0 []
    ∷ line (sent 1 (1 ∷ 7 ∷ 1 ∷ [])) 12 [] ∷ [])
    -- ours: fixed arguments at the first and the fourth place, beside a variable and an ignored one
    ∷ runs "vars d\nsym a 1 =3 d _ =4\nmatch a\n"
    (line (sent 1 (3 ∷ 7 ∷ 9 ∷ 4 ∷ [])) 0 (row 1 (7 ∷ []) ∷ []) ∷ line (sent 1 (3 ∷ 7 ∷ 9 ∷ 5 ∷ [])) 0 [] ∷ line (sent 1 (4 ∷ 7 ∷ 9 ∷ 4 ∷ [])) 0 []
    ∷ line (sent 1 (4 ∷ 7 ∷ 9 ∷ 3 ∷ [])) 0 [] ∷ [])
    -- ours, "`=` and a number 0 to 4294967295 without extra leading zeros; anything else after `=` is answer 2": the largest and 0, the next (0 in 32 bits),
    -- 3 in 64 bits, an extra zero, nothing; a fifth argument is 3; a fixed argument binds nothing
    ∷ runs "vars\nsym a 1 =4294967295 =0\nmatch a\n"
    (line (sent 1 (4294967295 ∷ 0 ∷ [])) 0 (row 1 [] ∷ []) ∷ line (sent 1 (4294967294 ∷ 0 ∷ [])) 0 [] ∷ line (sent 1 (4294967295 ∷ 1 ∷ [])) 0 [] ∷ [])
    ∷ reads "vars\nsym a 1 =4294967296\nmatch a\n" 2 13
    ∷ reads "vars\nsym a 1 =18446744073709551619\nmatch a\n" 2 13
    ∷ reads "vars\nsym a 1 =01\nmatch a\n" 2 13
    ∷ reads "vars\nsym a 1 =\nmatch a\n" 2 13
    ∷ reads "vars\nsym a 1 =1 =2 =3 =4 =5\nmatch a\n" 3 25
    ∷ reads "vars d\nsym a 1 =0\nmatch a\n" 8 24
    ∷ []
