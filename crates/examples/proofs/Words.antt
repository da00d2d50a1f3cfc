-- The words of `starred`, each with its text: what is lent to a call of the table, what comes back, what document 01 wants, and what that means.
use mathlib.Core.Path.{◌≡◌, refl}
use mathlib.Core.Bool.{cond}
use mathlib.Core.List.{List, [], ◌∷◌, ◌++◌, map}
use Prim.Native.Nat.{ℕ, suc, ◌+◌, ◌-◌}
use Prim.Native.String.{String}
use lib.Dec.{eqb}
use lib.ListN.{length, take, replicate}
use Rattle.laws.specs.Lists.{gather}
use Rattle.pattern.specs.Regex.{Regex}
use Rattle.form.specs.Text.{ascii, Declarations, tracematch_of}
use Rattle.form.specs.Form.{Form}
use Rattle.fault.specs.Rules.{Rules}
use Rattle.book.specs.Answers as Reading
use Rattle.book.specs.Books.{reading}
use Rattle.state.specs.States.{state_of}
use Rattle.runs.specs.Runs.{Within}
use Rattle.calls.specs.Answers.{number_of}
use Rattle.calls.specs.Checks.{FirstFailing}
use Rattle.calls.specs.Runs.{event, Made, make, run_of, accepted_in, trace_of, Delivered, Judged}
use Rattle.examples.specs.Starred.{Line, runs, late, reads, call_of, back_of, outcome, wanted_back, wanted, Meant}

-- a call lends the record and 49 bytes of 255, from the place 1 on; what comes back of it is number, count, bytes and tally
pub call_said : (l : Line) (m : Made)
    → (call_of l ≡ event (record { bytes = l.bytes; buffer = replicate 49 255; place = 1; tally = record { accepted = 5; refused = 6; rows = 7 } }))
    × (back_of m ≡ record { number = number_of m.taken.answer; count = m.taken.rows; written = m.buffer; tally = m.taken.tally })
call_said l m = (refl, refl)

pub wanted_said : (l : Line)
    → wanted_back l
    ≡ record {
      number = l.number;
      count = length l.rows;
      written = 255 ∷ gather (λ r. r) l.rows ++ replicate (48 - length (gather (λ r. r) l.rows)) 255;
      tally = cond (eqb l.number 0) (record { accepted = 6; refused = 6; rows = 7 + length l.rows }) (record { accepted = 5; refused = 7; rows = 7 });
    }
wanted_said l = refl

-- an accepted text and the records sent under it
pub runs_said : (t : String) (ls : List Line)
    → let r = reading (ascii t) in
    let ms = run_of r.book (map call_of ls) in
    (outcome (runs t ls) ≡ record { number = Reading.number_of r.answer; place = Reading.place_of r.answer; lines = map back_of ms })
    × (wanted (runs t ls) ≡ record { number = 0; place = 0; lines = map wanted_back ls })
    × (Meant (runs t ls)
    ≡ ((d : Declarations) × (q : Regex) × Form (ascii t) d q
    × ((i : ℕ) (m : Made) → Within (accepted_in ms) i m → Delivered (tracematch_of d q) (trace_of ms) (suc i) m)
    × ((k : ℕ) (m : Made) → Within ms k m → Judged (tracematch_of d q) (trace_of (take k ms)) m.lent (number_of m.taken.answer))))
runs_said t ls = (refl, refl, refl)

-- one record in the state that holds nothing after k events
pub late_said : (t : String) (k : ℕ) (l : Line)
    → let r = reading (ascii t) in
    let s = state_of (record { number = k; held = [] }) in
    (outcome (late t k l)
    ≡ record { number = Reading.number_of r.answer; place = Reading.place_of r.answer; lines = back_of (make r.book s (call_of l)) ∷ [] })
    × (wanted (late t k l) ≡ record { number = 0; place = 0; lines = wanted_back l ∷ [] })
    × (Meant (late t k l) ≡ FirstFailing r.book s l.bytes (replicate 49 255) 1 l.number)
late_said t k l = (refl, refl, refl)

-- the number and place of a reading
pub reads_said : (t : String) (n p : ℕ)
    → let r = reading (ascii t) in
    (outcome (reads t n p) ≡ record { number = Reading.number_of r.answer; place = Reading.place_of r.answer; lines = [] })
    × (wanted (reads t n p) ≡ record { number = n; place = p; lines = [] }) × (Meant (reads t n p) ≡ Rules (ascii t) p n)
reads_said t n p = (refl, refl, refl)
