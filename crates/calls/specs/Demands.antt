-- What is promised of a text that `read` accepts, in one place: demands 2 and 3 and the answers along every run, for the tracematch that
-- the text declares. The theorem `demands` (crate demands) gives it for every text with answer 0.
use Rattle.std.specs.Prelude.{◌≡◌, true, List, ℕ, suc, take}
use Rattle.pattern.specs.Regex.{Regex}
use Rattle.form.specs.Text.{Bytes, Declarations, tracematch_of}
use Rattle.form.specs.Form.{Form}
use Rattle.book.specs.Books.{reading}
use Rattle.calls.specs.Answers.{number_of}
use Rattle.runs.specs.Runs.{Within}
use Rattle.calls.specs.Runs.{Call, Made, all_bytes, run_of, accepted_in, records_of, trace_of, Delivered, Judged, Partners, InOrder, Crossed}

-- a run over the book that was read of the text
abbrev pub run_over : Bytes → List Call → List Made
run_over text cs = run_of (reading text).book cs

pub record Demands (text : Bytes) (d : Declarations) (r : Regex) : Type 0 where
  pub form : Form text d r
  -- demand 2: the rows of each accepted call
  pub rows : (cs : List Call) → all_bytes cs ≡ true → (i : ℕ) (m : Made) → Within (accepted_in (run_over text cs)) i m
      → Delivered (tracematch_of d r) (trace_of (run_over text cs)) (suc i) m
  -- the answer to each call: 10, 11, 12, 13 or 0 by the stated rules, and never 9
  pub answers : (cs : List Call) → all_bytes cs ≡ true → (k : ℕ) (m : Made) → Within (run_over text cs) k m
      → Judged (tracematch_of d r) (trace_of (take k (run_over text cs))) m.lent (number_of m.taken.answer)
  -- demand 3: one claim about two whole lists of calls
  pub crossed : (xs ys : List Call) → all_bytes xs ≡ true → all_bytes ys ≡ true
      → (p : Partners (records_of (run_over text xs)) (records_of (run_over text ys)))
      → InOrder (tracematch_of d r) (records_of (run_over text xs)) (records_of (run_over text ys)) p
      → Crossed (tracematch_of d r) (run_over text xs) (run_over text ys) p
