-- Demand 2 for whole runs of event calls over a read text: after each accepted event the bytes in its buffer are the rows of the
-- declarative meaning. For the buyer; the definitions are those that the contract of `event` cites.
use mathlib.Core.Path.{◌≡◌, ap, subst, ◌∙◌}
use mathlib.Core.Bool.{true}
use mathlib.Core.List.{List, [], ◌∷◌, ◌++◌}
use Prim.Native.Nat.{ℕ, suc, ◌+◌}
use native.Mathlib.Omega.{arith}
use lib.ListN.{length, take}
use Rattle.laws.specs.Lists.{all}
use Rattle.laws.proofs.Lists.{all_take}
use Rattle.runs.specs.Runs.{Within}
use Rattle.pattern.specs.Regex.{Regex}
use Rattle.meaning.specs.Events.{Event, well_formed}
use Rattle.meaning.specs.Meaning.{Tracematch}
use Rattle.meaning.specs.Book.{book_of, Proper}
use Rattle.meaning.specs.Labels.{State, fresh_at, next}
use Rattle.meaning.specs.Rows.{rows}
use Rattle.meaning.specs.Runs as Runs
use Rattle.meaning.specs.Runs.{Listed}
use Rattle.automaton.proofs.Plain.{run_state, run_held}
use Rattle.automaton.proofs.Listed as Plain
use Rattle.form.specs.Text.{Bytes, Declarations, tracematch_of}
use Rattle.form.specs.Form.{Form}
use Rattle.parsing.proofs.Accepted.{form_proper}
use Rattle.record.specs.Records.{event_in}
use Rattle.book.specs.Books.{reading}
use Rattle.calls.specs.Calls.{fresh_state}
use Rattle.calls.specs.Runs.{Call, Made, all_bytes, run_of, accepted_in, trace_of, Delivered}
use Rattle.demands.proofs.Bridge.{read, plain, fitting}
use Rattle.demands.proofs.Course.{Placed, accepted_at, trace_plain, trace_formed}

-- An accepted call in its place of a run that began with nothing held after n events.
module _ (tm : Tracematch) (n : ℕ) (ms : List Made) (i : ℕ) (m : Made) (p : Placed tm n ms i m) where
  abbrev event_now : Event
  event_now = event_in m.lent.bytes

  abbrev calls_before : List Runs.Call
  calls_before = plain (take p.place ms)

  -- the state that it met
  abbrev met_state : State
  met_state = Runs.run (next (book_of tm)) (fresh_at n) calls_before

  met_number : met_state.number ≡ n + i
  met_number = ap (λ s. s.number) (run_state (book_of tm) (fresh_at n) calls_before) ∙ ap (λ k. n + k) (ap length (trace_plain (take p.place ms)) ∙ p.count)

  -- its rows are those of the meaning over the trace of the run
  met_listed : Proper tm → all well_formed (trace_of ms) ≡ true → Listed tm (trace_of ms) (suc i) (rows (book_of tm) met_state.held event_now)
  met_listed ok good =
      let same = trace_plain (take p.place ms) in
      let upto : take (suc i) (trace_of ms) ≡ Runs.trace_of calls_before ++ (event_now ∷ []) = rw same p.upto in
      let formed : all well_formed (Runs.trace_of calls_before ++ (event_now ∷ [])) ≡ true = rw (← upto) (all_take well_formed (suc i) (trace_of ms) good) in
      let there = Plain.listed_behind tm ok calls_before event_now formed in
      let count : length (Runs.trace_of calls_before) ≡ i = ap length same ∙ p.count in
      rw (run_held (book_of tm) (fresh_at n) calls_before) (Plain.listed_prefix tm (trace_of ms) _ i _ upto
      (subst (λ k. Listed tm (Runs.trace_of calls_before ++ (event_now ∷ [])) (suc k) (rows (book_of tm) (Runs.held_after tm calls_before) event_now)) count there))

-- the text is of the stated form: by `accepted` just the texts that `read` accepts, and by `unique` with one d and one r (both in
-- crate book, proofs/Bench.antt)
pub listed : (text : Bytes) (d : Declarations) (r : Regex) → Form text d r → (cs : List Call) → all_bytes cs ≡ true
    → (i : ℕ) (m : Made) → Within (accepted_in (run_of (reading text).book cs)) i m
    → Delivered (tracematch_of d r) (trace_of (run_of (reading text).book cs)) (suc i) m
unfolding fresh_state
listed text d r f cs bytes i m at =
    let tm = tracematch_of d r in
    let rd = read text d r f in
    let ms = run_of (reading text).book cs in
    let p = accepted_at (reading text).book tm rd 0 (omega arith) cs bytes i m at in
    let s = met_state tm 0 ms i m p in
    let number : s.number ≡ i = met_number tm 0 ms i m p ∙ omega arith in
    let w = p.done.written p.accepted in
    record {
      valuations = rows (book_of tm) s.held (event_in m.lent.bytes);
      meant = met_listed tm 0 ms i m p (form_proper text d r f) (trace_formed (reading text).book tm rd 0 (omega arith) cs bytes);
      counted = w.counted;
      fitting = fitting tm s m.lent p.done.decision p.accepted;
      written = rw number at w.left;
      tallies = w.tallies;
      numbered = w.numbered ∙ ap suc number;
    }
