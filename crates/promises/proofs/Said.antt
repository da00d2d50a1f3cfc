-- What `results` and `rows_read` give, and what they ask, with its text, so that none of it can get weaker with no call moving; and the fresh state
-- that `results` begins with and that `handed::fresh` gives, every number of it.
use mathlib.Core.Path.{◌≡◌, refl}
use mathlib.Core.Bool.{false}
use mathlib.Core.List.{List, [], ◌∷◌, map}
use mathlib.Core.Logic.{◌↔◌}
use Prim.Native.Nat.{ℕ, suc, ◌+◌, ◌*◌, ◌/◌, ◌%◌, ◌≤◌, ◌<◌}
use lib.ListN.{length, get_or, take, replicate}
use Rattle.meaning.specs.Events.{Event, Valuation}
use Rattle.meaning.specs.Meaning.{Tracematch}
use Rattle.runs.specs.Runs.{no_result, next_result, Within}
use Rattle.meaning.specs.Runs.{Listed, Ordered}
use Rattle.form.specs.Text.{Bytes}
use Rattle.book.specs.declared.Book.{Book}
use Rattle.state.specs.declared.State.{State}
use Rattle.calls.specs.Answers.{number_of}
use Rattle.calls.specs.Calls.{fresh_state}
use Rattle.calls.specs.Runs.{Made, accepted_in, records_of, Judged, Partners}
use Rattle.demands.proofs.Checks.{fresh_state_law}
use Rattle.promises.specs.Formats.{InRecord, event_of_bytes, WordAt, RowAt, RowsIn}
use Rattle.promises.specs.EventResults.{state_of_nothing, TallyRises, EventGives, Series, trace_in, RowsKept, RowsAlike, ResultsKeep}

-- "A fresh state has all 128 disjunct places free and event number 0."
pub nothing_said : state_of_nothing
    ≡ record {
      number = 0;
      count = 0;
      positions = replicate 128 0;
      pool = replicate 128 (record { vars = replicate 4 (record { bound = false; value = 0; count = 0; excluded = replicate 6 0 }) });
    }
nothing_said = refl

-- the state that the contract of `fresh` names is that one
pub fresh_given : fresh_state ≡ state_of_nothing
fresh_given = fresh_state_law

-- "Each call gets the state that the call before it returned or left"
pub series_said : (b : Book) (s : State) (m : Made) (ms : List Made)
    → Series b s []
    × (Series b s (m ∷ ms)
    ↔ (EventGives b s m.lent.bytes m.lent.buffer m.lent.place m.lent.tally m.taken m.buffer × Series b m.taken.state ms))
series_said b s m ms = (no_result, (parts, λ (g, r). next_result g r))
  where
    parts : Series b s (m ∷ ms)
        → EventGives b s m.lent.bytes m.lent.buffer m.lent.place m.lent.tally m.taken m.buffer × Series b m.taken.state ms
    parts (next_result g r) = (g, r)

pub trace_in_said : (ms : List Made) → trace_in ms ≡ map event_of_bytes (records_of ms)
trace_in_said ms = refl

pub bytes_said : (s : Bytes) (p x : ℕ)
    → WordAt s p x
    ↔ ((get_or s p 0 ≡ x % 256) × (get_or s (p + 1) 0 ≡ x / 256 % 256) × (get_or s (p + 2) 0 ≡ x / 65536 % 256) × (get_or s (p + 3) 0 ≡ x / 16777216 % 256))
bytes_said s p x = (
  λ w. (w.lowest, w.second, w.third, w.highest),
  λ (a, b, c, d). record { lowest = a; second = b; third = c; highest = d },
)

pub row_said : (s : Bytes) (p n v : ℕ) (σ : Valuation)
    → RowAt s p n v σ
    ↔ (WordAt s p n × (get_or s (p + 4) 0 ≡ v) × ((get_or s (p + 5) 0 ≡ 0) × (get_or s (p + 6) 0 ≡ 0) × (get_or s (p + 7) 0 ≡ 0))
    × WordAt s (p + 8) (get_or σ 0 0) × WordAt s (p + 12) (get_or σ 1 0) × WordAt s (p + 16) (get_or σ 2 0) × WordAt s (p + 20) (get_or σ 3 0))
row_said s p n v σ = (
  λ r. (r.number, r.variables, r.zeros, r.first, r.second, r.third, r.fourth),
  λ (a, b, c, d, e, f, g). record { number = a; variables = b; zeros = c; first = d; second = e; third = f; fourth = g },
)

pub rows_said : (buffer after : Bytes) (place number variables : ℕ) (l : List Valuation)
    → RowsIn buffer after place number variables l
    ↔ ((place + 24 * length l ≤ length buffer) × (length after ≡ length buffer) × ((i : ℕ) → i < place → get_or after i 0 ≡ get_or buffer i 0)
    × ((j : ℕ) → j < length l → RowAt after (place + 24 * j) number variables (get_or l j []))
    × ((i : ℕ) → place + 24 * length l ≤ i → get_or after i 0 ≡ get_or buffer i 0))
rows_said buffer after place number variables l = (
  λ r. (r.fitting, r.size, r.before, r.within, r.behind),
  λ (a, b, c, d, e). record { fitting = a; size = b; before = c; within = d; behind = e },
)

pub kept_said : (tm : Tracematch) (t : List Event) (n : ℕ) (m : Made)
    → RowsKept tm t n m
    ↔ ((l : List Valuation) × Listed tm t n l × (m.taken.rows ≡ length l)
    × RowsIn m.lent.buffer m.buffer m.lent.place n tm.variables l × TallyRises m.lent.tally 1 0 (length l) m.taken.tally
    × (m.taken.state.number ≡ n))
kept_said tm t n m = (
  λ r. (r.valuations, r.meant, r.counted, r.written, r.tallies, r.numbered),
  λ (l, a, b, c, d, e). record { valuations = l; meant = a; counted = b; written = c; tallies = d; numbered = e },
)

pub alike_said : (m n : Made)
    → RowsAlike m n
    ↔ ((m.taken.rows ≡ n.taken.rows)
    × ((j : ℕ) → j < m.taken.rows → (k : ℕ) → 4 ≤ k → k < 24
    → get_or m.buffer (m.lent.place + 24 * j + k) 0 ≡ get_or n.buffer (n.lent.place + 24 * j + k) 0))
alike_said m n = (λ r. (r.counts, r.bytes), λ (a, b). record { counts = a; bytes = b })

pub results_said : (tm : Tracematch) (b : Book)
    → ResultsKeep tm b
    ↔ (((ms : List Made) → Series b state_of_nothing ms → (i : ℕ) (m : Made) → Within (accepted_in ms) i m → RowsKept tm (trace_in ms) (suc i) m)
    × ((ms : List Made) → Series b state_of_nothing ms → (k : ℕ) (m : Made) → Within ms k m
    → Judged tm (trace_in (take k ms)) m.lent (number_of m.taken.answer))
    × ((ms : List Made) → Series b state_of_nothing ms → (k : ℕ) (m : Made) → Within ms k m
    → (number_of m.taken.answer ≡ 10) ↔ (InRecord m.lent.bytes → ⊥))
    × ((xs ys : List Made) → Series b state_of_nothing xs → Series b state_of_nothing ys
    → (p : Partners (records_of xs) (records_of ys)) → Ordered [] event_of_bytes tm (records_of xs) (records_of ys) p
    → (i : ℕ) (m n : Made) → Within (accepted_in xs) i m → Within (accepted_in ys) (p.to i) n
    → RowsKept tm (trace_in xs) (suc i) m × RowsKept tm (trace_in ys) (suc (p.to i)) n × RowsAlike m n))
results_said tm b = (
  λ r. (r.rows, r.answers, r.ten, r.crossed),
  λ (a, c, d, e). record { rows = a; answers = c; ten = d; crossed = e },
)
