-- The words beside `meets_words`, `skip_rule` (crate automaton), `state_stored_law` (state), `delivered_words`, `judged_words` and
-- `broken_words` (demands), each with its text.
use mathlib.Core.Path.{◌≡◌, refl}
use mathlib.Core.Bool.{true, false}
use mathlib.Core.List.{List, [], map, Memᴰ}
use mathlib.Core.Logic.{◌↔◌, ◌⊎◌}
use Prim.Native.Nat.{ℕ, suc, ◌≤◌, ◌<◌}
use lib.ListN.{length, take, replicate}
use Rattle.laws.specs.Order.{ascending}
use Rattle.runs.specs.Runs.{Within}
use Rattle.pattern.specs.Regex.{Regex}
use Rattle.meaning.specs.Events.{Event, Valuation, Demand, never, demands, constraint_of}
use Rattle.meaning.specs.Meaning.{Tracematch, Row}
use Rattle.meaning.specs.Book.{book_of, positions}
use Rattle.meaning.specs.Book as Plain
use Rattle.meaning.specs.Labels.{Entry, bound, free, Disjunct, Held, exclusions, label_of, step_set, skip_through, new_held}
use Rattle.meaning.specs.Room.{Broken}
use Rattle.meaning.specs.Rows.{compare_valuations}
use Rattle.automaton.proofs.Entries.{Admitted}
use Rattle.automaton.proofs.Stems.{asked}
use Rattle.form.specs.Text.{Bytes, Declarations, tracematch_of}
use Rattle.form.specs.Form.{Form}
use Rattle.record.specs.Records.{is_record, event_in}
use Rattle.book.specs.Books.{reading}
use Rattle.book.specs.declared.Book.{Book}
use Rattle.state.specs.declared.State.{State}
use Rattle.state.proofs.Words.{vacant}
use Rattle.calls.specs.Answers.{number_of}
use Rattle.calls.specs.Calls.{taken, buffer_after}
use Rattle.calls.specs.Runs.{Lent, Call, event, Made, make, all_bytes, run_of, accepted_in, records_of, trace_of, Delivered, held_after, TooShort, Judged}
use Rattle.calls.specs.Runs.{Partners, InOrder, Crossed}
use Rattle.calls.specs.Demands.{Demands}
use Rattle.demands.proofs.Checks.{through, FourRules}
use Rattle.demands.proofs.RunWords.{Exactly, Usable, Crowded, Short, Answers}

pub admitted_said : (a x : ℕ) (xs : List ℕ) → (Admitted (bound a) x ≡ (a ≡ x)) × (Admitted (free xs) x ≡ (Memᴰ x xs → ⊥))
admitted_said a x xs = (refl, refl)

pub asked_said : (ds : List Demand) → (asked never ≡ []) × (asked (demands ds) ≡ ds)
asked_said ds = (refl, refl)

pub vacant_said : vacant ≡ replicate 4 (record { bound = false; value = 0; count = 0; excluded = replicate 6 0 })
vacant_said = refl

pub exactly_said : (tm : Tracematch) (t : List Event) (n : ℕ) (l : List Valuation)
    → Exactly tm t n l ≡ ((ascending compare_valuations l ≡ true) × ((σ : Valuation) → Memᴰ σ l ↔ Row tm t n σ))
exactly_said tm t n l = refl

pub usable_said : (tm : Tracematch) (t : List Event) (l : Lent)
    → (Usable tm t l ≡ ((is_record l.bytes ≡ true) × (length t < 1000000)))
    × (Crowded tm t l ≡ Broken (book_of tm) (held_after tm t) (event_in l.bytes))
    × (Short tm t l ≡ TooShort tm t (event_in l.bytes) l.buffer l.place)
usable_said tm t l = (refl, refl, refl)

pub answers_said : (tm : Tracematch) (t : List Event) (l : Lent) (k : ℕ)
    → Answers tm t l k
    ≡ (((k ≡ 10) × (is_record l.bytes ≡ false))
    ⊎ (((k ≡ 11) × (is_record l.bytes ≡ true) × (length t ≡ 1000000))
    ⊎ (((k ≡ 12) × Usable tm t l × Crowded tm t l)
    ⊎ (((k ≡ 13) × Usable tm t l × (Crowded tm t l → ⊥) × Short tm t l)
    ⊎ ((k ≡ 0) × Usable tm t l × (Crowded tm t l → ⊥) × (Short tm t l → ⊥))))))
answers_said tm t l k = refl

pub through_said : (b : Plain.Book) (held : List Held) (e : Event) (p k : ℕ)
    → through b held e p k ≡ skip_through (take k (map (λ y. constraint_of y e) b.symbols)) (label_of held p)
through_said b held e p k = refl

pub rules_said : (b : Plain.Book) (held : List Held) (e : Event)
    → FourRules b held e
    ≡ (((q : ℕ) × Memᴰ q (positions b) × (128 < length (step_set b held e q)))
    ⊎ (((p : ℕ) × (k : ℕ) × Memᴰ p (positions b) × (1 ≤ k) × (k ≤ length b.symbols) × (128 < length (through b held e p k)))
    ⊎ (((p : ℕ) × (k : ℕ) × Memᴰ p (positions b) × (1 ≤ k) × (k ≤ length b.symbols)
    × ((D : Disjunct) × Memᴰ D (through b held e p k) × ((x : Entry) × Memᴰ x D × (6 < length (exclusions x)))))
    ⊎ (128 < length (new_held b held e)))))
rules_said b held e = refl

-- a call in a state: what it lends, what is handed back, and what is left in the buffer
pub make_said : (b : Book) (s : State) (l : Lent)
    → make b s (event l)
    ≡ record {
      lent = l;
      taken = taken b s l.bytes l.buffer l.place l.tally;
      buffer = buffer_after b s l.bytes l.buffer l.place;
    }
unfolding make
make_said b s l = refl

-- all that is promised of a text with answer 0 (theorem `demands`)
pub demands_said : (text : Bytes) (d : Declarations) (r : Regex)
    → Demands text d r
    ↔ (Form text d r
    × ((cs : List Call) → all_bytes cs ≡ true → (i : ℕ) (m : Made) → Within (accepted_in (run_of (reading text).book cs)) i m
    → Delivered (tracematch_of d r) (trace_of (run_of (reading text).book cs)) (suc i) m)
    × ((cs : List Call) → all_bytes cs ≡ true → (k : ℕ) (m : Made) → Within (run_of (reading text).book cs) k m
    → Judged (tracematch_of d r) (trace_of (take k (run_of (reading text).book cs))) m.lent (number_of m.taken.answer))
    × ((xs ys : List Call) → all_bytes xs ≡ true → all_bytes ys ≡ true
    → (p : Partners (records_of (run_of (reading text).book xs)) (records_of (run_of (reading text).book ys)))
    → InOrder (tracematch_of d r) (records_of (run_of (reading text).book xs)) (records_of (run_of (reading text).book ys)) p
    → Crossed (tracematch_of d r) (run_of (reading text).book xs) (run_of (reading text).book ys) p))
demands_said text d r = (
  λ x. (x.form, x.rows, x.answers, x.crossed),
  λ (a, b, c, e). record { form = a; rows = b; answers = c; crossed = e },
)
