-- Plain runs, by the laws of runs of any machine: what they reach depends on their trace alone, two of them stay alike event by event, and each
-- accepted event met the state behind the calls before it.
use mathlib.Core.Path.{◌≡◌, refl, ap, ◌∙◌}
use mathlib.Core.Bool.{Bool, true, false, cond}
use mathlib.Core.List.{List, [], ◌∷◌, ◌++◌, map, map-append}
use Prim.Native.Nat.{ℕ, suc, ◌+◌, ◌<◌}
use native.Mathlib.Omega.{arith}
use lib.ListN.{length, get_or, take, length-map}
use Rattle.laws.specs.Lists.{keep}
use Rattle.laws.proofs.Lists.{either}
use Rattle.laws.proofs.Maps.{take_map}
use Rattle.runs.specs.Runs.{results_from, behind_trace, Within}
use Rattle.runs.proofs.Runs.{within_at, within_map, results_take, result_there, along_each, kept_along, followed}
use Rattle.runs.proofs.Accepted.{passed_at, passed_there, as_many}
use Rattle.meaning.specs.Events.{Event}
use Rattle.meaning.specs.Meaning.{no_event}
use Rattle.meaning.specs.Book.{Book}
use Rattle.meaning.specs.Labels.{State, next, new_held}
use Rattle.meaning.specs.Runs.{Call, sent_event, was_taken, trace_of, PlainResult, plain_machine, run, given}

-- what a run reaches depends on its trace alone
pub run_trace : {S : Type 0} (step : S → Event → S) (s : S) (cs : List Call) → run step s cs ≡ behind_trace step s (trace_of cs)
run_trace step s [] = refl
run_trace {S} step s (c ∷ cs) = go (was_taken c) (λ t. run_trace step t cs)
  where
    go : (z : Bool) → ((t : S) → run step t cs ≡ behind_trace step t (trace_of cs))
        → run step (cond z (step s (sent_event c)) s) cs ≡ behind_trace step s (map sent_event (cond z (c ∷ keep was_taken cs) (keep was_taken cs)))
    go true ih = ih (step s (sent_event c))
    go false ih = ih s

-- a state counts the events and moves what it holds
pub behind_state : (b : Book) (s : State) (t : List Event) (n : ℕ) → n ≡ s.number + length t
    → behind_trace (next b) s t ≡ record { number = n; held = behind_trace (new_held b) s.held t }
behind_state b s [] n h = let e : n ≡ s.number = omega arith in rw e
behind_state b s (e ∷ t) n h = behind_state b (next b s e) t n (omega arith)

-- so a run of states and one of what they hold go together
pub run_state : (b : Book) (s : State) (cs : List Call)
    → run (next b) s cs ≡ record { number = s.number + length (trace_of cs); held = run (new_held b) s.held cs }
run_state b s cs = rw (run_trace (next b) s cs, run_trace (new_held b) s.held cs) (behind_state b s (trace_of cs) _ refl)

pub run_held : (b : Book) (s : State) (cs : List Call) → (run (next b) s cs).held ≡ run (new_held b) s.held cs
run_held b s cs = ap (λ z. z.held) (run_state b s cs)

-- what every event keeps holds behind a run
pub kept_run : {S : Type 0} (step : S → Event → S) (I : S → Type 0) → ((s : S) → I s → (e : Event) → I (step s e))
    → (s : S) → I s → (cs : List Call) → I (run step s cs)
kept_run {S} step I keeps s i cs =
    kept_along (plain_machine step (λ s e. e)) I {P = λ s c. c ≡ c} each i (along_each (plain_machine step (λ s e. e)) s cs (λ t c m. refl))
  where
    each : (s : S) → I s → (c : Call) → c ≡ c → I (cond (was_taken c) (step s (sent_event c)) s)
    each s i c _ = either I (was_taken c) (λ _. keeps s i (sent_event c)) (λ _. i)

-- the results of a plain run tell its calls
pub results_calls : {S R : Type 0} (step : S → Event → S) (give : S → Event → R) (s : S) (cs : List Call)
    → map (λ r. r.call) (results_from (plain_machine step give) s cs) ≡ cs
results_calls step give s [] = refl
results_calls step give s (c ∷ cs) = ap (c ∷◌) (results_calls step give (cond (was_taken c) (step s (sent_event c)) s) cs)

-- two plain runs over the same calls stay alike, if every event keeps them so
pub alike_run : {S T : Type 0} (step : S → Event → S) (move : T → Event → T) (Like : S → T → Type 0)
    → ((s : S) (t : T) → Like s t → (e : Event) → Like (step s e) (move t e))
    → (s : S) (t : T) → Like s t → (cs : List Call) → Like (run step s cs) (run move t cs)
alike_run {S} {T} step move Like keeps s t h cs =
    rw (results_calls step (λ s e. e) s cs) at
    (followed (plain_machine step (λ s e. e)) (plain_machine move (λ s e. e)) (λ r. r.call) Like {P = λ c. c ≡ c} each s t h cs (λ c m. refl))
  where
    each : (s : S) (t : T) → Like s t → (c : Call) → c ≡ c
        → Like (cond (was_taken c) (step s (sent_event c)) s) (cond (was_taken c) (move t (sent_event c)) t)
    each s t h c _ = go (was_taken c)
      where
        go : (z : Bool) → Like (cond z (step s (sent_event c)) s) (cond z (move t (sent_event c)) t)
        go true = keeps s t h (sent_event c)
        go false = h

-- What the accepted event number i (from 0) gave: it was given the state after the calls before it.
pub record AtEvent {S R : Type 0} (step : S → Event → S) (give : S → Event → R) (d : R) (s : S) (cs : List Call) (i : ℕ) : Type 0 where
  pub before : List Call
  pub now : Event
  pub gave : get_or (given step give s cs) i d ≡ give (run step s before) now
  pub trace : take (suc i) (trace_of cs) ≡ trace_of before ++ (now ∷ [])
  pub at : get_or (trace_of cs) i no_event ≡ now
  pub count : length (trace_of before) ≡ i

pub at_event : {S R : Type 0} (step : S → Event → S) (give : S → Event → R) (d : R) (s : S) (cs : List Call) (i : ℕ) → i < length (trace_of cs)
    → AtEvent step give d s cs i
at_event {S} {R} step give d s cs i h =
    let accepts : PlainResult S R → Bool = λ r. was_taken r.call in
    let m = plain_machine step give in
    let (c, w) = within_at (keep was_taken cs) i (rw length-map at h) in
    let p = passed_at was_taken cs i c w in
    let k = p.place in
    let many : length (keep accepts (take k (results_from m s cs))) ≡ i =
    rw (results_take m s k cs) (as_many m accepts was_taken (λ s c. refl) s (take k cs) ∙ p.before) in
    let r : PlainResult S R = m.gives (run step s (take k cs)) c in
    let there : Within (keep accepts (results_from m s cs)) i r =
    rw many at (passed_there accepts (results_from m s cs) k r (result_there m s cs k c p.there) p.passes) in
    record {
      before = take k cs;
      now = sent_event c;
      gave = (within_map (λ q. q.gave) there).at d;
      trace = take_map sent_event (suc i) (keep was_taken cs) ∙ ap (map sent_event) p.upto ∙ map-append sent_event (keep was_taken (take k cs)) (c ∷ []);
      at = (within_map sent_event w).at no_event;
      count = rw length-map p.before;
    }
