-- The rows of the starred roasts that are event runs, as Anchors computes them, are those of the declarative meaning (`starred_listed`):
-- their tracematches are proper and their events well formed, so that `listed` applies.
use mathlib.Core.Path.{◌≡◌, refl, sym, ap, ap₂, ◌∙◌}
use mathlib.Core.Bool.{Bool, true, false, cond, ◌&&◌}
use mathlib.Core.List.{List, [], ◌∷◌, Memᴰ}
use Prim.Native.Nat.{ℕ, suc, ◌<◌}
use lib.ListN.{length, get_or}
use Rattle.laws.specs.Lists.{all}
use Rattle.laws.proofs.Lists.{and_true_split, map_at}
use Rattle.meaning.specs.Events.{Event, well_formed}
use Rattle.meaning.specs.Book.{Book, book_of}
use Rattle.meaning.specs.Labels.{Held, new_held}
use Rattle.meaning.specs.Room.{room}
use Rattle.meaning.specs.Rows.{rows}
use Rattle.meaning.specs.Runs.{Call, trace_of, given, row_lists, Listed}
use Rattle.meaning.specs.Starred.{Case, accepted, no_room, answers, table, calls_of, rows_of}
use Rattle.automaton.proofs.ProperTest.{proper_test}
use Rattle.automaton.proofs.Listed.{listed}
use Rattle.meaning.proofs.Anchors.{outcome, wanted, starred}

-- the rows among the answers are those that the run of the calls gives
answers_given : (b : Book) (held : List Held) (es : List Event) → rows_of (answers b held es) ≡ given (new_held b) (rows b) held (calls_of b held es)
answers_given b held [] = refl
answers_given b held (e ∷ es) = go (room b held e) (answers_given b (new_held b held e) es) (answers_given b held es)
  where
    go : (t : Bool) → rows_of (answers b (new_held b held e) es) ≡ given (new_held b) (rows b) (new_held b held e) (calls_of b (new_held b held e) es)
        → rows_of (answers b held es) ≡ given (new_held b) (rows b) held (calls_of b held es)
        → rows_of (cond t (accepted (rows b held e) ∷ answers b (new_held b held e) es) (no_room ∷ answers b held es))
        ≡ given (new_held b) (rows b) held (cond t (Call.event e true ∷ calls_of b (new_held b held e) es) (Call.event e false ∷ calls_of b held es))
    go true more same = ap (rows b held e ∷◌) more
    go false more same = same

-- and their trace has only events that were sent
calls_all : (f : Event → Bool) (b : Book) (held : List Held) (es : List Event) → all f es ≡ true → all f (trace_of (calls_of b held es)) ≡ true
calls_all f b held [] h = refl
calls_all f b held (e ∷ es) h =
    let s = and_true_split (f e) (all f es) h in
    go (room b held e) s.0 (calls_all f b (new_held b held e) es s.1) (calls_all f b held es s.1)
  where
    go : (t : Bool) → f e ≡ true → all f (trace_of (calls_of b (new_held b held e) es)) ≡ true → all f (trace_of (calls_of b held es)) ≡ true
        → all f (trace_of (cond t (Call.event e true ∷ calls_of b (new_held b held e) es) (Call.event e false ∷ calls_of b held es))) ≡ true
    go true x more same = ap₂ ◌&&◌ x more
    go false x more same = same

-- the rows of the accepted events of a case are those of the declarative meaning over its trace
pub starred_listed : (c : Case) → Memᴰ c table → (i : ℕ) → i < length (trace_of (calls_of (book_of c.tracematch) [] c.events))
    → Listed c.tracematch (trace_of (calls_of (book_of c.tracematch) [] c.events)) (suc i) (get_or (rows_of c.expected) i [])
starred_listed c m i h =
    let b = book_of c.tracematch in
    let out : outcome c ≡ wanted c = map_at outcome wanted starred m in
    let rows_there : rows_of c.expected ≡ row_lists c.tracematch (calls_of b [] c.events) =
    sym (ap (λ o. rows_of o.2) out) ∙ answers_given b [] c.events in
    rw rows_there (listed c.tracematch ((proper_test c.tracematch).0 (ap (λ o. o.0) out)) (calls_of b [] c.events)
    (calls_all well_formed b [] c.events (ap (λ o. o.1) out)) i h)
