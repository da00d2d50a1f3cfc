-- Theorem `listed` (demand 2 on plain data): along every run from the fresh state, whatever was refused, the rows of each accepted event are,
-- ascending and once each, exactly the valuations of the declarative meaning. It is the instance of `listed_by`, in which any events may begin a match.
use mathlib.Core.Path.{◌≡◌, refl, sym, ap, subst, subst₂, ◌∙◌}
use mathlib.Core.Bool.{Bool, true}
use mathlib.Core.List.{List, [], ◌∷◌, ◌++◌, reverse, reverse-reverse, reverse-cons, Memᴰ}
use mathlib.Core.Logic.Iff
use mathlib.Core.Logic.{◌↔◌}
use Prim.Native.Nat.{ℕ, suc, ◌+◌, ◌-◌, ◌<◌}
use native.Mathlib.Omega.{arith}
use lib.Dec.{eqb}
use lib.ListN.{length, get_or, take, length-reverse}
use lib.Seq.{get_or-append_seam, get_or-take}
use borrow.Author.Tests.{eqb-true}
use Rattle.laws.specs.Lists.{all}
use Rattle.laws.proofs.Lists.{all_take, and_true_split}
use Rattle.meaning.specs.Events.{Event, Valuation, well_formed, is_valuation, concerns}
use Rattle.meaning.specs.Meaning.{Tracematch, no_event, Row}
use Rattle.meaning.specs.Book.{Book, book_of, Proper}
use Rattle.meaning.specs.Labels.{Held, new_held, fresh, fresh_at}
use Rattle.meaning.specs.Rows.{rows}
use Rattle.meaning.specs.Runs.{Call, trace_of, run, held_after, row_lists, Listed}
use Rattle.automaton.proofs.Members.{rows_ascending}
use Rattle.automaton.proofs.Plain.{run_held, AtEvent, at_event}
use Rattle.automaton.proofs.Automaton.{limited, next_by, MatchFrom, completed_match, match_valuation, match_prefix}
use Rattle.automaton.proofs.Reduced.{reduced_match}
use Rattle.automaton.proofs.Bound.{none_left_free_by}
use Rattle.automaton.proofs.Tracks.{tracked, row_width, row_completes, completes_row}

valuation_length : (n : ℕ) (σ : Valuation) → is_valuation n σ ≡ true → length σ ≡ n
unfolding is_valuation
valuation_length n σ v = eqb-true _ _ (and_true_split (eqb (length σ) n) _ v).0

-- The event e after the calls `before`, in a run from nothing held after n events, where the events with the numbers that `may` tells may begin a
-- match: with all of them this is the book, with those up to some number the matches that began by then.
module _ (tm : Tracematch) (ok : Proper tm) (may : ℕ → Bool) (n : ℕ) (before : List Call) (e : Event)
    (good : all well_formed (trace_of before ++ (e ∷ [])) ≡ true) (σ : Valuation) where
  abbrev pub Matched : Type 0
  Matched =
      (is_valuation tm.variables σ ≡ true) × (concerns tm.symbols e σ ≡ true)
      × ((first : ℕ) × MatchFrom (λ i. may (n + i)) tm (trace_of before ++ (e ∷ [])) first (suc (length (trace_of before))) σ)

  -- the trace the right way round
  turned : reverse (e ∷ reverse (trace_of before)) ≡ trace_of before ++ (e ∷ [])
  turned = reverse-cons e (reverse (trace_of before)) ∙ ap (λ (l : List Event). l ++ (e ∷ [])) (reverse-reverse (trace_of before))

  abbrev FoundIn : List Event → ℕ → Type 0
  FoundIn t k = (first : ℕ) × MatchFrom (λ i. may (n + i)) tm t first (suc k) σ

  abbrev newest_first : List Event
  newest_first = reverse (trace_of before)

  -- the book at the event, and what is held there
  abbrev book_then : Book
  book_then = limited (may (n + suc (length newest_first))) (book_of tm)

  abbrev held : List Held
  held = (run (next_by may (book_of tm)) (fresh_at n) before).held

  row_matched : Memᴰ σ (rows book_then held e) → Matched
  unfolding book_of
  row_matched m =
      let (_, inv) = tracked (book_of tm) ok.symbols may n before in
      let none = none_left_free_by tm ok may n before (may (n + suc (length newest_first))) e in
      let done = row_completes (book_of tm) ok.symbols book_then.begins held _ inv e none σ m in
      let w = row_width (book_of tm) ok.symbols book_then.begins held _ inv e none σ m in
      let (c, f) = (completed_match tm ok (λ i. may (n + i)) σ newest_first e).0 done in
      let (first, g) = subst₂ FoundIn turned (length-reverse (trace_of before)) f in
      (match_valuation tm ok _ good first _ σ w g.match, c, (first, g))

  matched_row : Matched → Memᴰ σ (rows book_then held e)
  unfolding book_of
  matched_row (v, c, f) =
      let (_, inv) = tracked (book_of tm) ok.symbols may n before in
      let none = none_left_free_by tm ok may n before (may (n + suc (length newest_first))) e in
      let done =
      (completed_match tm ok (λ i. may (n + i)) σ newest_first e).1 (c, subst₂ FoundIn (sym turned) (sym (length-reverse (trace_of before))) f) in
      completes_row (book_of tm) ok.symbols book_then.begins held _ inv e none σ (valuation_length tm.variables σ v) done

  pub listed_by : Memᴰ σ (rows (limited (may (n + suc (length (trace_of before)))) (book_of tm)) (run (next_by may (book_of tm)) (fresh_at n) before).held e)
      ↔ Matched
  listed_by =
      subst (λ k. Memᴰ σ (rows (limited (may (n + suc k)) (book_of tm)) held e) ↔ Matched) (length-reverse (trace_of before))
      (row_matched, matched_row)

-- Demand 2 for the event behind any run from the fresh state.
module _ (tm : Tracematch) (ok : Proper tm) (before : List Call) (e : Event) (good : all well_formed (trace_of before ++ (e ∷ [])) ≡ true) where
  -- any event may begin a match, and the first one that concerns σ does
  matched_row_of : (σ : Valuation) → Matched tm ok (λ _. true) 0 before e good σ ↔ Row tm (trace_of before ++ (e ∷ [])) (suc (length (trace_of before))) σ
  matched_row_of σ = (
    λ (v, c, (first, f)). record { valuation = v; concerned = rw last c; first = first; match = f.match },
    λ r. let c = rw last at r.concerned in
        let (first, m, d) = reduced_match tm σ _ _ r.first r.match r.concerned in
        (r.valuation, c, (first, record { match = m; concerned = d; allowed = refl })),
  )
    where
      last : get_or (trace_of before ++ (e ∷ [])) (suc (length (trace_of before)) - 1) no_event ≡ e
      last = let one : suc (length (trace_of before)) - 1 ≡ length (trace_of before) = omega arith in rw one (get_or-append_seam (trace_of before) e [] no_event)

  pub listed_behind : Listed tm (trace_of before ++ (e ∷ [])) (suc (length (trace_of before))) (rows (book_of tm) (held_after tm before) e)
  listed_behind = record {
    ordered = rows_ascending (book_of tm) (held_after tm before) e;
    exact = λ σ. rw (← run_held (book_of tm) fresh before) (Iff.trans (listed_by tm ok (λ _. true) 0 before e good σ) (matched_row_of σ));
  }

-- a row depends on the trace up to its event alone
pub listed_prefix : (tm : Tracematch) (t u : List Event) (n : ℕ) (l : List Valuation) → take (suc n) t ≡ u → Listed tm u (suc n) l → Listed tm t (suc n) l
listed_prefix tm t u n l e a =
    let one : suc n - 1 ≡ n = omega arith in
    let same : get_or u (suc n - 1) no_event ≡ get_or t (suc n - 1) no_event = rw (one, ← e) (get_or-take (suc n) t n no_event (omega arith)) in
    record {
      ordered = a.ordered;
      exact = λ σ. (
        λ m. let r = (a.exact σ).0 m in
            record {
              valuation = r.valuation;
              concerned = rw (← same) r.concerned;
              first = r.first;
              match = (match_prefix tm t r.first (suc n) σ).1 (rw e r.match);
            },
        λ r. (a.exact σ).1 (record {
          valuation = r.valuation;
          concerned = rw same r.concerned;
          first = r.first;
          match = rw e at ((match_prefix tm t r.first (suc n) σ).0 r.match);
        }),
      );
    }

pub listed : (tm : Tracematch) → Proper tm → (cs : List Call) → all well_formed (trace_of cs) ≡ true
    → (i : ℕ) → i < length (trace_of cs) → Listed tm (trace_of cs) (suc i) (get_or (row_lists tm cs) i [])
listed tm ok cs good i h =
    let b = book_of tm in
    let a : AtEvent (new_held b) (rows b) [] [] cs i = at_event (new_held b) (rows b) [] [] cs i h in
    let good' : all well_formed (trace_of a.before ++ (a.now ∷ [])) ≡ true = rw (← a.trace) (all_take well_formed (suc i) (trace_of cs) good) in
    let there = listed_behind tm ok a.before a.now good' in
    rw a.gave (subst (λ k. Listed tm (trace_of cs) (suc k) (rows b (held_after tm a.before) a.now)) a.count
    (listed_prefix tm (trace_of cs) _ _ _ (ap (λ k. take (suc k) (trace_of cs)) a.count ∙ a.trace) there))
