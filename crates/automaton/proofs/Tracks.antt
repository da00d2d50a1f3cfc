-- The invariant of demand 2: what is held says, for every valuation, at which positions a run of the automaton stands. It is stated for any book
-- and any such run, kept by every event whatever positions may begin a match there, and carried along the calls by the law of runs that stay
-- alike. For Listed.
use mathlib.Core.Path.{◌≡◌, refl, sym, ap, ◌∙◌, subst}
use mathlib.Core.Bool.{Bool, true, false, not, ◌&&◌, ◌||◌, true≢false, and-false}
use mathlib.Core.List.{List, [], ◌∷◌, reverse, reverse_aux, Memᴰ}
use Prim.Native.Nat.{ℕ, suc, ◌+◌}
use native.Mathlib.Omega.{arith}
use lib.Dec.{eqb}
use lib.ListN.{length, length-map}
use borrow.Author.Tests.{eqb-true, eq-eqb}
use Rattle.laws.specs.Bits.{bit}
use Rattle.laws.specs.Lists.{any, all}
use Rattle.laws.proofs.Bits.{bit_zero}
use Rattle.laws.proofs.Lists.{any_agree, any_false, any_found, any_of, all_at, same_test, and_true_split}
use Rattle.runs.specs.Runs.{behind_trace}
use Rattle.meaning.specs.Events.{Event, Valuation, holds, concerns}
use Rattle.meaning.specs.Book.{Book, starting_at, sound_symbol, positions, begins_at, ends_at, followers, follows_at, goes_on, symbol_of}
use Rattle.meaning.specs.Labels.{Held, step_set, skip_set, new_held, State, fresh_at}
use Rattle.meaning.specs.Rows.{rows, value_of, leaves_free}
use Rattle.meaning.specs.Runs.{Call, trace_of, run}
use Rattle.automaton.proofs.Members.{rows_member}
use Rattle.automaton.proofs.Fits.{fits, closed_fits}
use Rattle.automaton.proofs.Step.{wide, step_set_wide, new_held_wide, step_set_fits, skip_set_fits, new_held_fits}
use Rattle.automaton.proofs.Plain.{run_trace, alike_run}
use Rattle.automaton.proofs.Automaton.{steps, moves, completes, limited, reached, next_by}
use Rattle.automaton.proofs.Bound.{closed}

-- What is held says, for every valuation and every test on positions, where the run for that valuation stands, at the positions that something
-- follows. Quantifying over tests avoids membership.
pub record Tracks (b : Book) (held : List Held) (at : Valuation → ℕ → Bool) : Type 0 where
  pub full : wide b.variables held ≡ true
  pub stands : (σ : Valuation) → length σ ≡ b.variables → (F : ℕ → Bool)
      → any (λ h. F h.position && fits σ h.disjunct) held ≡ any (λ p. F p && (goes_on b p && at σ p)) (positions b)

-- a position that is followed goes on
follows_on : (b : Book) (p q : ℕ) → follows_at b p q ≡ true → goes_on b p ≡ true
follows_on b p q h = go (eqb (followers b p) 0) refl
  where
    go : (z : Bool) → eqb (followers b p) 0 ≡ z → not z ≡ true
    go true e = absurd (true≢false (sym h ∙ ap (bit q) (eqb-true _ _ e) ∙ bit_zero q))
    go false e = refl

module _ (b : Book) (formed : all (sound_symbol b.variables) b.symbols ≡ true) where
  -- nothing held: no run stands anywhere
  pub tracks_none : Tracks b [] (λ σ p. false)
  tracks_none = record { full = refl; stands = λ σ w F. sym (any_agree _ (λ p. false) (positions b) (λ p m. simp (and-false)) ∙ any_false (positions b)) }

  -- an event, with any set of beginning positions
  module _ (m : ℕ) (held : List Held) (at : Valuation → ℕ → Bool) (inv : Tracks b held at) (e : Event) where
    abbrev any_start : Book
    any_start = starting_at m b

    module _ (σ : Valuation) (w : length σ ≡ b.variables) where
      -- the step set of q holds σ where the run steps to q
      step_stands : (q : ℕ) → any (fits σ) (step_set any_start held e q) ≡ steps any_start σ (at σ) e q
      step_stands q =
          step_set_fits any_start formed held inv.full e σ w q
          ∙ ap (λ (x : Bool). holds (symbol_of b q) e σ && (begins_at any_start q || x))
          (inv.stands σ w (λ p. follows_at b p q)
          ∙ any_agree _ _ (positions b) (λ p m. go p (follows_at b p q) refl))
        where
          -- what is followed goes on
          go : (p : ℕ) (f : Bool) → follows_at b p q ≡ f
              → (follows_at b p q && (goes_on b p && at σ p)) ≡ (follows_at b p q && at σ p)
          go p true e = rw (follows_on b p q e)
          go p false e = rw e

      skip_stands : (p : ℕ) → Memᴰ p (positions b) → goes_on b p ≡ true
          → any (fits σ) (skip_set any_start held e p) ≡ (at σ p && not (concerns b.symbols e σ))
      skip_stands p m g =
          skip_set_fits any_start formed held inv.full e σ w p
          ∙ ap (λ (x : Bool). x && not (concerns b.symbols e σ))
          (inv.stands σ w (λ q. eqb q p)
          ∙ same_test _ _
          (λ a. let f = any_found _ (positions b) a in
          let s = and_true_split _ _ f.2 in
          subst (λ (q : ℕ). at σ q ≡ true) (eqb-true f.0 p s.0) (and_true_split (goes_on b f.0) (at σ f.0) s.1).1)
          (λ a. any_of _ m (rw (eq-eqb p p refl, g, a))))

    pub tracks_next : Tracks b (new_held any_start held e) (λ σ. moves any_start σ (at σ) e)
    tracks_next = record {
      full = new_held_wide any_start formed held inv.full e;
      stands = λ σ w F.
          new_held_fits any_start formed held inv.full e σ w F ∙ any_agree _ _ (positions b) (λ p m. ap (F p &&◌) (go p m σ w (goes_on b p) refl));
    }
      where
        go : (p : ℕ) → Memᴰ p (positions b) → (σ : Valuation) → length σ ≡ b.variables → (g : Bool) → goes_on b p ≡ g
            → (g && (any (fits σ) (skip_set any_start held e p) || any (fits σ) (step_set any_start held e p))) ≡ (g && moves any_start σ (at σ) e p)
        go p m σ w true g = rw (skip_stands σ w p m g, step_stands σ w p)
        go p m σ w false g = refl

    -- the rows of an event are the valuations for which the run comes to an end with it
    module _ (none : leaves_free any_start held e ≡ false) (σ : Valuation) where
      pub row_width : Memᴰ σ (rows any_start held e) → length σ ≡ b.variables
      row_width m =
          let (q, among, ends, (D, step, value)) = (rows_member any_start held e σ).0 m in
          ap length value ∙ length-map D value_of
          ∙ eqb-true _ _ (all_at (λ E. eqb (length E) b.variables) (step_set_wide any_start formed held inv.full e q) step)

      pub row_completes : Memᴰ σ (rows any_start held e) → completes any_start σ (at σ) e ≡ true
      row_completes m =
          let (q, among, ends, (D, step, value)) = (rows_member any_start held e σ).0 m in
          let stands = any_of (fits σ) step ((closed_fits σ D (closed any_start held e none q among ends D step)).1 value) in
          any_of _ among (rw (ends, ← step_stands σ (row_width m) q) stands)

      pub completes_row : length σ ≡ b.variables → completes any_start σ (at σ) e ≡ true → Memᴰ σ (rows any_start held e)
      completes_row w h =
          let f = any_found _ (positions b) h in
          let s = and_true_split (ends_at b f.0) _ f.2 in
          let g = any_found (fits σ) (step_set any_start held e f.0) (step_stands σ w f.0 ∙ s.1) in
          let none_free = closed any_start held e none f.0 f.1 s.0 g.0 g.1 in
          (rows_member any_start held e σ).1 (f.0, f.1, s.0, (g.0, g.1, (closed_fits σ g.0 none_free).0 g.2))

  -- Along a run from nothing held, whichever events may begin a match: what is held tracks the automaton over the trace, newest event first. The
  -- trace is a run too, so this is the law of two runs that stay alike.
  module _ (may : ℕ → Bool) (n : ℕ) where
    -- the events that may begin a match, by their places in the trace
    abbrev pub may_begin : ℕ → Bool
    may_begin i = may (n + i)

    abbrev Follows : State → List Event → Type 0
    Follows s t = (s.number ≡ n + length t) × Tracks b s.held (λ σ. reached may_begin b σ t)

    follows_next : (s : State) (t : List Event) → Follows s t → (e : Event) → Follows (next_by may b s e) (e ∷ t)
    follows_next s t (h, inv) e =
        let k : suc s.number ≡ n + suc (length t) = omega arith in
        (k, rw k (tracks_next (limited (may (n + suc (length t))) b).begins s.held _ inv e))

    newest_first_law : (t u : List Event) → behind_trace (λ (l : List Event) e. e ∷ l) u t ≡ reverse_aux t u
    newest_first_law [] u = refl
    newest_first_law (e ∷ t) u = newest_first_law t (e ∷ u)

    pub tracked : (cs : List Call) → Follows (run (next_by may b) (fresh_at n) cs) (reverse (trace_of cs))
    tracked cs =
        let same : run (λ (l : List Event) e. e ∷ l) [] cs ≡ reverse (trace_of cs) = run_trace _ [] cs ∙ newest_first_law (trace_of cs) [] in
        rw same at (alike_run (next_by may b) (λ l e. e ∷ l) Follows follows_next (fresh_at n) [] (omega arith, tracks_none) cs)
