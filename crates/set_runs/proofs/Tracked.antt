-- One book behind a trace of accepted events, whoever else takes them: the struct of its state is that of the plain state behind the trace, what the
-- definitions of a call read in it, and its rows. For sets, where a book takes the events that all take.
use mathlib.Core.Path.{◌≡◌, refl, sym, ap, ap₂, subst, ◌∙◌}
use mathlib.Core.Bool.{true, false}
use mathlib.Core.List.{List, [], ◌∷◌, ◌++◌, map}
use Prim.Native.Nat.{suc, ◌≤◌, ◌<◌}
use native.Mathlib.Omega.{arith}
use lib.ListN.{length, length-append}
use Rattle.laws.specs.Lists.{all}
use Rattle.laws.proofs.Lists.{all_more}
use Rattle.runs.proofs.Runs.{trace_more}
use Rattle.meaning.specs.Events.{Event, well_formed}
use Rattle.meaning.specs.Meaning.{Tracematch}
use Rattle.meaning.specs.Book.{book_of, Proper}
use Rattle.meaning.specs.Labels.{State, new_held}
use Rattle.meaning.specs.Room.{room}
use Rattle.meaning.specs.Rows.{rows}
use Rattle.meaning.specs.Sound.{event_limit}
use Rattle.meaning.specs.Runs as Runs
use Rattle.meaning.specs.Runs.{Listed}
use Rattle.form.specs.Text.{Bytes}
use Rattle.book.specs.declared.Book.{Book}
use Rattle.state.specs.declared.State.{State as Struct}
use Rattle.state.specs.States.{state_of}
use Rattle.calls.specs.Calls.{fresh_state, rows_by, state_by, room_by, unsound}
use Rattle.calls.specs.Runs.{held_after}
use Rattle.demands.proofs.States.{number_within, few_held, piece}
use Rattle.demands.proofs.Bridge.{Read, Steady, steady_fresh, steady_next, variables, rows_by_law, state_by_law, room_by_law, sound_by}
use Rattle.demands.proofs.Answered.{listed_next}
use Rattle.lent_runs.proofs.Accepted.{few_of}
use Rattle.blocks.proofs.States.{Canonical, canonical_of}

-- the plain state behind a trace
abbrev pub behind_of : Tracematch → List Event → State
behind_of tm t = record { number = length t; held = held_after tm t }

pub record Tracked (tm : Tracematch) (t : List Event) (z : Struct) : Type 0 where
  pub struct : z ≡ state_of (behind_of tm t)
  pub steady : Steady tm (behind_of tm t)
  pub formed : all well_formed t ≡ true

pub tracked_fresh : (tm : Tracematch) → Tracked tm [] fresh_state
unfolding fresh_state
tracked_fresh tm = record { struct = refl; steady = steady_fresh tm 0 (omega arith); formed = refl }

-- a plain run that accepts all of a trace
abbrev taken_all : List Event → List Runs.Call
taken_all t = map (λ e. Runs.event e true) t

trace_all : (t : List Event) → Runs.trace_of (taken_all t) ≡ t
trace_all [] = refl
trace_all (e ∷ t) = ap (e ∷◌) (trace_all t)

-- the rows of the event that follows a trace, by the declarative meaning
pub listed_after : (tm : Tracematch) → Proper tm → (t : List Event) → all well_formed t ≡ true → (e : Event) → well_formed e ≡ true
    → Listed tm (t ++ (e ∷ [])) (suc (length t)) (rows (book_of tm) (held_after tm t) e)
listed_after tm ok t good e w =
    subst (λ u. Listed tm (u ++ (e ∷ [])) (suc (length u)) (rows (book_of tm) (held_after tm u) e)) (trace_all t)
    (listed_next tm ok (taken_all t) (rw (trace_all t) good) e w)

module _ (b : Book) (tm : Tracematch) (rd : Read b tm) (t : List Event) (z : Struct) (h : Tracked tm t z) where
  pub tracked_number : z.number ≡ length t
  unfolding state_of
  tracked_number = ap (λ z. z.number) h.struct

  pub tracked_few : length t ≤ event_limit
  tracked_few = number_within (book_of tm) (behind_of tm t) h.steady.sound

  pub tracked_variables : b.variables ≡ tm.variables
  unfolding book_of
  tracked_variables = variables b tm rd (behind_of tm t) h.steady

  pub tracked_rows : (e : Event) → rows_by b z e ≡ rows (book_of tm) (held_after tm t) e
  tracked_rows e = rw h.struct (rows_by_law b tm rd (behind_of tm t) h.steady e)

  pub tracked_room : (e : Event) → room_by b z e ≡ room (book_of tm) (held_after tm t) e
  tracked_room e = rw h.struct (room_by_law b tm rd (behind_of tm t) h.steady e)

  pub tracked_sound : (bytes : Bytes) → unsound b z bytes ≡ false
  tracked_sound bytes = rw h.struct (sound_by b tm rd (behind_of tm t) h.steady bytes)

  -- its words can be told
  pub tracked_canonical : Canonical z
  unfolding book_of
  tracked_canonical =
      let s = behind_of tm t in
      let sound = h.steady.sound in
      rw h.struct
      (canonical_of s (few_held (book_of tm) s sound) (λ x m.
      let (size, each) = piece (book_of tm) s sound x m in (omega (arith, size, rd.proper.variables), few_of x.disjunct each)))

  module _ (e : Event) where
    behind_next : state_by b z e ≡ state_of (behind_of tm (t ++ (e ∷ [])))
    behind_next =
        rw h.struct (state_by_law b tm rd (behind_of tm t) h.steady e
        ∙ ap₂ (λ n l. state_of (record { number = n; held = l })) (sym (length-append t (e ∷ [])
        ∙ omega arith)) (sym (trace_more (new_held (book_of tm)) [] t (e ∷ []))))

    pub tracked_next : well_formed e ≡ true → length t < event_limit → room (book_of tm) (held_after tm t) e ≡ true
        → Tracked tm (t ++ (e ∷ [])) (state_by b z e)
    tracked_next w below roomy =
        let next = steady_next tm rd.proper (behind_of tm t) h.steady e (record { formed = w; below = below; roomy = roomy }) in
        record {
          struct = behind_next;
          steady = subst (Steady tm)
              (ap₂ (λ n l. record { number = n; held = l }) (sym (length-append t (e ∷ [])
              ∙ omega arith)) (sym (trace_more (new_held (book_of tm)) [] t (e ∷ [])))) next;
          formed = all_more well_formed t e h.formed w;
        }

    pub tracked_listed : well_formed e ≡ true → Listed tm (t ++ (e ∷ [])) (suc (length t)) (rows_by b z e)
    tracked_listed w = rw (tracked_rows e) (listed_after tm rd.proper t h.formed e w)
