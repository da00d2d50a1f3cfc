-- The course of a run over a read book: the watch follows the plain machine, so each call is made in the struct of the plain state behind the
-- calls before it; with the accepted call in a place, and the plain trace. For Listed, Answered and Crossed.
use mathlib.Core.Path.{◌≡◌, refl, sym, ap, ap₂, subst, ◌∙◌}
use mathlib.Core.Bool.{Bool, true, false, cond, not}
use mathlib.Core.List.{List, [], ◌∷◌, ◌++◌, map, map-append, map-map}
use Prim.Native.Nat.{ℕ, suc, ◌+◌, ◌*◌, ◌≤◌}
use native.Mathlib.Omega.{arith}
use borrow.Author.Tests.{not-true, not-false, eqb-true, eqb-false, ltb-true, ltb-false}
use lib.Dec.{eqb, ltb}
use lib.ListN.{length, take, length-map}
use Rattle.laws.specs.Checks.{Check, none_fails}
use Rattle.laws.specs.Lists.{all, gather}
use Rattle.laws.specs.Parts.{splice}
use Rattle.laws.proofs.Checks.{first_more}
use Rattle.laws.proofs.Lists.{either, all_at, all_of, all_map, all_take}
use Rattle.laws.proofs.Maps.{take_map, keep_map}
use Rattle.runs.specs.Runs.{state_from, Within}
use Rattle.runs.proofs.Runs.{within_mem, mem_within, results_take, result_at, followed}
use Rattle.runs.proofs.Accepted.{passed_at}
use Rattle.meaning.specs.Events.{Event, Valuation, well_formed}
use Rattle.meaning.specs.Meaning.{Tracematch}
use Rattle.meaning.specs.Book.{book_of}
use Rattle.meaning.specs.Labels.{State, fresh_at, next}
use Rattle.meaning.specs.Room.{room}
use Rattle.meaning.specs.Rows.{rows}
use Rattle.meaning.specs.Sound.{event_limit}
use Rattle.meaning.specs.Runs as Runs
use Rattle.form.specs.Text.{Bytes, is_bytes}
use Rattle.record.specs.Records.{is_record, event_in}
use Rattle.record.proofs.Records.{record_event}
use Rattle.book.specs.declared.Book.{Book}
use Rattle.state.specs.declared.State.{State as Struct}
use Rattle.state.specs.States.{state_of}
use Rattle.tally.specs.Tallies.{tallied}
use Rattle.row.specs.RowBytes.{row_size, row_bytes}
use Rattle.calls.specs.declared.EventAnswer.{EventAnswer}
use Rattle.calls.specs.declared.EventAnswer.TheVariants.{OutOfForm, TooMany, NoRoom, NoSpace}
use Rattle.calls.specs.declared.Taken.{Taken}
use Rattle.calls.specs.Calls as Calls
use Rattle.calls.specs.Calls.{is_accepted, rows_by, state_by, answer_to, taken, buffer_after}
use Rattle.calls.specs.Runs.{Lent, Call, lent_at, all_bytes, Made, make, watching, run_from, was_accepted, accepted_in, trace_of}
use Rattle.demands.proofs.States.{number_within}
use Rattle.demands.proofs.Bridge.{Read, Steady, steady_fresh, steady_next, plain_call, plain, Decision, in_form, admissible}
use Rattle.demands.proofs.Bridge.{variables, rows_by_law, state_by_law, room_by_law, sound_by}

-- What a call hands back and leaves, for any book and state.
module _ (b : Book) (s : Struct) (l : Lent) where
  abbrev pub reply : EventAnswer
  reply = answer_to b s l.bytes l.buffer l.place

  abbrev pub back : Taken
  back = taken b s l.bytes l.buffer l.place l.tally

  abbrev pub left : Bytes
  left = buffer_after b s l.bytes l.buffer l.place

  pub taken_answer : back.answer ≡ reply
  unfolding taken
  taken_answer = either (λ (r : Taken). r.answer ≡ reply) (is_accepted reply) (λ _. refl) λ _. refl

  pub taken_refused : is_accepted reply ≡ false
      → (back ≡ record { answer = reply; rows = 0; book = b; state = s; tally = tallied l.tally 0 1 0 }) × (left ≡ l.buffer)
  unfolding taken buffer_after
  taken_refused h = rw h (refl, refl)

  pub taken_accepted : is_accepted reply ≡ true → let rows = rows_by b s (event_in l.bytes) in
      (back.rows ≡ length rows) × (back.state ≡ state_by b s (event_in l.bytes))
      × (left ≡ splice l.place (gather (row_bytes (suc s.number) b.variables) rows) l.buffer)
      × (back.tally ≡ tallied l.tally 1 0 (length rows))
  unfolding taken buffer_after
  taken_accepted h = rw h (refl, refl, refl, refl)

-- What is lent to a call in the struct of a steady state.
module _ (b : Book) (tm : Tracematch) (rd : Read b tm) (s : State) (h : Steady tm s) (l : Lent) where
  abbrev now : Event
  now = event_in l.bytes

  abbrev check : Bool → EventAnswer → Check EventAnswer
  check z a = record { fails = z; answer = a }

  -- the checks one by one
  pub decided : Decision tm s l (answer_to b (state_of s) l.bytes l.buffer l.place)
  unfolding answer_to Calls.out_of_form Calls.too_many Calls.no_room Calls.no_space state_of
  decided =
      let here = row_size * length (rows (book_of tm) s.held now) in
      let c13 = check (ltb (length l.buffer) (l.place + here)) NoSpace in
      let c12 = check (not (room (book_of tm) s.held now)) NoRoom in
      let c11 = check (eqb s.number event_limit) TooMany in
      let c10 = check (not (is_record l.bytes)) OutOfForm in
      record {
        first = rw (sound_by b tm rd s h l.bytes, room_by_law b tm rd s h now, rows_by_law b tm rd s h now)
            (first_more c10 (c11 ∷ c12 ∷ c13 ∷ []) (not-true _) (not-false _)
            (first_more c11 (c12 ∷ c13 ∷ []) (eqb-true _ event_limit)
            (λ f. omega (arith, number_within (book_of tm) s h.sound, eqb-false s.number event_limit f))
            (first_more c12 (c13 ∷ []) (not-true _) (not-false _)
            (first_more c13 [] (ltb-true _ _) (λ f. omega (arith, ltb-false (length l.buffer) (l.place + here) f)) none_fails))));
      }

-- the plain state behind a call
abbrev pub after : Tracematch → State → Made → State
after tm s m = cond (was_accepted m) (next (book_of tm) s (event_in m.lent.bytes)) s

-- what an accepted call in a plain state gives
pub record Written (tm : Tracematch) (s : State) (m : Made) : Type 0 where
  pub counted : m.taken.rows ≡ length (rows (book_of tm) s.held (event_in m.lent.bytes))
  pub left : m.buffer ≡ splice m.lent.place
      (gather (row_bytes (suc s.number) tm.variables) (rows (book_of tm) s.held (event_in m.lent.bytes))) m.lent.buffer
  pub tallies : m.taken.tally ≡ tallied m.lent.tally 1 0 (length (rows (book_of tm) s.held (event_in m.lent.bytes)))
  pub numbered : m.taken.state.number ≡ suc s.number

-- a call that was made in the struct of a plain state
pub record Done (tm : Tracematch) (s : State) (m : Made) : Type 0 where
  pub steady : Steady tm s
  pub formed : is_record m.lent.bytes ≡ true → well_formed (event_in m.lent.bytes) ≡ true
  pub decision : Decision tm s m.lent m.taken.answer
  pub written : was_accepted m ≡ true → Written tm s m

-- A call of bytes in the struct of a steady state, and the struct that it leaves.
module _ (b : Book) (tm : Tracematch) (rd : Read b tm) (s : State) (h : Steady tm s) (c : Call) (bytes : is_bytes (lent_at c).bytes ≡ true) where
  abbrev l : Lent
  l = lent_at c

  abbrev made : Made
  made = make b (state_of s) c

  was : was_accepted made ≡ is_accepted (reply b (state_of s) l)
  unfolding make
  was = ap is_accepted (taken_answer b (state_of s) l)

  done : Done tm s made
  unfolding make book_of state_of
  done = record {
    steady = h;
    formed = record_event l.bytes bytes;
    decision = rw (taken_answer b (state_of s) l) (decided b tm rd s h l);
    written = λ a.
        let (count, state, buffer, tally) = taken_accepted b (state_of s) l (sym was ∙ a) in
        let same = rows_by_law b tm rd s h (event_in l.bytes) in
        let bytes : ℕ → List Valuation → Bytes = λ v w. splice l.place (gather (row_bytes (suc s.number) v) w) l.buffer in
        record {
          counted = count ∙ ap length same;
          left = buffer ∙ ap₂ bytes (variables b tm rd s h) same;
          tallies = tally ∙ ap (λ w. tallied l.tally 1 0 (length w)) same;
          numbered = ap (λ z. z.number) (state ∙ state_by_law b tm rd s h (event_in l.bytes));
        };
  }

  done_state : made.taken.state ≡ state_of (after tm s made)
  unfolding make
  done_state = rw was (go (is_accepted (reply b (state_of s) l)) refl)
    where
      go : (z : Bool) → is_accepted (reply b (state_of s) l) ≡ z → (back b (state_of s) l).state ≡ state_of (cond z (next (book_of tm) s (event_in l.bytes)) s)
      go true e = (taken_accepted b (state_of s) l e).1 ∙ state_by_law b tm rd s h (event_in l.bytes)
      go false e = ap (λ r. r.state) (taken_refused b (state_of s) l e).0

  done_steady : Steady tm (after tm s made)
  done_steady =
      either (Steady tm) (was_accepted made)
      (λ a. steady_next tm rd.proper s h (event_in made.lent.bytes) (admissible tm s made.lent done.decision a done.formed)) (λ _. h)

-- The watch over a read book follows the plain machine: the struct of its state is that of a steady plain state. From nothing held after n events.
module _ (b : Book) (tm : Tracematch) (rd : Read b tm) (n : ℕ) (few : n ≤ event_limit) where
  abbrev Mirrors : Struct → State → Type 0
  Mirrors z s = (z ≡ state_of s) × Steady tm s

  mirrors_next : (z : Struct) (s : State) → Mirrors z s → (c : Call) → is_bytes (lent_at c).bytes ≡ true
      → Mirrors (make b z c).taken.state (after tm s (make b z c))
  mirrors_next z s (e, h) c x = rw e (done_state b tm rd s h c x, done_steady b tm rd s h c x)

  -- the plain state behind calls that were made
  abbrev pub plain_behind : List Made → State
  plain_behind ms = Runs.run (next (book_of tm)) (fresh_at n) (plain ms)

  pub mirrored : (cs : List Call) → all_bytes cs ≡ true
      → Mirrors (state_from (watching b) (state_of (fresh_at n)) cs) (plain_behind (run_from b (state_of (fresh_at n)) cs))
  mirrored cs bytes =
      followed (watching b) (Runs.plain_machine (next (book_of tm)) (λ s e. e)) plain_call Mirrors {P = λ c. is_bytes (lent_at c).bytes ≡ true} mirrors_next
      (state_of (fresh_at n)) (fresh_at n) (refl, steady_fresh tm n few) cs (λ c m. all_at (λ c. is_bytes (lent_at c).bytes) bytes m)

  -- the call in a place met the state behind the calls before it
  pub course_at : (cs : List Call) → all_bytes cs ≡ true → (k : ℕ) (m : Made) → Within (run_from b (state_of (fresh_at n)) cs) k m
      → Done tm (plain_behind (take k (run_from b (state_of (fresh_at n)) cs))) m
  course_at cs bytes k m w =
      let z = state_of (fresh_at n) in
      let (c, v, e) = result_at (watching b) z cs k m w in
      let (x, h) = mirrored (take k cs) (all_take (λ c. is_bytes (lent_at c).bytes) k cs bytes) in
      let s = plain_behind (run_from b z (take k cs)) in
      let d : Done tm s (make b (state_of s) c) = done b tm rd s h c (all_at (λ c. is_bytes (lent_at c).bytes) bytes (within_mem v)) in
      subst (λ l. Done tm (plain_behind l) m) (sym (results_take (watching b) z k cs)) (subst (Done tm s) (sym (e ∙ ap (λ y. make b y c) x)) d)

-- the trace of the plain run, and how many events it has
pub trace_plain : (ms : List Made) → Runs.trace_of (plain ms) ≡ trace_of ms
trace_plain ms =
    ap (map Runs.sent_event) (keep_map Runs.was_taken plain_call ms) ∙ map-map Runs.sent_event plain_call (accepted_in ms)
    ∙ sym (map-map event_in (λ m. m.lent.bytes) (accepted_in ms))

-- an accepted call in a place of the trace: where it stands in the run, what it met there, and the trace up to it
pub record Placed (tm : Tracematch) (n : ℕ) (ms : List Made) (i : ℕ) (m : Made) : Type 0 where
  pub place : ℕ
  pub done : Done tm (Runs.run (next (book_of tm)) (fresh_at n) (plain (take place ms))) m
  pub accepted : was_accepted m ≡ true
  pub count : length (trace_of (take place ms)) ≡ i
  pub upto : take (suc i) (trace_of ms) ≡ trace_of (take place ms) ++ (event_in m.lent.bytes ∷ [])

module _ (b : Book) (tm : Tracematch) (rd : Read b tm) (n : ℕ) (few : n ≤ event_limit) (cs : List Call) (bytes : all_bytes cs ≡ true) where
  abbrev ms : List Made
  ms = run_from b (state_of (fresh_at n)) cs

  pub accepted_at : (i : ℕ) (m : Made) → Within (accepted_in ms) i m → Placed tm n ms i m
  accepted_at i m w =
      let p = passed_at was_accepted ms i m w in
      let told : Made → Event = λ r. event_in r.lent.bytes in
      let events : (l : List Made) → trace_of l ≡ map told (accepted_in l) = λ l. map-map event_in (λ r. r.lent.bytes) (accepted_in l) in
      record {
        place = p.place;
        done = course_at b tm rd n few cs bytes p.place m p.there;
        accepted = p.passes;
        count = rw (length-map, length-map) p.before;
        upto = rw (events ms, events (take p.place ms))
            (take_map told (suc i) (accepted_in ms) ∙ ap (map told) p.upto ∙ map-append told (accepted_in (take p.place ms)) (m ∷ []));
      }

  -- the events of accepted calls are well formed
  pub trace_formed : all well_formed (trace_of ms) ≡ true
  trace_formed =
      rw (all_map, all_map) (all_of (λ m. well_formed (event_in m.lent.bytes)) (accepted_in ms) λ m k.
      let (i, w) = mem_within k in
      let p = accepted_at i m w in
      p.done.formed (in_form tm _ m.lent p.done.decision p.accepted))
