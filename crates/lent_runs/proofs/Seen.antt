-- A lent call is a call by value over what the words say, and a run of lent calls a run of those: for any words of the stated length. For the demands.
use mathlib.Core.Path.{◌≡◌, refl, sym, ap, ap₂, subst, ◌∙◌}
use mathlib.Core.Bool.{Bool, true, false, cond, false≢true}
use mathlib.Core.List.Memᴰ
use mathlib.Core.List.{List, [], ◌∷◌, map, Memᴰ}
use Prim.Native.Nat.{ℕ}
use native.Mathlib.Omega.{arith}
use lib.Dec.{eqb}
use lib.ListN.{length}
use Rattle.laws.proofs.Lists.{and_true_split}
use Rattle.runs.specs.Runs.{results_from, Within}
use Rattle.runs.proofs.Runs.{within_mem}
use Rattle.meaning.specs.Labels.{fresh}
use Rattle.form.specs.Text.{is_bytes}
use Rattle.book.specs.declared.Book.{Book}
use Rattle.state.specs.declared.State.{State}
use Rattle.tally.specs.declared.Tally.{Tally}
use Rattle.calls.specs.declared.EventAnswer.{EventAnswer}
use Rattle.calls.specs.declared.EventAnswer.TheVariants.{Accepted, Unsound, OutOfForm, TooMany, NoRoom, NoSpace}
use Rattle.calls.specs.declared.Taken.{Taken}
use Rattle.calls.specs.Answers.{number_of}
use Rattle.calls.specs.Calls.{is_accepted, fresh_state, taken, buffer_after}
use Rattle.calls.specs.Runs.{Lent, Call, event, all_bytes, Made, make, run_from, run_of}
use Rattle.demands.proofs.Checks.{zero_accepted, accepted_zero, book_stays, refused_stays}
use Rattle.blocks.specs.BookBlock.{book_in}
use Rattle.blocks.specs.StateBlock.{state_in, state_words, state_stored}
use Rattle.blocks.specs.TallyBlock.{tally_in, tally_words}
use Rattle.blocks.specs.Lent.{EventLeft, event_left}
use Rattle.blocks.proofs.States.{Canonical, canonical_of, state_back, state_length, stored_back, stored_length}
use Rattle.blocks.proofs.Tallies.{tally_back}
use Rattle.lent_runs.specs.Lending.{LentCall, LentMade, lent_bytes, lending, lent_as}
use Rattle.lent_runs.proofs.Accepted.{canonical_after}

-- the answer with a number
unfoldable pub answer_with : ℕ → EventAnswer
answer_with n =
    cond (eqb n 0) Accepted (cond (eqb n 9) Unsound (cond (eqb n 10) OutOfForm (cond (eqb n 11) TooMany (cond (eqb n 12) NoRoom NoSpace))))

pub answer_back : (a : EventAnswer) → answer_with (number_of a) ≡ a
unfolding answer_with
answer_back Accepted = refl
answer_back Unsound = refl
answer_back OutOfForm = refl
answer_back TooMany = refl
answer_back NoRoom = refl
answer_back NoSpace = refl

-- what a lent call handed back and left, as a call by value hands it back
abbrev pub seen : Book → LentMade → Made
seen b m =
    record {
      lent = lent_as m.lent;
      taken = record {
        answer = answer_with m.left.number;
        rows = m.left.rows;
        book = b;
        state = state_in m.left.state;
        tally = tally_in m.left.tally;
      };
      buffer = m.left.buffer;
    }

abbrev pub calls : List LentCall → List Call
calls cs = map (λ c. event (lent_as c)) cs

-- One call.
module _ (w s : List ℕ) (long : length s ≡ 3715) (c : LentCall) (lent : is_bytes c.bytes ≡ true) where
  abbrev t : Taken
  t = taken (book_in w) (state_in s) c.bytes c.buffer c.place (tally_in c.tally)

  abbrev left : EventLeft
  left = event_left w s c.bytes c.buffer c.place c.tally

  -- the state's words say the state that the call by value hands back, and there are as many
  pub state_seen : (state_in left.state ≡ t.state) × (length left.state ≡ 3715)
  unfolding event_left
  state_seen = go (is_accepted t.answer) refl
    where
      go : (z : Bool) → is_accepted t.answer ≡ z
          → (state_in (cond z (state_stored s t.state) s) ≡ t.state) × (length (cond z (state_stored s t.state) s) ≡ 3715)
      go true e =
          let can = canonical_after (book_in w) (state_in s) c.bytes lent c.buffer c.place (tally_in c.tally) (zero_accepted t.answer e) in
          (stored_back s long t.state can, stored_length s long t.state can)
      go false e =
          let no : number_of t.answer ≡ 0 → ⊥ = λ n. false≢true (sym e ∙ accepted_zero t.answer n) in
          (sym (refused_stays (book_in w) (state_in s) c.bytes c.buffer c.place (tally_in c.tally) no).0, long)

  pub call_seen : seen (book_in w) (record { lent = c; left = left }) ≡ make (book_in w) (state_in s) (event (lent_as c))
  unfolding event_left make
  call_seen =
      let made : EventAnswer → Book → State → Tally → Made = λ a b z u.
      record {
        lent = lent_as c;
        taken = record { answer = a; rows = t.rows; book = b; state = z; tally = u };
        buffer = buffer_after (book_in w) (state_in s) c.bytes c.buffer c.place;
      } in
      ap₂ (λ a b. made a b (state_in left.state) (tally_in (tally_words t.tally))) (answer_back t.answer)
      (sym (book_stays (book_in w) (state_in s) c.bytes c.buffer c.place (tally_in c.tally)))
      ∙ ap₂ (made t.answer t.book) state_seen.0 (tally_back t.tally)

-- Calls one behind the other.
pub run_seen : (w s : List ℕ) → length s ≡ 3715 → (cs : List LentCall) → lent_bytes cs ≡ true
    → map (seen (book_in w)) (results_from (lending w) s cs) ≡ run_from (book_in w) (state_in s) (calls cs)
unfolding make
run_seen w s long [] h = refl
run_seen w s long (c ∷ cs) h =
    let (here, rest) = and_true_split (is_bytes c.bytes) (lent_bytes cs) h in
    let (state, size) = state_seen w s long c here in
    let next = (event_left w s c.bytes c.buffer c.place c.tally).state in
    ap₂ ◌∷◌ (call_seen w s long c here) (run_seen w next size cs rest ∙ ap (λ z. run_from (book_in w) z (calls cs)) state)

-- Every state that a run of calls by value reaches from one that its words tell is one that its words tell; the fresh state is one.
pub fresh_canonical : Canonical fresh_state
unfolding fresh_state
fresh_canonical = canonical_of fresh (omega arith) (λ h m. absurd (Memᴰ.not-nil m))

module _ (b : Book) where
  canonical_next : (s : State) → Canonical s → (l : Lent) → is_bytes l.bytes ≡ true → Canonical (make b s (event l)).taken.state
  unfolding make
  canonical_next s c l here = go (is_accepted r.answer) refl
    where
      r : Taken
      r = taken b s l.bytes l.buffer l.place l.tally

      go : (z : Bool) → is_accepted r.answer ≡ z → Canonical r.state
      go true e = canonical_after b s l.bytes here l.buffer l.place l.tally (zero_accepted r.answer e)
      go false e =
          let no : number_of r.answer ≡ 0 → ⊥ = λ n. false≢true (sym e ∙ accepted_zero r.answer n) in
          subst Canonical (sym (refused_stays b s l.bytes l.buffer l.place l.tally no).0) c

  reached : (s : State) → Canonical s → (cs : List Call) → all_bytes cs ≡ true → (m : Made) → Memᴰ m (run_from b s cs) → Canonical m.taken.state
  reached s c [] h m k = absurd (Memᴰ.not-nil k)
  reached s c (event l ∷ cs) h m (Memᴰ.head e) =
      subst (λ m. Canonical m.taken.state) (sym e) (canonical_next s c l (and_true_split (is_bytes l.bytes) (all_bytes cs) h).0)
  reached s c (event l ∷ cs) h m (Memᴰ.tail k) =
      let (here, rest) = and_true_split (is_bytes l.bytes) (all_bytes cs) h in
      reached (make b s (event l)).taken.state (canonical_next s c l here) cs rest m k

  -- so the words of every reached state are read back as it
  pub reached_back : (cs : List Call) → all_bytes cs ≡ true → (k : ℕ) (m : Made) → Within (run_of b cs) k m
      → (state_in (state_words m.taken.state) ≡ m.taken.state) × (length (state_words m.taken.state) ≡ 3715)
  reached_back cs h k m w =
      let c = reached fresh_state fresh_canonical cs h m (within_mem w) in
      (state_back m.taken.state c, state_length m.taken.state c)
