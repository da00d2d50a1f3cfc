-- The answer to each call of a run over a read text, by the stated rules and in no other case; 9 never comes. What holds for any book and
-- state is in Checks.
use mathlib.Core.Path.{◌≡◌, refl, sym, ap, ◌∙◌}
use mathlib.Core.Bool.{true, not, true≢false}
use mathlib.Core.List.{List, [], ◌∷◌, ◌++◌}
use mathlib.Core.Logic.Iff
use mathlib.Core.Logic.{dite}
use Prim.Native.Nat.{ℕ, suc, ◌+◌, ◌*◌, ◌≤◌, ◌<◌}
use native.Mathlib.Decide.{dec_lt}
use native.Mathlib.Omega.{arith}
use borrow.Author.Tests.{not-true, eqb-false}
use lib.Dec.{eqb}
use lib.ListN.{length, take}
use Rattle.laws.specs.Checks.{FirstToFail, fails_here, fails_later}
use Rattle.laws.specs.Lists.{all}
use Rattle.laws.proofs.Checks.{first_once, first_told, first_named, first_all}
use Rattle.laws.proofs.Lists.{all_append, all_take}
use Rattle.laws.proofs.Sets.{same_members}
use Rattle.runs.specs.Runs.{Within}
use Rattle.runs.proofs.Runs.{results_take}
use Rattle.pattern.specs.Regex.{Regex}
use Rattle.meaning.specs.Meaning.{Tracematch}
use Rattle.meaning.specs.Events.{Event, Valuation, well_formed}
use Rattle.meaning.specs.Book.{book_of, Proper}
use Rattle.meaning.specs.Labels.{State as Reachable, new_held}
use Rattle.meaning.specs.Rows.{rows}
use Rattle.meaning.specs.Runs as Runs
use Rattle.meaning.specs.Runs.{Listed}
use Rattle.automaton.proofs.Kept.{state_after_law}
use Rattle.automaton.proofs.Plain.{run_trace}
use Rattle.automaton.proofs.Listed as Plain
use Rattle.automaton.proofs.NoRoom.{no_room_law}
use Rattle.automaton.proofs.Orders.{valuation_order}
use Rattle.form.specs.Text.{Bytes, is_bytes, Declarations, tracematch_of}
use Rattle.form.specs.Form.{Form}
use Rattle.parsing.proofs.Accepted.{form_proper}
use Rattle.record.specs.Records.{is_record, event_in}
use Rattle.book.specs.Books.{reading}
use Rattle.row.specs.RowBytes.{row_size}
use Rattle.calls.specs.Answers.{number_of, ten_to_thirteen}
use Rattle.calls.specs.Calls.{fresh_state}
use Rattle.calls.specs.Runs.{Call, Made, Lent, lent_at, all_bytes, watching, run_of, trace_of, held_after}
use Rattle.calls.specs.Runs.{TooShort, beyond, over, FailsAfter, PassesAfter, Judged}
use Rattle.calls.specs.declared.EventAnswer.{EventAnswer}
use Rattle.calls.specs.declared.EventAnswer.TheVariants.{Accepted, Unsound, OutOfForm, TooMany, NoRoom, NoSpace}
use Rattle.demands.proofs.Bridge.{read, plain, FailsIn, PassesIn, Decision}
use Rattle.demands.proofs.Course.{course_at, trace_plain, trace_formed}

-- one list of rows at most
pub listed_once : {tm : Tracematch} {t : List Event} {n : ℕ} {l k : List Valuation} → Listed tm t n l → Listed tm t n k → l ≡ k
listed_once a b = same_members valuation_order _ _ a.ordered b.ordered (λ σ. Iff.trans (a.exact σ) (Iff.symm (b.exact σ)))

-- A call behind the trace of a plain run.
module _ (tm : Tracematch) (ok : Proper tm) (cs : List Runs.Call) (good : all well_formed (Runs.trace_of cs) ≡ true) where
  abbrev trace : List Event
  trace = Runs.trace_of cs

  -- the state behind the trace
  abbrev behind : Reachable
  behind = record { number = length trace; held = held_after tm trace }

  behind_is : Runs.state_after tm cs ≡ behind
  behind_is = state_after_law tm cs ∙ ap (λ h. record { number = length trace; held = h }) (run_trace (new_held (book_of tm)) [] cs)

  -- the rows of the event that follows
  pub listed_next : (e : Event) → well_formed e ≡ true → Listed tm (trace ++ (e ∷ [])) (suc (length trace)) (rows (book_of tm) (held_after tm trace) e)
  listed_next e w =
      let formed : all well_formed (trace ++ (e ∷ [])) ≡ true = rw (all_append, good, w) in
      rw (← run_trace (new_held (book_of tm)) [] cs) (Plain.listed_behind tm ok cs e formed)

  -- and what is lent for them
  module _ (e : Event) (w : well_formed e ≡ true) (buffer : Bytes) (place : ℕ) where
    abbrev size : ℕ
    size = row_size * length (rows (book_of tm) (held_after tm trace) e)

    too_short : length buffer < place + size → TooShort tm trace e buffer place
    too_short h = dite (dec_lt (length buffer) place) beyond (λ n. over _ (listed_next e w) (omega arith) (omega arith))

    long_enough : place + size ≤ length buffer → TooShort tm trace e buffer place → ⊥
    long_enough h (beyond k) = omega arith
    long_enough h (over l m k j) = let e = ap length (listed_once m (listed_next e w)) in omega arith

  -- each check by the definitions of the crate meaning is the check in words
  module _ (l : Lent) (w : well_formed (event_in l.bytes) ≡ true) where
    fails_told : (k : EventAnswer) → FailsIn tm behind l k → FailsAfter tm trace l k
    fails_told Accepted x = x
    fails_told Unsound x = x
    fails_told OutOfForm x = x
    fails_told TooMany x = x
    fails_told NoRoom x = (no_room_law _ _ _).0 x
    fails_told NoSpace x = too_short _ w _ _ x

    passes_told : (k : EventAnswer) → PassesIn tm behind l k → PassesAfter tm trace l k
    passes_told Accepted x = x
    passes_told Unsound x = x
    passes_told OutOfForm x = x
    passes_told TooMany x = x
    passes_told NoRoom x = λ y. true≢false (sym x ∙ (no_room_law _ _ _).1 y)
    passes_told NoSpace x = long_enough _ w _ _ x

  judged : (l : Lent) → (is_record l.bytes ≡ true → well_formed (event_in l.bytes) ≡ true) → (a : EventAnswer) → Decision tm behind l a
      → Judged tm trace l (number_of a)
  judged l w a d = record { first = first_named number_of (go d.first) }
    where
      -- a record in form holds an event that is well formed
      go : {a : EventAnswer} → FirstToFail (FailsIn tm behind l) (PassesIn tm behind l) (λ x. x) Accepted ten_to_thirteen a
          → FirstToFail (FailsAfter tm trace l) (PassesAfter tm trace l) (λ x. x) Accepted ten_to_thirteen a
      go (fails_here x) = fails_here x
      go (fails_later x r) = fails_later x (first_told (fails_told l (w x)) (passes_told l (w x)) r)

-- calls are counted from 0: the number of the answer to the call number k is the one that `Judged` gives for the trace of the calls before it
pub answered : (text : Bytes) (d : Declarations) (r : Regex) → Form text d r → (cs : List Call) → all_bytes cs ≡ true
    → (k : ℕ) (m : Made) → Within (run_of (reading text).book cs) k m
    → Judged (tracematch_of d r) (trace_of (take k (run_of (reading text).book cs))) m.lent (number_of m.taken.answer)
unfolding fresh_state
answered text d r f cs bytes k m at =
    let tm = tracematch_of d r in
    let ok = form_proper text d r f in
    let rd = read text d r f in
    let ms = take k (run_of (reading text).book cs) in
    let first : ms ≡ run_of (reading text).book (take k cs) = results_take (watching (reading text).book) fresh_state k cs in
    let few : all_bytes (take k cs) ≡ true = all_take (λ c. is_bytes (lent_at c).bytes) k cs bytes in
    let good : all well_formed (Runs.trace_of (plain ms)) ≡ true =
    rw (trace_plain ms, first) (trace_formed (reading text).book tm rd 0 (omega arith) (take k cs) few) in
    let done = rw (behind_is tm ok (plain ms) good) at (course_at (reading text).book tm rd 0 (omega arith) cs bytes k m at) in
    rw (trace_plain ms) at (judged tm ok (plain ms) good m.lent done.formed m.taken.answer done.decision)

-- and `Judged` gives one number at most
pub judged_once : (tm : Tracematch) (t : List Event) (l : Lent) (n k : ℕ) → Judged tm t l n → Judged tm t l k → n ≡ k
judged_once tm t l n k a b = first_once apart a.first b.first
  where
    apart : (k : EventAnswer) → FailsAfter tm t l k → PassesAfter tm t l k → ⊥
    apart Accepted f p = f
    apart Unsound f p = f
    apart OutOfForm f p = true≢false (sym p ∙ f)
    apart TooMany f p = omega (arith, f, p)
    apart NoRoom f p = p f
    apart NoSpace f p = p f

-- "A read book, with a state that it reached from a fresh start, never gets 9."
pub never_nine : (text : Bytes) (d : Declarations) (r : Regex) → Form text d r → (cs : List Call) → all_bytes cs ≡ true
    → (k : ℕ) (m : Made) → Within (run_of (reading text).book cs) k m → number_of m.taken.answer ≡ 9 → ⊥
never_nine text d r f cs bytes k m at e =
    let other = first_all (λ n. not (eqb n 9)) (answered text d r f cs bytes k m at).first refl refl in
    eqb-false (number_of m.taken.answer) 9 (not-true _ other) e
