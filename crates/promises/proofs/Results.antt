-- `results`: from what the public calls hand back, and from nothing else, the demands. A text that `read` accepts has one list of declarations and
-- one tree, and whatever event calls follow, each in the state that the one before it left, their results keep demands 2 and 3.
use mathlib.Core.Path.{◌≡◌, refl, sym, ap, ap₂, subst, ◌∙◌}
use mathlib.Core.Bool.{true, false, not, false≢true}
use mathlib.Core.List.{List, map}
use mathlib.Core.Logic.{◌↔◌}
use Prim.Native.Nat.{ℕ, suc, ◌+◌, ◌-◌, ◌*◌, ◌≤◌, ◌<◌}
use native.Mathlib.Omega.{arith}
use borrow.Author.Tests.{not-true, eqb-false}
use lib.Dec.{eqb}
use lib.ListN.{length, get_or, take, drop}
use lib.Seq.{get_or-take, get_or-drop}
use Rattle.laws.specs.Checks.{FirstToFail, fails_here, fails_later}
use Rattle.laws.proofs.Checks.{first_all}
use Rattle.laws.proofs.Lists.{all_map, all_at}
use Rattle.runs.specs.Runs.{Within}
use Rattle.runs.proofs.Runs.{chain_run, run_chain, chain_all}
use Rattle.pattern.specs.Regex.{Regex}
use Rattle.meaning.specs.Events.{Event}
use Rattle.meaning.specs.Meaning.{Tracematch}
use Rattle.form.specs.Text.{Bytes, is_bytes, Declarations, tracematch_of}
use Rattle.form.specs.Form.{Form}
use Rattle.parsing.proofs.Accepted.{form_proper}
use Rattle.record.specs.Records.{is_record}
use Rattle.book.specs.declared.Book.{Book}
use Rattle.book.specs.declared.Reading.{Reading}
use Rattle.book.specs.Answers as Reading
use Rattle.book.specs.Books.{reading}
use Rattle.state.specs.declared.State.{State}
use Rattle.calls.specs.Answers.{number_of, ten_to_thirteen}
use Rattle.calls.specs.Calls.{fresh_state}
use Rattle.calls.specs.Runs.{Lent, Call, event, lent_at, Made, all_bytes, make, watching, run_from, run_of, accepted_in, records_of, trace_of, Delivered}
use Rattle.calls.specs.Runs.{FailsAfter, PassesAfter, Judged, Partners, InOrder, Crossed}
use Rattle.demands.proofs.Checks.{fresh_state_law}
use Rattle.demands.proofs.Listed.{listed}
use Rattle.demands.proofs.Answered.{answered}
use Rattle.demands.proofs.Crossed.{listed_width, crossed}
use Rattle.demands.proofs.RunWords.{crossed_words}
use Rattle.promises.specs.Formats.{InRecord}
use Rattle.promises.specs.ReadResults.{ReadGives}
use Rattle.promises.specs.EventResults.{state_of_nothing, EventGives, Series, trace_in, RowsKept, RowsAlike, ResultsKeep}
use Rattle.promises.proofs.Whether.{whether}
use Rattle.promises.proofs.Formats.{event_read, record_read, rows_read}
use Rattle.promises.proofs.ReadResults.{read_given, reading_decided}
use Rattle.promises.proofs.EventResults.{tally_given, event_given, event_decided}

-- the calls that were made
abbrev lent_to : List Made → List Call
lent_to ms = map (λ m. event m.lent) ms

-- one result is the call's
made_one : (b : Book) (s : State) (m : Made)
    → EventGives b s m.lent.bytes m.lent.buffer m.lent.place m.lent.tally m.taken m.buffer
    → m ≡ make b s (event m.lent)
unfolding make
made_one b s m g =
    let (t, l) = event_decided b s _ _ _ _ _ _ _ _ g (event_given b s _ _ _ _ g.lent) in
    ap₂ (λ x y. record { lent = m.lent; taken = x; buffer = y }) t l

-- calls one behind the other are a run, and what was lent to them is bytes
series_run : (b : Book) (s : State) (ms : List Made) → Series b s ms → (ms ≡ run_from b s (lent_to ms)) × (all_bytes (lent_to ms) ≡ true)
series_run b s ms c =
    (chain_run (watching b) _ (λ m. event m.lent) (made_one b) s ms c, rw all_map (chain_all (λ m. is_bytes m.lent.bytes) (λ s m g. g.lent) c))

-- every list of calls has such results
pub series_given : (b : Book) (s : State) (cs : List Call) → all_bytes cs ≡ true → Series b s (run_from b s cs)
unfolding make
series_given b s cs h =
    run_chain (watching b) _ s cs λ t c m. event_given b t _ _ _ _ (all_at (λ c. is_bytes (lent_at c).bytes) h m)

-- demand 3's claim about two lists
abbrev CrossedOn : Tracematch → List Made → List Made → Type 0
CrossedOn tm xs ys = (p : Partners (records_of xs) (records_of ys)) → InOrder tm (records_of xs) (records_of ys) p → Crossed tm xs ys p

crossed_on : (tm : Tracematch) {xs ys us vs : List Made} → xs ≡ us → ys ≡ vs → CrossedOn tm us vs → CrossedOn tm xs ys
crossed_on tm {ys = ys} {us = us} e f c = subst (λ l. CrossedOn tm l ys) (sym e) (subst (λ l. CrossedOn tm us l) (sym f) c)

-- the trace is that of the bytes
trace_read : (ms : List Made) → trace_of ms ≡ trace_in ms
trace_read ms = ap (λ f. map f (records_of ms)) event_read

module _ (text : Bytes) (d : Declarations) (q : Regex) (f : Form text d q) where
  abbrev tm_declared : Tracematch
  tm_declared = tracematch_of d q

  -- demand 2 of a call, in bytes
  kept : {t : List Event} {n : ℕ} {m : Made} → Delivered tm_declared t n m → RowsKept tm_declared t n m
  kept {n = n} {m = m} w = record {
    valuations = w.valuations;
    meant = w.meant;
    counted = w.counted;
    written =
        let few = listed_width tm_declared (form_proper text d q f) w.meant in
        rw w.written (rows_read m.lent.buffer m.lent.place n tm_declared.variables w.valuations few w.fitting);
    tallies = rw w.tallies (tally_given m.lent.tally 1 0 (length w.valuations));
    numbered = w.numbered;
  }

  -- demand 3 of two calls, in bytes
  alike : {m n : Made} → m.taken.rows ≡ n.taken.rows
      → ((j : ℕ) → j < m.taken.rows
      → take 20 (drop (m.lent.place + 24 * j + 4) m.buffer) ≡ take 20 (drop (n.lent.place + 24 * j + 4) n.buffer))
      → RowsAlike m n
  alike {m} {n} e g = record {
    counts = e;
    bytes = λ j h k i l. part m.buffer (m.lent.place + 24 * j) k i l
        ∙ ap (λ s. get_or s (k - 4) 0) (g j h) ∙ sym (part n.buffer (n.lent.place + 24 * j) k i l);
  }
    where
      part : (s : Bytes) (p k : ℕ) → 4 ≤ k → k < 24 → get_or s (p + k) 0 ≡ get_or (take 20 (drop (p + 4) s)) (k - 4) 0
      part s p k i l = sym (get_or-take 20 (drop (p + 4) s) (k - 4) 0 (omega arith) ∙ get_or-drop (p + 4) s (k - 4) 0 ∙ ap (λ z. get_or s z 0) (omega arith))

  -- 10 is for what is no record, and for nothing else
  judged_ten : {t : List Event} {l : Lent} {n : ℕ} → Judged tm_declared t l n → (n ≡ 10) ↔ (is_record l.bytes ≡ false)
  judged_ten {t} {l} {n} j = go j.first
    where
      go : {n : ℕ} → FirstToFail (FailsAfter tm_declared t l) (PassesAfter tm_declared t l) number_of 0 ten_to_thirteen n
          → (n ≡ 10) ↔ (is_record l.bytes ≡ false)
      go (fails_here h) = (λ _. h, λ _. refl)
      go {n} (fails_later h r) =
          let other = first_all (λ n. not (eqb n 10)) r refl refl in
          (λ e. absurd (eqb-false n 10 (not-true _ other) e), λ e. absurd (false≢true (sym e ∙ h)))

  ten_read : {t : List Event} {l : Lent} {n : ℕ} → Judged tm_declared t l n → (n ≡ 10) ↔ (InRecord l.bytes → ⊥)
  ten_read {l = l} j = (
    λ e r. false≢true (sym ((judged_ten j).0 e) ∙ (record_read l.bytes).1 r),
    λ h. whether (is_record l.bytes) (λ e. absurd (h ((record_read l.bytes).0 e))) (judged_ten j).1,
  )

  -- the book that was read, and lists of calls over it
  module _ (same : (ms : List Made) → Series (reading text).book state_of_nothing ms
      → (ms ≡ run_of (reading text).book (lent_to ms)) × (all_bytes (lent_to ms) ≡ true)) where
    rows_kept : (ms : List Made) → Series (reading text).book state_of_nothing ms → (i : ℕ) (m : Made) → Within (accepted_in ms) i m
        → RowsKept tm_declared (trace_in ms) (suc i) m
    rows_kept ms c i m w =
        let (x, y) = same ms c in
        rw (← trace_read ms) (kept (rw x (listed text d q f (lent_to ms) y i m (rw x at w))))

    answers_kept : (ms : List Made) → Series (reading text).book state_of_nothing ms → (k : ℕ) (m : Made) → Within ms k m
        → Judged tm_declared (trace_in (take k ms)) m.lent (number_of m.taken.answer)
    answers_kept ms c k m w =
        let (x, y) = same ms c in
        rw (← trace_read (take k ms)) (rw x (answered text d q f (lent_to ms) y k m (rw x at w)))

    keeps : ResultsKeep tm_declared (reading text).book
    keeps = record {
      rows = rows_kept;
      answers = answers_kept;
      ten = λ ms c k m w. ten_read (answers_kept ms c k m w);
      crossed = λ xs ys a c p o i m n w v.
          let (x, y) = same xs a in
          let (z, u) = same ys c in
          let both = crossed_on tm_declared x z (crossed text d q f (lent_to xs) (lent_to ys) y u) p (rw event_read o) in
          let (_, _, e, g) = crossed_words tm_declared xs ys p both i m n w v in
          (rows_kept xs a i m w, rows_kept ys c (p.to i) n v, alike e g);
    }

pub results : (text : Bytes) (r : Reading) → ReadGives text r → Reading.number_of r.answer ≡ 0
    → (d : Declarations) × (q : Regex) × Form text d q × ResultsKeep (tracematch_of d q) r.book
results text r g h =
    let e : r ≡ reading text = reading_decided text r _ g (read_given text g.lent) in
    let (d, q, f) = g.accepted.0 h in
    (d, q, f, rw e (keeps text d q f (λ ms c. series_run (reading text).book fresh_state ms (rw fresh_state_law c))))
