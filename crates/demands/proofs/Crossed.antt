-- Demand 3: one theorem about two whole lists of event calls over one read text, refused ones included. For the buyer.
use mathlib.Core.Path.{◌≡◌, sym, ap, ◌∙◌}
use mathlib.Core.Bool.{true}
use mathlib.Core.List.{List, [], map, Memᴰ}
use mathlib.Core.Logic.Iff
use Prim.Native.Nat.{ℕ, suc, ◌≤◌, ◌<◌}
use native.Mathlib.Omega.{arith}
use borrow.Author.Tests.{eqb-true}
use lib.Dec.{eqb}
use lib.ListN.{length, get_or, length-map, get_or-map}
use Rattle.laws.proofs.Lists.{and_true_split}
use Rattle.laws.proofs.Sets.{same_members}
use Rattle.runs.specs.Runs.{Within}
use Rattle.runs.specs.Pairs.{Pairing}
use Rattle.runs.proofs.Runs.{within_at}
use Rattle.pattern.specs.Regex.{Regex}
use Rattle.meaning.specs.Events.{Event, Valuation, is_valuation}
use Rattle.meaning.specs.Meaning.{Tracematch, no_event}
use Rattle.meaning.specs.Book.{Proper}
use Rattle.meaning.specs.Runs.{Listed, Ordered}
use Rattle.automaton.proofs.Crossed.{partner_rows}
use Rattle.automaton.proofs.Orders.{valuation_order}
use Rattle.form.specs.Text.{Bytes, Declarations, tracematch_of}
use Rattle.form.specs.Form.{Form}
use Rattle.parsing.proofs.Accepted.{form_proper}
use Rattle.record.specs.Records.{event_in}
use Rattle.book.specs.Books.{reading}
use Rattle.calls.specs.Runs.{Call, Made, all_bytes, run_of, accepted_in, records_of, trace_of, Partners, InOrder, Alike, Crossed}
use Rattle.demands.proofs.Listed.{listed}
use Rattle.demands.proofs.Tails.{tail, plain_tail}

-- the events of records, and of partners
pub event_at : (t : List Bytes) (i : ℕ) → get_or (map event_in t) i no_event ≡ event_in (get_or t i [])
unfolding event_in
event_at t i = get_or-map event_in t i []

abbrev pub events : (t u : List Bytes) → Partners t u → Pairing no_event (map event_in t) (map event_in u)
events t u p = record {
  to = p.to;
  back = p.back;
  to_inside = λ i h. rw length-map (p.to_inside i (rw length-map at h));
  back_inside = λ j h. rw length-map (p.back_inside j (rw length-map at h));
  back_to = λ i h. p.back_to i (rw length-map at h);
  to_back = λ j h. p.to_back j (rw length-map at h);
  same = λ i h. event_at u (p.to i) ∙ ap event_in (p.same i (rw length-map at h)) ∙ sym (event_at t i);
}

pub in_order : (tm : Tracematch) (t u : List Bytes) (p : Partners t u) → InOrder tm t u p
    → Ordered no_event (λ e. e) tm (map event_in t) (map event_in u) (events t u p)
in_order tm t u p o = record { keeps = λ i j h k d. o.keeps i j h (rw length-map at k) (rw (event_at t i, event_at t j) at d) }

-- a row has a value for each variable
pub listed_width : (tm : Tracematch) → Proper tm → {t : List Event} {n : ℕ} {l : List Valuation} → Listed tm t n l
    → (σ : Valuation) → Memᴰ σ l → length σ ≤ 4
unfolding is_valuation
listed_width tm ok m σ h =
    let e : length σ ≡ tm.variables = eqb-true _ _ (and_true_split (eqb (length σ) tm.variables) _ ((m.exact σ).0 h).valuation).0 in
    omega (arith, ok.variables)

-- one pair of partners
pub partners_alike : (text : Bytes) (d : Declarations) (r : Regex) → Form text d r → (xs ys : List Call) → all_bytes xs ≡ true → all_bytes ys ≡ true
    → (p : Partners (records_of (run_of (reading text).book xs)) (records_of (run_of (reading text).book ys)))
    → InOrder (tracematch_of d r) (records_of (run_of (reading text).book xs)) (records_of (run_of (reading text).book ys)) p
    → (i : ℕ) (a c : Made) → Within (accepted_in (run_of (reading text).book xs)) i a → Within (accepted_in (run_of (reading text).book ys)) (p.to i) c
    → Alike (tracematch_of d r) (trace_of (run_of (reading text).book xs)) (trace_of (run_of (reading text).book ys)) (suc i) (suc (p.to i)) a c
partners_alike text d r f xs ys bx by p o i a c ha hc =
    let tm = tracematch_of d r in
    let ok = form_proper text d r f in
    let t = records_of (run_of (reading text).book xs) in
    let u = records_of (run_of (reading text).book ys) in
    let left = listed text d r f xs bx i a ha in
    let right = listed text d r f ys by (p.to i) c hc in
    let inside : i < length (map event_in t) = rw (length-map, length-map) ha.inside in
    let same : left.valuations ≡ right.valuations =
    same_members valuation_order _ _ left.meant.ordered right.meant.ordered λ σ.
    Iff.trans (left.meant.exact σ) (Iff.trans (partner_rows tm _ _ (events t u p) (in_order tm t u p o) i inside σ) (Iff.symm (right.meant.exact σ))) in
    record {
      left = left;
      right = right;
      valuations = same;
      counts = left.counted ∙ ap length same ∙ sym right.counted;
      bytes = λ j h.
          rw (left.written, right.written)
          (plain_tail _ _ _ (listed_width tm ok left.meant) _ _ (omega (arith, left.fitting)) j (rw left.counted at h)
          ∙ ap (λ l. tail tm.variables 0 0 (get_or l j [])) same
          ∙ sym (plain_tail _ _ _ (listed_width tm ok right.meant) _ _ (omega (arith, right.fitting)) j (rw (left.counted, same) at h)));
    }

-- all partners: the two runs may refuse different calls, and lend other buffers, places and tallies
pub crossed : (text : Bytes) (d : Declarations) (r : Regex) → Form text d r → (xs ys : List Call) → all_bytes xs ≡ true → all_bytes ys ≡ true
    → (p : Partners (records_of (run_of (reading text).book xs)) (records_of (run_of (reading text).book ys)))
    → InOrder (tracematch_of d r) (records_of (run_of (reading text).book xs)) (records_of (run_of (reading text).book ys)) p
    → Crossed (tracematch_of d r) (run_of (reading text).book xs) (run_of (reading text).book ys) p
crossed text d r f xs ys bx by p o =
    let first = within_at (accepted_in (run_of (reading text).book xs)) in
    let second = within_at (accepted_in (run_of (reading text).book ys)) in
    let inside : (i : ℕ) → i < length (accepted_in (run_of (reading text).book xs)) → p.to i < length (accepted_in (run_of (reading text).book ys)) =
    λ i h. rw length-map at (p.to_inside i (rw length-map h)) in
    record {
      first = λ i h. (first i h).0;
      partner = λ i h. (second (p.to i) (inside i h)).0;
      first_at = λ i h. (first i h).1;
      partner_at = λ i h. (second (p.to i) (inside i h)).1;
      alike = λ i h. partners_alike text d r f xs ys bx by p o i _ _ (first i h).1 (second (p.to i) (inside i h)).1;
    }
