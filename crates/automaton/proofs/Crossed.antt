-- Theorem `crossed` (demand 3 on plain data): two runs whose accepted events pair up, dependent ones in the same order,
-- list the same rows at partners, and these are the declarative meaning in each run.
use mathlib.Core.Path.{◌≡◌}
use mathlib.Core.Bool.{true}
use mathlib.Core.List.{List, []}
use mathlib.Core.Logic.Iff
use mathlib.Core.Logic.{◌↔◌}
use Prim.Native.Nat.{ℕ, suc, ◌-◌, ◌<◌}
use native.Mathlib.Omega.{arith}
use lib.ListN.{length, get_or}
use Rattle.laws.specs.Lists.{all}
use Rattle.laws.proofs.Sets.{same_members}
use Rattle.runs.specs.Pairs.{Pairing}
use Rattle.runs.proofs.Pairs.{turn, paired_all, order_fewer, order_turned, reduced_alike}
use Rattle.meaning.specs.Events.{Event, Valuation, well_formed, is_valuation, concerns}
use Rattle.meaning.specs.Meaning.{Tracematch, no_event, Row}
use Rattle.meaning.specs.Book.{Proper}
use Rattle.meaning.specs.Runs.{Call, trace_of, row_lists, Listed, Dependent, Ordered}
use Rattle.automaton.proofs.Listed.{listed}
use Rattle.automaton.proofs.Orders.{valuation_order}
use Rattle.automaton.proofs.Reduced.{reduced}

-- what depends on one another through one valuation
common : (tm : Tracematch) (σ : Valuation) → is_valuation tm.variables σ ≡ true → (e f : Event)
    → (concerns tm.symbols e σ ≡ true) × (concerns tm.symbols f σ ≡ true) → Dependent tm e f
common tm σ v e f (c, d) = record { common = σ; valuation = v; first = c; second = d }

-- dependence has no direction
swapped : (tm : Tracematch) (e f : Event) → Dependent tm e f → Dependent tm f e
swapped tm e f d = record { common = d.common; valuation = d.valuation; first = d.second; second = d.first }

row : (tm : Tracematch) (t u : List Event) (pairs : Pairing no_event t u) → Ordered no_event (λ e. e) tm t u pairs → (i : ℕ) → i < length t → (σ : Valuation)
    → Row tm t (suc i) σ → Row tm u (suc (pairs.to i)) σ
row tm t u pairs ord i h σ r =
    let c : concerns tm.symbols (get_or t i no_event) σ ≡ true = rw (last i) at r.concerned in
    reduced tm σ t u (suc i) (suc (pairs.to i)) (omega arith) (pairs.to_inside i h) (rw (last (pairs.to i), pairs.same i h) c)
    (reduced_alike no_event (λ e. concerns tm.symbols e σ) t u pairs (order_fewer (common tm σ r.valuation) ord) i h c) r
  where
    last : (n : ℕ) → suc n - 1 ≡ n
    last n = omega arith

-- partners are rows for the same valuations
pub partner_rows : (tm : Tracematch) (t u : List Event) (pairs : Pairing no_event t u) → Ordered no_event (λ e. e) tm t u pairs
    → (i : ℕ) → i < length t → (σ : Valuation) → Row tm t (suc i) σ ↔ Row tm u (suc (pairs.to i)) σ
partner_rows tm t u pairs ord i h σ = (
  row tm t u pairs ord i h σ,
  λ r. rw (pairs.back_to i h) at (row tm u t (turn pairs) (order_turned (swapped tm) t u pairs ord) (pairs.to i) (pairs.to_inside i h) σ r),
)

pub crossed : (tm : Tracematch) → Proper tm → (xs ys : List Call) → all well_formed (trace_of xs) ≡ true
    → (pairs : Pairing no_event (trace_of xs) (trace_of ys)) → Ordered no_event (λ e. e) tm (trace_of xs) (trace_of ys) pairs → (i : ℕ) → i < length (trace_of xs)
    → (get_or (row_lists tm xs) i [] ≡ get_or (row_lists tm ys) (pairs.to i) [])
    × Listed tm (trace_of xs) (suc i) (get_or (row_lists tm xs) i [])
    × Listed tm (trace_of ys) (suc (pairs.to i)) (get_or (row_lists tm ys) (pairs.to i) [])
crossed tm ok xs ys gx pairs ord i h =
    let gy = paired_all well_formed (trace_of xs) (trace_of ys) pairs gx in
    let a = listed tm ok xs gx i h in
    let b = listed tm ok ys gy (pairs.to i) (pairs.to_inside i h) in (
      same_members valuation_order _ _ a.ordered b.ordered
          (λ σ. Iff.trans (a.exact σ) (Iff.trans (partner_rows tm (trace_of xs) (trace_of ys) pairs ord i h σ) (Iff.symm (b.exact σ)))),
      a,
      b,
    )
