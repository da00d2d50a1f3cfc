-- Law `reduced`: whether a valuation is a row depends only on the trace reduced to the events that concern it; and `reduced_first`, of which it is
-- a corollary: the first event of a match is told by how many events that concern the valuation come before it.
use mathlib.Core.Path.{◌≡◌, refl, sym, ap, ◌∙◌}
use mathlib.Core.Bool.{Bool, true}
use mathlib.Core.List.{List, Memᴰ}
use Prim.Native.Nat.{ℕ, suc, ◌+◌, ◌-◌, ◌≤◌}
use native.Mathlib.Omega.{arith}
use lib.ListN.{length, take, drop, get_or, length-take, length-drop, take-append-drop}
use lib.Seq.{drop_at, get_or-drop, get_or-take, take-take}
use Rattle.laws.specs.Lists.{keep}
use Rattle.laws.proofs.Lists.{keep_append, mem_keep, mem_get_or, mem_index}
use Rattle.runs.proofs.Runs.{within_at}
use Rattle.runs.proofs.Accepted.{passed_at}
use Rattle.meaning.specs.Events.{Event, Valuation, concerns}
use Rattle.meaning.specs.Meaning.{Tracematch, no_event, concerning, stretch, Match, Row}

-- what passes of a suffix is a suffix of what passes
keep_drop : {A : Type 0} (f : A → Bool) (k : ℕ) (l : List A) → keep f (drop k l) ≡ drop (length (keep f (take k l))) (keep f l)
keep_drop f k l =
    sym (drop_at (keep f (take k l)) (keep f (drop k l)) _ refl)
    ∙ ap (drop (length (keep f (take k l)))) (sym (keep_append f (take k l) (drop k l)) ∙ ap (keep f) (take-append-drop k l))

keep_dropped : {A : Type 0} (f : A → Bool) (k j : ℕ) (l : List A) → length (keep f (take k l)) ≡ j → keep f (drop k l) ≡ drop j (keep f l)
keep_dropped f k j l e = keep_drop f k l ∙ ap (λ i. drop i (keep f l)) e

-- event number n stands in each stretch that ends with it
last_of : (t : List Event) (first n : ℕ) → 1 ≤ first → first ≤ n → n ≤ length t → Memᴰ (get_or t (n - 1) no_event) (stretch t first n)
last_of t first n low mid high =
    let s = stretch t first n in
    let place : first - 1 + (n - first) ≡ n - 1 = omega arith in
    let same : get_or s (n - first) no_event ≡ get_or t (n - 1) no_event = rw (get_or-drop, place) (get_or-take n t (n - 1) no_event (omega arith)) in
    rw same at (mem_get_or s (n - first) no_event (simp (length-drop, length-take) (omega arith)))

module _ (tm : Tracematch) (σ : Valuation) where
  -- how many of the first n events concern σ
  abbrev pub concerned_in : List Event → ℕ → ℕ
  concerned_in t n = length (concerning tm σ (take n t))

  -- A match of one trace is one of every trace that is reduced alike. Its first event concerns σ, and as many events that concern σ come before it.
  pub reduced_first : (t u : List Event) (n m : ℕ) → 1 ≤ m → m ≤ length u → concerning tm σ (take n t) ≡ concerning tm σ (take m u)
      → (first : ℕ) → Match tm t first n σ → concerns tm.symbols (get_or t (n - 1) no_event) σ ≡ true
      → (other : ℕ) × Match tm u other m σ × (concerns tm.symbols (get_or u (other - 1) no_event) σ ≡ true)
      × (concerned_in u (other - 1) ≡ concerned_in t (first - 1))
  reduced_first t u n m low high same first a c =
      let f : Event → Bool = λ e. concerns tm.symbols e σ in
      let j : ℕ = length (keep f (take (first - 1) (take n t))) in
      let from : concerning tm σ (stretch t first n) ≡ drop j (concerning tm σ (take m u)) = keep_drop f (first - 1) (take n t) ∙ ap (drop j) same in
      let some = mem_index no_event ((mem_keep f _ _).1 (last_of t first n a.from a.upto a.inside, c)) in
      let (x, w) = within_at (keep f (take m u)) j (omega (arith, some.1, ap length from, length-drop j (concerning tm σ (take m u)))) in
      let p = passed_at f (take m u) j x w in
      let k : ℕ = p.place in
      let one : suc k - 1 ≡ k = omega arith in
      let inside : suc k ≤ m = omega (arith, p.there.inside, length-take m u) in
      let there : keep f (drop k (take m u)) ≡ drop j (keep f (take m u)) = keep_dropped f k j (take m u) p.before in (
        suc k,
        record {
          from = omega arith;
          upto = inside;
          inside = high;
          word = a.word;
          reading = rw (one, there, ← from) a.reading;
          spoken = a.spoken;
        },
        rw (one, ← get_or-take m u k no_event inside, p.there.at no_event) p.passes,
        rw (one, ← take-take k m u (omega arith), p.before, ← take-take (first - 1) n t (omega (arith, a.upto))) refl,
      )

  pub reduced_match : (t : List Event) (n first : ℕ) → Match tm t first n σ → concerns tm.symbols (get_or t (n - 1) no_event) σ ≡ true
      → (other : ℕ) × Match tm t other n σ × (concerns tm.symbols (get_or t (other - 1) no_event) σ ≡ true)
  reduced_match t n first a c =
      let (g, m, d, _) = reduced_first t t n n (omega (arith, a.from, a.upto)) a.inside refl first a c in (g, m, d)

pub reduced : (tm : Tracematch) (σ : Valuation) (t u : List Event) (n m : ℕ)
    → 1 ≤ m → m ≤ length u → concerns tm.symbols (get_or u (m - 1) no_event) σ ≡ true
    → concerning tm σ (take n t) ≡ concerning tm σ (take m u) → Row tm t n σ → Row tm u m σ
reduced tm σ t u n m low high c same r =
    let (g, a, _, _) = reduced_first tm σ t u n m low high same r.first r.match r.concerned in
    record { valuation = r.valuation; concerned = c; first = g; match = a }
