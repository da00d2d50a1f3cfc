-- What the definitions of runs and paired traces compute or shut out, from these alone: a wrong one is refused here first, because a fact is false.
use mathlib.Core.Path.{◌≡◌, refl}
use mathlib.Core.Bool.{Bool, true, false, not}
use mathlib.Core.List.{[], ◌∷◌}
use Prim.Native.Nat.{ℕ, ◌+◌}
use native.Mathlib.Omega.{arith}
use lib.Dec.{eqb}
use Rattle.runs.specs.Runs.{Machine, results_from, state_from, trace_by, behind_trace}
use Rattle.runs.specs.Pairs.{Pairing, OrderKept}

-- a counter: a call adds its number, but for 9, which is refused; a result is the call and the count behind it
abbrev counter : Machine ℕ ℕ (ℕ × ℕ)
counter = record { gives = λ s c. (c, go (eqb c 9) s c); leaves = λ r. r.1 }
  where
    go : Bool → ℕ → ℕ → ℕ
    go true s c = s
    go false s c = s + c

-- each call gets the state behind the one before it, also behind a refused one; the accepted ones are the trace
pub counted_up : (results_from counter 5 (1 ∷ 9 ∷ 2 ∷ []) ≡ (1, 6) ∷ (9, 6) ∷ (2, 8) ∷ []) × (state_from counter 5 (1 ∷ 9 ∷ 2 ∷ []) ≡ 8)
    × (trace_by (λ r. not (eqb r.0 9)) (λ r. r.0) (results_from counter 5 (1 ∷ 9 ∷ 2 ∷ [])) ≡ 1 ∷ 2 ∷ []) × (behind_trace ◌+◌ 5 (1 ∷ 2 ∷ []) ≡ 8)
counted_up = (refl, refl, refl, refl)

-- "dependent ones in the same order": two that depend on one another may not be exchanged
pub exchanged : (p : Pairing {A = ℕ} 0 (7 ∷ 7 ∷ []) (7 ∷ 7 ∷ [])) → p.to 0 ≡ 1 → p.to 1 ≡ 0
    → OrderKept {A = ℕ} 0 (λ x y. x ≡ y) (7 ∷ 7 ∷ []) (7 ∷ 7 ∷ []) p → ⊥
exchanged p a b o = omega (arith, o.keeps 0 1 (omega arith) (omega arith) refl, a, b)
