-- What fresh states for a set leave: nothing where the count is bad or a state ends beyond the words, else so many of them. For `watch_set_fresh`.
use mathlib.Core.Path.{◌≡◌, refl}
use mathlib.Core.Bool.{Bool, true, false, cond}
use mathlib.Core.List.{List, map}
use Prim.Native.Nat.{ℕ, zero, suc, ◌+◌, ◌*◌, ◌≤◌, ◌<◌}
use native.Mathlib.Omega.{arith}
use borrow.Author.Tests.{eqb-false, ltb-false, le-ltb}
use lib.Dec.{eqb, ltb}
use lib.ListN.{length}
use Rattle.laws.specs.Checks.{Check, first_failing}
use Rattle.laws.specs.Lists.{gather, numbers}
use Rattle.laws.specs.Parts.{front}
use Rattle.laws.proofs.Lists.{or_false_split}
use Rattle.calls.specs.Calls.{fresh_state}
use Rattle.blocks.specs.StateBlock.{state_size, state_words}
use Rattle.parts.specs.SetBlock.{set_limit, bad_count, beyond_end, set_fresh}

module _ (s : List ℕ) where
  -- the checks of so many states from the i-th on
  abbrev ends : (i n : ℕ) → List (Check ℕ)
  ends i n = map (λ k. record { fails = beyond_end state_size k s; answer = 9 }) (numbers i n)

  ends_inside : (i n : ℕ) → state_size * (i + n) ≤ length s → first_failing 0 (ends i n) ≡ 0
  ends_inside i zero h = refl
  ends_inside i (suc n) h = rw (le-ltb (length s) (state_size * suc i) (omega arith)) (ends_inside (suc i) n (omega arith))

  ends_beyond : (i n : ℕ) → 0 < n → length s < state_size * (i + n) → first_failing 0 (ends i n) ≡ 9
  ends_beyond i zero some h = absurd (omega arith)
  ends_beyond i (suc n) some h = go (beyond_end state_size i s) refl (λ more. ends_beyond (suc i) n more (omega arith))
    where
      go : (z : Bool) → beyond_end state_size i s ≡ z → (0 < n → first_failing 0 (ends (suc i) n) ≡ 9) → cond z 9 (first_failing 0 (ends (suc i) n)) ≡ 9
      go true e rest = refl
      go false e rest = rest (omega (arith, ltb-false (length s) (state_size * suc i) e))

  module _ (n : ℕ) where
    pub fresh_bad : bad_count n ≡ true → set_fresh s n ≡ record { number = 14; states = s }
    unfolding set_fresh
    fresh_bad h = rw h

    module _ (right : bad_count n ≡ false) where
      some_books : 0 < n
      unfolding bad_count
      some_books = omega (arith, eqb-false n 0 (or_false_split (eqb n 0) (ltb set_limit n) right).0)

      pub fresh_short : length s < state_size * n → set_fresh s n ≡ record { number = 9; states = s }
      unfolding set_fresh
      fresh_short h = rw (right, ends_beyond 0 n some_books (omega arith))

      pub fresh_made : state_size * n ≤ length s → {out : List ℕ} → out ≡ front (gather (λ k. state_words fresh_state) (numbers 0 n)) s
          → set_fresh s n ≡ record { number = 0; states = out }
      unfolding set_fresh
      fresh_made h made = rw (right, ends_inside 0 n (omega arith), made)
