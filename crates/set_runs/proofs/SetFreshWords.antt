-- What `watch_set_fresh` hands back and leaves, for any words and any count: `set_fresh_rules`. For the buyer.
use mathlib.Core.Path.{◌≡◌, refl, ap, ◌∙◌}
use mathlib.Core.Bool.{Bool, true, false, cond}
use mathlib.Core.List.{List, map}
use mathlib.Core.Logic.{◌⊎◌, inl, inr, ⊎_elim}
use Prim.Native.Nat.{ℕ, zero, suc, ◌+◌, ◌*◌, ◌≤◌, ◌<◌}
use native.Mathlib.Omega.{arith}
use borrow.Author.Tests.{eqb-true, eqb-false, ltb-true, ltb-false, le-ltb}
use lib.Dec.{eqb, ltb}
use lib.ListN.{length, drop, length-append, length-drop}
use lib.Seq.{drop_at}
use Rattle.laws.specs.Checks.{first_failing}
use Rattle.laws.specs.Lists.{gather, numbers}
use Rattle.laws.specs.Parts.{front}
use Rattle.laws.proofs.Fronts.{gather_length}
use Rattle.laws.proofs.Lists.{or_true_split, or_false_split, length_numbers}
use Rattle.calls.specs.Calls.{fresh_state}
use Rattle.blocks.specs.StateBlock.{state_words}
use Rattle.blocks.proofs.States.{state_length}
use Rattle.lent_runs.proofs.Said.{fresh_words_said}
use Rattle.lent_runs.proofs.Seen.{fresh_canonical}
use Rattle.parts.specs.SetBlock.{bad_count, beyond_end, set_fresh}
use Rattle.set_runs.specs.SetChecks.{FreshRules}
use Rattle.set_runs.proofs.SetBlocks.{block_gather, numbers_from}

module _ (s : List ℕ) where
  abbrev turns : (j m : ℕ) → ℕ
  turns j m = first_failing {A = ℕ} 0 (map (λ k. record { fails = beyond_end 3715 k s; answer = 9 }) (numbers j m))

  all_inside : (j m : ℕ) → 3715 * (j + m) ≤ length s → turns j m ≡ 0
  all_inside j zero h = refl
  all_inside j (suc m) h = rw (le-ltb (length s) (3715 * suc j) (omega arith)) (all_inside (suc j) m (omega arith))

  some_outside : (j m : ℕ) → 1 ≤ m → length s < 3715 * (j + m) → turns j m ≡ 9
  some_outside j zero some h = absurd (omega arith)
  some_outside j (suc m) some h = go (beyond_end 3715 j s) refl (λ e k. some_outside (suc j) m k (omega arith))
    where
      go : (z : Bool) → beyond_end 3715 j s ≡ z → (beyond_end 3715 j s ≡ false → 1 ≤ m → turns (suc j) m ≡ 9) → cond z 9 (turns (suc j) m) ≡ 9
      go true e rest = refl
      go false e rest = let f = ltb-false (length s) (3715 * suc j) e in rest e (omega arith)

  abbrev made : ℕ → List ℕ
  made n = gather (λ k. state_words fresh_state) (numbers 0 n)

  made_long : (n : ℕ) → length (made n) ≡ 3715 * n
  made_long n =
      gather_length (λ k. state_words fresh_state) 3715 (numbers 0 n) (λ k m. state_length fresh_state fresh_canonical) ∙ omega (arith, length_numbers 0 n)

  -- the three cases
  module _ (n : ℕ) where
    out_of_range : bad_count n ≡ true → (n ≡ 0) ⊎ (8 < n)
    unfolding bad_count
    out_of_range h = ⊎_elim (λ e. inl (eqb-true n 0 e)) (λ e. inr (ltb-true 8 n e)) (or_true_split (eqb n 0) (ltb 8 n) h)

    in_range_law : bad_count n ≡ false → (1 ≤ n) × (n ≤ 8)
    unfolding bad_count
    in_range_law h =
        let (a, b) = or_false_split (eqb n 0) (ltb 8 n) h in
        let no = eqb-false n 0 a in
        (omega (arith, ltb-false 8 n b, no), omega (arith, ltb-false 8 n b))

    wrong_count : (n ≡ 0) ⊎ (8 < n) → FreshRules s n 14 s
    wrong_count h = record {
      fourteen = (λ _. h, λ _. refl);
      nine = (λ e. absurd (omega (arith, e)), λ (a, b, c). absurd (⊎_elim (λ e. omega (arith, e, a)) (λ e. omega (arith, e, b)) h));
      zero = (λ e. absurd (omega (arith, e)), λ (a, b, c). absurd (⊎_elim (λ e. omega (arith, e, a)) (λ e. omega (arith, e, b)) h));
      stays = λ _. refl;
      fresh = λ e. absurd (omega (arith, e));
    }

    too_few : 1 ≤ n → n ≤ 8 → length s < 3715 * n → FreshRules s n 9 s
    too_few a b c = record {
      fourteen = (λ e. absurd (omega (arith, e)), λ h. absurd (⊎_elim (λ e. omega (arith, e, a)) (λ e. omega (arith, e, b)) h));
      nine = (λ _. (a, b, c), λ _. refl);
      zero = (λ e. absurd (omega (arith, e)), λ (x, y, z). absurd (omega arith));
      stays = λ _. refl;
      fresh = λ e. absurd (omega (arith, e));
    }

    enough : 1 ≤ n → n ≤ 8 → 3715 * n ≤ length s → FreshRules s n 0 (front (made n) s)
    unfolding front
    enough a b c = record {
      fourteen = (λ e. absurd (omega (arith, e)), λ h. absurd (⊎_elim (λ e. omega (arith, e, a)) (λ e. omega (arith, e, b)) h));
      nine = (λ e. absurd (omega (arith, e)), λ (x, y, z). absurd (omega arith));
      zero = (λ _. (a, b, c), λ _. refl);
      stays = λ h. absurd (h refl);
      fresh = λ _.
          let size = made_long n in (
            λ k h. block_gather 3715 (λ k. state_words fresh_state) (numbers 0 n) (λ k m. state_length fresh_state fresh_canonical) (drop (length (made n)) s) k k
                (numbers_from n k h) ∙ fresh_words_said,
            drop_at (made n) (drop (length (made n)) s) (3715 * n) size ∙ ap (λ m. drop m s) size,
            omega (arith, length-append (made n) (drop (length (made n)) s), length-drop (length (made n)) s, size),
          );
    }

    rules_of : FreshRules s n (set_fresh s n).number (set_fresh s n).states
    unfolding set_fresh
    rules_of = go (bad_count n) refl (ltb (length s) (3715 * n)) refl
      where
        go : (x : Bool) → bad_count n ≡ x → (y : Bool) → ltb (length s) (3715 * n) ≡ y
            → FreshRules s n (cond x 14 (turns 0 n)) (cond (eqb (cond x 14 (turns 0 n)) 0) (front (made n) s) s)
        go true e y f = wrong_count (out_of_range e)
        go false e true f =
            let (a, b) = in_range_law e in
            let c = ltb-true (length s) (3715 * n) f in
            rw (some_outside 0 n a (omega arith)) (too_few a b c)
        go false e false f =
            let (a, b) = in_range_law e in
            let c : 3715 * n ≤ length s = omega (arith, ltb-false (length s) (3715 * n) f) in
            rw (all_inside 0 n (omega arith)) (enough a b c)

pub set_fresh_rules : (s : List ℕ) (n : ℕ) → FreshRules s n (set_fresh s n).number (set_fresh s n).states
set_fresh_rules s n = rules_of s n
