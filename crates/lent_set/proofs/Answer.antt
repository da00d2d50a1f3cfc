-- What a set answers, by the count, by the first failing check of its books, and by the space for their rows. For `judge_set`.
use mathlib.Core.Path.{◌≡◌, sym, ap, ◌∙◌}
use mathlib.Core.Bool.{true, false, cond}
use mathlib.Core.List.{List, [], ◌∷◌, ◌++◌}
use Prim.Native.Nat.{ℕ, ◌+◌, ◌*◌, ◌≤◌, ◌<◌}
use native.Mathlib.Omega.{arith}
use borrow.Author.Tests.{ne_eqb, ltb-false, lt-ltb, le-ltb}
use lib.Dec.{eqb, ltb}
use lib.ListN.{length}
use Rattle.laws.specs.Checks.{Check, first_failing}
use Rattle.laws.specs.Lists.{gather}
use Rattle.laws.proofs.Lists.{or_false_split}
use Rattle.form.specs.Text.{Bytes}
use Rattle.record.specs.Records.{event_in}
use Rattle.row.specs.RowBytes.{row_size}
use Rattle.parts.specs.Parts.{rows_together, no_space_together, number_for}
use Rattle.parts.specs.SetBlock.{set_limit, bad_count, count_checks, parts_in}
use Rattle.parts.proofs.Left.{parts_none, first_of_both, both_zero}

pub few_books : (n : ℕ) → bad_count n ≡ false → n ≤ set_limit
unfolding bad_count
few_books n h = omega (arith, ltb-false set_limit n (or_false_split (eqb n 0) (ltb set_limit n) h).1)

module _ (w s : List ℕ) (bytes : Bytes) (n : ℕ) (buffer : Bytes) (place : ℕ) where
  abbrev answer : ℕ
  answer = number_for (count_checks n) (parts_in w s bytes n) (event_in bytes) buffer place

  -- the checks of the books, and the one behind them
  abbrev checks : List (Check ℕ)
  checks = gather (λ p. p.checks) (parts_in w s bytes n)

  abbrev last : List (Check ℕ)
  last = record { fails = no_space_together (count_checks n) (parts_in w s bytes n) (event_in bytes) buffer place; answer = 13 } ∷ []

  pub answer_count : bad_count n ≡ true → 14 ≡ answer
  unfolding number_for
  answer_count h = rw h

  module _ (right : bad_count n ≡ false) where
    books_first : first_failing 0 (checks ++ last) ≡ answer
    unfolding number_for
    books_first = rw right

    pub answer_refused : (first_failing 0 checks ≡ 0 → ⊥) → first_failing 0 checks ≡ answer
    answer_refused h =
        ap (λ z. cond z (first_failing 0 last) (first_failing 0 checks)) (sym (ne_eqb (first_failing 0 checks) 0 h))
        ∙ sym (first_of_both checks last (parts_none w s bytes 0 n)) ∙ books_first

    module _ (passes : first_failing 0 checks ≡ 0) where
      last_told : first_failing 0 last ≡ answer
      last_told = sym (both_zero checks last (parts_none w s bytes 0 n) passes) ∙ books_first

      pub answer_fits : place + row_size * rows_together (event_in bytes) (parts_in w s bytes n) ≤ length buffer → 0 ≡ answer
      unfolding no_space_together
      answer_fits h = ap (λ z. cond z 13 0) (sym (le-ltb _ _ h)) ∙ last_told

      pub answer_short : length buffer < place + row_size * rows_together (event_in bytes) (parts_in w s bytes n) → 13 ≡ answer
      unfolding no_space_together
      answer_short h = ap (λ z. cond z 13 0) (sym (lt-ltb _ _ h)) ∙ last_told
