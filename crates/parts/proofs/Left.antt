-- What a call on a set leaves, by its number: on acceptance every book's own checks pass, and so does the space for all rows; on refusal all but the tally
-- stays. For the code of the calls and for the theorems about them.
use mathlib.Core.Path.{◌≡◌, refl, sym, ap, ap₂, ◌∙◌}
use mathlib.Core.Bool.{Bool, true, false, cond, ◌||◌}
use mathlib.Core.List.{List, [], ◌∷◌, ◌++◌, map}
use Prim.Native.Nat.{ℕ, zero, suc, ◌+◌, ◌*◌, ◌≤◌, ◌<◌}
use native.Mathlib.Omega.{arith}
use borrow.Author.Tests.{eqb-true, eqb-false, eq-eqb, ne_eqb, ltb-false}
use lib.Dec.{eqb, ltb}
use lib.ListN.{length}
use Rattle.laws.specs.Checks.{Check, first_failing}
use Rattle.laws.specs.Lists.{any, gather, numbers}
use Rattle.laws.specs.Parts.{splice}
use Rattle.laws.proofs.Checks.{first_refused, first_behind}
use Rattle.laws.proofs.Lists.{either, or_false_split, any_append}
use Rattle.form.specs.Text.{Bytes}
use Rattle.record.specs.Records.{event_in}
use Rattle.row.specs.RowBytes.{row_size}
use Rattle.tally.specs.Tallies.{tallied}
use Rattle.calls.specs.declared.EventAnswer.{EventAnswer}
use Rattle.calls.specs.declared.EventAnswer.TheVariants.{Accepted}
use Rattle.calls.specs.Answers.{number_of}
use Rattle.calls.specs.Calls.{decisions}
use Rattle.blocks.specs.BookBlock.{book_size, book_in}
use Rattle.blocks.specs.StateBlock.{state_size, state_in}
use Rattle.blocks.specs.TallyBlock.{tally_in, tally_words}
use Rattle.parts.specs.Parts.{part_bytes, rows_together, no_space_together, number_for, PartsLeft, parts_left}
use Rattle.parts.specs.SetBlock.{bad_count, count_checks, block_at, beyond_end, by_number, outside, book_part, parts_in, states_after, set_left}

-- checks by the numbers of their answers
pub first_by_number : (cs : List (Check EventAnswer)) → first_failing 0 (map by_number cs) ≡ number_of (first_failing Accepted cs)
first_by_number [] = refl
first_by_number (c ∷ cs) = go c.fails (first_by_number cs)
  where
    go : (z : Bool) → first_failing 0 (map by_number cs) ≡ number_of (first_failing Accepted cs)
        → cond z (number_of c.answer) (first_failing 0 (map by_number cs)) ≡ number_of (cond z c.answer (first_failing Accepted cs))
    go true e = refl
    go false e = e

-- no check has the number 0
abbrev pub NoneZero : List (Check ℕ) → Type 0
NoneZero cs = any (λ c. eqb c.answer 0) cs ≡ false

-- the first failing check of some and then others
pub first_of_both : (cs ds : List (Check ℕ)) → NoneZero cs
    → first_failing 0 (cs ++ ds) ≡ cond (eqb (first_failing 0 cs) 0) (first_failing 0 ds) (first_failing 0 cs)
first_of_both cs ds none = go (eqb (first_failing 0 cs) 0) refl
  where
    go : (z : Bool) → eqb (first_failing 0 cs) 0 ≡ z → first_failing 0 (cs ++ ds) ≡ cond z (first_failing 0 ds) (first_failing 0 cs)
    go true e = first_behind 0 (λ n. eqb n 0) cs ds none e
    go false e = first_refused 0 (λ n. eqb n 0) refl cs ds e

-- 0 is given where none fails, and nowhere else
pub zero_of_both : (cs ds : List (Check ℕ)) → NoneZero cs → first_failing 0 (cs ++ ds) ≡ 0 → (first_failing 0 cs ≡ 0) × (first_failing 0 ds ≡ 0)
zero_of_both cs ds none h = go (eqb (first_failing 0 cs) 0) refl (sym (first_of_both cs ds none) ∙ h)
  where
    go : (z : Bool) → eqb (first_failing 0 cs) 0 ≡ z → cond z (first_failing 0 ds) (first_failing 0 cs) ≡ 0 → (first_failing 0 cs ≡ 0) × (first_failing 0 ds ≡ 0)
    go true e k = (eqb-true (first_failing 0 cs) 0 e, k)
    go false e k = absurd (eqb-false (first_failing 0 cs) 0 e k)

pub both_zero : (cs ds : List (Check ℕ)) → NoneZero cs → first_failing 0 cs ≡ 0 → first_failing 0 (cs ++ ds) ≡ first_failing 0 ds
both_zero cs ds none e = first_of_both cs ds none ∙ ap (λ z. cond z (first_failing 0 ds) (first_failing 0 cs)) (eq-eqb (first_failing 0 cs) 0 e)

-- one check
pub one_zero : (z : Bool) (n : ℕ) → (n ≡ 0 → ⊥) → cond z n 0 ≡ 0 → z ≡ false
one_zero true n k h = absurd (k h)
one_zero false n k h = refl

-- The parts of a set in lent words.
module _ (w s : List ℕ) (bytes : Bytes) where
  pub part_none : (k : ℕ) → NoneZero (book_part w s bytes k).checks
  unfolding book_part
  part_none k = refl

  pub parts_none : (j n : ℕ) → NoneZero (gather (λ p. p.checks) (map (book_part w s bytes) (numbers j n)))
  parts_none j zero = refl
  parts_none j (suc n) =
      any_append (λ c. eqb c.answer 0) (book_part w s bytes j).checks _ ∙ ap₂ ◌||◌ (part_none j) (parts_none (suc j) n)

  -- a part's own answer, where its words are inside
  pub part_inside : (k : ℕ) → outside w s bytes k ≡ false
      → first_failing 0 (book_part w s bytes k).checks
      ≡ number_of (first_failing Accepted (decisions (book_in (block_at book_size k w)) (state_in (block_at state_size k s)) bytes))
  unfolding book_part
  part_inside k h = rw h (first_by_number (decisions (book_in (block_at book_size k w)) (state_in (block_at state_size k s)) bytes))

  pub part_outside : (k : ℕ) → outside w s bytes k ≡ true → first_failing 0 (book_part w s bytes k).checks ≡ 9
  unfolding book_part
  part_outside k h = rw h

  -- a part that does not refuse is inside, and its checks pass
  pub part_passes : (k : ℕ) → first_failing 0 (book_part w s bytes k).checks ≡ 0
      → (book_size * suc k ≤ length w) × (state_size * suc k ≤ length s)
      × (number_of (first_failing Accepted (decisions (book_in (block_at book_size k w)) (state_in (block_at state_size k s)) bytes)) ≡ 0)
  unfolding outside
  part_passes k h = go (outside w s bytes k) refl
    where
      sizes : outside w s bytes k ≡ false → (book_size * suc k ≤ length w) × (state_size * suc k ≤ length s)
      sizes e =
          let (x, y) = or_false_split (beyond_end book_size k w) (beyond_end state_size k s) e in
          (omega (arith, ltb-false (length w) (book_size * suc k) x), omega (arith, ltb-false (length s) (state_size * suc k) y))

      go : (z : Bool) → outside w s bytes k ≡ z → (book_size * suc k ≤ length w) × (state_size * suc k ≤ length s)
          × (number_of (first_failing Accepted (decisions (book_in (block_at book_size k w)) (state_in (block_at state_size k s)) bytes)) ≡ 0)
      go true e = absurd (let nine = part_outside k e in omega (arith, nine, h))
      go false e = let (a, b) = sizes e in (a, b, sym (part_inside k e) ∙ h)

  -- no part refuses where none of the list does
  pub each_passes : (j n : ℕ) → first_failing 0 (gather (λ p. p.checks) (map (book_part w s bytes) (numbers j n))) ≡ 0
      → (k : ℕ) → j ≤ k → k < j + n → first_failing 0 (book_part w s bytes k).checks ≡ 0
  each_passes j zero h k a b = absurd (omega arith)
  each_passes j (suc n) h k a b =
      let (here, rest) = zero_of_both (book_part w s bytes j).checks _ (part_none j) h in
      go (eqb k j) refl here (λ e. each_passes (suc j) n rest k (omega (arith, eqb-false k j e)) (omega arith))
    where
      go : (z : Bool) → eqb k j ≡ z → first_failing 0 (book_part w s bytes j).checks ≡ 0
          → (eqb k j ≡ false → first_failing 0 (book_part w s bytes k).checks ≡ 0) → first_failing 0 (book_part w s bytes k).checks ≡ 0
      go true e here later = ap (λ i. first_failing 0 (book_part w s bytes i).checks) (eqb-true k j e) ∙ here
      go false e here later = later e

  pub all_pass : (j n : ℕ) → ((k : ℕ) → j ≤ k → k < j + n → first_failing 0 (book_part w s bytes k).checks ≡ 0)
      → first_failing 0 (gather (λ p. p.checks) (map (book_part w s bytes) (numbers j n))) ≡ 0
  all_pass j zero h = refl
  all_pass j (suc n) h =
      both_zero (book_part w s bytes j).checks _ (part_none j) (h j (omega arith) (omega arith))
      ∙ all_pass (suc j) n (λ k a b. h k (omega arith) (omega arith))

  module _ (n : ℕ) (buffer : Bytes) (place : ℕ) where
    abbrev pub number : ℕ
    number = number_for (count_checks n) (parts_in w s bytes n) (event_in bytes) buffer place

    -- 0 where the count is right, no book refuses and the rows of all fit
    pub number_zero : number ≡ 0
        → (bad_count n ≡ false) × (first_failing 0 (gather (λ p. p.checks) (parts_in w s bytes n)) ≡ 0)
        × (place + row_size * rows_together (event_in bytes) (parts_in w s bytes n) ≤ length buffer)
    unfolding number_for no_space_together
    number_zero h =
        let here = gather (λ p. p.checks) (parts_in w s bytes n) in
        let end = place + row_size * rows_together (event_in bytes) (parts_in w s bytes n) in
        let last : List (Check ℕ) = record { fails = ltb (length buffer) end; answer = 13 } ∷ [] in
        let (a, r) = zero_of_both (count_checks n) (here ++ last) refl h in
        let (b, c) = zero_of_both here last (parts_none 0 n) r in
        let e : ltb (length buffer) end ≡ false = one_zero _ 13 (λ k. omega (arith, k)) c in
        (one_zero (bad_count n) 14 (λ k. omega (arith, k)) a, b, omega (arith, ltb-false (length buffer) end e))

    module _ (t : List ℕ) where
      abbrev pub left_number : (set_left w s n bytes buffer place t).number ≡ number
      unfolding set_left parts_left
      left_number = either (λ (r : PartsLeft). r.number ≡ number) (eqb number 0) (λ _. refl) (λ _. refl)

      pub left_accepted : number ≡ 0
          → set_left w s n bytes buffer place t
          ≡ record {
            number = 0;
            rows = rows_together (event_in bytes) (parts_in w s bytes n);
            buffer = splice place (gather (part_bytes (event_in bytes)) (parts_in w s bytes n)) buffer;
            tally = tally_words (tallied (tally_in t) 1 0 (rows_together (event_in bytes) (parts_in w s bytes n)));
            states = states_after w s bytes n;
          }
      unfolding set_left parts_left
      left_accepted h = rw h

      pub left_refused : (number ≡ 0 → ⊥)
          → set_left w s n bytes buffer place t
          ≡ record { number = number; rows = 0; buffer = buffer; tally = tally_words (tallied (tally_in t) 0 1 0); states = s }
      unfolding set_left parts_left
      left_refused h = rw (ne_eqb number 0 h, ne_eqb number 0 h)
