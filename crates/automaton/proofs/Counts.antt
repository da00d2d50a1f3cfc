-- The counts of a sound book's beginning and ending positions are the numbers of such positions.
use mathlib.Core.Path.{◌≡◌, sym, ◌∙◌}
use mathlib.Core.Bool.{true, not, true≢false, and-eq-true_iff}
use Prim.Native.Nat.{ℕ, zero, suc, ◌+◌, ◌^◌, ◌≤◌, ◌<◌}
use native.Mathlib.Nat.{lt_of_not-le}
use native.Mathlib.Omega.{arith}
use lib.Count.{ones}
use lib.Dec.{ltb}
use lib.ListN.{length}
use borrow.Author.Tests.{ltb-true, not-true}
use Rattle.laws.specs.Bits.{bit}
use Rattle.laws.specs.Lists.{keep, numbers}
use Rattle.laws.proofs.Bits.{bit_above}
use Rattle.laws.proofs.Lists.{and_true_split}
use Rattle.pattern.proofs.Masks.{count_ones}
use Rattle.meaning.specs.Book.{Book, sound_mask, sound_book, positions, begins_at, ends_at, begin_count, end_count}

mask_count : (n m : ℕ) → sound_mask n m ≡ true → ones m ≡ length (keep (λ p. bit p m) (numbers 1 n))
mask_count n m h = count_ones n m λ p k. (low p k, high p k)
  where
    sound : (ltb m (2 ^ suc n) ≡ true) × (not (bit 0 m) ≡ true)
    sound = and_true_split (ltb m (2 ^ suc n)) (not (bit 0 m)) h

    low : (p : ℕ) → bit p m ≡ true → 1 ≤ p
    low zero k = absurd (true≢false (sym k ∙ not-true (bit 0 m) sound.1))
    low (suc p) k = omega arith

    high : (p : ℕ) → bit p m ≡ true → p < 1 + n
    high p k = lt_of_not-le λ l. true≢false (sym k ∙ bit_above (suc n) p m (ltb-true _ _ sound.0) (omega arith))

masks : (b : Book) → sound_book b ≡ true → (sound_mask (length b.occurrences) b.begins ≡ true) × (sound_mask (length b.occurrences) b.ends ≡ true)
unfolding sound_book
masks b h = let p = simp and-eq-true_iff at h in simp and-eq-true_iff (search)

pub begin_count_law : (b : Book) → sound_book b ≡ true → begin_count b ≡ length (keep (begins_at b) (positions b))
begin_count_law b h = let (x, y) = masks b h in mask_count (length b.occurrences) b.begins x

pub end_count_law : (b : Book) → sound_book b ≡ true → end_count b ≡ length (keep (ends_at b) (positions b))
end_count_law b h = let (x, y) = masks b h in mask_count (length b.occurrences) b.ends y
