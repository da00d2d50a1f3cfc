-- An array that a loop fills from the front, and the same array by positions, where index i is position i + 1.
use mathlib.Core.Path.{◌≡◌, sym, ap, ◌∙◌}
use mathlib.Core.List.{List, map}
use Prim.Native.Nat.{ℕ, ◌+◌, ◌≤◌, ◌<◌}
use native.Mathlib.Decide.{ℕ_discrete}
use native.Mathlib.Nat.{zero-add}
use native.Mathlib.Omega.{arith}
use lib.ListN.{length, get_or, set, length-set, length-map}
use lib.Seq.{ext_get_or, get_or-set_same, get_or-set_other}
use Rattle.laws.specs.Lists.{numbers}
use Rattle.laws.proofs.Lists.{length_numbers, get_or_numbers}

-- of n elements the first i are those that f gives
pub record Filled (f : ℕ → ℕ) (n i : ℕ) (r : List ℕ) : Type 0 where
  pub few : i ≤ n
  pub long : length r ≡ n
  pub at : (j : ℕ) → j < i → get_or r j 0 ≡ f j

module _ (f : ℕ → ℕ) (n : ℕ) where
  pub filled_none : {r : List ℕ} → length r ≡ n → Filled f n 0 r
  filled_none h = record { few = omega arith; long = h; at = λ j l. absurd (omega arith) }

  filled_more : (i : ℕ) (r : List ℕ) → i < n → Filled f n i r → Filled f n (i + 1) (set r i (f i))
  filled_more i r h d =
      record {
        few = omega arith;
        long = length-set r i (f i) ∙ d.long;
        at = λ j l. go j l (ℕ_discrete j i);
      }
    where
      go : (j : ℕ) → j < i + 1 → Dec (j ≡ i) → get_or (set r i (f i)) j 0 ≡ f j
      go j l (yes e) = rw e (get_or-set_same r i (f i) 0 (omega arith))
      go j l (no e) = get_or-set_other r i j (f i) 0 e ∙ d.at j (omega arith)

  -- what is written may be any term that f's is equal to
  pub filled_next : (i : ℕ) (r : List ℕ) (x : ℕ) → i < n → x ≡ f i → Filled f n i r → Filled f n (i + 1) (set r i x)
  filled_next i r x h e d = rw e (filled_more i r h d)

  length_map_numbers : (k : ℕ) → length (map f (numbers k n)) ≡ n
  length_map_numbers k = length-map (numbers k n) f ∙ length_numbers k n

  -- a list of n elements is a map over numbers if its elements are those of the map
  pub by_elements : (k : ℕ) (r : List ℕ) → length r ≡ n → ((i : ℕ) → i < n → get_or r i 0 ≡ f (k + i)) → r ≡ map f (numbers k n)
  by_elements k r l h =
      ext_get_or 0 r (map f (numbers k n)) (l ∙ sym (length_map_numbers k)) (λ i m. h i (omega arith) ∙ sym (get_or_numbers f k n i 0 (omega arith)))

  pub filled_all : (i : ℕ) (r : List ℕ) → n ≤ i → Filled f n i r → r ≡ map f (numbers 0 n)
  filled_all i r h d = by_elements 0 r d.long (λ j m. d.at j (omega arith) ∙ ap f (sym (zero-add j)))

  -- by index, and by position
  pub by_position : (g : ℕ → ℕ) → ((i : ℕ) → i < n → g i ≡ f (1 + i)) → map g (numbers 0 n) ≡ map f (numbers 1 n)
  by_position g h =
      by_elements 1 (map g (numbers 0 n)) (length-map (numbers 0 n) g ∙ length_numbers 0 n)
      (λ i m. get_or_numbers g 0 n i 0 m ∙ ap g (zero-add i) ∙ h i m)
