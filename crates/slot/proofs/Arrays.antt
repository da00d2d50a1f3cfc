-- An array in which a value is put and the later ones are moved up, and one whose rest is filled with zeros. For `opened` and `tidied`.
use mathlib.Core.Path.{◌≡◌, sym, ap, ap₂, ◌∙◌}
use mathlib.Core.List.{List, [], ◌∷◌, ◌++◌, append_assoc, append-nil}
use Prim.Native.Nat.{ℕ, suc, ◌+◌, ◌-◌, ◌≤◌, ◌<◌}
use native.Mathlib.Omega.{arith}
use lib.ListN.{length, take, drop, set, replicate, length-drop, drop_of_length-le}
use lib.Seq.{take-suc-set, length-take-le, take-set-lt}
use Rattle.std.specs.List.{copy_within}
use Rattle.std.proofs.lemmas.List.{set-append_left}
use Rattle.std.proofs.lemmas.List.Edits.{take-paste}
use Rattle.std.proofs.lemmas.Slice.{between_is}
use Rattle.laws.specs.Parts.{pad}

module _ (xs : List ℕ) (k x : ℕ) where
  -- the first numbers up to i with x put at k
  abbrev pub gap : ℕ → List ℕ
  gap i = take k xs ++ x ∷ drop k (take i xs)

  pub gap_opened : (n : ℕ) → k ≤ n → n < length xs → take (suc n) (set (copy_within xs k n (k + 1)) k x) ≡ gap n
  gap_opened n h l =
      let m = n - k in
      let moved = copy_within xs k n (k + 1) in
      let p : take (k + 1 + m) moved ≡ take (k + 1) xs ++ take m (drop k xs) =
      take-paste xs (k + 1) (drop k xs) m (omega arith) (omega (arith, length-drop k xs)) in
      let e : suc n ≡ k + 1 + m = omega arith in
      let i : k + 1 ≡ suc k = omega arith in
      let f : length (take (suc k) xs) ≡ suc k = length-take-le (suc k) xs (omega arith) in
      take-set-lt (suc n) moved k x (omega arith)
      ∙ ap (λ l. set l k x) (ap (λ j. take j moved) e ∙ p ∙ ap (λ j. take j xs ++ take m (drop k xs)) i)
      ∙ set-append_left (take (suc k) xs) (take m (drop k xs)) k x (omega arith)
      ∙ ap₂ ◌++◌ (sym (take-set-lt (suc k) xs k x (omega arith)) ∙ take-suc-set xs k x (omega arith)) (between_is xs k n)
      ∙ append_assoc (take k xs) (x ∷ []) (drop k (take n xs))

-- the first n numbers and zeros behind them
pub filled : (m n : ℕ) (xs ys : List ℕ) → n ≤ m → length xs ≡ m → ys ≡ replicate (m - n) 0
    → take n xs ++ (ys ++ drop (m - n) (drop n xs)) ≡ pad m 0 (take n xs)
unfolding pad
filled m n xs ys h l e =
    let k = length-take-le n xs (omega arith) in
    let z : drop (m - n) (drop n xs) ≡ [] = drop_of_length-le (drop n xs) (omega (arith, length-drop n xs)) in
    rw (e, z, k) (ap (λ r. take n xs ++ r) (append-nil (replicate (m - n) 0)))
