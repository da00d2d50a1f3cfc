-- Words of a block by their places: the word of a group, a group in a part, the seven words of a variable. For what is said of blocks.
use mathlib.Core.Path.{◌≡◌, refl, sym, ap, ◌∙◌}
use mathlib.Core.List.{List, [], ◌∷◌}
use Prim.Native.Nat.{ℕ, zero, suc, ◌+◌, ◌-◌, ◌*◌, ◌<◌}
use native.Mathlib.Omega.{arith}
use lib.ListN.{length, get_or, take, drop, length-drop}
use lib.Seq.{ext_get_or, length-take-le, get_or-take, get_or-drop}

-- the word j of a group
pub word_of : (k at : ℕ) (w : List ℕ) (j : ℕ) → j < k → get_or (take k (drop at w)) j 0 ≡ get_or w (at + j) 0
word_of k at w j h = get_or-take k (drop at w) j 0 h ∙ get_or-drop at w j 0

-- the word j of a group of k that begins at `at` in the part from `from` on
pub part_word : (k at from : ℕ) (w : List ℕ) (j n : ℕ) → j < k → from + (at + j) ≡ n → get_or (take k (drop at (drop from w))) j 0 ≡ get_or w n 0
part_word k at from w j n h e = word_of k at (drop from w) j h ∙ get_or-drop from w (at + j) 0 ∙ ap (λ m. get_or w m 0) e

-- the seven words of a variable
pub seven : (w : List ℕ) (i v : ℕ) → i < 128 → v < 4 → length w ≡ 3715
    → take 7 (drop (7 * v) (take 28 (drop (28 * i) (drop 131 w)))) ≡ take 7 (drop (131 + 28 * i + 7 * v) w)
seven w i v k u long =
    let group = take 28 (drop (28 * i) (drop 131 w)) in
    let at = 131 + 28 * i + 7 * v in
    let behind : length (drop (28 * i) (drop 131 w)) ≡ 3584 - 28 * i =
    length-drop (28 * i) (drop 131 w) ∙ ap (λ n. n - 28 * i) (length-drop 131 w ∙ omega arith) in
    let wide : length group ≡ 28 = length-take-le 28 (drop (28 * i) (drop 131 w)) (omega arith) in
    let left : length (take 7 (drop (7 * v) group)) ≡ 7 = length-take-le 7 (drop (7 * v) group) (omega (arith, length-drop (7 * v) group)) in
    let right : length (take 7 (drop at w)) ≡ 7 = length-take-le 7 (drop at w) (omega (arith, length-drop at w)) in
    ext_get_or 0 (take 7 (drop (7 * v) group)) (take 7 (drop at w)) (left ∙ sym right) λ j h.
    word_of 7 (7 * v) group j (omega arith) ∙ part_word 28 (28 * i) 131 w (7 * v + j) (at + j) (omega arith) (omega arith)
    ∙ sym (word_of 7 at w j (omega arith))

-- an element that is there is none by default
pub any_default : {A : Type 0} (l : List A) (i : ℕ) (a b : A) → i < length l → get_or l i a ≡ get_or l i b
any_default [] i a b h = absurd (omega arith)
any_default (x ∷ l) zero a b h = refl
any_default (x ∷ l) (suc i) a b h = any_default l i a b (omega arith)
