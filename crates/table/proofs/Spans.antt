-- The elements of a list from index i up to index n, each mapped, which a loop over an array has ahead; and the search of a name.
use mathlib.Core.Path.{◌≡◌, ap, ◌∙◌}
use mathlib.Core.Bool.{Bool, cond}
use mathlib.Core.List.{List, [], ◌∷◌, map}
use Prim.Native.Nat.{ℕ, suc, ◌+◌, ◌-◌, ◌≤◌, ◌<◌}
use native.Mathlib.Numerals.{add-one}
use native.Mathlib.Omega.{arith}
use lib.ListN.{length, take, drop, get_or}
use lib.Seq.{drop-cons}
use Rattle.form.specs.Text.{Bytes, Span}
use Rattle.form.specs.Form.{same_word}
use Rattle.form.specs.Lines.{bytes_at, index_of}

abbrev pub ahead : {A B : Type 0} → (A → B) → List A → (i n : ℕ) → List B
ahead f l i n = map f (take (n - i) (drop i l))

module _ {A B : Type 0} (f : A → B) (l : List A) (i n : ℕ) where
  pub ahead_none : n ≤ i → ahead f l i n ≡ []
  ahead_none h = let z : n - i ≡ 0 = omega arith in ap (λ k. map f (take k (drop i l))) z

  pub ahead_cons : (d : A) → i < n → n ≤ length l → ahead f l i n ≡ f (get_or l i d) ∷ ahead f l (i + 1) n
  ahead_cons d h k =
      let e : n - i ≡ suc (n - suc i) = omega arith in
      ap (λ k. map f (take k (drop i l))) e ∙ rw (add-one i, drop-cons l i d (omega arith))

-- the number of the word w among names, by its comparison with the first
pub index_by : (s w : Bytes) {l xs : List Span} {x : Span} {b : Bool} → l ≡ x ∷ xs → same_word (bytes_at s x) w ≡ b
    → index_of s l w ≡ cond b 0 (suc (index_of s xs w))
index_by s w {xs = xs} f e = ap (λ l. index_of s l w) f ∙ ap (λ b. cond b 0 (suc (index_of s xs w))) e
