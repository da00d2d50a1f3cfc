-- Words read as valuations: how many there are, which four words are the i-th, what a store over them does, and what a count
-- with the words says. For the functions of this crate and for the crates that collect and write rows. Only here is `valuations_in` unfolded.
use mathlib.Core.Path.{◌≡◌, refl, sym, ap, ◌∙◌}
use mathlib.Core.Bool.{true}
use mathlib.Core.List.{List, [], ◌∷◌, map, Memᴰ}
use mathlib.Core.Logic.{◌⊎◌, inl, inr, ⊎_elim, dite}
use Prim.Native.Nat.{ℕ, suc, ◌+◌, ◌*◌, ◌^◌, ◌≤◌, ◌<◌}
use Rattle.std.proofs.Common.{Option, Some, None}
use native.Mathlib.Decide.{ℕ_discrete, dec_lt}
use native.Mathlib.Nat.{add-zero}
use native.Mathlib.Omega.{arith}
use borrow.Author.Tests.{lt-ltb}
use lib.ListN.{length, get_or, set, take, drop, length-set}
use lib.Seq.{ext_get_or, get_or-set_same, get_or-set_other}
use borrow.Rule.Slice.PartMut.{put_mid}
use Rattle.laws.specs.Lists.{all, numbers}
use Rattle.laws.specs.Sets.{full, grown}
use Rattle.laws.proofs.Lists.{mem_index}
use Rattle.laws.proofs.Arrays.{length_of, get_d_of, part_at}
use Rattle.meaning.specs.Events.{Valuation, word32}
use Rattle.meaning.specs.Rows.{row_limit}
use Rattle.rows.specs.Valuations.{valuations_in, rows_grown, valuations_long}
use Rattle.places.proofs.Parts.{overwritten_length, overwritten_below, overwritten_above, overwritten_itself}

-- the four words of the i-th valuation
abbrev pub words_at : List ℕ → ℕ → Valuation
words_at w i = get_or w (i * 4) 0 ∷ get_or w (i * 4 + 1) 0 ∷ get_or w (i * 4 + 2) 0 ∷ get_or w (i * 4 + 3) 0 ∷ []

-- the same four as a part of the words
words_part : (w : List ℕ) (i : ℕ) → i * 4 + 4 ≤ length w → words_at w i ≡ take 4 (drop (i * 4) w)
words_part w i h =
    let e₁ : i * 4 + 1 ≡ suc (i * 4) = omega arith in
    let e₂ : i * 4 + 2 ≡ suc (suc (i * 4)) = omega arith in
    let e₃ : i * 4 + 3 ≡ suc (suc (suc (i * 4))) = omega arith in
    rw (e₁, e₂, e₃) (sym (part_at 0 w (i * 4) 4 h))

-- the first n valuations, for any n, so that no list of 2,064 numbers is ever written out
unfoldable first_in : ℕ → List ℕ → List Valuation
first_in n w = map (λ i. map (λ v. get_or w (i * 4 + v) 0) (numbers 0 4)) (numbers 0 n)

all_in : (w : List ℕ) → valuations_in w ≡ first_in row_limit w
unfolding valuations_in first_in
all_in w = refl

module _ (n : ℕ) where
  first_long : (w : List ℕ) → length (first_in n w) ≡ n
  unfolding first_in
  first_long w = length_of (λ i. map (λ v. get_or w (i * 4 + v) 0) (numbers 0 4)) n

  first_at : (w : List ℕ) (i : ℕ) → i < n → get_or (first_in n w) i [] ≡ words_at w i
  unfolding first_in
  first_at w i h = get_d_of (λ i. map (λ v. get_or w (i * 4 + v) 0) (numbers 0 4)) n i [] h ∙ rw (add-zero (i * 4))

-- words v that say what w says in all places but the four of the i-th valuation
abbrev SameBeside : (w v : List ℕ) → ℕ → Type 0
SameBeside w v i = (k : ℕ) → (k < i * 4) ⊎ (i * 4 + 4 ≤ k) → get_or v k 0 ≡ get_or w k 0

module _ (w v : List ℕ) (i : ℕ) (x : Valuation) (new : words_at v i ≡ x) (same : SameBeside w v i) where
  stays : (j u : ℕ) → (j ≡ i → ⊥) → u < 4 → get_or v (j * 4 + u) 0 ≡ get_or w (j * 4 + u) 0
  stays j u e l = same (j * 4 + u) (dite (dec_lt j i) (λ t. inl (omega arith)) (λ t. inr (omega arith)))

  other : (j : ℕ) → (j ≡ i → ⊥) → words_at v j ≡ words_at w j
  other j e =
      let first = stays j 0 e (omega arith) in
      rw (rw (add-zero (j * 4)) at first, stays j 1 e (omega arith), stays j 2 e (omega arith), stays j 3 e (omega arith))

  first_stored : (n : ℕ) → i < n → first_in n v ≡ set (first_in n w) i x
  first_stored n k =
      let m = first_long n w in
      let m2 = first_long n v in
      let s = length-set (first_in n w) i x in
      ext_get_or [] (first_in n v) (set (first_in n w) i x) (m2 ∙ sym (s ∙ m)) (λ j l. go j (omega arith) (ℕ_discrete j i))
    where
      go : (j : ℕ) → j < n → Dec (j ≡ i) → get_or (first_in n v) j [] ≡ get_or (set (first_in n w) i x) j []
      go j l (yes e) = rw e (first_at n v i k ∙ new ∙ sym (get_or-set_same (first_in n w) i x [] (omega (arith, first_long n w))))
      go j l (no e) = first_at n v j l ∙ other j e ∙ sym (get_or-set_other (first_in n w) i j x [] e ∙ first_at n w j l)

-- there are 2,064 valuations
pub in_length : (w : List ℕ) → length (valuations_in w) ≡ row_limit
in_length w = valuations_long w

-- the i-th is its four words
pub in_at : (w : List ℕ) (i : ℕ) → i < row_limit → get_or (valuations_in w) i [] ≡ words_at w i
in_at w i h = ap (λ l. get_or l i []) (all_in w) ∙ first_at row_limit w i h

-- and so the part of the words where they stand
pub in_part : (w : List ℕ) (i : ℕ) → i < row_limit → i * 4 + 4 ≤ length w → get_or (valuations_in w) i [] ≡ take 4 (drop (i * 4) w)
in_part w i h l = in_at w i h ∙ words_part w i l

-- a store over that part changes it alone
pub in_stored : (w : List ℕ) (i : ℕ) (x : Valuation) → i < row_limit → i * 4 + 4 ≤ length w → length x ≡ 4
    → valuations_in (put_mid (i * 4) 4 w x) ≡ set (valuations_in w) i x
in_stored w i x k h l =
    let v = put_mid (i * 4) 4 w x in
    let long : i * 4 + 4 ≤ length v = omega (arith, overwritten_length (i * 4) 4 w x h l) in
    let same : (k : ℕ) → (k < i * 4) ⊎ (i * 4 + 4 ≤ k) → get_or v k 0 ≡ get_or w k 0 =
    λ k o. ⊎_elim (λ a. overwritten_below (i * 4) 4 w x h l k a) (λ a. overwritten_above (i * 4) 4 w x h l k a) o in
    all_in v ∙ first_stored w v i x (words_part v i long ∙ overwritten_itself (i * 4) 4 w x h l) same row_limit k ∙ ap (λ r. set r i x) (sym (all_in w))

-- each is one of the quadruples of words
in_words : (w : List ℕ) (σ : Valuation) → Memᴰ σ (valuations_in w) → (i : ℕ) × (i < row_limit) × (σ ≡ words_at w i)
in_words w σ m =
    let k = mem_index [] m in
    let h : k.0 < row_limit = omega (arith, k.1, in_length w) in
    (k.0, h, sym k.2 ∙ in_at w k.0 h)

pub wide_in : (w : List ℕ) (σ : Valuation) → Memᴰ σ (valuations_in w) → length σ ≡ 4
wide_in w σ m = ap length (in_words w σ m).2

-- words of 32 bits make valuations of 32 bits
pub word_in : (w : List ℕ) → ((j : ℕ) → get_or w j 0 < 2 ^ 32) → (σ : Valuation) → Memᴰ σ (valuations_in w) → all word32 σ ≡ true
word_in w h σ m =
    let k = in_words w σ m in
    let i = k.0 in
    ap (all word32) k.2 ∙ rw (lt-ltb _ _ (h (i * 4)), lt-ltb _ _ (h (i * 4 + 1)), lt-ltb _ _ (h (i * 4 + 2)), lt-ltb _ _ (h (i * 4 + 3)))

-- a count and the words, by what they say
pub grown_in_law : (n : ℕ) (w : List ℕ) (l : List Valuation) → rows_grown (Some n) w ≡ grown l → take n (valuations_in w) ≡ l
grown_in_law n w l e = cc

pub full_in : (r : Option ℕ) (w : List ℕ) → rows_grown r w ≡ full → r ≡ None
full_in None w e = refl
full_in (Some n) w e = cc
