-- What the definitions of a record compute: four arguments, little-endian, in their order; which 20 bytes are in form. A wrong definition is
-- refused here first, because a fact is false.
use mathlib.Core.Path.{◌≡◌, refl}
use mathlib.Core.Bool.{true, false, ◌&&◌}
use mathlib.Core.List.{List, [], ◌∷◌, ◌++◌, map}
use Prim.Native.Nat.{ℕ, ◌+◌, ◌*◌}
use borrow.Author.Tests.{eqb-true}
use lib.Dec.{eqb, leb}
use lib.ListN.{length, take, drop, replicate}
use Rattle.laws.specs.Lists.{all, numbers}
use Rattle.laws.proofs.Lists.{and_true_split}
use Rattle.record.specs.Records.{word_at, arguments_in, is_record, event_in}

-- bytes 1 to 16 behind the first four
pub four_arguments : event_in (7 ∷ 4 ∷ 0 ∷ 0 ∷ numbers 1 16)
    ≡ record { kind = 7; args = 67305985 ∷ 134678021 ∷ 202050057 ∷ 269422093 ∷ [] }
unfolding event_in arguments_in word_at
four_arguments = refl

-- no arguments, four, and zero within the count are in form; kind 0, five arguments, byte 2 or 3 not zero, an argument beyond the
-- count, 19 and 21 bytes are not
pub in_form : map is_record
    ((255 ∷ replicate 19 0)
    ∷ (1 ∷ 4 ∷ 0 ∷ 0 ∷ replicate 16 255)
    ∷ (1 ∷ 2 ∷ 0 ∷ 0 ∷ replicate 16 0)
    ∷ replicate 20 0
    ∷ (1 ∷ 5 ∷ replicate 18 0)
    ∷ (1 ∷ 0 ∷ 1 ∷ replicate 17 0)
    ∷ (1 ∷ 0 ∷ 0 ∷ 1 ∷ replicate 16 0)
    ∷ (1 ∷ 3 ∷ replicate 17 0 ++ (1 ∷ []))
    ∷ (1 ∷ replicate 18 0)
    ∷ (1 ∷ replicate 20 0)
    ∷ [])
    ≡ true ∷ true ∷ true ∷ replicate 7 false
unfolding is_record arguments_in word_at
in_form = refl

-- three arguments are in form; each argument beyond the count is judged by itself
pub each_word : map is_record
    ((1 ∷ 3 ∷ 0 ∷ 0 ∷ replicate 12 255 ++ replicate 4 0)
    ∷ (1 ∷ 0 ∷ 0 ∷ 0 ∷ 1 ∷ replicate 15 0)
    ∷ (1 ∷ 1 ∷ 0 ∷ 0 ∷ replicate 4 0 ++ (1 ∷ replicate 11 0))
    ∷ (1 ∷ 1 ∷ 0 ∷ 0 ∷ replicate 8 0 ++ (1 ∷ replicate 7 0))
    ∷ (1 ∷ 1 ∷ 0 ∷ 0 ∷ replicate 12 0 ++ (1 ∷ replicate 3 0))
    ∷ [])
    ≡ true ∷ replicate 4 false
unfolding is_record arguments_in word_at
each_word = refl

-- "Event record, 20 bytes, no header: byte 0 kind (1 to 255); byte 1 argument count (0 to 4); bytes 2 and 3 zero; four unsigned 32-bit little-endian
-- arguments, zero beyond the count": of any 20 bytes, which are in form and which event they hold; nothing of another length is in form
pub record_words : (b0 b1 b2 b3 b4 b5 b6 b7 b8 b9 b10 b11 b12 b13 b14 b15 b16 b17 b18 b19 : ℕ)
    → let s = b0 ∷ b1 ∷ b2 ∷ b3 ∷ b4 ∷ b5 ∷ b6 ∷ b7 ∷ b8 ∷ b9 ∷ b10 ∷ b11 ∷ b12 ∷ b13 ∷ b14 ∷ b15 ∷ b16 ∷ b17 ∷ b18 ∷ b19 ∷ [] in
    let word : ℕ → ℕ → ℕ → ℕ → ℕ = λ a b c d. a + b * 256 + c * 65536 + d * 16777216 in
    let xs = word b4 b5 b6 b7 ∷ word b8 b9 b10 b11 ∷ word b12 b13 b14 b15 ∷ word b16 b17 b18 b19 ∷ [] in
    (is_record s ≡ (leb 1 b0 && leb b1 4 && eqb b2 0 && eqb b3 0 && all (eqb 0) (drop b1 xs)))
    × (event_in s ≡ record { kind = b0; args = take b1 xs })
unfolding is_record event_in arguments_in word_at
record_words b0 b1 b2 b3 b4 b5 b6 b7 b8 b9 b10 b11 b12 b13 b14 b15 b16 b17 b18 b19 = (refl, refl)

pub twenty_bytes : (s : List ℕ) → is_record s ≡ true → length s ≡ 20
unfolding is_record
twenty_bytes s h =
    let a = (and_true_split _ _ h).0 in
    let b = (and_true_split _ _ a).0 in
    let c = (and_true_split _ _ b).0 in
    let d = (and_true_split _ _ c).0 in
    eqb-true (length s) 20 (and_true_split (eqb (length s) 20) _ d).0
