-- Blocks of one size in lent words, one behind the other: the k-th of them lent, the first k written over, and what one part more adds to the rows and to
-- the checks. For the loops over the books of a set.
use mathlib.Core.Path.{◌≡◌, sym, ap, ap₂, ◌∙◌}
use mathlib.Core.Bool.{true, false, cond, ◌||◌, or-true}
use mathlib.Core.List.{List, ◌∷◌, ◌++◌, map, append_assoc, append-nil}
use Prim.Native.Nat.{ℕ, zero, suc, ◌+◌, ◌-◌, ◌*◌, ◌≤◌, ◌<◌}
use native.Mathlib.Omega.{arith}
use borrow.Author.Tests.{ne_eqb, lt-ltb, le-ltb}
use borrow.Rule.Slice.PartMut.{mid_of, put_mid}
use lib.ListN.{length, take, drop, length-append, length-drop}
use lib.Seq.{take_at, drop_at, drop-drop}
use Rattle.laws.specs.Checks.{Check, first_failing}
use Rattle.laws.specs.Lists.{gather, numbers}
use Rattle.laws.specs.Parts.{front}
use Rattle.laws.proofs.Fronts.{gather_append}
use Rattle.laws.proofs.Maps.{gather_map}
use Rattle.meaning.specs.Events.{Event}
use Rattle.form.specs.Text.{Bytes}
use Rattle.blocks.specs.BookBlock.{book_size}
use Rattle.blocks.specs.StateBlock.{state_size}
use Rattle.parts.specs.Parts.{Part, part_rows, rows_together}
use Rattle.parts.specs.SetBlock.{block_at, beyond_end, outside, book_part, parts_in}
use Rattle.parts.proofs.Left.{part_none, first_of_both, both_zero}

-- the k-th block, lent
pub block_lent : (size k : ℕ) (w : List ℕ) → mid_of (k * size) (k * size + size - k * size) w ≡ block_at size k w
block_lent size k w =
    let n : k * size + size - k * size ≡ size = omega arith in
    let p : k * size ≡ size * k = omega arith in
    ap₂ (λ m q. take m (drop q w)) n p

-- neighbouring numbers in two parts, and one more
numbers_split : (i k n : ℕ) → numbers i (k + n) ≡ numbers i k ++ numbers (i + k) n
numbers_split i zero n =
    let e : 0 + n ≡ n = omega arith in
    let f : i ≡ i + 0 = omega arith in
    ap₂ numbers f e
numbers_split i (suc k) n =
    let e : suc k + n ≡ suc (k + n) = omega arith in
    ap (numbers i) e ∙ ap (λ l. i ∷ l) (numbers_split (suc i) k n ∙ ap (λ j. numbers (suc i) k ++ numbers j n) (omega arith))

module _ {A : Type 0} (g : ℕ → List A) where
  gathered_split : (k n : ℕ) → gather g (numbers 0 (k + n)) ≡ gather g (numbers 0 k) ++ gather g (numbers k n)
  gathered_split k n =
      ap (gather g) (numbers_split 0 k n) ∙ gather_append g (numbers 0 k) (numbers (0 + k) n)
      ∙ ap (λ j. gather g (numbers 0 k) ++ gather g (numbers j n)) (omega arith)

  gathered_more : (k : ℕ) → gather g (numbers 0 (k + 1)) ≡ gather g (numbers 0 k) ++ g k
  gathered_more k = gathered_split k 1 ∙ ap (λ r. gather g (numbers 0 k) ++ r) (append-nil (g k))

  gathered_grows : (k n : ℕ) → k ≤ n → length (gather g (numbers 0 k)) ≤ length (gather g (numbers 0 n))
  gathered_grows k n h =
      let e : k + (n - k) ≡ n = omega arith in
      let whole = ap (λ j. gather g (numbers 0 j)) (sym e) ∙ gathered_split k (n - k) in
      omega (arith, ap length whole, length-append (gather g (numbers 0 k)) (gather g (numbers k (n - k))))

-- so many blocks written over from the first on, the words behind them as they came
module _ (g : ℕ → List ℕ) (size : ℕ) (s : List ℕ) where
  abbrev pub blocks_over : ℕ → List ℕ
  blocks_over k = gather g (numbers 0 k) ++ drop (size * k) s

  pub over_none : s ≡ blocks_over 0
  over_none = let e : size * 0 ≡ 0 = omega arith in sym (ap (λ n. drop n s) e)

  module _ (k : ℕ) {out : List ℕ} (same : out ≡ blocks_over k) (inside : size * k ≤ length s) (long : length out ≡ length s) where
    -- they are of that size, as the words stay as many
    over_size : length (gather g (numbers 0 k)) ≡ size * k
    over_size = omega (arith, ap length same, length-append (gather g (numbers 0 k)) (drop (size * k) s), length-drop (size * k) s)

    -- the next one is as it came
    pub over_next : block_at size k out ≡ block_at size k s
    over_next = ap (block_at size k) same ∙ ap (take size) (drop_at (gather g (numbers 0 k)) (drop (size * k) s) (size * k) over_size)

    -- the next one lent and back
    pub over_more : {piece : List ℕ} → piece ≡ g k → put_mid (k * size) (k * size + size - k * size) out piece ≡ blocks_over (k + 1)
    over_more {piece} made =
        let before = gather g (numbers 0 k) in
        let behind = drop (size * k) s in
        let n : k * size + size - k * size ≡ size = omega arith in
        let p : k * size ≡ size * k = omega arith in
        let last : size * k + size ≡ size * (k + 1) = omega arith in
        ap₂ (λ q m. put_mid q m out piece) p n
        ∙ ap₂ (λ x y. x ++ (y ++ drop size (drop (size * k) out))) (ap (take (size * k)) same ∙ take_at before behind (size * k) over_size) made
        ∙ ap (λ r. before ++ (g k ++ drop size r)) (ap (drop (size * k)) same ∙ drop_at before behind (size * k) over_size)
        ∙ ap (λ r. before ++ (g k ++ r)) (drop-drop size (size * k) s ∙ ap (λ j. drop j s) last)
        ∙ sym (append_assoc before (g k) (drop (size * (k + 1)) s))
        ∙ ap (λ r. r ++ drop (size * (k + 1)) s) (sym (gathered_more g k))

    pub over_front : out ≡ front (gather g (numbers 0 k)) s
    unfolding front
    over_front = same ∙ ap (λ j. gather g (numbers 0 k) ++ drop j s) (sym over_size)

module _ (w s : List ℕ) (bytes : Bytes) where
  -- whether the k-th book and its state are wholly inside
  module _ (k : ℕ) where
    pub inside : book_size * suc k ≤ length w → state_size * suc k ≤ length s → outside w s bytes k ≡ false
    unfolding outside
    inside h g = ap₂ ◌||◌ (le-ltb (length w) (book_size * suc k) h) (le-ltb (length s) (state_size * suc k) g)

    pub short_book : length w < book_size * suc k → outside w s bytes k ≡ true
    unfolding outside
    short_book h = rw (lt-ltb (length w) (book_size * suc k) h)

    pub short_state : length s < state_size * suc k → outside w s bytes k ≡ true
    unfolding outside
    short_state h = rw (lt-ltb (length s) (state_size * suc k) h) (or-true (beyond_end book_size k w))

  -- what is gathered of the first k parts, and of one more
  module _ {A : Type 0} (f : Part → List A) where
    pub parts_more : (k : ℕ) → gather f (parts_in w s bytes (k + 1)) ≡ gather f (parts_in w s bytes k) ++ f (book_part w s bytes k)
    parts_more k =
        gather_map f (book_part w s bytes) (numbers 0 (k + 1)) ∙ gathered_more (λ j. f (book_part w s bytes j)) k
        ∙ ap (λ r. r ++ f (book_part w s bytes k)) (sym (gather_map f (book_part w s bytes) (numbers 0 k)))

    parts_grow : (k n : ℕ) → k ≤ n → length (gather f (parts_in w s bytes k)) ≤ length (gather f (parts_in w s bytes n))
    parts_grow k n h =
        rw (gather_map f (book_part w s bytes) (numbers 0 k), gather_map f (book_part w s bytes) (numbers 0 n))
        (gathered_grows (λ j. f (book_part w s bytes j)) k n h)

  pub together_more : (e : Event) (k : ℕ)
      → rows_together e (parts_in w s bytes (k + 1)) ≡ rows_together e (parts_in w s bytes k) + length (part_rows e (book_part w s bytes k))
  unfolding rows_together
  together_more e k =
      ap length (parts_more (part_rows e) k) ∙ length-append (gather (part_rows e) (parts_in w s bytes k)) (part_rows e (book_part w s bytes k))

  pub together_grows : (e : Event) (k n : ℕ) → k ≤ n → rows_together e (parts_in w s bytes k) ≤ rows_together e (parts_in w s bytes n)
  unfolding rows_together
  together_grows e = parts_grow (part_rows e)

  -- the checks of so many parts from the k-th on
  abbrev checks_from : (k n : ℕ) → List (Check ℕ)
  checks_from k n = gather (λ p. p.checks) (map (book_part w s bytes) (numbers k n))

  -- The first failing check of n parts is that of those from the k-th on, as those before pass.
  module _ (n : ℕ) where
    abbrev pub First : ℕ → Type 0
    First k = first_failing 0 (gather (λ p. p.checks) (parts_in w s bytes n)) ≡ first_failing 0 (checks_from k (n - k))

    pub first_all : First 0
    first_all = let e : n ≡ n - 0 = omega arith in ap (λ m. first_failing 0 (checks_from 0 m)) e

    -- those of the k-th part and those behind it
    abbrev own : ℕ → List (Check ℕ)
    own k = (book_part w s bytes k).checks

    abbrev behind : ℕ → List (Check ℕ)
    behind k = checks_from (k + 1) (n - (k + 1))

    first_here : (k : ℕ) → k < n → First k → first_failing 0 (gather (λ p. p.checks) (parts_in w s bytes n)) ≡ first_failing 0 (own k ++ behind k)
    first_here k h before =
        let e : n - k ≡ suc (n - (k + 1)) = omega arith in
        let f : suc k ≡ k + 1 = omega arith in
        before ∙ ap (λ m. first_failing 0 (checks_from k m)) e ∙ ap (λ j. first_failing 0 (own k ++ checks_from j (n - (k + 1)))) f

    pub first_passes : (k : ℕ) → k < n → First k → first_failing 0 (own k) ≡ 0 → First (k + 1)
    first_passes k h before passes = first_here k h before ∙ both_zero (own k) (behind k) (part_none w s bytes k) passes

    pub first_refuses : (k : ℕ) → k < n → First k → (first_failing 0 (own k) ≡ 0 → ⊥)
        → first_failing 0 (gather (λ p. p.checks) (parts_in w s bytes n)) ≡ first_failing 0 (own k)
    first_refuses k h before refuses =
        first_here k h before ∙ first_of_both (own k) (behind k) (part_none w s bytes k)
        ∙ ap (λ z. cond z (first_failing 0 (behind k)) (first_failing 0 (own k))) (ne_eqb (first_failing 0 (own k)) 0 refuses)

    pub first_none : (k : ℕ) → n ≤ k → First k → first_failing 0 (gather (λ p. p.checks) (parts_in w s bytes n)) ≡ 0
    first_none k h before = let e : n - k ≡ 0 = omega arith in before ∙ ap (λ m. first_failing 0 (checks_from k m)) e
