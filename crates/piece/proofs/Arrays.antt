-- The arrays of a whole pattern are its lists of symbols and of following positions, padded.
use mathlib.Core.Path.{◌≡◌, sym, ◌∙◌}
use mathlib.Core.Logic.{dite}
use mathlib.Core.List.{List, map}
use Prim.Native.Nat.{ℕ, ◌+◌, ◌-◌, ◌≤◌, ◌<◌}
use native.Mathlib.Decide.{dec_lt}
use native.Mathlib.Omega.{arith}
use lib.ListN.{length, get_or, length-map}
use borrow.Author.Tests.{le-leb, lt-ltb, le-ltb}
use Rattle.laws.specs.Lists.{numbers}
use Rattle.laws.specs.Parts.{pad}
use Rattle.laws.proofs.Lists.{length_numbers, get_or_numbers}
use Rattle.laws.proofs.Parts.{pad_length, pad_at, pad_beyond}
use Rattle.pattern.specs.Regex.{Regex}
use Rattle.pattern.specs.Positions as Positions
use Rattle.pattern.proofs.Masks.{symbols_length, symbol_at_list}
use Rattle.piece.specs.Pieces.{symbol_or0}
use Rattle.piece.proofs.Fills.{by_elements}
use Rattle.piece.proofs.Laws.{follows_none}

-- a map over positions that gives the k elements of l and 0 behind them
padded : (f : ℕ → ℕ) (n k : ℕ) (l : List ℕ) → length l ≡ k → k ≤ n → ((i : ℕ) → i < k → get_or l i 0 ≡ f (1 + i))
    → ((i : ℕ) → k ≤ i → 0 ≡ f (1 + i)) → map f (numbers 1 n) ≡ pad n 0 l
padded f n k l e h here beyond =
    sym (by_elements f n 1 (pad n 0 l) (pad_length n 0 l (omega arith)) λ i m. dite (dec_lt i k)
    (λ a. pad_at n 0 l i 0 (omega arith) ∙ here i a) λ b. pad_beyond n 0 l i 0 (omega arith) m ∙ beyond i (omega arith))

pub whole_symbols : (r : Regex) → Positions.size r ≤ 31 → map (symbol_or0 r 1) (numbers 1 31) ≡ pad 31 0 (Positions.symbols r)
unfolding symbol_or0
whole_symbols r h =
    padded (symbol_or0 r 1) 31 (Positions.size r) (Positions.symbols r) (symbols_length r) h
    (λ i m. let e : 1 + i - 1 ≡ i = omega arith in
    rw (le-leb 1 (1 + i) (omega arith), lt-ltb (1 + i) (1 + Positions.size r) (omega arith), symbol_at_list r 1 (1 + i) (omega arith), e))
    λ i m. rw (le-leb 1 (1 + i) (omega arith), le-ltb (1 + i) (1 + Positions.size r) (omega arith))

pub whole_follows : (r : Regex) → Positions.size r ≤ 31
    → map (Positions.following r 1) (numbers 1 31) ≡ pad 31 0 (map (Positions.following r 1) (numbers 1 (Positions.size r)))
whole_follows r h =
    let n = Positions.size r in
    padded (Positions.following r 1) 31 n _ (length-map (numbers 1 n) _ ∙ length_numbers 1 n) h (λ i m. get_or_numbers _ 1 n i 0 m)
    λ i m. sym (follows_none r 1 (1 + i) λ a. omega arith)
