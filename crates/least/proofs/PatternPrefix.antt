-- The viable prefixes of a pattern, token by token, and where the reader may stop. They stand between its course (PatternCourse) and the
-- faults (PatternFaults).
use mathlib.Core.Path.{◌≡◌}
use mathlib.Core.Bool.{Bool, true, false, cond}
use mathlib.Core.List.{List}
use Prim.Native.Nat.{ℕ, suc, ◌+◌, ◌-◌, ◌≤◌, ◌<◌}
use lib.Dec.{eqb}
use lib.ListN.{length}
use Rattle.pattern.specs.Positions.{occurrence_limit}
use Rattle.form.specs.Limits.{name_limit, open_limit}
use Rattle.form.specs.Text.{Bytes, lf, is_lower, Span}
use Rattle.form.specs.Phrase.{opening, closing, bar}
use Rattle.form.specs.Scan.{at, past_end, part, spaces_end, name_end}
use Rattle.form.specs.Lines.{index_of}
use Rattle.parsing.proofs.Complete.{is_postfix}

module _ (s : Bytes) (symbols : List Span) (start : ℕ) where
  -- `PatternPrefix p o e k`: from start to p all tokens can stand; o parentheses are open, e says whether an item may end here, k names were read
  pub data PatternPrefix : (p o : ℕ) (e : Bool) (k : ℕ) → Type 0 where
    begin : PatternPrefix start 0 false 0
    name : (p o : ℕ) (e : Bool) (k : ℕ) → PatternPrefix p o e k → is_lower (at s (spaces_end s p)) ≡ true
        → name_end s (spaces_end s p) - spaces_end s p ≤ name_limit → k < occurrence_limit
        → index_of s symbols (part s (spaces_end s p) (name_end s (spaces_end s p))) < length symbols
        → PatternPrefix (name_end s (spaces_end s p)) o true (suc k)
    opened : (p o : ℕ) (e : Bool) (k : ℕ) → PatternPrefix p o e k → at s (spaces_end s p) ≡ opening → o < open_limit
        → PatternPrefix (spaces_end s p + 1) (suc o) false k
    closed : (p o k : ℕ) → PatternPrefix p (suc o) true k → at s (spaces_end s p) ≡ closing → PatternPrefix (spaces_end s p + 1) o true k
    either : (p o k : ℕ) → PatternPrefix p o true k → at s (spaces_end s p) ≡ bar → PatternPrefix (spaces_end s p + 1) o false k
    postfix : (p o k : ℕ) → PatternPrefix p o true k → is_postfix (at s (spaces_end s p)) ≡ true → PatternPrefix (spaces_end s p + 1) o true k

  -- the byte b, no letter and no opening parenthesis, cannot stand with o open
  abbrev pub Blocked : (o : ℕ) (e : Bool) (b : ℕ) → Type 0
  Blocked o e b = e ≡ true → (eqb b bar ≡ false) × (is_postfix b ≡ false) × (b ≡ closing → o ≡ 0) × (b ≡ lf → o ≡ 0 → ⊥)

  -- the token behind p is the fault n
  pub data PatternStop (p o : ℕ) (e : Bool) (k : ℕ) : ℕ → Type 0 where
    long : is_lower (at s (spaces_end s p)) ≡ true → name_limit < name_end s (spaces_end s p) - spaces_end s p → PatternStop p o e k 3
    many : is_lower (at s (spaces_end s p)) ≡ true → occurrence_limit ≤ k → PatternStop p o e k 3
    unknown : is_lower (at s (spaces_end s p)) ≡ true → name_end s (spaces_end s p) - spaces_end s p ≤ name_limit → k < occurrence_limit
        → length symbols ≤ index_of s symbols (part s (spaces_end s p) (name_end s (spaces_end s p))) → PatternStop p o e k 5
    deep : at s (spaces_end s p) ≡ opening → o ≡ open_limit → PatternStop p o e k 3
    unfit : {n : ℕ} → is_lower (at s (spaces_end s p)) ≡ false → (at s (spaces_end s p) ≡ opening → ⊥) → Blocked o e (at s (spaces_end s p))
        → n ≡ cond (eqb (at s (spaces_end s p)) past_end) 2 6 → PatternStop p o e k n

  -- the course stops at q with the fault n
  pub record Stopped (q n : ℕ) : Type 0 where
    pub p : ℕ
    pub o : ℕ
    pub e : Bool
    pub k : ℕ
    pub prefix : PatternPrefix p o e k
    pub stop : PatternStop p o e k n
    pub place : q ≡ spaces_end s p

  -- the pattern is whole, and its LF stands at q
  pub record Finished (q : ℕ) : Type 0 where
    pub p : ℕ
    pub k : ℕ
    pub prefix : PatternPrefix p 0 true k
    pub lf : at s q ≡ lf
    pub place : q ≡ spaces_end s p
