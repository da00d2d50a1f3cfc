-- A few patterns with what "the usual position-automaton sense" gives them, worked out by hand: each operator under each other that changes
-- a flag, a mask or a follow. The theorem about the whole table is in ../proofs/Acceptance.antt.
use Rattle.std.specs.Prelude.{Bool, true, false, List, [], ◌∷◌, map, ℕ, ◌+◌, ◌^◌}
use Rattle.laws.specs.Lists.{numbers}
use Rattle.pattern.specs.Regex.{Regex, lit, cat, alt, star, plus, opt, nullable, bound_by}
use Rattle.pattern.specs.Positions.{size, symbols, beginning, ending, following}

-- whether the empty word is admitted, the variables that every word binds where symbol a binds variable a, and for each position its
-- symbol and those that follow it; sets as lists of their numbers
pub record Sample : Type 0 where
  pub pattern : Regex
  pub empty : Bool
  pub bound : List ℕ
  pub begins : List ℕ
  pub ends : List ℕ
  pub occurrences : List ℕ
  pub follows : List (List ℕ)

pub record Masks : Type 0 where
  pub empty : Bool
  pub bound : ℕ
  pub begins : ℕ
  pub ends : ℕ
  pub occurrences : List ℕ
  pub follows : List ℕ

-- the mask of a set, its numbers each once
abbrev mask : List ℕ → ℕ
mask [] = 0
mask (p ∷ ps) = 2 ^ p + mask ps

abbrev pub outcome : Sample → Masks
outcome x =
    let r = x.pattern in
    record {
      empty = nullable r;
      bound = bound_by (λ a. 2 ^ a) r;
      begins = beginning r 1;
      ends = ending r 1;
      occurrences = symbols r;
      follows = map (following r 1) (numbers 1 (size r));
    }

abbrev pub wanted : Sample → Masks
wanted x =
    record {
      empty = x.empty;
      bound = mask x.bound;
      begins = mask x.begins;
      ends = mask x.ends;
      occurrences = x.occurrences;
      follows = map mask x.follows;
    }

abbrev sample : Regex → Bool → (bound begins ends occurrences : List ℕ) → List (List ℕ) → Sample
sample r e v b f s ps = record { pattern = r; empty = e; bound = v; begins = b; ends = f; occurrences = s; follows = ps }

abbrev a : Regex
a = lit 0

abbrev b : Regex
b = lit 1

abbrev c : Regex
c = lit 2

unfoldable pub table : List Sample
table =
    -- a
    sample a false (0 ∷ []) (1 ∷ []) (1 ∷ []) (0 ∷ []) ([] ∷ [])
    -- a b c, the first two in parentheses
    ∷ sample (cat (cat a b) c) false (0 ∷ 1 ∷ 2 ∷ []) (1 ∷ []) (3 ∷ []) (0 ∷ 1 ∷ 2 ∷ []) ((2 ∷ []) ∷ (3 ∷ []) ∷ [] ∷ [])
    -- a | b a
    ∷ sample (alt a (cat b a)) false (0 ∷ []) (1 ∷ 2 ∷ []) (1 ∷ 3 ∷ []) (0 ∷ 1 ∷ 0 ∷ []) ([] ∷ (3 ∷ []) ∷ [] ∷ [])
    -- a | a, and (a | a) b: one symbol at two positions is two positions
    ∷ sample (alt a a) false (0 ∷ []) (1 ∷ 2 ∷ []) (1 ∷ 2 ∷ []) (0 ∷ 0 ∷ []) ([] ∷ [] ∷ [])
    ∷ sample (cat (alt a a) b) false (0 ∷ 1 ∷ []) (1 ∷ 2 ∷ []) (3 ∷ []) (0 ∷ 0 ∷ 1 ∷ []) ((3 ∷ []) ∷ (3 ∷ []) ∷ [] ∷ [])
    -- (a b)*
    ∷ sample (star (cat a b)) true [] (1 ∷ []) (2 ∷ []) (0 ∷ 1 ∷ []) ((2 ∷ []) ∷ (1 ∷ []) ∷ [])
    -- (a b)+
    ∷ sample (plus (cat a b)) false (0 ∷ 1 ∷ []) (1 ∷ []) (2 ∷ []) (0 ∷ 1 ∷ []) ((2 ∷ []) ∷ (1 ∷ []) ∷ [])
    -- (a b)?
    ∷ sample (opt (cat a b)) true [] (1 ∷ []) (2 ∷ []) (0 ∷ 1 ∷ []) ((2 ∷ []) ∷ [] ∷ [])
    -- a* b? c, and c b? a*
    ∷ sample (cat (star a) (cat (opt b) c)) false (2 ∷ []) (1 ∷ 2 ∷ 3 ∷ []) (3 ∷ []) (0 ∷ 1 ∷ 2 ∷ [])
    ((1 ∷ 2 ∷ 3 ∷ []) ∷ (3 ∷ []) ∷ [] ∷ [])
    ∷ sample (cat c (cat (opt b) (star a))) false (2 ∷ []) (1 ∷ []) (1 ∷ 2 ∷ 3 ∷ []) (2 ∷ 1 ∷ 0 ∷ [])
    ((2 ∷ 3 ∷ []) ∷ (3 ∷ []) ∷ (3 ∷ []) ∷ [])
    -- (a? | b) c, and (a | b*) c: the empty word of either side
    ∷ sample (cat (alt (opt a) b) c) false (2 ∷ []) (1 ∷ 2 ∷ 3 ∷ []) (3 ∷ []) (0 ∷ 1 ∷ 2 ∷ []) ((3 ∷ []) ∷ (3 ∷ []) ∷ [] ∷ [])
    ∷ sample (cat (alt a (star b)) c) false (2 ∷ []) (1 ∷ 2 ∷ 3 ∷ []) (3 ∷ []) (0 ∷ 1 ∷ 2 ∷ []) ((3 ∷ []) ∷ (2 ∷ 3 ∷ []) ∷ [] ∷ [])
    -- c (a? | b), and c (a | b*)
    ∷ sample (cat c (alt (opt a) b)) false (2 ∷ []) (1 ∷ []) (1 ∷ 2 ∷ 3 ∷ []) (2 ∷ 0 ∷ 1 ∷ []) ((2 ∷ 3 ∷ []) ∷ [] ∷ [] ∷ [])
    ∷ sample (cat c (alt a (star b))) false (2 ∷ []) (1 ∷ []) (1 ∷ 2 ∷ 3 ∷ []) (2 ∷ 0 ∷ 1 ∷ []) ((2 ∷ 3 ∷ []) ∷ [] ∷ (3 ∷ []) ∷ [])
    -- (a?)+ b, and b (a*)+: what is repeated has the empty word
    ∷ sample (cat (plus (opt a)) b) false (1 ∷ []) (1 ∷ 2 ∷ []) (2 ∷ []) (0 ∷ 1 ∷ []) ((1 ∷ 2 ∷ []) ∷ [] ∷ [])
    ∷ sample (cat b (plus (star a))) false (1 ∷ []) (1 ∷ []) (1 ∷ 2 ∷ []) (1 ∷ 0 ∷ []) ((2 ∷ []) ∷ (2 ∷ []) ∷ [])
    -- (a?)* b, and (a? b?)* c: what may be empty is repeated too
    ∷ sample (cat (star (opt a)) b) false (1 ∷ []) (1 ∷ 2 ∷ []) (2 ∷ []) (0 ∷ 1 ∷ []) ((1 ∷ 2 ∷ []) ∷ [] ∷ [])
    ∷ sample (cat (star (cat (opt a) (opt b))) c) false (2 ∷ []) (1 ∷ 2 ∷ 3 ∷ []) (3 ∷ []) (0 ∷ 1 ∷ 2 ∷ [])
    ((1 ∷ 2 ∷ 3 ∷ []) ∷ (1 ∷ 2 ∷ 3 ∷ []) ∷ [] ∷ [])
    -- (a | b)*, a? b*, (a+)?
    ∷ sample (star (alt a b)) true [] (1 ∷ 2 ∷ []) (1 ∷ 2 ∷ []) (0 ∷ 1 ∷ []) ((1 ∷ 2 ∷ []) ∷ (1 ∷ 2 ∷ []) ∷ [])
    ∷ sample (cat (opt a) (star b)) true [] (1 ∷ 2 ∷ []) (1 ∷ 2 ∷ []) (0 ∷ 1 ∷ []) ((2 ∷ []) ∷ (2 ∷ []) ∷ [])
    ∷ sample (opt (plus a)) true [] (1 ∷ []) (1 ∷ []) (0 ∷ []) ((1 ∷ []) ∷ [])
    -- (a b | c)+ a, and (a b | c a) b: what both sides bind
    ∷ sample (cat (plus (alt (cat a b) c)) a) false (0 ∷ []) (1 ∷ 3 ∷ []) (4 ∷ []) (0 ∷ 1 ∷ 2 ∷ 0 ∷ [])
    ((2 ∷ []) ∷ (1 ∷ 3 ∷ 4 ∷ []) ∷ (1 ∷ 3 ∷ 4 ∷ []) ∷ [] ∷ [])
    ∷ sample (cat (alt (cat a b) (cat c a)) b) false (0 ∷ 1 ∷ []) (1 ∷ 3 ∷ []) (5 ∷ []) (0 ∷ 1 ∷ 2 ∷ 0 ∷ 1 ∷ [])
    ((2 ∷ []) ∷ (5 ∷ []) ∷ (4 ∷ []) ∷ (5 ∷ []) ∷ [] ∷ [])
    ∷ []
