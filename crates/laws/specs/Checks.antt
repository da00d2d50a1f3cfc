-- The first failing check of a list of checks, for any checks and any answers: computed, and as a proposition. Document 01's "9 to 13 in that
-- order" is one such list; each list that a call goes through is an instance.
use Rattle.std.specs.Prelude.{Bool, cond, List, [], ◌∷◌}

-- one check: whether it fails, and the answer then
pub record Check (A : Type 0) : Type 0 where
  pub fails : Bool
  pub answer : A

module _ {A : Type 0} (otherwise : A) where
  -- the answer of the first check that fails, and `otherwise` where none does
  abbrev pub first_failing : List (Check A) → A
  first_failing [] = otherwise
  first_failing (c ∷ cs) = let r = first_failing cs in cond c.fails c.answer r

-- The same in words: the checks are told apart by keys, each fails or passes by a proposition of its own, and n is what is given for the key of
-- the first that fails, all before it passing; `otherwise` where all pass.
module _ {K N : Type 0} (Fails Passes : K → Type 0) (number : K → N) (otherwise : N) where
  pub data FirstToFail : List K → N → Type 0 where
    none_fails : FirstToFail [] otherwise
    fails_here : {k : K} {ks : List K} → Fails k → FirstToFail (k ∷ ks) (number k)
    fails_later : {k : K} {ks : List K} {n : N} → Passes k → FirstToFail ks n → FirstToFail (k ∷ ks) n
