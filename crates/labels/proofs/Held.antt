-- One label written behind the others that are held in lent words, with room for it and without. For `append_label`.
use mathlib.Core.Path.{◌≡◌, sym, ap, ap₂, ◌∙◌}
use mathlib.Core.Bool.{Bool, true, false, cond}
use mathlib.Core.List.{List, [], ◌∷◌, ◌++◌, map}
use Prim.Native.Nat.{ℕ, ◌+◌, ◌≤◌, ◌<◌}
use Rattle.std.proofs.Common.{Some}
use native.Mathlib.Omega.{arith}
use lib.Dec.{leb}
use lib.ListN.{length, take, replicate, length-map, length-append}
use lib.Seq.{length-take-le}
use borrow.Author.Tests.{le-leb, lt-leb}
use Rattle.laws.specs.Sets.{Grown, full, grown}
use Rattle.meaning.specs.Labels.{Disjunct, Held, held_at, held_of}
use Rattle.meaning.specs.Room.{held_limit}
use Rattle.automaton.proofs.Held.{held_of_append, held_of_one}
use Rattle.bounded.specs.Bounded.{appended}
use Rattle.packed.specs.Sets.{disjuncts_in}
use Rattle.packed.specs.Held.{held_in, held_grown}
use Rattle.packed.proofs.Held.{taken_length, in_held}

-- The label of position p, the first m disjuncts of v, behind the first n: without room for it, and with it, where at' and w' are the
-- positions and the words after.
module _ (p m n : ℕ) (v at w : List ℕ) (few : m ≤ 128) (fits : n ≤ 128) (long : length at ≡ 128) where
  appended_length : length (held_in n at w ++ map (held_at p) (take m (disjuncts_in v))) ≡ n + m
  appended_length =
      length-append (held_in n at w) _ ∙ ap₂ ◌+◌ (in_held n at w fits long) (length-map (take m (disjuncts_in v)) (held_at p) ∙ taken_length v m few)

  -- the test against the limit decides
  appended_tested : (t : Bool) → leb (n + m) held_limit ≡ t
      → cond t (grown (held_in n at w ++ map (held_at p) (take m (disjuncts_in v)))) full ≡ appended p (held_in n at w) (grown (take m (disjuncts_in v)))
  appended_tested t e = rw (appended_length, e)

  pub label_over : 128 < n + m → full ≡ appended p (held_in n at w) (grown (take m (disjuncts_in v)))
  label_over h = appended_tested false (lt-leb (n + m) held_limit h)

  pub label_behind_law : (at' w' : List ℕ) → n + m ≤ 128 → take (n + m) at' ≡ take n at ++ replicate m p
      → take (n + m) (disjuncts_in w') ≡ take n (disjuncts_in w) ++ take m (disjuncts_in v)
      → held_grown (Some (n + m)) at' w' ≡ appended p (held_in n at w) (grown (take m (disjuncts_in v)))
  unfolding held_in
  label_behind_law at' w' h a d = ap grown whole ∙ appended_tested true (le-leb (n + m) held_limit h)
    where
      l : List Disjunct
      l = take m (disjuncts_in v)

      whole : held_in (n + m) at' w' ≡ held_in n at w ++ map (held_at p) l
      whole =
          let same = length-take-le n at (omega arith) ∙ sym (taken_length w n fits) in
          ap₂ held_of a d ∙ held_of_append (take n at) (replicate m p) (take n (disjuncts_in w)) l same
          ∙ ap (λ r. held_of (take n at) (take n (disjuncts_in w)) ++ r)
          (ap (λ k. held_of (replicate k p) l) (sym (taken_length v m few)) ∙ held_of_one p l)
