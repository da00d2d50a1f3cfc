-- The first n disjuncts of lent words are within the limits of a set. For the loop over the constraints.
use mathlib.Core.Path.{◌≡◌, sym, ap, ◌∙◌}
use mathlib.Core.Bool.{true}
use mathlib.Core.List.{List, []}
use Prim.Native.Nat.{ℕ, ◌≤◌}
use native.Mathlib.Omega.{arith}
use lib.ListN.{length, take}
use lib.Seq.{length-take-le, get_or-take}
use borrow.Author.Tests.{le-leb}
use Rattle.laws.proofs.Lists.{all_of, mem_index}
use Rattle.meaning.specs.Room.{few_exclusions, set_room}
use Rattle.packed.specs.Sets.{disjuncts_in}
use Rattle.packed.proofs.Sets.{in_length, few_in}

-- no variable has more exclusions than there are words for
pub room_in : (n : ℕ) (w : List ℕ) → n ≤ 128 → set_room (take n (disjuncts_in w)) ≡ true
unfolding set_room
room_in n w h =
    let size : length (take n (disjuncts_in w)) ≡ n = length-take-le n (disjuncts_in w) (omega (arith, in_length w)) in
    rw (le-leb (length (take n (disjuncts_in w))) 128 (omega arith))
    (all_of few_exclusions (take n (disjuncts_in w)) λ D m. let r = mem_index [] m in
    ap few_exclusions (sym r.2 ∙ get_or-take n (disjuncts_in w) r.0 [] (omega arith)) ∙ few_in w r.0 (omega arith))
