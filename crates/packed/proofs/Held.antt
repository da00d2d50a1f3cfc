-- What is held in lent words: how much, at which positions, four entries to each disjunct, and what a count with the words says.
-- For the crates that hold labels in lent words.
use mathlib.Core.Path.{◌≡◌, refl, sym, ap, ◌∙◌}
use mathlib.Core.List.{List, [], map, Memᴰ}
use Prim.Native.Nat.{ℕ, ◌≤◌}
use Rattle.std.proofs.Common.{Option, Some, None}
use native.Mathlib.Omega.{arith}
use lib.ListN.{length, take, length-take}
use lib.Seq.{length-take-le}
use Rattle.laws.specs.Sets.{full, grown}
use Rattle.laws.proofs.Lists.{mem_map, mem_index, mem_take}
use Rattle.laws.proofs.Parts.{pad_few}
use Rattle.meaning.specs.Labels.{free, Held}
use Rattle.meaning.specs.Wide.{wide, wide_held}
use Rattle.automaton.proofs.Held.{held_of_length, held_positions, held_disjunct}
use Rattle.packed.specs.Sets.{disjuncts_in}
use Rattle.packed.specs.Held.{held_in, held_grown}
use Rattle.packed.proofs.Sets.{in_length, wide_in}

-- there are as many disjuncts as are counted
pub taken_length : (w : List ℕ) (n : ℕ) → n ≤ 128 → length (take n (disjuncts_in w)) ≡ n
taken_length w n h = length-take-le n (disjuncts_in w) (omega (arith, in_length w))

module _ (n : ℕ) (at w : List ℕ) where
  pub in_held : n ≤ 128 → length at ≡ 128 → length (held_in n at w) ≡ n
  unfolding held_in
  in_held h k =
      let a = taken_length w n h in
      held_of_length (take n at) (take n (disjuncts_in w)) (length-take-le n at (omega arith) ∙ sym a) ∙ a

  pub grown_held : (h : List Held) → held_grown (Some n) at w ≡ grown h → held_in n at w ≡ h
  grown_held h e = cc

pub full_held : (r : Option ℕ) (at w : List ℕ) → held_grown r at w ≡ full → r ≡ None
full_held None at w e = refl
full_held (Some n) at w e = cc

-- the positions of what is held
pub positions_in : (n : ℕ) (at w : List ℕ) → n ≤ 128 → map (λ h. h.position) (held_in n at w) ≡ take n at
unfolding held_in
positions_in n at w h =
    let a = length-take n at in
    let c = taken_length w n h in
    held_positions (take n at) (take n (disjuncts_in w)) (omega arith)

-- a disjunct that is held in lent words has four entries
four_in : (n : ℕ) (at w : List ℕ) (h : Held) → Memᴰ h (held_in n at w) → length h.disjunct ≡ 4
unfolding held_in
four_in n at w h m =
    let k = mem_index [] (mem_take n (held_disjunct (take n at) (take n (disjuncts_in w)) h m)) in
    sym (ap length k.2) ∙ wide_in w k.0 (omega (arith, k.1, in_length w))

-- what is made four wide and held in lent words had no more entries
pub width_in : (n : ℕ) (at w : List ℕ) (l : List Held) → held_in n at w ≡ map wide_held l → (h : Held) → Memᴰ h l → length h.disjunct ≤ 4
unfolding wide_held wide
width_in n at w l e h m = pad_few 4 (free []) h.disjunct (four_in n at w (wide_held h) (rw e ((mem_map wide_held (wide_held h) l).1 (h, m, refl))))
