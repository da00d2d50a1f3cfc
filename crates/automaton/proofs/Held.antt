-- What is held, as positions and disjuncts side by side: how much there is, its positions and disjuncts, one part behind another. For the
-- crates that hold both in lists of their own.
use mathlib.Core.Path.{◌≡◌, refl, ap}
use mathlib.Core.List.Memᴰ
use mathlib.Core.List.{List, [], ◌∷◌, ◌++◌, map, Memᴰ}
use mathlib.Core.Logic.{⊎_elim}
use Prim.Native.Nat.{ℕ, suc, ◌≤◌}
use native.Mathlib.Omega.{arith}
use lib.ListN.{length, replicate}
use Rattle.meaning.specs.Labels.{Disjunct, Held, held_at, held_of}

-- as much is held as there are positions, and disjuncts
pub held_of_length : (ps : List ℕ) (l : List Disjunct) → length ps ≡ length l → length (held_of ps l) ≡ length l
held_of_length [] [] h = refl
held_of_length [] (D ∷ l) h = h
held_of_length (p ∷ ps) [] h = refl
held_of_length (p ∷ ps) (D ∷ l) h = ap suc (held_of_length ps l (omega arith))

pub held_positions : (ps : List ℕ) (l : List Disjunct) → length ps ≤ length l → map (λ h. h.position) (held_of ps l) ≡ ps
held_positions [] l h = refl
held_positions (p ∷ ps) [] h = absurd (omega arith)
held_positions (p ∷ ps) (D ∷ l) h = ap (λ r. p ∷ r) (held_positions ps l (omega arith))

-- what is held by its positions and its disjuncts
pub held_of_law : (held : List Held) → held_of (map (λ h. h.position) held) (map (λ h. h.disjunct) held) ≡ held
held_of_law [] = refl
held_of_law (h ∷ held) = ap (λ l. h ∷ l) (held_of_law held)

-- a held disjunct is one of the disjuncts
pub held_disjunct : (ps : List ℕ) (l : List Disjunct) (h : Held) → Memᴰ h (held_of ps l) → Memᴰ h.disjunct l
held_disjunct [] l h m = absurd (Memᴰ.not-nil m)
held_disjunct (p ∷ ps) [] h m = absurd (Memᴰ.not-nil m)
held_disjunct (p ∷ ps) (D ∷ l) h m =
    ⊎_elim (λ e. Memᴰ.head (ap (λ x. x.disjunct) e)) (λ k. Memᴰ.tail (held_disjunct ps l h k)) (Memᴰ.cases_cons m)

-- one part behind another
pub held_of_append : (ps qs : List ℕ) (k l : List Disjunct) → length ps ≡ length k → held_of (ps ++ qs) (k ++ l) ≡ held_of ps k ++ held_of qs l
held_of_append [] qs [] l h = refl
held_of_append [] qs (D ∷ k) l h = absurd (omega arith)
held_of_append (p ∷ ps) qs [] l h = absurd (omega arith)
held_of_append (p ∷ ps) qs (D ∷ k) l h = ap (λ r. held_at p D ∷ r) (held_of_append ps qs k l (omega arith))

-- the disjuncts of one label
pub held_of_one : (p : ℕ) (l : List Disjunct) → held_of (replicate (length l) p) l ≡ map (held_at p) l
held_of_one p [] = refl
held_of_one p (D ∷ l) = ap (λ r. held_at p D ∷ r) (held_of_one p l)
