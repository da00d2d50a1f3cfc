-- One turn of picking disjuncts by their positions: what is picked ahead, by the next of them, and one more put behind those before. For
-- label.
use mathlib.Core.Path.{◌≡◌, sym, ap, ap₂, ◌∙◌}
use mathlib.Core.Bool.{cond}
use mathlib.Core.List.{List, [], ◌∷◌, ◌++◌, append_assoc}
use Prim.Native.Nat.{ℕ, ◌+◌, ◌≤◌, ◌<◌}
use native.Mathlib.Numerals.{add-one}
use lib.Dec.{eqb}
use lib.ListN.{length, take, drop, get_or, set}
use lib.Seq.{take-suc-set}
use borrow.Author.Tests.{eq-eqb, ne_eqb}
use Rattle.laws.proofs.Lists.{taken_cons}
use Rattle.meaning.specs.Labels.{Disjunct}
use Rattle.bounded.specs.Bounded.{pick}

-- the disjuncts of position p among the first n from i on
abbrev pub ahead : (p : ℕ) → List ℕ → List Disjunct → (n i : ℕ) → List Disjunct
ahead p ps l n i = pick (eqb p) (drop i (take n ps)) (drop i (take n l))

module _ (p : ℕ) (ps : List ℕ) (l : List Disjunct) (n i : ℕ) (h : i < n) (hp : n ≤ length ps) (hl : n ≤ length l) where
  ahead_next : ahead p ps l n i ≡ cond (eqb p (get_or ps i 0)) (get_or l i [] ∷ ahead p ps l n (i + 1)) (ahead p ps l n (i + 1))
  ahead_next = ap₂ (pick (eqb p)) (taken_cons ps n i 0 h hp) (taken_cons l n i [] h hl)

  pub ahead_picked : get_or ps i 0 ≡ p → ahead p ps l n i ≡ get_or l i [] ∷ ahead p ps l n (i + 1)
  ahead_picked e = ahead_next ∙ ap (λ b. cond b (get_or l i [] ∷ ahead p ps l n (i + 1)) (ahead p ps l n (i + 1))) (eq-eqb p (get_or ps i 0) (sym e))

  pub ahead_passed : (get_or ps i 0 ≡ p → ⊥) → ahead p ps l n i ≡ ahead p ps l n (i + 1)
  ahead_passed f =
      ahead_next ∙ ap (λ b. cond b (get_or l i [] ∷ ahead p ps l n (i + 1)) (ahead p ps l n (i + 1))) (ne_eqb p (get_or ps i 0) (λ e. f (sym e)))

-- an element put at m stands behind the first m
pub put_behind : (l : List Disjunct) (m : ℕ) (D : Disjunct) (k : List Disjunct) → m < length l → take (m + 1) (set l m D) ++ k ≡ take m l ++ D ∷ k
put_behind l m D k h = rw (add-one m, take-suc-set l m D h) (append_assoc (take m l) (D ∷ []) k)
