-- What the loops of `load` and `store` keep: the first i places taken over, in the lent words and in the state; and the state
-- that holds nothing. For the proofs of `vacant`, `load` and `store`.
use mathlib.Core.Path.{◌≡◌, refl, sym, ap, ap₂, ◌∙◌}
use mathlib.Core.List.{List, [], ◌∷◌, ◌++◌, map, map-map}
use Prim.Native.Nat.{ℕ, ◌+◌, ◌≤◌, ◌<◌}
use native.Mathlib.Omega.{arith}
use lib.ListN.{length, take, drop, get_or, set, replicate, length-map, get_or-map}
use lib.Seq.{take_all, length-take-le}
use Rattle.std.proofs.lemmas.List.{drop-replicate}
use Rattle.laws.specs.Parts.{pad}
use Rattle.laws.proofs.Maps.{take_map}
use Rattle.laws.proofs.Parts.{pad_next}
use Rattle.meaning.specs.Labels as Labels
use Rattle.meaning.specs.Labels.{free_disjunct, held_at, held_of}
use Rattle.meaning.specs.Wide.{wide, wide_held}
use Rattle.automaton.proofs.Held.{held_of_length, held_positions}
use Rattle.disjunct.specs.declared.Disjunct.{Disjunct}
use Rattle.disjunct.specs.Disjuncts.{view_disjunct, disjunct_of}
use Rattle.disjunct.proofs.Disjuncts.{view_disjunct_law}
use Rattle.packed.specs.Sets.{disjuncts_in}
use Rattle.packed.proofs.Sets.{in_length, wide_in}
use Rattle.packed.specs.Held.{held_in}
use Rattle.laws.proofs.Fills.{fill_more}
use Rattle.state.specs.declared.State.{State}
use Rattle.state.specs.States.{state_of, held_first}

-- of what is held: made wide, its disjuncts as the code's
held_wide : (ps : List ℕ) (l : List Labels.Disjunct) → map wide_held (held_of ps l) ≡ held_of ps (map wide l)
unfolding wide_held
held_wide [] l = refl
held_wide (p ∷ ps) [] = refl
held_wide (p ∷ ps) (D ∷ l) = ap (λ r. held_at p (wide D) ∷ r) (held_wide ps l)

held_disjuncts : (ps : List ℕ) (l : List Labels.Disjunct) → length ps ≡ length l → map (λ h. disjunct_of h.disjunct) (held_of ps l) ≡ map disjunct_of l
held_disjuncts [] [] h = refl
held_disjuncts [] (D ∷ l) h = absurd (omega arith)
held_disjuncts (p ∷ ps) [] h = refl
held_disjuncts (p ∷ ps) (D ∷ l) h = ap (λ r. disjunct_of D ∷ r) (held_disjuncts ps l (omega arith))

-- the free disjunct has four free variables, whatever the book declares
free_none : disjunct_of (free_disjunct 4) ≡ disjunct_of []
unfolding disjunct_of pad
free_none = refl

pub none_held : (number : ℕ) (d : Disjunct) → d ≡ disjunct_of (free_disjunct 4)
    → record { number = number; count = 0; positions = replicate 128 0; pool = replicate 128 d } ≡ state_of (record { number = number; held = [] })
unfolding state_of pad
none_held number d e = ap (λ x. record { number = number; count = 0; positions = replicate 128 0; pool = replicate 128 x }) (e ∙ free_none)

-- the first v variables, the further ones free
abbrev first_of : ℕ → Disjunct → Labels.Disjunct
first_of v d = wide (take v (view_disjunct d))

-- the first i of the disjuncts l in the lent words, of each the first v variables
pub record Loaded (v : ℕ) (l : List Disjunct) (words : List ℕ) (i : ℕ) : Type 0 where
  pub pool : take i (disjuncts_in words) ≡ map (first_of v) (take i l)

module _ (v : ℕ) (l : List Disjunct) (words : List ℕ) where
  pub loaded_none : Loaded v l words 0
  loaded_none = record { pool = refl }

  module _ (i : ℕ) (g : Loaded v l words i) where
    pub loaded_more : (words' : List ℕ) (e z : Disjunct) → i < length l → length l ≤ 128
        → disjuncts_in words' ≡ set (disjuncts_in words) i (view_disjunct e) → e ≡ disjunct_of (take v (view_disjunct (get_or l i z)))
        → Loaded v l words' (i + 1)
    unfolding wide
    loaded_more words' e z h c ew ee =
        record {
          pool =
              ap (take (i + 1)) (ew ∙ ap (set (disjuncts_in words) i) (ap view_disjunct ee ∙ view_disjunct_law (take v (view_disjunct (get_or l i z)))))
              ∙ fill_more (first_of v) l (disjuncts_in words) i z h (omega (arith, in_length words)) g.pool;
        }

    -- where l is what a state counts
    pub loaded_all : (s : State) → l ≡ take s.count s.pool → s.count ≤ length s.pool → i ≤ length l → length l ≤ i
        → held_in s.count s.positions words ≡ map wide_held (held_first v s)
    unfolding held_in held_first
    loaded_all s same few below above =
        let long : length l ≡ s.count = ap length same ∙ length-take-le s.count s.pool few in
        let e : i ≡ s.count = omega arith in
        let whole : take s.count l ≡ take s.count s.pool = take_all s.count l (omega arith) ∙ same in
        let first = take s.count s.pool in
        ap (held_of (take s.count s.positions))
        (rw e at g.pool ∙ ap (map (first_of v)) whole ∙ sym (map-map wide (λ d. take v (view_disjunct d)) first))
        ∙ sym (held_wide (take s.count s.positions) (map (λ d. take v (view_disjunct d)) first))

-- the n positions and the first i disjuncts of the lent words in s, the other places free
pub record Stored (number : ℕ) (at words : List ℕ) (n : ℕ) (s : State) (i : ℕ) : Type 0 where
  pub numbered : s.number ≡ number
  pub counted : s.count ≡ n
  pub positions : s.positions ≡ pad 128 0 (take n at)
  pub pool : s.pool ≡ pad 128 (disjunct_of []) (take i (map disjunct_of (disjuncts_in words)))

module _ (number : ℕ) (at words : List ℕ) (n : ℕ) (few : n ≤ 128) (long : length at ≡ 128) where
  -- n positions, written over zeros, beside the places of a state that holds nothing
  pub stored_none : (s : State) (m p : List ℕ) → s ≡ state_of (record { number = number; held = [] }) → m ≡ take n at → p ≡ m ++ drop n (replicate 128 0)
      → Stored number at words n (record { number = s.number; count = n; positions = p; pool = s.pool }) 0
  unfolding state_of pad
  stored_none s m p e h k =
      let size : length (take n at) ≡ n = length-take-le n at (omega arith) in
      record {
        numbered = ap (λ x. x.number) e;
        counted = refl;
        positions = rw (k, h, size, drop-replicate);
        pool = ap (λ x. x.pool) e;
      }

  module _ (s : State) (i : ℕ) (g : Stored number at words n s i) where
    pub stored_more : (d e : Disjunct) → i < n
        → view_disjunct d ≡ get_or (disjuncts_in words) i [] → e ≡ disjunct_of (take 4 (view_disjunct d))
        → Stored number at words n (record { number = s.number; count = s.count; positions = s.positions; pool = set s.pool i e }) (i + 1)
    stored_more d e h ed ee =
        let l = disjuncts_in words in
        let coded : e ≡ get_or (map disjunct_of l) i (disjunct_of []) =
        ee ∙ ap disjunct_of (ap (take 4) ed ∙ take_all 4 (get_or l i []) (omega (arith, wide_in words i (omega arith)))) ∙ sym (get_or-map disjunct_of l i []) in
        record {
          numbered = g.numbered;
          counted = g.counted;
          positions = g.positions;
          pool =
              ap₂ (λ r x. set r i x) g.pool coded
              ∙ pad_next 128 (disjunct_of []) (map disjunct_of l) i (disjunct_of []) (omega (arith, length-map l disjunct_of, in_length words)) (omega arith);
        }

    pub stored_all : i ≡ n → s ≡ state_of (record { number = number; held = held_in n at words })
    unfolding state_of held_in
    stored_all e =
        let places : ℕ → ℕ → List ℕ → List Disjunct → State = λ x k p l. record { number = x; count = k; positions = p; pool = l } in
        let ps = take n at in
        let l = take n (disjuncts_in words) in
        let held = held_of ps l in
        let many : length l ≡ n = length-take-le n (disjuncts_in words) (omega (arith, in_length words)) in
        let same : length ps ≡ length l = length-take-le n at (omega arith) ∙ sym many in
        ap₂ (λ x k. places x k s.positions s.pool) g.numbered (g.counted ∙ sym (held_of_length ps l same ∙ many))
        ∙ ap₂ (places number (length held))
        (g.positions ∙ ap (pad 128 0) (sym (held_positions ps l (omega arith))))
        (rw e at g.pool ∙ ap (pad 128 (disjunct_of [])) (take_map disjunct_of n (disjuncts_in words) ∙ sym (held_disjuncts ps l same)))
