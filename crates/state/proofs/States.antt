-- The state of the code against the plain one: a state that is coded and read again is as it was, and further free variables
-- change nothing of the code's state. For the event call and the soundness of a state.
use mathlib.Core.Path.{◌≡◌, sym, ap, ap₂, ◌∙◌}
use mathlib.Core.List.{List, [], map, map-map, Memᴰ}
use Prim.Native.Nat.{ℕ, ◌≤◌}
use native.Mathlib.Omega.{arith}
use lib.ListN.{length, take, length-map}
use Rattle.laws.specs.Parts.{pad}
use Rattle.laws.proofs.Maps.{map_agree}
use Rattle.laws.proofs.Parts.{pad_length, pad_take, pad_full, map_pad}
use Rattle.meaning.specs.Labels as Labels
use Rattle.meaning.specs.Labels.{free, Held, held_of}
use Rattle.meaning.specs.Wide.{wide, wide_held}
use Rattle.automaton.proofs.Held.{held_of_law}
use Rattle.slot.specs.Slots.{slot_of}
use Rattle.disjunct.specs.declared.Disjunct.{Disjunct}
use Rattle.disjunct.specs.Disjuncts.{view_disjunct, disjunct_of}
use Rattle.disjunct.proofs.Disjuncts.{view_disjunct_law}
use Rattle.state.specs.declared.State.{State}
use Rattle.state.specs.States.{state_of, held_first, view_state}

module _ {A B : Type 0} where
  -- what is counted of a padded map
  taken : (n : ℕ) (d : B) (f : A → B) (l : List A) → take (length l) (pad n d (map f l)) ≡ map f l
  taken n d f l = ap (λ k. take k (pad n d (map f l))) (sym (length-map l f)) ∙ pad_take n d (map f l)

-- the first variables of a disjunct that has no more
view_first : (n : ℕ) (D : Labels.Disjunct) → length D ≡ n → take n (view_disjunct (disjunct_of D)) ≡ D
view_first n D h = rw (view_disjunct_law D, ← h) (pad_take 4 (free []) D)

pub view_state_law : (n : ℕ) → n ≤ 4 → (s : Labels.State) → length s.held ≤ 128
    → ((h : Held) → Memᴰ h s.held → length h.disjunct ≡ n) → view_state n (state_of s) ≡ s
unfolding view_state held_first state_of
view_state_law n four s few same =
    ap (λ l. record { number = s.number; held = l })
    (ap₂ held_of (taken 128 0 (λ h. h.position) s.held)
    (ap (map (λ d. take n (view_disjunct d))) (taken 128 (disjunct_of []) (λ h. disjunct_of h.disjunct) s.held)
    ∙ map-map (λ d. take n (view_disjunct d)) (λ h. disjunct_of h.disjunct) s.held
    ∙ map_agree (λ h. take n (view_disjunct (disjunct_of h.disjunct))) (λ h. h.disjunct) s.held (λ h m. view_first n h.disjunct (same h m)))
    ∙ held_of_law s.held)

-- a disjunct made wide is coded as before
wide_same : (D : Labels.Disjunct) → length D ≤ 4 → disjunct_of (wide D) ≡ disjunct_of D
unfolding disjunct_of wide
wide_same D h =
    let f = slot_of (free []) in
    let l = pad 4 f (map slot_of D) in
    let n : length l ≡ 4 = pad_length 4 f (map slot_of D) (omega (arith, length-map D slot_of)) in
    ap (λ l. record { vars = pad 4 f l }) (map_pad slot_of 4 (free []) D) ∙ ap (λ l. record { vars = l }) (pad_full 4 f l (omega arith))

pub state_wide : (number : ℕ) (held : List Held) → ((h : Held) → Memᴰ h held → length h.disjunct ≤ 4)
    → state_of (record { number = number; held = map wide_held held }) ≡ state_of (record { number = number; held = held })
unfolding state_of wide_held
state_wide number held few =
    let places : ℕ → List ℕ → List Disjunct → State =
    λ k p l. record { number = number; count = k; positions = pad 128 0 p; pool = pad 128 (disjunct_of []) l } in
    let positions = map (λ h. h.position) (map wide_held held) in
    let pool = map (λ h. disjunct_of h.disjunct) (map wide_held held) in
    ap (λ k. places k positions pool) (length-map held wide_held)
    ∙ ap₂ (places (length held)) (map-map (λ h. h.position) wide_held held)
    (map-map (λ h. disjunct_of h.disjunct) wide_held held
    ∙ map_agree (λ h. disjunct_of (wide h.disjunct)) (λ h. disjunct_of h.disjunct) held (λ h m. wide_same h.disjunct (few h m)))
