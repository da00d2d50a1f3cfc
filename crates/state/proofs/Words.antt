-- A state as it is stored and as it is read back, in words, of any state: what is held stands in the first places, in its order, with its values and
-- its exclusions; what no count reaches is zero or free. For the buyer, beside `accepted_leaves` and `fresh_state_law`.
use mathlib.Core.Path.{◌≡◌, refl, ap}
use mathlib.Core.Bool.{true, false}
use mathlib.Core.List.{List, [], ◌∷◌, ◌++◌, map}
use Prim.Native.Nat.{ℕ, zero, suc, ◌-◌, ◌<◌}
use native.Mathlib.Omega.{arith}
use lib.ListN.{length, get_or, take, replicate}
use Rattle.laws.specs.Parts.{pad}
use Rattle.meaning.specs.Labels as Labels
use Rattle.meaning.specs.Labels.{bound, free, held_of}
use Rattle.slot.specs.declared.Slot.{Slot}
use Rattle.slot.specs.Slots.{view_slot, slot_of}
use Rattle.disjunct.specs.declared.Disjunct.{Disjunct}
use Rattle.disjunct.specs.Disjuncts.{view_disjunct, disjunct_of}
use Rattle.state.specs.declared.State.{State}
use Rattle.state.specs.States.{state_of, held_first}

-- one variable: its value and no exclusion, or its exclusions from the first on
pub slot_stored : (a : ℕ) (xs : List ℕ)
    → (slot_of (bound a) ≡ record { bound = true; value = a; count = 0; excluded = replicate 6 0 })
    × (slot_of (free xs) ≡ record { bound = false; value = 0; count = length xs; excluded = xs ++ replicate (6 - length xs) 0 })
unfolding slot_of pad
slot_stored a xs = (refl, refl)

pub slot_read : (a n : ℕ) (xs : List ℕ)
    → (view_slot (record { bound = true; value = a; count = n; excluded = xs }) ≡ bound a)
    × (view_slot (record { bound = false; value = a; count = n; excluded = xs }) ≡ free (take n xs))
unfolding view_slot
slot_read a n xs = (refl, refl)

abbrev pub vacant : List Slot
vacant = replicate 4 (record { bound = false; value = 0; count = 0; excluded = replicate 6 0 })

-- "Held disjuncts stand by position, …"; "Places of disjuncts that end are used again"
pub state_stored_law : (s : Labels.State)
    → let ps = map (λ h. h.position) s.held in
    let ds : List Disjunct =
    map (λ h. record { vars = map slot_of h.disjunct ++ replicate (4 - length (map slot_of h.disjunct)) (slot_of (free [])) }) s.held in
    state_of s
    ≡ record {
      number = s.number;
      count = length s.held;
      positions = ps ++ replicate (128 - length ps) 0;
      pool = ds ++ replicate (128 - length ds) (record { vars = vacant });
    }
unfolding state_of disjunct_of slot_of pad
state_stored_law s = refl

-- position and disjunct with one number stand together, from the first on
pub held_words : (ps : List ℕ) (l : List Labels.Disjunct) → length ps ≡ length l
    → (length (held_of ps l) ≡ length ps)
    × ((i : ℕ) (h : Labels.Held) → i < length ps → get_or (held_of ps l) i h ≡ record { position = get_or ps i 0; disjunct = get_or l i [] })
held_words [] [] e = (refl, λ i h k. absurd (omega arith))
held_words [] (D ∷ l) e = absurd (omega arith)
held_words (p ∷ ps) [] e = absurd (omega arith)
held_words (p ∷ ps) (D ∷ l) e = let (n, at) = held_words ps l (omega arith) in (ap suc n, go at)
  where
    go : ((i : ℕ) (h : Labels.Held) → i < length ps → get_or (held_of ps l) i h ≡ record { position = get_or ps i 0; disjunct = get_or l i [] })
        → (i : ℕ) (h : Labels.Held) → i < suc (length ps)
        → get_or (record { position = p; disjunct = D } ∷ held_of ps l) i h ≡ record { position = get_or (p ∷ ps) i 0; disjunct = get_or (D ∷ l) i [] }
    go at zero h k = refl
    go at (suc i) h k = at i h (omega arith)

pub state_read : (n : ℕ) (s : State)
    → held_first n s ≡ held_of (take s.count s.positions) (map (λ d. take n (map view_slot d.vars)) (take s.count s.pool))
unfolding held_first view_disjunct
state_read n s = refl
