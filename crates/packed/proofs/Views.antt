-- The slots of the code against the entries in the words: what `read_slot` makes of seven words, what `put_slot` writes, and the turns
-- of `get` and `put` over the four variables.
use mathlib.Core.Path.{◌≡◌, sym, ap, ◌∙◌}
use mathlib.Core.Bool.{true, false}
use mathlib.Core.List.{List, [], map}
use mathlib.Core.Logic.{◌⊎◌, ⊎_elim}
use Prim.Native.Nat.{ℕ, ◌+◌, ◌-◌, ◌*◌, ◌≤◌, ◌<◌}
use native.Mathlib.Decide.{ℕ_discrete}
use native.Mathlib.Omega.{arith}
use lib.ListN.{length, take, drop, get_or, set, length-set, length-map, get_or-map}
use lib.Seq.{get_or-set_same, get_or-set_other}
use borrow.Rule.Slice.PartMut.{put_mid}
use Rattle.places.proofs.Parts.{overwritten_length, overwritten_below, overwritten_above, overwritten_itself}
use Rattle.laws.proofs.Arrays.{by_index, maps_agree}
use Rattle.meaning.specs.Labels.{bound, free, exclusions}
use Rattle.slot.specs.declared.Slot.{Slot}
use Rattle.slot.specs.Slots.{view_slot, slot_of}
use Rattle.slot.proofs.Slots.{view_free, view_taken}
use Rattle.disjunct.specs.declared.Disjunct.{Disjunct}
use Rattle.disjunct.specs.Disjuncts.{view_disjunct}
use Rattle.disjunct.proofs.Slots.{no_slot}
use Rattle.packed.specs.Sets.{entry_at, entries_in, disjuncts_in}
use Rattle.packed.proofs.Words.{entry_bound, entry_free, entries_put, disjuncts_of}

-- `read_slot`: a value, or so many of the six words behind the count
pub read_bound : (w : List ℕ) (at : ℕ) (r : Slot) → get_or w at 0 ≡ 7 → r ≡ slot_of (bound (get_or w (at + 1) 0)) → view_slot r ≡ entry_at w at
unfolding view_slot slot_of
read_bound w at r e p = rw p (sym (entry_bound w at e))

pub read_free : (w : List ℕ) (at : ℕ) (xs : List ℕ) → (get_or w at 0 ≡ 7 → ⊥) → xs ≡ take 6 (drop (at + 1) w)
    → view_slot (record { bound = false; value = 0; count = get_or w at 0; excluded = xs }) ≡ entry_at w at
unfolding view_slot
read_free w at xs e p = rw p (sym (entry_free w at e))

-- `put_slot`
pub write_bound : (w : List ℕ) (j : ℕ) (s : Slot) → j < 512 → length w ≡ 3584 → s.bound ≡ true
    → entries_in (set (set w (j * 7) 7) (j * 7 + 1) s.value) ≡ set (entries_in w) j (view_slot s)
unfolding view_slot
write_bound w j s h l b =
    let at = j * 7 in
    let u = set w at 7 in
    let v = set u (at + 1) s.value in
    let code : get_or v at 0 ≡ 7 = get_or-set_other u (at + 1) at s.value 0 (λ z. omega arith) ∙ get_or-set_same w at 7 0 (omega arith) in
    let value : get_or v (at + 1) 0 ≡ s.value = get_or-set_same u (at + 1) s.value 0 (omega (arith, length-set w at 7)) in
    entries_put w v j h l (length-set u (at + 1) s.value ∙ length-set w at 7 ∙ l)
    (λ k o. get_or-set_other u (at + 1) k s.value 0 (λ z. ⊎_elim (λ a. omega arith) (λ a. omega arith) o)
    ∙ get_or-set_other w at k 7 0 (λ z. ⊎_elim (λ a. omega arith) (λ a. omega arith) o))
    ∙ ap (set (entries_in w) j) (entry_bound v at code ∙ rw (value, b))

-- a free slot by how many exclusions it counts
view_counted : (s : Slot) (n : ℕ) → s.bound ≡ false → n ≡ length (exclusions (view_slot s)) → view_slot s ≡ free (take n s.excluded)
view_counted s n b e = let v = view_free s b in v ∙ ap free (sym (ap exclusions v) ∙ view_taken s n e)

pub write_free : (w : List ℕ) (j : ℕ) (s : Slot) (n : ℕ) (xs : List ℕ) → j < 512 → length w ≡ 3584 → s.bound ≡ false → length s.excluded ≡ 6
    → n ≡ length (exclusions (view_slot s)) → n ≤ 6 → xs ≡ s.excluded
    → entries_in (put_mid (j * 7 + 1) (j * 7 + 7 - (j * 7 + 1)) (set w (j * 7) n) xs) ≡ set (entries_in w) j (view_slot s)
write_free w j s n xs h l b f e m p =
    let at = j * 7 in
    let u = set w at n in
    let six : at + 7 - (at + 1) ≡ 6 = omega arith in
    let v = put_mid (at + 1) 6 u xs in
    let long : length xs ≡ 6 = ap length p ∙ f in
    let size : length u ≡ 3584 = length-set w at n ∙ l in
    let fits : at + 1 + 6 ≤ length u = omega arith in
    let stays : (k : ℕ) → (k < at) ⊎ (at + 7 ≤ k) → get_or u k 0 ≡ get_or w k 0 =
    λ k o. get_or-set_other w at k n 0 (λ z. ⊎_elim (λ a. omega arith) (λ a. omega arith) o) in
    let other : (k : ℕ) → (k < at) ⊎ (at + 7 ≤ k) → get_or v k 0 ≡ get_or w k 0 =
    λ k o. ⊎_elim (λ a. overwritten_below (at + 1) 6 u xs fits long k (omega arith)) (λ a. overwritten_above (at + 1) 6 u xs fits long k (omega arith)) o ∙ stays k o in
    let code : get_or v at 0 ≡ n = overwritten_below (at + 1) 6 u xs fits long at (omega arith) ∙ get_or-set_same w at n 0 (omega arith) in
    let behind : take 6 (drop (at + 1) v) ≡ xs = overwritten_itself (at + 1) 6 u xs fits long in
    rw six (entries_put w v j h l (overwritten_length (at + 1) 6 u xs fits long ∙ size) other
    ∙ ap (set (entries_in w) j) (entry_free v at (λ z. omega arith) ∙ rw (code, behind, p) (sym (view_counted s n b e))))

-- `get`: the first n variables have been read
pub record ReadOut (w : List ℕ) (i : ℕ) (d : Disjunct) (n : ℕ) : Type 0 where
  pub wide : length d.vars ≡ 4
  pub read : (k : ℕ) → k < n → view_slot (get_or d.vars k no_slot) ≡ entry_at w (i * 28 + k * 7)

pub slots_read_all : {w : List ℕ} {i : ℕ} {d : Disjunct} → ReadOut w i d 4 → i < 128 → view_disjunct d ≡ get_or (disjuncts_in w) i []
unfolding view_disjunct
slots_read_all {w} {i} {d} g h =
    ap (map view_slot) (by_index no_slot d.vars 4 g.wide)
    ∙ maps_agree (λ k. view_slot (get_or d.vars k no_slot)) (λ v. entry_at w (i * 28 + v * 7)) 0 4 (λ k a b. g.read k (omega arith))
    ∙ sym (disjuncts_of w i h)

pub slots_read_more : {w : List ℕ} {i : ℕ} {d : Disjunct} {n : ℕ} (r : Slot) → ReadOut w i d n → n < 4 → view_slot r ≡ entry_at w (i * 28 + n * 7)
    → ReadOut w i (record { vars = set d.vars n r }) (n + 1)
slots_read_more {w} {i} {d} {n} r g l e =
    record { wide = length-set d.vars n r ∙ g.wide; read = λ k b. at k b (ℕ_discrete k n) }
  where
    at : (k : ℕ) → k < n + 1 → Dec (k ≡ n) → view_slot (get_or (set d.vars n r) k no_slot) ≡ entry_at w (i * 28 + k * 7)
    at k b (yes q) = rw (q, get_or-set_same d.vars n r no_slot (omega (arith, g.wide))) e
    at k b (no q) = rw (get_or-set_other d.vars n k r no_slot q) (g.read k (omega arith))

-- the entries of a disjunct
pub viewed : (d : Disjunct) (k : ℕ) → view_slot (get_or d.vars k no_slot) ≡ get_or (view_disjunct d) k (free [])
unfolding view_disjunct view_slot
viewed d k = sym (get_or-map view_slot d.vars k no_slot)

pub viewed_length : (d : Disjunct) → length d.vars ≡ 4 → length (view_disjunct d) ≡ 4
unfolding view_disjunct
viewed_length d l = length-map d.vars view_slot ∙ l
