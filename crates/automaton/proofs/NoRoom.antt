-- Theorem `no_room`: there is no room exactly where a room rule of document 01 is broken.
use mathlib.Core.Path.{◌≡◌, refl}
use mathlib.Core.Bool.{Bool, true, false, ◌&&◌, true≢false}
use mathlib.Core.List.{List, [], ◌∷◌, map, Memᴰ}
use mathlib.Core.Logic.{◌↔◌, ⊎_elim}
use Prim.Native.Nat.{ℕ, zero, suc, ◌≤◌}
use native.Mathlib.Omega.{arith}
use lib.Dec.{leb}
use lib.ListN.{length, take, length-map}
use borrow.Author.Tests.{leb-true, leb-false}
use Rattle.laws.specs.Lists.{all}
use Rattle.laws.proofs.Lists.{and_true_split, and_false_split, all_at, all_found}
use Rattle.meaning.specs.Events.{Event, Constraint, constraint_of}
use Rattle.meaning.specs.Book.{Book, positions}
use Rattle.meaning.specs.Labels.{Disjunct, Held, label_of, step_set, skip_by, skip_through, new_held}
use Rattle.meaning.specs.Room.{held_limit, few_exclusions, set_room, skip_room, room, skipped_by}
use Rattle.meaning.specs.Room.{Broken, step_set_over, skip_set_over, seventh_exclusion, all_over}

-- the set is judged after each symbol, so a refused one is a set after the first k symbols for some k
skip_judged : (cs : List Constraint) (l : List Disjunct) → skip_room cs l ≡ true
    → (k : ℕ) → 1 ≤ k → k ≤ length cs → set_room (skip_through (take k cs) l) ≡ true
skip_judged [] l h k low high = absurd (omega arith)
skip_judged (c ∷ cs) l h zero low high = absurd (omega arith)
skip_judged (c ∷ cs) l h (suc zero) low high = (and_true_split (set_room (skip_by c l)) _ h).0
skip_judged (c ∷ cs) l h (suc (suc k)) low high =
    skip_judged cs (skip_by c l) (and_true_split (set_room (skip_by c l)) _ h).1 (suc k) (omega arith) (omega arith)

skip_refused : (cs : List Constraint) (l : List Disjunct) → skip_room cs l ≡ false
    → (k : ℕ) × (1 ≤ k) × (k ≤ length cs) × (set_room (skip_through (take k cs) l) ≡ false)
skip_refused [] l h = absurd (true≢false h)
skip_refused (c ∷ cs) l h =
    ⊎_elim (λ e. (1, omega arith, omega arith, e))
    (λ e. let (k, low, high, r) = skip_refused cs (skip_by c l) e in (suc k, omega arith, omega arith, r))
    (and_false_split (set_room (skip_by c l)) _ h)

module _ (b : Book) (held : List Held) (e : Event) where
  abbrev constraints : List Constraint
  constraints = map (λ s. constraint_of s e) b.symbols

  -- the three rules that make room
  abbrev steps_fit : Bool
  steps_fit = all (λ q. leb (length (step_set b held e q)) held_limit) (positions b)

  abbrev skips_fit : Bool
  skips_fit = all (λ p. skip_room constraints (label_of held p)) (positions b)

  abbrev labels_fit : Bool
  labels_fit = leb (length (new_held b held e)) held_limit

  pub room_parts : room b held e ≡ true → (steps_fit ≡ true) × (skips_fit ≡ true) × (labels_fit ≡ true)
  unfolding room
  room_parts h =
      let r = and_true_split (steps_fit && skips_fit) labels_fit h in
      let s = and_true_split steps_fit skips_fit r.0 in
      (s.0, s.1, r.1)

  -- a set without room after the first k symbols
  set_broken : (p k : ℕ) → Memᴰ p (positions b) → 1 ≤ k → k ≤ length b.symbols → set_room (skipped_by b held e p k) ≡ false → Broken b held e
  unfolding set_room
  set_broken p k m low high h =
      ⊎_elim (λ l. skip_set_over p k m low high (leb-false _ _ l))
      (λ a. let (D, d, r) = all_found few_exclusions (skipped_by b held e p k) a in
      let (x, y, l) = all_found _ D r in
      seventh_exclusion p k m low high D d x y (leb-false _ _ l)) (and_false_split (leb (length (skipped_by b held e p k)) held_limit) _ h)

  broken : room b held e ≡ false → Broken b held e
  unfolding room
  broken h =
      ⊎_elim (λ r. ⊎_elim steps skips (and_false_split steps_fit skips_fit r)) (λ l. all_over (leb-false _ _ l))
      (and_false_split (steps_fit && skips_fit) labels_fit h)
    where
      steps : steps_fit ≡ false → Broken b held e
      steps a = let (q, m, l) = all_found _ (positions b) a in step_set_over q m (leb-false _ _ l)

      skips : skips_fit ≡ false → Broken b held e
      skips a =
          let (p, m, r) = all_found _ (positions b) a in
          let (k, low, high, l) = skip_refused constraints (label_of held p) r in
          set_broken p k m low (rw length-map at high) l

  set_room_law : room b held e ≡ true → (p k : ℕ) → Memᴰ p (positions b) → 1 ≤ k → k ≤ length b.symbols
      → (leb (length (skipped_by b held e p k)) held_limit ≡ true) × (all few_exclusions (skipped_by b held e p k) ≡ true)
  unfolding set_room
  set_room_law h p k m low high =
      and_true_split (leb (length (skipped_by b held e p k)) held_limit) _
      (skip_judged constraints (label_of held p) (all_at _ (room_parts h).1 m) k low (rw length-map high))

  not_both : room b held e ≡ true → Broken b held e → ⊥
  not_both h (step_set_over q m l) = let r = all_at _ (room_parts h).0 m in omega (arith, leb-true)
  not_both h (skip_set_over p k m low high l) = let r = (set_room_law h p k m low high).0 in omega (arith, leb-true)
  not_both h (seventh_exclusion p k m low high D d x y l) =
      let r = all_at _ (all_at few_exclusions (set_room_law h p k m low high).1 d) y in omega (arith, leb-true)
  not_both h (all_over l) = let r = (room_parts h).2 in omega (arith, leb-true)

pub no_room_law : (b : Book) (held : List Held) (e : Event) → (room b held e ≡ false) ↔ Broken b held e
no_room_law b held e = (broken b held e, λ x. go x (room b held e) refl)
  where
    go : Broken b held e → (t : Bool) → room b held e ≡ t → t ≡ false
    go x true h = absurd (not_both b held e h x)
    go x false h = refl
