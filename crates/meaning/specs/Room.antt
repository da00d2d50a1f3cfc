-- Room: document 01, "No room, exactly: some step set, or some skip set after one of its symbols, exceeds 128; a
-- variable would have 7 exclusions; or all new labels together exceed 128."
use Rattle.std.specs.Prelude.{Bool, true, ◌&&◌, ℕ, ◌≤◌, ◌<◌, leb, length, take}
use mathlib.Core.List.{List, [], ◌∷◌, map, Memᴰ}
use Rattle.laws.specs.Lists.{all}
use Rattle.meaning.specs.Events.{Event, Constraint, constraint_of}
use Rattle.meaning.specs.Book.{Book, positions}
use Rattle.meaning.specs.Labels.{Entry, Disjunct, Held, exclusions, label_of, step_set, skip_by, skip_through, new_held}

-- "at most 6 excluded values"
abbrev pub exclusion_limit : ℕ
exclusion_limit = 6

-- "all 128 disjunct places", "exceeds 128"
abbrev pub held_limit : ℕ
held_limit = 128

-- no variable has "7 exclusions"
abbrev pub few_exclusions : Disjunct → Bool
few_exclusions D = all (λ x. leb (length (exclusions x)) exclusion_limit) D

-- a set of disjuncts with its exclusions within the limits
unfoldable pub set_room : List Disjunct → Bool
set_room l = leb (length l) held_limit && all few_exclusions l

-- "some skip set after one of its symbols": the set is judged after each
abbrev pub skip_room : List Constraint → List Disjunct → Bool
skip_room [] l = true
skip_room (c ∷ cs) l = let l' = skip_by c l in set_room l' && skip_room cs l'

-- no room rule is broken
unfoldable pub room : Book → List Held → Event → Bool
room b held e =
    all (λ q. leb (length (step_set b held e q)) held_limit) (positions b)
    && all (λ p. skip_room (map (λ s. constraint_of s e) b.symbols) (label_of held p)) (positions b)
    && leb (length (new_held b held e)) held_limit

-- "No room, exactly", as a proposition: the ways in which a room rule is broken. The skip set after the first k symbols is
-- judged for each k from 1 on.
abbrev pub skipped_by : Book → List Held → Event → (p k : ℕ) → List Disjunct
skipped_by b held e p k = skip_through (take k (map (λ s. constraint_of s e) b.symbols)) (label_of held p)

-- one constructor for each of the four rules
pub data Broken (b : Book) (held : List Held) (e : Event) : Type 0 where
  step_set_over : (q : ℕ) → Memᴰ q (positions b) → held_limit < length (step_set b held e q) → Broken b held e
  skip_set_over : (p k : ℕ) → Memᴰ p (positions b) → 1 ≤ k → k ≤ length b.symbols → held_limit < length (skipped_by b held e p k) → Broken b held e
  seventh_exclusion : (p k : ℕ) → Memᴰ p (positions b) → 1 ≤ k → k ≤ length b.symbols
      → (D : Disjunct) → Memᴰ D (skipped_by b held e p k) → (x : Entry) → Memᴰ x D → exclusion_limit < length (exclusions x) → Broken b held e
  all_over : held_limit < length (new_held b held e) → Broken b held e
