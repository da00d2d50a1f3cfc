-- How the code holds a state: a pool of disjuncts with their positions, the places not taken free; and how it is read back.
use Rattle.std.specs.Prelude.{List, [], map, ℕ, length, take}
use Rattle.laws.specs.Parts.{pad}
use Rattle.meaning.specs.Labels as Labels
use Rattle.meaning.specs.Room.{held_limit}
use Rattle.meaning.specs.Labels.{held_of}
use Rattle.disjunct.specs.Disjuncts.{view_disjunct, disjunct_of}
use Rattle.state.specs.declared.State.{State}

-- plain to code: "all 128 disjunct places", those not taken free. What is held stands in the first places, so that "Places of
-- disjuncts that end are used again."
unfoldable pub state_of : Labels.State → State
state_of s =
    record {
      number = s.number;
      count = length s.held;
      positions = pad held_limit 0 (map (λ h. h.position) s.held);
      pool = pad held_limit (disjunct_of []) (map (λ h. disjunct_of h.disjunct) s.held);
    }

-- code to plain: the places that are taken, and of each disjunct the book's variables
unfoldable pub held_first : (variables : ℕ) → State → List Labels.Held
held_first n s = held_of (take s.count s.positions) (map (λ d. take n (view_disjunct d)) (take s.count s.pool))

unfoldable pub view_state : (variables : ℕ) → State → Labels.State
view_state n s = record { number = s.number; held = held_first n s }
