-- A state in lent words: STATE_WORDS of them, the number of the layout first, then the event number, the count of disjuncts held, a position for each
-- of 128 places, and for each place the group of its disjunct, seven words to a variable. Any words say something (`state_in`); those of a
-- state are `state_words`. Counts and codes are read as they stand, so that soundness judges them.
use Rattle.std.specs.Prelude.{cond, false, List, [], ◌∷◌, ◌++◌, map, ℕ, suc, ◌+◌, ◌-◌, ◌*◌, max, eqb, length, get_or, take, drop, replicate}
use Rattle.laws.specs.Lists.{gather}
use Rattle.laws.specs.Parts.{splice, pad}
use Rattle.meaning.specs.Labels.{Entry, bound, free}
use Rattle.meaning.specs.Limits.{variable_limit}
use Rattle.meaning.specs.Room.{exclusion_limit, held_limit}
use Rattle.meaning.specs.Sound.{event_limit}
use Rattle.slot.specs.declared.Slot.{Slot}
use Rattle.slot.specs.Slots.{slot_of}
use Rattle.disjunct.specs.declared.Disjunct.{Disjunct}
use Rattle.disjunct.specs.Disjuncts.{view_disjunct, disjunct_of}
use Rattle.packed.specs.Sets.{slot_words, disjunct_words, bound_code}
use Rattle.state.specs.declared.State.{State}
use Rattle.state.specs.States.{state_of}
use Rattle.blocks.specs.Groups.{groups}

-- The number of this layout: another one for each other layout, and none that is a book's.
abbrev pub state_layout : ℕ
state_layout = 2001

-- where the positions and the groups of disjuncts begin
abbrev pub positions_from : ℕ
positions_from = 3

abbrev pub pool_from : ℕ
pool_from = positions_from + held_limit

-- STATE_WORDS
abbrev pub state_size : ℕ
state_size = pool_from + held_limit * disjunct_words

-- Words to structs. A variable's words are a code and six more: code 7 is a value, the next word; any other is the count of its exclusions, which
-- stand behind. A count above six is none that a sound slot has.
unfoldable pub slot_in : List ℕ → Slot
slot_in g =
    let code = get_or g 0 0 in
    cond (eqb code bound_code) (slot_of (bound (get_or g 1 0))) (record { bound = false; value = 0; count = code; excluded = take exclusion_limit (drop 1 g) })

unfoldable pub disjunct_in : List ℕ → Disjunct
disjunct_in g = record { vars = map slot_in (groups slot_words variable_limit g) }

-- the state in words of this layout: the places that are counted, the others free
unfoldable pub state_held : List ℕ → State
state_held w =
    let n = get_or w 2 0 in
    record {
      number = get_or w 1 0;
      count = n;
      positions = pad held_limit 0 (take n (take held_limit (drop positions_from w)));
      pool = pad held_limit (disjunct_of []) (take n (map disjunct_in (groups disjunct_words held_limit (drop pool_from w))));
    }

-- a block that begins with another number is a state that no watch reaches: unsound, as its event number is above the limit
abbrev pub unknown_state : State
unknown_state = state_of (record { number = suc event_limit; held = [] })

unfoldable pub state_in : List ℕ → State
state_in w = cond (eqb (get_or w 0 0) state_layout) (state_held w) unknown_state

-- Structs to words: a value is code 7, the value and five zeros; else the count of the exclusions, the exclusions, and zeros.
abbrev pub entry_words : Entry → List ℕ
entry_words (bound a) = bound_code ∷ a ∷ replicate (exclusion_limit - 1) 0
entry_words (free xs) = length xs ∷ pad exclusion_limit 0 xs

unfoldable pub group_words : Disjunct → List ℕ
group_words d = gather entry_words (view_disjunct d)

-- the words before the positions
abbrev pub state_head : State → List ℕ
state_head s = state_layout ∷ s.number ∷ s.count ∷ []

unfoldable pub state_words : State → List ℕ
state_words s = state_head s ++ s.positions ++ gather group_words s.pool

-- What a state leaves of a block that it is stored in: the places that are held or were held are the state's, those behind stay as they came.
unfoldable pub state_stored : List ℕ → State → List ℕ
state_stored w s =
    let m = max (get_or w 2 0) s.count in
    splice pool_from (gather group_words (take m s.pool)) (splice positions_from (take m s.positions) (splice 0 (state_head s) w))
