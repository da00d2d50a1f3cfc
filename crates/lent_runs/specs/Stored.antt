-- What an accepted event leaves in the state's words, word by word: what is held is canonical, what was held beyond it becomes zero, and the rest of the block
-- stays as it came. The theorem `accepted_words` gives it for any words.
use Rattle.std.specs.Prelude.{◌≡◌, List, [], ℕ, ◌+◌, ◌*◌, ◌≤◌, ◌<◌, length, get_or, take, drop, replicate}
use Rattle.laws.specs.Lists.{gather}
use Rattle.laws.specs.Parts.{pad}
use Rattle.meaning.specs.Labels.{free, Held, held_at}
use Rattle.blocks.specs.StateBlock.{entry_words}

-- the 28 words of the i-th group
abbrev pub group_at : List ℕ → ℕ → List ℕ
group_at w i = take 28 (drop (131 + 28 * i) w)

-- the i-th of what is held
abbrev pub held_number : List Held → ℕ → Held
held_number held i = get_or held i (held_at 0 [])

-- `after` is a block that held `old` disjuncts, with the state stored in it that has this event number and holds this, for a book of so many variables
pub record StoredWords (variables number : ℕ) (held : List Held) (old : ℕ) (before after : List ℕ) : Type 0 where
  pub size : length after ≡ 3715
  pub head : (get_or after 0 0 ≡ 2001) × (get_or after 1 0 ≡ number) × (get_or after 2 0 ≡ length held)
  -- what is held: its position, and four variables
  pub positions : (i : ℕ) → i < length held → get_or after (3 + i) 0 ≡ (held_number held i).position
  pub groups : (i : ℕ) → i < length held → group_at after i ≡ gather entry_words (pad 4 (free []) (held_number held i).disjunct)
  -- "variables beyond the book's zero"
  pub beyond : (i v : ℕ) → i < length held → variables ≤ v → v < 4 → take 7 (drop (131 + 28 * i + 7 * v) after) ≡ replicate 7 0
  -- "groups from the new to the old count become zero"
  pub freed : (i : ℕ) → length held ≤ i → i < old → i < 128 → (get_or after (3 + i) 0 ≡ 0) × (group_at after i ≡ replicate 28 0)
  -- "later ones stay as they came"
  pub later : (i : ℕ) → length held ≤ i → old ≤ i → i < 128 → (get_or after (3 + i) 0 ≡ get_or before (3 + i) 0) × (group_at after i ≡ group_at before i)
