-- Regular expressions over symbol numbers and their language, as in any textbook.
-- Document 01, "The book": an alternation is sequences divided by `|`; a sequence is one or more items; an item is an
-- atom with any number of `*`, `+`, `?` after it; an atom is a name or an alternation in parentheses.
use Rattle.std.specs.Prelude.{◌≡◌, Bool, true, false, ◌&&◌, ◌||◌, List, [], ◌∷◌, ◌++◌, ◌⊎◌, ℕ}
use Rattle.laws.specs.Bits.{join, meet}

-- a pattern; `lit a` is one occurrence of the symbol with number a
pub data Regex : Type 0 where
  lit : ℕ → Regex
  cat : Regex → Regex → Regex
  alt : Regex → Regex → Regex
  star : Regex → Regex
  plus : Regex → Regex
  opt : Regex → Regex

-- zero or more words of the language L, one after the other
pub data Repeat (L : List ℕ → Type 0) : List ℕ → Type 0 where
  none : Repeat L []
  more : {u v : List ℕ} → L u → Repeat L v → Repeat L (u ++ v)

-- `In r w`: the word w, a list of symbol numbers, is in the language of r
abbrev pub In : Regex → List ℕ → Type 0
In (lit a) w = w ≡ a ∷ []
In (cat r s) w = (u : List ℕ) × (v : List ℕ) × (w ≡ u ++ v) × In r u × In s v
In (alt r s) w = In r w ⊎ In s w
In (star r) w = Repeat (In r) w
In (plus r) w = (u : List ℕ) × (v : List ℕ) × (w ≡ u ++ v) × In r u × Repeat (In r) v
In (opt r) w = (w ≡ []) ⊎ In r w

-- "No word of the pattern may be empty": the flag that says whether the empty word is one of them
abbrev pub nullable : Regex → Bool
nullable (lit a) = false
nullable (cat r s) = nullable r && nullable s
nullable (alt r s) = nullable r || nullable s
nullable (star r) = true
nullable (plus r) = nullable r
nullable (opt r) = true

-- "each word must contain, for each variable, a symbol that binds it": the variables, one bit to a variable, that
-- every word binds, where `vars a` are those that the symbol a binds
abbrev pub bound_by : (vars : ℕ → ℕ) → Regex → ℕ
bound_by vars (lit a) = vars a
bound_by vars (cat r s) = join (bound_by vars r) (bound_by vars s)
bound_by vars (alt r s) = meet (bound_by vars r) (bound_by vars s)
bound_by vars (star r) = 0
bound_by vars (plus r) = bound_by vars r
bound_by vars (opt r) = 0
