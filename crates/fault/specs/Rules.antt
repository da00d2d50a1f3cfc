-- Document 01, Reading, whole: "1 first; then the earliest place; at one place the smaller number; 7, then 8, after everything, placed at
-- the pattern's first token." `Rules s p n`: the place p and the number n are what these rules give for the text s.
use Rattle.std.specs.Prelude.{◌≡◌, false, ◌↔◌, ◌⊎◌, ℕ, ◌+◌, ◌≤◌, ◌<◌, length}
use mathlib.Core.List.{List, [], Memᴰ}
use Rattle.laws.specs.Lists.{any}
use Rattle.pattern.specs.Regex.{Regex, In}
use Rattle.form.specs.Text.{Bytes, match_word, Declarations, header}
use Rattle.form.specs.Limits.{text_limit}
use Rattle.form.specs.Form.{Shape, binds}
use Rattle.form.specs.Scan.{run, is_space}
use Rattle.fault.specs.Fault.{fault_numbers, Least, NoFault}

-- the empty word is a word of the text's pattern
abbrev pub AdmitsEmpty : Bytes → Type 0
AdmitsEmpty s = (d : Declarations) × (r : Regex) × Shape s d r × In r []

-- some word of the text's pattern contains, for some variable, no symbol that binds it
abbrev pub LeavesUnbound : Bytes → Type 0
LeavesUnbound s =
    (d : Declarations) × (r : Regex) × Shape s d r
    × ((v : ℕ) × (w : List ℕ) × (v < length d.variables) × In r w × (any (binds d v) w ≡ false))

pub record Rules (s : Bytes) (p n : ℕ) : Type 0 where
  -- 1 at the limit, iff the text is longer
  pub long : ((n ≡ 1) × (p ≡ text_limit)) ↔ (text_limit < length s)
  -- the number of a fault, iff this is the least fault of a text that is not
  pub fault : (m q : ℕ) → Memᴰ m fault_numbers → ((n ≡ m) × (p ≡ q)) ↔ ((length s ≤ text_limit) × Least s q m)
  -- 7, iff there is no fault and the empty word is admitted
  pub seven : (n ≡ 7) ↔ ((length s ≤ text_limit) × NoFault s × AdmitsEmpty s)
  -- 8, iff none of these and some word leaves a variable unbound
  pub eight : (n ≡ 8) ↔ ((length s ≤ text_limit) × NoFault s × (AdmitsEmpty s → ⊥) × LeavesUnbound s)
  -- 7 and 8 stand at the first token: behind the lines, `match`, a space and the spaces that follow
  pub first : (d : Declarations) (r : Regex) (f : Shape s d r) → (n ≡ 7) ⊎ (n ≡ 8) → p ≡ length (header d) + (length match_word + 1) + run is_space f.written
  -- 0 (at 0) otherwise
  pub none : ((n ≡ 0) × (p ≡ 0)) ↔ ((length s ≤ text_limit) × NoFault s × (AdmitsEmpty s → ⊥) × (LeavesUnbound s → ⊥))
