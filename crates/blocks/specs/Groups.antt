-- Lent words cut into groups of one size, one behind the other. For the blocks of words that hold a book or a state.
use Rattle.std.specs.Prelude.{List, [], ◌∷◌, ℕ, zero, suc, take, drop}

-- so many groups of so many words
abbrev pub groups : (size count : ℕ) → List ℕ → List (List ℕ)
groups k zero w = []
groups k (suc n) w = take k w ∷ groups k n (drop k w)
