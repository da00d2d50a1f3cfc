-- A tally in three lent 64-bit words: accepted events, refused events, rows.
use Rattle.std.specs.Prelude.{List, [], ◌∷◌, ℕ, get_or}
use Rattle.tally.specs.declared.Tally.{Tally}

-- TALLY_WORDS
abbrev pub tally_size : ℕ
tally_size = 3

unfoldable pub tally_in : List ℕ → Tally
tally_in w = record { accepted = get_or w 0 0; refused = get_or w 1 0; rows = get_or w 2 0 }

unfoldable pub tally_words : Tally → List ℕ
tally_words t = t.accepted ∷ t.refused ∷ t.rows ∷ []
