-- Every list of up to three signs behind a name and behind a group, with and without spaces: "an item is an atom with any number of `*`, `+`, `?`
-- after it", each sign over all of the item before it. Trees, computed from the definitions alone: no program compares those of two signs in a row.
use mathlib.Core.Path.{◌≡◌, refl}
use mathlib.Core.Bool.{cond}
use mathlib.Core.List.{List, [], ◌∷◌, ◌++◌, map}
use Prim.Native.Nat.{ℕ, zero, suc}
use lib.Dec.{eqb}
use Rattle.laws.specs.Bits.{bit, join, meet, single}
use Rattle.laws.specs.Lists.{gather}
use Rattle.pattern.specs.Regex.{Regex, lit, cat, star, plus, opt}
use Rattle.form.specs.Text.{Bytes, ascii}
use Rattle.form.specs.Scan.{spaces_end, word_end, name_end, next_word, name_fault, kind_of}
use Rattle.form.specs.Lines.{want_word, kind_from, symbol_from, lines_of}
use Rattle.form.specs.Parse.{item_of, name_atom, closed, alternation_from, pattern_from}
use Rattle.form.specs.Reading.{last_line, match_from, reading_of}
use Rattle.form.specs.Samples.{one_text}

-- every list of n signs
abbrev lists : ℕ → List Bytes
lists zero = [] ∷ []
lists (suc n) = gather (λ l. map (λ b. b ∷ l) (42 ∷ 43 ∷ 63 ∷ [])) (lists n)

abbrev up_to_three : List Bytes
up_to_three = lists 0 ++ (lists 1 ++ (lists 2 ++ lists 3))

-- the tree of an item with the signs behind it
abbrev signed : Regex → Bytes → Regex
signed r [] = r
signed r (b ∷ l) = signed (cond (eqb b 42) (star r) (cond (eqb b 43) (plus r) (opt r))) l

-- number and tree of a pattern's reading
abbrev told : Bytes → ℕ × Regex
told p = let o = reading_of (one_text p) in (o.number, o.tree)

-- `a`, then an item with the signs: in its words a stands first, so none is empty
abbrev wanted : List (ℕ × Regex)
wanted = map (λ l. (0, cat (lit 0) (signed (lit 0) l))) up_to_three

pub several_signs :
    (map (λ l. told (ascii "a a" ++ l)) up_to_three ≡ wanted)
    × (map (λ l. told (ascii "a(a)" ++ l)) up_to_three ≡ wanted)
    × (map (λ l. told (ascii "a a" ++ gather (λ b. 32 ∷ b ∷ []) l)) up_to_three ≡ wanted)
unfolding spaces_end word_end name_end next_word name_fault kind_of want_word kind_from symbol_from lines_of item_of name_atom closed alternation_from pattern_from last_line
    match_from reading_of bit join meet single
several_signs = (refl, refl, refl)
