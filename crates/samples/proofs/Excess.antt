-- "the first excess word, of any form, carries 3": every byte in a fifth variable and in a fifth argument, those that are not ASCII too; "Nothing
-- follows it.": every byte behind the last line; "name already declared": the last of 20 names, which is each of the 19 before it; names of 12 bytes at
-- every place. Computed from the definitions alone.
use mathlib.Core.Path.{◌≡◌, refl}
use mathlib.Core.List.{List, [], ◌∷◌, ◌++◌, map}
use Prim.Native.Nat.{ℕ, ◌+◌}
use lib.ListN.{replicate}
use Rattle.laws.specs.Bits.{bit, join, meet, single}
use Rattle.laws.specs.Lists.{gather, numbers}
use Rattle.form.specs.Text.{Bytes, ascii}
use Rattle.form.specs.Scan.{spaces_end, word_end, name_end, next_word, name_fault, kind_of}
use Rattle.form.specs.Lines.{want_word, kind_from, symbol_from, lines_of}
use Rattle.form.specs.Parse.{item_of, name_atom, closed, alternation_from, pattern_from}
use Rattle.form.specs.Reading.{last_line, match_from, reading_of}
use Rattle.form.specs.Samples.{times, one_text}

-- the number and the place of a text's reading
abbrev told : Bytes → ℕ × ℕ
told s = let o = reading_of s in (o.number, o.place)

-- every byte between two parts of a text
abbrev each : (before behind : Bytes) → List (ℕ × ℕ)
each a z = map (λ b. told (a ++ (b ∷ z))) (numbers 0 256)

-- one answer for LF and the space, behind which no word stands, and one for all other bytes
abbrev but : (other blank : ℕ × ℕ) → List (ℕ × ℕ)
but o l = replicate 10 o ++ (l ∷ replicate 21 o ++ (l ∷ replicate 223 o))

-- alone, behind a letter and before one
abbrev InExcess : Type 0
InExcess =
    (each (ascii "vars a b c d ") (ascii "\n") ≡ but (3, 13) (2, 12))
    × (each (ascii "vars a b c d e") (ascii "\n") ≡ replicate 256 (3, 13))
    × (each (ascii "vars a b c d e") (ascii "e e\nmatch a\n") ≡ replicate 256 (3, 13))
    × (each (ascii "vars\nsym a 1 _ _ _ _ ") (ascii "\n") ≡ but (3, 21) (2, 20))
    × (each (ascii "vars\nsym a 1 _ _ _ _ e") (ascii "\n") ≡ replicate 256 (3, 21))
    × (each (ascii "vars\nsym a 1 _ _ _ _ e") (ascii "e\nmatch a\n") ≡ replicate 256 (3, 21))

abbrev BehindLast : Type 0
BehindLast =
    (each (ascii "vars\nsym a 1\nmatch a\n") [] ≡ replicate 256 (2, 21)) × (each (ascii "vars\nsym a 1\nmatch a\n") (ascii "x\n") ≡ replicate 256 (2, 21))

-- twenty names that differ in the last byte; the last symbol has the name with number k
abbrev named : ℕ → Bytes
named k = 97 ∷ (97 + k) ∷ []

abbrev repeated : ℕ → Bytes
repeated k =
    ascii "vars" ++ (gather (λ i. 32 ∷ named i) (numbers 0 4) ++ (10 ∷ (gather (λ i. ascii "sym " ++ (named i ++ ascii " 1\n")) (numbers 4 15)
    ++ (ascii "sym " ++ (named k ++ ascii " 1\nmatch aa\n")))))

abbrev Repeated : Type 0
Repeated = map (λ k. told (repeated k)) (numbers 0 20) ≡ replicate 19 (4, 156) ++ ((5, 167) ∷ [])

-- "between the tokens of a pattern … spaces are free": no other byte, before a sign neither; so many times each answer
abbrev runs : List (ℕ × ℕ × ℕ) → List (ℕ × ℕ)
runs l = gather (λ (n, a, b). replicate n (a, b)) l

abbrev BeforeSign : Type 0
BeforeSign =
    each (ascii "vars\nsym a 1\nmatch a a") (ascii "*\n")
    ≡ runs ((10, 6, 22) ∷ (1, 2, 23) ∷ (21, 6, 22) ∷ (1, 0, 0) ∷ (7, 6, 22) ∷ (1, 6, 23) ∷ (1, 6, 22) ∷ (2, 0, 0) ∷ (4, 6, 22) ∷ (10, 5, 21)
    ∷ (5, 6, 22) ∷ (1, 0, 0) ∷ (33, 6, 22) ∷ (26, 5, 21) ∷ (1, 6, 22) ∷ (1, 6, 23) ∷ (131, 6, 22) ∷ [])

-- "1 to 12 bytes": as a variable, a symbol, an argument and in the pattern
abbrev Twelve : Type 0
Twelve = told (ascii "vars abcdefghijkl\nsym abcdefghijkm 1 abcdefghijkl\nmatch abcdefghijkm\n") ≡ (0, 0)

-- "A place is the first byte … of the offending … token": a seventeenth parenthesis behind spaces
abbrev Spaced : Type 0
Spaced = map (λ p. told (one_text p)) (times 17 "( " ∷ times 17 "  (" ∷ []) ≡ (3, 51) ∷ (3, 69) ∷ []

-- names are the same only as a whole: a name that an earlier one begins with is another, as is one that begins with an earlier one
abbrev Begun : Type 0
Begun =
    map told (ascii "vars abc ab a\nsym abcd 1 ab abc a\nsym b 2\nmatch abcd b\n" ∷ ascii "vars abc\nsym abcd 1 abc\nsym ab 2\nsym a 3\nmatch abcd ab a\n" ∷ [])
    ≡ (0, 0) ∷ (0, 0) ∷ []

pub any_form : InExcess × BehindLast × Repeated × Twelve × BeforeSign × Spaced × Begun
unfolding spaces_end word_end name_end next_word name_fault kind_of want_word kind_from symbol_from lines_of item_of name_atom closed alternation_from pattern_from last_line
    match_from reading_of bit join meet single
any_form = ((refl, refl, refl, refl, refl, refl), (refl, refl), refl, refl, refl, refl, refl)
