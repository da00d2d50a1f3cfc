-- Limits met together, and names with digits inside: computed from the definitions alone.
use mathlib.Core.Path.{◌≡◌, refl}
use mathlib.Core.List.{[], ◌∷◌, ◌++◌, map}
use Prim.Native.Nat.{ℕ, ◌+◌}
use lib.ListN.{replicate}
use Rattle.laws.specs.Bits.{bit, join, meet, single}
use Rattle.laws.specs.Lists.{gather, numbers}
use Rattle.form.specs.Text.{Bytes, ascii}
use Rattle.form.specs.Scan.{spaces_end, word_end, name_end, next_word, name_fault, kind_of}
use Rattle.form.specs.Lines.{want_word, kind_from, symbol_from, lines_of}
use Rattle.form.specs.Parse.{item_of, name_atom, closed, alternation_from, pattern_from}
use Rattle.form.specs.Reading.{last_line, match_from, reading_of}
use Rattle.form.specs.Samples.{times, one_text}

-- the number and the place of a text's reading
abbrev told : Bytes → ℕ × ℕ
told s = let o = reading_of s in (o.number, o.place)

-- twenty names that differ in the last byte
abbrev named : ℕ → Bytes
named k = 97 ∷ (97 + k) ∷ []

abbrev spread : (first count : ℕ) → Bytes
spread k n = gather (λ i. ascii " " ++ named i) (numbers k n)

-- four variables; so many symbols of KIND 255 with four arguments; 31 occurrences, 16 parentheses open together
abbrev largest : (symbols : ℕ) → Bytes
largest n =
    ascii "vars" ++ (spread 0 4 ++ (10 ∷ (gather (λ i. ascii "sym " ++ (named i ++ (ascii " 255" ++ (spread 0 4 ++ (10 ∷ []))))) (numbers 4 n)
    ++ (ascii "match " ++ (times 16 "(" ++ (named 4 ++ (times 16 ")" ++ (spread 5 15 ++ (spread 4 15 ++ (10 ∷ []))))))))))

abbrev Largest : Type 0
Largest =
    map told (largest 16 ∷ largest 17 ∷ []) ≡ (0, 0) ∷ (3, 385) ∷ []

-- "open together": side by side inside one, in the parts of an alternation, sixteen twice; a seventeenth behind closed ones
abbrev Groups : Type 0
Groups =
    map (λ p. told (one_text p))
    ((ascii "(" ++ (times 17 "(a)" ++ ascii ")")) ∷ (times 17 "(a)|" ++ ascii "a") ∷ (ascii "(" ++ (times 17 "(a)|" ++ ascii "a)"))
    ∷ (times 16 "(" ++ (ascii "a" ++ (times 16 ")" ++ (times 16 "(" ++ (ascii "a" ++ times 16 ")")))))
    ∷ (ascii "(a|" ++ (times 15 "(" ++ (ascii "a" ++ times 16 ")"))) ∷ (times 16 "(" ++ ascii "a)(a)((") ∷ [])
    ≡ replicate 5 (0, 0) ++ ((3, 41) ∷ [])

-- "a to z, then a to z or 0 to 9": letters behind digits; every byte behind a digit
abbrev Digits : Type 0
Digits =
    (map told (ascii "vars a1b\nsym x9y0z 1 a1b\nmatch x9y0z x9y0z+\n" ∷ ascii "vars a1b a1c\nsym x9 1 a1c a1b\nmatch x9x9|x9\n" ∷ []) ≡ (0, 0) ∷ (5, 36) ∷ [])
    × (map (λ b. told (ascii "vars a1" ++ (b ∷ 10 ∷ []))) (numbers 0 256)
    ≡ replicate 10 (2, 5) ++ ((2, 8) ∷ replicate 21 (2, 5) ++ ((2, 7) ∷ replicate 15 (2, 5) ++ (replicate 10 (2, 9) ++ (replicate 39 (2, 5)
    ++ (replicate 26 (2, 9) ++ replicate 133 (2, 5)))))))

pub together : Largest × Groups × Digits
unfolding spaces_end word_end name_end next_word name_fault kind_of want_word kind_from symbol_from lines_of item_of name_atom closed alternation_from pattern_from last_line
    match_from reading_of bit join meet single
together = (refl, refl, (refl, refl))
