-- What the definitions say of every byte, of every word of digits and of the words of the format, computed from them alone: numbers and bytes are
-- written out here, so that no class of bytes, no printer of numbers and no `ascii` can be another in the grammar, the faults and the reader alike.
use mathlib.Core.Path.{◌≡◌, refl}
use mathlib.Core.Bool.{not}
use mathlib.Core.List.{List, [], ◌∷◌, ◌++◌, map}
use Prim.Native.Nat.{ℕ}
use lib.ListN.{length, drop, replicate}
use Rattle.laws.specs.Bits.{bit, join, meet, single}
use Rattle.laws.specs.Lists.{keep, gather, numbers}
use Rattle.form.specs.Text.{Bytes, ascii, space, lf, is_lower, is_digit, is_name_byte, vars_word, sym_word, match_word, ignored_word, decimal}
use Rattle.form.specs.Phrase.{opening, closing, bar, asterisk, plus_sign, question}
use Rattle.form.specs.Scan.{is_space, is_word_byte, spaces_end, word_end, name_end, next_word, name_fault, kind_of}
use Rattle.form.specs.Lines.{want_word, kind_from, symbol_from, lines_of}
use Rattle.form.specs.Parse.{item_of, name_atom, closed, alternation_from, pattern_from}
use Rattle.form.specs.Reading.{last_line, match_from, reading_of}

-- the words and signs of the format, and all of ASCII that is printed
pub spelled :
    (vars_word ≡ 118 ∷ 97 ∷ 114 ∷ 115 ∷ []) × (sym_word ≡ 115 ∷ 121 ∷ 109 ∷ []) × (match_word ≡ 109 ∷ 97 ∷ 116 ∷ 99 ∷ 104 ∷ []) × (ignored_word ≡ 95 ∷ [])
    × (space ∷ lf ∷ opening ∷ closing ∷ bar ∷ asterisk ∷ plus_sign ∷ question ∷ [] ≡ 32 ∷ 10 ∷ 40 ∷ 41 ∷ 124 ∷ 42 ∷ 43 ∷ 63 ∷ [])
    × (ascii "\n !\"#$%&'()*+,-./0123456789:;<=>?@ABCDEFGHIJKLMNOPQRSTUVWXYZ[\\]^_`abcdefghijklmnopqrstuvwxyz{|}~" ≡ 10 ∷ numbers 32 95)
spelled = (refl, refl, refl, refl, refl, refl)

-- the classes of bytes, and what stands past the end
pub classes :
    (keep is_lower (numbers 0 257) ≡ numbers 97 26) × (keep is_digit (numbers 0 257) ≡ numbers 48 10)
    × (keep is_name_byte (numbers 0 257) ≡ numbers 48 10 ++ numbers 97 26) × (keep is_space (numbers 0 257) ≡ 32 ∷ [])
    × (keep (λ b. not (is_word_byte b)) (numbers 0 257) ≡ 10 ∷ 32 ∷ [])
classes = (refl, refl, refl, refl, refl)

-- 0 to 999 in decimal: the digits from the right, each turning before the one left of it
abbrev digits : Bytes
digits = numbers 48 10

abbrev counted : List Bytes
counted =
    map (λ u. u ∷ []) digits
    ++ (gather (λ t. map (λ u. t ∷ u ∷ []) digits) (drop 1 digits)
    ++ gather (λ h. gather (λ t. map (λ u. h ∷ t ∷ u ∷ []) digits) digits) (drop 1 digits))

pub decimals : map decimal (numbers 0 1000) ≡ counted
unfolding decimal
decimals = refl

pub kinds : map (λ w. kind_of w 0 (length w)) counted ≡ numbers 0 256 ++ replicate 744 0
unfolding kind_of
kinds = refl

-- the number and the place of a text's reading
abbrev told : Bytes → ℕ × ℕ
told s = let o = reading_of s in (o.number, o.place)

-- every byte between two parts of a text
abbrev each : (before behind : Bytes) → List (ℕ × ℕ)
each a z = map (λ b. told (a ++ (b ∷ z))) (numbers 0 256)

-- so many times each answer
abbrev runs : List (ℕ × ℕ × ℕ) → List (ℕ × ℕ)
runs l = gather (λ (n, a, b). replicate n (a, b)) l

-- one answer for LF (10), the space (32), digits (48 to 57) and letters (97 to 122), and one for all others
abbrev told_by : (other lf space digit letter : ℕ × ℕ) → List (ℕ × ℕ)
told_by o l s d a =
    replicate 10 o ++ (l ∷ replicate 21 o ++ (s ∷ replicate 15 o ++ (replicate 10 d ++ (replicate 39 o ++ (replicate 26 a ++ replicate 133 o)))))

-- as the second byte of a variable's name, as the first, and as the second of a symbol's
abbrev InNames : Type 0
InNames =
    (each (ascii "vars a") (10 ∷ []) ≡ told_by (2, 5) (2, 7) (2, 6) (2, 8) (2, 8))
    × (each (ascii "vars ") (10 ∷ []) ≡ told_by (2, 5) (2, 4) (2, 4) (2, 5) (2, 7))
    × (each (ascii "vars\nsym a") (ascii " 1\n") ≡ told_by (2, 9) (2, 10) (2, 11) (2, 14) (2, 14))

-- in a KIND, and as an argument: `_` is 95
abbrev InLines : Type 0
InLines =
    (each (ascii "vars\nsym a 1") (10 ∷ []) ≡ told_by (2, 11) (2, 13) (2, 12) (2, 14) (2, 11))
    × (each (ascii "vars\nsym a 1 ") (10 ∷ [])
    ≡ runs ((10, 2, 13) ∷ (1, 2, 12) ∷ (21, 2, 13) ∷ (1, 2, 12) ∷ (62, 2, 13) ∷ (1, 2, 15) ∷ (1, 2, 13) ∷ (26, 5, 13) ∷ (133, 2, 13) ∷ []))

-- in a pattern, behind the name a and alone: ( is 40, ) 41, * 42, + 43, ? 63, | 124
abbrev InPatterns : Type 0
InPatterns =
    (each (ascii "vars\nsym a 1\nmatch a") (10 ∷ [])
    ≡ runs ((10, 6, 20) ∷ (1, 2, 21) ∷ (21, 6, 20) ∷ (1, 0, 0) ∷ (7, 6, 20) ∷ (1, 6, 21) ∷ (1, 6, 20) ∷ (1, 7, 19) ∷ (1, 0, 0) ∷ (4, 6, 20) ∷ (10, 5, 19)
    ∷ (5, 6, 20) ∷ (1, 7, 19) ∷ (33, 6, 20) ∷ (26, 5, 19) ∷ (1, 6, 20) ∷ (1, 6, 21) ∷ (131, 6, 20) ∷ []))
    × (each (ascii "vars\nsym a 1\nmatch ") (10 ∷ [])
    ≡ runs ((32, 6, 19) ∷ (1, 6, 20) ∷ (7, 6, 19) ∷ (1, 6, 20) ∷ (56, 6, 19) ∷ (1, 0, 0) ∷ (25, 5, 19) ∷ (133, 6, 19) ∷ []))

pub at_places : InNames × InLines × InPatterns
unfolding spaces_end word_end name_end next_word name_fault kind_of want_word kind_from symbol_from lines_of item_of name_atom closed alternation_from pattern_from last_line
    match_from reading_of bit join meet single
at_places = ((refl, refl, refl), (refl, refl), (refl, refl))
