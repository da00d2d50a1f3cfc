-- What stands behind a fault does not change it, and of several spaces it is always the same one: beginnings of texts that end in a faulty word or
-- token, each with all that may follow, the book's end among it. Computed from the definitions alone.
use mathlib.Core.Path.{◌≡◌, refl}
use mathlib.Core.List.{List, [], ◌∷◌, ◌++◌, map}
use Prim.Native.Nat.{ℕ, ◌+◌}
use lib.ListN.{length, drop, replicate}
use Rattle.laws.specs.Bits.{bit, join, meet, single}
use Rattle.laws.specs.Lists.{gather, numbers}
use Rattle.form.specs.Text.{Bytes, ascii}
use Rattle.form.specs.Scan.{spaces_end, word_end, name_end, next_word, name_fault, kind_of}
use Rattle.form.specs.Lines.{want_word, kind_from, symbol_from, lines_of}
use Rattle.form.specs.Parse.{item_of, name_atom, closed, alternation_from, pattern_from}
use Rattle.form.specs.Reading.{last_line, match_from, reading_of}
use Rattle.form.specs.Samples.{times}

-- the number and the place of a text's reading
abbrev told : Bytes → ℕ × ℕ
told s = let o = reading_of s in (o.number, o.place)

-- a text's beginning, and the number and place that it gets whatever follows
abbrev Beginning : Type 0
Beginning = Bytes × ℕ × ℕ

abbrev got : List Beginning → List Bytes → List (ℕ × ℕ)
got bs zs = gather (λ (s, n, p). map (λ z. told (s ++ z)) zs) bs

abbrev due : List Beginning → List Bytes → List (ℕ × ℕ)
due bs zs = gather (λ (s, n, p). replicate (length zs) (n, p)) bs

-- behind a word: nothing, spaces, the line's end, other words and lines
abbrev behind_word : List Bytes
behind_word =
    [] ∷ ascii " " ∷ ascii "  " ∷ ascii "   " ∷ ascii "\n" ∷ ascii " \n" ∷ ascii "  \n" ∷ ascii " x" ∷ ascii "  x" ∷ ascii " 1" ∷ ascii "\n\n" ∷ ascii "\n "
    ∷ ascii "\nmatch a\n" ∷ ascii " a\nsym c 1\nmatch c\n" ∷ []

-- `sym`, a name of one byte, KIND 1: n to z, a to c
abbrev sixteen : Bytes
sixteen = gather (λ b. ascii "sym " ++ (b ∷ ascii " 1\n")) (numbers 110 13 ++ (97 ∷ 98 ∷ 99 ∷ []))

-- each fault of a word
unfoldable pub words : List Beginning
words =
    (ascii "x", 2, 0) ∷ (ascii "var", 2, 0) ∷ (ascii "vars!", 2, 0) ∷ (ascii "match", 2, 0) ∷ (ascii "vars !", 2, 5) ∷ (ascii "vars 1", 2, 5)
    ∷ (ascii "vars a _", 2, 7)
    ∷ (ascii "vars a a", 4, 7) ∷ (ascii "vars abcdefghijklm", 3, 5) ∷ (ascii "vars a b c d e", 3, 13) ∷ (ascii "vars a b c d 1", 3, 13)
    ∷ (ascii "vars a b c d _", 3, 13) ∷ (ascii "vars a b c d a", 3, 13) ∷ (ascii "vars\nx", 2, 5) ∷ (ascii "vars\nsy", 2, 5) ∷ (ascii "vars\n1", 2, 5)
    ∷ (ascii "vars\nmatch", 2, 5) ∷ (ascii "vars\nsym !", 2, 9) ∷ (ascii "vars\nsym 1", 2, 9) ∷ (ascii "vars b\nsym b", 4, 11)
    ∷ (ascii "vars a b c d\nsym d", 4, 17) ∷ (ascii "vars\nsym a 1\nsym b 1\nsym a", 4, 25) ∷ (ascii "vars\nsym abcdefghijklm", 3, 9)
    ∷ (ascii "vars\nsym a 0", 2, 11)
    ∷ (ascii "vars\nsym a x", 2, 11) ∷ (ascii "vars\nsym a 256", 2, 11) ∷ (ascii "vars\nsym a match", 2, 11) ∷ (ascii "vars\nsym a 1 !", 2, 13)
    ∷ (ascii "vars\nsym a 1 1", 2, 13) ∷ (ascii "vars\nsym a 1 b", 5, 13) ∷ (ascii "vars\nsym a 1 a", 5, 13) ∷ (ascii "vars b\nsym a 1 b _ b c", 5, 21)
    ∷ (ascii "vars\nsym a 1 abcdefghijklm", 3, 13) ∷ (ascii "vars b\nsym a 1 b b b abcdefghijklm", 3, 21) ∷ (ascii "vars\nsym a 1 _ _ _ _ _", 3, 21)
    ∷ (ascii "vars\nsym a 1 _ _ _ _ 1", 3, 21) ∷ (ascii "vars\nsym a 1\nx", 2, 13) ∷ (ascii "vars\nsym a 1\nmatc", 2, 13)
    ∷ (ascii "vars\nsym a 1\nmatch(", 2, 13)
    ∷ (ascii "_", 2, 0) ∷ (ascii "1", 2, 0) ∷ (ascii "vars aa aa", 4, 8) ∷ (ascii "vars a b c d aa", 3, 13) ∷ (ascii "vars\n_", 2, 5)
    ∷ (ascii "vars\nsym a _", 2, 11) ∷ (ascii "vars b\nsym a 1 b\nsym 1", 2, 21) ∷ (ascii "vars b\nsym a 1 b\nsym c 0", 2, 23)
    ∷ (ascii "vars b\nsym a 1 b\nsym c 1 !", 2, 25) ∷ (ascii "vars b\nsym a 1 b\nsym c 1 a", 5, 25) ∷ (ascii "vars b\nsym a 1 b\nsym c 1 b b b b b", 3, 33)
    ∷ (ascii "vars\n" ++ (sixteen ++ ascii "sym"), 3, 133) ∷ (ascii "vars\n" ++ (sixteen ++ ascii "sy"), 2, 133) ∷ []

-- behind a token, which it does not carry on
abbrev behind_token : List Bytes
behind_token =
    [] ∷ ascii " " ∷ ascii "  " ∷ ascii "\n" ∷ ascii " \n" ∷ ascii " a\n" ∷ ascii ")\n" ∷ ascii " )" ∷ ascii "|" ∷ ascii "!" ∷ ascii "\n\n" ∷ ascii "*\n"
    ∷ ascii " abcdefghijklm\n" ∷ []

abbrev pattern : Bytes → Bytes
pattern p = ascii "vars\nsym a 1\nmatch " ++ p

-- each fault of a token
unfoldable pub tokens : List Beginning
tokens =
    (pattern (ascii "b"), 5, 19) ∷ (pattern (ascii "(b"), 5, 20) ∷ (pattern (ascii "a|b"), 5, 21) ∷ (pattern (ascii "a b"), 5, 21)
    ∷ (pattern (ascii "a* (b"), 5, 23)
    ∷ (pattern (ascii ")"), 6, 19) ∷ (pattern (ascii "a)"), 6, 20) ∷ (pattern (ascii "a  )"), 6, 22) ∷ (pattern (ascii "(a))"), 6, 22)
    ∷ (pattern (ascii "*"), 6, 19)
    ∷ (pattern (ascii "(*"), 6, 20) ∷ (pattern (ascii "(|"), 6, 20) ∷ (pattern (ascii "()"), 6, 20) ∷ (pattern (ascii "a|*"), 6, 21)
    ∷ (pattern (ascii "a||"), 6, 21)
    ∷ (pattern (ascii "(a|)"), 6, 22) ∷ (pattern (ascii "(a ||"), 6, 23) ∷ (pattern (ascii "a!"), 6, 20) ∷ (pattern (ascii "( !"), 6, 21)
    ∷ (pattern (ascii "a _"), 6, 21)
    ∷ (pattern (ascii "a* 1"), 6, 22) ∷ (pattern (ascii "abcdefghijklm"), 3, 19) ∷ (pattern (ascii "a (abcdefghijklm"), 3, 22)
    ∷ (pattern (times 17 "("), 3, 35)
    ∷ (pattern (times 32 "a "), 3, 81) ∷ (pattern (times 16 "(" ++ ascii "a)(("), 3, 38) ∷ (pattern (ascii "a abcdefghijklm"), 3, 21)
    ∷ (pattern (ascii "(a)  abcdefghijklm"), 3, 24) ∷ []

-- behind a line's end, where a word, a space or a token is missing
abbrev behind_line : List Bytes
behind_line =
    [] ∷ ascii "\n" ∷ ascii "\n\n" ∷ ascii " " ∷ ascii "  " ∷ ascii "   x" ∷ ascii "x" ∷ ascii "1\n" ∷ ascii "sym c 1\n"
    ∷ ascii "match a\n" ∷ ascii "match" ∷ []

unfoldable pub missing : List Beginning
missing =
    (ascii "\n", 2, 0) ∷ (ascii "vars\n\n", 2, 5) ∷ (ascii "vars\nsym\n", 2, 8) ∷ (ascii "vars\nsym a\n", 2, 10) ∷ (ascii "vars\nsym a 1\n\n", 2, 13)
    ∷ (ascii "vars b\nsym a 1 b\nsym c\n", 2, 22) ∷ (ascii "vars\nsym a 1\nmatch\n", 2, 18) ∷ (pattern (ascii "\n"), 6, 19)
    ∷ (pattern (ascii "  \n"), 6, 21)
    ∷ (pattern (ascii "a|\n"), 6, 21) ∷ (pattern (ascii "(a \n"), 6, 22) ∷ (pattern (ascii "(a)(\n"), 6, 23) ∷ (pattern (ascii "a* |\n"), 6, 23)
    ∷ (pattern (ascii "(a*\n"), 6, 22) ∷ []

-- "Nothing follows it.": whatever does is 2 at the byte behind the last line; "a missing LF at the book's end", behind the pattern's spaces
abbrev last_lines : List Beginning
last_lines = (pattern (ascii "a\n"), 2, 21) ∷ (pattern (ascii "a \n"), 2, 22) ∷ []

abbrev Endings : Type 0
Endings =
    (got last_lines (drop 1 behind_line) ≡ due last_lines (drop 1 behind_line))
    × (map (λ p. told (pattern p)) (ascii "a " ∷ ascii "a  " ∷ ascii "(a  " ∷ ascii "a|  " ∷ ascii "a*  " ∷ ascii "   " ∷ [])
    ≡ (2, 21) ∷ (2, 22) ∷ (2, 23) ∷ (2, 23) ∷ (2, 23) ∷ (2, 22) ∷ [])

pub behind_faults :
    (got words behind_word ≡ due words behind_word) × (got tokens behind_token ≡ due tokens behind_token) × (got missing behind_line ≡ due missing behind_line)
    × Endings
unfolding spaces_end word_end name_end next_word name_fault kind_of want_word kind_from symbol_from lines_of item_of name_atom closed alternation_from pattern_from last_line
    match_from reading_of bit join meet single words tokens missing
behind_faults = (refl, refl, refl, (refl, refl))

-- one to four spaces behind a word: before the line's or the book's end the first is one too many, before another word the second
abbrev ended : List (Bytes × ℕ)
ended =
    (ascii "vars", 4) ∷ (ascii "vars a", 6) ∷ (ascii "vars a b c d", 12) ∷ (ascii "vars\nsym", 8) ∷ (ascii "vars\nsym a", 10) ∷ (ascii "vars\nsym a 1", 12)
    ∷ (ascii "vars\nsym a 1 _", 14) ∷ (ascii "vars\nsym a 1 _ _ _ _", 20) ∷ (ascii "vars b\nsym a 1 b\nsym", 20)
    ∷ (ascii "vars b\nsym a 1 b\nsym c", 22) ∷ (ascii "vars b\nsym a 1 b\nsym c 2 b", 26) ∷ []

abbrev lastly : List Bytes
lastly = [] ∷ ascii "\n" ∷ ascii "\n\n" ∷ ascii "\nsym b 1\n" ∷ []

abbrev onward : List Bytes
onward = ascii "b" ∷ ascii "b\n" ∷ ascii "!" ∷ ascii "1" ∷ ascii "_\n" ∷ ascii "match\n" ∷ []

-- so many spaces, from `low` on, between two parts
abbrev apart : (low count : ℕ) → List (Bytes × ℕ) → List Bytes → List (ℕ × ℕ)
apart low count ts zs = gather (λ (t, p). gather (λ k. map (λ z. told (t ++ (replicate k 32 ++ z))) zs) (numbers low count)) ts

abbrev always : (count : ℕ) (place : ℕ → ℕ) → List (Bytes × ℕ) → List Bytes → List (ℕ × ℕ)
always count place ts zs = gather (λ (t, p). gather (λ k. replicate (length zs) (2, place p)) (numbers 0 count)) ts

-- one to three at a line's start: the first
abbrev begun : List (Bytes × ℕ)
begun = ([], 0) ∷ (ascii "vars\n", 5) ∷ (ascii "vars\nsym a 1\n", 13) ∷ (ascii "vars\n" ++ sixteen, 133) ∷ []

abbrev lines : List Bytes
lines = [] ∷ ascii "\n" ∷ ascii "x" ∷ ascii "vars\n" ∷ ascii "sym b 1\n" ∷ ascii "match a\n" ∷ ascii "match" ∷ []

pub spaces :
    (apart 1 4 ended lastly ≡ always 4 (λ p. p) ended lastly)
    × (apart 2 3 ended onward ≡ always 3 (λ p. p + 1) ended onward)
    × (apart 1 3 begun lines ≡ always 3 (λ p. p) begun lines)
unfolding spaces_end word_end name_end next_word name_fault kind_of want_word kind_from symbol_from lines_of item_of name_atom closed alternation_from pattern_from last_line
    match_from reading_of bit join meet single
spaces = (refl, refl, refl)
