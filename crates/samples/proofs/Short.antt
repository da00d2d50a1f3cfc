-- All short patterns: every list of up to three of the tokens a ( ) | * + ? ! behind `a (` and before `)`, its reading held to a few lines that follow
-- the tokens from the left. Computed from the definitions alone, so that no pair of tokens may stand, or may not, otherwise.
use mathlib.Core.Path.{◌≡◌, refl}
use mathlib.Core.Bool.{Bool, true, false, cond, ◌||◌}
use mathlib.Core.List.{List, [], ◌∷◌, ◌++◌, map}
use Prim.Native.Nat.{ℕ, zero, suc, ◌+◌, ◌-◌}
use lib.Dec.{eqb, ltb}
use Rattle.laws.specs.Bits.{bit, join, meet, single}
use Rattle.laws.specs.Lists.{gather}
use Rattle.form.specs.Text.{Bytes, ascii}
use Rattle.form.specs.Scan.{spaces_end, word_end, name_end, next_word, name_fault, kind_of}
use Rattle.form.specs.Lines.{want_word, kind_from, symbol_from, lines_of}
use Rattle.form.specs.Parse.{item_of, name_atom, closed, alternation_from, pattern_from}
use Rattle.form.specs.Reading.{last_line, match_from, reading_of}

-- the number and the place of a text's reading
abbrev told : Bytes → ℕ × ℕ
told s = let o = reading_of s in (o.number, o.place)

-- every list of n of the tokens
abbrev lists : ℕ → List Bytes
lists zero = [] ∷ []
lists (suc n) = gather (λ l. map (λ b. b ∷ l) (ascii "a()|*+?!")) (lists n)

-- `a (`, the tokens, `)`: in words of the pattern a stands first, so none is empty
abbrev whole : Bytes → Bytes
whole l = ascii "a(" ++ (l ++ ascii ")")

-- a text with the tokens, a space behind each
abbrev written : Bytes → Bytes
written l = ascii "vars\nsym a 1\nmatch " ++ (gather (λ b. b ∷ 32 ∷ []) l ++ ascii "\n")

-- what they get, from the token at p on: so many parentheses are open, and an item must come or may
abbrev judged : (opened p : ℕ) → (wanting : Bool) → Bytes → ℕ × ℕ
judged d p w [] = cond (w || ltb 0 d) (6, p) (0, 0)
judged d p w (b ∷ l) =
    let item = judged d (p + 2) false l in
    let opening = judged (suc d) (p + 2) true l in
    let closing = judged (d - 1) (p + 2) false l in
    let bar = judged d (p + 2) true l in
    let here : ℕ × ℕ = (6, p) in
    let sign = cond (eqb b 42 || eqb b 43 || eqb b 63) item here in
    let behind = cond (eqb b 41) (cond (eqb d 0) here closing) (cond (eqb b 124) bar sign) in
    cond (eqb b 97) item (cond (eqb b 40) opening (cond w here behind))

abbrev short : List Bytes
short = map whole (lists 0 ++ (lists 1 ++ (lists 2 ++ lists 3)))

pub short_patterns : map (λ l. told (written l)) short ≡ map (judged 0 19 true) short
unfolding spaces_end word_end name_end next_word name_fault kind_of want_word kind_from symbol_from lines_of item_of name_atom closed alternation_from pattern_from last_line
    match_from reading_of bit join meet single
short_patterns = refl
