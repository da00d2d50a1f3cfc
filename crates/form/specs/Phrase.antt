-- The grammar of patterns, over tokens: "An alternation is sequences divided by `|`; a sequence is one or more items; an
-- item is an atom with any number of `*`, `+`, `?` after it; an atom is a name or an alternation in parentheses."
use Rattle.std.specs.Prelude.{List, [], ◌∷◌, ◌++◌, ℕ, suc, ◌<◌, length, get_or}
use Prim.Native.Char.{code}
use Rattle.pattern.specs.Regex.{Regex, lit, cat, alt, star, plus, opt}
use Rattle.form.specs.Text.{Bytes}
use Rattle.form.specs.Tokens.{Token, name, sign}

-- the signs of a pattern
abbrev pub opening : ℕ
opening = code "("

abbrev pub closing : ℕ
closing = code ")"

abbrev pub bar : ℕ
bar = code "|"

abbrev pub asterisk : ℕ
asterisk = code "*"

abbrev pub plus_sign : ℕ
plus_sign = code "+"

abbrev pub question : ℕ
question = code "?"

pub data Level : Type 0 where
  atom item sequence alternation : Level

-- `Phrase symbols k d ts r`: the tokens ts are a phrase of the level k, whose names are among the declared symbol names,
-- with at most d parentheses open together; r is its tree
pub data Phrase (symbols : List Bytes) : Level → ℕ → List Token → Regex → Type 0 where
  symbol : {d a : ℕ} → a < length symbols → Phrase symbols atom d (name (get_or symbols a []) ∷ []) (lit a)
  group : {d : ℕ} {ts : List Token} {r : Regex} → Phrase symbols alternation d ts r
      → Phrase symbols atom (suc d) (sign opening ∷ ts ++ (sign closing ∷ [])) r
  plain : {d : ℕ} {ts : List Token} {r : Regex} → Phrase symbols atom d ts r → Phrase symbols item d ts r
  starred : {d : ℕ} {ts : List Token} {r : Regex} → Phrase symbols item d ts r → Phrase symbols item d (ts ++ (sign asterisk ∷ [])) (star r)
  plussed : {d : ℕ} {ts : List Token} {r : Regex} → Phrase symbols item d ts r → Phrase symbols item d (ts ++ (sign plus_sign ∷ [])) (plus r)
  optional : {d : ℕ} {ts : List Token} {r : Regex} → Phrase symbols item d ts r → Phrase symbols item d (ts ++ (sign question ∷ [])) (opt r)
  last : {d : ℕ} {ts : List Token} {r : Regex} → Phrase symbols item d ts r → Phrase symbols sequence d ts r
  then : {d : ℕ} {ts us : List Token} {r s : Regex} → Phrase symbols item d ts r → Phrase symbols sequence d us s
      → Phrase symbols sequence d (ts ++ us) (cat r s)
  only : {d : ℕ} {ts : List Token} {r : Regex} → Phrase symbols sequence d ts r → Phrase symbols alternation d ts r
  or : {d : ℕ} {ts us : List Token} {r s : Regex} → Phrase symbols sequence d ts r → Phrase symbols alternation d us s
      → Phrase symbols alternation d (ts ++ (sign bar ∷ us)) (alt r s)
