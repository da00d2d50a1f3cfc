-- The grammar of patterns, rule by rule, with the tree that each rule makes: "An alternation is sequences divided by `|`; a sequence is one or more
-- items; an item is an atom with any number of `*`, `+`, `?` after it; an atom is a name or an alternation in parentheses." Signs are written out
-- as bytes. A text has at most one tree (`unique`), so these are the trees of all patterns; in particular each sign is over all of the item before it.
use mathlib.Core.Path.{◌≡◌, refl, sym, ap, ap₂, ◌∙◌}
use mathlib.Core.List.{List, [], ◌∷◌, ◌++◌, map, append-nil, map-append}
use mathlib.Core.Logic.{◌⊎◌, inl, inr}
use Prim.Native.Nat.{ℕ, suc, ◌<◌}
use lib.ListN.{length, get_or}
use Rattle.pattern.specs.Regex.{Regex, lit, cat, alt, star, plus, opt}
use Rattle.pattern.specs.Positions as Positions
use Rattle.form.specs.Text.{Bytes}
use Rattle.form.specs.Tokens.{Token, name, sign}
use Rattle.form.specs.Phrase.{Level, Phrase, atom, item, sequence, alternation, symbol, group, plain, starred, plussed, optional, last, then, only, or}

module _ {symbols : List Bytes} {d : ℕ} {ts : List Token} {r : Regex} where
  pub atoms : ((a : ℕ) → a < length symbols → Phrase symbols atom d (name (get_or symbols a []) ∷ []) (lit a))
      × (Phrase symbols alternation d ts r → Phrase symbols atom (suc d) (sign 40 ∷ ts ++ (sign 41 ∷ [])) r)
  atoms = (λ a h. symbol h, λ x. group x)

  pub items : (Phrase symbols atom d ts r → Phrase symbols item d ts r)
      × (Phrase symbols item d ts r → Phrase symbols item d (ts ++ (sign 42 ∷ [])) (star r))
      × (Phrase symbols item d ts r → Phrase symbols item d (ts ++ (sign 43 ∷ [])) (plus r))
      × (Phrase symbols item d ts r → Phrase symbols item d (ts ++ (sign 63 ∷ [])) (opt r))
  items = (λ x. plain x, λ x. starred x, λ x. plussed x, λ x. optional x)

  pub sequences : Phrase symbols item d ts r
      → Phrase symbols sequence d ts r
      × ((us : List Token) (q : Regex) → Phrase symbols sequence d us q → Phrase symbols sequence d (ts ++ us) (cat r q))
  sequences x = (last x, λ us q y. then x y)

  pub alternations : Phrase symbols sequence d ts r
      → Phrase symbols alternation d ts r
      × ((us : List Token) (q : Regex) → Phrase symbols alternation d us q → Phrase symbols alternation d (ts ++ (sign 124 ∷ us)) (alt r q))
  alternations x = (only x, λ us q y. or x y)

-- the names among tokens, in their order
abbrev pub names_in : List Token → List Bytes
names_in [] = []
names_in (name w ∷ ts) = w ∷ names_in ts
names_in (sign b ∷ ts) = names_in ts

names_append : (ts us : List Token) → names_in (ts ++ us) ≡ names_in ts ++ names_in us
names_append [] us = refl
names_append (name w ∷ ts) us = ap (w ∷◌) (names_append ts us)
names_append (sign b ∷ ts) us = names_append ts us

-- a sign at the end adds no name
names_signed : (ts : List Token) (b : ℕ) → names_in (ts ++ (sign b ∷ [])) ≡ names_in ts
names_signed ts b = names_append ts (sign b ∷ []) ∙ append-nil (names_in ts)

-- "Number the symbol occurrences from the left": the symbols of a pattern's positions, position 1 first, are the names of its tokens as they stand
pub from_left : {symbols : List Bytes} {k : Level} {d : ℕ} {ts : List Token} {r : Regex} → Phrase symbols k d ts r
    → names_in ts ≡ map (λ a. get_or symbols a []) (Positions.symbols r)
from_left (symbol h) = refl
from_left (group {ts = ts} x) = names_signed ts 41 ∙ from_left x
from_left (plain x) = from_left x
from_left (starred {ts = ts} x) = names_signed ts 42 ∙ from_left x
from_left (plussed {ts = ts} x) = names_signed ts 43 ∙ from_left x
from_left (optional {ts = ts} x) = names_signed ts 63 ∙ from_left x
from_left (last x) = from_left x
from_left (then {ts = ts} {us = us} {r = r} x y) =
    names_append ts us ∙ ap₂ ◌++◌ (from_left x) (from_left y) ∙ sym (map-append _ (Positions.symbols r) _)
from_left (only x) = from_left x
from_left (or {ts = ts} {us = us} {r = r} x y) =
    names_append ts (sign 124 ∷ us) ∙ ap₂ ◌++◌ (from_left x) (from_left y) ∙ sym (map-append _ (Positions.symbols r) _)

-- and there is no other rule: what an atom, an item, a sequence and an alternation are made of
pub only_atoms : {symbols : List Bytes} {d : ℕ} {ts : List Token} {r : Regex} → Phrase symbols atom d ts r
    → ((a : ℕ) × (a < length symbols) × (ts ≡ name (get_or symbols a []) ∷ []) × (r ≡ lit a))
    ⊎ ((e : ℕ) × (us : List Token) × (d ≡ suc e) × (ts ≡ sign 40 ∷ us ++ (sign 41 ∷ [])) × Phrase symbols alternation e us r)
only_atoms (symbol {a = a} h) = inl (a, h, refl, refl)
only_atoms (group {d = e} {ts = us} x) = inr (e, us, refl, refl, x)

pub only_items : {symbols : List Bytes} {d : ℕ} {ts : List Token} {r : Regex} → Phrase symbols item d ts r
    → Phrase symbols atom d ts r
    ⊎ ((us : List Token) × (q : Regex) × Phrase symbols item d us q
    × (((ts ≡ us ++ (sign 42 ∷ [])) × (r ≡ star q)) ⊎ (((ts ≡ us ++ (sign 43 ∷ [])) × (r ≡ plus q)) ⊎ ((ts ≡ us ++ (sign 63 ∷ [])) × (r ≡ opt q)))))
only_items (plain x) = inl x
only_items (starred {ts = us} {r = q} x) = inr (us, q, x, inl (refl, refl))
only_items (plussed {ts = us} {r = q} x) = inr (us, q, x, inr (inl (refl, refl)))
only_items (optional {ts = us} {r = q} x) = inr (us, q, x, inr (inr (refl, refl)))

pub only_sequences : {symbols : List Bytes} {d : ℕ} {ts : List Token} {r : Regex} → Phrase symbols sequence d ts r
    → Phrase symbols item d ts r
    ⊎ ((us : List Token) × (vs : List Token) × (p : Regex) × (q : Regex) × Phrase symbols item d us p × Phrase symbols sequence d vs q
    × (ts ≡ us ++ vs) × (r ≡ cat p q))
only_sequences (last x) = inl x
only_sequences (then {ts = us} {us = vs} {r = p} {s = q} x y) = inr (us, vs, p, q, x, y, refl, refl)

pub only_alternations : {symbols : List Bytes} {d : ℕ} {ts : List Token} {r : Regex} → Phrase symbols alternation d ts r
    → Phrase symbols sequence d ts r
    ⊎ ((us : List Token) × (vs : List Token) × (p : Regex) × (q : Regex) × Phrase symbols sequence d us p × Phrase symbols alternation d vs q
    × (ts ≡ us ++ (sign 124 ∷ vs)) × (r ≡ alt p q))
only_alternations (only x) = inl x
only_alternations (or {ts = us} {us = vs} {r = p} {s = q} x y) = inr (us, vs, p, q, x, y, refl, refl)
