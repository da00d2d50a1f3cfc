-- The tokens of a pattern: a name "read as long as it goes", or one byte that is no space; "between the tokens of a
-- pattern, and at its ends, spaces are free".
use Rattle.std.specs.Prelude.{cond, List, [], ◌∷◌, ◌++◌, ℕ, eqb}
use Rattle.form.specs.Text.{Bytes, space, is_lower, is_name_byte}

pub data Token : Type 0 where
  name : Bytes → Token
  sign : ℕ → Token

-- a name that has come to its end, if one was begun
abbrev pub ended : Bytes → List Token → List Token
ended [] ts = ts
ended (b ∷ w) ts = name (b ∷ w) ∷ ts

-- the tokens of a name begun with w and the bytes after it
abbrev pub tokens_after : Bytes → Bytes → List Token
tokens_after w [] = ended w []
tokens_after [] (b ∷ l) =
    let first = tokens_after (b ∷ []) l in
    let apart = tokens_after [] l in
    cond (is_lower b) first (cond (eqb b space) apart (sign b ∷ apart))
tokens_after (c ∷ v) (b ∷ l) =
    let longer = tokens_after ((c ∷ v) ++ (b ∷ [])) l in
    let apart = tokens_after [] l in
    cond (is_name_byte b) longer (name (c ∷ v) ∷ cond (eqb b space) apart (sign b ∷ apart))

abbrev pub tokens : Bytes → List Token
tokens l = tokens_after [] l
