-- Tokens of bytes, and phrases over tokens: how many tokens there are, where an LF stands among them, and what a phrase begins with.
use mathlib.Core.Path.{◌≡◌, refl, sym, ap, ◌∙◌}
use mathlib.Core.Bool.{Bool, true, false, cond, ◌||◌, true≢false, false≢true}
use mathlib.Core.List.{List, [], ◌∷◌, ◌++◌, append_assoc}
use Prim.Native.Nat.{ℕ, suc, ◌+◌, ◌≤◌}
use native.Mathlib.Omega.{arith}
use lib.Dec.{eqb}
use lib.ListN.{length}
use borrow.Author.Tests.{eqb-true, ne_eqb}
use Rattle.laws.specs.Lists.{any}
use Rattle.laws.proofs.Lists.{any_append, either}
use Rattle.pattern.specs.Regex.{Regex}
use Rattle.form.specs.Text.{Bytes, space, lf, is_lower, is_digit, is_name_byte}
use Rattle.form.specs.Tokens.{Token, name, sign, ended, tokens_after, tokens}
use Rattle.form.specs.Phrase.{Phrase, Level, opening, closing, bar, asterisk, plus_sign, question}
use Rattle.form.specs.Parse.{begins_item}
use Rattle.parsing.proofs.TokenScan.{next_is, apart}

-- a test of signs, and whether the token is an LF
abbrev pub sign_is : (ℕ → Bool) → Token → Bool
sign_is f (name w) = false
sign_is f (sign b) = f b

abbrev pub is_lf : Token → Bool
is_lf = sign_is (eqb lf)

cond_append : (t : Bool) (x' y' z : List Token) {x y : List Token} → x ≡ x' ++ z → y ≡ y' ++ z → cond t x y ≡ cond t x' y' ++ z
cond_append true x' y' z e f = e
cond_append false x' y' z e f = f

-- an LF ends a name, and is a token
pub tokens_lf : (w l : Bytes) → tokens_after w (l ++ (lf ∷ [])) ≡ tokens_after w l ++ (sign lf ∷ [])
tokens_lf [] [] = refl
tokens_lf (c ∷ v) [] = refl
tokens_lf [] (b ∷ l) =
    let h = tokens_lf [] l in
    cond_append (is_lower b) _ _ _ (tokens_lf (b ∷ []) l) (cond_append (eqb b space) _ _ _ h (ap (λ ts. sign b ∷ ts) h))
tokens_lf (c ∷ v) (b ∷ l) =
    let h = tokens_lf [] l in
    cond_append (is_name_byte b) _ _ _ (tokens_lf (c ∷ v ++ (b ∷ [])) l)
    (ap (λ ts. name (c ∷ v) ∷ ts) (cond_append (eqb b space) _ _ _ h (ap (λ ts. sign b ∷ ts) h)))

-- a test that fails bytes of names and spaces finds among the tokens what it finds among the bytes
module _ (f : ℕ → Bool) (no_name_law : (b : ℕ) → is_name_byte b ≡ true → f b ≡ false) (no_space_law : f space ≡ false) where
  apart_signs : (b : ℕ) (l : Bytes) → any (sign_is f) (tokens l) ≡ any f l → any (sign_is f) (apart b l) ≡ any f (b ∷ l)
  apart_signs b l h = either (λ ts. any (sign_is f) ts ≡ any f (b ∷ l)) (eqb b space) (λ e. rw (eqb-true b space e, no_space_law, h)) (λ _. rw h)

  pub tokens_signs : (w l : Bytes) → any (sign_is f) (tokens_after w l) ≡ any f l
  tokens_signs [] [] = refl
  tokens_signs (c ∷ v) [] = refl
  tokens_signs [] (b ∷ l) = either (λ ts. any (sign_is f) ts ≡ any f (b ∷ l)) (is_lower b)
      (λ e. tokens_signs (b ∷ []) l ∙ rw (no_name_law b (ap (λ t. t || is_digit b) e))) (λ _. apart_signs b l (tokens_signs [] l))
  tokens_signs (c ∷ v) (b ∷ l) = either (λ ts. any (sign_is f) ts ≡ any f (b ∷ l)) (is_name_byte b)
      (λ e. tokens_signs (c ∷ v ++ (b ∷ [])) l ∙ rw (no_name_law b e)) (λ _. apart_signs b l (tokens_signs [] l))

-- an LF among the tokens is one among the bytes
pub tokens_lines : (w l : Bytes) → any is_lf (tokens_after w l) ≡ any (eqb lf) l
tokens_lines = tokens_signs (eqb lf) (λ b e. ne_eqb lf b (λ f. true≢false (sym e ∙ ap is_name_byte (sym f)))) refl

-- at most as many tokens as bytes, and one for a name begun before
apart_length : (b : ℕ) (l : Bytes) → length (tokens l) ≤ length l → length (apart b l) ≤ suc (length l)
apart_length b l h = either (λ ts. length ts ≤ suc (length l)) (eqb b space) (λ _. omega arith) (λ _. omega arith)

pub tokens_length : (w l : Bytes) → length (tokens_after w l) ≤ length (ended w []) + length l
tokens_length [] [] = omega arith
tokens_length (c ∷ v) [] = omega arith
tokens_length [] (b ∷ l) = either (λ ts. length ts ≤ 0 + suc (length l)) (is_lower b) (λ _. omega (arith, tokens_length (b ∷ []) l))
    (λ _. omega (arith, apart_length b l (omega (arith, tokens_length [] l))))
tokens_length (c ∷ v) (b ∷ l) = either (λ ts. length ts ≤ 1 + suc (length l)) (is_name_byte b)
    (λ _. omega (arith, tokens_length (c ∷ v ++ (b ∷ [])) l))
    (λ _. omega (arith, apart_length b l (omega (arith, tokens_length [] l))))

module _ {symbols : List Bytes} where
  -- a phrase begins with a name or `(`
  pub phrase_begins : {l : Level} {d : ℕ} {ts : List Token} {r : Regex} → Phrase symbols l d ts r → (us : List Token)
      → next_is true begins_item (ts ++ us) ≡ true
  phrase_begins (Phrase.symbol h) us = refl
  phrase_begins (Phrase.group x) us = refl
  phrase_begins (Phrase.plain x) us = phrase_begins x us
  phrase_begins (Phrase.starred x) us = rw append_assoc (phrase_begins x _)
  phrase_begins (Phrase.plussed x) us = rw append_assoc (phrase_begins x _)
  phrase_begins (Phrase.optional x) us = rw append_assoc (phrase_begins x _)
  phrase_begins (Phrase.last x) us = phrase_begins x us
  phrase_begins (Phrase.then x y) us = rw append_assoc (phrase_begins x _)
  phrase_begins (Phrase.only x) us = phrase_begins x us
  phrase_begins (Phrase.or x y) us = rw append_assoc (phrase_begins x _)

  pub phrase_some : {l : Level} {d : ℕ} {ts : List Token} {r : Regex} → Phrase symbols l d ts r → 1 ≤ length ts
  phrase_some {ts} x = go ts (phrase_begins x [])
    where
      go : (ts : List Token) → next_is true begins_item (ts ++ []) ≡ true → 1 ≤ length ts
      go [] h = absurd (false≢true h)
      go (t ∷ ts) h = omega arith

  -- a test that fails the signs of the grammar finds none
  module _ (f : ℕ → Bool) (no : (f opening ≡ false) × (f closing ≡ false) × (f bar ≡ false)
      × (f asterisk ≡ false) × (f plus_sign ≡ false) × (f question ≡ false)) where
    pub phrase_signs : {l : Level} {d : ℕ} {ts : List Token} {r : Regex} → Phrase symbols l d ts r → any (sign_is f) ts ≡ false
    phrase_signs (Phrase.symbol h) = refl
    phrase_signs (Phrase.group {ts = ts} x) = rw (any_append (sign_is f) ts _, phrase_signs x, no.0, no.1)
    phrase_signs (Phrase.plain x) = phrase_signs x
    phrase_signs (Phrase.starred {ts = ts} x) = rw (any_append (sign_is f) ts _, phrase_signs x, no.3)
    phrase_signs (Phrase.plussed {ts = ts} x) = rw (any_append (sign_is f) ts _, phrase_signs x, no.4)
    phrase_signs (Phrase.optional {ts = ts} x) = rw (any_append (sign_is f) ts _, phrase_signs x, no.5)
    phrase_signs (Phrase.last x) = phrase_signs x
    phrase_signs (Phrase.then {ts = ts} x y) = rw (any_append (sign_is f) ts _, phrase_signs x, phrase_signs y)
    phrase_signs (Phrase.only x) = phrase_signs x
    phrase_signs (Phrase.or {ts = ts} x y) = rw (any_append (sign_is f) ts _, phrase_signs x, no.2, phrase_signs y)

  -- it lies within a line
  pub phrase_line : {l : Level} {d : ℕ} {ts : List Token} {r : Regex} → Phrase symbols l d ts r → any is_lf ts ≡ false
  phrase_line = phrase_signs (eqb lf) (refl, refl, refl, refl, refl, refl)
