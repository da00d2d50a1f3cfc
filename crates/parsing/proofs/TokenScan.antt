-- The tokens from a place of a text on: what the next one is, by the byte behind the spaces.
use mathlib.Core.Path.{◌≡◌, refl, sym, ap, ◌∙◌}
use mathlib.Core.Bool.{Bool, true, false, cond, not, ◌||◌, true≢false}
use mathlib.Core.List.{List, [], ◌∷◌, ◌++◌, append_assoc, append-nil}
use Prim.Native.Nat.{ℕ, suc, ◌+◌, ◌-◌, ◌≤◌}
use native.Mathlib.Numerals.{add-one}
use native.Mathlib.Omega.{arith}
use lib.Dec.{eqb, ltb}
use lib.ListN.{length, take, drop, drop_of_length-le}
use lib.Seq.{drop-cons, drop-drop, get_or-drop}
use borrow.Author.Tests.{eqb-true, eqb-false, ltb-true, ltb-false}
use Rattle.laws.proofs.Lists.{or_false_split, either}
use Rattle.form.specs.Text.{Bytes, space, is_lower, is_digit, is_name_byte}
use Rattle.form.specs.Tokens.{Token, name, sign, tokens_after, tokens}
use Rattle.form.specs.Scan.{at, past_end, run, is_space, spaces_end, name_end, part}
use Rattle.parsing.proofs.Scans as Scans
use Rattle.parsing.proofs.Scans.{at_end_law, run_behind}

-- what holds for both results of a comparison
pub by_equal : {A : Type 0} (P : A → Type 0) (m n : ℕ) {x y : A} → (m ≡ n → P x) → ((m ≡ n → ⊥) → P y) → P (cond (eqb m n) x y)
by_equal P m n f g = either P (eqb m n) (λ e. f (eqb-true m n e)) (λ e. g (eqb-false m n e))

-- the tokens from a place on, through all lines: an LF is a sign here
abbrev pub tokens_at : Bytes → ℕ → List Token
tokens_at s p = tokens (drop p s)

-- a byte that no name begins with
abbrev pub apart : ℕ → Bytes → List Token
apart b l = cond (eqb b space) (tokens l) (sign b ∷ tokens l)

pub tokens_apart : (b : ℕ) (l : Bytes) → is_lower b ≡ false → tokens (b ∷ l) ≡ apart b l
tokens_apart b l e = ap (λ t. cond t (tokens_after (b ∷ []) l) (apart b l)) e

-- a name that has begun goes as long as it can
tokens_name : (c : ℕ) (v l : Bytes)
    → tokens_after (c ∷ v) l ≡ name (c ∷ v ++ take (run is_name_byte l) l) ∷ tokens (drop (run is_name_byte l) l)
tokens_name c v [] = rw append-nil
tokens_name c v (b ∷ l) = go (is_name_byte b) refl (tokens_name c (v ++ (b ∷ [])) l)
  where
    r : ℕ
    r = run is_name_byte l

    longer : List Token
    longer = tokens_after (c ∷ v ++ (b ∷ [])) l

    go : (t : Bool) → is_name_byte b ≡ t → longer ≡ name (c ∷ (v ++ (b ∷ [])) ++ take r l) ∷ tokens (drop r l)
        → cond t longer (name (c ∷ v) ∷ apart b l) ≡ name (c ∷ v ++ take (cond t (suc r) 0) (b ∷ l)) ∷ tokens (drop (cond t (suc r) 0) (b ∷ l))
    go true e h = rw (h, append_assoc)
    go false e h = rw (append-nil, tokens_apart b l (or_false_split (is_lower b) _ e).0)

-- spaces are free
tokens_spaces : (l : Bytes) → tokens l ≡ tokens (drop (run is_space l) l)
tokens_spaces [] = refl
tokens_spaces (b ∷ l) = go (is_space b) refl (tokens_spaces l)
  where
    go : (t : Bool) → is_space b ≡ t → tokens l ≡ tokens (drop (run is_space l) l)
        → tokens (b ∷ l) ≡ tokens (drop (cond t (suc (run is_space l)) 0) (b ∷ l))
    go true e h = rw (eqb-true b space e, h)
    go false e h = refl

-- a name from its first letter on
tokens_word : (b : ℕ) (l : Bytes) → is_lower b ≡ true
    → tokens (b ∷ l) ≡ name (take (run is_name_byte (b ∷ l)) (b ∷ l)) ∷ tokens (drop (run is_name_byte (b ∷ l)) (b ∷ l))
tokens_word b l e =
    let n : is_name_byte b ≡ true = ap (λ t. t || is_digit b) e in
    let r : run is_name_byte (b ∷ l) ≡ suc (run is_name_byte l) = ap (λ t. cond t (suc (run is_name_byte l)) 0) n in
    rw r (ap (λ t. cond t (tokens_after (b ∷ []) l) (apart b l)) e ∙ tokens_name b [] l)

name_at_law : (s : Bytes) (q : ℕ) → is_lower (at s q) ≡ true → drop q s ≡ at s q ∷ drop (suc q) s
    → tokens_at s q ≡ name (part s q (name_end s q)) ∷ tokens_at s (name_end s q)
unfolding name_end
name_at_law s q e h =
    let r = run is_name_byte (drop q s) in
    let n : name_end s q ≡ q + r = ap (λ t. cond t (q + r) q) e in
    let m : q + r - q ≡ r = omega arith in
    let k : (l : Bytes) → l ≡ at s q ∷ drop (suc q) s → tokens l ≡ name (take (run is_name_byte l) l) ∷ tokens (drop (run is_name_byte l) l)
    = λ l e2. rw e2 (tokens_word (at s q) (drop (suc q) s) e) in
    rw n (rw (m, ← drop-drop) (k (drop q s) h))

-- a byte stands before the end
pub inside_of : (s : Bytes) (q c : ℕ) → at s q ≡ c → eqb c past_end ≡ false → q + 1 ≤ length s
inside_of s q c e n = omega (arith, Scans.inside_of (λ b. not (eqb b past_end)) refl s q (rw (e, n)))

-- a test of the first token: the answer at a name, and the test of a sign
abbrev pub next_is : Bool → (ℕ → Bool) → List Token → Bool
next_is w f [] = false
next_is w f (name v ∷ ts) = w
next_is w f (sign b ∷ ts) = f b

module _ (s : Bytes) (p : ℕ) where
  -- the place of the next token
  abbrev here : ℕ
  here = spaces_end s p

  pub here_space : is_space (at s here) ≡ false
  unfolding spaces_end
  here_space = rw (← get_or-drop) (run_behind is_space refl (drop p s))

  tokens_here : tokens_at s p ≡ tokens_at s here
  unfolding spaces_end
  tokens_here = rw (← drop-drop) (tokens_spaces (drop p s))

  -- the next token
  pub data Next : Type 0 where
    none : at s here ≡ past_end → tokens_at s p ≡ [] → Next
    word : is_lower (at s here) ≡ true
        → tokens_at s p ≡ name (part s here (name_end s here)) ∷ tokens_at s (name_end s here) → Next
    mark : is_lower (at s here) ≡ false → tokens_at s p ≡ sign (at s here) ∷ tokens_at s (here + 1) → Next

  pub next : Next
  next = go (ltb here (length s)) refl
    where
      byte : drop here s ≡ at s here ∷ drop (suc here) s → (t : Bool) → is_lower (at s here) ≡ t → Next
      byte d true e = word e (tokens_here ∙ name_at_law s here e d)
      byte d false e = mark e (tokens_here ∙ rw (add-one, d, tokens_apart _ (drop (suc here) s) e, here_space))

      go : (t : Bool) → ltb here (length s) ≡ t → Next
      go true e = byte (drop-cons s here past_end (ltb-true _ _ e)) (is_lower (at s here)) refl
      go false e =
          let h = ltb-false here (length s) e in
          none (at_end_law s here h) (tokens_here ∙ ap tokens (drop_of_length-le s h))

  -- by the byte behind the spaces
  pub word_token : is_lower (at s here) ≡ true
      → tokens_at s p ≡ name (part s here (name_end s here)) ∷ tokens_at s (name_end s here)
  word_token e = go next
    where
      go : Next → tokens_at s p ≡ name (part s here (name_end s here)) ∷ tokens_at s (name_end s here)
      go (none f t) = absurd (true≢false (sym e ∙ ap is_lower f))
      go (word f t) = t
      go (mark f t) = absurd (true≢false (sym e ∙ f))

  pub sign_token : (c : ℕ) → is_lower c ≡ false → eqb c past_end ≡ false → at s here ≡ c
      → tokens_at s p ≡ sign c ∷ tokens_at s (here + 1)
  sign_token c l n e = go next
    where
      go : Next → tokens_at s p ≡ sign c ∷ tokens_at s (here + 1)
      go (none f t) = absurd (true≢false (ap (λ b. eqb b past_end) (sym f ∙ e) ∙ n))
      go (word f t) = absurd (true≢false (sym f ∙ ap is_lower e ∙ l))
      go (mark f t) = rw (← e) t

  -- by the token
  pub word_found : {w : Bytes} {us : List Token} → tokens_at s p ≡ name w ∷ us
      → (is_lower (at s here) ≡ true) × (w ≡ part s here (name_end s here)) × (tokens_at s (name_end s here) ≡ us)
  word_found {w} {us} e = go next
    where
      go : Next → (is_lower (at s here) ≡ true) × (w ≡ part s here (name_end s here))
          × (tokens_at s (name_end s here) ≡ us)
      go (none f t) = (cc, cc, cc)
      go (word f t) = (f, cc, cc)
      go (mark f t) = (cc, cc, cc)

  pub sign_found : {b : ℕ} {us : List Token} → tokens_at s p ≡ sign b ∷ us
      → (at s here ≡ b) × (is_lower b ≡ false) × (tokens_at s (here + 1) ≡ us)
  sign_found {b} {us} e = go next
    where
      go : Next → (at s here ≡ b) × (is_lower b ≡ false) × (tokens_at s (here + 1) ≡ us)
      go (none f t) = (cc, cc, cc)
      go (word f t) = (cc, cc, cc)
      go (mark f t) = let h : at s here ≡ b = cc in (h, rw h at f, cc)

  -- a test of the next byte is a test of the next token
  pub next_test : (w : Bool) (f : ℕ → Bool) → ((b : ℕ) → is_lower b ≡ true → f b ≡ w) → f past_end ≡ false
      → f (at s here) ≡ next_is w f (tokens_at s p)
  next_test w f l n = go next
    where
      go : Next → f (at s here) ≡ next_is w f (tokens_at s p)
      go (none e t) = rw (e, t) n
      go (word e t) = rw t (l _ e)
      go (mark e t) = rw t
