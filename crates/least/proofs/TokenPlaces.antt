-- The tokens of a part of the text, place by place. Where no name goes on over a place, the tokens up to it and those behind it are the
-- tokens of the whole; so over spaces, over a name, over a sign. For PatternFacts.
use mathlib.Core.Path.{◌≡◌, refl, sym, ap, ap₂, ◌∙◌}
use mathlib.Core.Bool.{Bool, true, false, cond, ◌&&◌, ◌||◌, true≢false, and-false}
use mathlib.Core.List.{[], ◌∷◌, ◌++◌, append-nil, append_assoc}
use mathlib.Core.Logic.{⊎_elim}
use Prim.Native.Nat.{ℕ, zero, suc, ◌+◌, ◌-◌, ◌≤◌, ◌<◌}
use native.Mathlib.Nat.{add-zero}
use native.Mathlib.Omega.{arith}
use lib.Dec.{eqb}
use lib.ListN.{length, get_or, take, drop}
use lib.Seq.{drop-cons, drop-drop, get_or-drop, take-add}
use borrow.Author.Tests.{eqb-true}
use Rattle.laws.specs.Lists.{all}
use Rattle.laws.proofs.Lists.{and_true_split, and_false_split, or_false_split}
use Rattle.form.specs.Text.{Bytes, space, is_lower, is_digit, is_name_byte}
use Rattle.form.specs.Tokens.{name, sign, tokens_after, tokens}
use Rattle.form.specs.Scan.{at, past_end, run, is_space, part, spaces_end, name_end}
use Rattle.parsing.proofs.TokenScan.{apart, tokens_apart}
use Rattle.parsing.proofs.Words.{run_split}
use Rattle.parsing.proofs.Scans.{run_step, run_behind, inside_of, name_end_ge}
use Rattle.fault.specs.Places.{in_name, name_at}
use Rattle.least.proofs.Spots.{run_inside}

-- whether a name was begun
abbrev begun : Bytes → Bool
begun [] = false
begun (c ∷ v) = true

-- behind the name begun with w and the bytes l, the bytes m do not go on with a name
abbrev Parted : (w l m : Bytes) → Type 0
Parted w l m = (in_name (begun w) l && is_name_byte (get_or m 0 past_end)) ≡ false

tokens_append : (w l m : Bytes) → Parted w l m → tokens_after w (l ++ m) ≡ tokens_after w l ++ tokens m
tokens_append [] [] m h = refl
tokens_append (c ∷ v) [] [] h = refl
tokens_append (c ∷ v) [] (b ∷ m) h = rw (h, tokens_apart b m (or_false_split (is_lower b) _ h).0)
tokens_append [] (b ∷ l) m h = by (is_lower b) (eqb b space) h (tokens_append (b ∷ []) l m) (tokens_append [] l m)
  where
    by : (t u : Bool) → (in_name t l && is_name_byte (get_or m 0 past_end)) ≡ false
        → (Parted (b ∷ []) l m → tokens_after (b ∷ []) (l ++ m) ≡ tokens_after (b ∷ []) l ++ tokens m)
        → (Parted [] l m → tokens (l ++ m) ≡ tokens l ++ tokens m)
        → cond t (tokens_after (b ∷ []) (l ++ m)) (cond u (tokens (l ++ m)) (sign b ∷ tokens (l ++ m)))
        ≡ cond t (tokens_after (b ∷ []) l) (cond u (tokens l) (sign b ∷ tokens l)) ++ tokens m
    by true u h f g = f h
    by false true h f g = g h
    by false false h f g = ap (λ ts. sign b ∷ ts) (g h)
tokens_append (c ∷ v) (b ∷ l) m h =
    by (is_name_byte b) (eqb b space) h (tokens_append (c ∷ v ++ (b ∷ [])) l m) (tokens_append [] l m)
  where
    longer : Bytes
    longer = c ∷ v ++ (b ∷ [])

    by : (t u : Bool) → (in_name t l && is_name_byte (get_or m 0 past_end)) ≡ false
        → (Parted longer l m → tokens_after longer (l ++ m) ≡ tokens_after longer l ++ tokens m)
        → (Parted [] l m → tokens (l ++ m) ≡ tokens l ++ tokens m)
        → cond t (tokens_after longer (l ++ m)) (name (c ∷ v) ∷ cond u (tokens (l ++ m)) (sign b ∷ tokens (l ++ m)))
        ≡ cond t (tokens_after longer l) (name (c ∷ v) ∷ cond u (tokens l) (sign b ∷ tokens l)) ++ tokens m
    by true u h f g = f h
    by false true h f g = ap (λ ts. name (c ∷ v) ∷ ts) (g h)
    by false false h f g = ap (λ ts. name (c ∷ v) ∷ sign b ∷ ts) (g h)

in_name_append : (o : Bool) (l m : Bytes) → in_name o (l ++ m) ≡ in_name (in_name o l) m
in_name_append o [] m = refl
in_name_append o (b ∷ l) m = in_name_append (cond o (is_name_byte b) (is_lower b)) l m

-- the first bytes of a text begin as it does, or are none
first_parted : (o : Bool) (n : ℕ) (l : Bytes) → (o && is_name_byte (get_or l 0 past_end)) ≡ false
    → (o && is_name_byte (get_or (take n l) 0 past_end)) ≡ false
first_parted true zero l h = refl
first_parted false zero l h = refl
first_parted o (suc n) [] h = h
first_parted o (suc n) (b ∷ l) h = h

-- spaces: no token, and behind them no name goes on
spaces_none : (l : Bytes) → tokens (take (run is_space l) l) ≡ []
spaces_none [] = refl
spaces_none (b ∷ l) = by (is_space b) refl (spaces_none l)
  where
    by : (t : Bool) → is_space b ≡ t → tokens (take (run is_space l) l) ≡ [] → tokens (take (cond t (suc (run is_space l)) 0) (b ∷ l)) ≡ []
    by true e h = rw (eqb-true b space e) h
    by false e h = refl

spaces_parted : (o : Bool) (l : Bytes) → (o && is_name_byte (get_or l 0 past_end)) ≡ false
    → (in_name o (take (run is_space l) l) && is_name_byte (get_or l (run is_space l) past_end)) ≡ false
spaces_parted o [] h = h
spaces_parted o (b ∷ l) h = by (is_space b) refl (spaces_parted false l refl)
  where
    r : ℕ
    r = run is_space l

    spaced : (o : Bool) → is_space b ≡ true → cond o (is_name_byte b) (is_lower b) ≡ false
    spaced true e = ap is_name_byte (eqb-true b space e)
    spaced false e = ap is_lower (eqb-true b space e)

    by : (t : Bool) → is_space b ≡ t → (in_name false (take r l) && is_name_byte (get_or l r past_end)) ≡ false
        → (in_name o (take (cond t (suc r) 0) (b ∷ l)) && is_name_byte (get_or (b ∷ l) (cond t (suc r) 0) past_end)) ≡ false
    by true e g = ap (λ u. in_name u (take r l) && is_name_byte (get_or l r past_end)) (spaced o e) ∙ g
    by false e g = h

-- a name that has begun goes on over its bytes
name_on : (l : Bytes) (n : ℕ) → n ≤ run is_name_byte l → in_name true (take n l) ≡ true
name_on l zero h = refl
name_on [] (suc n) h = refl
name_on (b ∷ l) (suc n) h = by (is_name_byte b) refl h (name_on l n)
  where
    by : (t : Bool) → is_name_byte b ≡ t → suc n ≤ cond t (suc (run is_name_byte l)) 0 → (n ≤ run is_name_byte l → in_name true (take n l) ≡ true)
        → in_name t (take n l) ≡ true
    by true e h g = g (omega arith)
    by false e h g = absurd (omega arith)

-- bytes of a name go on with it, and a name alone is one token
name_all : (c : ℕ) (v l : Bytes) → all is_name_byte l ≡ true → tokens_after (c ∷ v) l ≡ name (c ∷ v ++ l) ∷ []
name_all c v [] h = rw append-nil
name_all c v (b ∷ l) h =
    let a = and_true_split (is_name_byte b) (all is_name_byte l) h in
    rw a.0 (name_all c (v ++ (b ∷ [])) l a.1 ∙ rw append_assoc)

name_first : (l : Bytes) → is_lower (get_or l 0 past_end) ≡ true → tokens (take (run is_name_byte l) l) ≡ name (take (run is_name_byte l) l) ∷ []
name_first [] e = absurd (true≢false (sym e))
name_first (b ∷ l) e =
    let r = run is_name_byte l in
    let n : take (run is_name_byte (b ∷ l)) (b ∷ l) ≡ b ∷ take r l = ap (λ t. take (cond (t || is_digit b) (suc r) 0) (b ∷ l)) e in
    rw n (ap (λ t. cond t (tokens_after (b ∷ []) (take r l)) (apart b (take r l))) e ∙ name_all b [] (take r l) (run_split is_name_byte l).0)

-- two parts, one behind the other
part_split : (s : Bytes) (a p e : ℕ) → a ≤ p → p ≤ e → part s a e ≡ part s a p ++ part s p e
part_split s a p e h l =
    let x : e - a ≡ p - a + (e - p) = omega arith in
    let y : a + (p - a) ≡ p = omega arith in
    ap (λ n. take n (drop a s)) x ∙ take-add (p - a) (e - p) (drop a s) ∙ rw (drop-drop, y)

at_drop : (s : Bytes) (p : ℕ) → get_or (drop p s) 0 past_end ≡ at s p
at_drop s p = get_or-drop p s 0 past_end ∙ rw add-zero

-- the part of a run
part_run : (s : Bytes) (p n : ℕ) → part s p (p + n) ≡ take n (drop p s)
part_run s p n = ap (λ m. take m (drop p s)) {x = p + n - p} {y = n} (omega arith)

part_byte : (s : Bytes) (q : ℕ) → q < length s → part s q (q + 1) ≡ at s q ∷ []
part_byte s q h = part_run s q 1 ∙ rw (drop-cons s q past_end h)

module _ (s : Bytes) where
  pub spaces_bytes : (p q : ℕ) → p ≤ q → q < spaces_end s p → at s q ≡ space
  unfolding spaces_end
  spaces_bytes p q h l =
      let e : p + (q - p) ≡ q = omega arith in
      eqb-true (at s q) space (rw (← e, ← get_or-drop) (run_inside is_space (drop p s) (q - p) (omega arith)))

  name_end_law : (q : ℕ) → is_lower (at s q) ≡ true → name_end s q ≡ q + run is_name_byte (drop q s)
  unfolding name_end
  name_end_law q e = rw e

  pub name_bytes_law : (q r : ℕ) → is_lower (at s q) ≡ true → q ≤ r → r < name_end s q → is_name_byte (at s r) ≡ true
  name_bytes_law q r e h l =
      let x : q + (r - q) ≡ r = omega arith in
      rw (← x, ← get_or-drop) (run_inside is_name_byte (drop q s) (r - q) (omega (arith, name_end_law q e)))

  -- a name alone
  name_only : (q : ℕ) → is_lower (at s q) ≡ true → tokens (name_at s q) ≡ name (name_at s q) ∷ []
  name_only q e =
      let n : name_at s q ≡ take (run is_name_byte (drop q s)) (drop q s) = ap (part s q) (name_end_law q e) ∙ part_run s q _ in
      rw n (name_first (drop q s) (ap is_lower (at_drop s q) ∙ e))

  -- the part of the text from a on
  module _ (a : ℕ) where
    -- no name goes on over the place q
    abbrev pub Apart : ℕ → Type 0
    Apart q = (in_name false (part s a q) && is_name_byte (at s q)) ≡ false

    tokens_part : (p e : ℕ) → a ≤ p → p ≤ e → Apart p → tokens (part s a e) ≡ tokens (part s a p) ++ tokens (part s p e)
    tokens_part p e h l k =
        ap tokens (part_split s a p e h l)
        ∙ tokens_append [] (part s a p) (part s p e) (first_parted (in_name false (part s a p)) (e - p) (drop p s) (rw at_drop k))

    name_over : (p e : ℕ) → a ≤ p → p ≤ e → in_name false (part s a e) ≡ in_name (in_name false (part s a p)) (part s p e)
    name_over p e h l = ap (in_name false) (part_split s a p e h l) ∙ in_name_append false (part s a p) (part s p e)

    pub spaces_tokens : (p : ℕ) → a ≤ p → Apart p → tokens (part s a (spaces_end s p)) ≡ tokens (part s a p)
    unfolding spaces_end
    spaces_tokens p h k =
        let r = run is_space (drop p s) in
        tokens_part p (p + r) h (omega arith) k
        ∙ ap (λ ts. tokens (part s a p) ++ ts) (ap tokens (part_run s p r) ∙ spaces_none (drop p s))
        ∙ append-nil (tokens (part s a p))

    pub spaces_apart : (p : ℕ) → a ≤ p → Apart p → Apart (spaces_end s p)
    unfolding spaces_end
    spaces_apart p h k =
        let r = run is_space (drop p s) in
        let o = in_name false (part s a p) in
        let i : in_name false (part s a (p + r)) ≡ in_name o (take r (drop p s))
        = name_over p (p + r) h (omega arith) ∙ ap (in_name o) (part_run s p r) in
        let b : at s (p + r) ≡ get_or (drop p s) r past_end = sym (get_or-drop p s r past_end) in
        ap₂ (λ n c. n && is_name_byte c) i b ∙ spaces_parted o (drop p s) (rw at_drop k)

    pub name_tokens : (q : ℕ) → a ≤ q → Apart q → is_lower (at s q) ≡ true
        → tokens (part s a (name_end s q)) ≡ tokens (part s a q) ++ (name (name_at s q) ∷ [])
    name_tokens q h k e =
        tokens_part q (name_end s q) h (omega (arith, name_end_ge s q)) k ∙ ap (λ ts. tokens (part s a q) ++ ts) (name_only q e)

    pub name_apart : (q : ℕ) → is_lower (at s q) ≡ true → Apart (name_end s q)
    name_apart q e =
        let r = run is_name_byte (drop q s) in
        let b : at s (name_end s q) ≡ get_or (drop q s) r past_end = ap (at s) (name_end_law q e) ∙ sym (get_or-drop q s r past_end) in
        ap (λ t. in_name false (part s a (name_end s q)) && t) (ap is_name_byte b ∙ run_behind is_name_byte refl (drop q s))
        ∙ and-false (in_name false (part s a (name_end s q)))

    -- inside a name no token begins
    pub name_inside : (q r : ℕ) → a ≤ q → Apart q → is_lower (at s q) ≡ true → q < r → r < name_end s q → Apart r → ⊥
    name_inside q r h k e i j g =
        let n : is_name_byte (at s q) ≡ true = ap (λ t. t || is_digit (at s q)) e in
        let l = inside_of is_lower refl s q e in
        let rest = drop (suc q) s in
        let m = r - suc q in
        let fresh : in_name false (part s a q) ≡ false
        = ⊎_elim (λ f. f) (λ f. absurd (true≢false (sym n ∙ f))) (and_false_split _ (is_name_byte (at s q)) k) in
        let long : m ≤ run is_name_byte rest = omega (arith, name_end_law q e, run_step is_name_byte s q l n) in
        let bytes : part s q r ≡ at s q ∷ take m rest
        = ap (λ n. take n (drop q s)) {x = r - q} {y = suc m} (omega arith) ∙ ap (take (suc m)) (drop-cons s q past_end l) in
        let on : in_name false (part s a r) ≡ true
        = name_over q r h (omega arith) ∙ ap₂ in_name fresh bytes ∙ ap (λ t. in_name t (take m rest)) e ∙ name_on rest m long in
        true≢false (sym (ap₂ ◌&&◌ on (name_bytes_law q r e (omega arith) j)) ∙ g)

    pub sign_tokens : (q : ℕ) → a ≤ q → Apart q → q < length s → is_lower (at s q) ≡ false → is_space (at s q) ≡ false
        → tokens (part s a (q + 1)) ≡ tokens (part s a q) ++ (sign (at s q) ∷ [])
    sign_tokens q h k l e f =
        tokens_part q (q + 1) h (omega arith) k
        ∙ ap (λ ts. tokens (part s a q) ++ ts) (ap tokens (part_byte s q l) ∙ tokens_apart (at s q) [] e ∙ rw f)

    pub sign_apart : (q : ℕ) → a ≤ q → q < length s → is_name_byte (at s q) ≡ false → Apart (q + 1)
    sign_apart q h l e =
        let o = in_name false (part s a q) in
        let i : in_name false (part s a (q + 1)) ≡ cond o (is_name_byte (at s q)) (is_lower (at s q))
        = name_over q (q + 1) h (omega arith) ∙ ap (in_name o) (part_byte s q l) in
        ap (λ t. t && is_name_byte (at s (q + 1))) (i ∙ none o _ _ e (or_false_split (is_lower (at s q)) _ e).0)
      where
        none : (o t u : Bool) → t ≡ false → u ≡ false → cond o t u ≡ false
        none true t u h k = h
        none false t u h k = k
