-- Which tokens begin a pattern, and which are one: a machine that reads them from the left. For the laws of the pattern's course and of
-- its faults (PatternPrefix, PatternCourse, PatternFaults), which go token by token.
use mathlib.Core.Path.{◌≡◌, refl, sym, ap, ◌∙◌}
use mathlib.Core.Bool.{Bool, true, false, cond}
use mathlib.Core.List.{List, [], ◌∷◌, ◌++◌, append_assoc, append-nil}
use mathlib.Core.List.{Memᴰ}
use mathlib.Core.Logic.{◌↔◌, ⊎_elim}
use Prim.Native.Nat.{ℕ, zero, suc, ◌≤◌}
use native.Mathlib.Omega.{arith}
use lib.Dec.{eqb}
use lib.ListN.{length}
use borrow.Author.Tests.{eqb-true}
use Rattle.laws.specs.Lists.{gather}
use Rattle.laws.proofs.Lists.{or_true_split, mem_gather, mem_index, either}
use Rattle.pattern.specs.Regex.{Regex}
use Rattle.form.specs.Text.{Bytes}
use Rattle.form.specs.Tokens.{Token, name, sign}
use Rattle.form.specs.Phrase.{Phrase, Level, item, alternation, opening, closing, bar, asterisk, plus_sign, question}
use Rattle.parsing.proofs.TokenScan.{by_equal}
use Rattle.parsing.proofs.Complete.{is_postfix}
use Rattle.fault.specs.Places.{Pattern, Begins}

-- behind some tokens: one of them cannot stand; or so many parentheses are open, and an item may end here or may not
pub data Stand : Type 0 where
  stuck : Stand
  on : (o : ℕ) (ended : Bool) → Stand

-- behind a closing parenthesis
abbrev pub less_open : ℕ → Stand
less_open zero = stuck
less_open (suc o) = on o true

-- behind a sign, where an item may end
abbrev pub signed : ℕ → ℕ → Stand
signed o b = cond (eqb b bar) (on o false) (cond (is_postfix b) (on o true) (cond (eqb b closing) (less_open o) stuck))

abbrev pub stand : Stand → Token → Stand
stand stuck t = stuck
stand (on o e) (name w) = on o true
stand (on o e) (sign b) = cond (eqb b opening) (on (suc o) false) (cond e (signed o b) stuck)

abbrev pub stand_all : Stand → List Token → Stand
stand_all x [] = x
stand_all x (t ∷ ts) = stand_all (stand x t) ts

unfoldable pub stands : List Token → Stand
stands ts = stand_all (on 0 false) ts

-- first some tokens, then the others; for those who add one token to what was read
pub stand_append : (x : Stand) (ts us : List Token) → stand_all x (ts ++ us) ≡ stand_all (stand_all x ts) us
stand_append x [] us = refl
stand_append x (t ∷ ts) us = stand_append (stand x t) ts us

stuck_stays : (us : List Token) (o : ℕ) (e : Bool) → stand_all stuck us ≡ on o e → ⊥
stuck_stays [] o e h = let z : ◌≡◌ {A = ℕ} 0 1 = cc in omega arith
stuck_stays (t ∷ us) o e h = stuck_stays us o e h

-- a phrase of any level may stand anywhere, since it begins with an atom; behind it an item may end, and it closes what it opens
phrase_stands : {names : List Bytes} {l : Level} {d : ℕ} {ts : List Token} {r : Regex} → Phrase names l d ts r → (o : ℕ) (e : Bool)
    → stand_all (on o e) ts ≡ on o true
phrase_stands (Phrase.symbol h) o e = refl
phrase_stands (Phrase.group {ts = ts} x) o e = rw (stand_append (on (suc o) false) ts _, phrase_stands x (suc o) false)
phrase_stands (Phrase.plain x) o e = phrase_stands x o e
phrase_stands (Phrase.starred {ts = ts} x) o e = rw (stand_append (on o e) ts _, phrase_stands x o e)
phrase_stands (Phrase.plussed {ts = ts} x) o e = rw (stand_append (on o e) ts _, phrase_stands x o e)
phrase_stands (Phrase.optional {ts = ts} x) o e = rw (stand_append (on o e) ts _, phrase_stands x o e)
phrase_stands (Phrase.last x) o e = phrase_stands x o e
phrase_stands (Phrase.then {ts = ts} x y) o e = rw (stand_append (on o e) ts _, phrase_stands x o e) (phrase_stands y o true)
phrase_stands (Phrase.only x) o e = phrase_stands x o e
phrase_stands (Phrase.or {ts = ts} x y) o e = rw (stand_append (on o e) ts _, phrase_stands x o e) (phrase_stands y o false)

-- The other way: tokens over which the machine comes to its end are a pattern. The names are fixed, and the depth goes along with the
-- open parentheses, so that phrases can be put together as they are.
module _ (names : List Bytes) where
  abbrev Whole : ℕ → List Token → Type 0
  Whole d us = (r : Regex) × Phrase names alternation d us r

  -- what stands up to the next parenthesis that closes: an alternation, or what makes one behind any item
  abbrev Piece : ℕ → Bool → List Token → Type 0
  Piece d false us = Whole d us
  Piece d true us = (xs : List Token) (r : Regex) → Phrase names item d xs r → Whole d (xs ++ us)

  -- what is left of a pattern with o parentheses open: a piece, and for each of them its end and a piece. The depth that a piece may
  -- have is one more behind each end.
  abbrev Rest : ℕ → ℕ → Bool → List Token → Type 0
  Rest zero d e us = Piece d e us
  Rest (suc o) d e us = (vs ws : List Token) × Piece d e vs × Rest o (suc d) true ws × (us ≡ vs ++ (sign closing ∷ ws))

  -- tokens before the first piece
  before_rest : (d : ℕ) (e f : Bool) (ts : List Token) → ((vs : List Token) → Piece d e vs → Piece d f (ts ++ vs))
      → (o : ℕ) (us : List Token) → Rest o d e us → Rest o d f (ts ++ us)
  before_rest d e f ts h zero us x = h us x
  before_rest d e f ts h (suc o) us x =
      (ts ++ x.0, x.1, h x.0 x.2, x.3, ap (λ l. ts ++ l) x.4 ∙ sym (append_assoc ts x.0 _))

  -- an item before an alternation goes to its first sequence
  before_whole : (d : ℕ) (ts us : List Token) (r : Regex) → Phrase names item d ts r → Whole d us → Whole d (ts ++ us)
  before_whole d ts us r x (s, Phrase.only y) = (_, Phrase.only (Phrase.then x y))
  before_whole d ts us r x (s, Phrase.or {ts = vs} {us = ws} y z) =
      rw (← (append_assoc ts vs (sign bar ∷ ws))) (_, Phrase.or (Phrase.then x y) z)

  -- an item before a piece that may follow one: such a piece again, or an alternation
  before_item : (d : ℕ) (e : Bool) (ts : List Token) (r : Regex) → Phrase names item d ts r
      → (vs : List Token) → Piece d true vs → Piece d e (ts ++ vs)
  before_item d false ts r x vs y = y ts r x
  before_item d true ts r x vs y = λ us q z. before_whole d us (ts ++ vs) q z (y ts r x)

  -- nothing, `|` with an alternation, or a postfix sign behind an item
  empty_piece : (d : ℕ) → Piece d true []
  empty_piece d xs r x = rw append-nil (r, Phrase.only (Phrase.last x))

  bar_piece : (d : ℕ) (vs : List Token) → Piece d false vs → Piece d true (sign bar ∷ vs)
  bar_piece d vs y xs r x = (_, Phrase.or (Phrase.last x) y.1)

  postfix_item : (d b : ℕ) (xs : List Token) (r : Regex) → is_postfix b ≡ true → Phrase names item d xs r
      → (s : Regex) × Phrase names item d (xs ++ (sign b ∷ [])) s
  postfix_item d b xs r h x =
      ⊎_elim (λ e. rw (eqb-true b asterisk e) (_, Phrase.starred x))
      (λ f. ⊎_elim (λ e. rw (eqb-true b plus_sign e) (_, Phrase.plussed x)) (λ e. rw (eqb-true b question e) (_, Phrase.optional x))
      (or_true_split (eqb b plus_sign) _ f))
      (or_true_split (eqb b asterisk) _ h)

  postfix_piece : (d b : ℕ) → is_postfix b ≡ true → (vs : List Token) → Piece d true vs → Piece d true (sign b ∷ vs)
  postfix_piece d b h vs y xs r x = let z = postfix_item d b xs r h x in rw (← (append_assoc xs (sign b ∷ []) vs)) (y _ z.0 z.1)

  symbol_item : (d : ℕ) (w : Bytes) → Memᴰ w names → (r : Regex) × Phrase names item d (name w ∷ []) r
  symbol_item d w m = let i = mem_index [] m in rw (← i.2) (_, Phrase.plain (Phrase.symbol i.1))

  -- an opening parenthesis: the first piece, its end, and the rest behind it
  group_rest : (o d : ℕ) (e : Bool) (us : List Token) → Rest (suc o) d false us → Rest o (suc d) e (sign opening ∷ us)
  group_rest o d e us x =
      let ts = sign opening ∷ x.0 ++ (sign closing ∷ []) in
      let y : Phrase names item (suc d) ts x.2.0 = Phrase.plain (Phrase.group x.2.1) in
      rw (x.4, ← (append_assoc x.0 (sign closing ∷ []) x.1))
      (before_rest (suc d) true e ts (before_item (suc d) e ts _ y) o x.1 x.3)

  -- the tokens us, read to the end with o parentheses open, are the rest of a pattern; d is enough for those that us opens
  abbrev Reads : List Token → Type 0
  Reads us = (o d : ℕ) (e : Bool) → length us ≤ d → stand_all (on o e) us ≡ on 0 true → Rest o d e us

  closing_rest : (us : List Token) → Reads us → (o d : ℕ) → length us ≤ d → stand_all (less_open o) us ≡ on 0 true
      → Rest o d true (sign closing ∷ us)
  closing_rest us f zero d l h = absurd (stuck_stays us 0 true h)
  closing_rest us f (suc o) d l h = ([], us, empty_piece d, f o (suc d) true (omega arith) h, refl)

  -- the machine's cases for a sign, in its order
  sign_rest : (b : ℕ) (us : List Token) → Reads us → (o d : ℕ) (e : Bool) → suc (length us) ≤ suc d
      → stand_all (stand (on o e) (sign b)) us ≡ on 0 true → Rest o (suc d) e (sign b ∷ us)
  sign_rest b us f o d e l =
      by_equal (Next e) b opening (λ q h. rw q (group_rest o d e us (f (suc o) d false (omega arith) h))) (λ _. behind e)
    where
      Next : Bool → Stand → Type 0
      Next e x = stand_all x us ≡ on 0 true → Rest o (suc d) e (sign b ∷ us)

      n : length us ≤ suc d
      n = omega arith

      behind : (e : Bool) → Next e (cond e (signed o b) stuck)
      behind false = λ h. absurd (stuck_stays us 0 true h)
      behind true = by_equal (Next true) b bar
          (λ q h. rw q (before_rest (suc d) false true (sign bar ∷ []) (bar_piece (suc d)) o us (f o (suc d) false n h)))
          (λ _. either (Next true) (is_postfix b)
          (λ q h. before_rest (suc d) true true (sign b ∷ []) (postfix_piece (suc d) b q) o us (f o (suc d) true n h))
          (λ _. by_equal (Next true) b closing (λ q h. rw q (closing_rest us f o (suc d) n h)) (λ _ h. absurd (stuck_stays us 0 true h))))

  abbrev Named : List Token → Type 0
  Named ts = (w : Bytes) → Memᴰ (name w) ts → Memᴰ w names

  -- by the first token; a name is an item
  reads : (us : List Token) → Named us → Reads us
  reads [] n zero d true l h = empty_piece d
  reads [] n zero d false l h = absurd (let z : ◌≡◌ {A = ℕ} 0 1 = cc in omega arith)
  reads [] n (suc o) d e l h = absurd (let z : ◌≡◌ {A = ℕ} 0 1 = cc in omega arith)
  reads (name w ∷ us) n o d e l h =
      let x = symbol_item d w (n w (Memᴰ.head refl)) in
      before_rest d true e (name w ∷ []) (before_item d e _ x.0 x.1) o us
      (reads us (λ v m. n v (Memᴰ.tail m)) o d true (omega arith) h)
  reads (sign b ∷ us) n o zero e l h = absurd (omega arith)
  reads (sign b ∷ us) n o (suc d) e l h = sign_rest b us (reads us (λ v m. n v (Memᴰ.tail m))) o d e l h

-- the names of tokens
abbrev name_of : Token → List Bytes
name_of (name w) = w ∷ []
name_of (sign b) = []

pub pattern_stands : (ts : List Token) → Pattern ts ↔ (stands ts ≡ on 0 true)
unfolding stands
pattern_stands ts = (
  λ p. phrase_stands p.3 0 false,
  λ h.
      let names = gather name_of ts in
      let x = reads names ts (λ w m. (mem_gather name_of w ts).1 (name w, m, Memᴰ.head refl)) 0 (length ts) false (omega arith) h in
      (names, length ts, x.0, x.1),
)

-- tokens that end a pattern, whatever was read: a name, and an end for each open parenthesis
abbrev ends : ℕ → List Token
ends zero = []
ends (suc o) = sign closing ∷ ends o

ends_stand : (o : ℕ) → stand_all (on o true) (ends o) ≡ on 0 true
ends_stand zero = refl
ends_stand (suc o) = ends_stand o

pub begins_stands : (ts : List Token) → Begins ts ↔ ((o : ℕ) × (e : Bool) × (stands ts ≡ on o e))
unfolding stands
begins_stands ts = (
  λ p. some (stands ts) p.0 (sym (stand_append (on 0 false) ts p.0) ∙ (pattern_stands (ts ++ p.0)).0 p.1),
  λ h.
      let us = name [] ∷ ends h.0 in
      (us, (pattern_stands (ts ++ us)).1 (rw (stand_append (on 0 false) ts us, h.2) (ends_stand h.0))),
)
  where
    some : (x : Stand) (us : List Token) → stand_all x us ≡ on 0 true → (o : ℕ) × (e : Bool) × (x ≡ on o e)
    some stuck us h = absurd (stuck_stays us 0 true h)
    some (on o e) us h = (o, e, refl)
