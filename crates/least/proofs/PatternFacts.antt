-- What is known where a prefix of the pattern ends: no fault stands before it, and what its tokens are. By PatternPrefix, token by token.
-- For PatternFaults.
use mathlib.Core.Path.{◌≡◌, refl, sym, ap, subst, ◌∙◌}
use mathlib.Core.Bool.{Bool, true, false, cond, true≢false}
use mathlib.Core.List.{List, [], ◌∷◌, ◌++◌}
use mathlib.Core.Logic.{⊎_elim, dite}
use Prim.Native.Nat.{ℕ, suc, ◌+◌, ◌-◌, ◌≤◌, ◌<◌}
use native.Mathlib.Omega.{arith}
use native.Mathlib.Decide.{dec_lt}
use borrow.Author.Tests.{eqb-true, eqb-false}
use lib.Dec.{eqb}
use lib.ListN.{length, take, drop, length-append, length-drop}
use lib.Seq.{length-take-le}
use Rattle.laws.specs.Lists.{keep}
use Rattle.laws.proofs.Lists.{or_true_split, keep_append, or_false_split}
use Rattle.form.specs.Text.{Bytes, space, lf, is_lower, is_name_byte, Span}
use Rattle.form.specs.Tokens.{Token, name, sign, tokens}
use Rattle.form.specs.Phrase.{opening, closing, bar, asterisk, plus_sign, question}
use Rattle.form.specs.Scan.{at, past_end, is_space, part, spaces_end, name_end}
use Rattle.form.specs.Lines.{index_of}
use Rattle.parsing.proofs.Complete.{is_postfix}
use Rattle.parsing.proofs.Scans.{spaces_end_le, spaces_end_ge, name_end_le, name_end_ge}
use Rattle.parsing.proofs.TokenScan.{inside_of}
use Rattle.fault.specs.Places.{spot_at, On, TokenAt, before, name_at, token_at, is_name, is_sign, occurrences, signs, Begins}
use Rattle.fault.specs.Fault
use Rattle.fault.specs.Fault.{TokenFault, Fault}
use Rattle.least.proofs.Stands.{Stand, on, stand, stands, stand_append, begins_stands}
use Rattle.least.proofs.Spots.{word_spot}
use Rattle.least.proofs.Sites.{Clean, match_end}
use Rattle.least.proofs.HeaderPrefix.{Ready}
use Rattle.least.proofs.PatternPrefix.{PatternPrefix}
use Rattle.least.proofs.TokenPlaces.{Apart, spaces_bytes, spaces_tokens, spaces_apart}
use Rattle.least.proofs.TokenPlaces.{name_bytes_law, name_tokens, name_apart, name_inside, sign_tokens, sign_apart}
use Rattle.least.proofs.PatternSites.{Here, no_space, token, no_token, no_lf, same_line, line_fault, clean_over}

-- one token more
stands_none : stands [] ≡ on 0 false
unfolding stands
stands_none = refl

pub stands_more : (ts : List Token) (t : Token) → stands (ts ++ (t ∷ [])) ≡ stand (stands ts) t
unfolding stands
stands_more ts t = stand_append (on 0 false) ts (t ∷ [])

count_more : (f : Token → Bool) (ts : List Token) (t : Token)
    → length (keep f (ts ++ (t ∷ []))) ≡ length (keep f ts) + length (keep f (t ∷ []))
count_more f ts t = ap length (keep_append f ts (t ∷ [])) ∙ length-append (keep f ts) (keep f (t ∷ []))

-- the sign c can stand with o open, and leaves o' open; it is no byte of a name, no space, no LF and not past the end
record Sign (o : ℕ) (d : Bool) (c o' : ℕ) (d' : Bool) : Type 0 where
  plain : (is_name_byte c ≡ false) × (is_space c ≡ false) × (eqb c lf ≡ false) × (eqb c past_end ≡ false)
  few : c ≡ opening → o < 16
  fits : stand (on o d) (sign c) ≡ on o' d'
  count : o + signs opening (sign c ∷ []) ≡ o' + signs closing (sign c ∷ [])

opening_sign : (o : ℕ) (d : Bool) → o < 16 → Sign o d opening (suc o) false
opening_sign o d h = record { plain = (refl, refl, refl, refl); few = λ _. h; fits = refl; count = omega arith }

closing_sign : (o : ℕ) → Sign (suc o) true closing o true
closing_sign o = record { plain = (refl, refl, refl, refl); few = λ z. absurd (omega arith); fits = refl; count = omega arith }

bar_sign : (o : ℕ) → Sign o true bar o false
bar_sign o = record { plain = (refl, refl, refl, refl); few = λ z. absurd (omega arith); fits = refl; count = refl }

postfix_sign : (o c : ℕ) → is_postfix c ≡ true → Sign o true c o true
postfix_sign o c h = ⊎_elim starred (λ i. ⊎_elim plussed optional (or_true_split (eqb c plus_sign) _ i)) (or_true_split (eqb c asterisk) _ h)
  where
    by : (b : ℕ) → eqb c b ≡ true → Sign o true b o true → Sign o true c o true
    by b e x = subst (λ r. Sign o true r o true) (sym (eqb-true c b e)) x

    starred : eqb c asterisk ≡ true → Sign o true c o true
    starred e = by asterisk e (record { plain = (refl, refl, refl, refl); few = λ z. absurd (omega arith); fits = refl; count = refl })

    plussed : eqb c plus_sign ≡ true → Sign o true c o true
    plussed e = by plus_sign e (record { plain = (refl, refl, refl, refl); few = λ z. absurd (omega arith); fits = refl; count = refl })

    optional : eqb c question ≡ true → Sign o true c o true
    optional e = by question e (record { plain = (refl, refl, refl, refl); few = λ z. absurd (omega arith); fits = refl; count = refl })

pub name_length : (s : Bytes) (q : ℕ) → q ≤ length s → length (name_at s q) ≡ name_end s q - q
name_length s q h = length-take-le (name_end s q - q) _ (omega (arith, length-drop q s, name_end_le s q h))

module _ (s : Bytes) (symbols : List Span) (e : ℕ) (ready : Ready s symbols e) where
  -- the pattern's line, the place of its word `match`, and the pattern's first place
  abbrev k : ℕ
  k = ready.k

  abbrev w : ℕ
  w = ready.p

  abbrev a : ℕ
  a = w + 6

  -- what is known at p: all tokens before it can stand, o parentheses are open, d says whether an item may end here, n names were read
  pub record PatternFacts (p o : ℕ) (d : Bool) (n : ℕ) : Type 0 where
    pub inside : p ≤ length s
    pub beyond : a ≤ p
    pub on : On s k p
    pub apart : Apart s a p
    pub clean : Clean s p
    pub stand : stands (before s w p) ≡ Stand.on o d
    pub names : occurrences (before s w p) ≡ n
    pub opened : signs opening (before s w p) ≡ o + signs closing (before s w p)

  pub facts_spaces : (p o : ℕ) (d : Bool) (n : ℕ) → PatternFacts p o d n → PatternFacts (spaces_end s p) o d n
  facts_spaces p o d n x =
      let i = spaces_end_le s p x.inside in
      let t = spaces_tokens s a p x.beyond x.apart in
      let c = clean_over s k w ready.line ready.later p (spaces_end s p) x.beyond (spaces_end_ge s p) i x.on x.clean
      (λ r h l z. omega (arith, spaces_bytes s p r h l))
      (λ r m h l u f. true≢false (sym (ap is_space (spaces_bytes s p r h l)) ∙ u.byte)) in
      record {
        inside = i;
        beyond = omega (arith, x.beyond, spaces_end_ge s p);
        on = c.0;
        apart = spaces_apart s a p x.beyond x.apart;
        clean = c.1;
        stand = ap stands t ∙ x.stand;
        names = ap occurrences t ∙ x.names;
        opened = rw t x.opened;
      }

  -- over the token t, which stands from q up to r
  module _ (q o : ℕ) (d : Bool) (n : ℕ) (x : PatternFacts q o d n) (t : Token) (o' : ℕ) (d' : Bool)
      (fits : stand (Stand.on o d) t ≡ Stand.on o' d') where
    stands_on : stands (before s w q ++ (t ∷ [])) ≡ Stand.on o' d'
    stands_on = stands_more (before s w q) t ∙ ap (λ y. stand y t) x.stand ∙ fits

    begins_on : token_at s q ≡ t → Begins (before s w q ++ (token_at s q ∷ []))
    begins_on e = rw e ((begins_stands (before s w q ++ (t ∷ []))).1 (o', d', stands_on))

    facts_token : (r : ℕ) → q ≤ r → r ≤ length s → before s w r ≡ before s w q ++ (t ∷ []) → Apart s a r
        → ((i : ℕ) → q ≤ i → i < r → at s i ≡ lf → ⊥) → ((i m : ℕ) → q ≤ i → i < r → TokenAt s k w i → TokenFault s k w i m → ⊥)
        → o + signs opening (t ∷ []) ≡ o' + signs closing (t ∷ []) → PatternFacts r o' d' (n + occurrences (t ∷ []))
    facts_token r h i b p f g c =
        let u = clean_over s k w ready.line ready.later q r x.beyond h i x.on x.clean f g in
        record {
          inside = i;
          beyond = omega (arith, x.beyond);
          on = u.0;
          apart = p;
          clean = u.1;
          stand = ap stands b ∙ stands_on;
          names = ap occurrences b ∙ count_more is_name (before s w q) t ∙ ap (λ m. m + occurrences (t ∷ [])) x.names;
          opened =
              rw b (omega (arith, count_more (is_sign opening) (before s w q) t, count_more (is_sign closing) (before s w q) t, x.opened));
        }

  facts_name : (q o : ℕ) (d : Bool) (n : ℕ) → PatternFacts q o d n → is_lower (at s q) ≡ true → name_end s q - q ≤ 12 → n < 31
      → index_of s symbols (name_at s q) < length symbols → PatternFacts (name_end s q) o true (suc n)
  facts_name q o d n x l h m i =
      let b = name_tokens s a q x.beyond x.apart l in
      let z : n + 1 ≡ suc n = omega arith in
      rw z at (facts_token q o d n x (name (name_at s q)) o true refl (name_end s q) (name_end_ge s q) (name_end_le s q x.inside) b
      (name_apart s a q l)
      (λ r u v y. true≢false (sym (name_bytes_law s q r l u v) ∙ ap is_name_byte y))
      (λ r c u v y f. dite (dec_lt q r) (λ g. name_inside s a q r x.beyond x.apart l g v y.begins) λ g. first r c (omega arith) f)
      refl)
    where
      right : (c : ℕ) → TokenFault s k w q c → ⊥
      right c (Fault.long_token y f) = omega (arith, name_length s q x.inside)
      right c (Fault.thirty_second y f) = omega (arith, x.names)
      right c (Fault.seventeenth_open y f) = true≢false (sym l ∙ ap is_lower y)
      right c (Fault.undeclared_name y f g) = f ((ready.known (name_at s q)).0 i)
      right c (Fault.variable_name y f g) = f ((ready.known (name_at s q)).0 i)
      right c (Fault.misplaced y f) =
          f (begins_on q o d n x (name (name_at s q)) o true refl (ap (λ c. cond c (name (name_at s q)) (sign (at s q))) l))

      first : (r c : ℕ) → r ≡ q → TokenFault s k w r c → ⊥
      first r c e f = right c (rw e at f)

  facts_sign : (q o : ℕ) (d : Bool) (n : ℕ) → PatternFacts q o d n → (c o' : ℕ) (d' : Bool) → at s q ≡ c → Sign o d c o' d'
      → PatternFacts (q + 1) o' d' n
  facts_sign q o d n x c o' d' e g =
      let l : q < length s = omega (arith, inside_of s q c e g.plain.3) in
      let b = sign_tokens s a q x.beyond x.apart l (ap is_lower e ∙ low) (ap is_space e ∙ g.plain.1) in
      let z : n + 0 ≡ n = omega arith in
      rw z at (facts_token q o d n x (sign c) o' d' g.fits (q + 1) (omega arith) (omega arith)
      (b ∙ ap (λ y. before s w q ++ (sign y ∷ [])) e) (sign_apart s a q x.beyond l (ap is_name_byte e ∙ g.plain.0))
      (λ r u v y. eqb-false c lf g.plain.2 (sym e ∙ ap (at s) {x = q} {y = r} (omega arith) ∙ y))
      (λ r m u v y f. first r m (omega arith) f) g.count)
    where
      low : is_lower c ≡ false
      low = (or_false_split (is_lower c) _ g.plain.0).0

      lower : is_lower (at s q) ≡ true → ⊥
      lower y = true≢false (sym y ∙ ap is_lower e ∙ low)

      here : token_at s q ≡ sign c
      here = ap (λ b. cond (is_lower b) (name (name_at s q)) (sign b)) e ∙ ap (λ u. cond u (name (name_at s q)) (sign c)) low

      right : (m : ℕ) → TokenFault s k w q m → ⊥
      right m (Fault.long_token y f) = lower y
      right m (Fault.thirty_second y f) = lower y
      right m (Fault.seventeenth_open y f) = omega (arith, g.few (sym e ∙ y), x.opened)
      right m (Fault.undeclared_name y f g) = lower y
      right m (Fault.variable_name y f g) = lower y
      right m (Fault.misplaced y f) = f (begins_on q o d n x (sign c) o' d' g.fits here)

      first : (r m : ℕ) → r ≡ q → TokenFault s k w r m → ⊥
      first r m h f = right m (rw h at f)

  module _ (spaced : at s e ≡ space) where
    -- behind `match` and its space
    facts_begin : PatternFacts (e + 1) 0 false 0
    facts_begin =
        let l : e < length s = omega (arith, inside_of s e space spaced refl) in
        let empty : part s a (e + 1) ≡ [] = ap (λ m. take m (drop a s)) {x = e + 1 - a} {y = 0} (omega (arith, ready.end)) in
        record {
          inside = omega arith;
          beyond = omega (arith, ready.end);
          on = same_line s k e l on_match (λ z. omega arith);
          apart = rw empty;
          clean = λ r m h f. dite (dec_lt r e) (λ z. ready.clean r m z f) λ z. first r m (omega arith) f;
          stand = ap (λ ts. stands (tokens ts)) empty ∙ stands_none;
          names = ap (λ ts. occurrences (tokens ts)) empty;
          opened = rw empty;
        }
      where
        on_match : On s k e
        on_match =
            let v = ready.line.word in
            ap (λ q. (spot_at s q).line) ready.end
            ∙ ap (λ x. x.line) (word_spot s v (w + 5) (omega arith) (omega (arith, match_end s v ready.line.match)))

        right : (m : ℕ) → Here s k w ready.line e m → ⊥
        right m (no_space f h) = f (ap (at s) (sym ready.end) ∙ spaced)
        right m (token t f) = omega (arith, t.behind, ready.end)
        right m (no_token z f) = ⊎_elim (λ y. omega arith) (λ y. omega (arith, inside_of s e space spaced refl)) z
        right m (no_lf h) = omega (arith, inside_of s e space spaced refl)

        first : (r m : ℕ) → r ≡ e → Fault s r m → ⊥
        first r m h f = right m (line_fault s k w ready.line ready.later e m (omega (arith, ready.end)) on_match (rw h at f))

    pub pattern_facts : {p o : ℕ} {d : Bool} {n : ℕ} → PatternPrefix s symbols (e + 1) p o d n → PatternFacts p o d n
    pattern_facts PatternPrefix.begin = facts_begin
    pattern_facts (PatternPrefix.name p o d n x l h m i) = facts_name (spaces_end s p) o d n (facts_spaces p o d n (pattern_facts x)) l h m i
    pattern_facts (PatternPrefix.opened p o d n x b h) =
        facts_sign (spaces_end s p) o d n (facts_spaces p o d n (pattern_facts x)) opening (suc o) false b (opening_sign o d h)
    pattern_facts (PatternPrefix.closed p o n x b) =
        facts_sign (spaces_end s p) (suc o) true n (facts_spaces p (suc o) true n (pattern_facts x)) closing o true b (closing_sign o)
    pattern_facts (PatternPrefix.either p o n x b) = facts_sign (spaces_end s p) o true n (facts_spaces p o true n (pattern_facts x)) bar o false b (bar_sign o)
    pattern_facts (PatternPrefix.postfix p o n x b) =
        facts_sign (spaces_end s p) o true n (facts_spaces p o true n (pattern_facts x)) (at s (spaces_end s p)) o true refl (postfix_sign o _ b)
