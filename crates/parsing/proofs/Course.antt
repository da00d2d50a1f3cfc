-- The course of the reader over a pattern goes no further than the text's end, and where it finds no fault it has read a phrase.
use mathlib.Core.Path.{◌≡◌, refl, sym, ap, subst, ◌∙◌}
use mathlib.Core.Bool.{Bool, true, false, cond, ◌||◌}
use mathlib.Core.List.{List, [], ◌∷◌, ◌++◌, map, append_assoc}
use Prim.Native.Nat.{ℕ, zero, suc, ◌+◌, ◌-◌, ◌≤◌, ◌<◌}
use native.Mathlib.Numerals.{add-one}
use native.Mathlib.Omega.{arith}
use lib.Dec.{eqb, leb, ltb}
use lib.ListN.{length, get_or, drop, drop_of_length-le, length-map}
use lib.Seq.{drop-cons}
use borrow.Author.Tests.{ltb-true, ltb-false, leb-false}
use Rattle.laws.proofs.Lists.{or_false_split, either}
use Rattle.pattern.specs.Regex.{Regex, lit, cat, alt, star, plus, opt}
use Rattle.pattern.specs.Positions.{size}
use Rattle.form.specs.Text.{Bytes, space, is_lower, Span}
use Rattle.form.specs.Tokens.{Token, name, sign, tokens}
use Rattle.form.specs.Phrase.{Phrase, Level, atom, item, sequence, alternation, opening, closing, bar, asterisk, plus_sign, question}
use Rattle.form.specs.Form.{same_word}
use Rattle.form.specs.Scan.{go, fail, at, past_end, spaces_end, name_end, part}
use Rattle.form.specs.Lines.{bytes_at, index_of}
use Rattle.form.specs.Parse.{Parsed, failed, postfix_on, item_of, name_atom, unfit, closed, begins_item, joined}
use Rattle.form.specs.Parse.{alternation_from, sequence_from, atom_from}
use Rattle.parsing.proofs.Scans.{spaces_end_le, name_end_le, same_word_law}
use Rattle.parsing.proofs.TokenScan.{by_equal, inside_of, tokens_at, word_token, sign_token}

-- the number of a name, where it is found, is that name's
index_found : (s w : Bytes) (symbols : List Span) → index_of s symbols w < length symbols
    → get_or (map (bytes_at s) symbols) (index_of s symbols w) [] ≡ w
index_found s w [] h = absurd (omega arith)
index_found s w (x ∷ xs) h = decide (same_word (bytes_at s x) w) refl h (index_found s w xs)
  where
    r : ℕ
    r = index_of s xs w

    decide : (t : Bool) → same_word (bytes_at s x) w ≡ t → cond t 0 (suc r) < suc (length xs) → (r < length xs → get_or (map (bytes_at s) xs) r [] ≡ w)
        → get_or (map (bytes_at s) (x ∷ xs)) (cond t 0 (suc r)) [] ≡ w
    decide true e k ih = (same_word_law (bytes_at s x) w).0 e
    decide false e k ih = ih (omega arith)

pub drop_next : (s : Bytes) (p b : ℕ) (l : Bytes) → drop p s ≡ b ∷ l → (p + 1 ≤ length s) × (drop (p + 1) s ≡ l)
drop_next s p b l e = decide (ltb p (length s)) refl
  where
    decide : (t : Bool) → ltb p (length s) ≡ t → (p + 1 ≤ length s) × (drop (p + 1) s ≡ l)
    decide true h = let k = ltb-true p (length s) h in (omega arith, rw add-one (cc (drop-cons s p 0 k)))
    decide false h = let k = drop_of_length-le s (ltb-false p (length s) h) in let z : ◌≡◌ {A = ℕ} 0 1 = cc in absurd (omega arith)

module _ (s : Bytes) (symbols : List Span) where
  abbrev pub names : List Bytes
  names = map (bytes_at s) symbols

  -- the tokens between p and the place of a are a phrase of the level, with a's tree, and all occurrences are within the limit
  pub record Sound (l : Level) (d k p : ℕ) (a : Parsed) : Type 0 where
    pub read : List Token
    pub tokens : tokens_at s p ≡ read ++ tokens_at s a.step.place
    pub phrase : Phrase (map (bytes_at s) symbols) l d read a.tree
    pub few : k + size a.tree ≤ 31

  pub record Course (l : Level) (d k p : ℕ) (a : Parsed) : Type 0 where
    pub inside : a.step.place ≤ length s
    pub sound : a.step.fault ≡ 0 → Sound l d k p a

  module _ (d k p : ℕ) where
    -- a fault
    faulty : (l : Level) (n q : ℕ) → q ≤ length s → Course l d k p (failed (fail (suc n) q))
    faulty l n q h = record { inside = h; sound = λ e. absurd (omega arith) }

    unfitting : (l : Level) (q : ℕ) → q ≤ length s → Course l d k p (failed (unfit s q))
    unfitting l q h = either (λ n. Course l d k p (failed (fail n q))) (eqb (at s q) past_end) (λ _. faulty l 1 q h) (λ _. faulty l 5 q h)

    -- a step that goes on where a found no fault
    passing : {m : Level} {d' k' p' : ℕ} (l : Level) (a : Parsed) {b : Parsed} → Course m d' k' p' a → (Sound m d' k' p' a → Course l d k p b)
        → Course l d k p (cond (eqb a.step.fault 0) b a)
    passing l a x f = by_equal (Course l d k p) a.step.fault 0 (λ e. f (x.sound e)) (λ e. record { inside = x.inside; sound = λ z. absurd (e z) })

    -- the same tokens as a phrase of another level
    raised : {l : Level} (m : Level) {a : Parsed} (x : Sound l d k p a) → Phrase names m d x.read a.tree → Sound m d k p a
    raised m x y = record { read = x.read; tokens = x.tokens; phrase = y; few = x.few }

    -- `*`, `+`, `?` behind an item
    postfix_course : (l : Bytes) (here done : ℕ) (r : Regex) → drop here s ≡ l → done ≤ length s → tokens_at s done ≡ tokens l
        → Sound item d k p (record { step = go done; tree = r }) → Course item d k p (postfix_on l here done r)
    postfix_course [] here done r e h t x = record { inside = h; sound = λ z. x }
    postfix_course (b ∷ l) here done r e h t x = steps (postfix_course l (here + 1))
      where
        n : (here + 1 ≤ length s) × (drop (here + 1) s ≡ l)
        n = drop_next s here b l e

        Onward : Type 0
        Onward = (done : ℕ) (r : Regex) → drop (here + 1) s ≡ l → done ≤ length s → tokens_at s done ≡ tokens l
            → Sound item d k p (record { step = go done; tree = r }) → Course item d k p (postfix_on l (here + 1) done r)

        signed : Onward → (c : ℕ) (f : Regex → Regex) → b ≡ c → tokens (c ∷ l) ≡ sign c ∷ tokens l → size (f r) ≡ size r
            → Phrase names item d (x.read ++ (sign c ∷ [])) (f r) → Course item d k p (postfix_on l (here + 1) (here + 1) (f r))
        signed on c f q z m ph = on (here + 1) (f r) n.1 n.0 (ap tokens n.1) (record {
          read = x.read ++ (sign c ∷ []);
          tokens = rw append_assoc (x.tokens ∙ ap (λ us. x.read ++ us) (t ∙ ap (λ b. tokens (b ∷ l)) q ∙ z ∙ rw n.1));
          phrase = ph;
          few = rw m x.few;
        })

        steps : Onward → Course item d k p (postfix_on (b ∷ l) here done r)
        steps on = by_equal (Course item d k p) b space (λ q. on done r n.1 h (t ∙ ap (λ b. tokens (b ∷ l)) q) x)
            (λ _. by_equal (Course item d k p) b asterisk (λ q. signed on asterisk star q refl refl (Phrase.starred x.phrase))
            (λ _. by_equal (Course item d k p) b plus_sign (λ q. signed on plus_sign plus q refl refl (Phrase.plussed x.phrase))
            (λ _. by_equal (Course item d k p) b question (λ q. signed on question opt q refl refl (Phrase.optional x.phrase))
            (λ _. record { inside = h; sound = λ _. x }))))

    item_course : (a : Parsed) → Course atom d k p a → Course item d k p (item_of s a)
    unfolding item_of
    item_course a x = passing item a x
        (λ y. postfix_course (drop a.step.place s) a.step.place a.step.place a.tree refl x.inside refl
        (record { read = y.read; tokens = y.tokens; phrase = Phrase.plain y.phrase; few = y.few }))

    -- a name
    name_course : p ≤ length s → is_lower (at s (spaces_end s p)) ≡ true → Course atom d k p (name_atom s symbols k (spaces_end s p))
    unfolding name_atom
    name_course h e =
        let q = spaces_end s p in
        let w = part s q (name_end s q) in
        let a = index_of s symbols w in
        let le = spaces_end_le s p h in
        let known : leb 31 k ≡ false → a < length symbols → Sound atom d k p (record { step = go (name_end s q); tree = lit a }) = λ f i. record {
          read = name w ∷ [];
          tokens = word_token s p e;
          phrase = subst (λ v. Phrase names atom d (name v ∷ []) (lit a)) (index_found s w symbols i) (Phrase.symbol (rw length-map i));
          few = omega (arith, leb-false 31 k f);
        } in
        either (Course atom d k p) (ltb 12 (name_end s q - q) || leb 31 k) (λ _. faulty atom 2 q le)
        (λ f. either (Course atom d k p) (ltb a (length symbols))
        (λ i. record { inside = name_end_le s q le; sound = λ _. known (or_false_split (ltb 12 (name_end s q - q)) _ f).1 (ltb-true a _ i) })
        (λ _. faulty atom 4 q le))

    -- an alternation in parentheses
    group_course : at s (spaces_end s p) ≡ opening → (d ≡ 0 → ⊥) → (a : Parsed) → Course alternation (d - 1) k (spaces_end s p + 1) a
        → Course atom d k p (closed s a)
    unfolding closed
    group_course e z a x =
        let q = spaces_end s a.step.place in
        let n : suc (d - 1) ≡ d = omega arith in
        passing atom a x (λ y. by_equal (Course atom d k p) (at s q) closing
        (λ c. record {
          inside = inside_of s q closing c refl;
          sound = λ _. record {
            read = sign opening ∷ y.read ++ (sign closing ∷ []);
            tokens = sign_token s p opening refl refl e ∙ ap (λ us. sign opening ∷ us)
                (y.tokens ∙ ap (λ us. y.read ++ us) (sign_token s a.step.place closing refl refl c) ∙ sym (append_assoc y.read _ _));
            phrase = subst (λ m. Phrase names atom m (sign opening ∷ y.read ++ (sign closing ∷ [])) a.tree) n (Phrase.group y.phrase);
            few = y.few;
          };
        })
        (λ _. unfitting atom q (spaces_end_le s _ x.inside)))

    -- a first and a second part, with the tokens ms between
    joined_course : {l m : Level} (n : Level) (f : Regex → Regex → Regex) (a b : Parsed) (ms : List Token) (p' : ℕ)
        → (x : Sound l d k p a) → tokens_at s a.step.place ≡ ms ++ tokens_at s p' → Course m d (k + size a.tree) p' b
        → ((ts : List Token) → Phrase names m d ts b.tree → Phrase names n d (x.read ++ (ms ++ ts)) (f a.tree b.tree))
        → size (f a.tree b.tree) ≡ size a.tree + size b.tree → Course n d k p (joined f a b)
    joined_course n f a b ms p' x t y ph z = passing n b y
        (λ v. record {
          inside = y.inside;
          sound = λ _. record {
            read = x.read ++ (ms ++ v.read);
            tokens = simp append_assoc (x.tokens ∙ ap (λ us. x.read ++ us) (t ∙ ap (λ us. ms ++ us) v.tokens));
            phrase = ph v.read v.phrase;
            few = rw z (omega (arith, v.few));
          };
        })

  mutual
    unfolding alternation_from

    pub alternation_course : (n d k p : ℕ) → p ≤ length s → Course alternation d k p (alternation_from s symbols n d k p)
    alternation_course zero d k p h = faulty d k p alternation 5 p h
    alternation_course (suc n) d k p h =
        let a = sequence_from s symbols n d k p in
        let q = spaces_end s a.step.place in
        let k' = k + size a.tree in
        let x = sequence_course n d k p h in
        let more : at s q ≡ bar → Course alternation d k' (q + 1) (alternation_from s symbols n d k' (q + 1))
        = λ c. alternation_course n d k' (q + 1) (inside_of s q bar c refl) in
        passing d k p alternation a x (λ y. by_equal (Course alternation d k p) (at s q) bar
        (λ c. joined_course d k p alternation alt a (alternation_from s symbols n d k' (q + 1)) (sign bar ∷ []) (q + 1) y
        (sign_token s a.step.place bar refl refl c) (more c) (λ ts z. Phrase.or y.phrase z) refl)
        (λ _. record { inside = x.inside; sound = λ _. raised d k p alternation y (Phrase.only y.phrase) }))

    sequence_course : (n d k p : ℕ) → p ≤ length s → Course sequence d k p (sequence_from s symbols n d k p)
    sequence_course zero d k p h = faulty d k p sequence 5 p h
    sequence_course (suc n) d k p h =
        let a = item_of s (atom_from s symbols n d k p) in
        let e = a.step.place in
        let k' = k + size a.tree in
        let x = item_course d k p (atom_from s symbols n d k p) (atom_course n d k p h) in
        let more = sequence_course n d k' e x.inside in
        passing d k p sequence a x (λ y. either (Course sequence d k p) (begins_item (at s (spaces_end s e)))
        (λ _. joined_course d k p sequence cat a (sequence_from s symbols n d k' e) [] e y refl more (λ ts z. Phrase.then y.phrase z) refl)
        (λ _. record { inside = x.inside; sound = λ _. raised d k p sequence y (Phrase.last y.phrase) }))

    atom_course : (n d k p : ℕ) → p ≤ length s → Course atom d k p (atom_from s symbols n d k p)
    atom_course zero d k p h = faulty d k p atom 5 p h
    atom_course (suc n) d k p h =
        let q = spaces_end s p in
        let le = spaces_end_le s p h in
        let inner : at s q ≡ opening → Course alternation (d - 1) k (q + 1) (alternation_from s symbols n (d - 1) k (q + 1))
        = λ c. alternation_course n (d - 1) k (q + 1) (inside_of s q opening c refl) in
        either (Course atom d k p) (is_lower (at s q)) (λ e. name_course d k p h e)
        (λ _. by_equal (Course atom d k p) (at s q) opening
        (λ c. by_equal (Course atom d k p) d 0 (λ _. faulty d k p atom 2 q le) (λ z. group_course d k p c z _ (inner c)))
        (λ _. unfitting d k p atom q le))
