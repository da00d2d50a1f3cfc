-- The pattern: the reader's course over it finds no fault exactly where its tokens are a phrase within the limits, and then
-- gives the phrase's tree.
use mathlib.Core.Path.{◌≡◌, refl, sym, ap, ◌∙◌}
use mathlib.Core.Bool.{Bool, true, false}
use mathlib.Core.List.{List, [], ◌∷◌, ◌++◌, map, append_assoc, append_cancel_right}
use Prim.Native.Nat.{ℕ, suc, ◌+◌, ◌-◌, ◌≤◌}
use native.Mathlib.Numerals.{add-one}
use native.Mathlib.Omega.{arith}
use lib.Dec.{eqb, leb}
use lib.ListN.{length, take, drop, length-append, length-drop, take-append-drop, drop_of_length-le}
use lib.Seq.{drop-cons, drop-drop, drop-append-le}
use borrow.Author.Tests.{leb-true, leb-false, eq-eqb}
use Rattle.laws.specs.Lists.{any, all}
use Rattle.laws.proofs.Lists.{either}
use Rattle.pattern.specs.Regex.{Regex}
use Rattle.pattern.specs.Positions.{size}
use Rattle.form.specs.Text.{Bytes, lf, is_name, Span}
use Rattle.form.specs.Tokens.{sign, tokens}
use Rattle.form.specs.Phrase.{Phrase, alternation}
use Rattle.form.specs.Limits.{open_limit, text_limit}
use Rattle.form.specs.Form.{distinct}
use Rattle.form.specs.Scan.{go, fail, at, past_end, spaces_end, part}
use Rattle.form.specs.Lines.{bytes_at}
use Rattle.form.specs.Parse.{Parsed, failed, enough, pattern_from}
use Rattle.form.specs.Reading.{last_line}
use Rattle.parsing.proofs.Scans.{spaces_end_le}
use Rattle.parsing.proofs.TokenScan.{by_equal, tokens_at, inside_of, sign_token, sign_found}
use Rattle.parsing.proofs.Grammar.{tokens_lf, tokens_lines, tokens_length, phrase_some, phrase_line}
use Rattle.parsing.proofs.Course.{Sound, alternation_course}
use Rattle.parsing.proofs.Complete.{phrase_read}

-- behind the last LF there is no token, and before it there is one
last_place : (s m : Bytes) (q : ℕ) → s ≡ m ++ (lf ∷ []) → q + 1 ≤ length s → tokens_at s (q + 1) ≡ [] → q + 1 ≡ length s
last_place s m q f h t = decide (leb (q + 1) (length m)) refl
  where
    decide : (b : Bool) → leb (q + 1) (length m) ≡ b → q + 1 ≡ length s
    decide false e = omega (arith, leb-false (q + 1) (length m) e, ap length f, length-append m (lf ∷ []))
    decide true e =
        let l = drop (q + 1) m in
        let g : drop (q + 1) s ≡ l ++ (lf ∷ []) = rw f (drop-append-le (q + 1) m _ (leb-true _ _ e)) in
        absurd (omega (arith, ap length (sym t ∙ ap tokens g ∙ tokens_lf [] l), length-append (tokens l) (sign lf ∷ [])))

last_read : (s m : Bytes) (r : Regex) (a : Parsed) → s ≡ m ++ (lf ∷ [])
    → (e : ℕ) × (tokens_at s e ≡ sign lf ∷ []) × (a ≡ record { step = go e; tree = r })
    → last_line s a ≡ record { step = go (length s); tree = r }
unfolding last_line
last_read s m r a f x =
    let q = spaces_end s x.0 in
    let v = sign_found s x.0 x.1 in
    let k = last_place s m q f (inside_of s q lf v.0 refl) v.2 in
    rw (x.2, v.0, eq-eqb (q + 1) (length s) k, k)

module _ (s : Bytes) (short : length s ≤ text_limit) (symbols : List Span) (p : ℕ) (inside : p ≤ length s) where
  -- the bytes w up to the last LF of the text
  pub record Written (r : Regex) : Type 0 where
    pub written : Bytes
    pub one_line : any (eqb lf) written ≡ false
    pub text : drop p s ≡ written ++ (lf ∷ [])
    pub phrase : Phrase (map (bytes_at s) symbols) alternation open_limit (tokens written) r
    pub occurrences : size r ≤ 31

  pub pattern_read : all is_name (map (bytes_at s) symbols) ≡ true → distinct (map (bytes_at s) symbols) ≡ true → (r : Regex) → Written r
      → last_line s (pattern_from s symbols p) ≡ record { step = go (length s); tree = r }
  unfolding pattern_from
  pattern_read n d r w =
      let l = w.written in
      let k = length-append l (lf ∷ []) in
      let c = ap length w.text in
      let f : s ≡ (take p s ++ l) ++ (lf ∷ []) = rw (append_assoc, ← w.text, take-append-drop) in
      last_read s (take p s ++ l) r (pattern_from s symbols p) f
      (phrase_read s symbols n d w.phrase (enough 16 p + 3) 0 p (sign lf ∷ []) (omega (arith, tokens_length [] l, length-drop p s))
      (omega (arith, w.occurrences)) (ap tokens w.text ∙ tokens_lf [] l) refl refl refl)

  found_written : (a : Parsed) → Sound s symbols alternation open_limit 0 p a → at s (spaces_end s a.step.place) ≡ lf
      → spaces_end s a.step.place + 1 ≡ length s → Written a.tree
  found_written a x c e =
      let q = spaces_end s a.step.place in
      let w = part s p q in
      let none : drop (suc q) s ≡ [] = drop_of_length-le s {i = suc q} (omega arith) in
      let ends : tokens_at s a.step.place ≡ sign lf ∷ [] = sign_token s a.step.place lf refl refl c ∙ rw (add-one, none) in
      let before : p ≤ q = omega (
        arith,
        phrase_some x.phrase,
        tokens_length [] (drop p s),
        length-drop p s,
        ap length x.tokens,
        length-append x.read (tokens_at s a.step.place),
      ) in
      let there : p + (q - p) ≡ q = omega arith in
      let byte : drop q s ≡ lf ∷ [] = drop-cons s q past_end (omega arith) ∙ rw (c, none) in
      let text : drop p s ≡ w ++ (lf ∷ []) = sym (rw (drop-drop, there, byte) at (take-append-drop (q - p) (drop p s))) in
      let same : tokens w ≡ x.read = append_cancel_right (tokens w) x.read (sign lf ∷ [])
      (sym (ap tokens text ∙ tokens_lf [] w) ∙ x.tokens ∙ ap (λ us. x.read ++ us) ends) in
      record {
        written = w;
        one_line = sym (tokens_lines [] w) ∙ rw same (phrase_line x.phrase);
        text = text;
        phrase = rw same x.phrase;
        occurrences = omega (arith, x.few);
      }

  pub pattern_found : (last_line s (pattern_from s symbols p)).step.fault ≡ 0 → Written (last_line s (pattern_from s symbols p)).tree
  unfolding last_line pattern_from
  pattern_found h =
      let a = pattern_from s symbols p in
      let q = spaces_end s a.step.place in
      let x = alternation_course s symbols (enough 16 p + 3) 16 0 p inside in
      let Found : Parsed → Type 0 = λ y. y.step.fault ≡ 0 → Written y.tree in
      let none : (n m : ℕ) → Found (failed (fail (suc n) m)) = λ n m e. absurd (omega arith) in
      by_equal Found a.step.fault 0
      (λ e. by_equal Found (at s q) lf
      (λ f. by_equal Found (q + 1) (length s) (λ g _. found_written a (x.sound e) f g) (λ _. none 1 (q + 1)))
      (λ _. either (λ n. Found (failed (fail n q))) (eqb (at s q) past_end) (λ _. none 1 q) (λ _. none 5 q)))
      (λ e z. absurd (e z)) h

  -- a fault of the pattern stands inside the text
  pub pattern_place : (last_line s (pattern_from s symbols p)).step.place ≤ length s
  unfolding last_line pattern_from
  pattern_place =
      let a = pattern_from s symbols p in
      let x = alternation_course s symbols (enough 16 p + 3) 16 0 p inside in
      let q = spaces_end s a.step.place in
      let In : Parsed → Type 0 = λ y. y.step.place ≤ length s in
      by_equal In a.step.fault 0
      (λ _. by_equal In (at s q) lf
      (λ c. let i = inside_of s q lf c refl in by_equal In (q + 1) (length s) (λ _. i) (λ _. i))
      (λ _. spaces_end_le s _ x.inside))
      (λ _. x.inside)
