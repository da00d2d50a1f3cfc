-- What is known where a prefix of the header ends: the spot, that no fault stands before it, and which words the places of names hold. For HeaderFaults.
use mathlib.Core.Path.{◌≡◌, refl, sym, ap, ◌∙◌}
use mathlib.Core.Bool.{true, false, not, true≢false, false≢true}
use mathlib.Core.List.{List, [], ◌∷◌, ◌++◌, append-nil}
use mathlib.Core.Logic.{◌⊎◌, inl, inr, ⊎_elim, ◌↔◌, dite}
use Prim.Native.Nat.{ℕ, suc, ◌+◌, ◌≤◌, ◌<◌}
use native.Mathlib.Nat.{eq-or-lt_of_le, le_of_suc-le-suc}
use native.Mathlib.Numerals.{add-one}
use native.Mathlib.Decide.{dec_lt}
use native.Mathlib.Omega.{arith}
use borrow.Author.Tests.{not-true, eqb-false}
use lib.Dec.{eqb}
use lib.ListN.{length, drop}
use Rattle.laws.proofs.Lists.{and_true_split}
use Rattle.form.specs.Text.{Bytes, space, lf, vars_word, sym_word, match_word, Span}
use Rattle.form.specs.Scan.{at, run, is_space, is_word_byte, word_end, spaces_end}
use Rattle.form.specs.Lines.{span_of}
use Rattle.parsing.proofs.Scans.{run_step, run_stop}
use Rattle.parsing.proofs.TokenScan.{inside_of}
use Rattle.fault.specs.Places.{On, Ends, spot_at, Word, word_at, Header}
use Rattle.fault.specs.Fault.{WordFault, Fault, Declares, IsArgument, is_name_form}
use Rattle.least.proofs.Spots.{spot_zero, spot_step, word_end_law, word_bytes, word_spot, word_same}
use Rattle.least.proofs.Sites.{Clean, inside_fault, space_fault, word_fault, lf_fault}
use Rattle.least.proofs.HeaderPrefix.{Gap, HeaderPrefix}
use Rattle.least.proofs.WordLaws.{Among, among_append, among_one, span_word, word_first}
use Rattle.least.proofs.WordLaws.{Declaring, declaring, Arguing, arguing, kind_some}
use Rattle.least.proofs.WordFaults.{Stood, stands_as, NoVariable, first_wrong, name_wrong, kind_wrong, argument_wrong}

-- the words that declare a variable, and those that declare a symbol
abbrev pub IsVariable : (k i : ℕ) → Type 0
IsVariable k i = (k ≡ 0) × (1 ≤ i) × (i ≤ 4)

abbrev pub IsSymbol : (k i : ℕ) → Type 0
IsSymbol k i = (1 ≤ k) × (i ≡ 1)

-- the names at xs are those of the words D before p
abbrev pub Lists : (s : Bytes) (D : ℕ → ℕ → Type 0) (p : ℕ) (xs : List Span) → Type 0
Lists s D p xs = (w : Bytes) → Among s xs w ↔ Stood s D p w

-- what is known where i words of line k are read and the last of them ends at p
pub record HeaderFacts (s : Bytes) (p k i : ℕ) (vs ss : List Span) : Type 0 where
  pub inside : p ≤ length s
  pub spot : spot_at s p ≡ record { line = k; words = i; inside = true }
  pub clean : Clean s p
  pub header : Header s k
  pub some : 1 ≤ i
  pub variables : Lists s IsVariable p vs
  pub symbols : Lists s IsSymbol p ss

-- the three ways in which two places lie
abbrev pub which : {A : Type 0} (q p : ℕ) → (q < p → A) → (q ≡ p → A) → (p < q → A) → A
which q p a b c = dite (dec_lt q p) a (λ n. ⊎_elim (λ e. b (sym e)) c (eq-or-lt_of_le {n = p} {m = q} (omega arith)))

module _ (s : Bytes) where
  pub clean_next : (p : ℕ) → Clean s p → ((n : ℕ) → Fault s p n → ⊥) → Clean s (p + 1)
  clean_next p c h q n l f = ⊎_elim (λ e. h n (rw e at f)) (λ k. c q n k f) (eq-or-lt_of_le (le_of_suc-le-suc (rw add-one at l)))

  -- over a word with which nothing is wrong
  pub word_clean : {k i p : ℕ} → Word s k i p → Header s k → Clean s p → ((n : ℕ) → WordFault s k i p n → ⊥) → Clean s (word_end s p)
  word_clean {k} {i} {p} v h c x q n l f = which q p (λ b. c q n b f) here later
    where
      here : q ≡ p → ⊥
      here e = x n (word_fault s k p n (ap (λ y. y.line) v.spot) h (rw e at f) i v)

      later : p < q → ⊥
      later b =
          let e = word_spot s v q b (omega arith) in
          inside_fault s k q n (ap (λ y. y.line) e) h f (ap (λ y. y.inside) e) (word_bytes s v q (omega arith) l)
          (omega (arith, word_end_law s v))

  -- what begins before a word's end begins before that word, or is that word
  word_parts : {j h r k i q : ℕ} → Word s j h r → Word s k i q → q < word_end s r → (q < r) ⊎ ((k ≡ j) × (i ≡ h) × (q ≡ r))
  word_parts {j} {h} {r} {k} {i} {q} v u l = which q r (λ b. inl b) (λ e. inr (here e))
      (λ b. absurd (false≢true (ap (λ y. y.inside) (sym u.spot ∙ word_spot s v q b (omega arith)))))
    where
      here : q ≡ r → (k ≡ j) × (i ≡ h) × (q ≡ r)
      here e = let z = sym u.spot ∙ ap (λ r. spot_at s r) e ∙ v.spot in (ap (λ y. y.line) z, ap (λ y. y.words) z, e)

  -- a word that stands before p + 1 stands before p, where p is in no word
  nearer : {D : ℕ → ℕ → Type 0} {p : ℕ} {w : Bytes} → is_word_byte (at s p) ≡ false → Stood s D (p + 1) w → Stood s D p w
  nearer {D} {p} gap x =
      let no : x.place ≡ p → ⊥ = λ e. false≢true (sym gap ∙ ap (λ r. is_word_byte (at s r)) (sym e) ∙ x.word.byte) in
      stands_as x x.is (which x.place p (λ b. b) (λ e. absurd (no e)) (λ b. absurd (omega (arith, x.before))))

  -- over a word behind a gap at p
  module _ {p j h : ℕ} (v : Word s j h (p + 1)) (gap : is_word_byte (at s p) ≡ false) where
    longer : (D : ℕ → ℕ → Type 0) {w : Bytes} → Stood s D p w → Stood s D (word_end s (p + 1)) w
    longer D x = stands_as x x.is (omega (arith, x.before, word_end_law s v))

    parted : (D : ℕ → ℕ → Type 0) {w : Bytes} → Stood s D (word_end s (p + 1)) w → Stood s D p w ⊎ (D j h × (word_at s (p + 1) ≡ w))
    parted D {w} x = ⊎_elim
        (λ b. inl (nearer gap (stands_as x x.is b)))
        (λ e. inr (rw (e.0, e.1) at x.is, ap (word_at s) (sym e.2) ∙ x.same))
        (word_parts v x.word x.before)

    lists_same : (D : ℕ → ℕ → Type 0) (xs : List Span) → (D j h → ⊥) → Lists s D p xs → Lists s D (word_end s (p + 1)) xs
    lists_same D xs x y w = (λ a. longer D ((y w).0 a), λ z. ⊎_elim (y w).1 (λ e. absurd (x e.0)) (parted D z))

    lists_more : (D : ℕ → ℕ → Type 0) (xs : List Span) → D j h → Lists s D p xs
        → Lists s D (word_end s (p + 1)) (xs ++ (span_of (p + 1) (word_end s (p + 1)) ∷ []))
    lists_more D xs x y w =
        let e = word_end s (p + 1) in
        let new = span_of (p + 1) e in
        let here : word_at s (p + 1) ≡ w → Stood s D e w
        = λ z. record { line = j; number = h; place = p + 1; word = v; is = x; before = (word_end_law s v).0; same = z } in (
          λ a. ⊎_elim (λ b. longer D ((y w).0 b)) (λ b. here (sym (span_word s (p + 1)) ∙ (among_one s new w).0 b))
              ((among_append s xs (new ∷ []) w).0 a),
          λ z. (among_append s xs (new ∷ []) w).1
              (⊎_elim (λ b. inl ((y w).1 b)) (λ b. inr ((among_one s new w).1 (span_word s (p + 1) ∙ b.1))) (parted D z)),
        )

  -- variables' and symbols' names together
  pub lists_joined : (p : ℕ) (vs ss : List Span) → Lists s IsVariable p vs → Lists s IsSymbol p ss → Lists s Declares p (vs ++ ss)
  lists_joined p vs ss x y w =
      let left : Stood s IsVariable p w → Stood s Declares p w = λ z. stands_as z (inl z.is) z.before in
      let right : Stood s IsSymbol p w → Stood s Declares p w = λ z. stands_as z (inr z.is) z.before in (
        λ a. ⊎_elim (λ b. left ((x w).0 b)) (λ b. right ((y w).0 b)) ((among_append s vs ss w).0 a),
        λ z. (among_append s vs ss w).1
            (⊎_elim (λ b. inl ((x w).1 (stands_as z b z.before))) (λ b. inr ((y w).1 (stands_as z b z.before))) z.is),
      )

  -- behind the one space of a gap the line does not end
  gap_goes : (p : ℕ) → Gap s p → Ends s (spaces_end s p) → ⊥
  unfolding spaces_end
  gap_goes p g z =
      let a = and_true_split (not (eqb (at s (p + 1)) space)) (not (eqb (at s (p + 1)) lf)) g.2 in
      let n : is_space (at s (suc p)) ≡ false = rw (← add-one p) (not-true _ a.0) in
      let e : p + run is_space (drop p s) ≡ p + 1 =
      omega (arith, run_step is_space s p (omega arith) (rw g.0), run_stop is_space s (suc p) (omega arith) n) in
      ⊎_elim (λ l. eqb-false (at s (p + 1)) lf (not-true _ a.1) (rw e at l)) (λ l. omega arith) z

  -- over one word more
  pub over : {j h r : ℕ} (us ts : List Span) → Word s j h r → Clean s r → Header s j → ((n : ℕ) → WordFault s j h r n → ⊥)
      → Lists s IsVariable (word_end s r) us → Lists s IsSymbol (word_end s r) ts → HeaderFacts s (word_end s r) j (suc h) us ts
  over {r = r} us ts v c a x y z = record {
    inside = (word_end_law s v).1;
    spot = word_spot s v (word_end s r) (word_end_law s v).0 (omega arith);
    clean = word_clean v a c x;
    header = a;
    some = omega arith;
    variables = y;
    symbols = z;
  }

  module _ {p k i : ℕ} {vs ss : List Span} (f : HeaderFacts s p k i vs ss) where
    pub on : On s k p
    on = ap (λ y. y.line) f.spot

    -- behind the space at p
    pub gap_word : Gap s p → Word s k i (p + 1)
    gap_word g = record { present = g.1; byte = g.2; spot = spot_step s p (omega arith) ∙ rw (f.spot, g.0) }

    pub gap_clean : at s p ≡ space → (Ends s (spaces_end s p) → ⊥) → Clean s (p + 1)
    gap_clean e x = clean_next p f.clean
        λ n g. ⊎_elim (λ z. omega (arith, f.some, sym (ap (λ y. y.words) f.spot) ∙ z))
        (⊎_elim (λ z. true≢false (sym (ap (λ y. y.inside) f.spot) ∙ z)) x)
        (space_fault s k p n on f.header g e)

    pub gap_passed : Gap s p → Clean s (p + 1)
    gap_passed g = gap_clean g.0 (gap_goes p g)

    -- behind the LF at p
    pub line_spot : at s p ≡ lf → spot_at s (p + 1) ≡ record { line = suc k; words = 0; inside = false }
    line_spot e = spot_step s p (omega (arith, inside_of s p lf e refl)) ∙ rw (f.spot, e)

    pub line_clean : at s p ≡ lf → (1 ≤ k → 3 ≤ i) → Clean s (p + 1)
    line_clean e x = clean_next p f.clean λ n g. ⊎_elim (λ z. omega (arith, f.some, z, ap (λ y. y.words) f.spot))
        (λ z. omega (arith, x z.0, z, ap (λ y. y.words) f.spot)) (lf_fault s k p n on f.header g e)

    -- a line that does not begin with `match` is none of the pattern's
    pub line_header : Word s (suc k) 0 (p + 1) → (word_at s (p + 1) ≡ match_word → ⊥) → Header s (suc k)
    line_header v x j q a b u e =
        ⊎_elim (λ z. x (ap (word_at s) (word_same s v (rw z at u)) ∙ e)) (λ z. f.header j q a z u e) (eq-or-lt_of_le (le_of_suc-le-suc b))

  -- nothing is wrong with a new name, where the course finds nothing
  fresh_right : {p j h : ℕ} (xs : List Span) → Word s j h (p + 1) → is_word_byte (at s p) ≡ false → Declares j h → Lists s Declares p xs
      → Declaring s xs (p + 1) 0 → (n : ℕ) → WordFault s j h (p + 1) n → ⊥
  fresh_right {p} xs v gap d y (Declaring.fresh a b c) n x =
      ⊎_elim (λ z. omega arith) (λ z. c ((y (word_at s (p + 1))).1 (nearer gap z.0))) (name_wrong d a x)

  -- nor with an argument
  argument_right : {p j h : ℕ} (xs : List Span) → IsArgument j h → Lists s IsVariable p xs → Arguing s xs (p + 1) 0
      → (n : ℕ) → WordFault s j h (p + 1) n → ⊥
  argument_right xs d y (Arguing.ignored e) n x = false≢true (ap is_name_form (sym e) ∙ (argument_wrong d (inl e) x).0)
  argument_right xs d y (Arguing.fixed m l e) n x = false≢true (ap is_name_form (sym e) ∙ (argument_wrong d (inr (inl (m, l, e))) x).0)
  argument_right {p} xs d y (Arguing.variable a b c) n x =
      ⊎_elim (λ z. omega arith) (λ z. none z.0 ((y (word_at s (p + 1))).0 c)) (argument_wrong d (inr (inr a)) x).1
    where
      none : NoVariable s (word_at s (p + 1)) → Stood s IsVariable p (word_at s (p + 1)) → ⊥
      none z k = z k.number k.place (rw k.is.0 at k.word) (inl (refl, k.is.1, k.is.2)) k.same

  -- behind the word `vars`
  begun : word_at s 0 ≡ vars_word → HeaderFacts s (word_end s 0) 0 1 [] []
  begun e = over [] [] v (λ q n l. absurd (omega arith)) (λ j q a b. absurd (omega arith))
      (λ n x. omega (arith, first_wrong refl (λ _. e) (λ h. absurd (omega arith)) x)) (none IsVariable λ x. omega arith)
      (none IsSymbol λ x. omega arith)
    where
      b : (0 < length s) × (is_word_byte (at s 0) ≡ true)
      b = word_first s 0 _ _ e

      v : Word s 0 0 0
      v = record { present = b.0; byte = b.1; spot = spot_zero s }

      none : (D : ℕ → ℕ → Type 0) → (D 0 0 → ⊥) → Lists s D (word_end s 0) []
      none D x w = (
        λ a. absurd (omega arith),
        λ z. absurd (⊎_elim (λ b. omega arith) (λ c. x (rw (c.0, c.1) at z.is)) (word_parts v z.word z.before)),
      )

  module _ {p k i : ℕ} {vs ss : List Span} (f : HeaderFacts s p k i vs ss) where
    -- over a word behind a space, and over the word `sym`
    module _ (g : Gap s p) where
      stepped : (us ts : List Span) → ((n : ℕ) → WordFault s k i (p + 1) n → ⊥) → Lists s IsVariable (word_end s (p + 1)) us
          → Lists s IsSymbol (word_end s (p + 1)) ts → HeaderFacts s (word_end s (p + 1)) k (suc i) us ts
      stepped us ts = over us ts (gap_word f g) (gap_passed f g) f.header

      apart : is_word_byte (at s p) ≡ false
      apart = ap is_word_byte g.0

      variables_same : (IsVariable k i → ⊥) → Lists s IsVariable (word_end s (p + 1)) vs
      variables_same x = lists_same (gap_word f g) apart IsVariable vs x f.variables

      symbols_same : (IsSymbol k i → ⊥) → Lists s IsSymbol (word_end s (p + 1)) ss
      symbols_same x = lists_same (gap_word f g) apart IsSymbol ss x f.symbols

    pub line_word : at s p ≡ lf → (b : ℕ) (w : Bytes) → word_at s (p + 1) ≡ b ∷ w → Word s (suc k) 0 (p + 1)
    line_word l b w e = let x = word_first s (p + 1) b w e in record { present = x.0; byte = x.1; spot = line_spot f l }

    lined : k ≤ 15 → (1 ≤ k → 3 ≤ i) → at s p ≡ lf → word_at s (p + 1) ≡ sym_word → HeaderFacts s (word_end s (p + 1)) (suc k) 1 vs ss
    lined a b l e =
        let v = line_word l _ _ e in
        let x : is_word_byte (at s p) ≡ false = ap is_word_byte l in
        over vs ss v (line_clean f l b) (line_header f v λ m. omega (arith, ap length (sym e ∙ m)))
        (λ n y. omega (arith, first_wrong refl (λ h. absurd (omega arith)) (λ _. e) y))
        (lists_same v x IsVariable vs (λ y. omega arith) f.variables)
        (lists_same v x IsSymbol ss (λ y. omega arith) f.symbols)

  pub header_facts : {p k i : ℕ} {vs ss : List Span} → HeaderPrefix s p k i vs ss → HeaderFacts s p k i vs ss
  header_facts (HeaderPrefix.opened e) = begun e
  header_facts (HeaderPrefix.variable p i vs c a b g e) =
      let f = header_facts c in
      let v = gap_word f g in
      let d : IsVariable 0 i = (refl, a, b) in
      stepped f g (vs ++ (span_of (p + 1) (word_end s (p + 1)) ∷ [])) []
      (fresh_right vs v (apart f g) (inl d) (rw append-nil at (lists_joined p vs [] f.variables f.symbols))
      (rw e at (declaring v vs)))
      (lists_more v (apart f g) IsVariable vs d f.variables) (symbols_same f g λ y. omega arith)
  header_facts (HeaderPrefix.line p k i vs ss c a b l e) = lined (header_facts c) a b l e
  header_facts (HeaderPrefix.named p k vs ss c a g e) =
      let f = header_facts c in
      let v = gap_word f g in
      stepped f g vs (ss ++ (span_of (p + 1) (word_end s (p + 1)) ∷ []))
      (fresh_right (vs ++ ss) v (apart f g) (inr (a, refl)) (lists_joined p vs ss f.variables f.symbols)
      (rw e at (declaring v (vs ++ ss))))
      (variables_same f g λ y. omega arith) (lists_more v (apart f g) IsSymbol ss (a, refl) f.symbols)
  header_facts (HeaderPrefix.kinded p k vs ss c a g e) =
      let f = header_facts c in
      let m = kind_some (gap_word f g) e in
      stepped f g vs ss (λ n x. kind_wrong a refl m.0 m.1 m.2 m.3 x) (variables_same f g λ y. omega arith)
      (symbols_same f g λ y. omega arith)
  header_facts (HeaderPrefix.argued p k i vs ss c a b d g e) =
      let f = header_facts c in
      stepped f g vs ss (argument_right vs (a, b, d) f.variables (rw e at (arguing (gap_word f g) vs)))
      (variables_same f g λ y. omega arith) (symbols_same f g λ y. omega arith)
