-- Where the course stops before the pattern, the least fault stands; and what is known where it comes to the word `match`.
-- By HeaderFacts: no fault stands before the place; by LeastFaults: no number there comes before its own; here, the fault at the place.
use mathlib.Core.Path.{◌≡◌, refl, sym, ap, ◌∙◌}
use mathlib.Core.Bool.{Bool, true, false, true≢false, false≢true}
use mathlib.Core.List.{List, [], ◌++◌, append-nil}
use mathlib.Core.Logic.{◌⊎◌, inl, inr, ⊎_elim, ◌↔◌, dite}
use Prim.Native.Nat.{ℕ, suc, ◌+◌, ◌≤◌, ◌<◌}
use native.Mathlib.Nat.{eq-or-lt_of_le, le_of_suc-le-suc}
use native.Mathlib.Omega.{arith}
use native.Mathlib.Decide.{dec_lt}
use borrow.Author.Tests.{eqb-true}
use lib.Dec.{eqb}
use lib.ListN.{length}
use Rattle.form.specs.Text.{Bytes, is_bytes, space, lf, vars_word, sym_word, match_word, Span}
use Rattle.form.specs.Form.{same_word}
use Rattle.form.specs.Scan.{at, is_word_byte, word_end}
use Rattle.form.specs.Lines.{index_of}
use Rattle.parsing.proofs.Scans.{same_word_law}
use Rattle.parsing.proofs.TokenScan.{inside_of}
use Rattle.fault.specs.Places.{spot_at, Word, word_at, Header, PatternLine}
use Rattle.fault.specs.Fault.{WordFault, Declares, IsArgument, VariableNamed, SymbolNamed, Fault, Least}
use Rattle.least.proofs.Spots.{spot_zero, spot_step, spot_later, word_end_law, word_bytes, word_spot, word_same, word_before}
use Rattle.least.proofs.Sites.{Clean, two_least, match_end, match_fault}
use Rattle.least.proofs.HeaderPrefix.{HeaderStop, Matched, Ready}
use Rattle.least.proofs.WordLaws.{Among, Declaring, declaring, Arguing, arguing, kind_none}
use Rattle.least.proofs.WordFaults.{Stood, NoVariable}
use Rattle.least.proofs.LeastFaults.{seventeenth_least, long_name_least, already_least, long_argument_least}
use Rattle.least.proofs.LeastFaults.{undeclared_argument_least, excess_least}
use Rattle.least.proofs.HeaderFacts.{IsSymbol, Lists, HeaderFacts, which, lists_joined, on, gap_word, gap_clean, gap_passed}
use Rattle.least.proofs.HeaderFacts.{line_spot, line_clean, line_header, line_word, header_facts}

-- what a byte may be
by_byte : {A : Type 0} (b : ℕ) → (b ≡ space → A) → (b ≡ lf → A) → (is_word_byte b ≡ true → A) → A
by_byte {A} b f g h = by (eqb b space) (eqb b lf) refl refl
  where
    by : (t u : Bool) → eqb b space ≡ t → eqb b lf ≡ u → A
    by true u x y = f (eqb-true b space x)
    by false true x y = g (eqb-true b lf y)
    by false false x y = h (rw (x, y))

-- what an order of numbers decides
decided : {A : Type 0} (m n : ℕ) → (m < n) ↔ A → A ⊎ (A → ⊥)
decided m n x = dite (dec_lt m n) (λ h. inl (x.0 h)) λ h. inr λ a. h (x.1 a)

module _ (s : Bytes) where
  -- at the text's beginning, where the first word is not `vars`
  first_fault : (word_at s 0 ≡ vars_word → ⊥) → Fault s 0 2
  first_fault x = which 0 (length s) inside (λ e. end (inr e)) (λ l. absurd (omega arith))
    where
      here : (spot_at s 0).line ≡ 0
      here = ap (λ y. y.line) (spot_zero s)

      none : (spot_at s 0).words ≡ 0
      none = ap (λ y. y.words) (spot_zero s)

      header : Header s 0
      header j q a b = absurd (omega arith)

      end : (at s 0 ≡ lf) ⊎ (0 ≡ length s) → Fault s 0 2
      end e = Fault.missing_word here header e (inl (refl, omega (arith, none)))

      inside : 0 < length s → Fault s 0 2
      inside l = by_byte (at s 0) (λ e. Fault.space_first here (λ j q a b. absurd (omega arith)) e none) (λ e. end (inl e))
          (λ b. Fault.word (record { present = l; byte = b; spot = spot_zero s }) header (WordFault.not_vars refl refl x))

  -- lines stand in the order of their numbers
  line_later : (p q : ℕ) → p ≤ q → q ≤ length s → (spot_at s p).line ≤ (spot_at s q).line
  line_later p q h l = ⊎_elim (λ a. omega arith) (λ a. omega arith) (spot_later s p q h l)

  -- inside the word `match` of the pattern's line no fault stands
  match_inside : {k p : ℕ} → PatternLine s k p → (q n : ℕ) → p < q → q < word_end s p → Fault s q n → ⊥
  match_inside {k} {p} m q n a b f = at_byte f
    where
      spot : spot_at s q ≡ record { line = k; words = 1; inside = true }
      spot = word_spot s m.word q a (omega arith)

      byte : is_word_byte (at s q) ≡ true
      byte = word_bytes s m.word q (omega arith) b

      no_gap : is_word_byte (at s q) ≡ false → ⊥
      no_gap e = false≢true (sym e ∙ byte)

      no_first : (spot_at s q).inside ≡ false → ⊥
      no_first e = true≢false (ap (λ y. y.inside) (sym spot) ∙ e)

      present : q < length s
      present = omega (arith, word_end_law s m.word)

      at_byte : {n : ℕ} → Fault s q n → ⊥
      at_byte (Fault.space_first c d e g) = no_gap (ap is_word_byte e)
      at_byte (Fault.space_twice r c d e g h) = no_gap (ap (λ r. is_word_byte (at s r)) h ∙ ap is_word_byte g)
      at_byte (Fault.space_last c d e g) = no_gap (ap is_word_byte e)
      at_byte (Fault.word v c d) = no_first (ap (λ y. y.inside) v.spot)
      at_byte (Fault.missing_word c d e g) = ⊎_elim (λ l. no_gap (ap is_word_byte l)) (λ l. omega (arith, present)) e
      at_byte (Fault.missing_sym v c) = no_first (ap (λ y. y.inside) v.spot)
      at_byte (Fault.missing_space l c d) =
          ⊎_elim (λ z. omega (arith, present, match_end s l.word l.match))
          (λ z. no_gap (ap (λ r. is_word_byte (at s r)) (d ∙ sym (match_end s l.word l.match)) ∙ z)) (word_end_law s l.word).2
      at_byte (Fault.token l c t d) =
          let z = sym t.on ∙ ap (λ y. y.line) spot in
          omega (arith, word_same s (rw z at l.word) m.word, t.behind, match_end s m.word m.match)
      at_byte (Fault.missing_token l c d e g h) = ⊎_elim (λ l. no_gap (ap is_word_byte l)) (λ l. omega (arith, present)) e
      at_byte (Fault.missing_lf c d e) = omega (arith, present)
      at_byte (Fault.after r l c d e g) =
          no_first (rw g (ap (λ y. y.inside) (spot_step s r (omega arith)) ∙ rw d))

  match_clean : {k p : ℕ} → PatternLine s k p → (k ≡ 1 → ⊥) → Clean s p → Clean s (word_end s p)
  match_clean {k} {p} m x c q n l f =
      which q p (λ b. c q n b f) (λ e. x (match_fault s k p n m (rw e at f))) (λ b. match_inside m q n b l f)

  -- a name that the course does not take has the fault that it gives, and none that comes before it
  declared_least : {p k i n : ℕ} (xs : List Span) → Word s k i (p + 1) → Header s k → Clean s (p + 1) → Declares k i → Lists s Declares p xs
      → Declaring s xs (p + 1) n → (n ≡ 0 → ⊥) → Least s (p + 1) n
  declared_least xs v h c d y (Declaring.fresh a b e) z = absurd (z refl)
  declared_least {p} xs v h c d y (Declaring.unnamed a) z = two_least s (p + 1) c (Fault.word v h (WordFault.no_name d a))
  declared_least xs v h c d y (Declaring.long a b) z = long_name_least s v h c d a b
  declared_least {p} xs v h c d y (Declaring.again a b e) z =
      let x = (y (word_at s (p + 1))).0 e in
      already_least s v h c d a b x.word x.is (omega (arith, x.before)) x.same

  -- an argument likewise
  argument_least : {k i r n : ℕ} (xs : List Span) → Word s k i r → Header s k → Clean s r → IsArgument k i
      → ((Among s xs (word_at s r) → ⊥) → NoVariable s (word_at s r))
      → SymbolNamed s (suc k) (word_at s r) ⊎ (SymbolNamed s (suc k) (word_at s r) → ⊥) → Arguing s xs r n → (n ≡ 0 → ⊥) → Least s r n
  argument_least xs v h c d y g (Arguing.ignored e) z = absurd (z refl)
  argument_least xs v h c d y g (Arguing.variable a b e) z = absurd (z refl)
  argument_least xs v h c d y g (Arguing.fixed n a b) z = absurd (z refl)
  argument_least {r = r} xs v h c d y g (Arguing.unnamed a b e) z = two_least s r c (Fault.word v h (WordFault.no_argument d a b e))
  argument_least {r = r} xs v h c d y g (Arguing.unnumbered a b) z = two_least s r c (Fault.word v h (WordFault.no_number d a b))
  argument_least xs v h c d y g (Arguing.long a b) z = long_argument_least s v h c d a b
  argument_least xs v h c d y g (Arguing.unknown a b e) z = undeclared_argument_least s v h c d a b (λ (i, q, u, t, w). y e i q u t w) g

  module _ {p k i : ℕ} {vs ss : List Span} (f : HeaderFacts s p k i vs ss) where
    -- the words of line 0 stand before p
    no_variable : 1 ≤ k → (w : Bytes) → (Among s vs w → ⊥) → NoVariable s w
    no_variable a w x h q u d e =
        x ((f.variables w).1 (record {
          line = 0;
          number = h;
          place = q;
          word = u;
          is = ⊎_elim (λ y. y) (λ y. absurd (omega arith)) d;
          before = word_before s u p f.inside (inl (omega (arith, on s f)));
          same = e;
        }))

    variable_named : 1 ≤ k → (w : Bytes) → VariableNamed s w ⊎ (VariableNamed s w → ⊥)
    variable_named a w = dite (dec_lt (index_of s vs w) (length vs))
        (λ h. let x = (f.variables w).0 h in
        inl (x.number, x.place, rw x.is.0 at x.word, inl (refl, x.is.1, x.is.2), x.same))
        λ h. inr λ (m, q, u, d, e). no_variable a w h m q u d e

    symbols_before : 3 ≤ i → (w : Bytes) → Among s ss w ↔ SymbolNamed s (suc k) w
    symbols_before h w = (λ a. from ((f.symbols w).0 a), λ z. (f.symbols w).1 (to z))
      where
        from : Stood s IsSymbol p w → SymbolNamed s (suc k) w
        from z =
            let v = z.word in
            let b = line_later z.place p (omega (arith, z.before)) f.inside in
            let l : z.line < suc k = omega (arith, b, ap (λ y. y.line) v.spot, on s f) in
            (z.line, z.place, z.is.0, l, rw z.is.1 at v, z.same)

        to : SymbolNamed s (suc k) w → Stood s IsSymbol p w
        to z = record {
          line = z.0;
          number = 1;
          place = z.1;
          word = z.4;
          is = (z.2, refl);
          before = word_before s z.4 p f.inside
              (⊎_elim (λ e. inr (omega (arith, on s f), omega (arith, ap (λ y. y.words) f.spot))) (λ l. inl (omega (arith, on s f)))
              (eq-or-lt_of_le (le_of_suc-le-suc z.3)));
          same = z.5;
        }

    -- a line that ends where it begins is none of the pattern's
    empty_header : at s p ≡ lf → at s (p + 1) ≡ lf → Header s (suc k)
    empty_header a b j q c l u e =
        ⊎_elim (λ z. which q (p + 1) (earlier z) same (later z)) (λ z. f.header j q c z u e) (eq-or-lt_of_le (le_of_suc-le-suc l))
      where
        line : (spot_at s q).line ≡ j
        line = ap (λ y. y.line) u.spot

        earlier : j ≡ suc k → q < p + 1 → ⊥
        earlier z h = omega (arith, line_later q p (omega arith) f.inside, on s f, line)

        same : q ≡ p + 1 → ⊥
        same h = false≢true (ap is_word_byte (sym b) ∙ ap (λ r. is_word_byte (at s r)) (sym h) ∙ u.byte)

        later : j ≡ suc k → p + 1 < q → ⊥
        later z h =
            let e : (spot_at s (p + 1 + 1)).line ≡ suc (suc k)
            = rw (spot_step s (p + 1) (omega (arith, inside_of s (p + 1) lf b refl)), line_spot s f a, b) in
            omega (arith, line_later (p + 1 + 1) q (omega arith) (omega (arith, u.present)), e, line)

    -- behind the LF at p, where the next line begins with neither `sym` nor, behind the first line, `match`
    line_fault : at s p ≡ lf → (word_at s (p + 1) ≡ sym_word → ⊥) → (word_at s (p + 1) ≡ match_word → k ≡ 0) → Fault s (p + 1) 2
    line_fault a x y = which (p + 1) (length s) inside (λ e. Fault.missing_lf here f.header e)
        (λ l. absurd (omega (arith, inside_of s p lf a refl)))
      where
        here : (spot_at s (p + 1)).line ≡ suc k
        here = ap (λ y. y.line) (line_spot s f a)

        none : (spot_at s (p + 1)).words ≡ 0
        none = ap (λ y. y.words) (line_spot s f a)

        other : Word s (suc k) 0 (p + 1) → (t : Bool) → same_word (word_at s (p + 1)) match_word ≡ t → Fault s (p + 1) 2
        other v true e =
            let m = (same_word_law (word_at s (p + 1)) match_word).0 e in
            Fault.missing_sym (rw (y m) at v) m
        other v false e =
            let m : word_at s (p + 1) ≡ match_word → ⊥ = λ z. false≢true (sym e ∙ (same_word_law (word_at s (p + 1)) match_word).1 z) in
            Fault.word v (line_header s f v m) (WordFault.not_sym (omega arith) refl x)

        inside : p + 1 < length s → Fault s (p + 1) 2
        inside l = by_byte (at s (p + 1)) (λ e. Fault.space_first here f.header e none)
            (λ e. Fault.missing_word here (empty_header a e) (inl e) (inr (omega arith, omega (arith, none))))
            (λ b. other (record { present = l; byte = b; spot = line_spot s f a }) (same_word (word_at s (p + 1)) match_word) refl)

module _ (s : Bytes) (bytes : is_bytes s ≡ true) where
  pub header_stop_least : (q n : ℕ) → HeaderStop s q n → Least s q n
  header_stop_least q n (HeaderStop.no_vars x e) = rw e (two_least s 0 (λ r m l. absurd (omega arith)) (first_fault s x))
  header_stop_least q n (HeaderStop.no_lf k i vs ss c e) =
      let f = header_facts s c in
      two_least s q f.clean (Fault.missing_lf (on s f) (λ j r a b. f.header j r a (omega arith)) e)
  header_stop_least q n (HeaderStop.last_space k i vs ss c a e) =
      let f = header_facts s c in
      two_least s q f.clean (Fault.space_last (on s f) f.header a e)
  header_stop_least q n (HeaderStop.two_spaces p k i vs ss c a b x e) =
      let f = header_facts s c in
      rw e (two_least s (p + 1) (gap_clean s f a x) (Fault.space_twice p (on s f) f.header a b refl))
  header_stop_least q n (HeaderStop.bad_variable p i m vs c a b g e z r) =
      let f = header_facts s c in
      let v = gap_word s f g in
      rw r (declared_least s vs v f.header (gap_passed s f g) (inl (refl, a, b))
      (rw append-nil at (lists_joined s p vs [] f.variables f.symbols)) (rw e at (declaring v vs)) z)
  header_stop_least q n (HeaderStop.fifth_variable p vs ss c g e) =
      let f = header_facts s c in
      rw e (excess_least s (gap_word s f g) f.header (gap_passed s f g) (inl (refl, refl)))
  header_stop_least q n (HeaderStop.few_words k i vs ss c a b e) =
      let f = header_facts s c in
      two_least s q f.clean (Fault.missing_word (on s f) f.header (inl e) (inr (a, omega (arith, ap (λ y. y.words) f.spot))))
  header_stop_least q n (HeaderStop.bad_name p k m vs ss c a g e z r) =
      let f = header_facts s c in
      let v = gap_word s f g in
      rw r (declared_least s (vs ++ ss) v f.header (gap_passed s f g) (inr (a, refl))
      (lists_joined s p vs ss f.variables f.symbols) (rw e at (declaring v (vs ++ ss))) z)
  header_stop_least q n (HeaderStop.bad_kind p k vs ss c a g e r) =
      let f = header_facts s c in
      let v = gap_word s f g in
      rw r (two_least s (p + 1) (gap_passed s f g) (Fault.word v f.header (WordFault.no_kind a refl (kind_none v e))))
  header_stop_least q n (HeaderStop.bad_argument p k i m vs ss c a b d g e z r) =
      let f = header_facts s c in
      let v = gap_word s f g in
      rw r (argument_least s vs v f.header (gap_passed s f g) (a, b, d) (no_variable s f a _)
      (decided _ _ (symbols_before s f b (word_at s (p + 1)))) (rw e at (arguing v vs)) z)
  header_stop_least q n (HeaderStop.fifth_argument p k vs ss c a g e) =
      let f = header_facts s c in
      rw e (excess_least s (gap_word s f g) f.header (gap_passed s f g) (inr (a, refl)))
  header_stop_least q n (HeaderStop.bad_line p k i vs ss c a b l x y e) =
      let f = header_facts s c in
      rw e (two_least s (p + 1) (line_clean s f l b) (line_fault s f l x y))
  header_stop_least q n (HeaderStop.seventeenth p i vs ss c a l e r) =
      let f = header_facts s c in
      let v = line_word s f l _ _ e in
      rw r (seventeenth_least s v (line_header s f v λ m. omega (arith, ap length (sym e ∙ m))) (line_clean s f l λ _. a) refl refl e)

  pub matched_ready : (e : ℕ) (vs ss : List Span) → Matched s e vs ss → Ready s ss e
  matched_ready e vs ss m =
      let f = header_facts s m.prefix in
      let v = line_word s f m.ended _ _ m.match in
      let l : PatternLine s (suc m.k) (m.p + 1) = record { word = v; match = m.match; behind = omega arith; first = f.header } in
      let x : suc m.k ≡ 1 → ⊥ = λ z. omega (arith, m.lines) in
      record {
        k = suc m.k;
        p = m.p + 1;
        line = l;
        end = m.end ∙ match_end s v m.match;
        clean = rw m.end (match_clean s l x (line_clean s f m.ended λ _. m.words));
        later = x;
        known = symbols_before s f m.words;
        variable = variable_named s f m.lines.0;
      }
