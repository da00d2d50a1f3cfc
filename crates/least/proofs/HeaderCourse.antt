-- The reader's course over the lines before the pattern reads prefixes (HeaderPrefix), and stops where HeaderStop says. Each function
-- of the course has its law over a room that is a variable: with the limits in sight the calls would compute. For Refused.
use mathlib.Core.Path.{◌≡◌, refl, sym, ◌∙◌}
use mathlib.Core.Bool.{true, false, cond, true≢false}
use mathlib.Core.List.{List, [], ◌∷◌, ◌++◌}
use Prim.Native.Nat.{ℕ, zero, suc, ◌+◌, ◌≤◌}
use native.Mathlib.Omega.{arith}
use borrow.Author.Tests.{eq-eqb, ne_eqb}
use lib.Dec.{eqb}
use lib.ListN.{length, length-append}
use Rattle.laws.proofs.Lists.{either}
use Rattle.meaning.specs.Events.{Parameter}
use Rattle.form.specs.Text.{Bytes, is_bytes, lf, vars_word, sym_word, match_word, Span}
use Rattle.form.specs.Form.{same_word}
use Rattle.form.specs.Scan.{Step, go, fail, at, word_end, kind_of}
use Rattle.form.specs.Lines.{span_of, declare_fault, argument_fault, Table, Variables, variables_from, Arguments, arguments_from, want_word}
use Rattle.form.specs.Lines.{SymbolRead, no_symbol_read, kind_from, symbol_from, no_table, with_symbol, Lines, lines_from, lines_of}
use Rattle.parsing.proofs.Scans.{same_word_law}
use Rattle.parsing.proofs.TokenScan.{by_equal}
use Rattle.fault.specs.Places.{word_at}
use Rattle.least.proofs.HeaderPrefix.{HeaderPrefix, opened, variable, line, named, kinded, argued, HeaderStop, Matched}
use Rattle.least.proofs.HeaderPrefix.{no_vars, bad_variable, fifth_variable, bad_name, bad_kind, bad_argument, fifth_argument, bad_line, seventeenth}
use Rattle.least.proofs.Gaps.{gap, want}

-- what comes of a step of the course: it goes on, and then F is so; or it stops
pub record Progress (s : Bytes) (x : Step) (F : Type 0) : Type 0 where
  pub goes : x.fault ≡ 0 → F
  pub stops : (x.fault ≡ 0 → ⊥) → HeaderStop s x.place x.fault

on : {s : Bytes} {x : Step} {F : Type 0} → x.fault ≡ 0 → F → Progress s x F
on z f = record { goes = λ _. f; stops = λ n. absurd (n z) }

off : {s : Bytes} {x : Step} {F : Type 0} → (x.fault ≡ 0 → ⊥) → HeaderStop s x.place x.fault → Progress s x F
off n h = record { goes = λ z. absurd (n z); stops = λ _. h }

-- a word that is not the same is another
other : {v : Bytes} (w : Bytes) → same_word v w ≡ false → v ≡ w → ⊥
other {v} w e f = true≢false (sym ((same_word_law v w).1 f) ∙ e)

-- `Read s k vs ss q`: line k is read, with the words it needs, and q is the place behind its LF
pub data Read (s : Bytes) (k : ℕ) (vs ss : List Span) : ℕ → Type 0 where
  read : (p i : ℕ) → HeaderPrefix s p k i vs ss → (1 ≤ k → 3 ≤ i) → at s p ≡ lf → Read s k vs ss (p + 1)

module _ (s : Bytes) (bytes : is_bytes s ≡ true) where
  abbrev VariablesProgress : Variables → Type 0
  VariablesProgress v = Progress s v.step (Read s 0 v.spans [] v.step.place)

  -- the course over variable names, with room for so many more
  abbrev VariablesCourse : ℕ → Type 0
  VariablesCourse room = (xs : List Span) (p i : ℕ) → HeaderPrefix s p 0 i xs [] → 1 ≤ i → i + room ≡ 5 → VariablesProgress (variables_from s room xs p)

  variables_none : VariablesCourse 0
  variables_none xs p i c l r =
      let five : i ≡ 5 = omega arith in
      gap s bytes c
      (λ e h. rw (h, eq-eqb p p refl) (on refl (read p i c (λ z. absurd (omega arith)) e)))
      (λ g h. rw (h, ne_eqb (p + 1) p (λ z. omega arith)) (off (λ z. omega arith) (fifth_variable p xs [] (rw five at c) g refl)))
      λ x n y h. rw (h, ne_eqb x.fault 0 n) (off n y)

  variables_more : (room : ℕ) → VariablesCourse room → VariablesCourse (suc room)
  variables_more room more xs p i c l r =
      gap s bytes c
      (λ e h. rw (h, eq-eqb p p refl) (on refl (read p i c (λ z. absurd (omega arith)) e)))
      (λ g h. rw (h, ne_eqb (p + 1) p (λ z. omega arith)) (by_equal VariablesProgress (declare_fault s xs (p + 1) (word_end s (p + 1))) 0
      (λ e. more _ _ (suc i) (variable p i xs c l (omega arith) g e) (omega arith) (omega arith))
      λ n. off n (bad_variable p i _ xs c l (omega arith) g refl n refl)))
      λ x n y h. rw (h, ne_eqb x.fault 0 n) (off n y)

  variables_progress : (room : ℕ) → VariablesCourse room
  variables_progress zero = variables_none
  variables_progress (suc room) = variables_more room (variables_progress room)

  module _ (k : ℕ) (vs ss : List Span) (l : 1 ≤ k) where
    abbrev ArgumentsProgress : Arguments → Type 0
    ArgumentsProgress a = Progress s a.step (Read s k vs ss a.step.place)

    -- the course over arguments, with room for so many more
    abbrev ArgumentsCourse : ℕ → Type 0
    ArgumentsCourse room =
        (ps : List Parameter) (p i : ℕ) → HeaderPrefix s p k i vs ss → 3 ≤ i → i + room ≡ 7 → ArgumentsProgress (arguments_from s vs room ps p)

    arguments_none : ArgumentsCourse 0
    arguments_none ps p i c m r =
        let seven : i ≡ 7 = omega arith in
        gap s bytes c
        (λ e h. rw (h, eq-eqb p p refl) (on refl (read p i c (λ _. m) e)))
        (λ g h. rw (h, ne_eqb (p + 1) p (λ z. omega arith)) (off (λ z. omega arith) (fifth_argument p k vs ss (rw seven at c) l g refl)))
        λ x n y h. rw (h, ne_eqb x.fault 0 n) (off n y)

    arguments_more : (room : ℕ) → ArgumentsCourse room → ArgumentsCourse (suc room)
    arguments_more room more ps p i c m r =
        gap s bytes c
        (λ e h. rw (h, eq-eqb p p refl) (on refl (read p i c (λ _. m) e)))
        (λ g h. rw (h, ne_eqb (p + 1) p (λ z. omega arith)) (by_equal ArgumentsProgress (argument_fault s vs (p + 1) (word_end s (p + 1))) 0
        (λ e. more _ _ (suc i) (argued p k i vs ss c l m (omega arith) g e) (omega arith) (omega arith))
        λ n. off n (bad_argument p k i _ vs ss c l m (omega arith) g refl n refl)))
        λ x n y h. rw (h, ne_eqb x.fault 0 n) (off n y)

    arguments_progress : (room : ℕ) → ArgumentsCourse room
    arguments_progress zero = arguments_none
    arguments_progress (suc room) = arguments_more room (arguments_progress room)

    -- what is read behind the symbol's name x
    abbrev SymbolProgress : Span → SymbolRead → Type 0
    SymbolProgress x r = Progress s r.step (Read s k vs ss r.step.place × (r.name ≡ x))

    -- KIND, and then ARGS, whose course is left open: with the count of their room it would compute
    kind_ways : (x : Span) (p : ℕ) (others : ℕ → Arguments) → HeaderPrefix s p k 2 vs ss
        → ((q : ℕ) → HeaderPrefix s q k 3 vs ss → ArgumentsProgress (others q))
        → let w = want_word s p in let e = word_end s w.place in let n = kind_of s w.place e in let r = others e in
        let whole : SymbolRead = record { step = r.step; name = x; symbol = record { kind = n; parameters = r.parameters } } in
        let some = cond (eqb r.step.fault 0) whole (no_symbol_read r.step) in
        let kinded = cond (eqb n 0) (no_symbol_read (fail 2 w.place)) some in
        SymbolProgress x (cond (eqb w.fault 0) kinded (no_symbol_read w))
    kind_ways x p others c more =
        want s bytes c l (omega arith)
        (λ g h. rw h (by_equal (SymbolProgress x) (kind_of s (p + 1) (word_end s (p + 1))) 0
        (λ e. off (λ z. omega arith) (bad_kind p k vs ss c l g e refl))
        λ n. let y = more _ (kinded p k vs ss c l g n) in
        by_equal (SymbolProgress x) (others (word_end s (p + 1))).step.fault 0 (λ z. on z (y.goes z, refl)) λ m. off m (y.stops m)))
        λ y n z h. rw (h, ne_eqb y.fault 0 n) (off n z)

    kind_progress : (x : Span) (p : ℕ) → HeaderPrefix s p k 2 vs ss → SymbolProgress x (kind_from s vs x p)
    unfolding kind_from
    kind_progress x p c = kind_ways x p (arguments_from s vs 4 []) c λ q d. arguments_progress 4 [] q 3 d (omega arith) refl

  -- a line behind the word `sym`
  symbol_progress : (t : Table) (k p : ℕ) → 1 ≤ k → HeaderPrefix s p k 1 t.variables t.symbols → let r = symbol_from s t p in
      Progress s r.step (Read s k t.variables (t.symbols ++ (r.name ∷ [])) r.step.place)
  unfolding symbol_from
  symbol_progress t k p l c =
      let vs = t.variables in
      let ss = t.symbols in
      let e = word_end s (p + 1) in
      let Named : SymbolRead → Type 0 = λ r. Progress s r.step (Read s k vs (ss ++ (r.name ∷ [])) r.step.place) in
      want s bytes c l (omega arith)
      (λ g h. rw h (by_equal Named (declare_fault s (vs ++ ss) (p + 1) e) 0
      (λ d. let y = kind_progress k vs (ss ++ (span_of (p + 1) e ∷ [])) l (span_of (p + 1) e) e (named p k vs ss c l g d) in record {
        goes = λ z. let (f, name) = y.goes z in rw name f;
        stops = y.stops;
      })
      λ n. off n (bad_name p k _ vs ss c l g refl n refl)))
      λ x n y h. rw (h, ne_eqb x.fault 0 n) (off n y)

  abbrev LinesProgress : Lines → Type 0
  LinesProgress a = Progress s a.step (Matched s a.step.place a.table.variables a.table.symbols)

  -- the course over the lines from line k + 1 on, with room for so many more
  abbrev LinesCourse : ℕ → Type 0
  LinesCourse room = (t : Table) (q k : ℕ) → Read s k t.variables t.symbols q → length t.table ≡ k → k + room ≡ 16
      → LinesProgress (lines_from s room t q)

  -- at the word `match`
  matched : (t : Table) (p k i : ℕ) → HeaderPrefix s p k i t.variables t.symbols → (1 ≤ k → 3 ≤ i) → at s p ≡ lf → 1 ≤ k → k ≤ 16
      → word_at s (p + 1) ≡ match_word → LinesProgress (record { step = go (word_end s (p + 1)); table = t })
  matched t p k i c w e l m h =
      on refl (record { p = p; k = k; i = i; prefix = c; lines = (l, m); words = w l; ended = e; match = h; end = refl })

  lines_none : LinesCourse 0
  lines_none t q k (read p i c w e) n m =
      let x = word_at s (p + 1) in
      let vs = t.variables in
      let ss = t.symbols in
      let all : k ≡ 16 = omega arith in
      let Here : Step → Type 0 = λ y. LinesProgress (record { step = y; table = t }) in
      either Here (same_word x match_word) (λ h. matched t p k i c w e (omega arith) (omega arith) ((same_word_law x match_word).0 h))
      λ h. either (λ f. Here (fail f (p + 1))) (same_word x sym_word)
      (λ a. off (λ z. omega arith) (seventeenth p i vs ss (rw all at c) (w (omega arith)) e ((same_word_law x sym_word).0 a) refl))
      λ a. off (λ z. omega arith) (bad_line p k i vs ss c (omega arith) w e (other sym_word a) (λ b. absurd (other match_word h b)) refl)

  lines_more : (room : ℕ) → LinesCourse room → LinesCourse (suc room)
  lines_more room more t q k (read p i c w e) n m =
      let x = word_at s (p + 1) in
      let f = word_end s (p + 1) in
      let vs = t.variables in
      let ss = t.symbols in
      let r = symbol_from s t f in
      let Here : Step → Type 0 = λ y. LinesProgress (record { step = y; table = t }) in
      either LinesProgress (same_word x sym_word)
      (λ h. let y = symbol_progress t (suc k) f (omega arith) (line p k i vs ss c (omega arith) w e ((same_word_law x sym_word).0 h)) in
      by_equal LinesProgress r.step.fault 0
      (λ z. more (with_symbol t r) _ (suc k) (y.goes z) (omega (arith, length-append t.table (r.symbol ∷ []))) (omega arith))
      λ z. off z (y.stops z))
      λ h. either Here (same_word x match_word)
      (λ a. by_equal Here (length t.table) 0
      (λ z. off (λ z. omega arith) (bad_line p k i vs ss c (omega arith) w e (other sym_word h) (λ _. omega arith) refl))
      λ z. matched t p k i c w e (omega arith) (omega arith) ((same_word_law x match_word).0 a))
      λ a. off (λ z. omega arith) (bad_line p k i vs ss c (omega arith) w e (other sym_word h) (λ b. absurd (other match_word a b)) refl)

  lines_from_law : (room : ℕ) → LinesCourse room
  lines_from_law zero = lines_none
  lines_from_law (suc room) = lines_more room (lines_from_law room)

  -- the whole course, the counts of the room kept out of sight
  lines_progress : LinesProgress (lines_of s)
  unfolding lines_of
  lines_progress =
      let e = word_end s 0 in
      let v = variables_from s 4 [] e in
      let t : Table = record { variables = v.spans; symbols = []; table = [] } in
      ways v (lines_from s 16 t v.step.place) (λ h. variables_progress 4 [] e 1 (opened h) (omega arith) refl)
      λ r. lines_from_law 16 t _ 0 r refl refl
    where
      ways : (v : Variables) (others : Lines) → (word_at s 0 ≡ vars_word → VariablesProgress v)
          → (Read s 0 v.spans [] v.step.place → LinesProgress others)
          → let lines = cond (eqb v.step.fault 0) others (record { step = v.step; table = no_table }) in
          LinesProgress (cond (same_word (word_at s 0) vars_word) lines (record { step = fail 2 0; table = no_table }))
      ways v others vars more =
          either LinesProgress (same_word (word_at s 0) vars_word)
          (λ e. let y = vars ((same_word_law _ vars_word).0 e) in
          by_equal LinesProgress v.step.fault 0 (λ z. more (y.goes z)) λ n. off n (y.stops n))
          λ e. off (λ z. omega arith) (no_vars (other vars_word e) refl)

  pub lines_stop : ((lines_of s).step.fault ≡ 0 → ⊥) → HeaderStop s (lines_of s).step.place (lines_of s).step.fault
  lines_stop h = lines_progress.stops h

  pub lines_matched : (lines_of s).step.fault ≡ 0
      → Matched s (lines_of s).step.place (lines_of s).table.variables (lines_of s).table.symbols
  lines_matched h = lines_progress.goes h
