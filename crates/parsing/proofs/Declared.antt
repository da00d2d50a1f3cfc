-- The reader's course over the lines `sym NAME KIND ARGS`, up to the word `match`.
use mathlib.Core.Path.{◌≡◌, refl, sym, ap, ap₂, subst, ◌∙◌}
use mathlib.Core.Bool.{Bool, true, false, cond, ◌&&◌}
use mathlib.Core.List.{List, [], ◌∷◌, ◌++◌, map, append-nil, append_assoc}
use Prim.Native.Nat.{ℕ, zero, suc, ◌+◌, ◌≤◌}
use native.Mathlib.Omega.{arith}
use borrow.Author.Tests.{eqb-false, ne_eqb}
use lib.Dec.{eqb}
use lib.ListN.{length, drop, length-append, length-drop}
use lib.Seq.{append_snoc}
use Rattle.laws.specs.Lists.{all, gather}
use Rattle.laws.proofs.Lists.{and_true_split}
use Rattle.meaning.specs.Events.{Symbol}
use Rattle.meaning.specs.Book.{sound_symbol}
use Rattle.form.specs.Text.{Bytes, lf, is_name, sym_word, match_word, Span, spaced, sym_line, symbol_spans, SymbolLine, symbol_of}
use Rattle.form.specs.Form.{same_word, distinct}
use Rattle.form.specs.Scan.{go, run, is_word_byte}
use Rattle.form.specs.Lines.{bytes_at, Table, Lines, symbol_from, lines_from}
use Rattle.parsing.proofs.Scans.{same_word_law}
use Rattle.parsing.proofs.Words.{Word, word_end_law, word_part, word_here, word_inside, behind}
use Rattle.parsing.proofs.Names.{distinct_fresh, distinct_snoc}
use Rattle.parsing.proofs.VarsLine.{Outcome, fine, faulty, outcome_on, span_at, names_snoc, spaced_stops}
use Rattle.parsing.proofs.SymbolLines.{line_words, SymbolFound, symbol_bytes, symbol_read_law, symbol_course}

-- the names that lines declare
abbrev names_of : List SymbolLine → List Bytes
names_of ls = map (λ l. l.name) ls

abbrev sound_line : List Bytes → SymbolLine → Bool
sound_line vs l = sound_symbol (length vs) (symbol_of l)

-- new symbols are written from p on, and then the word `match`, where n have been read and there is room for so many
pub record LinesRead (s : Bytes) (vs ks : List Bytes) (room n p : ℕ) : Type 0 where
  pub lines : List SymbolLine
  pub rest : Bytes
  pub text : drop p s ≡ gather (sym_line vs) lines ++ (match_word ++ rest)
  pub stops : run is_word_byte rest ≡ 0
  pub named : all is_name (map (λ l. l.name) lines) ≡ true
  pub distinct : distinct (ks ++ map (λ l. l.name) lines) ≡ true
  pub few : length lines ≤ room
  pub some : 1 ≤ n + length lines
  pub sound : all (λ l. sound_symbol (length vs) (symbol_of l)) lines ≡ true

-- the course over lines, with room for so many, comes to that or to a fault
abbrev pub LinesCourse : Bytes → List Bytes → ℕ → Type 0
LinesCourse s vs room = (t : Table) (ks : List Bytes) (p : ℕ) → map (bytes_at s) t.variables ≡ vs
    → map (bytes_at s) (t.variables ++ t.symbols) ≡ ks → distinct ks ≡ true → 1 ≤ room + length t.table → p ≤ length s
    → Outcome s (lines_from s room t p).step (LinesRead s vs ks room (length t.table) p)

-- the first line
pub line_text : (vs : List Bytes) (l : SymbolLine) (rest : Bytes) → sym_line vs l ++ rest ≡ sym_word ++ (spaced (line_words vs l) ++ (lf ∷ rest))
line_text vs l rest = ap (λ r. sym_word ++ r) (append_assoc (spaced (line_words vs l)) (lf ∷ []) rest)

lines_first : (vs : List Bytes) (l : SymbolLine) (ls : List SymbolLine) (rest : Bytes)
    → gather (sym_line vs) (l ∷ ls) ++ rest ≡ sym_word ++ (spaced (line_words vs l) ++ (lf ∷ (gather (sym_line vs) ls ++ rest)))
lines_first vs l ls rest = append_assoc (sym_line vs l) (gather (sym_line vs) ls) rest ∙ line_text vs l (gather (sym_line vs) ls ++ rest)

-- the table with one line more, which begins at p
with_line : Table → ℕ → SymbolLine → Table
with_line t p l =
    record { variables = t.variables; symbols = t.symbols ++ (span_at (p + 4) l.name ∷ []); table = t.table ++ (symbol_of l ∷ []) }

module _ (s : Bytes) (vs : List Bytes) (named : all is_name vs ≡ true) (d : distinct vs ≡ true) where
  lines_next : (room : ℕ) (t : Table) (ks : List Bytes) (p : ℕ) (rest : Bytes) → map (bytes_at s) t.variables ≡ vs
      → map (bytes_at s) (t.variables ++ t.symbols) ≡ ks → Word s p sym_word rest → (r : SymbolFound s vs ks (p + 3))
      → lines_from s (suc room) t p ≡ lines_from s room (with_line t p r.line) (p + length (sym_line vs r.line))
  unfolding with_line
  lines_next room t ks p rest g f w r =
      let e : p + 3 + 1 ≡ p + 4 = omega arith in
      let q : p + 3 + length (spaced (line_words vs r.line)) + 1 ≡ p + length (sym_line vs r.line) =
      omega (arith, length-append (spaced (line_words vs r.line)) (lf ∷ [])) in
      rw (word_part w, word_end_law w, symbol_read_law s t vs ks g f named d (p + 3) r, e, q)

  -- the names known after a line
  names_line : (t : Table) (ks : List Bytes) (p : ℕ) → map (bytes_at s) (t.variables ++ t.symbols) ≡ ks → (r : SymbolFound s vs ks (p + 3))
      → map (bytes_at s) (t.variables ++ (t.symbols ++ (span_at (p + 4) r.line.name ∷ []))) ≡ ks ++ (r.line.name ∷ [])
  names_line t ks p f r =
      let x = span_at (p + 4) r.line.name in
      let e : p + 3 + 1 ≡ p + 4 = omega arith in
      ap (map (bytes_at s)) (sym (append_assoc t.variables t.symbols (x ∷ [])))
      ∙ names_snoc s (t.variables ++ t.symbols) x ks r.line.name f (rw e at (symbol_bytes r))

  made : Table → ℕ → List Span → List Symbol → Lines
  made t q ys zs = record { step = go q; table = record { variables = t.variables; symbols = ys; table = zs } }

  -- at the word `match`
  lines_ended : (room : ℕ) (t : Table) (p : ℕ) (rest : Bytes) → Word s p match_word rest → 1 ≤ length t.table
      → lines_from s room t p ≡ record { step = go (p + 5); table = t }
  lines_ended zero t p rest w k = rw (word_part w, word_end_law w)
  lines_ended (suc room) t p rest w k = rw (word_part w, word_end_law w, ne_eqb (length t.table) 0 (λ i. omega arith))

  -- lines that are written are read
  pub lines_read_law : (room : ℕ) (t : Table) (ks : List Bytes) (p : ℕ) (ls : List SymbolLine) (rest : Bytes) → map (bytes_at s) t.variables ≡ vs
      → map (bytes_at s) (t.variables ++ t.symbols) ≡ ks → drop p s ≡ gather (sym_line vs) ls ++ (match_word ++ rest) → run is_word_byte rest ≡ 0
      → all is_name (map (λ l. l.name) ls) ≡ true → distinct (ks ++ map (λ l. l.name) ls) ≡ true
      → length ls ≤ room → 1 ≤ length t.table + length ls → all (λ l. sound_symbol (length vs) (symbol_of l)) ls ≡ true
      → lines_from s room t p
      ≡ record {
        step = go (p + length (gather (sym_line vs) ls) + 5);
        table = record { variables = t.variables; symbols = t.symbols ++ symbol_spans p vs ls; table = t.table ++ map symbol_of ls };
      }
  unfolding made with_line
  lines_read_law room t ks p [] rest g f e h n c l k o =
      let q : p + 5 ≡ p + 0 + 5 = omega arith in
      lines_ended room t p rest (record { text = e; word = refl; stops = h }) (omega arith)
      ∙ (λ i. made t (q i) (sym (append-nil t.symbols) i) (sym (append-nil t.table) i))
  lines_read_law zero t ks p (y ∷ ls) rest g f e h n c l k o = absurd (omega arith)
  lines_read_law (suc room) t ks p (y ∷ ls) rest g f e h n c l k o =
      let tail = gather (sym_line vs) ls ++ (match_word ++ rest) in
      let w : Word s p sym_word (spaced (line_words vs y) ++ (lf ∷ tail)) =
      record { text = e ∙ lines_first vs y ls (match_word ++ rest); word = refl; stops = spaced_stops (line_words vs y) tail } in
      let a = and_true_split (is_name y.name) (all is_name (names_of ls)) n in
      let b = and_true_split (sound_line vs y) (all (sound_line vs) ls) o in
      let r : SymbolFound s vs ks (p + 3) = record {
        line = y;
        rest = tail;
        text = behind s p sym_word _ w.text;
        named = a.0;
        fresh = distinct_fresh ks y.name (names_of ls) c;
        sound = b.0;
      } in
      let q : p + length (sym_line vs y) + length (gather (sym_line vs) ls) + 5 ≡ p + length (gather (sym_line vs) (y ∷ ls)) + 5 =
      omega (arith, length-append (sym_line vs y) (gather (sym_line vs) ls)) in
      lines_next room t ks p _ g f w r
      ∙ lines_read_law room (with_line t p y) (ks ++ (y.name ∷ [])) (p + length (sym_line vs y)) ls rest g (names_line t ks p f r)
      (behind s p (sym_line vs y) tail (e ∙ append_assoc (sym_line vs y) (gather (sym_line vs) ls) (match_word ++ rest)))
      h a.1 (rw (append_snoc ks y.name (names_of ls)) c) (omega arith) (omega (arith, length-append t.table (symbol_of y ∷ []))) b.1
      ∙ (λ i. made t (q i) (append_snoc t.symbols (span_at (p + 4) y.name) (symbol_spans (p + length (sym_line vs y)) vs ls) i)
      (append_snoc t.table (symbol_of y) (map symbol_of ls) i))

  no_lines : (ks : List Bytes) (room n p : ℕ) (w rest : Bytes) → Word s p w rest → distinct ks ≡ true → 1 ≤ n → same_word w match_word ≡ true
      → LinesRead s vs ks room n p
  no_lines ks room n p w rest h c k e = record {
    lines = [];
    rest = rest;
    text = h.text ∙ ap (λ v. v ++ rest) ((same_word_law w match_word).0 e);
    stops = h.stops;
    named = refl;
    distinct = rw (append-nil ks) c;
    few = omega arith;
    some = omega arith;
    sound = refl;
  }

  line_found : (ks : List Bytes) (p : ℕ) (rest : Bytes) → Word s p sym_word rest → (r : SymbolFound s vs ks (p + 3))
      → drop p s ≡ sym_line vs r.line ++ r.rest
  line_found ks p rest w r =
      w.text ∙ ap (λ v. sym_word ++ v) (sym (behind s p sym_word rest w.text) ∙ r.text) ∙ sym (line_text vs r.line r.rest)

  -- one line before others
  more_lines : (ks : List Bytes) (room n m p : ℕ) (rest : Bytes) → Word s p sym_word rest → (r : SymbolFound s vs ks (p + 3))
      → LinesRead s vs (ks ++ (r.line.name ∷ [])) room m (p + length (sym_line vs r.line)) → LinesRead s vs ks (suc room) n p
  more_lines ks room n m p rest w r q = record {
    lines = r.line ∷ q.lines;
    rest = q.rest;
    text = line_found ks p rest w r
        ∙ ap (λ v. sym_line vs r.line ++ v) (sym (behind s p (sym_line vs r.line) r.rest (line_found ks p rest w r)) ∙ q.text)
        ∙ sym (append_assoc (sym_line vs r.line) (gather (sym_line vs) q.lines) (match_word ++ q.rest));
    stops = q.stops;
    named = ap₂ ◌&&◌ r.named q.named;
    distinct = rw (append_snoc ks r.line.name (names_of q.lines)) at q.distinct;
    few = omega arith;
    some = omega arith;
    sound = ap₂ ◌&&◌ r.sound q.sound;
  }

  -- no line begins
  lines_other : (room : ℕ) (t : Table) (ks : List Bytes) (p : ℕ) (w rest : Bytes) → Word s p w rest → distinct ks ≡ true → p ≤ length s
      → same_word w sym_word ≡ false → Outcome s (lines_from s (suc room) t p).step (LinesRead s vs ks (suc room) (length t.table) p)
  lines_other room t ks p w rest h c l e = by (same_word w match_word) (eqb (length t.table) 0) refl refl
    where
      by : (a b : Bool) → same_word w match_word ≡ a → eqb (length t.table) 0 ≡ b
          → Outcome s (lines_from s (suc room) t p).step (LinesRead s vs ks (suc room) (length t.table) p)
      by true true i j = faulty (rw (word_part h, e, i, j)) (rw (word_part h, e, i, j) l)
      by true false i j = fine (no_lines ks (suc room) (length t.table) p w rest h c (omega (arith, eqb-false (length t.table) 0 j)) i)
      by false b i j = faulty (rw (word_part h, e, i)) (rw (word_part h, e, i) l)

  -- a line begins
  lines_line : (room : ℕ) (t : Table) (ks : List Bytes) (p : ℕ) (rest : Bytes) → map (bytes_at s) t.variables ≡ vs
      → map (bytes_at s) (t.variables ++ t.symbols) ≡ ks → distinct ks ≡ true → Word s p sym_word rest → p ≤ length s
      → LinesCourse s vs room
      → Outcome s (symbol_from s t (p + 3)).step (SymbolFound s vs ks (p + 3))
      → Outcome s (lines_from s (suc room) t p).step (LinesRead s vs ks (suc room) (length t.table) p)
  unfolding with_line
  lines_line room t ks p rest g f c w l ih (fine r) =
      outcome_on (ap (λ x. x.step) (lines_next room t ks p rest g f w r)) (more_lines ks room (length t.table) _ p rest w r)
      (ih (with_line t p r.line) (ks ++ (r.line.name ∷ [])) (p + length (sym_line vs r.line)) g (names_line t ks p f r)
      (distinct_snoc ks r.line.name c r.fresh) (omega (arith, length-append t.table (symbol_of r.line ∷ [])))
      (omega (arith, length-drop p s, ap length (line_found ks p rest w r), length-append (sym_line vs r.line) r.rest)))
  lines_line room t ks p rest g f c w l ih (faulty h i) = faulty (rw (word_part w, word_end_law w, h) h) (rw (word_part w, word_end_law w, h) i)

  pub lines_course : (room : ℕ) → LinesCourse s vs room
  lines_course zero t ks p g f c k l = by (word_here s p)
    where
      number : (b : Bool) → eqb (cond b 3 2) 0 ≡ false
      number true = refl
      number false = refl

      by : (w : Bytes) × (rest : Bytes) × Word s p w rest → Outcome s (lines_from s 0 t p).step (LinesRead s vs ks 0 (length t.table) p)
      by (w, rest, h) = last (same_word w match_word) refl
        where
          last : (b : Bool) → same_word w match_word ≡ b → Outcome s (lines_from s 0 t p).step (LinesRead s vs ks 0 (length t.table) p)
          last true e = fine (no_lines ks 0 (length t.table) p w rest h c (omega arith) e)
          last false e = faulty (rw (word_part h, e) (number (same_word w sym_word))) (rw (word_part h, e) l)
  lines_course (suc room) t ks p g f c k l = by (lines_course room) (word_here s p)
    where
      by : LinesCourse s vs room → (w : Bytes) × (rest : Bytes) × Word s p w rest
          → Outcome s (lines_from s (suc room) t p).step (LinesRead s vs ks (suc room) (length t.table) p)
      by ih (w, rest, h) = first (same_word w sym_word) refl
        where
          first : (b : Bool) → same_word w sym_word ≡ b → Outcome s (lines_from s (suc room) t p).step (LinesRead s vs ks (suc room) (length t.table) p)
          first true e =
              let i : Word s p sym_word rest = subst (λ v. Word s p v rest) ((same_word_law w sym_word).0 e) h in
              lines_line room t ks p rest g f c i l ih (symbol_course s t vs ks g f (p + 3) (word_inside i l))
          first false e = lines_other room t ks p w rest h c l e
