-- The reader's course over one line `sym NAME KIND ARGS`, behind the word `sym`.
use mathlib.Core.Path.{◌≡◌, refl, sym, ap, ap₂, ◌∙◌}
use mathlib.Core.Bool.{Bool, true, false, cond, not, ◌&&◌}
use mathlib.Core.List.{List, [], ◌∷◌, ◌++◌, map}
use Prim.Native.Nat.{ℕ, ◌+◌, ◌≤◌}
use native.Mathlib.Omega.{arith}
use borrow.Author.Tests.{not-true, eq-eqb, eqb-false, ne_eqb, leb-true, le-leb}
use lib.Dec.{eqb, leb}
use lib.ListN.{length, drop, length-append}
use Rattle.laws.specs.Lists.{all}
use Rattle.laws.proofs.Lists.{and_true_split}
use Rattle.meaning.specs.Events.{Symbol}
use Rattle.meaning.specs.Book.{sound_parameter, sound_symbol}
use Rattle.form.specs.Text.{Bytes, space, lf, is_name, decimal, Span, spaced, parameter_word, SymbolLine, symbol_of}
use Rattle.form.specs.Form.{distinct}
use Rattle.form.specs.Scan.{Step, go, fail, word_end}
use Rattle.form.specs.Lines.{bytes_at, Table, Arguments, SymbolRead, no_symbol_read, declare_fault, arguments_from, want_word, kind_from, symbol_from}
use Rattle.parsing.proofs.Words.{word_end_law, behind, part_first, Next, word_next, next_behind, next_inside, byte_inside, Gap, ended, next, failed, gap}
use Rattle.parsing.proofs.Names.{known, is_new, name_word, declare_tested}
use Rattle.parsing.proofs.Numerals.{kind_in, kind_of_law, kind_read, kind_found}
use Rattle.parsing.proofs.VarsLine.{Outcome, faulty, outcome_on, span_at, span_of_law, spaced_stops, spaced_first}
use Rattle.parsing.proofs.Arguments.{arguments_read_law, arguments_course}

-- a word that must stand
want_next : {s : Bytes} {p : ℕ} {w rest : Bytes} → Next s p w rest → want_word s p ≡ go (p + 1)
unfolding want_word
want_next {p} n = rw (n.goes, ne_eqb (p + 1) p (λ i. omega arith))

data Want (s : Bytes) (p : ℕ) : Type 0 where
  got : (w rest : Bytes) → Next s p w rest → Want s p
  missing : (n : Step) → want_word s p ≡ n → n.fault ≡ 2 → n.place ≤ length s → Want s p

want : (s : Bytes) (p : ℕ) → p ≤ length s → Want s p
unfolding want_word
want s p l = by (gap s p)
  where
    by : Gap s p → Want s p
    by (ended e rest t) = missing (fail 2 p) (rw (e, eq-eqb p p refl)) refl l
    by (next w rest n) = got w rest n
    by (failed n e f i) = missing n (rw (e, f)) f (i l)

-- KIND and ARGS are written from p on, up to the line's end
record KindRead (s : Bytes) (vs : List Bytes) (p : ℕ) : Type 0 where
  pub symbol : Symbol
  pub rest : Bytes
  pub text : drop p s ≡ spaced (decimal symbol.kind ∷ map (parameter_word vs) symbol.parameters) ++ (lf ∷ rest)
  pub sound : sound_symbol (length vs) symbol ≡ true

sound_split : (n : ℕ) (y : Symbol) → sound_symbol n y ≡ true
    → (1 ≤ y.kind) × (y.kind ≤ 255) × (length y.parameters ≤ 4) × (all (sound_parameter n) y.parameters ≡ true)
unfolding sound_symbol
sound_split n y h =
    let a = and_true_split _ (all (sound_parameter n) y.parameters) h in
    let b = and_true_split _ (leb (length y.parameters) 4) a.0 in
    let c = and_true_split (leb 1 y.kind) (leb y.kind 255) b.0 in
    (leb-true 1 y.kind c.0, leb-true y.kind 255 c.1, leb-true (length y.parameters) 4 b.1, a.1)

sound_of : (n : ℕ) (y : Symbol) → 1 ≤ y.kind → y.kind ≤ 255 → length y.parameters ≤ 4 → all (sound_parameter n) y.parameters ≡ true
    → sound_symbol n y ≡ true
unfolding sound_symbol
sound_of n y h k l a = rw (le-leb 1 y.kind h, le-leb y.kind 255 k, le-leb (length y.parameters) 4 l, a)

module _ (s : Bytes) (xs : List Span) (vs : List Bytes) (g : map (bytes_at s) xs ≡ vs) where
  -- past KIND
  kind_next : (x : Span) (p : ℕ) (w rest : Bytes) → Next s p w rest → (r : Arguments) → arguments_from s xs 4 [] (p + 1 + length w) ≡ r
      → kind_from s xs x p ≡ cond (eqb (kind_in w) 0) (no_symbol_read (fail 2 (p + 1)))
      (cond (eqb r.step.fault 0) (record { step = r.step; name = x; symbol = record { kind = kind_in w; parameters = r.parameters } })
      (no_symbol_read r.step))
  unfolding kind_from
  kind_next x p w rest n r e = rw (want_next n, kind_of_law n.word n.some, word_end_law n.word, e)

  kind_line_read : all is_name vs ≡ true → distinct vs ≡ true → (x : Span) (p : ℕ) (y : Symbol) (rest : Bytes)
      → drop p s ≡ spaced (decimal y.kind ∷ map (parameter_word vs) y.parameters) ++ (lf ∷ rest) → sound_symbol (length vs) y ≡ true
      → kind_from s xs x p ≡ record { step = go (p + length (spaced (decimal y.kind ∷ map (parameter_word vs) y.parameters)) + 1); name = x; symbol = y }
  kind_line_read named d x p y rest e h =
      let (h₀, h₁, h₂, h₃) = sound_split (length vs) y h in
      let (k, i) = kind_read y.kind h₀ h₁ in
      let w = decimal y.kind in
      let ws = map (parameter_word vs) y.parameters in
      let n = word_next s p w (spaced ws ++ (lf ∷ rest)) (e ∙ spaced_first w ws (lf ∷ rest)) i (spaced_stops ws rest) in
      kind_next x p w _ n _ (arguments_read_law s xs vs g named d 4 [] (p + 1 + length w) y.parameters rest (next_behind n) h₃ h₂)
      ∙ rw (k, ne_eqb y.kind 0 (λ j. omega arith))
      (ap (λ q. record { step = go q; name = x; symbol = y }) (omega (arith, length-append w (spaced ws))))

  kind_step : (x : Span) (p : ℕ) (w rest : Bytes) → Next s p w rest → eqb (kind_in w) 0 ≡ false
      → (kind_from s xs x p).step ≡ (arguments_from s xs 4 [] (p + 1 + length w)).step
  kind_step x p w rest n k = ap (λ y. y.step) (kind_next x p w rest n r refl) ∙ rw k (by (eqb r.step.fault 0))
    where
      r : Arguments
      r = arguments_from s xs 4 [] (p + 1 + length w)

      whole : SymbolRead
      whole = record { step = r.step; name = x; symbol = record { kind = kind_in w; parameters = r.parameters } }

      by : (t : Bool) → (cond t whole (no_symbol_read r.step)).step ≡ r.step
      by true = refl
      by false = refl

  kind_course : (x : Span) (p : ℕ) → p ≤ length s → Outcome s (kind_from s xs x p).step (KindRead s vs p)
  unfolding kind_from
  kind_course x p l = by (want s p l)
    where
      by : Want s p → Outcome s (kind_from s xs x p).step (KindRead s vs p)
      by (missing n e f i) = faulty (rw (e, f)) (rw (e, f) i)
      by (got w rest n) = kinded (eqb (kind_in w) 0) refl
        where
          kinded : (t : Bool) → eqb (kind_in w) 0 ≡ t → Outcome s (kind_from s xs x p).step (KindRead s vs p)
          kinded true k =
              let e : kind_from s xs x p ≡ no_symbol_read (fail 2 (p + 1)) = kind_next x p w rest n _ refl ∙ rw k in
              faulty (ap (λ r. eqb r.step.fault 0) e) (rw (ap (λ r. r.step.place) e) (byte_inside s p space (w ++ rest) n.text))
          kinded false k =
              let (i, j, m) = kind_found w (eqb-false (kind_in w) 0 k) in
              outcome_on (kind_step x p w rest n k)
              (λ a. record {
                symbol = record { kind = kind_in w; parameters = a.parameters };
                rest = a.rest;
                text = n.text ∙ ap₂ (λ v t. space ∷ (v ++ t)) i (sym (next_behind n) ∙ a.text)
                    ∙ sym (spaced_first (decimal (kind_in w)) (map (parameter_word vs) a.parameters) (lf ∷ a.rest));
                sound = sound_of (length vs) (record { kind = kind_in w; parameters = a.parameters }) j m a.few a.sound;
              })
              (arguments_course s xs vs g 4 [] (p + 1 + length w) (next_inside n))

-- the words of a line behind `sym`
abbrev pub line_words : List Bytes → SymbolLine → List Bytes
line_words vs l = l.name ∷ decimal l.kind ∷ map (parameter_word vs) l.parameters

-- NAME, KIND and ARGS of a new symbol are written from p on, up to the line's end, where the names ks are known
pub record SymbolFound (s : Bytes) (vs ks : List Bytes) (p : ℕ) : Type 0 where
  pub line : SymbolLine
  pub rest : Bytes
  pub text : drop p s ≡ spaced (line_words vs line) ++ (lf ∷ rest)
  pub named : is_name line.name ≡ true
  pub fresh : known ks line.name ≡ false
  pub sound : sound_symbol (length vs) (symbol_of line) ≡ true

pub symbol_bytes : {s : Bytes} {vs ks : List Bytes} {p : ℕ} (r : SymbolFound s vs ks p) → bytes_at s (span_at (p + 1) r.line.name) ≡ r.line.name
symbol_bytes {s} {vs} {p} r =
    let w = r.line.name in
    let ws = decimal r.line.kind ∷ map (parameter_word vs) r.line.parameters in
    part_first s (p + 1) w _ (behind s p (space ∷ []) _ (r.text ∙ spaced_first w ws (lf ∷ r.rest)))

module _ (s : Bytes) (t : Table) (vs ks : List Bytes) (g : map (bytes_at s) t.variables ≡ vs) (f : map (bytes_at s) (t.variables ++ t.symbols) ≡ ks) where
  -- past NAME
  symbol_next : (p : ℕ) (w rest : Bytes) → Next s p w rest → is_new ks w ≡ true
      → symbol_from s t p ≡ kind_from s t.variables (span_at (p + 1) w) (p + 1 + length w)
  unfolding symbol_from
  symbol_next p w rest n k =
      let u : eqb (declare_fault s (t.variables ++ t.symbols) (p + 1) (word_end s (p + 1))) 0 ≡ true =
      declare_tested n.word n.some (t.variables ++ t.symbols) ∙ rw f k in
      rw (want_next n, u, word_end_law n.word, span_of_law (p + 1) w)

  pub symbol_read_law : all is_name vs ≡ true → distinct vs ≡ true → (p : ℕ) (r : SymbolFound s vs ks p) → symbol_from s t p
      ≡ record {
        step = go (p + length (spaced (line_words vs r.line)) + 1);
        name = span_at (p + 1) r.line.name;
        symbol = symbol_of r.line;
      }
  symbol_read_law named d p r =
      let y = r.line in
      let w = y.name in
      let ws = decimal y.kind ∷ map (parameter_word vs) y.parameters in
      let e = r.text ∙ spaced_first w ws (lf ∷ r.rest) in
      let n = word_next s p w (spaced ws ++ (lf ∷ r.rest)) e (name_word w r.named) (spaced_stops ws r.rest) in
      symbol_next p w _ n (ap₂ ◌&&◌ r.named (ap not r.fresh))
      ∙ kind_line_read s t.variables vs g named d (span_at (p + 1) w) (p + 1 + length w) (symbol_of y) r.rest (next_behind n) r.sound
      ∙ ap (λ q. record { step = go q; name = span_at (p + 1) w; symbol = symbol_of y }) (omega (arith, length-append w (spaced ws)))

  pub symbol_course : (p : ℕ) → p ≤ length s → Outcome s (symbol_from s t p).step (SymbolFound s vs ks p)
  unfolding symbol_from
  symbol_course p l = by (want s p l)
    where
      by : Want s p → Outcome s (symbol_from s t p).step (SymbolFound s vs ks p)
      by (missing n e i j) = faulty (rw (e, i)) (rw (e, i) j)
      by (got w rest n) = new (is_new ks w) refl
        where
          new : (b : Bool) → is_new ks w ≡ b → Outcome s (symbol_from s t p).step (SymbolFound s vs ks p)
          new true k =
              let a = and_true_split (is_name w) (not (known ks w)) k in
              outcome_on (ap (λ r. r.step) (symbol_next p w rest n k))
              (λ r. record {
                line = record { name = w; kind = r.symbol.kind; parameters = r.symbol.parameters };
                rest = r.rest;
                text = n.text ∙ ap (λ v. space ∷ (w ++ v)) (sym (next_behind n) ∙ r.text)
                    ∙ sym (spaced_first w (decimal r.symbol.kind ∷ map (parameter_word vs) r.symbol.parameters) (lf ∷ r.rest));
                named = a.0;
                fresh = not-true (known ks w) a.1;
                sound = r.sound;
              })
              (kind_course s t.variables vs g (span_at (p + 1) w) (p + 1 + length w) (next_inside n))
          new false k =
              let u : eqb (declare_fault s (t.variables ++ t.symbols) (p + 1) (word_end s (p + 1))) 0 ≡ false =
              declare_tested n.word n.some (t.variables ++ t.symbols) ∙ rw f k in
              faulty (rw (want_next n, u) u) (rw (want_next n, u) (byte_inside s p space (w ++ rest) n.text))
