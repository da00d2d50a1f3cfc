-- The reader's course over the words of a line: the names of variables, and the words of ARGS.
use mathlib.Core.Path.{◌≡◌, refl, sym, ap, ap₂, ◌∙◌}
use mathlib.Core.Bool.{Bool, true, false, not, ◌&&◌}
use mathlib.Core.List.{List, [], ◌∷◌, ◌++◌, map, append-nil, append_assoc, map-append}
use Prim.Native.Nat.{ℕ, zero, suc, ◌+◌, ◌-◌, ◌≤◌}
use native.Mathlib.Omega.{arith}
use borrow.Author.Tests.{not-true, eq-eqb, ne_eqb}
use lib.Dec.{eqb}
use lib.ListN.{length, drop, length-append}
use lib.Seq.{append_snoc}
use Rattle.laws.specs.Lists.{all}
use Rattle.laws.proofs.Lists.{and_true_split}
use Rattle.form.specs.Text.{Bytes, space, lf, is_name, Span, spaced, variable_spans}
use Rattle.form.specs.Form.{distinct}
use Rattle.form.specs.Scan.{Step, go, run, is_word_byte, next_word}
use Rattle.form.specs.Lines.{bytes_at, span_of, Variables, variables_from}
use Rattle.parsing.proofs.Words.{Word, word_end_law, part_first, Next, word_next, next_behind, next_inside, byte_inside, gap_ended}
use Rattle.parsing.proofs.Words.{Gap, ended, next, failed, gap}
use Rattle.parsing.proofs.Names.{known, is_new, name_word, distinct_fresh, distinct_snoc, declare_tested}

-- what comes of a step of the reader: it finds what the stated form has there, or a fault inside the text
pub data Outcome (s : Bytes) (n : Step) (Found : Type 0) : Type 0 where
  fine : Found → Outcome s n Found
  faulty : eqb n.fault 0 ≡ false → n.place ≤ length s → Outcome s n Found

pub outcome_on : {s : Bytes} {m n : Step} {F G : Type 0} → m ≡ n → (F → G) → Outcome s n F → Outcome s m G
outcome_on e f (fine x) = fine (f x)
outcome_on e f (faulty h l) = faulty (rw e h) (rw e l)

-- the span of the word w at q
abbrev pub span_at : ℕ → Bytes → Span
span_at q w = record { start = q; size = length w }

pub span_of_law : (q : ℕ) (w : Bytes) → span_of q (q + length w) ≡ span_at q w
span_of_law q w = let e : q + length w - q ≡ length w = omega arith in rw e

pub bytes_at_law : {s : Bytes} {q : ℕ} {w rest : Bytes} → Word s q w rest → bytes_at s (span_at q w) ≡ w
bytes_at_law {s} {q} {w} {rest} h = part_first s q w rest h.text

-- the names known so far, and one more
pub names_snoc : (s : Bytes) (xs : List Span) (x : Span) (ks : List Bytes) (w : Bytes) → map (bytes_at s) xs ≡ ks → bytes_at s x ≡ w
    → map (bytes_at s) (xs ++ (x ∷ [])) ≡ ks ++ (w ∷ [])
names_snoc s xs x ks w e f = map-append (bytes_at s) xs (x ∷ []) ∙ ap₂ (λ a b. a ++ (b ∷ [])) e f

-- a line's words are followed by its LF
pub spaced_stops : (ws : List Bytes) (rest : Bytes) → run is_word_byte (spaced ws ++ (lf ∷ rest)) ≡ 0
spaced_stops [] rest = refl
spaced_stops (w ∷ ws) rest = refl

pub spaced_first : (w : Bytes) (ws : List Bytes) (rest : Bytes) → spaced (w ∷ ws) ++ rest ≡ space ∷ (w ++ (spaced ws ++ rest))
spaced_first w ws rest = ap (λ l. space ∷ l) (append_assoc w (spaced ws) rest)

-- new names are written from p on, up to the line's end, with room for so many
pub record VariablesRead (s : Bytes) (room : ℕ) (ks : List Bytes) (p : ℕ) : Type 0 where
  pub names : List Bytes
  pub rest : Bytes
  pub text : drop p s ≡ spaced names ++ (lf ∷ rest)
  pub named : all is_name names ≡ true
  pub distinct : distinct (ks ++ names) ≡ true
  pub few : length names ≤ room

-- the course over variable names, with room for so many, comes to that or to a fault
abbrev pub VariablesCourse : Bytes → ℕ → Type 0
VariablesCourse s room = (xs : List Span) (ks : List Bytes) (p : ℕ) → map (bytes_at s) xs ≡ ks → distinct ks ≡ true → p ≤ length s
    → Outcome s (variables_from s room xs p).step (VariablesRead s room ks p)

-- what the course over the variables gives
made : ℕ → List Span → Variables
made q ys = record { step = go q; spans = ys }

module _ (s : Bytes) where
  -- past a new name
  variables_next : (room : ℕ) (xs : List Span) (p : ℕ) (w rest : Bytes) → Next s p w rest → is_new (map (bytes_at s) xs) w ≡ true
      → variables_from s (suc room) xs p ≡ variables_from s room (xs ++ (span_at (p + 1) w ∷ [])) (p + 1 + length w)
  variables_next room xs p w rest n k =
      rw (n.goes, declare_tested n.word n.some xs, k, ne_eqb (p + 1) p (λ i. omega arith), word_end_law n.word, span_of_law (p + 1) w)

  variables_ended : (room : ℕ) (xs : List Span) (p : ℕ) → next_word s p ≡ go p → variables_from s room xs p ≡ record { step = go (p + 1); spans = xs }
  variables_ended zero xs p e = rw (e, eq-eqb p p refl)
  variables_ended (suc room) xs p e = rw (e, eq-eqb p p refl)

  -- new names that are written are read
  pub variables_read_law : (room : ℕ) (xs : List Span) (ks : List Bytes) (p : ℕ) (ws : List Bytes) (rest : Bytes) → map (bytes_at s) xs ≡ ks
      → drop p s ≡ spaced ws ++ (lf ∷ rest) → all is_name ws ≡ true → distinct (ks ++ ws) ≡ true → length ws ≤ room
      → variables_from s room xs p ≡ record { step = go (p + length (spaced ws) + 1); spans = xs ++ variable_spans (p + 1) ws }
  unfolding made
  variables_read_law room xs ks p [] rest g e n d l = variables_ended room xs p (gap_ended s p rest e) ∙ ap₂ made (omega arith) (sym (append-nil xs))
  variables_read_law zero xs ks p (w ∷ ws) rest g e n d l = absurd (omega arith)
  variables_read_law (suc room) xs ks p (w ∷ ws) rest g e n d l =
      let m = and_true_split (is_name w) (all is_name ws) n in
      let h = word_next s p w (spaced ws ++ (lf ∷ rest)) (e ∙ spaced_first w ws (lf ∷ rest)) (name_word w m.0) (spaced_stops ws rest) in
      let f : known (map (bytes_at s) xs) w ≡ false = rw g (distinct_fresh ks w ws d) in
      variables_next room xs p w _ h (ap₂ ◌&&◌ m.0 (ap not f))
      ∙ variables_read_law room (xs ++ (span_at (p + 1) w ∷ [])) (ks ++ (w ∷ [])) (p + 1 + length w) ws rest (names_snoc s xs _ ks w g (bytes_at_law h.word))
      (next_behind h) m.1 (rw (append_snoc ks w ws) d) (omega arith)
      ∙ ap₂ made (omega (arith, length-append w (spaced ws))) (append_snoc xs (span_at (p + 1) w) (variable_spans (p + 1 + length w + 1) ws))

  no_variables : (room : ℕ) (ks : List Bytes) (p : ℕ) (rest : Bytes) → distinct ks ≡ true → drop p s ≡ lf ∷ rest → VariablesRead s room ks p
  no_variables room ks p rest d t = record { names = []; rest = rest; text = t; named = refl; distinct = rw (append-nil ks) d; few = omega arith }

  -- past a word that is no new name there is a fault
  variables_stop : (room : ℕ) (xs : List Span) (ks : List Bytes) (p : ℕ) (w rest : Bytes) → Next s p w rest → is_new (map (bytes_at s) xs) w ≡ false
      → Outcome s (variables_from s (suc room) xs p).step (VariablesRead s (suc room) ks p)
  variables_stop room xs ks p w rest n k =
      let t = declare_tested n.word n.some xs in
      faulty (rw (n.goes, t, k, ne_eqb (p + 1) p (λ i. omega arith)) (t ∙ k))
      (rw (n.goes, t, k, ne_eqb (p + 1) p (λ i. omega arith)) (byte_inside s p space (w ++ rest) n.text))

  pub variables_course : (room : ℕ) → VariablesCourse s room
  variables_course zero xs ks p g d l = by (gap s p)
    where
      by : Gap s p → Outcome s (variables_from s 0 xs p).step (VariablesRead s 0 ks p)
      by (ended e rest t) = fine (no_variables 0 ks p rest d t)
      by (next w rest n) =
          let e : eqb (p + 1) p ≡ false = ne_eqb (p + 1) p (λ i. omega arith) in
          faulty (rw (n.goes, e)) (rw (n.goes, e) (byte_inside s p space (w ++ rest) n.text))
      by (failed n e f i) = faulty (rw (e, f)) (rw (e, f) (i l))
  variables_course (suc room) xs ks p g d l = by (variables_course room) (gap s p)
    where
      by : VariablesCourse s room → Gap s p → Outcome s (variables_from s (suc room) xs p).step (VariablesRead s (suc room) ks p)
      by ih (ended e rest t) = fine (no_variables (suc room) ks p rest d t)
      by ih (next w rest n) = new (is_new (map (bytes_at s) xs) w) refl
        where
          new : (t : Bool) → is_new (map (bytes_at s) xs) w ≡ t → Outcome s (variables_from s (suc room) xs p).step (VariablesRead s (suc room) ks p)
          new true k =
              let a = and_true_split (is_name w) (not (known (map (bytes_at s) xs) w)) k in
              outcome_on (ap (λ v. v.step) (variables_next room xs p w rest n k))
              (λ v. record {
                names = w ∷ v.names;
                rest = v.rest;
                text = n.text ∙ ap (λ r. space ∷ (w ++ r)) (sym (next_behind n) ∙ v.text) ∙ sym (spaced_first w v.names (lf ∷ v.rest));
                named = ap₂ ◌&&◌ a.0 v.named;
                distinct = rw (append_snoc ks w v.names) at v.distinct;
                few = omega arith;
              })
              (ih (xs ++ (span_at (p + 1) w ∷ [])) (ks ++ (w ∷ [])) (p + 1 + length w) (names_snoc s xs (span_at (p + 1) w) ks w g (bytes_at_law n.word))
              (distinct_snoc ks w d (ap (λ js. known js w) (sym g) ∙ not-true (known (map (bytes_at s) xs) w) a.1)) (next_inside n))
          new false k = variables_stop room xs ks p w rest n k
      by ih (failed n e f i) = faulty (rw (e, f)) (rw (e, f) (i l))
