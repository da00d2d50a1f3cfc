-- A text of the stated form and the course of the reader over it: each is had from the other.
use mathlib.Core.Path.{◌≡◌, refl, sym, ap, subst, ◌∙◌}
use mathlib.Core.Bool.{true, not}
use mathlib.Core.List.{List, [], ◌∷◌, ◌++◌, map}
use Prim.Native.Nat.{ℕ, ◌+◌, ◌≤◌, ◌<◌}
use native.Mathlib.Omega.{arith}
use native.Mathlib.Nat.{add_assoc}
use borrow.Author.Tests.{eq-eqb}
use lib.ListN.{length, drop}
use lib.Seq.{get_or-append-add, drop-append-add}
use Rattle.laws.specs.Lists.{any, all}
use Rattle.laws.proofs.Lists.{all_append, and_true_split}
use Rattle.pattern.specs.Regex.{Regex}
use Rattle.form.specs.Text.{Bytes, space, lf, is_name, match_word, Declarations, header, text}
use Rattle.form.specs.Form.{same_word, distinct, symbol_names, Shape}
use Rattle.form.specs.Scan.{at, past_end, run, is_space, spaces_end}
use Rattle.form.specs.Lines.{bytes_at, lines_of, declared_table}
use Rattle.parsing.proofs.Header.{Header, header_read, header_found, header_names}
use Rattle.parsing.proofs.Pattern.{Written, pattern_read, pattern_found}
use Rattle.parsing.proofs.Faults.{before_end}
use Rattle.parsing.proofs.Outcomes.{pattern_of, first_of, Whole}

-- of distinct names those behind are distinct
distinct_behind : (v w : List Bytes) → distinct (v ++ w) ≡ true → distinct w ≡ true
distinct_behind [] w h = h
distinct_behind (x ∷ v) w h = distinct_behind v w (and_true_split (not (any (same_word x) (v ++ w))) _ h).1

-- what stands behind the word `match`
at_rest : (h rest : Bytes) → at (h ++ (match_word ++ rest)) (length h + 5) ≡ at rest 0
at_rest h rest = get_or-append-add h (match_word ++ rest) 5 past_end

drop_rest : (h rest : Bytes) → drop (length h + 5 + 1) (h ++ (match_word ++ rest)) ≡ drop 1 rest
drop_rest h rest = rw (add_assoc (length h) 5 1) (drop-append-add h (match_word ++ rest) 6)

-- the LF at a line's end is no space
spaces_lf : (l : Bytes) → run is_space (l ++ (lf ∷ [])) ≡ run is_space l
spaces_lf [] = refl
spaces_lf (b ∷ l) = rw (spaces_lf l)

begins : (b : ℕ) (l : Bytes) → b < past_end → at l 0 ≡ b → l ≡ b ∷ drop 1 l
begins b [] h e = absurd (omega arith)
begins b (x ∷ l) h e = ap (λ y. y ∷ l) e

-- what the reader finds in a text that declares d and writes r
pub record Found (s : Bytes) (d : Declarations) (r : Regex) : Type 0 where
  pub header : Header s d
  pub whole : Whole s
  pub table : (lines_of s).table ≡ declared_table d
  pub tree : (pattern_of s).tree ≡ r

-- behind the lines that write d
module _ (s : Bytes) (d : Declarations) (h : Header s d) where
  lines_at : at s (lines_of s).step.place ≡ at h.rest 0
  lines_at = rw (header_read s d h) (subst (λ x. at x (length (header d) + 5) ≡ at h.rest 0) (sym h.text) (at_rest (header d) h.rest))

  lines_drop : drop ((lines_of s).step.place + 1) s ≡ drop 1 h.rest
  lines_drop = rw (header_read s d h) (subst (λ x. drop (length (header d) + 5 + 1) x ≡ drop 1 h.rest) (sym h.text) (drop_rest (header d) h.rest))

  lines_names : map (bytes_at s) (lines_of s).table.symbols ≡ symbol_names d
  lines_names = rw (header_read s d h) (header_names s d h).1

module _ (s : Bytes) where
  shape_header : (d : Declarations) (r : Regex) → Shape s d r → Header s d
  unfolding text
  shape_header d r f = record {
    rest = space ∷ f.written ++ (lf ∷ []);
    text = f.text;
    stops = refl;
    named = f.named;
    distinct = f.distinct;
    few_variables = f.few_variables;
    some_symbols = f.some_symbols;
    few_symbols = f.few_symbols;
    symbols = f.symbols;
  }

  inside : at s (lines_of s).step.place ≡ space → (lines_of s).step.place + 1 ≤ length s
  inside e = before_end s _ space (omega arith) (eq-eqb _ _ e)

  pub shape_found : (d : Declarations) (r : Regex) → Shape s d r → Found s d r
  unfolding shape_header
  shape_found d r f =
      let h = shape_header d r f in
      let spaced : at s (lines_of s).step.place ≡ space = lines_at s d h in
      let names = lines_names s d h in
      let w : Written s f.short (lines_of s).table.symbols ((lines_of s).step.place + 1) (inside spaced) r = record {
        written = f.written;
        one_line = f.one_line;
        text = lines_drop s d h;
        phrase = rw names f.phrase;
        occurrences = f.occurrences;
      } in
      let named = (and_true_split (all is_name d.variables) _ (rw all_append at f.named)).1 in
      let read = pattern_read s _ _ _ _ (rw names named) (rw names (distinct_behind d.variables _ f.distinct)) r w in
      let lines = header_read s d h in
      record {
        header = h;
        whole = record { short = f.short; lines = ap (λ l. l.step.fault) lines; behind = spaced; pattern = ap (λ a. a.step.fault) read };
        table = ap (λ l. l.table) lines;
        tree = ap (λ a. a.tree) read;
      }

  -- the first token stands behind the lines, `match`, a space and the spaces that follow
  pub shape_first : (d : Declarations) (r : Regex) (f : Shape s d r) → first_of s ≡ length (header d) + (length match_word + 1) + run is_space f.written
  unfolding shape_header spaces_end
  shape_first d r f =
      let h = shape_header d r f in
      let e : (lines_of s).step.place ≡ length (header d) + 5 = ap (λ l. l.step.place) (header_read s d h) in
      omega (arith, ap (run is_space) (lines_drop s d h) ∙ spaces_lf f.written)

  pub whole_shape : Whole s → (d : Declarations) × Shape s d (pattern_of s).tree
  unfolding text
  whole_shape w =
      let (d, h) = header_found s w.lines in
      let f = pattern_found s w.short (lines_of s).table.symbols ((lines_of s).step.place + 1) (inside w.behind) w.pattern in
      let spaced = begins space h.rest (omega arith) (sym (lines_at s d h) ∙ w.behind) in
      let rest = spaced ∙ ap (λ l. space ∷ l) (sym (lines_drop s d h) ∙ f.text) in (
        d,
        record {
          short = w.short;
          written = f.written;
          one_line = f.one_line;
          text = h.text ∙ ap (λ l. header d ++ (match_word ++ l)) rest;
          named = h.named;
          distinct = h.distinct;
          few_variables = h.few_variables;
          some_symbols = h.some_symbols;
          few_symbols = h.few_symbols;
          symbols = h.symbols;
          phrase = rw (lines_names s d h) at f.phrase;
          occurrences = f.occurrences;
        },
      )
