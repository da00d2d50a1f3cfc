-- The table that the lines leave is ready for the pattern, where they have no fault.
use mathlib.Core.Path.{◌≡◌, refl, sym, ap, ap₂, ◌∙◌}
use mathlib.Core.Bool.{true, ◌&&◌, false≢true}
use mathlib.Core.List.{List, [], ◌∷◌, ◌++◌, map, Memᴰ}
use Prim.Native.Nat.{ℕ, ◌+◌, ◌<◌}
use native.Mathlib.Omega.{arith}
use borrow.Author.Tests.{le-leb}
use lib.Dec.{leb}
use lib.ListN.{length, length-map, length-take, length-drop}
use Rattle.laws.specs.Lists.{all}
use Rattle.laws.proofs.Lists.{and_true_split, all_append, all_map, all_at, all_of}
use Rattle.meaning.specs.Events.{Symbol}
use Rattle.meaning.specs.Book.{sound_parameter, sound_symbol}
use Rattle.form.specs.Text.{Bytes, Span, SymbolLine, Declarations, is_name, symbol_of, variable_spans, symbol_spans, sym_line}
use Rattle.form.specs.Lines.{lines_of, bytes_at, declared_table}
use Rattle.parsing.proofs.Header.{Header, header_read, header_found, header_names}
use Rattle.table.specs.Tables.{table_of, view_table, inside, Ready}
use Rattle.table.proofs.Codes.{Fits, view_table_law}

-- the declaring places are as long as the names
variable_sizes : (p : ℕ) (ws : List Bytes) → map (λ x. x.size) (variable_spans p ws) ≡ map length ws
variable_sizes p [] = refl
variable_sizes p (w ∷ ws) = ap (λ l. length w ∷ l) (variable_sizes (p + length w + 1) ws)

symbol_sizes : (p : ℕ) (vs : List Bytes) (ls : List SymbolLine) → map (λ x. x.size) (symbol_spans p vs ls) ≡ map length (map (λ l. l.name) ls)
symbol_sizes p vs [] = refl
symbol_sizes p vs (l ∷ ls) = ap (λ m. length l.name ∷ m) (symbol_sizes (p + length (sym_line vs l)) vs ls)

-- so there are as many
same_count : (xs : List Span) (ws : List Bytes) → map (λ x. x.size) xs ≡ map length ws → length xs ≡ length ws
same_count xs ws e = sym (length-map xs _) ∙ ap length e ∙ length-map ws length

nonempty : (w : Bytes) → is_name w ≡ true → 0 < length w
nonempty [] h = absurd (false≢true h)
nonempty (b ∷ w) h = omega arith

-- and where they hold the names, which are not empty, they are inside the text
names_inside : (s : Bytes) (xs : List Span) (ws : List Bytes) → map (bytes_at s) xs ≡ ws → map (λ x. x.size) xs ≡ map length ws
    → all is_name ws ≡ true → all (inside (length s)) xs ≡ true
names_inside s [] ws e k n = refl
names_inside s (x ∷ xs) [] e k n = absurd (let z : ◌≡◌ {A = ℕ} 0 1 = cc in omega arith)
names_inside s (x ∷ xs) (w ∷ ws) e k n =
    let a = and_true_split (is_name w) (all is_name ws) n in
    let b : bytes_at s x ≡ w = cc in
    let i : x.size ≡ length w = cc in
    let j = simp (length-take, length-drop) at (ap length b) in
    ap₂ ◌&&◌ (le-leb (x.start + x.size) (length s) (omega (arith, nonempty w a.0))) (names_inside s xs ws (cc) (cc) a.1)

-- a sound symbol has at most 4 parameters, each ignored, a declared variable or a fixed number
sound_parameters : (n : ℕ) (y : Symbol) → sound_symbol n y ≡ true → (leb (length y.parameters) 4 ≡ true) × (all (sound_parameter n) y.parameters ≡ true)
unfolding sound_symbol
sound_parameters n y h =
    let a = and_true_split (leb 1 y.kind && leb y.kind 255 && leb (length y.parameters) 4) (all (sound_parameter n) y.parameters) h in
    ((and_true_split (leb 1 y.kind && leb y.kind 255) (leb (length y.parameters) 4) a.0).1, a.1)

module _ (s : Bytes) (d : Declarations) (h : Header s d) where
  sound : (y : Symbol) → Memᴰ y (map symbol_of d.symbols)
      → (leb (length y.parameters) 4 ≡ true) × (all (sound_parameter (length d.variables)) y.parameters ≡ true)
  sound y m =
      let n = length d.variables in
      sound_parameters n y (all_at (sound_symbol n) (all_map (sound_symbol n) symbol_of d.symbols ∙ h.symbols) m)

  variables_count : length (declared_table d).variables ≡ length d.variables
  variables_count = same_count (declared_table d).variables d.variables (variable_sizes 5 d.variables)

  fits : Fits (declared_table d)
  fits =
      let t = declared_table d in
      let names = map (λ l. l.name) d.symbols in
      let a = same_count t.symbols names (symbol_sizes _ d.variables d.symbols) ∙ length-map d.symbols _ in
      let b : length t.table ≡ length d.symbols = length-map d.symbols symbol_of in
      record {
        few_variables = omega (arith, variables_count, h.few_variables);
        few_symbols = omega (arith, b, h.few_symbols);
        paired = a ∙ sym b;
        few_parameters = all_of _ t.table λ y m. (sound y m).0;
      }

  declared_viewed : view_table (table_of (declared_table d)) ≡ declared_table d
  declared_viewed = view_table_law (declared_table d) fits

  in_text_law : all (inside (length s)) ((declared_table d).variables ++ (declared_table d).symbols) ≡ true
  in_text_law =
      let t = declared_table d in
      let names = map (λ l. l.name) d.symbols in
      let e = header_names s d h in
      let n = and_true_split (all is_name d.variables) (all is_name names) (sym (all_append is_name d.variables names) ∙ h.named) in
      all_append (inside (length s)) t.variables t.symbols
      ∙ ap₂ ◌&&◌ (names_inside s t.variables d.variables e.0 (variable_sizes 5 d.variables) n.0)
      (names_inside s t.symbols names e.1 (symbol_sizes _ d.variables d.symbols) n.1)

  declared_ready : Ready s (table_of (declared_table d))
  unfolding table_of
  declared_ready =
      let b = declared_viewed in
      let f = fits in
      record {
        coded = ap table_of (sym b);
        few_variables = f.few_variables;
        few_symbols = f.few_symbols;
        in_text = rw b in_text_law;
        declared = rw (b, variables_count) (all_of _ (declared_table d).table λ y m. (sound y m).1);
        few_parameters = rw b f.few_parameters;
      }

pub lines_ready : (s : Bytes) → (lines_of s).step.fault ≡ 0 → Ready s (table_of (lines_of s).table)
lines_ready s h = let f = header_found s h in rw (header_read s f.0 f.1) (declared_ready s f.0 f.1)

pub lines_viewed : (s : Bytes) → (lines_of s).step.fault ≡ 0 → view_table (table_of (lines_of s).table) ≡ (lines_of s).table
lines_viewed s h = let f = header_found s h in rw (header_read s f.0 f.1) (declared_viewed s f.0 f.1)
