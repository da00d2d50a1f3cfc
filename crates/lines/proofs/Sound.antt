-- What the readers give stays within a table's limits: as many as there is room for, and inside the text.
use mathlib.Core.Path.{◌≡◌, refl, sym, ap, ◌∙◌}
use mathlib.Core.Bool.{Bool, true, false, cond, false≢true}
use mathlib.Core.List.{List, [], ◌∷◌, ◌++◌, append-nil}
use Prim.Native.Nat.{ℕ, zero, suc, ◌+◌, ◌≤◌, ◌<◌, zero-le}
use native.Mathlib.Omega.{arith}
use borrow.Author.Tests.{eqb-true, le-leb}
use lib.Dec.{eqb, ltb}
use lib.ListN.{length, set, length-append}
use Rattle.std.specs.Prelude.{Ok}
use Rattle.laws.specs.Lists.{all}
use Rattle.laws.proofs.Lists.{all_more, either}
use Rattle.meaning.specs.Events.{Parameter, ignored, names, fixed}
use Rattle.meaning.specs.Book.{sound_parameter}
use Rattle.form.specs.Text.{Bytes, Span, ignored_word, fixed_sign}
use Rattle.form.specs.Form.{same_word}
use Rattle.form.specs.Scan.{Step, go, fail, at, part, word_end, next_word, name_fault, kind_of, is_number, fixed_number}
use Rattle.form.specs.Lines.{span_of, index_of, declare_fault, Variables, variables_from, argument_fault, argument_of, Arguments, arguments_from}
use Rattle.form.specs.Lines.{want_word, SymbolRead, no_symbol_read, kind_from, Table, symbol_from, with_symbol}
use Rattle.text.proofs.Steps.{brought_ok}
use Rattle.table.specs.Tables.{table_of, view_table, inside, Ready}
use Rattle.table.specs.declared.Table as Tables
use Rattle.table.proofs.Codes.{view_table_law, ready_symbol}
use Rattle.lines.specs.declared.SymbolRead as Results
use Rattle.lines.specs.Results.{symbol_read}
use Rattle.lines.proofs.Args.{number_le, next_inside, want_inside, variables_length}
use Rattle.lines.proofs.Known.{span_inside}
use Rattle.lines.proofs.Gaps.{word_within, next_more}

-- a word that is read as an argument is ignored, a number in range or a declared variable
argument_sound : (s : Bytes) (xs : List Span) (p e : ℕ) → eqb (argument_fault s xs p e) 0 ≡ true → sound_parameter (length xs) (argument_of s xs p e) ≡ true
argument_sound s xs p e =
    by (same_word (part s p e) ignored_word) (eqb (at s p) fixed_sign) (eqb (name_fault s p e) 0) (ltb (index_of s xs (part s p e)) (length xs)) refl refl
  where
    by : (a d b c : Bool) → eqb (name_fault s p e) 0 ≡ b → ltb (index_of s xs (part s p e)) (length xs) ≡ c
        → eqb (cond a 0 (cond d (cond (is_number (part s (p + 1) e)) 0 2) (cond b (cond c 0 5) (name_fault s p e)))) 0 ≡ true
        → sound_parameter (length xs) (cond a ignored (cond d (fixed (fixed_number s (p + 1) e)) (names (index_of s xs (part s p e))))) ≡ true
    by true d b c i j h = refl
    by false true b c i j h = le-leb (fixed_number s (p + 1) e) 4294967295 (number_le _ s (p + 1) e refl)
    by false false true true i j h = j
    by false false true false i j h = absurd (false≢true h)
    by false false false c i j h = absurd (false≢true (sym i ∙ h))

-- the word behind p, where there is no fault, is inside the text
next_word_law : (s : Bytes) (p : ℕ) → p ≤ length s → let q = (next_word s p).place in (q ≤ word_end s q) × (word_end s q ≤ length s)
next_word_law s p l = word_within s _ _ refl (next_inside s p l)

-- the place behind a line, or of a fault
next_step : (s : Bytes) (p : ℕ) (x : Step) → p ≤ length s → eqb (next_word s p).fault 0 ≡ true → x.place ≤ length s
    → (cond (eqb (next_word s p).place p) (go (p + 1)) x).place ≤ length s
next_step s p x l f h =
    either (λ (x : Step). x.place ≤ length s) (eqb (next_word s p).place p) (λ k. next_more s p refl (eqb-true _ 0 f)) (λ k. h)

-- at most n spans, each inside the text
pub record VariablesSound (s : Bytes) (n : ℕ) (v : Variables) : Type 0 where
  pub few : length v.spans ≤ n
  pub in_text : all (inside (length s)) v.spans ≡ true
  pub place : v.step.place ≤ length s

module _ (s : Bytes) (n : ℕ) where
  variables_kept : (xs : List Span) (x : Step) → length xs ≤ n → all (inside (length s)) xs ≡ true → x.place ≤ length s
      → VariablesSound s n (record { step = x; spans = xs })
  variables_kept xs x k i h = record { few = k; in_text = i; place = h }

  pub variables_sound : (room : ℕ) (xs : List Span) (p : ℕ) → p ≤ length s → length xs + room ≤ n → all (inside (length s)) xs ≡ true
      → VariablesSound s n (variables_from s room xs p)
  variables_sound zero xs p l k i =
      let q = next_word s p in
      let h = next_inside s p l in
      either (VariablesSound s n) (eqb q.fault 0) (λ f. variables_kept xs _ (omega arith) i (next_step s p _ l f h))
      (λ f. variables_kept xs q (omega arith) i h)
  variables_sound (suc room) xs p l k i =
      let q = next_word s p in
      let h = next_inside s p l in
      let w = next_word_law s p l in
      let e = word_end s q.place in
      let sound = VariablesSound s n in
      either sound (eqb q.fault 0)
      (λ f. either sound (eqb q.place p) (λ j. variables_kept xs (go (p + 1)) (omega arith) i (next_more s p refl (eqb-true _ 0 f)))
      (λ j. either sound (eqb (declare_fault s xs q.place e) 0)
      (λ g. variables_sound room (xs ++ (span_of q.place e ∷ [])) e w.1 (rw length-append (omega arith))
      (all_more _ xs _ i (span_inside s q.place e w.0 w.1)))
      (λ g. variables_kept xs _ (omega arith) i h)))
      (λ f. variables_kept xs q (omega arith) i h)

-- a table of variables alone is ready, and is read back
abbrev pub bare : List Span → Table
bare xs = record { variables = xs; symbols = []; table = [] }

pub variables_ready : (s : Bytes) (xs : List Span) → length xs ≤ 4 → all (inside (length s)) xs ≡ true
    → Ready s (table_of (bare xs)) × (view_table (table_of (bare xs)) ≡ bare xs)
unfolding table_of
variables_ready s xs h i =
    let b = view_table_law (bare xs) (record { few_variables = h; few_symbols = zero-le; paired = refl; few_parameters = refl }) in (
      record {
        coded = ap table_of (sym b);
        few_variables = h;
        few_symbols = zero-le;
        in_text = rw b (rw (append-nil xs) i);
        declared = rw b;
        few_parameters = rw b;
      },
      b,
    )

-- at most n parameters, each ignored, a number in range or a declared variable
record ArgumentsSound (s : Bytes) (variables n : ℕ) (a : Arguments) : Type 0 where
  pub few : length a.parameters ≤ n
  pub declared : all (sound_parameter variables) a.parameters ≡ true
  pub place : a.step.place ≤ length s

module _ (s : Bytes) (xs : List Span) (n : ℕ) where
  arguments_kept : (ps : List Parameter) (x : Step) → length ps ≤ n → all (sound_parameter (length xs)) ps ≡ true → x.place ≤ length s
      → ArgumentsSound s (length xs) n (record { step = x; parameters = ps })
  arguments_kept ps x k i h = record { few = k; declared = i; place = h }

  arguments_sound : (room : ℕ) (ps : List Parameter) (p : ℕ) → p ≤ length s → length ps + room ≤ n → all (sound_parameter (length xs)) ps ≡ true
      → ArgumentsSound s (length xs) n (arguments_from s xs room ps p)
  arguments_sound zero ps p l k i =
      let q = next_word s p in
      let h = next_inside s p l in
      either (ArgumentsSound s (length xs) n) (eqb q.fault 0) (λ f. arguments_kept ps _ (omega arith) i (next_step s p _ l f h))
      (λ f. arguments_kept ps q (omega arith) i h)
  arguments_sound (suc room) ps p l k i =
      let q = next_word s p in
      let h = next_inside s p l in
      let e = word_end s q.place in
      let sound = ArgumentsSound s (length xs) n in
      either sound (eqb q.fault 0)
      (λ f. either sound (eqb q.place p) (λ j. arguments_kept ps (go (p + 1)) (omega arith) i (next_more s p refl (eqb-true _ 0 f)))
      (λ j. either sound (eqb (argument_fault s xs q.place e) 0)
      (λ g. arguments_sound room (ps ++ (argument_of s xs q.place e ∷ [])) e (next_word_law s p l).1 (rw length-append (omega arith))
      (all_more _ ps _ i (argument_sound s xs q.place e g)))
      (λ g. arguments_kept ps _ (omega arith) i h)))
      (λ f. arguments_kept ps q (omega arith) i h)

-- a symbol's name inside the text, and its parameters
record SymbolSound (s : Bytes) (variables : ℕ) (r : SymbolRead) : Type 0 where
  pub in_text : inside (length s) r.name ≡ true
  pub few : length r.symbol.parameters ≤ 4
  pub declared : all (sound_parameter variables) r.symbol.parameters ≡ true
  pub place : r.step.place ≤ length s

none_sound : (s : Bytes) (n : ℕ) (x : Step) → x.place ≤ length s → SymbolSound s n (no_symbol_read x)
none_sound s n x h = record { in_text = span_inside s 0 0 zero-le zero-le; few = zero-le; declared = refl; place = h }

kind_sound : (s : Bytes) (xs : List Span) (x : Span) (p : ℕ) → p ≤ length s → inside (length s) x ≡ true → SymbolSound s (length xs) (kind_from s xs x p)
unfolding kind_from
kind_sound s xs x p l i =
    let k = want_word s p in
    let h = want_inside s p l in
    let e = word_end s k.place in
    let r = arguments_from s xs 4 [] e in
    let a = arguments_sound s xs 4 4 [] e (word_within s k.place e refl h).1 (omega arith) refl in
    let sound = SymbolSound s (length xs) in
    either sound (eqb k.fault 0)
    (λ f. either sound (eqb (kind_of s k.place e) 0) (λ g. none_sound s _ (fail 2 k.place) h)
    (λ g. either sound (eqb r.step.fault 0)
    (λ j. record { in_text = i; few = a.few; declared = a.declared; place = a.place })
    (λ j. none_sound s _ r.step a.place)))
    (λ f. none_sound s _ k h)

symbol_sound_law : (s : Bytes) (t : Table) (p : ℕ) → p ≤ length s → SymbolSound s (length t.variables) (symbol_from s t p)
unfolding symbol_from
symbol_sound_law s t p l =
    let k = want_word s p in
    let h = want_inside s p l in
    let e = word_end s k.place in
    let w = word_within s k.place e refl h in
    let sound = SymbolSound s (length t.variables) in
    either sound (eqb k.fault 0)
    (λ f. either sound (eqb (declare_fault s (t.variables ++ t.symbols) k.place e) 0)
    (λ g. kind_sound s t.variables (span_of k.place e) e w.1 (span_inside s k.place e w.0 w.1))
    (λ g. none_sound s _ (fail _ k.place) h))
    (λ f. none_sound s _ k h)

-- a table stays ready as a symbol r is read behind `sym`, which ends at e, and added
module _ (s : Bytes) (t : Tables.Table) (h : Ready s t) (l : t.count < 16) (e : ℕ) (i : e ≤ length s) where
  abbrev read : SymbolRead
  read = symbol_from s (view_table t) e

  pub symbol_ready : {r : Results.SymbolRead} → Ok r ≡ symbol_read read → {u : Tables.Table}
      → u ≡ record {
        variables = t.variables;
        count = t.count + 1;
        names = set t.names (t.variables + t.count) r.name;
        symbols = set t.symbols t.count r.symbol;
      }
      → Ready s u × (view_table u ≡ with_symbol (view_table t) read) × (u.count ≡ t.count + 1) × (r.place ≤ length s)
      × (read.step.fault ≡ 0) × (r.place ≡ read.step.place)
  symbol_ready f g =
      let (o, k) = brought_ok read.step _ f in
      let a = symbol_sound_law s (view_table t) e i in
      let d = rw (← variables_length h) at a.declared in
      let b = ready_symbol s t h l read.name a.in_text read.symbol a.few d in
      rw (g, k) (b.0, b.1, refl, a.place, o, refl)
