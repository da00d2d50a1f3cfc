-- The steps of the readers of a symbol's line, and of lines, as the code takes them.
use mathlib.Core.Path.{◌≡◌}
use mathlib.Core.Bool.{true, false}
use mathlib.Core.List.{◌++◌}
use Prim.Native.Nat.{ℕ, zero, suc}
use borrow.Author.Tests.{eq-eqb, ne_eqb}
use lib.ListN.{length}
use Rattle.form.specs.Text.{Bytes, sym_word, match_word}
use Rattle.form.specs.Form.{same_word}
use Rattle.form.specs.Scan.{Step, go, fail, part, word_end}
use Rattle.form.specs.Lines.{Table, span_of, declare_fault, want_word, no_symbol_read, kind_from, symbol_from, with_symbol, lines_from}
use Rattle.parsing.proofs.Scans.{same_word_law}

-- A symbol's line behind `sym`, which ends at p, behind which the step x comes.
module _ (s : Bytes) (t : Table) (p : ℕ) {x : Step} (n : want_word s p ≡ x) where
  pub symbol_fault : (x.fault ≡ 0 → ⊥) → symbol_from s t p ≡ no_symbol_read x
  unfolding symbol_from
  symbol_fault h = rw (n, ne_eqb _ 0 h)

  module _ (ok : x.fault ≡ 0) {e f : ℕ} (ends : e ≡ word_end s x.place) (tells : f ≡ declare_fault s (t.variables ++ t.symbols) x.place e) where
    pub symbol_wrong : (f ≡ 0 → ⊥) → symbol_from s t p ≡ no_symbol_read (fail f x.place)
    unfolding symbol_from
    symbol_wrong h = rw (n, eq-eqb _ 0 ok, ← ends, ← tells, ne_eqb f 0 h)

    pub symbol_next : f ≡ 0 → symbol_from s t p ≡ kind_from s t.variables (span_of x.place e) e
    unfolding symbol_from
    symbol_next h = rw (n, eq-eqb _ 0 ok, ← ends, ← tells, eq-eqb f 0 h)

-- a word is not both `match` and `sym`
match_no_sym : (w : Bytes) → same_word w match_word ≡ true → same_word w sym_word ≡ false
match_no_sym w h = rw ((same_word_law w match_word).0 h)

-- Lines from p on, where the first word ends at e.
module _ (s : Bytes) (t : Table) (p : ℕ) {e : ℕ} (ends : e ≡ word_end s p) where
  module _ (h : same_word (part s p e) match_word ≡ true) where
    pub match_none : {rest : ℕ} (room : ℕ) → room ≡ suc rest → length t.table ≡ 0 → lines_from s room t p ≡ record { step = fail 2 p; table = t }
    match_none room k z = rw (k, ← ends, h, match_no_sym _ h, eq-eqb _ 0 z)

    pub match_some : (room : ℕ) → (length t.table ≡ 0 → ⊥) → lines_from s room t p ≡ record { step = go e; table = t }
    match_some zero z = rw (← ends, h)
    match_some (suc room) z = rw (← ends, h, match_no_sym _ h, ne_eqb _ 0 z)

  pub line_wrong : (room : ℕ) → same_word (part s p e) match_word ≡ false → same_word (part s p e) sym_word ≡ false
      → lines_from s room t p ≡ record { step = fail 2 p; table = t }
  line_wrong zero h k = rw (← ends, h, k)
  line_wrong (suc room) h k = rw (← ends, h, k)

  module _ (room : ℕ) (h : same_word (part s p e) sym_word ≡ true) where
    pub lines_full : room ≡ 0 → same_word (part s p e) match_word ≡ false → lines_from s room t p ≡ record { step = fail 3 p; table = t }
    lines_full z k = rw (z, ← ends, h, k)

    module _ {rest : ℕ} (k : room ≡ suc rest) where
      pub line_stopped : ((symbol_from s t e).step.fault ≡ 0 → ⊥) → lines_from s room t p ≡ record { step = (symbol_from s t e).step; table = t }
      line_stopped f = rw (k, ← ends, h, ne_eqb _ 0 f)

      pub line_next : (symbol_from s t e).step.fault ≡ 0
          → lines_from s room t p ≡ lines_from s rest (with_symbol t (symbol_from s t e)) (symbol_from s t e).step.place
      line_next f = rw (k, ← ends, h, eq-eqb _ 0 f)
