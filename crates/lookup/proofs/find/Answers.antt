-- `lookup::find` meets its contract: the names passed and the index among those ahead.
use mathlib.Core.Path.{◌≡◌, sym, ap, ◌∙◌}
use mathlib.Core.Bool.{Bool, cond}
use mathlib.Core.List.{List, ◌∷◌, map}
use Prim.Native.Nat.{ℕ, suc, ◌+◌, ◌<◌}
use native.Mathlib.Numerals.{add-one}
use native.Mathlib.Omega.{arith}
use borrow.Author.Tests.{lt-ltb}
use lib.Dec.{eqb}
use lib.ListN.{length, get_or, drop, length-map}
use lib.Pointwise.{pointwise}
use lib.Seq.{drop-cons}
use Rattle.laws.specs.Lists.{all}
use Rattle.laws.proofs.Lists.{and_true_split}
use Rattle.form.specs.Text.{Bytes, Span}
use Rattle.form.specs.Scan.{part}
use Rattle.form.specs.Lines.{bytes_at, index_of}
use Rattle.table.specs.declared.Name.{Name}
use Rattle.table.specs.Tables.{inside, span_of, no_name}
use Rattle.table.proofs.Spans.{index_by}
use Rattle.text.proofs.Parts.{same_bytes}
use Rattle.lookup.proofs.find.Goals as goal

module _ (names : List Name) (i : ℕ) (h : i < length names) where
  abbrev here : Span
  here = span_of (get_or names i no_name)

  first : map span_of (drop i names) ≡ here ∷ map span_of (drop (i + 1) names)
  first = rw add-one (ap (map span_of) (drop-cons names i no_name h))

  -- the index of the word w among the names from i on, by the comparison of the first with it
  index : (s w : Bytes) {b : Bool} → pointwise eqb (bytes_at s here) w ≡ b
      → index_of s (map span_of (drop i names)) w ≡ cond b 0 (suc (index_of s (map span_of (drop (i + 1) names)) w))
  index s w e = index_by s w first (sym (same_bytes (bytes_at s here) w) ∙ e)

pub loop-i-init : goal.loop-i-init
loop-i-init c = record { within = c.requires.2; ahead = omega arith }

pub returns-then-eq : goal.returns-then-eq
returns-then-eq c =
    let a = c.args in
    let h = index a.names.now c.loop-i.i c.loop-i-test.true a.s.now (part a.s.now a.p a.e) (sym c.eq.ensures ∙ c.if-eq.true) in
    let k : index_of a.s.now (map span_of a.names.now) (part a.s.now a.p a.e) ≡ c.loop-i.i = omega (arith, c.loop-i.invariant.ahead, h) in
    rw (k, length-map, lt-ltb _ _ c.loop-i-test.true)

pub loop-i-preserved : goal.loop-i-preserved
loop-i-preserved c =
    let a = c.args in
    let h = index a.names.now c.loop-i.i c.loop-i-test.true a.s.now (part a.s.now a.p a.e) (sym c.eq.ensures ∙ c.if-eq.false) in
    let f = ap (all (inside (length a.s.now))) (sym (first a.names.now c.loop-i.i c.loop-i-test.true)) in
    record { within = (and_true_split _ _ (f ∙ c.loop-i.invariant.within)).1; ahead = omega (arith, c.loop-i.invariant.ahead, h) }
