-- `record::decode` meets its contract: each test that refuses breaks the form, and all that pass are the form.
use mathlib.Core.Path.{◌≡◌, sym, ◌∙◌}
use mathlib.Core.Bool.{true≢false}
use mathlib.Core.List.{List, [], ◌∷◌}
use Prim.Native.Nat.{ℕ}
use native.Mathlib.Omega.{arith}
use lib.Dec.{eqb}
use lib.ListN.{get_or, drop}
use Rattle.laws.specs.Lists.{all}
use Rattle.record.specs.Records.{arguments_in}
use Rattle.record.proofs.Records.{Form, arguments, decoded_none, decoded_form}
use Rattle.record.proofs.decode.Goals as goal
use Rattle.record.proofs.decode.Goals.{then-kind-eq0-via-then-kind-eq0, then-kind-eq0-via-else-kind-eq0+then-count-gt-ARGUMENTS, then-kind-eq0-via-else-kind-eq0+else-count-gt-ARGUMENTS+then-s-ne0, then-kind-eq0-via-else-kind-eq0+else-count-gt-ARGUMENTS+else-s-ne0+then-s-ne0-2}

pub returns-then-s-ne-RECORD : goal.returns-then-s-ne-RECORD
returns-then-s-ne-RECORD c = sym (decoded_none c.args.s.now λ f. c.if-s-ne-RECORD.true f.size)

pub returns-then-kind-eq0 : goal.returns-then-kind-eq0
returns-then-kind-eq0 c =
    sym (decoded_none c.args.s.now λ f. elim c.then-kind-eq0.branch [
      | then-kind-eq0-via-then-kind-eq0 w ↦ omega (arith, w.if-kind-eq0.true, f.kind, c.from-kind.ensures)
      | then-kind-eq0-via-else-kind-eq0+then-count-gt-ARGUMENTS w ↦ omega (arith, w.if-count-gt-ARGUMENTS.true, f.few, c.from-count.ensures)
      | then-kind-eq0-via-else-kind-eq0+else-count-gt-ARGUMENTS+then-s-ne0 w ↦ w.if-s-ne0.true f.third
      | then-kind-eq0-via-else-kind-eq0+else-count-gt-ARGUMENTS+else-s-ne0+then-s-ne0-2 w ↦ w.if-s-ne0-2.true f.fourth
    ])

-- the test of the last arguments
rest : (s : List ℕ) (n a b c d : ℕ) (r : _) → n ≡ get_or s 1 0 → arguments_in s ≡ a ∷ b ∷ c ∷ d ∷ []
    → r ≡ all (eqb 0) (drop n (a ∷ b ∷ c ∷ d ∷ [])) → r ≡ all (eqb 0) (drop (get_or s 1 0) (arguments_in s))
rest s n a b c d r h read e = rw (← h, read) e

pub returns-then-not-zero_from : goal.returns-then-not-zero_from
returns-then-not-zero_from c =
    let s : List ℕ = c.args.s.now in
    let read = arguments s _ _ _ _ c.word.ensures c.word-2.ensures c.word-3.ensures c.word-4.ensures in
    sym (decoded_none s λ f. true≢false (sym f.rest ∙ sym (rest s _ _ _ _ _ _ c.from-count.ensures read c.zero_from.ensures) ∙ c.if-not-zero_from.true))

pub returns : goal.returns
returns c =
    let s : List ℕ = c.args.s.now in
    let read = arguments s _ _ _ _ c.word.ensures c.word-2.ensures c.word-3.ensures c.word-4.ensures in
    let f : Form s = record {
      size = c.if-s-ne-RECORD.false;
      kind = omega (arith, c.if-kind-eq0.false, c.from-kind.ensures);
      few = omega (arith, c.if-count-gt-ARGUMENTS.false, c.from-count.ensures);
      third = c.if-s-ne0.false;
      fourth = c.if-s-ne0-2.false;
      rest = sym (rest s _ _ _ _ _ _ c.from-count.ensures read c.zero_from.ensures) ∙ c.if-not-zero_from.false;
    } in
    rw (c.from-kind.ensures, c.from-count.ensures, ← read) (sym (decoded_form s f))
