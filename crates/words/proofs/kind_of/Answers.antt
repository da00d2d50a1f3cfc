-- `words::kind_of` meets its contract: one return for each case of `kind_of`.
use mathlib.Core.Path.{refl}
use borrow.Author.Tests.{ne_eqb, le-leb, lt-leb}
use Rattle.words.proofs.Numbers.{kind_at}
use Rattle.words.proofs.kind_of.Goals as goal
use Rattle.words.proofs.kind_of.Goals.{then-w-gt-KIND_DIGITS-via-then-w-gt-KIND_DIGITS}
use Rattle.words.proofs.kind_of.Goals.{then-w-gt-KIND_DIGITS-via-else-w-gt-KIND_DIGITS+then-not-all_digits}
use Rattle.words.proofs.kind_of.Goals.{then-w-gt-KIND_DIGITS-via-else-w-gt-KIND_DIGITS+else-not-all_digits+then-eq}
use Rattle.words.proofs.kind_of.Goals.{then-n-eq0-via-then-n-eq0, then-n-eq0-via-else-n-eq0+then-n-gt-KIND_LIMIT}

pub returns-then-w-gt-KIND_DIGITS : goal.returns-then-w-gt-KIND_DIGITS
returns-then-w-gt-KIND_DIGITS c =
    let a = c.args in
    elim c.then-w-gt-KIND_DIGITS.branch [
      | then-w-gt-KIND_DIGITS-via-then-w-gt-KIND_DIGITS w ↦ rw (kind_at a.s.now a.p a.e c.requires.1 refl, lt-leb _ 3 w.if-w-gt-KIND_DIGITS.true)
      | then-w-gt-KIND_DIGITS-via-else-w-gt-KIND_DIGITS+then-not-all_digits w ↦ rw (
        kind_at a.s.now a.p a.e c.requires.1 refl,
        le-leb _ 3 w.if-w-gt-KIND_DIGITS.false,
        ← w.all_digits.ensures,
        w.if-not-all_digits.true,
      )
      | then-w-gt-KIND_DIGITS-via-else-w-gt-KIND_DIGITS+else-not-all_digits+then-eq w ↦ rw (
        kind_at a.s.now a.p a.e c.requires.1 w.peek.ensures,
        le-leb _ 3 w.if-w-gt-KIND_DIGITS.false,
        ← w.all_digits.ensures,
        w.if-not-all_digits.false,
        ← w.eq.ensures,
        w.if-eq.true,
      )
    ]

pub returns-then-n-eq0 : goal.returns-then-n-eq0
returns-then-n-eq0 c =
    let a = c.args in
    rw (
      kind_at a.s.now a.p a.e c.requires.1 c.peek.ensures,
      le-leb _ 3 c.if-w-gt-KIND_DIGITS.false,
      ← c.all_digits.ensures,
      c.if-not-all_digits.false,
      ← c.eq.ensures,
      c.if-eq.false,
      ← c.digits_value-n.ensures,
    )
    (elim c.then-n-eq0.branch [
      | then-n-eq0-via-then-n-eq0 w ↦ rw w.if-n-eq0.true
      | then-n-eq0-via-else-n-eq0+then-n-gt-KIND_LIMIT w ↦ rw (lt-leb _ 255 w.if-n-gt-KIND_LIMIT.true)
    ])

pub returns : goal.returns
returns c =
    let a = c.args in
    rw (
      kind_at a.s.now a.p a.e c.requires.1 c.peek.ensures,
      le-leb _ 3 c.if-w-gt-KIND_DIGITS.false,
      ← c.all_digits.ensures,
      c.if-not-all_digits.false,
      ← c.eq.ensures,
      c.if-eq.false,
      ← c.digits_value-n.ensures,
      le-leb _ 255 c.if-n-gt-KIND_LIMIT.false,
      ne_eqb _ 0 c.if-n-eq0.false,
    )
