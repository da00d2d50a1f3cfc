-- `words::name_end` meets its contract: a name begins with a letter.
use mathlib.Core.Path.{◌≡◌, ap, ◌∙◌}
use Prim.Native.Nat.{◌+◌}
use lib.ListN.{drop}
use Rattle.form.specs.Text.{is_name_byte}
use Rattle.form.specs.Scan.{at, name_end}
use Rattle.text.proofs.Runs.{run_law, at_some, at_none}
use Rattle.words.proofs.name_end.Goals as goal

pub returns-in-Some : goal.returns-in-Some
unfolding name_end
returns-in-Some c =
    let a = c.args in
    let b : at a.s.now a.p ≡ c.in-Some.b = at_some a.s.now a.p c.peek.ensures c.in-Some.is in
    rw (b, ← c.is_lower.ensures, c.if-is_lower.true)
    (ap (λ n. a.p + n) (c.name_bytes.ensures.value ∙ run_law is_name_byte (drop a.p a.s.now)))

pub returns-in_default : goal.returns-in_default
unfolding name_end
returns-in_default c =
    let a = c.args in
    let b : at a.s.now a.p ≡ c.in-Some.b = at_some a.s.now a.p c.peek.ensures c.in-Some.is in
    rw (b, ← c.is_lower.ensures, c.if-is_lower.false)

pub returns-in_default-2 : goal.returns-in_default-2
unfolding name_end
returns-in_default-2 c = let a = c.args in rw (at_none a.s.now a.p c.peek.ensures c.in_default.is)
