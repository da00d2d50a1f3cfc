-- `labels::append_label` meets its contract: behind the positions before stands p, once for each disjunct.
use mathlib.Core.Path.{◌≡◌, sym, ap, ◌∙◌}
use mathlib.Core.List.{◌++◌}
use Prim.Native.Nat.{◌+◌, ◌-◌}
use lib.ListN.{length, take, drop, replicate, length-take, length-drop}
use borrow.Author.Rules.{rules}
use Rattle.std.proofs.lemmas.Slice.{take-put_mid}
use native.Mathlib.Omega.{arith}
use Rattle.labels.proofs.Held.{label_over, label_behind_law}
use Rattle.labels.proofs.append_label.Goals as goal

pub returns-then-total-m-gt-CAPACITY-clause-held : goal.returns-then-total-m-gt-CAPACITY-clause-held
returns-then-total-m-gt-CAPACITY-clause-held c =
    let a = c.args in
    label_over a.p a.m a.total a.label.now a.next_at.now a.next.now c.requires.0 c.requires.1 c.told-next_at c.if-total-m-gt-CAPACITY.true

pub returns-clause-held : goal.returns-clause-held
returns-clause-held c =
    let a = c.args in
    let ys = c.fill.new.self in
    let size : length ys ≡ a.m = c.fill.ensures.len ∙ omega (arith, length-take (a.total + a.m - a.total) (drop a.total a.next_at.now), length-drop a.total a.next_at.now) in
    let filled : ys ≡ replicate a.m a.p = c.fill.ensures.after (λ y e. search rules) ∙ ap (λ k. replicate k a.p) (sym c.fill.ensures.len ∙ size) in
    label_behind_law a.p a.m a.total a.label.now a.next_at.now a.next.now c.requires.0 c.requires.1 c.told-next_at _ _
    c.if-total-m-gt-CAPACITY.false
    (take-put_mid a.total (a.total + a.m - a.total) a.next_at.now ys (a.total + a.m) (omega arith) (omega arith)
    ∙ ap (λ r. take a.total a.next_at.now ++ r) filled)
    c.append.ensures
