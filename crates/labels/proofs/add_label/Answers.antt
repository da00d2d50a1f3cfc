-- `labels::add_label` meets its contract: the new label, and with room for it, what is held so far with it.
use mathlib.Core.Path.{ap, ◌∙◌}
use Rattle.bounded.specs.Bounded.{appended}
use Rattle.packed.specs.Held.{held_in, held_grown}
use Rattle.labels.proofs.add_label.Goals as goal

pub returns-in_err-m-clause-held : goal.returns-in_err-m-clause-held
returns-in_err-m-clause-held c =
    let a = c.args in
    ap (λ r. held_grown r a.next_at.now a.next.now) c.from_residual.ensures
    ∙ ap (appended a.q.number (held_in a.total a.next_at.now a.next.now)) c.in_err-m.ensures.set

pub returns-clause-held : goal.returns-clause-held
returns-clause-held c =
    let a = c.args in
    c.append_label.ensures.held ∙ ap (appended a.q.number (held_in a.total a.next_at.now a.next.now)) c.in_ok-m.ensures.set
