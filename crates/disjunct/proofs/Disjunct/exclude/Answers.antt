-- `Disjunct::exclude` meets its contract: one slot with one more exclusion, or no room for it.
use mathlib.Core.Path.{refl, sym, ap, ◌∙◌}
use lib.Dec.{leb}
use lib.ListN.{length, set}
use Rattle.meaning.specs.Labels.{exclusions, excluding}
use Rattle.disjunct.specs.Disjuncts.{view_disjunct}
use Rattle.disjunct.proofs.Slots.{entry_at, view_set}
use Rattle.disjunct.proofs.Disjunct.exclude.Goals as goal

pub returns-in-Ok-clause-room : goal.returns-in-Ok-clause-room
returns-in-Ok-clause-room c =
    let a = c.args in
    c.in-Ok.ensures.room ∙ sym (ap (λ e. leb (length (exclusions (excluding e a.x))) 6) (entry_at a.self a.v))

pub returns-in-Ok-clause-excluded : goal.returns-in-Ok-clause-excluded
returns-in-Ok-clause-excluded c =
    let a = c.args in
    let h = ap (λ e. excluding e a.x) (entry_at a.self a.v) in
    let r = c.in-Ok in
    view_set a.self a.v r.slot ∙ ap (set (view_disjunct a.self) a.v) (r.ensures.slot ∙ sym h)

pub returns-in-Err-clause-room : goal.returns-in-Err-clause-room
returns-in-Err-clause-room c =
    let a = c.args in
    c.in-Err.ensures.room ∙ sym (ap (λ e. leb (length (exclusions (excluding e a.x))) 6) (entry_at a.self a.v))

pub returns-in-Err-clause-kept : goal.returns-in-Err-clause-kept
returns-in-Err-clause-kept c = refl
