-- `watch::event` meets its contract: the step accepts, and what is left is settled by the test for space; or it refuses.
use mathlib.Core.Path.{◌≡◌, sym, ◌∙◌}
use mathlib.Core.Bool.{true}
use Rattle.laws.proofs.Slices.{bytes_lent}
use Rattle.form.specs.Text.{is_bytes}
use Rattle.watch.proofs.Ends.{step_passed, passed_variables, ends_refused, ends_settled}
use Rattle.watch.proofs.event.Goals as goal

-- how the call ends, and that
beside : {A B C : Type 0} → A × B → C → A × B × C
beside (a, b) c = (a, b, c)

pub settled-requires : goal.settled-requires
settled-requires c =
    let step = c.in-Ok.ensures in
    (passed_variables _ _ _ (step_passed _ _ _ step.0), step.1.few, step.1.room, step.1.below)

pub returns-in-Ok : goal.returns-in-Ok
returns-in-Ok c =
    let lent : is_bytes c.args.bytes.now ≡ true = bytes_lent c.args.bytes.now c.type_inv.bytes in
    let step = c.in-Ok.ensures in
    let done = c.settled.ensures in
    beside (ends_settled _ _ _ _ _ (step_passed _ _ _ step.0) _ _ _ _ step.1 _ done.0 done.1)
    lent

pub returns-in-Err : goal.returns-in-Err
returns-in-Err c =
    let lent : is_bytes c.args.bytes.now ≡ true = bytes_lent c.args.bytes.now c.type_inv.bytes in
    let step = c.in-Err.ensures in
    beside (ends_refused _ _ _ _ _ _ step.0 step.1 c.refused.ensures) lent
