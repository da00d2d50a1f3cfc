-- `watch_set_event` meets its contract: judged first, and taken by every book where the number is 0.
use mathlib.Core.Path.{◌≡◌, refl, sym}
use mathlib.Core.Bool.{true}
use Rattle.laws.proofs.Slices.{bytes_lent}
use Rattle.form.specs.Text.{is_bytes}
use Rattle.parts.proofs.Left.{number_zero}
use Rattle.lent_set.proofs.Event.{event_accepted, event_refused}
use Rattle.lent_set.proofs.watch_set_event.Goals as goal

pub advance_all-requires : goal.advance_all-requires
advance_all-requires c =
    let a = c.args in
    let j = c.in-Ok.ensures.passed in
    let (_, passes, fits) = number_zero a.books.now a.states.now a.bytes.now a.count a.rows.now a.place j.0 in
    (j.1, passes, fits)

pub returns-in-Ok : goal.returns-in-Ok
returns-in-Ok c =
    let lent : is_bytes c.args.bytes.now ≡ true = bytes_lent c.args.bytes.now c.type_inv.bytes in
    let a = c.args in
    let j = c.in-Ok.ensures.passed in
    let done = c.advance_all.ensures in (
      event_accepted a.books.now a.states.now a.count a.bytes.now a.rows.now a.place a.tally.now (sym j.0)
          c.tally_in-t.ensures c.put_tally.ensures refl j.2 done.0 done.1 c.added.ensures,
      lent,
    )

pub returns-in-Err : goal.returns-in-Err
returns-in-Err c =
    let lent : is_bytes c.args.bytes.now ≡ true = bytes_lent c.args.bytes.now c.type_inv.bytes in
    let a = c.args in
    let j = c.in-Err.ensures.refused in (
      event_refused a.books.now a.states.now a.count a.bytes.now a.rows.now a.place a.tally.now j.0
          c.tally_in-t.ensures c.put_tally-in-Err.ensures j.1 c.added-in-Err.ensures,
      lent,
    )
