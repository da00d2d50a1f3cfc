-- `transition::judged` meets its contract: the lent words hold what the state holds, made wide, so that each test is that of a check, and what they
-- hold then is the state after the event.
use mathlib.Core.Path.{refl, sym}
use Rattle.sound.proofs.Soundness.{book_counts_law, state_count, state_number}
use Rattle.transition.proofs.Checks.{judged_free, judged_many, judged_none}
use Rattle.transition.proofs.Steps.{begins_sound, holding, free_known, no_room_law, accepted_by}
use Rattle.transition.proofs.judged.Goals as goal

pub load-requires : goal.load-requires
load-requires c =
    let p = c.requires in
    (state_count _ _ p.1, (book_counts_law _ p.0).0)

pub take_event-r-requires : goal.take_event-r-requires
take_event-r-requires c =
    let p = c.requires in
    (p.0, begins_sound _ p.0, p.2, state_count _ _ p.1, holding _ _ p.1 _ _ c.load.ensures)

pub returns-then-r : goal.returns-then-r
returns-then-r c =
    let left = c.take_event-r.ensures (holding _ _ c.requires.1 _ _ c.load.ensures) in
    (sym (judged_free _ _ _ (free_known _ _ _ _ _ _ _ left c.if-r.true)), refl)

pub returns-then-state-eq-EVENTS : goal.returns-then-state-eq-EVENTS
returns-then-state-eq-EVENTS c =
    let left = c.take_event-r.ensures (holding _ _ c.requires.1 _ _ c.load.ensures) in
    (sym (judged_many _ _ _ (free_known _ _ _ _ _ _ _ left c.if-r.false) c.if-state-eq-EVENTS.true), refl)

pub returns-in-None : goal.returns-in-None
returns-in-None c =
    let left = c.take_event-r.ensures (holding _ _ c.requires.1 _ _ c.load.ensures) in
    (sym (judged_none _ _ _ (free_known _ _ _ _ _ _ _ left c.if-r.false) c.if-state-eq-EVENTS.false (no_room_law _ _ _ _ _ _ _ left c.in-None.is)), refl)

pub returns-in-Some : goal.returns-in-Some
returns-in-Some c =
    let left = c.take_event-r.ensures (holding _ _ c.requires.1 _ _ c.load.ensures) in
    accepted_by _ _ _ _ _ _ _ left _ c.in-Some.is c.if-r.false (state_number _ _ c.requires.1) c.if-state-eq-EVENTS.false
