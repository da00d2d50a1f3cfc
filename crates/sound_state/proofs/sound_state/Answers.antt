-- `sound_state::sound_state` meets its contract: number and count in range, then the pool, then its order.
use mathlib.Core.Path.{◌≡◌, refl, sym, ap, ◌∙◌}
use mathlib.Core.Bool.{◌&&◌}
use Prim.Native.Nat.{min}
use lib.ListN.{length-take}
use Rattle.laws.specs.Order.{ascending}
use Rattle.meaning.specs.Labels.{compare_held}
use Rattle.state.specs.States.{held_first}
use Rattle.sound.specs.Soundness.{state_sound}
use Rattle.sound.specs.Tests.{pool_sound}
use Rattle.sound.proofs.Loops.{both_second, both_first}
use Rattle.sound.proofs.Sizes.{book_sized, state_sized}
use Rattle.sound.proofs.Parts.{state_late, state_many, state_parts}
use Rattle.sound_state.proofs.sound_state.Goals as goal
use Rattle.sound_state.proofs.sound_state.Goals.{then-s-gt-EVENTS-via-then-s-gt-EVENTS, then-s-gt-EVENTS-via-else-s-gt-EVENTS+then-s-gt-CAPACITY}

pub returns-then-s-gt-EVENTS : goal.returns-then-s-gt-EVENTS
returns-then-s-gt-EVENTS c =
    let a = c.args in
    elim c.then-s-gt-EVENTS.branch [
      | then-s-gt-EVENTS-via-then-s-gt-EVENTS w ↦ sym (state_late a.b a.s w.if-s-gt-EVENTS.true)
      | then-s-gt-EVENTS-via-else-s-gt-EVENTS+then-s-gt-CAPACITY w ↦ sym (state_many a.b a.s w.if-s-gt-CAPACITY.true)
    ]

pub returns-then-sound_pool : goal.returns-then-sound_pool
returns-then-sound_pool c =
    let b = c.args.b in
    let s = c.args.s in
    let n = c.min-positions.ensures ∙ ap (min b.positions) (sym (book_sized b c.well_formed.0).occurrences) ∙ sym (length-take b.positions b.occurrences) in
    let parts : state_sound b s ≡ (pool_sound b.variables c.min-positions.result s && ascending compare_held (held_first b.variables s)) =
    state_parts b s (state_sized s c.well_formed.1.0) c.requires c.if-s-gt-CAPACITY.false c.if-s-gt-EVENTS.false c.min-positions.result n in
    both_second c.sound_pool.ensures c.if-sound_pool.true refl c.sound_order.ensures ∙ sym parts

pub returns-else-sound_pool : goal.returns-else-sound_pool
returns-else-sound_pool c =
    let b = c.args.b in
    let s = c.args.s in
    let n = c.min-positions.ensures ∙ ap (min b.positions) (sym (book_sized b c.well_formed.0).occurrences) ∙ sym (length-take b.positions b.occurrences) in
    let parts : state_sound b s ≡ (pool_sound b.variables c.min-positions.result s && ascending compare_held (held_first b.variables s)) =
    state_parts b s (state_sized s c.well_formed.1.0) c.requires c.if-s-gt-CAPACITY.false c.if-s-gt-EVENTS.false c.min-positions.result n in
    both_first (ascending compare_held (held_first b.variables s)) c.sound_pool.ensures c.if-sound_pool.false refl ∙ sym parts
