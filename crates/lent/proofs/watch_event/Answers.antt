-- `watch_event` meets its contract: the event is taken over what the words say, and what it leaves is stored.
use mathlib.Core.Path.{◌∙◌}
use borrow.Author.Rules.{rules}
use Rattle.lent.proofs.Left.{of_words, event_left_law, kept, stored, old_count, few_old, few_new}
use Rattle.lent.proofs.watch_event.Goals as goal

pub store-requires : goal.store-requires
store-requires c =
    let event = c.event-r in
    let number = c.number_of-n in
    let tally = c.tally_in-t in
    let state = c.state_in-s in
    let book = c.book_in-b in
    let over = of_words book.ensures state.ensures tally.ensures event.ensures.0 in
    let zero = c.if-n-eq0.true in
    let lent = event.ensures.2 in
    (search rules, old_count over lent number.ensures zero, few_old over lent number.ensures zero, few_new over lent number.ensures zero)

pub returns-then-n-eq0 : goal.returns-then-n-eq0
returns-then-n-eq0 c =
    let event = c.event-r in
    let number = c.number_of-n in
    let tally = c.tally_in-t in
    let state = c.state_in-s in
    let book = c.book_in-b in
    let over = of_words book.ensures state.ensures tally.ensures event.ensures.0 in
    let words = c.store.ensures ∙ stored over event.ensures.2 number.ensures c.if-n-eq0.true in
    (event_left_law over number.ensures event.ensures.1 c.put_tally.ensures words, event.ensures.2)

pub returns-else-n-eq0 : goal.returns-else-n-eq0
returns-else-n-eq0 c =
    let event = c.event-r in
    let number = c.number_of-n in
    let tally = c.tally_in-t in
    let state = c.state_in-s in
    let book = c.book_in-b in
    let over = of_words book.ensures state.ensures tally.ensures event.ensures.0 in
    (event_left_law over number.ensures event.ensures.1 c.put_tally.ensures (kept over number.ensures c.if-n-eq0.false), event.ensures.2)
