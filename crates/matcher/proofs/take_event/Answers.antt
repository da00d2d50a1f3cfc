-- `matcher::take_event` meets its contract: the masks and the constraints are those of the book, so that what `collect` and `advance` say of words
-- four wide is what the event does with the book and with what is held.
use mathlib.Core.Path.{◌≡◌, sym, ap}
use Rattle.std.proofs.Common.{unwrap_or}
use mathlib.Core.List.{map}
use lib.ListN.{take}
use Rattle.meaning.specs.Book.{followers}
use Rattle.book.specs.Books.{view_book}
use Rattle.book.specs.Counts.{view_from}
use Rattle.sound.proofs.Soundness.{book_symbols}
use Rattle.matcher.proofs.Words.{constraints_known, counts_known, parameters_sound, masks_known, words_sound, rows_some, effects_known}
use Rattle.matcher.proofs.take_event.Goals as goal

pub constraints-cs-requires : goal.constraints-cs-requires
constraints-cs-requires c =
    let b = c.args.book in
    let p = c.requires in
    ((counts_known b p.0).symbols, p.2, book_symbols b p.0)

pub follow_masks-requires : goal.follow_masks-requires
follow_masks-requires c =
    let a = c.args in
    let p = c.requires in
    (p.3, parameters_sound a.book a.begins p.0 a.n a.at.now a.held.now p.3 p.4)

pub collect-found-requires : goal.collect-found-requires
collect-found-requires c =
    let followed : let a = c.args in
    take a.n c.follow_masks.new.masks ≡ map (followers (view_book a.book)) (take a.n a.at.now) = let a = c.args in
    let p = c.requires in
    masks_known a.book a.begins p.0 a.n a.at.now a.held.now p.3 p.4 _ c.follow_masks.ensures in
    let p = c.requires in
    (p.3, counts_known _ p.0, p.1, followed, c.constraints-cs.ensures.1)

pub advance-after-requires : goal.advance-after-requires
advance-after-requires c =
    let followed : let a = c.args in
    take a.n c.follow_masks.new.masks ≡ map (followers (view_book a.book)) (take a.n a.at.now) = let a = c.args in
    let p = c.requires in
    masks_known a.book a.begins p.0 a.n a.at.now a.held.now p.3 p.4 _ c.follow_masks.ensures in
    let a = c.args in
    let p = c.requires in (
      p.3,
      counts_known _ p.0,
      p.1,
      words_sound (view_from a.begins a.book) p.1 a.n a.at.now a.held.now p.4,
      followed,
      c.constraints-cs.ensures.1,
    )

pub unwrap-requires : goal.unwrap-requires
unfolding view_book
unwrap-requires c =
    let a = c.args in
    let p = c.requires in
    let agree = constraints_known a.book _ _ c.constraints-cs.ensures.0 in
    rows_some (view_from a.begins a.book) p.1 a.n a.at.now a.held.now p.4 _ _ _ (c.collect-found.ensures.found _ agree).0

pub returns : goal.returns
unfolding view_book
returns c h =
    let a = c.args in
    let p = c.requires in
    let agree = constraints_known a.book _ _ c.constraints-cs.ensures.0 in
    let found = c.collect-found.ensures.found _ agree in
    effects_known (view_from a.begins a.book) p.1 a.n a.at.now a.held.now h _ _ c.collect-found.result.rows _ _ _ (sym (ap (λ o. unwrap_or o 0) c.unwrap.ensures)) c.collect-found.ensures.few
    found.0 found.1 c.advance-after.ensures.few (c.advance-after.ensures.held _ agree)
