-- `packed::put_slot` meets its contract: the words written are those of the entry, and no others are.
use mathlib.Core.Path.{◌≡◌}
use lib.ListN.{length}
use borrow.Author.Rules.{rules}
use Rattle.packed.proofs.Views.{write_bound, write_free}
use Rattle.packed.proofs.put_slot.Goals as goal

pub returns-then-s : goal.returns-then-s
returns-then-s c =
    write_bound c.args.words.now c.args.j c.args.s c.requires.0 c.requires.1 c.if-s.true

pub returns-else-s : goal.returns-else-s
returns-else-s c =
    let z = c.size in
    let l : length c.args.s.excluded ≡ 6 = search rules in
    write_free c.args.words.now c.args.j c.args.s z.result c.copy_from_slice.new.self c.requires.0 c.requires.1 c.if-s.false l z.ensures.0 z.ensures.1
    c.copy_from_slice.ensures.after
