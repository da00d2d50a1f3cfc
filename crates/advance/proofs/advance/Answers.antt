-- `advance::advance` meets its contract: what is held so far, with the labels still ahead, is what the event makes.
use mathlib.Core.Path.{◌≡◌, sym, ap, ◌∙◌}
use Rattle.std.proofs.Common.{Some, None}
use Rattle.packed.specs.Held.{held_grown}
use native.Mathlib.Omega.{arith}
use lib.ListN.{length, get_or}
use Rattle.advance.proofs.Books.{number_below, ascending_at, advancing_none, advancing_done, ahead_full, turned}
use Prim.Native.Nat.{◌+◌, ◌<◌}
use borrow.Author.Rules.{rules}
use Rattle.advance.proofs.advance.Goals as goal

pub loop-i-init : goal.loop-i-init
loop-i-init c =
    let long : length c.args.book.occurrences ≡ 31 = search rules in
    let a = c.args in
    advancing_none a.book a.begins a.cs a.held.now a.at.now a.n a.next_at.now a.next.now long c.requires.1.positions

pub offset_bounds-cs-y : goal.offset_bounds-cs-y
offset_bounds-cs-y c =
    let long : length c.args.book.occurrences ≡ 31 = search rules in
    let symbol_below : let a = c.args in get_or a.book.occurrences c.loop-i.i 0 < a.book.symbols = number_below c.args.book c.args.begins c.loop-i.i c.loop-i-test.true long c.requires.1.positions c.requires.2 in
    let below = symbol_below in
    omega (arith, c.requires.1.symbols)

pub bounds-cs-y : goal.bounds-cs-y
bounds-cs-y c =
    let long : length c.args.book.occurrences ≡ 31 = search rules in
    let symbol_below : let a = c.args in get_or a.book.occurrences c.loop-i.i 0 < a.book.symbols = number_below c.args.book c.args.begins c.loop-i.i c.loop-i-test.true long c.requires.1.positions c.requires.2 in
    let below = symbol_below in
    omega (arith, c.requires.1.symbols)

pub add_label-requires : goal.add_label-requires
add_label-requires c =
    let long : length c.args.book.occurrences ≡ 31 = search rules in
    let symbol_below : let a = c.args in get_or a.book.occurrences c.loop-i.i 0 < a.book.symbols = number_below c.args.book c.args.begins c.loop-i.i c.loop-i-test.true long c.requires.1.positions c.requires.2 in
    let l = c.loop-i in
    let a = c.args in
    let i = c.loop-i-test.true in
    let few = c.requires.1.positions in (
      c.requires.0,
      c.requires.1.symbols,
      omega arith,
      c.requires.5 (get_or a.book.occurrences l.i 0) symbol_below,
      c.requires.5,
      ascending_at a.book a.begins a.cs a.held.now a.at.now a.n (l.i + 1) c.requires.3,
      l.invariant.few,
    )

pub returns-in_err-total-clause-held : goal.returns-in_err-total-clause-held
returns-in_err-total-clause-held c = λ e t.
    let long : length c.args.book.occurrences ≡ 31 = search rules in
    let l = c.loop-i in
    let a = c.args in
    let p = c.add_label in
    ap (λ r. held_grown r p.new.next_at p.new.next) c.from_residual.ensures
    ∙ sym (ahead_full a.book a.begins a.cs a.held.now a.at.now a.n e (l.i + 1))
    ∙ turned a.book a.begins a.cs a.held.now a.at.now a.n l.i l.total None l.next_at l.next
    p.new.next_at p.new.next a.masks.now c.has.result
    c.loop-i-test.true long c.requires.1.positions c.requires.2 c.requires.4 c.has.ensures l.invariant c.in_err-total.ensures.held e t

pub loop-i-preserved : goal.loop-i-preserved
loop-i-preserved c =
    let long : length c.args.book.occurrences ≡ 31 = search rules in
    let l = c.loop-i in
    let a = c.args in
    let p = c.add_label in
    record {
      few = c.in_ok-total.ensures.few;
      whole = turned a.book a.begins a.cs a.held.now a.at.now a.n l.i l.total (Some c.in_ok-total.total) l.next_at l.next
          p.new.next_at p.new.next a.masks.now c.has.result
          c.loop-i-test.true long c.requires.1.positions c.requires.2 c.requires.4 c.has.ensures l.invariant c.in_ok-total.ensures.held;
    }

pub returns-clause-held : goal.returns-clause-held
returns-clause-held c =
    let l = c.loop-i in
    let a = c.args in
    advancing_done a.book a.begins a.cs a.held.now a.at.now a.n l.i l.total l.next_at l.next c.loop-i-test.false l.invariant
