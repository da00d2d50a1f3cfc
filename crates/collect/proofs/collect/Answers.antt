-- `collect::collect` meets its contract: what is found so far with what the positions ahead give is what the event gives.
use mathlib.Core.Path.{refl, sym, ap, ◌∙◌}
use Prim.Native.Nat.{◌+◌, ◌<◌}
use native.Mathlib.Omega.{arith}
use borrow.Author.Rules.{rules}
use Rattle.bounded.specs.Bounded.{rows_ascend}
use Rattle.bounded.proofs.RowSets.{yield_ascends}
use Rattle.demand.specs.Constraints.{view_constraint}
use Rattle.collect.specs.Yields.{yield_in}
use Rattle.collect.proofs.Symbols.{symbol_at, constraint_at, sources_of, yield_ahead, yield_first, Known, few_variables_law, symbol_below}
use Rattle.collect.proofs.Symbols.{yield_turn, yield_last}
use Rattle.collect.proofs.collect.Goals as goal

pub loop-i-init : goal.loop-i-init
loop-i-init c =
    let a = c.args in
    (omega arith, refl, λ e m. yield_first a.book a.begins a.n a.at.now a.held.now e)

pub offset_bounds-cs-y : goal.offset_bounds-cs-y
offset_bounds-cs-y c =
    let known : Known c.args.book c.args.begins c.args.n c.args.at.now c.args.masks.now = record { sound = c.requires.2; counts = c.requires.1; long = search rules; follows = c.requires.3 } in
    let below : symbol_at c.args.book c.loop-i.i < c.args.book.symbols = symbol_below known c.loop-i.i c.loop-i-test.true in
    omega (arith, below, c.requires.1.symbols)

pub bounds-cs-y : goal.bounds-cs-y
bounds-cs-y c =
    let known : Known c.args.book c.args.begins c.args.n c.args.at.now c.args.masks.now = record { sound = c.requires.2; counts = c.requires.1; long = search rules; follows = c.requires.3 } in
    let below : symbol_at c.args.book c.loop-i.i < c.args.book.symbols = symbol_below known c.loop-i.i c.loop-i-test.true in
    omega (arith, below, c.requires.1.symbols)

pub add_position-r-requires : goal.add_position-r-requires
add_position-r-requires c =
    let known : Known c.args.book c.args.begins c.args.n c.args.at.now c.args.masks.now = record { sound = c.requires.2; counts = c.requires.1; long = search rules; follows = c.requires.3 } in
    let below : symbol_at c.args.book c.loop-i.i < c.args.book.symbols = symbol_below known c.loop-i.i c.loop-i-test.true in (
      c.requires.0,
      omega (arith, c.requires.1.positions),
      few_variables_law known,
      c.requires.4 _ below,
      c.loop-i.invariant.0,
      c.loop-i.invariant.1,
    )

pub loop-i-preserved : goal.loop-i-preserved
loop-i-preserved c =
    let known : Known c.args.book c.args.begins c.args.n c.args.at.now c.args.masks.now = record { sound = c.requires.2; counts = c.requires.1; long = search rules; follows = c.requires.3 } in
    let p = c.loop-i in
    let a = c.args in
    let y = yield_in p.r p.out in
    let C = view_constraint (constraint_at a.book a.cs p.i) in
    let l = sources_of a.book a.begins a.n a.masks.now a.held.now (p.i + 1) in
    let added = c.add_position-r.ensures.gives in (
      c.add_position-r.ensures.few,
      ap (λ z. rows_ascend z.rows) added ∙ yield_ascends a.book.variables C l y p.invariant.1,
      λ e m. ap (yield_ahead a.book a.begins a.n a.at.now a.held.now e (p.i + 1)) added
          ∙ sym (yield_turn known a.held.now e p.i y a.cs m c.loop-i-test.true) ∙ p.invariant.2 e m,
    )

pub returns-clause-found : goal.returns-clause-found
returns-clause-found c = λ e m.
    let known : Known c.args.book c.args.begins c.args.n c.args.at.now c.args.masks.now = record { sound = c.requires.2; counts = c.requires.1; long = search rules; follows = c.requires.3 } in
    let p = c.loop-i in
    let y = yield_in p.r p.out in
    let all = sym (yield_last known c.args.held.now e p.i y c.loop-i-test.false) ∙ p.invariant.2 e m in
    (ap (λ z. z.rows) all, ap (λ z. z.free) all)
