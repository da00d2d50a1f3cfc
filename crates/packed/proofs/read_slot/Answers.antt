-- `packed::read_slot` meets its contract: the seven words are those of the entry.
use Rattle.std.proofs.Common.{◌≡◌, ◌+◌, ◌-◌, take, drop, ap, ◌∙◌, arith}
use Rattle.packed.proofs.Views.{read_bound, read_free}
use Rattle.packed.proofs.read_slot.Goals as goal

pub returns-then-code-eq-BOUND : goal.returns-then-code-eq-BOUND
returns-then-code-eq-BOUND c =
    read_bound c.args.words.now c.args.at c.holding.result c.if-code-eq-BOUND.true c.holding.ensures

pub returns : goal.returns
returns c =
    let six : c.args.at + 7 - (c.args.at + 1) ≡ 6 = omega arith in
    read_free c.args.words.now c.args.at c.copy_from_slice.new.self c.if-code-eq-BOUND.false
    (c.copy_from_slice.ensures.after ∙ ap (λ n. take n (drop (c.args.at + 1) c.args.words.now)) six)
