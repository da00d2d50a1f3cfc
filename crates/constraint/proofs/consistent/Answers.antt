-- `constraint::consistent` meets its contract: the demands from i on decide, as long as each one passed agrees with those behind it.
use mathlib.Core.Path.{◌≡◌, sym, ◌∙◌}
use borrow.Author.Rules.{rules}
use lib.ListN.{length}
use Rattle.laws.proofs.Arrays.{map_length}
use Rattle.constraint.proofs.Steps.{consistent_next, consistent_none}
use Rattle.constraint.proofs.consistent.Goals as goal

pub loop-i-preserved : goal.loop-i-preserved
loop-i-preserved c =
    let long : length c.args.c.demands ≡ 4 = search (rules, map_length) in
    let l = c.loop-i in
    let h = sym c.agrees_from.ensures ∙ c.if-not-agrees_from.false in
    sym (consistent_next c.args.c long c.requires.few l.i c.loop-i-test.true h) ∙ l.invariant

pub returns : goal.returns
returns c =
    let long : length c.args.c.demands ≡ 4 = search (rules, map_length) in
    let l = c.loop-i in
    sym (consistent_none c.args.c long c.requires.few l.i c.loop-i-test.false) ∙ l.invariant
