-- `constraint::matches` meets its contract: both tests, each a branch; the counts are the lengths of what is counted.
use mathlib.Core.Path.{◌≡◌, sym, ap, ◌∙◌}
use mathlib.Core.Bool.{Bool, ◌&&◌}
use borrow.Author.Rules.{rules}
use borrow.Author.Tests.{eq-eqb, ne_eqb}
use lib.Dec.{eqb}
use lib.ListN.{length}
use Rattle.laws.proofs.Arrays.{map_length}
use Rattle.meaning.specs.Events as Events
use Rattle.table.specs.Tables.{view_symbol}
use Rattle.record.specs.Records.{view_event}
use Rattle.constraint.proofs.Steps.{matches_counts}
use Rattle.constraint.proofs.matches.Goals as goal

pub returns-then-y-e : goal.returns-then-y-e
returns-then-y-e c =
    let counts : (b : Bool) → let y = c.args.y in let e = c.args.e in
    eqb y.kind e.kind ≡ b → Events.matches (view_symbol y) (view_event e) ≡ (b && eqb y.count e.count) = λ b h. let y = c.args.y in
    let e = c.args.e in
    let l : length y.parameters ≡ 4 = search (rules, map_length) in
    let m : length e.args ≡ 4 = search (rules, map_length) in
    matches_counts y e l c.requires.0 m c.requires.1 ∙ ap (λ (b : Bool). b && eqb y.count e.count) h in
    sym (counts _ (eq-eqb c.args.y.kind c.args.e.kind c.if-y-e.true))

pub returns-else-y-e : goal.returns-else-y-e
returns-else-y-e c =
    let counts : (b : Bool) → let y = c.args.y in let e = c.args.e in
    eqb y.kind e.kind ≡ b → Events.matches (view_symbol y) (view_event e) ≡ (b && eqb y.count e.count) = λ b h. let y = c.args.y in
    let e = c.args.e in
    let l : length y.parameters ≡ 4 = search (rules, map_length) in
    let m : length e.args ≡ 4 = search (rules, map_length) in
    matches_counts y e l c.requires.0 m c.requires.1 ∙ ap (λ (b : Bool). b && eqb y.count e.count) h in
    let h = ne_eqb c.args.y.kind c.args.e.kind c.if-y-e.false in
    h ∙ sym (counts _ h)
