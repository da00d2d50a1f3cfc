-- `packed::put` meets its contract: the four entries written are those of the disjunct.
use Rattle.std.proofs.Common.{◌≡◌, ◌+◌, ◌*◌, ap, ◌∙◌, length, set, ◌<◌, rules, arith}
use Rattle.laws.proofs.Arrays.{map_length}
use Rattle.packed.specs.Sets.{entries_in}
use Rattle.packed.proofs.Words.{replaced_more, replaced_all}
use Rattle.packed.proofs.Views.{viewed, viewed_length}
use Rattle.packed.proofs.put.Goals as goal

pub loop-v-preserved : goal.loop-v-preserved
loop-v-preserved c =
    let v = c.loop-v.v in
    let here : v < 4 = c.loop-v-test.true in
    replaced_more c.loop-v.invariant c.requires here
    (c.put_slot.ensures ∙ ap (set (entries_in c.loop-v.words) (c.args.i * 4 + v)) (viewed c.args.d v))

pub returns : goal.returns
returns c =
    let l : length c.args.d.vars ≡ 4 = search (rules, map_length) in
    let all : c.loop-v.v ≡ 4 = omega arith in
    replaced_all (rw all at c.loop-v.invariant) c.requires (viewed_length c.args.d l)
