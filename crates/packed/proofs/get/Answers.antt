-- `packed::get` meets its contract: the four entries are those of the disjunct.
use Rattle.std.proofs.Common.{◌≡◌, ◌+◌, ◌*◌, ap, ◌∙◌, length, rules, arith}
use Rattle.laws.proofs.Arrays.{map_length}
use Rattle.packed.specs.Sets.{entry_at}
use Rattle.packed.proofs.Views.{slots_read_more, slots_read_all}
use Rattle.packed.proofs.get.Goals as goal

pub loop-v-init : goal.loop-v-init
loop-v-init c =
    let l : length c.free-d.result.vars ≡ 4 = search (rules, map_length) in
    record { wide = l; read = λ k h. absurd (omega arith) }

pub loop-v-preserved : goal.loop-v-preserved
loop-v-preserved c =
    let at : (c.args.i * 4 + c.loop-v.v) * 7 ≡ c.args.i * 28 + c.loop-v.v * 7 = omega arith in
    slots_read_more c.read_slot.result c.loop-v.invariant c.loop-v-test.true (c.read_slot.ensures ∙ ap (entry_at c.args.words.now) at)

pub returns : goal.returns
returns c =
    let all : c.loop-v.v ≡ 4 = omega arith in
    slots_read_all (rw all at c.loop-v.invariant) c.requires
