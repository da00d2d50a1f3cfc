-- `put_rows` meets its contract: after i turns the bytes of the first i valuations stand over the front of what was lent.
use mathlib.Core.Path.{◌≡◌, sym, ◌∙◌}
use Prim.Native.Nat.{◌+◌, ◌-◌, ◌*◌}
use native.Mathlib.Omega.{arith}
use borrow.Author.Rules.{rules}
use lib.ListN.{length}
use Rattle.laws.proofs.Fronts.{front_nothing}
use Rattle.writer.proofs.Turns.{put_splice, rows_next}
use Rattle.writer.proofs.put_rows.Goals as goal

pub loop-i-init : goal.loop-i-init
loop-i-init c = (search rules, sym (front_nothing c.args.out.now))

pub loop-i-preserved : goal.loop-i-preserved
loop-i-preserved c =
    let start = c.args in
    let i = c.loop-i.i in
    let out = c.loop-i.out in
    let size : length c.row_bytes-row.result ≡ 24 = search rules in (
      search rules,
      put_splice (24 * i) (24 * i + 24 - 24 * i) c.row_bytes-row.result out (omega arith) c.copy_from_slice.ensures.after
          ∙ rows_next start.shared start.words.now i start.out.now (omega arith) (omega arith) c.get.ensures
          c.row_bytes-row.ensures c.loop-i.invariant.1,
    )
