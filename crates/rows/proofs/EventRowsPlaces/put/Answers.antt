-- `put` of `EventRows` meets its contract: a store over four words changes the i-th valuation alone.
use Rattle.std.proofs.Common.{◌≡◌, ◌+◌, ◌-◌, ◌*◌, ◌≤◌, length, arith, rules}
use Rattle.rows.proofs.Valuations.{in_stored}
use Rattle.rows.proofs.EventRowsPlaces.put.Goals as goal

pub returns : goal.returns
returns c =
    let w = c.args.words.now in
    let i = c.args.i in
    let four : (i + 1) * 4 - i * 4 ≡ 4 = omega arith in
    let room : i * 4 + 4 ≤ length w = omega (arith, c.requires) in
    let wide : length c.args.x ≡ 4 = search rules in
    rw (four, c.copy_from_slice.ensures.after) (in_stored w i c.args.x c.requires room wide)
