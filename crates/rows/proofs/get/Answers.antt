-- `rows::get` meets its contract: the four words are the i-th valuation.
use Rattle.std.proofs.Common.{◌≡◌, ◌+◌, ◌-◌, ◌*◌, ◌≤◌, take, drop, length, sym, ap, ◌∙◌, arith}
use Rattle.rows.proofs.Valuations.{in_part}
use Rattle.rows.proofs.get.Goals as goal

pub returns : goal.returns
returns c =
    let w = c.args.words.now in
    let i = c.args.i in
    let four : (i + 1) * 4 - i * 4 ≡ 4 = omega arith in
    let room : i * 4 + 4 ≤ length w = omega (arith, c.requires) in
    c.copy_from_slice.ensures.after ∙ ap (λ n. take n (drop (i * 4) w)) four ∙ sym (in_part w i c.requires room)
