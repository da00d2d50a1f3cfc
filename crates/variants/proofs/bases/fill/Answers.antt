-- `bases::fill` meets its contract: what is behind the bytes that were put stays.
use mathlib.Core.Path.{◌∙◌}
use Prim.Native.Nat.{◌+◌, ◌-◌}
use native.Mathlib.Omega.{arith}
use lib.ListN.{length-take, length-drop, drop}
use Rattle.std.proofs.lemmas.Slice.{drop-put_mid}
use Rattle.variants.proofs.bases.fill.Goals as goal

pub returns-clause-behind : goal.returns-clause-behind
returns-clause-behind c =
    let a = c.args in
    let k = a.n + c.min-k.result - a.n in
    λ m h.
    drop-put_mid a.n k a.out.now c.fill.new.self m (omega (arith, h)) c.requires
    (c.fill.ensures.len ∙ omega (arith, c.min-k.ensures, length-take k (drop a.n a.out.now), length-drop a.n a.out.now))
