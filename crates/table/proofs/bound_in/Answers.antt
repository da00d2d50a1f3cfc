-- `table::bound_in` meets its contract: the mask of the parameters passed, joined with that of those ahead.
use mathlib.Core.Path.{◌≡◌, sym, ap, ◌∙◌}
use mathlib.Core.Bool.{true}
use mathlib.Core.List.{List, ◌∷◌, map}
use Prim.Native.Nat.{ℕ, ◌+◌, ◌<◌}
use native.Mathlib.Numerals.{add-one}
use lib.ListN.{length, get_or, take, drop}
use lib.Seq.{drop-cons}
use Rattle.std.proofs.lemmas.List.{drop_all}
use Rattle.laws.specs.Bits.{join}
use Rattle.laws.proofs.Bits.{join_none, none_join}
use Rattle.laws.specs.Lists.{all}
use Rattle.laws.proofs.Lists.{and_true_split}
use Rattle.meaning.specs.Book.{sound_parameter, bound_in}
use Rattle.table.specs.declared.Parameter.{Parameter}
use Rattle.table.specs.Tables.{view_parameter, view_symbol}
use Rattle.table.proofs.Masks.{join_next}
use Rattle.table.proofs.bound_in.Goals as goal

-- the parameter at i and those behind it
next : (l : List Parameter) (i : ℕ) (d : Parameter) → i < length l → map view_parameter (drop i l) ≡ view_parameter (get_or l i d) ∷ map view_parameter (drop (i + 1) l)
next l i d h = rw (add-one, drop-cons l i d h)

sound_next : (l : List Parameter) (i : ℕ) (d : Parameter) → i < length l → all (sound_parameter 32) (map view_parameter (drop i l)) ≡ true
    → (sound_parameter 32 (view_parameter (get_or l i d)) ≡ true) × (all (sound_parameter 32) (map view_parameter (drop (i + 1) l)) ≡ true)
sound_next l i d h a = and_true_split _ _ (ap (all (sound_parameter 32)) (sym (next l i d h)) ∙ a)

pub loop-p-init : goal.loop-p-init
unfolding view_symbol
loop-p-init c = (c.requires.1, none_join _)

pub parameter_bound-m-requires : goal.parameter_bound-m-requires
parameter_bound-m-requires c = (sound_next _ c.loop-p.p-index _ c.loop-p-test.true c.loop-p.invariant.0).0

pub loop-p-preserved : goal.loop-p-preserved
unfolding join
loop-p-preserved c =
    let l = c.loop-p in
    let t = c.loop-p-test.true in
    let xs = take c.args.y.count c.args.y.parameters in
    let d : Parameter = record { tag = 0; number = 0 } in
    ((sound_next xs l.p-index d t l.invariant.0).1, join_next l.m c.parameter_bound-m.ensures (next xs l.p-index d t) ∙ l.invariant.1)

pub returns : goal.returns
unfolding view_symbol
returns c =
    let l = c.loop-p in
    let xs = take c.args.y.count c.args.y.parameters in
    sym (ap (λ ps. join l.m (bound_in (map view_parameter ps))) (drop_all l.p-index xs c.loop-p-test.false) ∙ join_none l.m) ∙ l.invariant.1
