-- `table::parameter_bound` meets its contract: the tag decides; the shifted bit is `single`.
use mathlib.Core.Path.{◌≡◌, refl, sym, ap, ◌∙◌}
use mathlib.Core.Bool.{true}
use mathlib.Core.List.{[], ◌∷◌}
use Prim.Native.Nat.{◌<◌}
use native.Mathlib.Nat.{one-mul, mod-eq_of_lt}
use borrow.Author.Tests.{ltb-true}
use Rattle.laws.specs.Bits.{single}
use Rattle.laws.proofs.Bits.{single_below, join_none}
use Rattle.meaning.specs.Book.{sound_parameter, bound_in}
use Rattle.table.specs.declared.Parameter.{Parameter}
use Rattle.table.specs.Tables.{view_parameter}
use Rattle.table.proofs.Codes.{view_either, view_named}
use Rattle.table.proofs.parameter_bound.Goals as goal

small : (p : Parameter) → sound_parameter 32 (view_parameter p) ≡ true → p.tag ≡ 1 → p.number < 32
small p s h = ltb-true p.number 32 (sym (ap (sound_parameter 32) (view_named p h)) ∙ s)

pub overflow_shl-result : goal.overflow_shl-result
overflow_shl-result c = small c.args.p c.requires c.if-p-eq1.true

pub returns-then-p-eq1 : goal.returns-then-p-eq1
unfolding single
returns-then-p-eq1 c =
    let p = c.args.p in
    let h = single_below 32 p.number (small p c.requires c.if-p-eq1.true) in
    rw (one-mul, mod-eq_of_lt h) (sym (ap (λ x. bound_in (x ∷ [])) (view_named p c.if-p-eq1.true) ∙ join_none (single p.number)))

pub returns-else-p-eq1 : goal.returns-else-p-eq1
returns-else-p-eq1 c = view_either (λ x. 0 ≡ bound_in (x ∷ [])) c.args.p (λ h. absurd (c.if-p-eq1.false h)) (λ _. refl) (λ _ _. refl)
