-- `Slot::excluding` meets its contract: the slot stays as it is, has no room, or gets the value in its place.
use mathlib.Core.Path.{◌≡◌, refl, sym, ◌∙◌}
use Prim.Native.Nat.{suc, ◌<◌}
use native.Mathlib.Omega.{arith}
use borrow.Author.Rules.{rules}
use borrow.Author.Tests.{le-leb, lt-leb}
use lib.ListN.{length, get_or}
use Rattle.slot.proofs.Excluding.{excluding_bound, kept_room, found_slot, insertion_few, gap_room, gap_view}
use Rattle.slot.proofs.Slot.excluding.Goals as goal
use Rattle.slot.proofs.Slot.excluding.Goals.{else-k-n-via-then-k-n+else-self-k, else-k-n-via-else-k-n}

pub returns-then-self : goal.returns-then-self
returns-then-self c =
    let a = c.args in
    let e = excluding_bound a.self a.x c.if-self.true in
    record { room = kept_room a.self a.x (search rules) e; slot = sym e; kept = search rules }

pub returns-then-self-k : goal.returns-then-self-k
returns-then-self-k c =
    let a = c.args in
    let z = c.size-n in
    let k = c.insertion_point-k in
    let e = found_slot a.self a.x z.result k.result c.if-self.false z.ensures.0 k.ensures.0 c.if-k-n.true c.if-self-k.true in
    record { room = kept_room a.self a.x (search rules) e; slot = sym e; kept = search rules }

pub returns-then-n-eq-EXCLUSIONS : goal.returns-then-n-eq-EXCLUSIONS
returns-then-n-eq-EXCLUSIONS c =
    let a = c.args in
    let z = c.size-n in
    let k = c.insertion_point-k in
    let absent : k.result < z.result → get_or a.self.excluded k.result 0 ≡ a.x → ⊥ =
    λ l. elim c.else-k-n.branch [ else-k-n-via-then-k-n+else-self-k w ↦ w.if-self-k.false | else-k-n-via-else-k-n w ↦ absurd (omega arith) ] in
    let l : length a.self.excluded ≡ 6 = search rules in
    let e = gap_room a.self a.x z.result k.result c.if-self.false z.ensures.0 k.ensures.0 absent (omega arith) in
    record { room = sym (e ∙ lt-leb (suc z.result) 6 (omega arith)); slot = search rules; kept = refl }

pub opened-requires : goal.opened-requires
opened-requires c =
    let a = c.args in
    let z = c.size-n in
    let k = c.insertion_point-k in
    let e = insertion_few a.self a.x z.result k.result c.if-self.false z.ensures.0 k.ensures.0 in
    (e, omega arith)

pub returns : goal.returns
returns c =
    let a = c.args in
    let z = c.size-n in
    let k = c.insertion_point-k in
    let absent : k.result < z.result → get_or a.self.excluded k.result 0 ≡ a.x → ⊥ =
    λ l. elim c.else-k-n.branch [ else-k-n-via-then-k-n+else-self-k w ↦ w.if-self-k.false | else-k-n-via-else-k-n w ↦ absurd (omega arith) ] in
    let l : length a.self.excluded ≡ 6 = search rules in
    let e = gap_room a.self a.x z.result k.result c.if-self.false z.ensures.0 k.ensures.0 absent (omega arith) in
    record {
      room = sym (e ∙ le-leb (suc z.result) 6 (omega arith));
      slot = gap_view a.self a.x z.result k.result c.if-self.false z.ensures.0 k.ensures.0 absent c.opened.result c.opened.ensures;
      kept = search rules;
    }
