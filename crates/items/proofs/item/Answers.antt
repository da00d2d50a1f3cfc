-- `items::item` meets its contract: what is read from here on is what is read from the atom on.
use mathlib.Core.Path.{◌≡◌, sym, ◌∙◌}
use Prim.Native.Nat.{ℕ, suc, ◌-◌, ◌≤◌, ◌<◌}
use native.Mathlib.Omega.{arith}
use borrow.Author.Tests.{ne_eqb}
use lib.ListN.{length, get_or, take, drop, length-drop}
use lib.Seq.{drop-cons}
use Rattle.std.proofs.lemmas.List.{drop_all, take_all}
use Rattle.std.specs.Prelude.{Result, Ok}
use Rattle.pattern.specs.Regex.{Regex}
use Rattle.form.specs.Text.{Bytes}
use Rattle.form.specs.Scan.{go}
use Rattle.form.specs.Parse as Parse
use Rattle.text.specs.declared.Refusal.{Refusal}
use Rattle.piece.specs.Pieces.{piece_of}
use Rattle.items.specs.declared.Parsed.{Parsed}
use Rattle.items.specs.Results.{parsed_of}
use Rattle.items.proofs.Leaves.{Good, good}
use Rattle.items.proofs.item.Goals as goal

-- the signs end where the bytes do, and at a byte that is none
module _ (l : Bytes) (i here done : ℕ) (r : Regex) where
  over : length l ≤ i → Parse.postfix_on (drop i l) here done r ≡ record { step = go done; tree = r }
  over h = rw (drop_all i l h)

  stopped : i < length l → let b = get_or l i 0 in (b ≡ 32 → ⊥) → (b ≡ 42 → ⊥) → (b ≡ 43 → ⊥) → (b ≡ 63 → ⊥)
      → Parse.postfix_on (drop i l) here done r ≡ record { step = go done; tree = r }
  stopped h p q t u = rw (drop-cons l i 0 h, ne_eqb _ 32 p, ne_eqb _ 42 q, ne_eqb _ 43 t, ne_eqb _ 63 u)

-- the item that is read, by the bytes l behind the atom
item_read : (s : Bytes) (vars : ℕ → ℕ) (used : ℕ) (x : Parse.Parsed) {a read : Parsed} → Good vars used a x → (l : Bytes) → l ≡ drop a.place s → (r : Regex)
    → read.piece ≡ piece_of vars r (suc used) → Parse.postfix_on l a.place a.place x.tree ≡ record { step = go read.place; tree = r }
    → ◌≡◌ {A = Result Parsed Refusal} (Ok read) (parsed_of vars used (Parse.item_of s x))
unfolding Parse.item_of parsed_of
item_read s vars used x g l e r p t = rw (g.fault, ← g.place, ← e, t, ← p)

behind : (s : Bytes) (p : ℕ) → take (length s - p) (drop p s) ≡ drop p s
behind s p = take_all (length s - p) (drop p s) (omega (arith, length-drop p s))

pub returns-in_default : goal.returns-in_default
returns-in_default c vars used x e =
    let g = good vars used x e in
    let n = c.loop-i.invariant vars (suc used) x.tree g.piece in
    let end = stopped _ c.loop-i.i _ _ n.0 c.loop-i-test.true (omega arith) (omega arith) (omega arith) (omega arith) in
    item_read c.args.s.now vars used x g _ (behind c.args.s.now c.args.atom.place) n.0 n.1 (sym n.2 ∙ end)

pub returns : goal.returns
returns c vars used x e =
    let g = good vars used x e in
    let n = c.loop-i.invariant vars (suc used) x.tree g.piece in
    item_read c.args.s.now vars used x g _ (behind c.args.s.now c.args.atom.place) n.0 n.1 (sym n.2 ∙ over _ c.loop-i.i _ _ n.0 c.loop-i-test.false)
