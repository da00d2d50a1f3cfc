-- `items::name_atom` meets its contract: the symbol that `find` finds in the table's arrays is the one of the plain table.
use mathlib.Core.Path.{◌≡◌, refl, sym, ap, ◌∙◌}
use mathlib.Core.Bool.{Bool, true, false, cond}
use mathlib.Core.List.{List, Memᴰ, [], ◌∷◌, map}
use Prim.Native.Nat.{ℕ, zero, suc, ◌-◌, ◌≤◌, ◌<◌}
use native.Mathlib.Omega.{arith}
use native.Mathlib.Numerals.{add-one}
use borrow.Author.Tests.{lt-ltb, le-ltb, lt-leb, le-leb, leb-true, ltb-true}
use lib.Dec.{ltb}
use lib.ListN.{length, get_or, length-map}
use Rattle.std.specs.Prelude.{Option, Some, None}
use Rattle.laws.specs.Lists.{all}
use Rattle.laws.proofs.Lists.{and_true_split, all_append, all_at, all_of, mem_get_or}
use Rattle.laws.proofs.Parts.{pad_at}
use Rattle.pattern.specs.Regex.{lit}
use Rattle.meaning.specs.Events as Events
use Rattle.meaning.specs.Meaning.{no_symbol}
use Rattle.meaning.specs.Book.{sound_parameter, bound_in}
use Rattle.form.specs.Text.{Bytes, Span}
use Rattle.form.specs.Scan.{go, fail, name_end, part}
use Rattle.form.specs.Lines.{index_of}
use Rattle.form.specs.Parse as Parse
use Rattle.form.specs.Reading.{variables_of}
use Rattle.parsing.proofs.Scans.{name_end_ge, name_end_le}
use Rattle.text.specs.Refusals.{refusal_of}
use Rattle.table.specs.declared.Symbol.{Symbol}
use Rattle.table.specs.declared.Table.{Table}
use Rattle.table.specs.Tables.{symbol_of, table_of, view_symbol, view_table, inside, Ready}
use Rattle.table.proofs.Codes.{parameter_wide, view_symbol_law, names_symbols, ready_fits}
use Rattle.lookup.specs.Found.{found}
use Rattle.items.specs.Results.{parsed_of}
use Rattle.items.proofs.name_atom.Goals as goal
use Rattle.items.proofs.name_atom.Goals.{After-find, In-Some, then-e-q-gt-NAME_LIMIT-via-then-e-q-gt-NAME_LIMIT, then-e-q-gt-NAME_LIMIT-via-else-e-q-gt-NAME_LIMIT+then-used-ge-POSITIONS}

-- an element of a mapped list, whatever stands for those past the end
get_or_in : {A B : Type 0} (f : A → B) (l : List A) (i : ℕ) (d : B) (e : A) → i < length l → get_or (map f l) i d ≡ f (get_or l i e)
get_or_in f [] i d e h = absurd (omega arith)
get_or_in f (x ∷ l) zero d e h = refl
get_or_in f (x ∷ l) (suc i) d e h = get_or_in f l i d e (omega arith)

-- a ready table and its plain view
module _ (s : Bytes) (t : Table) (ready : Ready s t) where
  counted : t.count ≡ length (view_table t).table
  unfolding table_of
  counted = ap (λ u. u.count) ready.coded

  named : length (view_table t).symbols ≡ t.count
  named = (ready_fits s t ready).paired ∙ sym counted

  within : all (inside (length s)) (view_table t).symbols ≡ true
  within =
      let v = view_table t in
      let f = inside (length s) in
      (and_true_split (all f v.variables) (all f v.symbols) (sym (all_append f v.variables v.symbols) ∙ ready.in_text)).1

  -- the symbol of number a
  module _ (a : ℕ) (h : a < t.count) (d : Symbol) where
    abbrev plain : Events.Symbol
    plain = get_or (view_table t).table a no_symbol

    known : a < length (view_table t).table
    known = omega (arith, counted)

    mem : Memᴰ plain (view_table t).table
    mem = mem_get_or _ a no_symbol known

    few : length plain.parameters ≤ 4
    few = leb-true _ 4 (all_at _ ready.few_parameters mem)

    coded : get_or t.symbols a d ≡ symbol_of plain
    unfolding table_of
    coded =
        let l = (view_table t).table in
        ap (λ u. get_or u.symbols a d) ready.coded
        ∙ pad_at 16 (symbol_of no_symbol) (map symbol_of l) a d (rw length-map known)
        ∙ get_or_in symbol_of l a d no_symbol known

    viewed : view_symbol (get_or t.symbols a d) ≡ plain
    viewed = ap view_symbol coded ∙ view_symbol_law plain few

    fits : ((get_or t.symbols a d).count ≤ 4) × (all (sound_parameter 32) (view_symbol (get_or t.symbols a d)).parameters ≡ true)
    unfolding symbol_of
    fits =
        let sound = all_at _ ready.declared mem in
        let e : t.variables ≤ 32 = omega arith in
        (rw coded few, rw viewed (all_of _ plain.parameters (λ p m. parameter_wide _ 32 e p (all_at _ sound m))))

-- what is left to say of a name that is short enough and not one too many
name_at_law : (s : Bytes) (l : List Span) (used q e a : ℕ) → e ≡ name_end s q → e - q ≤ 12 → used < 31 → a ≡ index_of s l (part s q e)
    → Parse.name_atom s l used q ≡ cond (ltb a (length l)) (record { step = go e; tree = lit a }) (Parse.failed (fail 5 q))
unfolding Parse.name_atom
name_at_law s l used q e a i h k j = rw (← i, le-ltb 12 _ h, lt-leb 31 used k, ← j)

pub overflow_sub-e : goal.overflow_sub-e
overflow_sub-e c = rw c.name_end-e.ensures (name_end_ge _ _)

pub returns-then-e-q-gt-NAME_LIMIT : goal.returns-then-e-q-gt-NAME_LIMIT
unfolding Parse.name_atom parsed_of refusal_of
returns-then-e-q-gt-NAME_LIMIT c =
    let n = c.name_end-e.ensures in
    elim c.then-e-q-gt-NAME_LIMIT.branch [
      | then-e-q-gt-NAME_LIMIT-via-then-e-q-gt-NAME_LIMIT w ↦ rw (← n, lt-ltb 12 _ w.if-e-q-gt-NAME_LIMIT.true)
      | then-e-q-gt-NAME_LIMIT-via-else-e-q-gt-NAME_LIMIT+then-used-ge-POSITIONS w ↦
          rw (← n, le-ltb 12 _ w.if-e-q-gt-NAME_LIMIT.false, le-leb 31 _ w.if-used-ge-POSITIONS.true)
    ]

pub find-requires : goal.find-requires
find-requires c =
    let r = c.requires.ready in
    let n = c.name_end-e.ensures in (
      rw n (name_end_ge _ _),
      rw n (name_end_le _ _ c.requires.in_text),
      rw names_symbols (within _ _ r),
    )

-- what a look-up tells of the symbols' names
module _ (s w : Bytes) (l : List Span) where
  known_at : {a : ℕ} → Some a ≡ found s l w → (index_of s l w ≡ a) × (a < length l)
  known_at {a} h = by (ltb (index_of s l w) (length l)) refl
    where
      by : (b : Bool) → ltb (index_of s l w) (length l) ≡ b → (index_of s l w ≡ a) × (a < length l)
      by true k =
          let i = rw k at h in
          let e : index_of s l w ≡ a = cc in
          (e, rw e at (ltb-true _ _ k))
      by false k = let i = rw k at h in absurd (cc)

  unknown : ◌≡◌ {A = Option ℕ} None (found s l w) → ltb (index_of s l w) (length l) ≡ false
  unknown h = by (ltb (index_of s l w) (length l)) refl
    where
      by : (b : Bool) → ltb (index_of s l w) (length l) ≡ b → ltb (index_of s l w) (length l) ≡ false
      by true k = let i = rw k at h in absurd (cc)
      by false k = k

-- what is read of a name that is short enough and not one too many
known_name : (c : After-find) → let x = c.args in let l = (view_table x.t).symbols in let e = c.name_end-e.result in
    Parse.name_atom x.s.now l x.used x.q
    ≡ cond (ltb (index_of x.s.now l (part x.s.now x.q e)) (length l)) (record { step = go e; tree = lit (index_of x.s.now l (part x.s.now x.q e)) })
    (Parse.failed (fail 5 x.q))
known_name c =
    let x = c.args in
    let n = c.name_end-e in
    name_at_law x.s.now (view_table x.t).symbols x.used x.q n.result _ n.ensures c.if-e-q-gt-NAME_LIMIT.false c.if-used-ge-POSITIONS.false refl

pub returns-in_default : goal.returns-in_default
unfolding parsed_of refusal_of
returns-in_default c =
    let x = c.args in
    let e = c.name_end-e.result in
    let none = unknown x.s.now (part x.s.now x.q e) (view_table x.t).symbols (sym c.in_default.is ∙ rw (← names_symbols x.t) c.find.ensures) in
    rw (known_name (goal.at.returns-in_default c).After-find, none)

-- the symbol that is found
at_symbol : (c : In-Some) → let x = c.args in let l = (view_table x.t).symbols in
    (index_of x.s.now l (part x.s.now x.q c.name_end-e.result) ≡ c.in-Some.a) × (c.in-Some.a < length l)
at_symbol c =
    let x = c.args in
    known_at x.s.now (part x.s.now x.q c.name_end-e.result) (view_table x.t).symbols (sym c.in-Some.is ∙ rw (← names_symbols x.t) c.find.ensures)

pub bound_in-bound-requires : goal.bound_in-bound-requires
bound_in-bound-requires c =
    let t = c.args.t in
    let r = c.requires.ready in
    let k = at_symbol (goal.at.bound_in-bound-requires c).In-Some in
    fits c.args.s.now t r c.in-Some.a (rw (named c.args.s.now t r) at k.1) _

pub returns : goal.returns
unfolding parsed_of
returns c =
    let s = c.args.s.now in
    let t = c.args.t in
    let a = c.in-Some.a in
    let r = c.requires.ready in
    let k = at_symbol (goal.at.returns c).In-Some in
    let h : a < t.count = rw (named s t r) at k.1 in
    let b = c.bound_in-bound.ensures ∙ ap (λ y. bound_in y.parameters) (viewed s t r a h _) in
    rw (
      known_name (goal.at.returns c).After-find,
      k.0,
      lt-ltb a _ k.1,
      ← add-one c.args.used,
      ← c.literal.ensures (variables_of (view_table t).table) (sym b),
    )
