-- Laws for the reader of a symbol's line: bounds of what it computes with, the variables as `find` looks through them, arguments and
-- kind step by step, and the symbol as the code builds it.
use mathlib.Core.Path.{◌≡◌, refl, sym, ap, ap₂, ◌∙◌}
use mathlib.Core.Bool.{Bool, true, false, cond, not, ◌&&◌}
use mathlib.Core.List.{List, [], ◌∷◌, ◌++◌}
use Prim.Native.Nat.{ℕ, zero, suc, ◌+◌, ◌-◌, ◌≤◌, ◌<◌, zero-le, suc-le-suc}
use native.Mathlib.Omega.{arith}
use mathlib.Core.Logic.{◌⊎◌, inl, inr}
use borrow.Author.Tests.{leb-true, eqb-true, eq-eqb, ne_eqb}
use lib.Dec.{leb, eqb}
use lib.ListN.{length, set, length-append}
use Rattle.std.specs.Prelude.{Option, Some, None, Result, Ok, Err, slice_get}
use Rattle.std.specs.Option.{option_eq}
use Rattle.std.proofs.lemmas.Bool.{eqb-false}
use Rattle.text.proofs.Runs.{peek_law}
use Rattle.text.proofs.Steps.{brought_ok, brought_err, brought_other}
use Rattle.laws.specs.Lists.{all}
use Rattle.laws.proofs.Lists.{either}
use Rattle.form.specs.Text.{Bytes, Span, is_digit, fixed_sign}
use Rattle.form.specs.Form.{same_word}
use Rattle.form.specs.Scan as Scan
use Rattle.form.specs.Scan.{at, part, go, fail, value, kind_of, is_number, fixed_number, next_word, word_end}
use Rattle.form.specs.Lines as Lines
use Rattle.form.specs.Lines.{bytes_at, index_of, want_word, Arguments, argument_fault, argument_of, arguments_from, no_symbol_read, kind_from}
use Rattle.meaning.specs.Events as Events
use Rattle.meaning.specs.Events.{Parameter}
use Rattle.meaning.specs.Meaning.{no_symbol}
use Rattle.parsing.proofs.Scans.{inside_of}
use Rattle.parsing.proofs.Words.{Gap, gap, byte_inside}
use Rattle.parsing.proofs.Numerals.{number_found}
use Rattle.text.specs.declared.Refusal.{Refusal}
use Rattle.text.specs.Steps.{brought}
use Rattle.table.specs.Tables.{parameter_of, symbol_of, name_of, table_of, view_symbol, view_table, Ready}
use Rattle.table.specs.declared.Parameter as Tables
use Rattle.table.specs.declared.Symbol.{Symbol}
use Rattle.table.specs.declared.Table.{Table}
use Rattle.table.proofs.Codes.{view_symbol_law, symbol_more}
use Rattle.lines.specs.Results.{arguments_read, symbol_read}
use Rattle.lines.specs.declared.ArgumentsRead.{ArgumentsRead}

pub index_le : (s : Bytes) (xs : List Span) (w : Bytes) → index_of s xs w ≤ length xs
index_le s [] w = zero-le
index_le s (x ∷ xs) w = either (λ n. n ≤ suc (length xs)) (same_word (bytes_at s x) w) (λ b. zero-le) (λ b. suc-le-suc (index_le s xs w))

pub kind_le : (s : Bytes) (p e : ℕ) → kind_of s p e ≤ 255
unfolding kind_of
kind_le s p e = let w = part s p e in by (leb (e - p) 3 && all is_digit w && not (eqb (at s p) 48)) (value 0 w)
  where
    by : (b : Bool) (n : ℕ) → cond b (cond (leb n 255) n 0) 0 ≤ 255
    by true n = either (λ m. m ≤ 255) (leb n 255) (leb-true n 255) (λ h. zero-le)
    by false n = zero-le

pub number_le : (n : ℕ) (s : Bytes) (p e : ℕ) → n ≡ fixed_number s p e → n ≤ 4294967295
unfolding fixed_number
number_le n s p e h = let w = part s p e in rw h (either (λ m. m ≤ 4294967295) (is_number w) (λ k. (number_found w k).1) (λ k. zero-le))

-- where the sign of a fixed argument stands there is a byte
pub sign_inside : (s : Bytes) (p : ℕ) → eqb (at s p) fixed_sign ≡ true → p < length s
sign_inside = inside_of (λ b. eqb b fixed_sign) refl

pub next_inside : (s : Bytes) (p : ℕ) → p ≤ length s → (next_word s p).place ≤ length s
next_inside s p h = by (gap s p)
  where
    by : Gap s p → (next_word s p).place ≤ length s
    by (Gap.ended e rest d) = rw e h
    by (Gap.next w rest n) = rw n.goes (byte_inside s p _ _ n.text)
    by (Gap.failed n e f i) = rw e (i h)

pub want_inside : (s : Bytes) (p : ℕ) → p ≤ length s → (want_word s p).place ≤ length s
unfolding want_word
want_inside s p h = by (eqb (next_word s p).fault 0) (eqb (next_word s p).place p)
  where
    by : (a b : Bool) → (cond a (cond b (fail 2 p) (next_word s p)) (next_word s p)).place ≤ length s
    by true true = h
    by true false = next_inside s p h
    by false b = next_inside s p h

module _ {s : Bytes} {t : Table} (r : Ready s t) where
  pub variables_length : t.variables ≡ length (view_table t).variables
  unfolding table_of
  variables_length = ap (λ u. u.variables) r.coded

-- Arguments from p on, behind which the step x comes.
module _ (s : Bytes) (xs : List Span) (ps : List Parameter) (p : ℕ) {x : Scan.Step} (n : next_word s p ≡ x) where
  pub arguments_fault : (room : ℕ) → (x.fault ≡ 0 → ⊥) → arguments_from s xs room ps p ≡ record { step = x; parameters = ps }
  arguments_fault zero h = rw (n, ne_eqb _ 0 h)
  arguments_fault (suc room) h = rw (n, ne_eqb _ 0 h)

  module _ (ok : x.fault ≡ 0) where
    pub arguments_end : (room : ℕ) → x.place ≡ p → arguments_from s xs room ps p ≡ record { step = go (p + 1); parameters = ps }
    arguments_end zero h = rw (n, eq-eqb _ 0 ok, eq-eqb _ p h)
    arguments_end (suc room) h = rw (n, eq-eqb _ 0 ok, eq-eqb _ p h)

    module _ (on : x.place ≡ p → ⊥) (count : ℕ) where
      pub arguments_full : 4 ≤ count → arguments_from s xs (4 - count) ps p ≡ record { step = fail 3 x.place; parameters = ps }
      arguments_full l = let k : 4 - count ≡ 0 = omega arith in rw (k, n, eq-eqb _ 0 ok, ne_eqb _ p on)

      module _ (l : count < 4) {e f : ℕ} (ends : e ≡ word_end s x.place) (tells : f ≡ argument_fault s xs x.place e) where
        abbrev argument_more : Arguments
        argument_more = arguments_from s xs (4 - (count + 1)) (ps ++ (argument_of s xs x.place e ∷ [])) e

        argument_word : arguments_from s xs (4 - count) ps p ≡ cond (eqb f 0) argument_more (record { step = fail f x.place; parameters = ps })
        argument_word =
            let k : 4 - count ≡ suc (4 - (count + 1)) = omega arith in
            rw (k, n, eq-eqb _ 0 ok, ne_eqb _ p on, ← ends, ← tells)

        pub argument_wrong : (f ≡ 0 → ⊥) → arguments_from s xs (4 - count) ps p ≡ record { step = fail f x.place; parameters = ps }
        argument_wrong h = argument_word ∙ rw (ne_eqb f 0 h)

        pub argument_next : f ≡ 0 → arguments_from s xs (4 - count) ps p ≡ argument_more
        argument_next h = argument_word ∙ rw (eq-eqb f 0 h)

-- a symbol with one more parameter
abbrev pub one_more : Symbol → Tables.Parameter → Symbol
one_more y w = record { kind = y.kind; count = y.count + 1; parameters = set y.parameters y.count w }

view_kind : (y : Symbol) → (view_symbol y).kind ≡ y.kind
unfolding view_symbol
view_kind y = refl

-- what a symbol codes is read back
module _ {y : Symbol} (v : Events.Symbol) (e : y ≡ symbol_of v) (l : length v.parameters ≤ 4) where
  coded_view : view_symbol y ≡ v
  coded_view = ap view_symbol e ∙ view_symbol_law v l

  coded_kept : y ≡ symbol_of (view_symbol y)
  coded_kept = e ∙ ap symbol_of (sym coded_view)

-- A symbol as the code has it, that codes what is read back of it.
module _ {y : Symbol} (h : y ≡ symbol_of (view_symbol y)) where
  pub arguments_kept : {x : Scan.Step} {a : Arguments} → a ≡ record { step = x; parameters = (view_symbol y).parameters }
      → brought x (record { place = x.place; symbol = y }) ≡ arguments_read y.kind a
  unfolding view_symbol
  arguments_kept {x} e = rw e (ap (λ (z : Symbol). brought x (record { place = x.place; symbol = z })) h)

  coded_count : y.count ≡ length (view_symbol y).parameters
  unfolding symbol_of
  coded_count = ap (λ z. z.count) h

  -- with the parameter w more, which codes a
  module _ (l : y.count < 4) (a : Parameter) {w : Tables.Parameter} (e : w ≡ parameter_of a) where
    abbrev more : Events.Symbol
    more = record { kind = y.kind; parameters = (view_symbol y).parameters ++ (a ∷ []) }

    more_coded : one_more y w ≡ symbol_of more
    more_coded = cc (coded_count, ap (λ z. z.parameters) h, view_kind y, symbol_more (view_symbol y) a (omega (arith, coded_count)))

    more_few : length more.parameters ≤ 4
    more_few = rw length-append (omega (arith, coded_count))

    pub more_kept : one_more y w ≡ symbol_of (view_symbol (one_more y w))
    more_kept = coded_kept more more_coded more_few

    -- what is read behind it, with a among the places
    pub more_reads : (s : Bytes) (xs : List Span) (e : ℕ) {r : Result ArgumentsRead Refusal} {m : Arguments}
        → r ≡ arguments_read y.kind (arguments_from s xs (4 - (y.count + 1)) (view_symbol (one_more y w)).parameters e)
        → m ≡ arguments_from s xs (4 - (y.count + 1)) more.parameters e → r ≡ arguments_read y.kind m
    more_reads s xs e f g =
        let reads : Events.Symbol → Arguments = λ v. arguments_from s xs (4 - (y.count + 1)) v.parameters e in
        f ∙ ap (arguments_read y.kind) (ap reads (coded_view more more_coded more_few) ∙ sym g)

-- The empty symbol z with the kind k, and the arguments read behind it.
module _ {z : Symbol} (h : z ≡ symbol_of no_symbol) (k : ℕ) where
  abbrev bare : Symbol
  bare = record { kind = k; count = z.count; parameters = z.parameters }

  abbrev bare_plain : Events.Symbol
  bare_plain = record { kind = k; parameters = [] }

  bare_coded : bare ≡ symbol_of bare_plain
  unfolding symbol_of
  bare_coded = ap (λ (y : Symbol). record { kind = k; count = y.count; parameters = y.parameters }) h

  pub bare_count : z.count ≡ 0
  unfolding symbol_of
  bare_count = ap (λ y. y.count) h

  pub bare_kept : bare ≡ symbol_of (view_symbol bare)
  bare_kept = coded_kept bare_plain bare_coded zero-le

  pub bare_reads : (s : Bytes) (xs : List Span) (e : ℕ) {r : Result ArgumentsRead Refusal}
      → r ≡ arguments_read k (arguments_from s xs (4 - z.count) (view_symbol bare).parameters e) → r ≡ arguments_read k (arguments_from s xs 4 [] e)
  bare_reads s xs e f =
      let j : 4 - z.count ≡ 4 = omega (arith, bare_count) in
      let reads : ℕ → Events.Symbol → Result ArgumentsRead Refusal = λ j v. arguments_read k (arguments_from s xs j v.parameters e) in
      f ∙ ap₂ reads j (coded_view bare_plain bare_coded zero-le)

-- `kind_from` by its parts: the step k to KIND, the kind n, the arguments a. Shut, so that the arguments do not compute.
kind_by : Scan.Step → ℕ → Arguments → Span → Lines.SymbolRead
kind_by k n a x =
    let whole : Lines.SymbolRead = record { step = a.step; name = x; symbol = record { kind = n; parameters = a.parameters } } in
    let some = cond (eqb a.step.fault 0) whole (no_symbol_read a.step) in
    let kinded = cond (eqb n 0) (no_symbol_read (fail 2 k.place)) some in
    cond (eqb k.fault 0) kinded (no_symbol_read k)

kind_parts : (s : Bytes) (xs : List Span) (x : Span) (p : ℕ) →
    let k = want_word s p in
    let e = word_end s k.place in
    kind_from s xs x p ≡ kind_by k (kind_of s k.place e) (arguments_from s xs 4 [] e) x
unfolding kind_from kind_by
kind_parts s xs x p = refl

module _ (k : Scan.Step) {n : ℕ} (a : Arguments) (x : Span) (ok : k.fault ≡ 0) (some : n ≡ 0 → ⊥) where
  by_stopped : (a.step.fault ≡ 0 → ⊥) → kind_by k n a x ≡ no_symbol_read a.step
  unfolding kind_by
  by_stopped f = rw (eq-eqb _ 0 ok, ne_eqb n 0 some, ne_eqb _ 0 f)

  by_whole : a.step.fault ≡ 0 → kind_by k n a x ≡ record { step = a.step; name = x; symbol = record { kind = n; parameters = a.parameters } }
  unfolding kind_by
  by_whole f = rw (eq-eqb _ 0 ok, ne_eqb n 0 some, eq-eqb _ 0 f)

  by_err : {r : Refusal} → Err r ≡ arguments_read n a → Err r ≡ symbol_read (kind_by k n a x)
  by_err i = let (f, j) = brought_err a.step _ i in rw (by_stopped f) (brought_other a.step _ i _)

  by_ok : {q : ArgumentsRead} → Ok q ≡ arguments_read n a
      → Ok (record { place = q.place; name = name_of x; symbol = q.symbol }) ≡ symbol_read (kind_by k n a x)
  by_ok i = let (f, j) = brought_ok a.step _ i in rw (by_whole f, eq-eqb a.step.fault 0 f, j)

-- KIND and ARGS, where the step behind the name is k.
module _ (s : Bytes) (xs : List Span) (x : Span) (p : ℕ) {k : Scan.Step} (w : want_word s p ≡ k) where
  pub kind_fault : (k.fault ≡ 0 → ⊥) → kind_from s xs x p ≡ no_symbol_read k
  unfolding kind_from
  kind_fault h = rw (w, ne_eqb _ 0 h)

  module _ (ok : k.fault ≡ 0) {e n : ℕ} (ends : e ≡ word_end s k.place) (tells : n ≡ kind_of s k.place e) where
    pub kind_wrong : n ≡ 0 → kind_from s xs x p ≡ no_symbol_read (fail 2 k.place)
    unfolding kind_from
    kind_wrong h = rw (w, eq-eqb _ 0 ok, ← ends, ← tells, eq-eqb n 0 h)

    kind_by_law : kind_from s xs x p ≡ kind_by k n (arguments_from s xs 4 [] e) x
    kind_by_law = kind_parts s xs x p ∙ by (arguments_from s xs 4 [])
      where
        by : (g : ℕ → Arguments) → let j = want_word s p in let i = word_end s j.place in kind_by j (kind_of s j.place i) (g i) x ≡ kind_by k n (g e) x
        by g = rw (w, ← ends, ← tells)

    module _ (some : n ≡ 0 → ⊥) where
      pub kind_err : {r : Refusal} → Err r ≡ arguments_read n (arguments_from s xs 4 [] e) → Err r ≡ symbol_read (kind_from s xs x p)
      kind_err i = by_err k (arguments_from s xs 4 [] e) x ok some i ∙ ap symbol_read (sym kind_by_law)

      pub kind_ok : {q : ArgumentsRead} → Ok q ≡ arguments_read n (arguments_from s xs 4 [] e)
          → Ok (record { place = q.place; name = name_of x; symbol = q.symbol }) ≡ symbol_read (kind_from s xs x p)
      kind_ok i = by_ok k (arguments_from s xs 4 [] e) x ok some i ∙ ap symbol_read (sym kind_by_law)

-- what a word told as a kind, or as a fixed number, says of it
kind_cases : (n : ℕ) {o : Option ℕ} → o ≡ cond (eqb n 0) None (Some n) → ((o ≡ None) × (n ≡ 0)) ⊎ ((o ≡ Some n) × (n ≡ 0 → ⊥))
kind_cases n {o} h = by (eqb n 0) refl
  where
    by : (b : Bool) → eqb n 0 ≡ b → ((o ≡ None) × (n ≡ 0)) ⊎ ((o ≡ Some n) × (n ≡ 0 → ⊥))
    by true k = inl (rw k at h, eqb-true n 0 k)
    by false k = inr (rw k at h, eqb-false n 0 k)

pub kind_none : (n : ℕ) → None ≡ cond (eqb n 0) None (Some n) → n ≡ 0
kind_none n h = elim (kind_cases n h) [ inl w ↦ w.1 | inr w ↦ absurd (cc w.0) ]

pub kind_some : (n : ℕ) {k : ℕ} → Some k ≡ cond (eqb n 0) None (Some n) → (k ≡ n) × (k ≡ 0 → ⊥)
kind_some n {k} h = elim (kind_cases n h) [ inl w ↦ absurd (cc w.0) | inr w ↦ (cc w.0, λ z. w.1 (cc (w.0, z))) ]

pub number_none : (b : Bool) (n : ℕ) → None ≡ cond b (Some n) None → b ≡ false
number_none true n h = absurd (cc h)
number_none false n h = refl

pub number_some : (b : Bool) (n : ℕ) {k : ℕ} → Some k ≡ cond b (Some n) None → (b ≡ true) × (k ≡ n)
number_some true n h = (refl, cc h)
number_some false n h = absurd (cc h)

-- whether the sign of a fixed argument stands at p, by what is read there
pub signed : (s : Bytes) (p : ℕ) {o : Option ℕ} {r b : Bool} → o ≡ slice_get s p → r ≡ option_eq eqb o (Some 61) → r ≡ b → eqb (at s p) fixed_sign ≡ b
signed s p h k e = sym (peek_law s p 61 refl) ∙ ap (λ o. option_eq eqb o (Some 61)) (sym h) ∙ sym k ∙ e
