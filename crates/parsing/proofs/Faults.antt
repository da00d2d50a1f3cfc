-- The faults that the reader's course gives before it comes to the words: 2 to 6 only, and those of the pattern inside the text.
use mathlib.Core.Path.{◌≡◌, refl}
use mathlib.Core.Bool.{Bool, true, false, cond, not, ◌&&◌, ◌||◌}
use mathlib.Core.List.{List, [], ◌∷◌}
use mathlib.Core.Logic.{dite}
use Prim.Native.Nat.{ℕ, zero, suc, ◌+◌, ◌-◌, ◌≤◌, ◌<◌}
use native.Mathlib.Omega.{arith}
use native.Mathlib.Decide.{dec_lt}
use borrow.Author.Tests.{eqb-true}
use lib.Dec.{eqb, leb, ltb}
use lib.ListN.{length, drop, length-drop}
use Rattle.laws.proofs.Lists.{either}
use Rattle.pattern.specs.Regex.{Regex, cat, alt}
use Rattle.meaning.specs.Events.{Parameter}
use Rattle.form.specs.Text.{Bytes, Span, vars_word, space, lf, is_lower}
use Rattle.form.specs.Form.{same_word}
use Rattle.form.specs.Phrase.{opening, closing, bar, asterisk, plus_sign, question}
use Rattle.form.specs.Scan.{Step, fail, at, past_end, spaces_end, word_end, name_end, part, next_word, name_fault}
use Rattle.form.specs.Lines.{index_of, Table, declare_fault, Variables, variables_from, argument_fault, Arguments, arguments_from}
use Rattle.form.specs.Lines.{want_word, SymbolRead, kind_from, symbol_from, no_table, Lines, lines_from, lines_of}
use Rattle.pattern.specs.Positions.{occurrence_limit}
use Rattle.form.specs.Parse.{Parsed, failed, postfix_on, item_of, name_atom, unfit, closed, begins_item, joined}
use Rattle.form.specs.Parse.{alternation_from, sequence_from, atom_from, enough, pattern_from}
use Rattle.form.specs.Reading.{last_line}
use Rattle.parsing.proofs.Scans.{spaces_end_le, name_end_le, at_end_law}

-- a test before and after a function, and one whose ways are the same
push : {A B : Type 0} (f : A → B) (b : Bool) (x y : A) → f (cond b x y) ≡ cond b (f x) (f y)
push f true x y = refl
push f false x y = refl

cond_same : {A : Type 0} (b : Bool) (x : A) → cond b x x ≡ x
cond_same true x = refl
cond_same false x = refl

-- the numbers of the lines' and the pattern's course: 0 for no fault, and 2 to 6
abbrev pub in_range : ℕ → Bool
in_range n = leb n 6 && not (eqb n 1)

abbrev pub step_in_range : Step → Bool
step_in_range x = in_range x.fault

next_range : (s : Bytes) (p : ℕ) → step_in_range (next_word s p) ≡ true
unfolding next_word
next_range s p = simp (push step_in_range, cond_same)

name_range : (s : Bytes) (p e : ℕ) → in_range (name_fault s p e) ≡ true
unfolding name_fault
name_range s p e = simp (push in_range, cond_same)

declare_range : (s : Bytes) (xs : List Span) (p e : ℕ) → in_range (declare_fault s xs p e) ≡ true
declare_range s xs p e = simp (push in_range, name_range, cond_same)

argument_range : (s : Bytes) (xs : List Span) (p e : ℕ) → in_range (argument_fault s xs p e) ≡ true
argument_range s xs p e = simp (push in_range, name_range, cond_same)

variables_range : (s : Bytes) (n : ℕ) (xs : List Span) (p : ℕ) → step_in_range (variables_from s n xs p).step ≡ true
variables_range s zero xs p = simp (push (λ (v : Variables). v.step), push step_in_range, next_range, cond_same)
variables_range s (suc n) xs p =
    simp (push (λ (v : Variables). v.step), push step_in_range, next_range, declare_range, variables_range s n, cond_same)

arguments_range : (s : Bytes) (xs : List Span) (n : ℕ) (ps : List Parameter) (p : ℕ) → step_in_range (arguments_from s xs n ps p).step ≡ true
arguments_range s xs zero ps p = simp (push (λ (v : Arguments). v.step), push step_in_range, next_range, cond_same)
arguments_range s xs (suc n) ps p =
    simp (push (λ (v : Arguments). v.step), push step_in_range, next_range, argument_range, arguments_range s xs n, cond_same)

want_range : (s : Bytes) (p : ℕ) → step_in_range (want_word s p) ≡ true
unfolding want_word
want_range s p = simp (push step_in_range, next_range, cond_same)

kind_range : (s : Bytes) (xs : List Span) (x : Span) (p : ℕ) → step_in_range (kind_from s xs x p).step ≡ true
unfolding kind_from
kind_range s xs x p = simp (push (λ (v : SymbolRead). v.step), push step_in_range, want_range, arguments_range, cond_same)

symbol_range : (s : Bytes) (t : Table) (p : ℕ) → step_in_range (symbol_from s t p).step ≡ true
unfolding symbol_from
symbol_range s t p = simp (push (λ (v : SymbolRead). v.step), push step_in_range, want_range, declare_range, kind_range, cond_same)

lines_from_range : (s : Bytes) (n : ℕ) (t : Table) (p : ℕ) → step_in_range (lines_from s n t p).step ≡ true
lines_from_range s zero t p = simp (push step_in_range, push in_range, cond_same)
lines_from_range s (suc n) t p =
    simp (push (λ (v : Lines). v.step), push step_in_range, symbol_range, lines_from_range s n, cond_same)

-- the counts of the room are kept out of sight: with them the calls would compute
pub lines_range : (s : Bytes) → step_in_range (lines_of s).step ≡ true
unfolding lines_of
lines_range s =
    let e = word_end s 0 in
    let v = variables_from s 4 [] e in
    let t : Table = record { variables = v.spans; symbols = []; table = [] } in
    ways (same_word (part s 0 e) vars_word) (eqb v.step.fault 0) v (lines_from s 16 t v.step.place) (variables_range s 4 [] e)
    (lines_from_range s 16 t v.step.place)
  where
    ways : (a b : Bool) (v : Variables) (l : Lines) → step_in_range v.step ≡ true → step_in_range l.step ≡ true
        → step_in_range (cond a (cond b l (record { step = v.step; table = no_table })) (record { step = fail 2 0; table = no_table })).step ≡ true
    ways a b v l h k = simp (push (λ (x : Lines). x.step), push step_in_range, h, k, cond_same)

-- the pattern's course: no fault but of those numbers, and the place inside the text
pub record Fit (s : Bytes) (a : Parsed) : Type 0 where
  pub range : step_in_range a.step ≡ true
  pub inside : a.step.place ≤ length s

-- where a byte stands, the text goes on
pub before_end : (s : Bytes) (q b : ℕ) → b < past_end → eqb (at s q) b ≡ true → q + 1 ≤ length s
before_end s q b h e =
    dite (dec_lt q (length s)) (λ l. omega arith) (λ n. absurd (omega (arith, eqb-true (at s q) b e, at_end_law s q (omega arith))))

module _ (s : Bytes) (symbols : List Span) where
  way : (b : Bool) {x y : Parsed} → (b ≡ true → Fit s x) → (b ≡ false → Fit s y) → Fit s (cond b x y)
  way b p q = either (Fit s) b p q

  unfit_fit : (q : ℕ) → q ≤ length s → Fit s (failed (unfit s q))
  unfit_fit q h = record { range = simp (push in_range, cond_same); inside = h }

  postfix_fit : (l : Bytes) (here done : ℕ) (r : Regex) → here + length l ≤ length s → done ≤ length s → Fit s (postfix_on l here done r)
  postfix_fit [] here done r h k = record { range = refl; inside = k }
  postfix_fit (b ∷ l) here done r h k =
      way (eqb b space) (λ _. postfix_fit l _ done r (omega arith) k)
      λ _. way (eqb b asterisk) (λ _. postfix_fit l _ _ _ (omega arith) (omega arith))
      λ _. way (eqb b plus_sign) (λ _. postfix_fit l _ _ _ (omega arith) (omega arith))
      λ _. way (eqb b question) (λ _. postfix_fit l _ _ _ (omega arith) (omega arith)) λ _. record { range = refl; inside = k }

  item_fit : (a : Parsed) → Fit s a → Fit s (item_of s a)
  unfolding item_of
  item_fit a f =
      let p = a.step.place in
      way (eqb a.step.fault 0) (λ _. postfix_fit (drop p s) p p a.tree (omega (arith, length-drop p s)) f.inside) λ _. f

  name_fit : (used q : ℕ) → q ≤ length s → Fit s (name_atom s symbols used q)
  unfolding name_atom
  name_fit used q h =
      let e = name_end s q in
      way (ltb 12 (e - q) || leb occurrence_limit used) (λ _. record { range = refl; inside = h })
      λ _. way (ltb (index_of s symbols (part s q e)) (length symbols)) (λ _. record { range = refl; inside = name_end_le s q h })
      λ _. record { range = refl; inside = h }

  closed_fit : (a : Parsed) → Fit s a → Fit s (closed s a)
  unfolding closed
  closed_fit a f =
      let q = spaces_end s a.step.place in
      way (eqb a.step.fault 0)
      (λ _. way (eqb (at s q) closing) (λ e. record { range = refl; inside = before_end s q closing (omega arith) e })
      λ _. unfit_fit q (spaces_end_le s _ f.inside))
      λ _. f

  joined_fit : (f : Regex → Regex → Regex) (a b : Parsed) → Fit s b → Fit s (joined f a b)
  joined_fit f a b h = way (eqb b.step.fault 0) (λ _. record { range = h.range; inside = h.inside }) λ _. h

  mutual
    unfolding alternation_from sequence_from atom_from

    alternation_fit : (n d k p : ℕ) → p ≤ length s → Fit s (alternation_from s symbols n d k p)
    alternation_fit zero d k p h = record { range = refl; inside = h }
    alternation_fit (suc n) d k p h =
        let a = sequence_from s symbols n d k p in
        let q = spaces_end s a.step.place in
        let f = sequence_fit n d k p h in
        way (eqb a.step.fault 0)
        (λ _. way (eqb (at s q) bar) (λ e. joined_fit alt a _ (alternation_fit n d _ (q + 1) (before_end s q bar (omega arith) e))) λ _. f) λ _. f

    sequence_fit : (n d k p : ℕ) → p ≤ length s → Fit s (sequence_from s symbols n d k p)
    sequence_fit zero d k p h = record { range = refl; inside = h }
    sequence_fit (suc n) d k p h =
        let a = item_of s (atom_from s symbols n d k p) in
        let f = item_fit _ (atom_fit n d k p h) in
        way (eqb a.step.fault 0)
        (λ _. way (begins_item (at s (spaces_end s a.step.place))) (λ _. joined_fit cat a _ (sequence_fit n d _ _ f.inside)) λ _. f) λ _. f

    atom_fit : (n d k p : ℕ) → p ≤ length s → Fit s (atom_from s symbols n d k p)
    atom_fit zero d k p h = record { range = refl; inside = h }
    atom_fit (suc n) d k p h =
        let q = spaces_end s p in
        let i = spaces_end_le s p h in
        way (is_lower (at s q)) (λ _. name_fit k q i) λ _. way (eqb (at s q) opening)
        (λ e. way (eqb d 0) (λ _. record { range = refl; inside = i })
        λ _. closed_fit _ (alternation_fit n (d - 1) k (q + 1) (before_end s q opening (omega arith) e)))
        λ _. unfit_fit q i

  pub pattern_fit : (p : ℕ) → p ≤ length s → Fit s (last_line s (pattern_from s symbols p))
  unfolding last_line pattern_from
  pattern_fit p h =
      let a = pattern_from s symbols p in
      let f = alternation_fit (enough 16 p + 3) 16 0 p h in
      let q = spaces_end s a.step.place in
      way (eqb a.step.fault 0)
      (λ _. way (eqb (at s q) lf)
      (λ e. let i = before_end s q lf (omega arith) e in
      way (eqb (q + 1) (length s)) (λ _. record { range = refl; inside = i }) λ _. record { range = refl; inside = i })
      λ _. unfit_fit q (spaces_end_le s _ f.inside))
      λ _. f
