-- What is known of the reading of any list of numbers, by the course over its lines and its pattern.
use mathlib.Core.Path.{◌≡◌, refl}
use mathlib.Core.Bool.{Bool, true, cond}
use mathlib.Core.Logic.{◌⊎◌, ⊎_elim}
use Prim.Native.Nat.{ℕ, ◌+◌, ◌≤◌, ◌<◌}
use native.Mathlib.Omega.{arith}
use borrow.Author.Tests.{le-ltb, ltb-true, ltb-false, leb-true, eqb-true, eqb-false, eq-eqb, not-true}
use lib.Dec.{eqb, leb, ltb}
use lib.ListN.{length}
use Rattle.laws.proofs.Lists.{and_true_split, either}
use Rattle.pattern.specs.Regex.{lit, nullable, bound_by}
use Rattle.form.specs.Text.{Bytes, space}
use Rattle.form.specs.Limits.{text_limit}
use Rattle.form.specs.Scan.{Step, fail, at, spaces_end}
use Rattle.form.specs.Lines.{no_table, lines_of}
use Rattle.form.specs.Parse.{Parsed, failed, pattern_from}
use Rattle.form.specs.Reading.{Outcome, refused, last_line, variables_of, all_bits, match_from, reading_of}
use Rattle.parsing.proofs.Scans.{spaces_end_le}
use Rattle.parsing.proofs.Header.{lines_place}
use Rattle.parsing.proofs.Faults.{step_in_range, lines_range, before_end, pattern_fit}

-- the pattern behind the lines, its first token's place, and whether every word binds every variable
abbrev pub pattern_of : Bytes → Parsed
pattern_of s = last_line s (pattern_from s (lines_of s).table.symbols ((lines_of s).step.place + 1))

abbrev pub first_of : Bytes → ℕ
first_of s = spaces_end s ((lines_of s).step.place + 1)

abbrev pub binds_all : Bytes → Bool
binds_all s = all_bits (length (lines_of s).table.variables) (bound_by (variables_of (lines_of s).table.table) (pattern_of s).tree)

-- nothing of the text is out of form
pub record Whole (s : Bytes) : Type 0 where
  pub short : length s ≤ text_limit
  pub lines : (lines_of s).step.fault ≡ 0
  pub behind : at s (lines_of s).step.place ≡ space
  pub pattern : (pattern_of s).step.fault ≡ 0

-- the number that a text has of which nothing is out of form, by its flag and its mask
abbrev pub answer : (empty bound : Bool) → ℕ
answer empty bound = cond empty 7 (cond bound 0 8)

-- what is known of the reading o of a text
pub record Known (s : Bytes) (o : Outcome) : Type 0 where
  pub place : o.place ≤ length s
  pub range : o.number ≤ 8
  pub long : o.number ≡ 1 → text_limit < length s
  pub blank : (o.number ≡ 0 → ⊥) → (o.table ≡ no_table) × (o.tree ≡ lit 0)
  pub whole : (o.number ≡ 0) ⊎ (7 ≤ o.number) → Whole s
  pub words : Whole s → o.number ≡ answer (nullable (pattern_of s).tree) (binds_all s)
  pub read : o.number ≡ 0 → o ≡ record { number = 0; place = 0; table = (lines_of s).table; tree = (pattern_of s).tree }

module _ (s : Bytes) where
  -- what is made of the pattern
  abbrev pub outcome : Parsed → Outcome
  outcome m =
      let accepted : Outcome = record { number = 0; place = 0; table = (lines_of s).table; tree = m.tree } in
      cond (eqb m.step.fault 0) accepted (refused m.step)

  -- a refusal, whatever its number
  refusal : (x : Step) → 1 ≤ x.fault → x.fault ≤ 8 → x.place ≤ length s → (x.fault ≡ 1 → text_limit < length s)
      → (7 ≤ x.fault → Whole s) → (Whole s → x.fault ≡ answer (nullable (pattern_of s).tree) (binds_all s)) → Known s (refused x)
  refusal x low high inside long whole words = record {
    place = inside;
    range = high;
    long = long;
    blank = λ _. (refl, refl);
    whole = ⊎_elim (λ e. absurd (omega arith)) whole;
    words = words;
    read = λ e. absurd (omega arith);
  }

  -- at a fault of the lines or of the pattern
  stop : (x : Step) → step_in_range x ≡ true → (x.fault ≡ 0 → ⊥) → x.place ≤ length s → (Whole s → ⊥) → Known s (refused x)
  stop x range some inside n =
      let (low, high) = and_true_split (leb x.fault 6) _ range in
      let one = eqb-false x.fault 1 (not-true _ high) in
      let six = leb-true x.fault 6 low in
      refusal x (omega arith) (omega arith) inside (λ e. absurd (one e)) (λ h. absurd (omega arith)) λ w. absurd (n w)

  -- where nothing is out of form: 7 and 8, then the pattern itself
  words_known : Whole s → let unbound = cond (binds_all s) (pattern_of s) (failed (fail 8 (first_of s))) in
      Known s (outcome (cond (nullable (pattern_of s).tree) (failed (fail 7 (first_of s))) unbound))
  words_known w =
      let first = spaces_end_le s ((lines_of s).step.place + 1) (before_end s _ space (omega arith) (eq-eqb _ _ w.behind)) in
      either (λ m. Known s (outcome m)) (nullable (pattern_of s).tree)
      (λ n. refusal _ (omega arith) (omega arith) first (λ e. absurd (omega arith)) (λ _. w) λ _. rw n)
      λ n. either (λ m. Known s (outcome m)) (binds_all s) (λ b. rw w.pattern (record {
        place = omega arith;
        range = omega arith;
        long = λ e. absurd (omega arith);
        blank = λ e. absurd (e refl);
        whole = λ _. w;
        words = λ _. rw (n, b);
        read = λ _. refl;
      })) λ b. refusal _ (omega arith) (omega arith) first (λ e. absurd (omega arith)) (λ _. w) λ _. rw (n, b)

  match_known : length s ≤ text_limit → (lines_of s).step.fault ≡ 0 → Known s (outcome (match_from s (lines_of s).table (lines_of s).step.place))
  unfolding match_from
  match_known short f =
      let p = (lines_of s).step.place in
      let a = pattern_of s in
      either (λ m. Known s (outcome m)) (eqb (at s p) space)
      (λ g. let fit = pattern_fit s (lines_of s).table.symbols (p + 1) (before_end s p space (omega arith) g) in
      either (λ m. Known s (outcome m)) (eqb a.step.fault 0)
      (λ h. words_known (record { short = short; lines = f; behind = eqb-true _ _ g; pattern = eqb-true _ _ h }))
      λ h. rw h (stop _ fit.range (eqb-false _ _ h) fit.inside λ w. eqb-false _ _ h w.pattern))
      λ g. stop (fail 2 p) refl (omega arith) (lines_place s) λ w. eqb-false _ _ g w.behind

  pub known : Known s (reading_of s)
  unfolding reading_of
  known =
      let l = lines_of s in
      either (Known s) (ltb text_limit (length s))
      (λ e. let h = ltb-true text_limit (length s) e in
      refusal (fail 1 text_limit) (omega arith) (omega arith) (omega arith) (λ _. h) (λ k. absurd (omega arith)) λ w. absurd (omega arith))
      λ e. either (Known s) (eqb l.step.fault 0) (λ f. match_known (ltb-false _ _ e) (eqb-true _ _ f))
      λ f. stop l.step (lines_range s) (eqb-false _ _ f) (lines_place s) λ w. eqb-false _ _ f w.lines

  -- where nothing is out of form, a refusal stands at the first token
  pub words_first : Whole s → 7 ≤ (reading_of s).number → (reading_of s).place ≡ first_of s
  unfolding reading_of match_from
  words_first w =
      let First : Parsed → Type 0 = λ m. 7 ≤ (outcome m).number → (outcome m).place ≡ first_of s in
      rw (le-ltb text_limit (length s) w.short, w.lines, w.behind, w.pattern)
      (either First (nullable (pattern_of s).tree) (λ _ _. refl) λ _. either First (binds_all s) (λ _ h. absurd (omega arith)) λ _ _. refl)
