-- `refused`: the number and the place that `read` hands back (its contract cites `reading`) are those of the rules: 1 for a text too long,
-- the least fault, 7, 8, or 0.
use mathlib.Core.Path.{◌≡◌, refl, sym, ap, ◌∙◌}
use mathlib.Core.Bool.{Bool, true, false, true≢false}
use mathlib.Core.List.{Memᴰ}
use mathlib.Core.Logic.{◌↔◌, ◌⊎◌, inl, inr, ⊎_elim, dite}
use Prim.Native.Nat.{ℕ, ◌+◌, ◌≤◌, ◌<◌}
use native.Mathlib.Decide.{ℕ_discrete}
use native.Mathlib.Omega.{arith}
use borrow.Author.Tests.{eqb-true, eqb-false, eq-eqb, ltb-false, ltb-true}
use lib.Dec.{eqb, ltb}
use lib.ListN.{length}
use Rattle.laws.proofs.Lists.{either}
use Rattle.pattern.specs.Regex.{nullable}
use Rattle.form.specs.Text.{Bytes, is_bytes, space}
use Rattle.form.specs.Limits.{text_limit}
use Rattle.form.specs.Scan.{at}
use Rattle.form.specs.Lines.{lines_of}
use Rattle.form.specs.Parse.{Parsed}
use Rattle.form.specs.Reading.{Outcome, match_from, reading_of}
use Rattle.parsing.proofs.Accepted as Accepted
use Rattle.parsing.proofs.Faults.{before_end}
use Rattle.parsing.proofs.Outcomes.{Whole, known, pattern_of, binds_all, outcome}
use Rattle.book.specs.Answers.{number_of, place_of}
use Rattle.book.specs.Books.{reading}
use Rattle.book.proofs.Bench as Bench
use Rattle.fault.specs.Fault.{Fault, fault_numbers, fault_rank, Least, NoFault}
use Rattle.fault.specs.Rules.{AdmitsEmpty, LeavesUnbound, Rules}
use Rattle.fault.proofs.Ranks.{listed_range, not_listed, same_rank}
use Rattle.least.proofs.HeaderPrefix.{Ready}
use Rattle.least.proofs.HeaderCourse.{lines_stop, lines_matched}
use Rattle.least.proofs.HeaderFaults.{header_stop_least, matched_ready}
use Rattle.least.proofs.PatternCourse.{pattern_whole, pattern_stopped}
use Rattle.least.proofs.PatternFaults.{space_least, stopped_least, after_least, finished_none}

module _ (s : Bytes) (bytes : is_bytes s ≡ true) where
  -- the place behind `match`, and what is known there
  abbrev behind : ℕ
  behind = (lines_of s).step.place

  ready : (lines_of s).step.fault ≡ 0 → Ready s (lines_of s).table.symbols behind
  ready h = matched_ready s bytes _ _ _ (lines_matched s bytes h)

  -- the pattern begins inside the text
  inside : eqb (at s behind) space ≡ true → behind + 1 ≤ length s
  inside e = before_end s behind space (omega arith) e

  -- where nothing is out of form, there is no fault
  whole_none : Whole s → NoFault s
  whole_none w =
      let e = eq-eqb _ _ w.behind in
      let (q, x, h) = pattern_whole s w.short (lines_of s).table.symbols (behind + 1) (inside e) w.pattern in
      finished_none s bytes _ behind (ready w.lines) w.behind q x h

  -- the number and the place of a refusal before the words are judged: the least fault
  abbrev Judged : (number place : ℕ) → Type 0
  Judged n p = Memᴰ n fault_numbers → Least s p n

  abbrev JudgedOutcome : Outcome → Type 0
  JudgedOutcome o = Judged o.number o.place

  -- the same of what is made of the pattern
  abbrev JudgedPattern : Parsed → Type 0
  JudgedPattern m = JudgedOutcome (outcome s m)

  -- a step with a fault that is the least
  step_judged : (m : Parsed) → ((m.step.fault ≡ 0 → ⊥) → Least s m.step.place m.step.fault) → JudgedPattern m
  step_judged m f =
      either JudgedOutcome (eqb m.step.fault 0) (λ _ h. absurd (not_listed refl h)) (λ e _. f (eqb-false _ _ e))

  pattern_least : length s ≤ text_limit → (lines_of s).step.fault ≡ 0 → at s behind ≡ space → ((pattern_of s).step.fault ≡ 0 → ⊥)
      → Least s (pattern_of s).step.place (pattern_of s).step.fault
  pattern_least short l g h =
      let r = ready l in
      ⊎_elim (λ x. stopped_least s bytes _ behind r g _ _ x)
      (λ (q, x, n, f, p). rw (f, p) (after_least s bytes _ behind r g q x n))
      (pattern_stopped s short (lines_of s).table.symbols (behind + 1) (inside (eq-eqb _ _ g)) h)

  match_judged : length s ≤ text_limit → (lines_of s).step.fault ≡ 0 → JudgedPattern (match_from s (lines_of s).table behind)
  unfolding match_from
  match_judged short l =
      let a = pattern_of s in
      either JudgedPattern (eqb (at s behind) space)
      (λ g. either JudgedPattern (eqb a.step.fault 0)
      (λ _. either JudgedPattern (nullable a.tree) (λ _ h. absurd (not_listed refl h))
      λ _. either JudgedPattern (binds_all s) (λ _. step_judged a (pattern_least short l (eqb-true _ _ g))) λ _ h. absurd (not_listed refl h))
      λ _. step_judged a (pattern_least short l (eqb-true _ _ g)))
      λ g _. space_least s bytes _ behind (ready l) (eqb-false _ _ g)

  judged : length s ≤ text_limit → JudgedOutcome (reading_of s)
  unfolding reading_of
  judged short =
      let l = lines_of s in
      either JudgedOutcome (ltb text_limit (length s)) (λ e. absurd (omega (arith, ltb-true text_limit (length s) e)))
      λ _. either JudgedOutcome (eqb l.step.fault 0) (λ f. match_judged short (eqb-true _ _ f))
      λ f _. header_stop_least s bytes _ _ (lines_stop s bytes (eqb-false _ _ f))

  -- two least faults are one
  same_least : (p n q m : ℕ) → Least s p n → Least s q m → (n ≡ m) × (p ≡ q)
  same_least p n q m a b = by (a.least q m b.fault) (b.least p n a.fault)
    where
      by : (p < q) ⊎ ((p ≡ q) × (fault_rank n ≤ fault_rank m)) → (q < p) ⊎ ((q ≡ p) × (fault_rank m ≤ fault_rank n)) → (n ≡ m) × (p ≡ q)
      by (inl x) (inl y) = absurd (omega arith)
      by (inl x) (inr y) = absurd (omega (arith, y.0))
      by (inr x) (inl y) = absurd (omega (arith, x.0))
      by (inr x) (inr y) = (same_rank a.fault b.fault (omega (arith, x.1, y.1)), x.0)

  abbrev number : ℕ
  number = (reading_of s).number

  abbrev place : ℕ
  place = (reading_of s).place

  -- a number other than 1 is that of a text which is not too long
  short_of : (number ≡ 1 → ⊥) → length s ≤ text_limit
  short_of h = by (ltb text_limit (length s)) refl
    where
      by : (t : Bool) → ltb text_limit (length s) ≡ t → length s ≤ text_limit
      by true e = absurd (h ((Accepted.too_long_law s).1 (ltb-true text_limit (length s) e)))
      by false e = ltb-false text_limit (length s) e

  -- 0, 7 and 8: no fault
  none_of : (number ≡ 0) ⊎ (7 ≤ number) → NoFault s
  none_of h = whole_none ((known s).whole h)

  -- the number is a fault's, or 0, 1, 7 or 8
  abbrev Numbered : Type 0
  Numbered = Memᴰ number fault_numbers ⊎ ((number ≡ 0) ⊎ ((number ≡ 1) ⊎ ((number ≡ 7) ⊎ (number ≡ 8))))

  which_number : Numbered
  which_number =
      let most = Accepted.number_range s in
      dite (ℕ_discrete number 0) (λ e. inr (inl e)) λ a. dite (ℕ_discrete number 1) (λ e. inr (inr (inl e)))
      λ b. dite (ℕ_discrete number 7) (λ e. inr (inr (inr (inl e)))) λ c. dite (ℕ_discrete number 8) (λ e. inr (inr (inr (inr e))))
      λ d. inl ((listed_range number).1 (omega arith, omega arith))

  not_one : length s ≤ text_limit → number ≡ 1 → ⊥
  not_one short e = omega (arith, (Accepted.too_long_law s).0 e)

  -- a text with a fault that is not too long: the number is a fault's
  number_listed : (q m : ℕ) → length s ≤ text_limit → Fault s q m → Memᴰ number fault_numbers
  number_listed q m short f = by which_number
    where
      by : Numbered → Memᴰ number fault_numbers
      by (inl a) = a
      by (inr (inl e)) = absurd (none_of (inl e) q m f)
      by (inr (inr (inl e))) = absurd (not_one short e)
      by (inr (inr (inr (inl e)))) = absurd (none_of (inr (omega arith)) q m f)
      by (inr (inr (inr (inr e)))) = absurd (none_of (inr (omega arith)) q m f)

  fault_rule : (m q : ℕ) → Memᴰ m fault_numbers → ((number ≡ m) × (place ≡ q)) ↔ ((length s ≤ text_limit) × Least s q m)
  fault_rule m q a = (
    λ (e, f). let short = short_of (λ o. not_listed refl (rw (sym e ∙ o) at a)) in (short, rw (e, f) at (judged short (rw e a))),
    λ (short, l). same_least place number q m (judged short (number_listed q m short l.fault)) l,
  )

  -- 7 and 8: the words of the one pattern that the text writes
  seven_rule : (number ≡ 7) ↔ ((length s ≤ text_limit) × NoFault s × AdmitsEmpty s)
  seven_rule = (
    λ e. (short_of (λ o. omega arith), none_of (inr (omega arith)), (Accepted.seven s).0 e),
    λ x. (Accepted.seven s).1 x.2,
  )

  eight_rule : (number ≡ 8) ↔ ((length s ≤ text_limit) × NoFault s × (AdmitsEmpty s → ⊥) × LeavesUnbound s)
  eight_rule = (
    λ e. let (d, r, f, n, u) = (Accepted.eight s).0 e in
        (short_of (λ o. omega arith), none_of (inr (omega arith)), λ a. omega (arith, (Accepted.seven s).1 a), (d, r, f, u)),
    λ (short, none, n, (d, r, f, u)). (Accepted.eight s).1 (d, r, f, λ i. n (d, r, f, i), u),
  )

  -- no number else is left
  zero_of : length s ≤ text_limit → NoFault s → (AdmitsEmpty s → ⊥) → (LeavesUnbound s → ⊥) → number ≡ 0
  zero_of short none empty unbound = by which_number
    where
      by : Numbered → number ≡ 0
      by (inl a) = absurd (none place number (judged short a).fault)
      by (inr (inl e)) = e
      by (inr (inr (inl e))) = absurd (not_one short e)
      by (inr (inr (inr (inl e)))) = absurd (empty ((Accepted.seven s).0 e))
      by (inr (inr (inr (inr e)))) = let (d, r, f, n, u) = (Accepted.eight s).0 e in absurd (unbound (d, r, f, u))

  none_rule : ((number ≡ 0) × (place ≡ 0)) ↔ ((length s ≤ text_limit) × NoFault s × (AdmitsEmpty s → ⊥) × (LeavesUnbound s → ⊥))
  none_rule = (
    λ (e, f). (
      short_of (λ o. omega arith),
      none_of (inl e),
      λ a. omega (arith, (Accepted.seven s).1 a),
      λ (d, r, f, (v, w, l, i, n)). let (d2, r2, g) = (Accepted.accepted s).0 e in
          let (same, tree) = Accepted.unique s d d2 r r2 f g.shape in
          true≢false (sym (g.binding v (rw same at l) w (rw tree at i)) ∙ rw same at n),
    ),
    λ (short, none, empty, unbound). let z = zero_of short none empty unbound in (z, ap (λ o. o.place) ((known s).read z)),
  )

  long_rule : ((number ≡ 1) × (place ≡ text_limit)) ↔ (text_limit < length s)
  long_rule = (λ (e, f). (Accepted.too_long_law s).0 e, λ h. let e = (Accepted.too_long_law s).1 h in (e, sym (Bench.long_place s e)))

  pub refused : Rules s (place_of (reading s).answer) (number_of (reading s).answer)
  refused = rw (Bench.answer_number s, Bench.answer_place s) (record {
    long = long_rule;
    fault = fault_rule;
    seven = seven_rule;
    eight = eight_rule;
    first = λ d r f h. Accepted.words_place s d r f h;
    none = none_rule;
  })
