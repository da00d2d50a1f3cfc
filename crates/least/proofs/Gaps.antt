-- The end of a word that the course has read, and what it finds there: the line's LF, one space and a word behind it, or a place
-- where it stops. For HeaderCourse.
use mathlib.Core.Path.{◌≡◌, refl, sym, ◌∙◌}
use mathlib.Core.Bool.{true, false, ◌||◌, true≢false}
use mathlib.Core.List.{List}
use mathlib.Core.Logic.{inl, inr, ⊎_elim}
use Prim.Native.Nat.{ℕ, ◌+◌, ◌≤◌, ◌<◌}
use native.Mathlib.Omega.{arith}
use borrow.Author.Tests.{ltb-true, eqb-true, eqb-false, eq-eqb, ne_eqb}
use lib.Dec.{eqb}
use lib.ListN.{length, drop, length-drop}
use lib.Seq.{get_or-drop}
use Rattle.laws.proofs.Lists.{or_true_split, all_at, all_of, or_false_split, either}
use Rattle.form.specs.Text.{Bytes, is_bytes, space, lf, Span}
use Rattle.form.specs.Scan.{Step, go, fail, at, past_end, is_space, is_word_byte, word_end, spaces_end, next_word}
use Rattle.form.specs.Lines.{want_word}
use Rattle.parsing.proofs.Scans.{run_end, at_end_law, at_inside, word_end_le, spaces_end_le, spaces_end_ge}
use Rattle.parsing.proofs.TokenScan.{by_equal, inside_of, here_space}
use Rattle.fault.specs.Places.{Ends}
use Rattle.least.proofs.Spots.{run_inside}
use Rattle.least.proofs.HeaderPrefix.{Gap, HeaderPrefix, opened, variable, line, named, kinded, argued}
use Rattle.least.proofs.HeaderPrefix.{HeaderStop, no_lf, last_space, two_spaces, few_words}

-- p is the end of a word
pub record WordEnd (s : Bytes) (p : ℕ) : Type 0 where
  pub inside : p ≤ length s
  pub stops : is_word_byte (at s p) ≡ true → p ≡ length s

module _ (s : Bytes) where
  word_ends : (q : ℕ) → q ≤ length s → WordEnd s (word_end s q)
  unfolding word_end
  word_ends q h = record {
    inside = word_end_le s q h;
    stops = λ e. ⊎_elim (λ k. omega (arith, length-drop q s)) (λ k. absurd (true≢false (sym e ∙ rw get_or-drop at k)))
        (run_end is_word_byte (drop q s));
  }

  pub prefix_end : {p k i : ℕ} {vs ss : List Span} → HeaderPrefix s p k i vs ss → WordEnd s p
  prefix_end (opened e) = word_ends 0 (omega arith)
  prefix_end (variable p i vs c l m g e) = word_ends _ (omega (arith, g.1))
  prefix_end (line p k i vs ss c l m g e) = word_ends _ (inside_of s p lf g refl)
  prefix_end (named p k vs ss c l g e) = word_ends _ (omega (arith, g.1))
  prefix_end (kinded p k vs ss c l g e) = word_ends _ (omega (arith, g.1))
  prefix_end (argued p k i vs ss c l m n g e) = word_ends _ (omega (arith, g.1))

  space_at : (p n : ℕ) → p + n < spaces_end s p → at s (p + n) ≡ space
  unfolding spaces_end
  space_at p n h = eqb-true _ space (rw get_or-drop at (run_inside is_space (drop p s) n (omega arith)))

module _ (s : Bytes) (bytes : is_bytes s ≡ true) where
  -- no byte is 256
  pub past_end_law : (p : ℕ) → at s p ≡ past_end → length s ≤ p
  past_end_law p = at_inside s p (all_of _ s λ b m. rw (ne_eqb b past_end λ e. omega (arith, ltb-true b 256 (all_at _ bytes m))))

  module _ {p k i : ℕ} {vs ss : List Span} (prefix : HeaderPrefix s p k i vs ss) where
    -- the first place behind the spaces
    q : ℕ
    q = spaces_end s p

    spaced : (q ≡ p → ⊥) → at s p ≡ space
    unfolding q
    spaced h = let z : p + 0 ≡ p = omega arith in rw z at (space_at s p 0 (omega (arith, spaces_end_ge s p)))

    ends : (eqb (at s q) lf || eqb (at s q) past_end) ≡ true → Ends s q
    unfolding q
    ends h =
        let i = spaces_end_le s p (prefix_end s prefix).inside in
        ⊎_elim (λ e. inl (eqb-true _ lf e)) (λ e. inr (omega (arith, past_end_law q (eqb-true _ past_end e)))) (or_true_split _ _ h)

    ends_not : (eqb (at s q) lf || eqb (at s q) past_end) ≡ false → Ends s q → ⊥
    ends_not h =
        ⊎_elim (eqb-false _ lf (or_false_split _ _ h).0)
        λ e. eqb-false _ past_end (or_false_split (eqb (at s q) lf) _ h).1 (at_end_law s q (omega arith))

    one_gap : (eqb (at s q) lf || eqb (at s q) past_end) ≡ false → q ≡ p + 1 → Gap s p
    unfolding q
    one_gap h e =
        let l = spaces_end_le s p (prefix_end s prefix).inside in
        let n : q ≡ length s → ⊥ = λ z. ends_not h (inr z) in
        let w : is_word_byte (at s q) ≡ true = rw (here_space s p, (or_false_split (eqb (at s q) lf) _ h).0) in
        (spaced (λ z. omega arith), omega arith, rw e at w)

    -- what holds of the gap behind a word, whatever stands there
    gap_of : (P : Step → Type 0) → (at s p ≡ lf → P (go p)) → (Gap s p → P (go (p + 1)))
        → ((x : Step) → (x.fault ≡ 0 → ⊥) → HeaderStop s x.place x.fault → P x) → P (next_word s p)
    unfolding next_word q
    gap_of P end next halt =
        let e = prefix_end s prefix in
        by_equal P q p
        (λ a. by_equal P (at s q) lf (λ b. end (rw a at b))
        λ b. halt (fail 2 p) (λ z. omega arith) (no_lf k i vs ss prefix (e.stops (rw (rw a at (here_space s p), ne_eqb _ lf (rw a at b))))))
        λ a. either P (eqb (at s q) lf || eqb (at s q) past_end)
        (λ b. halt (fail 2 p) (λ z. omega arith) (last_space k i vs ss prefix (spaced a) (ends b)))
        λ b. by_equal P q (p + 1) (λ c. rw c (next (one_gap b c))) λ c. halt (fail 2 (p + 1)) (λ z. omega arith)
        (two_spaces p k i vs ss prefix (spaced a) (space_at s p 1 (omega (arith, spaces_end_ge s p))) (ends_not b) refl)

    pub gap : {P : Type 0} → (at s p ≡ lf → next_word s p ≡ go p → P) → (Gap s p → next_word s p ≡ go (p + 1) → P)
        → ((x : Step) → (x.fault ≡ 0 → ⊥) → HeaderStop s x.place x.fault → next_word s p ≡ x → P) → P
    gap {P} end next halt = gap_of (λ n. next_word s p ≡ n → P) end next halt refl

    -- where a word must stand
    pub want : {P : Type 0} → 1 ≤ k → i ≤ 2 → (Gap s p → want_word s p ≡ go (p + 1) → P)
        → ((x : Step) → (x.fault ≡ 0 → ⊥) → HeaderStop s x.place x.fault → want_word s p ≡ x → P) → P
    unfolding want_word
    want l m next halt =
        gap (λ e h. halt (fail 2 p) (λ z. omega arith) (few_words k i vs ss prefix l m e) (rw (h, eq-eqb p p refl)))
        (λ g h. next g (rw (h, ne_eqb (p + 1) p (λ z. omega arith)))) λ x n y h. halt x n y (rw (h, ne_eqb x.fault 0 n))
