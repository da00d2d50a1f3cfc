-- Which faults can stand on the pattern's line, behind its word `match`: a wrong token, and at the line's end a missing token or LF. For
-- LeastFaults, PatternFacts and PatternFaults.
use mathlib.Core.Path.{◌≡◌, refl, ap, ◌∙◌}
use mathlib.Core.Bool.{Bool, true, false, cond}
use mathlib.Core.Logic.{⊎_elim, dite}
use Prim.Native.Nat.{ℕ, zero, suc, ◌+◌, ◌-◌, ◌≤◌, ◌<◌}
use native.Mathlib.Nat.{add-zero}
use native.Mathlib.Omega.{arith}
use native.Mathlib.Decide.{dec_lt}
use borrow.Author.Tests.{ne_eqb}
use lib.Dec.{eqb}
use lib.ListN.{length}
use Rattle.form.specs.Text.{Bytes, space, lf}
use Rattle.form.specs.Scan.{at}
use Rattle.parsing.proofs.TokenScan.{inside_of}
use Rattle.fault.specs.Places.{Spot, passed, spot_at, On, Ends, Header, PatternLine, TokenAt, before, Pattern}
use Rattle.fault.specs.Fault.{TokenFault, Fault}
use Rattle.least.proofs.Sites.{behind_header, Clean}
use Rattle.least.proofs.Spots.{NotBehind, spot_step, spot_later, word_end_law, word_spot, word_same}

-- an LF, and only it, ends the line
behind_line_law : (x : Spot) (b : ℕ) → (b ≡ lf → ⊥) → (passed x b).line ≡ x.line
behind_line_law x b h = rw (ne_eqb b lf h) (by (eqb b space))
  where
    by : (t : Bool) → (cond {A = Spot} t (record { line = x.line; words = x.words; inside = false })
        (record { line = x.line; words = cond x.inside x.words (suc x.words); inside = true })).line ≡ x.line
    by true = refl
    by false = refl

module _ (s : Bytes) where
  pub same_line : (k q : ℕ) → q < length s → On s k q → (at s q ≡ lf → ⊥) → On s k (q + 1)
  same_line k q h o n = rw (spot_step s q h) (behind_line_law (spot_at s q) (at s q) n ∙ o)

  pub next_line : (k q : ℕ) → q < length s → On s k q → at s q ≡ lf → On s (suc k) (q + 1)
  next_line k q h o e = rw (spot_step s q h, e) (ap suc o)

  module _ (k p : ℕ) (line : PatternLine s k p) where
    -- no line from the pattern's on stands before it
    pub no_header : (j : ℕ) → k ≤ j → Header s j → ⊥
    no_header j h f = behind_header s f line h

    -- a text has one pattern's line
    pub one_line_law : {j r : ℕ} → PatternLine s j r → (j ≡ k) × (r ≡ p)
    one_line_law {j} {r} l =
        let e : j ≡ k = dite (dec_lt j k) (λ h. absurd (line.first j r l.behind h l.word l.match))
        λ n. dite (dec_lt k j) (λ h. absurd (l.first k p line.behind h line.word line.match)) λ m. omega arith in
        (e, word_same s (rw e at l.word) line.word)

    -- behind the first byte of `match` a word has begun
    words_begun : (q : ℕ) → p < q → q ≤ length s → On s k q → 1 ≤ (spot_at s q).words
    words_begun q h l o =
        let x = word_spot s line.word (p + 1) (omega arith) (omega (arith, word_end_law s line.word)) in
        let y : NotBehind (record { line = k; words = 1; inside = true }) (spot_at s q) = rw x at (spot_later s (p + 1) q (omega arith) l) in
        ⊎_elim (λ z. absurd (omega arith)) (λ z. z.1) y

    -- what a fault can be, at a place behind the first byte of `match`
    pub data Here (q : ℕ) : ℕ → Type 0 where
      no_space : (at s (p + 5) ≡ space → ⊥) → q ≡ p + 5 → Here q 2
      token : {n : ℕ} → TokenAt s k p q → TokenFault s k p q n → Here q n
      no_token : Ends s q → (Pattern (before s p q) → ⊥) → Here q 6
      no_lf : q ≡ length s → Here q 2

    pub line_fault : (k ≡ 1 → ⊥) → (q n : ℕ) → p < q → On s k q → Fault s q n → Here q n
    line_fault later q n h o (Fault.space_first x m b w) =
        absurd (omega (arith, words_begun q h (omega (arith, inside_of s q space b refl)) o))
    line_fault later q n h o (Fault.space_twice {k = j} r x f b c e) =
        let y = same_line j r (omega (arith, inside_of s r space b refl)) x (λ z. omega arith) in
        let z : On s k (r + 1) = rw e at o in
        absurd (no_header j (omega arith) f)
    line_fault later q n h o (Fault.space_last {k = j} x f b l) = absurd (no_header j (omega arith) f)
    line_fault later q n h o (Fault.word {k = j} w f x) = absurd (no_header j (omega (arith, ap (λ y. y.line) w.spot)) f)
    line_fault later q n h o (Fault.missing_word {k = j} x f l w) = absurd (no_header j (omega arith) f)
    line_fault later q n h o (Fault.missing_sym w e) = absurd (line.first 1 q (omega arith) (omega (arith, line.behind)) w e)
    line_fault later q n h o (Fault.missing_space l b e) = let u = one_line_law l in no_space (rw u.1 at b) (omega arith)
    line_fault later q n h o (Fault.token l b t f) = let u = one_line_law l in token (rw (u.0, u.1) at t) (rw (u.0, u.1) at f)
    line_fault later q n h o (Fault.missing_token l b x z f g) = let u = one_line_law l in no_token z (rw u.1 at g)
    line_fault later q n h o (Fault.missing_lf x m e) = no_lf e
    line_fault later q n h o (Fault.after {k = j} r l x b i e) =
        let u = one_line_law l in
        let y = next_line j r (omega arith) x b in
        let z : On s k (r + 1) = rw e at o in
        absurd (omega arith)

    module _ (later : k ≡ 1 → ⊥) where
      -- inside the pattern only a token can be wrong
      pub token_fault : (q n : ℕ) → p + 6 ≤ q → On s k q → q < length s → (at s q ≡ lf → ⊥) → Fault s q n
          → TokenAt s k p q × TokenFault s k p q n
      token_fault q n h o i c f = by n (line_fault later q n (omega arith) o f)
        where
          by : (n : ℕ) → Here q n → TokenAt s k p q × TokenFault s k p q n
          by n (no_space x e) = absurd (omega arith)
          by n (token t x) = (t, x)
          by n (no_token z x) = absurd (⊎_elim c (λ y. omega arith) z)
          by n (no_lf e) = absurd (omega arith)

      -- over bytes without an LF and without a wrong token
      clean_on : (q m : ℕ) → p + 6 ≤ q → q + m ≤ length s → On s k q → Clean s q → ((r : ℕ) → q ≤ r → r < q + m → at s r ≡ lf → ⊥)
          → ((r n : ℕ) → q ≤ r → r < q + m → TokenAt s k p r → TokenFault s k p r n → ⊥) → On s k (q + m) × Clean s (q + m)
      clean_on q zero h i o c f g = (rw add-zero o, rw add-zero c)
      clean_on q (suc m) h i o c f g =
          let e : q + suc m ≡ q + 1 + m = omega arith in
          rw e (clean_on (q + 1) m (omega arith) (omega arith) (same_line k q (omega arith) o (f q (omega arith) (omega arith))) here
          (λ r a b. f r (omega arith) (omega arith)) λ r n a b. g r n (omega arith) (omega arith))
        where
          here : Clean s (q + 1)
          here r n l x = dite (dec_lt r q) (λ b. c r n b x) λ b. there r n (omega arith) x
            where
              there : (r n : ℕ) → r ≡ q → Fault s r n → ⊥
              there r n e x =
                  let t = token_fault q n h o (omega arith) (f q (omega arith) (omega arith)) (rw e at x) in
                  g q n (omega arith) (omega arith) t.0 t.1

      pub clean_over : (q e : ℕ) → p + 6 ≤ q → q ≤ e → e ≤ length s → On s k q → Clean s q → ((r : ℕ) → q ≤ r → r < e → at s r ≡ lf → ⊥)
          → ((r n : ℕ) → q ≤ r → r < e → TokenAt s k p r → TokenFault s k p r n → ⊥) → On s k e × Clean s e
      clean_over q e h l i o c f g =
          let x : q + (e - q) ≡ e = omega arith in
          rw x at (clean_on q (e - q) h (omega arith) o c (λ r a b. f r a (omega arith)) λ r n a b. g r n a (omega arith))

    -- at the text's end, on the line behind the pattern's, no fault stands
    pub end_fault : (q n : ℕ) → p + 6 ≤ q → q ≡ length s → On s (suc k) q → Fault s q n → ⊥
    end_fault q n h i o (Fault.space_first x m b w) = omega (arith, inside_of s q space b refl)
    end_fault q n h i o (Fault.space_twice r x f b c e) = omega (arith, inside_of s (r + 1) space c refl)
    end_fault q n h i o (Fault.space_last x f b l) = omega (arith, inside_of s q space b refl)
    end_fault q n h i o (Fault.word w f x) = omega (arith, w.present)
    end_fault q n h i o (Fault.missing_word {k = j} x f l w) = no_header j (omega arith) f
    end_fault q n h i o (Fault.missing_sym w e) = omega (arith, w.present)
    end_fault q n h i o (Fault.missing_space l b e) = omega (arith, one_line_law l)
    end_fault q n h i o (Fault.token l b t f) = omega (arith, t.present)
    end_fault q n h i o (Fault.missing_token l b x z f g) = omega (arith, one_line_law l)
    end_fault q n h i o (Fault.missing_lf {k = j} x m e) = m k p line.behind (omega arith) line.word line.match
    end_fault q n h i o (Fault.after r l x b z e) = omega arith
