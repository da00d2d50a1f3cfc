-- Which faults can stand at a place of the lines before the pattern, by what the place is: inside a word, a space, the beginning of a
-- word, an LF. And the least of faults, place by place.
use mathlib.Core.Path.{◌≡◌, refl, sym, ap, ◌∙◌}
use mathlib.Core.Bool.{true, false, true≢false, false≢true}
use mathlib.Core.Logic.{◌⊎◌, inl, inr, dite}
use Prim.Native.Nat.{ℕ, suc, ◌+◌, ◌-◌, ◌≤◌, ◌<◌}
use native.Mathlib.Decide.{dec_lt, ℕ_discrete}
use native.Mathlib.Omega.{arith}
use lib.ListN.{length, drop, length-drop}
use lib.Seq.{length-take-le}
use Rattle.form.specs.Text.{Bytes, space, lf, match_word}
use Rattle.form.specs.Scan.{at, is_word_byte, word_end, spaces_end}
use Rattle.parsing.proofs.TokenScan.{inside_of}
use Rattle.fault.specs.Places.{On, Ends, spot_at, Word, word_at, Header, PatternLine}
use Rattle.fault.specs.Fault.{WordFault, WordsMissing, Fault, fault_rank, Least}
use Rattle.fault.specs.Fault.{space_first, space_twice, space_last, word, missing_word, missing_sym, missing_space, token, missing_token}
use Rattle.fault.specs.Fault.{missing_lf, after}
use Rattle.least.proofs.Spots.{spot_step, word_end_law, word_spot, word_same}

-- no fault stands before p
abbrev pub Clean : Bytes → ℕ → Type 0
Clean s p = (q n : ℕ) → q < p → Fault s q n → ⊥

-- a byte of a word is no space and ends no line
no_space_law : (b : ℕ) → is_word_byte b ≡ true → b ≡ space → ⊥
no_space_law b h e = false≢true (sym (ap is_word_byte e) ∙ h)

no_lf_law : (b : ℕ) → is_word_byte b ≡ true → b ≡ lf → ⊥
no_lf_law b h e = false≢true (sym (ap is_word_byte e) ∙ h)

module _ (s : Bytes) where
  no_end : (q : ℕ) → is_word_byte (at s q) ≡ true → q < length s → Ends s q → ⊥
  no_end q h l (inl e) = no_lf_law (at s q) h e
  no_end q h l (inr e) = omega arith

  -- a space and an LF stand inside the text
  space_inside : (q : ℕ) → at s q ≡ space → q < length s
  space_inside q e = omega (arith, inside_of s q space e refl)

  lf_inside : (q : ℕ) → at s q ≡ lf → q < length s
  lf_inside q e = omega (arith, inside_of s q lf e refl)

  end_inside : (q : ℕ) → Ends s q → q ≤ length s
  end_inside q (inl e) = omega (arith, lf_inside q e)
  end_inside q (inr e) = omega arith

  -- behind a space no word goes on; behind an LF stands the next line
  behind_space : (p : ℕ) → at s p ≡ space → (spot_at s (p + 1)).inside ≡ false
  behind_space p e = rw (spot_step s p (space_inside p e), e)

  behind_lf : (p : ℕ) → at s p ≡ lf → (spot_at s (p + 1)).line ≡ suc (spot_at s p).line
  behind_lf p e = rw (spot_step s p (lf_inside p e), e)

  pub least_of : (p n : ℕ) → Clean s p → Fault s p n → ((m : ℕ) → Fault s p m → fault_rank n ≤ fault_rank m) → Least s p n
  least_of p n c f l = record {
    fault = f;
    least = λ q m g. dite (dec_lt p q) inl λ a. dite (ℕ_discrete p q) (λ e. inr (e, l m (rw e g))) λ b. absurd (c q m (omega arith) g);
  }

  -- no number comes before 2
  pub two_least : (p : ℕ) → Clean s p → Fault s p 2 → Least s p 2
  two_least p c f = least_of p 2 c f λ m g. omega arith

  -- the word `match` has five bytes
  pub match_end : {k i p : ℕ} → Word s k i p → word_at s p ≡ match_word → word_end s p ≡ p + 5
  match_end {p = p} w e =
      let h = (word_end_law s w).1 in
      let b = (word_end_law s w).0 in
      let l = length-take-le (word_end s p - p) (drop p s) (omega (arith, length-drop p s)) in
      omega (arith, ap length e)

  pub fault_inside : (q n : ℕ) → Fault s q n → q ≤ length s
  fault_inside q n (space_first _ _ e _) = omega (arith, space_inside q e)
  fault_inside q n (space_twice p _ _ _ e i) = omega (arith, space_inside (p + 1) e)
  fault_inside q n (space_last _ _ e _) = omega (arith, space_inside q e)
  fault_inside q n (word w _ _) = let h = w.present in omega arith
  fault_inside q n (missing_word _ _ e _) = end_inside q e
  fault_inside q n (missing_sym w _) = let h = w.present in omega arith
  fault_inside q n (missing_space l _ e) = omega (arith, match_end l.word l.match, (word_end_law s l.word).1)
  fault_inside q n (token _ _ t _) = let h = t.present in omega arith
  fault_inside q n (missing_token _ _ _ e _ _) = end_inside q e
  fault_inside q n (missing_lf _ _ e) = omega arith
  fault_inside q n (after e _ _ _ h i) = omega arith

  -- a fault on a line before the pattern's, by what stands there
  data Site (k q n : ℕ) : Type 0 where
    at_space : at s q ≡ space → ((spot_at s q).words ≡ 0) ⊎ (((spot_at s q).inside ≡ false) ⊎ Ends s (spaces_end s q)) → Site k q n
    at_word : {i : ℕ} → Word s k i q → WordFault s k i q n → Site k q n
    at_end : Ends s q → WordsMissing k (spot_at s q).words → Site k q n
    at_last : q ≡ length s → Site k q n

  -- the pattern's line stands behind such a line
  pub behind_header : {k j p : ℕ} → Header s k → PatternLine s j p → j ≤ k → ⊥
  behind_header {j = j} {p = p} h l b = h j p l.behind (omega arith) l.word l.match

  word_on : {k i q : ℕ} → Word s k i q → On s k q
  word_on w = ap (λ x. x.line) w.spot

  -- behind the word `match`, the spot is inside a word of its line
  match_spot : {k p : ℕ} → PatternLine s k p → (q : ℕ) → q ≡ p + 5 → ((spot_at s q).line ≡ k) × ((spot_at s q).inside ≡ true)
  match_spot l q e =
      let i = word_spot s l.word q (omega arith) (omega (arith, match_end l.word l.match)) in
      (ap (λ x. x.line) i, ap (λ x. x.inside) i)

  site_of : (k q n : ℕ) → On s k q → Header s k → Fault s q n → Site k q n
  site_of k q n o h (space_first _ _ e w) = at_space e (inl w)
  site_of k q n o h (space_twice p _ _ a b e) = at_space (rw e b) (inr (inl (rw e (behind_space p a))))
  site_of k q n o h (space_last _ _ e l) = at_space e (inr (inr l))
  site_of k q n o h (word w _ f) = let e = sym (word_on w) ∙ o in at_word (rw e at w) (rw e at f)
  site_of k q n o h (missing_word a _ e w) = at_end e (rw (sym a ∙ o) at w)
  site_of k q n o h (missing_sym w e) = absurd (h 1 q (omega arith) (omega (arith, word_on w)) w e)
  site_of k q n o h (missing_space l _ e) = absurd (behind_header h l (omega (arith, (match_spot l q e).0)))
  site_of k q n o h (token l _ t _) = absurd (behind_header h l (let a = t.on in omega arith))
  site_of k q n o h (missing_token l _ a _ _ _) = absurd (behind_header h l (omega arith))
  site_of k q n o h (missing_lf _ _ e) = at_last e
  site_of k q n o h (after e l a i _ b) =
      absurd (behind_header h l (let c : (spot_at s q).line ≡ suc (spot_at s e).line = rw b (behind_lf e i) in omega arith))

  -- on a line before the pattern's
  module _ (k q n : ℕ) (on : On s k q) (header : Header s k) (f : Fault s q n) where
    pub inside_fault : (spot_at s q).inside ≡ true → is_word_byte (at s q) ≡ true → q < length s → ⊥
    inside_fault i b l = go (site_of k q n on header f)
      where
        go : Site k q n → ⊥
        go (at_space e _) = no_space_law (at s q) b e
        go (at_word w _) = true≢false (sym i ∙ ap (λ x. x.inside) w.spot)
        go (at_end e _) = no_end q b l e
        go (at_last e) = no_end q b l (inr e)

    pub space_fault : at s q ≡ space
        → ((spot_at s q).words ≡ 0) ⊎ (((spot_at s q).inside ≡ false) ⊎ Ends s (spaces_end s q))
    space_fault e = go (site_of k q n on header f)
      where
        go : Site k q n → ((spot_at s q).words ≡ 0) ⊎ (((spot_at s q).inside ≡ false) ⊎ Ends s (spaces_end s q))
        go (at_space _ h) = h
        go (at_word w _) = absurd (no_space_law (at s q) w.byte e)
        go (at_end (inl i) _) = absurd (omega arith)
        go (at_end (inr i) _) = absurd (omega (arith, space_inside q e))
        go (at_last i) = absurd (omega (arith, space_inside q e))

    pub word_fault : (i : ℕ) → Word s k i q → WordFault s k i q n
    word_fault i w = go (site_of k q n on header f)
      where
        go : Site k q n → WordFault s k i q n
        go (at_space e _) = absurd (no_space_law (at s q) w.byte e)
        go (at_word v g) = let e = sym (ap (λ x. x.words) v.spot) ∙ ap (λ x. x.words) w.spot in rw e at g
        go (at_end e _) = absurd (no_end q w.byte w.present e)
        go (at_last e) = absurd (no_end q w.byte w.present (inr e))

    pub lf_fault : at s q ≡ lf → WordsMissing k (spot_at s q).words
    lf_fault e = go (site_of k q n on header f)
      where
        go : Site k q n → WordsMissing k (spot_at s q).words
        go (at_space i _) = absurd (omega arith)
        go (at_word w _) = absurd (no_lf_law (at s q) w.byte e)
        go (at_end _ h) = h
        go (at_last i) = absurd (omega (arith, lf_inside q e))

  -- at the word `match` of the pattern's line
  pub match_fault : (k q n : ℕ) → PatternLine s k q → Fault s q n → k ≡ 1
  match_fault k q n l (space_first _ _ e _) = absurd (no_space_law (at s q) l.word.byte e)
  match_fault k q n l (space_twice p _ _ _ e i) = absurd (no_space_law (at s q) l.word.byte (rw i e))
  match_fault k q n l (space_last _ _ e _) = absurd (no_space_law (at s q) l.word.byte e)
  match_fault k q n l (word w h _) = absurd (behind_header h l (omega (arith, word_on w, word_on l.word)))
  match_fault k q n l (missing_word _ _ e _) = absurd (no_end q l.word.byte l.word.present e)
  match_fault k q n l (missing_sym w _) = sym (word_on l.word) ∙ word_on w
  match_fault k q n l (missing_space m _ e) = absurd (true≢false (sym (match_spot m q e).1 ∙ ap (λ x. x.inside) l.word.spot))
  match_fault k q n l (token m _ t _) =
      let e = sym t.on ∙ word_on l.word in
      let b = t.behind in
      absurd (omega (arith, word_same s (rw e at m.word) l.word))
  match_fault k q n l (missing_token _ _ _ e _ _) = absurd (no_end q l.word.byte l.word.present e)
  match_fault k q n l (missing_lf _ _ e) = absurd (no_end q l.word.byte l.word.present (inr e))
  match_fault k q n l (after {k = j} {p = p} e m a i _ b) =
      let c : (spot_at s q).line ≡ suc (spot_at s e).line = rw b (behind_lf e i) in
      absurd (l.first j p m.behind (omega (arith, word_on l.word)) m.word m.match)
