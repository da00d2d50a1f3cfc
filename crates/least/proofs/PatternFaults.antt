-- Where the course stops in the pattern or behind it, the least fault stands; and a whole pattern at the text's end leaves no fault.
use mathlib.Core.Path.{◌≡◌, refl, sym, ap, subst, ◌∙◌}
use mathlib.Core.Bool.{Bool, true, false, cond, true≢false}
use mathlib.Core.List.{List, [], ◌∷◌, ◌++◌}
use mathlib.Core.Logic.{dite}
use Prim.Native.Nat.{ℕ, ◌+◌, ◌<◌}
use native.Mathlib.Omega.{arith}
use native.Mathlib.Decide.{dec_lt, ℕ_discrete}
use borrow.Author.Tests.{eqb-true, eqb-false, ne_eqb}
use lib.Dec.{eqb}
use lib.ListN.{length}
use Rattle.form.specs.Text.{Bytes, is_bytes, space, lf, is_lower, Span}
use Rattle.form.specs.Tokens.{name, sign}
use Rattle.form.specs.Phrase.{opening, closing}
use Rattle.form.specs.Scan.{at, past_end, is_space, spaces_end}
use Rattle.parsing.proofs.Scans.{at_end_law}
use Rattle.parsing.proofs.Scans as Scans
use Rattle.parsing.proofs.TokenScan.{inside_of, here_space}
use Rattle.fault.specs.Places.{TokenAt, before, name_at, token_at, Begins}
use Rattle.fault.specs.Fault.{Fault, Least, NoFault}
use Rattle.least.proofs.Stands.{stuck, on, less_open, signed, stand, stands, begins_stands, pattern_stands}
use Rattle.least.proofs.Sites.{Clean, two_least, fault_inside}
use Rattle.least.proofs.HeaderPrefix.{Ready}
use Rattle.least.proofs.Gaps.{past_end_law}
use Rattle.least.proofs.PatternPrefix
use Rattle.least.proofs.PatternPrefix.{Blocked, PatternStop, Stopped, Finished}
use Rattle.least.proofs.PatternSites.{Here, no_space, token, no_token, no_lf, next_line, line_fault, end_fault}
use Rattle.least.proofs.LeastFaults.{missing_token_least, long_token_least, thirty_second_least, seventeenth_open_least}
use Rattle.least.proofs.LeastFaults.{undeclared_name_least, misplaced_least}
use Rattle.least.proofs.PatternFacts.{PatternFacts, pattern_facts, facts_spaces, stands_more, name_length}

module _ (s : Bytes) (bytes : is_bytes s ≡ true) (symbols : List Span) (e : ℕ) (ready : Ready s symbols e) where
  -- the space behind `match` is missing
  pub space_least : (at s e ≡ space → ⊥) → Least s e 2
  space_least h =
      two_least s e ready.clean (Fault.missing_space ready.line (λ z. h (ap (at s) ready.end ∙ z)) ready.end)

  module _ (spaced : at s e ≡ space) where
    space_stands : at s (ready.p + 5) ≡ space
    space_stands = ap (at s) (sym ready.end) ∙ spaced

    -- where the prefix up to q is read, with o parentheses open and n names read, and no space stands there
    module _ (q o : ℕ) (d : Bool) (n : ℕ) (x : PatternFacts s symbols e ready q o d n) (byte : is_space (at s q) ≡ false) where
      begins_here : Begins (before s ready.p q)
      begins_here = (begins_stands (before s ready.p q)).1 (o, d, x.stand)

      -- a token begins here; a name
      token_here : q < length s → (at s q ≡ lf → ⊥) → TokenAt s ready.k ready.p q
      token_here i c = record { behind = x.beyond; present = i; on = x.on; in_line = c; byte = byte; begins = x.apart }

      name_here : is_lower (at s q) ≡ true → TokenAt s ready.k ready.p q
      name_here l = token_here (Scans.inside_of is_lower refl s q l) (λ z. true≢false (sym l ∙ ap is_lower z))

      -- past the end the LF is missing
      end_least : at s q ≡ past_end → Least s q 2
      end_least h =
          two_least s q x.clean (Fault.missing_lf x.on ready.line.first (omega (arith, past_end_law s bytes q h, x.inside)))

      module _ (low : is_lower (at s q) ≡ false) (shut : at s q ≡ opening → ⊥) (blocked : Blocked s symbols (e + 1) o d (at s q)) where
        -- at the LF a token is missing
        lf_least : at s q ≡ lf → Least s q 6
        lf_least h =
            missing_token_least s ready.line ready.later space_stands x.clean x.beyond x.on h begins_here
            λ y. no_pattern ((pattern_stands (before s ready.p q)).0 y)
          where
            no_pattern : stands (before s ready.p q) ≡ on 0 true → ⊥
            no_pattern y = let z = x.stand in let u : d ≡ true = cc in let v : o ≡ 0 = cc in (blocked u).3 h v

        -- another sign cannot stand here
        sign_stuck : stand (on o d) (sign (at s q)) ≡ stuck
        sign_stuck = rw (ne_eqb (at s q) opening shut) (by d refl)
          where
            less : (t : Bool) → eqb (at s q) closing ≡ t → (at s q ≡ closing → o ≡ 0) → cond t (less_open o) stuck ≡ stuck
            less true h f = ap less_open (f (eqb-true (at s q) closing h))
            less false h f = refl

            by : (t : Bool) → d ≡ t → cond t (signed o (at s q)) stuck ≡ stuck
            by true h = let b = blocked h in rw (b.0, b.1) (less (eqb (at s q) closing) refl b.2)
            by false h = refl

        sign_least : (at s q ≡ past_end → ⊥) → (at s q ≡ lf → ⊥) → Least s q 6
        sign_least h c =
            let t = token_here (dite (dec_lt q (length s)) (λ l. l) λ l. absurd (h (at_end_law s q (omega arith)))) c in
            misplaced_least s ready.line ready.later space_stands x.clean t low (λ z. absurd (shut z)) begins_here not_begins
          where
            sign_here : token_at s q ≡ sign (at s q)
            sign_here = ap (λ t. cond t (name (name_at s q)) (sign (at s q))) low

            not_begins : Begins (before s ready.p q ++ (token_at s q ∷ [])) → ⊥
            not_begins y =
                let ts = before s ready.p q in
                let (o', d', f) = (begins_stands (ts ++ (sign (at s q) ∷ []))).0 (rw sign_here at y) in
                let g : stands (ts ++ (sign (at s q) ∷ [])) ≡ stuck
                = stands_more ts (sign (at s q)) ∙ ap (λ z. stand z (sign (at s q))) x.stand ∙ sign_stuck in
                let z : ◌≡◌ {A = ℕ} 0 1 = cc in
                omega arith

        unfit_least : (t : Bool) → eqb (at s q) past_end ≡ t → Least s q (cond t 2 6)
        unfit_least true h = end_least (eqb-true (at s q) past_end h)
        unfit_least false h = dite (ℕ_discrete (at s q) lf) lf_least λ c. sign_least (eqb-false (at s q) past_end h) c

    pattern_stop_least : (p o : ℕ) (d : Bool) (n m : ℕ) → PatternFacts s symbols e ready (spaces_end s p) o d n → PatternStop s symbols (e + 1) p o d n m
        → Least s (spaces_end s p) m
    pattern_stop_least p o d n m x (PatternPrefix.long l h) =
        let t = name_here _ o d n x (here_space s p) l in
        long_token_least s ready.line ready.later space_stands x.clean t l (omega (arith, name_length s (spaces_end s p) x.inside))
    pattern_stop_least p o d n m x (PatternPrefix.many l h) =
        let t = name_here _ o d n x (here_space s p) l in
        thirty_second_least s ready.line ready.later space_stands x.clean t l (omega (arith, x.names))
    pattern_stop_least p o d n m x (PatternPrefix.unknown l h i g) =
        let q = spaces_end s p in
        let t = name_here _ o d n x (here_space s p) l in
        undeclared_name_least s ready.line ready.later space_stands x.clean t l (omega (arith, name_length s q x.inside)) (omega (arith, x.names))
        (λ z. omega (arith, (ready.known (name_at s q)).1 z)) (ready.variable (name_at s q))
    pattern_stop_least p o d n m x (PatternPrefix.deep b h) =
        let q = spaces_end s p in
        let t = token_here _ o d n x (here_space s p) (omega (arith, inside_of s q opening b refl)) (λ z. omega arith) in
        seventeenth_open_least s ready.line ready.later space_stands x.clean t b (omega (arith, x.opened))
    pattern_stop_least p o d n m x (PatternPrefix.unfit l f b h) =
        let q = spaces_end s p in
        rw h (unfit_least q o d n x (here_space s p) l f b (eqb (at s q) past_end) refl)

    pub stopped_least : (q n : ℕ) → Stopped s symbols (e + 1) q n → Least s q n
    stopped_least q n x =
        let y = facts_spaces s symbols e ready x.p x.o x.e x.k (pattern_facts s symbols e ready spaced x.prefix) in
        subst (λ r. Least s r n) (sym x.place) (pattern_stop_least x.p x.o x.e x.k n y x.stop)

    -- the pattern is whole, and its LF stands at q
    module _ (q : ℕ) (x : Finished s symbols (e + 1) q) where
      whole : PatternFacts s symbols e ready q 0 true x.k
      whole =
          subst (λ r. PatternFacts s symbols e ready r 0 true x.k) (sym x.place)
          (facts_spaces s symbols e ready x.p 0 true x.k (pattern_facts s symbols e ready spaced x.prefix))

      inside : q < length s
      inside = omega (arith, inside_of s q lf x.lf refl)

      clean : Clean s (q + 1)
      clean r m h f = dite (dec_lt r q) (λ z. whole.clean r m z f) λ z. last r m (omega arith) f
        where
          right : (m : ℕ) → Here s ready.k ready.p ready.line q m → ⊥
          right m (no_space f y) = omega (arith, whole.beyond)
          right m (token t f) = t.in_line x.lf
          right m (no_token y f) = f ((pattern_stands (before s ready.p q)).1 whole.stand)
          right m (no_lf y) = omega (arith, inside)

          last : (r m : ℕ) → r ≡ q → Fault s r m → ⊥
          last r m h f =
              right m (line_fault s ready.k ready.p ready.line ready.later q m (omega (arith, whole.beyond)) whole.on
              (rw h at f))

    pub after_least : (q : ℕ) → Finished s symbols (e + 1) q → (q + 1 ≡ length s → ⊥) → Least s (q + 1) 2
    after_least q x h =
        let l : q + 1 < length s = omega (arith, inside q x) in
        two_least s (q + 1) (clean q x) (Fault.after q ready.line (whole q x).on x.lf l refl)

    pub finished_none : (q : ℕ) → Finished s symbols (e + 1) q → q + 1 ≡ length s → NoFault s
    finished_none q x h r n f = dite (dec_lt r (q + 1)) (λ l. clean q x r n l f) λ l. last r n (omega (arith, fault_inside s r n f)) f
      where
        last : (r n : ℕ) → r ≡ q + 1 → Fault s r n → ⊥
        last r n i f =
            end_fault s ready.k ready.p ready.line (q + 1) n (omega (arith, (whole q x).beyond)) h
            (next_line s ready.k q (inside q x) (whole q x).on x.lf) (rw i at f)
