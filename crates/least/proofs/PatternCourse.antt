-- The reader's course over the pattern reads prefixes (PatternPrefix), and stops where PatternStop says; behind the pattern, the LF and nothing after it.
-- By induction on the calls, as in the proofs of crate form (Fuel): what each level hands back, and which byte cannot stand behind it.
use mathlib.Core.Path.{◌≡◌, refl, sym, ap, subst, ◌∙◌}
use mathlib.Core.Bool.{Bool, true, false, cond, ◌||◌, true≢false, false≢true}
use mathlib.Core.Logic.{◌⊎◌, inl, inr, ⊎_elim}
use mathlib.Core.List.{List, [], ◌∷◌}
use Prim.Native.Nat.{ℕ, zero, suc, ◌+◌, ◌-◌, ◌≤◌, ◌<◌}
use native.Mathlib.Nat.{add-zero, le_refl}
use native.Mathlib.Numerals.{add-one}
use native.Mathlib.Omega.{arith}
use borrow.Author.Tests.{eqb-true, eqb-false, leb-true, leb-false, ltb-true, ltb-false, ne_eqb}
use lib.Dec.{eqb, leb, ltb}
use lib.ListN.{length, get_or, drop, length-drop}
use lib.Seq.{get_or-drop}
use Rattle.laws.proofs.Lists.{or_true_split, or_false_split, either}
use Rattle.pattern.specs.Regex.{Regex, cat, alt, star, plus, opt}
use Rattle.pattern.specs.Positions.{size}
use Rattle.form.specs.Text.{Bytes, space, lf, is_lower, Span}
use Rattle.form.specs.Limits.{text_limit}
use Rattle.form.specs.Phrase.{opening, closing, bar, asterisk, plus_sign, question}
use Rattle.form.specs.Scan.{fail, at, past_end, part, spaces_end, name_end}
use Rattle.form.specs.Lines.{index_of}
use Rattle.form.specs.Parse.{Parsed, failed, postfix_on, item_of, name_atom, unfit, closed, begins_item, joined}
use Rattle.form.specs.Parse.{alternation_from, sequence_from, atom_from, enough, pattern_from}
use Rattle.form.specs.Reading.{last_line}
use Rattle.parsing.proofs.Scans.{spaces_end_ge, at_end_law}
use Rattle.parsing.proofs.TokenScan.{by_equal, inside_of}
use Rattle.parsing.proofs.Course.{drop_next}
use Rattle.parsing.proofs.Complete.{is_postfix}
use Rattle.parsing.proofs.Fuel.{item_ends, sequence_ends, atom_ends}
use Rattle.least.proofs.PatternPrefix.{PatternPrefix, Blocked, PatternStop, Stopped, Finished}

-- the bytes that each level goes on with: none; the signs behind an atom; what begins an item; the bar
abbrev goes_atom : ℕ → Bool
goes_atom b = false

abbrev goes_sequence : ℕ → Bool
goes_sequence b = is_postfix b || begins_item b

abbrev goes_alternation : ℕ → Bool
goes_alternation b = goes_sequence b || eqb b bar

-- a byte that an alternation does not go on with
not_on : (b : ℕ) → goes_alternation b ≡ false → (is_lower b ≡ false) × (b ≡ opening → ⊥) × (eqb b bar ≡ false) × (is_postfix b ≡ false)
not_on b h =
    let x = (or_false_split (goes_sequence b) (eqb b bar) h).0 in
    let y = (or_false_split (is_postfix b) (begins_item b) x).1 in (
      (or_false_split (is_lower b) (eqb b opening) y).0,
      eqb-false b opening (or_false_split (is_lower b) (eqb b opening) y).1,
      (or_false_split (goes_sequence b) (eqb b bar) h).1,
      (or_false_split (is_postfix b) (begins_item b) x).0,
    )

-- the byte at a place and the spaces from there on, by the bytes left
module _ (s : Bytes) (p b : ℕ) (l : Bytes) (e : drop p s ≡ b ∷ l) where
  byte_at : at s p ≡ b
  byte_at = let k : get_or (drop p s) 0 past_end ≡ at s p = rw (get_or-drop, add-zero) in sym k ∙ ap (λ l. get_or l 0 past_end) e

  space_on : b ≡ space → spaces_end s p ≡ spaces_end s (p + 1)
  unfolding spaces_end
  space_on h = rw (e, (drop_next s p b l e).1, h) (omega arith)

  space_none : (b ≡ space → ⊥) → spaces_end s p ≡ p
  unfolding spaces_end
  space_none h = rw (e, ne_eqb b space h) (omega arith)

end_at : (s : Bytes) (p : ℕ) → drop p s ≡ [] → (spaces_end s p ≡ p) × (at s p ≡ past_end)
unfolding spaces_end
end_at s p e = (rw e (omega arith), at_end_law s p (omega (arith, length-drop p s, ap length e)))

module _ (s : Bytes) (symbols : List Span) (start : ℕ) where
  -- what a level hands back: without a fault the prefix up to the place of a, and the byte behind it is none that the level goes on
  -- with; with a fault the course stops there
  record LevelProgress (f : ℕ → Bool) (o k : ℕ) (a : Parsed) : Type 0 where
    prefix : a.step.fault ≡ 0 → PatternPrefix s symbols start a.step.place o true (k + size a.tree)
    next : a.step.fault ≡ 0 → f (at s (spaces_end s a.step.place)) ≡ false
    stopped : (a.step.fault ≡ 0 → ⊥) → Stopped s symbols start a.step.place a.step.fault

  -- without a fault, and with one
  advanced : {f : ℕ → Bool} {o k : ℕ} {a : Parsed} → a.step.fault ≡ 0 → PatternPrefix s symbols start a.step.place o true (k + size a.tree)
      → f (at s (spaces_end s a.step.place)) ≡ false → LevelProgress f o k a
  advanced z w n = record { prefix = λ _. w; next = λ _. n; stopped = λ h. absurd (h z) }

  stopped_at : {f : ℕ → Bool} {o k : ℕ} (n q : ℕ) → (n ≡ 0 → ⊥) → Stopped s symbols start q n → LevelProgress f o k (failed (fail n q))
  stopped_at n q h x = record { prefix = λ z. absurd (h z); next = λ z. absurd (h z); stopped = λ _. x }

  -- a step that goes on where a found no fault
  passing : (f : ℕ → Bool) (o k : ℕ) {g : ℕ → Bool} {o' k' : ℕ} (a : Parsed) {b : Parsed} → LevelProgress g o' k' a
      → (a.step.fault ≡ 0 → LevelProgress f o k b) → LevelProgress f o k (cond (eqb a.step.fault 0) b a)
  passing f o k a x h = by_equal (LevelProgress f o k) a.step.fault 0 h
      (λ e. record { prefix = λ z. absurd (e z); next = λ z. absurd (e z); stopped = x.stopped })

  -- a second part behind the first
  joined_progress : (f : ℕ → Bool) (o k : ℕ) (g : Regex → Regex → Regex) (a b : Parsed)
      → size (g a.tree b.tree) ≡ size a.tree + size b.tree → LevelProgress f o (k + size a.tree) b → LevelProgress f o k (joined g a b)
  joined_progress f o k g a b z x =
      let m : k + size a.tree + size b.tree ≡ k + size (g a.tree b.tree) = omega arith in
      passing f o k b x (λ e. advanced e (subst (λ n. PatternPrefix s symbols start b.step.place o true n) m (x.prefix e)) (x.next e))

  -- a byte that cannot stand behind the prefix
  unfit_some : (q : ℕ) → (unfit s q).fault ≡ 0 → ⊥
  unfit_some q = either (λ (n : ℕ). n ≡ 0 → ⊥) (eqb (at s q) past_end) (λ _ e. omega arith) (λ _ e. omega arith)

  unfit_stopped : {p o k : ℕ} {e : Bool} → let q = spaces_end s p in
      PatternPrefix s symbols start p o e k → is_lower (at s q) ≡ false → (at s q ≡ opening → ⊥) → Blocked s symbols start o e (at s q)
      → Stopped s symbols start q (unfit s q).fault
  unfit_stopped {p} {o} {k} {e} w l n b = record { p = p; o = o; e = e; k = k; prefix = w; stop = PatternStop.unfit l n b refl; place = refl }

  -- `*`, `+`, `?` behind an item: between `done` and `here` there are spaces only
  postfix_progress : (o k : ℕ) (l : Bytes) (here done : ℕ) (r : Regex) → drop here s ≡ l → spaces_end s done ≡ spaces_end s here
      → PatternPrefix s symbols start done o true (k + size r) → LevelProgress is_postfix o k (postfix_on l here done r)
  postfix_progress o k [] here done r e g w = let x = end_at s here e in advanced refl w (rw (g, x.0, x.1))
  postfix_progress o k (b ∷ l) here done r e g w = steps (postfix_progress o k l (here + 1))
    where
      Onward : Type 0
      Onward = (done : ℕ) (r : Regex) → drop (here + 1) s ≡ l → spaces_end s done ≡ spaces_end s (here + 1)
          → PatternPrefix s symbols start done o true (k + size r) → LevelProgress is_postfix o k (postfix_on l (here + 1) done r)

      n : drop (here + 1) s ≡ l
      n = (drop_next s here b l e).1

      -- no space: the sign is the byte behind `done`
      there : (b ≡ space → ⊥) → spaces_end s done ≡ here
      there h = g ∙ space_none s here b l e h

      sign : (h : b ≡ space → ⊥) → at s (spaces_end s done) ≡ b
      sign h = rw (there h) (byte_at s here b l e)

      signed : (b ≡ space → ⊥) → is_postfix b ≡ true → PatternPrefix s symbols start (here + 1) o true (k + size r)
      signed h p = rw (← (there h)) (PatternPrefix.postfix done o (k + size r) w (rw (sign h) p))

      steps : Onward → LevelProgress is_postfix o k (postfix_on (b ∷ l) here done r)
      steps on = by_equal (LevelProgress is_postfix o k) b space (λ q. on done r n (g ∙ space_on s here b l e q) w)
          (λ h. either (LevelProgress is_postfix o k) (eqb b asterisk) (λ q. on (here + 1) (star r) n refl (signed h (rw q)))
          (λ x. either (LevelProgress is_postfix o k) (eqb b plus_sign) (λ q. on (here + 1) (plus r) n refl (signed h (rw (x, q))))
          (λ y. either (LevelProgress is_postfix o k) (eqb b question) (λ q. on (here + 1) (opt r) n refl (signed h (rw (x, y, q))))
          (λ z. advanced refl w (rw (sign h, x, y, z))))))

  item_progress : (o k : ℕ) (a : Parsed) → LevelProgress goes_atom o k a → LevelProgress is_postfix o k (item_of s a)
  unfolding item_of
  item_progress o k a x =
      let p = a.step.place in
      passing is_postfix o k a x (λ z. postfix_progress o k (drop p s) p p a.tree refl refl (x.prefix z))

  -- a name behind p
  name_progress : (o k p : ℕ) (e : Bool) → PatternPrefix s symbols start p o e k → is_lower (at s (spaces_end s p)) ≡ true
      → LevelProgress goes_atom o k (name_atom s symbols k (spaces_end s p))
  unfolding name_atom
  name_progress o k p e w h =
      let q = spaces_end s p in
      let m = name_end s q in
      let i = index_of s symbols (part s q m) in
      let stops : (n : ℕ) → PatternStop s symbols start p o e k n → Stopped s symbols start q n
      = λ n x. record { p = p; o = o; e = e; k = k; prefix = w; stop = x; place = refl } in
      either (LevelProgress goes_atom o k) (ltb 12 (m - q) || leb 31 k)
      (λ t. stopped_at 3 q (λ z. omega arith) (stops 3
      (⊎_elim (λ l. PatternStop.long h (ltb-true 12 (m - q) l)) (λ l. PatternStop.many h (leb-true 31 k l))
      (or_true_split (ltb 12 (m - q)) (leb 31 k) t))))
      λ t.
      let few : k < 31 = leb-false 31 k (or_false_split (ltb 12 (m - q)) (leb 31 k) t).1 in
      let brief : m - q ≤ 12 = ltb-false 12 (m - q) (or_false_split (ltb 12 (m - q)) (leb 31 k) t).0 in
      either (LevelProgress goes_atom o k) (ltb i (length symbols))
      (λ u. advanced refl (rw add-one (PatternPrefix.name p o e k w h brief few (ltb-true i (length symbols) u))) refl)
      λ u. stopped_at 5 q (λ z. omega arith) (stops 5 (PatternStop.unknown h brief few (ltb-false i (length symbols) u)))

  -- the closing parenthesis behind an alternation
  closed_progress : (o k : ℕ) (a : Parsed) → LevelProgress goes_alternation (suc o) k a → LevelProgress goes_atom o k (closed s a)
  unfolding closed
  closed_progress o k a x =
      let p = a.step.place in
      let q = spaces_end s p in
      let b = at s q in
      passing goes_atom o k a x (λ z. by_equal (LevelProgress goes_atom o k) b closing
      (λ c. advanced refl (PatternPrefix.closed p o (k + size a.tree) (x.prefix z) c) refl)
      λ c.
      let y = not_on b (x.next z) in
      stopped_at _ q (unfit_some q)
      (unfit_stopped (x.prefix z) y.0 y.1 (λ _. (y.2, y.3, (λ h. absurd (c h)), λ _ h. omega arith))))

  -- behind the whole pattern: its LF, and nothing after it
  record Last (a : Parsed) : Type 0 where
    over : a.step.fault ≡ 0 → (q : ℕ) × Finished s symbols start q × (q + 1 ≡ length s)
    stop : (a.step.fault ≡ 0 → ⊥) → Stopped s symbols start a.step.place a.step.fault
        ⊎ ((q : ℕ) × Finished s symbols start q × (q + 1 ≡ length s → ⊥) × (a.step.fault ≡ 2) × (a.step.place ≡ q + 1))

  last_progress : (a : Parsed) → LevelProgress goes_alternation 0 0 a → Last (last_line s a)
  unfolding last_line
  last_progress a x =
      let p = a.step.place in
      let q = spaces_end s p in
      let b = at s q in
      by_equal Last a.step.fault 0
      (λ z. by_equal Last b lf
      (λ c. let f : Finished s symbols start q = record { p = p; k = 0 + size a.tree; prefix = x.prefix z; lf = c; place = refl } in
      by_equal Last (q + 1) (length s) (λ l. record { over = λ _. (q, f, l); stop = λ h. absurd (h refl) })
      λ l. record { over = λ e. absurd (omega arith); stop = λ _. inr (q, f, l, refl, refl) })
      λ c. let y = not_on b (x.next z) in
      record {
        over = λ e. absurd (unfit_some q e);
        stop = λ _. inl (unfit_stopped (x.prefix z) y.0 y.1 (λ _. (y.2, y.3, (λ _. refl), λ h. absurd (c h))));
      })
      λ e. record { over = λ z. absurd (e z); stop = λ _. inl (x.stopped e) }

  -- the levels, with calls enough and d parentheses left to open of 16; where an item has ended before p (e is true), one begins behind p
  module _ (short : length s ≤ text_limit) where
    mutual
      unfolding alternation_from sequence_from atom_from

      alternation_progress : (n d k p o : ℕ) → p ≤ length s → enough d p + 3 ≤ n → o + d ≡ 16 → PatternPrefix s symbols start p o false k
          → LevelProgress goes_alternation o k (alternation_from s symbols n d k p)
      alternation_progress zero d k p o h f m w = absurd (omega arith)
      alternation_progress (suc n) d k p o h f m w =
          let a = sequence_from s symbols n d k p in
          let r = a.step.place in
          let q = spaces_end s r in
          let e = sequence_ends s short symbols n d k p h in
          let x = sequence_progress n d k p o false h (omega arith) m w (λ t. absurd (false≢true t)) in
          passing goes_alternation o k a x (λ z. either (LevelProgress goes_alternation o k) (eqb (at s q) bar)
          (λ t. let c = eqb-true (at s q) bar t in
          let i = inside_of s q bar c refl in
          let l = e.beyond z in
          let g = spaces_end_ge s r in
          joined_progress goes_alternation o k alt a _ refl
          (alternation_progress n d (k + size a.tree) (q + 1) o i (omega arith) m (PatternPrefix.either r o (k + size a.tree) (x.prefix z) c)))
          λ t. advanced z (x.prefix z) (rw (x.next z, t)))

      sequence_progress : (n d k p o : ℕ) (e : Bool) → p ≤ length s → enough d p + 2 ≤ n → o + d ≡ 16 → PatternPrefix s symbols start p o e k
          → (e ≡ true → begins_item (at s (spaces_end s p)) ≡ true) → LevelProgress goes_sequence o k (sequence_from s symbols n d k p)
      sequence_progress zero d k p o e h f m w b = absurd (omega arith)
      sequence_progress (suc n) d k p o e h f m w b =
          let c = atom_from s symbols n d k p in
          let a = item_of s c in
          let r = a.step.place in
          let v = item_ends s short symbols k p c (atom_ends s short symbols n d k p h) in
          let x = item_progress o k c (atom_progress n d k p o e h (omega arith) m w b) in
          passing goes_sequence o k a x
          (λ z. either (LevelProgress goes_sequence o k) (begins_item (at s (spaces_end s r)))
          (λ t. let l = v.beyond z in
          let i = v.inside in
          joined_progress goes_sequence o k cat a _ refl
          (sequence_progress n d (k + size a.tree) r o true i (omega arith) m (x.prefix z) (λ _. t)))
          λ t. advanced z (x.prefix z) (rw (x.next z) t))

      atom_progress : (n d k p o : ℕ) (e : Bool) → p ≤ length s → enough d p + 1 ≤ n → o + d ≡ 16 → PatternPrefix s symbols start p o e k
          → (e ≡ true → begins_item (at s (spaces_end s p)) ≡ true) → LevelProgress goes_atom o k (atom_from s symbols n d k p)
      atom_progress zero d k p o e h f m w b = absurd (omega arith)
      atom_progress (suc n) d k p o e h f m w b =
          let q = spaces_end s p in
          either (LevelProgress goes_atom o k) (is_lower (at s q)) (name_progress o k p e w)
          λ l. by_equal (LevelProgress goes_atom o k) (at s q) opening
          (λ c. by_equal (LevelProgress goes_atom o k) d 0
          (λ y. stopped_at 3 q (λ z. omega arith)
          (record { p = p; o = o; e = e; k = k; prefix = w; stop = PatternStop.deep c (omega arith); place = refl }))
          λ y. let i = inside_of s q opening c refl in
          let g = spaces_end_ge s p in
          closed_progress o k _
          (alternation_progress n (d - 1) k (q + 1) (suc o) i (omega arith) (omega arith) (PatternPrefix.opened p o e k w c (omega arith))))
          λ c. stopped_at _ q (unfit_some q)
          (unfit_stopped w l c (λ t. absurd (true≢false (sym (b t) ∙ rw (l, ne_eqb (at s q) opening c)))))

module _ (s : Bytes) (short : length s ≤ text_limit) (symbols : List Span) (start : ℕ) (inside : start ≤ length s) where
  abbrev pub whole : Parsed
  whole = last_line s (pattern_from s symbols start)

  last : Last s symbols start whole
  unfolding pattern_from
  last = last_progress s symbols start (pattern_from s symbols start)
      (alternation_progress s symbols start short (enough 16 start + 3) 16 0 start 0 inside (le_refl (enough 16 start + 3)) refl PatternPrefix.begin)

  pub pattern_whole : whole.step.fault ≡ 0 → (q : ℕ) × Finished s symbols start q × (q + 1 ≡ length s)
  pattern_whole h = last.over h

  pub pattern_stopped : (whole.step.fault ≡ 0 → ⊥) → Stopped s symbols start whole.step.place whole.step.fault
      ⊎ ((q : ℕ) × Finished s symbols start q × (q + 1 ≡ length s → ⊥) × (whole.step.fault ≡ 2) × (whole.step.place ≡ q + 1))
  pattern_stopped h = last.stop h
