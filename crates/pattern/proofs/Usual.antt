-- "Position q follows p, begins, or ends a word in the usual position-automaton sense": write each occurrence as its own position (`marked`); then p
-- begins iff it is the first of a word, ends iff it is the last of one, and q follows p iff the two stand side by side in one. `positions` says of the
-- paths together that they spell the words; this fixes each mask bit by bit, also where one symbol occurs twice.
use mathlib.Core.Path.{◌≡◌, refl, sym, ap, ap₂, subst, subst⁻¹, ◌∙◌}
use mathlib.Core.Bool.{Bool, true, false, cond, ◌&&◌, ◌||◌}
use mathlib.Core.List.{List, [], ◌∷◌, ◌++◌, append_assoc}
use mathlib.Core.Logic.{◌↔◌, inl, inr}
use Prim.Native.Nat.{ℕ, ◌+◌, ◌≤◌, ◌<◌}
use native.Mathlib.Omega.{arith}
use lib.Dec.{ltb}
use borrow.Author.Tests.{ltb-true, ltb-false}
use Rattle.laws.specs.Bits.{bit}
use Rattle.pattern.proofs.Masks.{Among, beginning_among, ending_among, following_among}
use Rattle.pattern.proofs.After.{After, via, begin, follow, end}
use Rattle.pattern.proofs.Then.{Then}
use Rattle.pattern.specs.Regex.{Regex, lit, cat, alt, star, plus, opt, Repeat, none, more, In, nullable}
use Rattle.pattern.specs.Positions.{size, symbol_at, beginning, ending, following, Has}

-- each occurrence written as its position, the leftmost being k
abbrev pub marked : Regex → ℕ → Regex
marked (lit a) k = lit k
marked (cat r s) k = cat (marked r k) (marked s (k + size r))
marked (alt r s) k = alt (marked r k) (marked s (k + size r))
marked (star r) k = star (marked r k)
marked (plus r) k = plus (marked r k)
marked (opt r) k = opt (marked r k)

size_marked : (r : Regex) (k : ℕ) → size (marked r k) ≡ size r
size_marked (lit a) k = refl
size_marked (cat r s) k = ap₂ ◌+◌ (size_marked r k) (size_marked s (k + size r))
size_marked (alt r s) k = ap₂ ◌+◌ (size_marked r k) (size_marked s (k + size r))
size_marked (star r) k = size_marked r k
size_marked (plus r) k = size_marked r k
size_marked (opt r) k = size_marked r k

null_marked : (r : Regex) (k : ℕ) → nullable (marked r k) ≡ nullable r
null_marked (lit a) k = refl
null_marked (cat r s) k = ap₂ ◌&&◌ (null_marked r k) (null_marked s (k + size r))
null_marked (alt r s) k = ap₂ ◌||◌ (null_marked r k) (null_marked s (k + size r))
null_marked (star r) k = refl
null_marked (plus r) k = null_marked r k
null_marked (opt r) k = refl

-- the masks do not look at symbols
begins_marked : (r : Regex) (k j : ℕ) → beginning (marked r k) j ≡ beginning r j
begins_marked (lit a) k j = refl
begins_marked (cat r s) k j = rw (begins_marked r k j, null_marked r k, size_marked r k, begins_marked s (k + size r) (j + size r))
begins_marked (alt r s) k j = rw (begins_marked r k j, size_marked r k, begins_marked s (k + size r) (j + size r))
begins_marked (star r) k j = begins_marked r k j
begins_marked (plus r) k j = begins_marked r k j
begins_marked (opt r) k j = begins_marked r k j

ends_marked : (r : Regex) (k j : ℕ) → ending (marked r k) j ≡ ending r j
ends_marked (lit a) k j = refl
ends_marked (cat r s) k j = rw (ends_marked r k j, null_marked s (k + size r), size_marked r k, ends_marked s (k + size r) (j + size r))
ends_marked (alt r s) k j = rw (ends_marked r k j, size_marked r k, ends_marked s (k + size r) (j + size r))
ends_marked (star r) k j = ends_marked r k j
ends_marked (plus r) k j = ends_marked r k j
ends_marked (opt r) k j = ends_marked r k j

follows_marked : (r : Regex) (k j p : ℕ) → following (marked r k) j p ≡ following r j p
follows_marked (lit a) k j p = refl
follows_marked (cat r s) k j p =
    rw (size_marked r k, follows_marked r k j p, ends_marked r k j, begins_marked s (k + size r) (j + size r), follows_marked s (k + size r) (j + size r) p)
follows_marked (alt r s) k j p = rw (size_marked r k, follows_marked r k j p, follows_marked s (k + size r) (j + size r) p)
follows_marked (star r) k j p = rw (follows_marked r k j p, ends_marked r k j, begins_marked r k j)
follows_marked (plus r) k j p = rw (follows_marked r k j p, ends_marked r k j, begins_marked r k j)
follows_marked (opt r) k j p = follows_marked r k j p

-- a position is its own symbol
two : (p n : ℕ) (f g : ℕ) → (p < n → f ≡ p) → (n ≤ p → g ≡ p) → cond (ltb p n) f g ≡ p
two p n f g x y = by (ltb p n) refl
  where
    by : (t : Bool) → ltb p n ≡ t → cond t f g ≡ p
    by true e = x (ltb-true p n e)
    by false e = y (ltb-false p n e)

own : (r : Regex) (k p : ℕ) → Among r k p → symbol_at (marked r k) k p ≡ p
own (lit a) k p h = omega (arith, h.low, h.high)
own (cat r s) k p h =
    rw (size_marked r k)
    (two p (k + size r) _ _ (λ l. own r k p (record { low = h.low; high = l }))
    (λ l. own s (k + size r) p (record { low = l; high = omega (arith, h.high) })))
own (alt r s) k p h =
    rw (size_marked r k)
    (two p (k + size r) _ _ (λ l. own r k p (record { low = h.low; high = l }))
    (λ l. own s (k + size r) p (record { low = l; high = omega (arith, h.high) })))
own (star r) k p h = own r k p (record { low = h.low; high = h.high })
own (plus r) k p h = own r k p (record { low = h.low; high = h.high })
own (opt r) k p h = own r k p (record { low = h.low; high = h.high })

-- every expression has a word; something comes after each position, and something leads to it
some : (r : Regex) → (w : List ℕ) × In r w
some (lit a) = (a ∷ [], refl)
some (cat r s) = let (u, x) = some r in let (v, y) = some s in (u ++ v, (u, v, refl, x, y))
some (alt r s) = let (u, x) = some r in (u, inl x)
some (star r) = ([], none)
some (plus r) = let (u, x) = some r in (u ++ [], (u, [], refl, x, none))
some (opt r) = ([], inl refl)

after : (r : Regex) (k p : ℕ) → Among r k p → (w : List ℕ) × After r k p w
after (lit a) k p h = ([], (omega (arith, h.low, h.high), refl))
after (cat r s) k p h = by (after r k p) (after s (k + size r) p) (some s) (ltb p (k + size r)) refl
  where
    by : (Among r k p → (w : List ℕ) × After r k p w) → (Among s (k + size r) p → (w : List ℕ) × After s (k + size r) p w) → ((v : List ℕ) × In s v)
        → (t : Bool) → ltb p (k + size r) ≡ t → (w : List ℕ) × cond t (Then (After r k p) (In s) w) (After s (k + size r) p w)
    by f g (v, y) true e = let (u, x) = f (record { low = h.low; high = ltb-true p (k + size r) e }) in (u ++ v, (u, v, refl, x, y))
    by f g y false e = g (record { low = ltb-false p (k + size r) e; high = omega (arith, h.high) })
after (alt r s) k p h = by (after r k p) (after s (k + size r) p) (ltb p (k + size r)) refl
  where
    by : (Among r k p → (w : List ℕ) × After r k p w) → (Among s (k + size r) p → (w : List ℕ) × After s (k + size r) p w)
        → (t : Bool) → ltb p (k + size r) ≡ t → (w : List ℕ) × cond t (After r k p w) (After s (k + size r) p w)
    by f g true e = f (record { low = h.low; high = ltb-true p (k + size r) e })
    by f g false e = g (record { low = ltb-false p (k + size r) e; high = omega (arith, h.high) })
after (star r) k p h = let (u, x) = after r k p (record { low = h.low; high = h.high }) in (u ++ [], (u, [], refl, x, none))
after (plus r) k p h = let (u, x) = after r k p (record { low = h.low; high = h.high }) in (u ++ [], (u, [], refl, x, none))
after (opt r) k p h = after r k p (record { low = h.low; high = h.high })

abbrev Lead : Regex → ℕ → ℕ → Type 0
Lead r k p = (u : List ℕ) × ((w : List ℕ) → After r k p w → In r (u ++ (symbol_at r k p ∷ w)))

-- one part and then another: the tail of the first goes before the second
through : (A B : List ℕ → Type 0) (u : List ℕ) (c : ℕ) (F : List ℕ → Type 0) → ((w : List ℕ) → F w → A (u ++ (c ∷ w)))
    → (w : List ℕ) → Then F B w → Then A B (u ++ (c ∷ w))
through A B u c F f w (x, y, e, a, b) = (u ++ (c ∷ x), y, rw e (sym (append_assoc u (c ∷ x) y)), f x a, b)

lead : (r : Regex) (k p : ℕ) → Among r k p → Lead r k p
lead (lit a) k p h = ([], λ w t. ap (a ∷◌) t.1)
lead (cat r s) k p h = by (lead r k p) (lead s (k + size r) p) (some r) (ltb p (k + size r)) refl
  where
    by : (Among r k p → Lead r k p) → (Among s (k + size r) p → Lead s (k + size r) p) → ((v : List ℕ) × In r v) → (t : Bool) → ltb p (k + size r) ≡ t
        → (u : List ℕ) × ((w : List ℕ) → cond t (Then (After r k p) (In s) w) (After s (k + size r) p w)
        → In (cat r s) (u ++ (cond t (symbol_at r k p) (symbol_at s (k + size r) p) ∷ w)))
    by f g (v, x) true e =
        let (u, b) = f (record { low = h.low; high = ltb-true p (k + size r) e }) in
        (u, through (In r) (In s) u (symbol_at r k p) (After r k p) b)
    by f g (v, x) false e =
        let (u, b) = g (record { low = ltb-false p (k + size r) e; high = omega (arith, h.high) }) in
        (v ++ u, λ w t. (v, u ++ (symbol_at s (k + size r) p ∷ w), append_assoc v u (symbol_at s (k + size r) p ∷ w), x, b w t))
lead (alt r s) k p h = by (lead r k p) (lead s (k + size r) p) (ltb p (k + size r)) refl
  where
    by : (Among r k p → Lead r k p) → (Among s (k + size r) p → Lead s (k + size r) p) → (t : Bool) → ltb p (k + size r) ≡ t
        → (u : List ℕ) × ((w : List ℕ) → cond t (After r k p w) (After s (k + size r) p w)
        → In (alt r s) (u ++ (cond t (symbol_at r k p) (symbol_at s (k + size r) p) ∷ w)))
    by f g true e = let (u, b) = f (record { low = h.low; high = ltb-true p (k + size r) e }) in (u, λ w t. inl (b w t))
    by f g false e = let (u, b) = g (record { low = ltb-false p (k + size r) e; high = omega (arith, h.high) }) in (u, λ w t. inr (b w t))
lead (star r) k p h =
    let (u, f) = lead r k p (record { low = h.low; high = h.high }) in
    (u, λ w t. let (x, y, e, a, b) = through (In r) (Repeat (In r)) u (symbol_at r k p) (After r k p) f w t in subst⁻¹ (Repeat (In r)) e (more a b))
lead (plus r) k p h =
    let (u, f) = lead r k p (record { low = h.low; high = h.high }) in
    (u, through (In r) (Repeat (In r)) u (symbol_at r k p) (After r k p) f)
lead (opt r) k p h = let (u, f) = lead r k p (record { low = h.low; high = h.high }) in (u, λ w t. inr (f w t))

-- the position of one symbol inside a word, with what comes after it
abbrev Site : Regex → ℕ → List ℕ → Type 0
Site r a w = (q : ℕ) × Among r 1 q × (symbol_at r 1 q ≡ a) × After r 1 q w

site_after : (r : Regex) (p : ℕ) (u : List ℕ) (a : ℕ) (w : List ℕ) → After r 1 p (u ++ (a ∷ w)) → Site r a w
site_after r p [] a w t = elim ((follow r 1 p a w).0 t) [ via q h e s ↦ (q, (following_among r 1 p q h).1, e, s) ]
site_after r p (b ∷ u) a w t = elim ((follow r 1 p b (u ++ (a ∷ w))).0 t) [ via q h e s ↦ site_after r q u a w s ]

site : (r : Regex) (u : List ℕ) (a : ℕ) (w : List ℕ) → In r (u ++ (a ∷ w)) → Site r a w
site r [] a w t = elim ((begin r 1 a w).0 t) [ via q h e s ↦ (q, beginning_among r 1 q h, e, s) ]
site r (b ∷ u) a w t = elim ((begin r 1 b (u ++ (a ∷ w))).0 t) [ via q h e s ↦ site_after r q u a w s ]

module _ (r : Regex) where
  -- positions of the marked expression are those of r
  among : {q : ℕ} → Among (marked r 1) 1 q → Among r 1 q
  among h = record { low = h.low; high = omega (arith, h.high, size_marked r 1) }

  onto : {q : ℕ} → Among r 1 q → Among (marked r 1) 1 q
  onto h = record { low = h.low; high = omega (arith, h.high, size_marked r 1) }

  -- the site of p in a word of the marked expression is p
  found : (p : ℕ) (w : List ℕ) → Site (marked r 1) p w → After (marked r 1) 1 p w
  found p w (q, h, e, t) = subst (λ x. After (marked r 1) 1 x w) (sym (own r 1 q (among h)) ∙ e) t

  begins_word : (p : ℕ) → Has p (beginning r 1) ↔ ((w : List ℕ) × In (marked r 1) (p ∷ w))
  begins_word p = (forth, back)
    where
      forth : Has p (beginning r 1) → (w : List ℕ) × In (marked r 1) (p ∷ w)
      forth h =
          let x = beginning_among r 1 p h in
          let (w, t) = after (marked r 1) 1 p (onto x) in
          (w, (begin (marked r 1) 1 p w).1 (via p (rw (begins_marked r 1 1) h) (own r 1 p x) t))

      back : ((w : List ℕ) × In (marked r 1) (p ∷ w)) → Has p (beginning r 1)
      back (w, t) =
          elim ((begin (marked r 1) 1 p w).0 t) [
            | via q h e s ↦ subst (λ x. Has x (beginning r 1)) (sym (own r 1 q (among (beginning_among (marked r 1) 1 q h))) ∙ e)
                (rw (begins_marked r 1 1) at h)
          ]

  ends_word : (p : ℕ) → Has p (ending r 1) ↔ ((w : List ℕ) × In (marked r 1) (w ++ (p ∷ [])))
  ends_word p = (forth, λ (w, t). rw (ends_marked r 1 1) at ((end (marked r 1) 1 p).0 (found p [] (site (marked r 1) w p [] t))))
    where
      forth : Has p (ending r 1) → (w : List ℕ) × In (marked r 1) (w ++ (p ∷ []))
      forth h =
          let x = ending_among r 1 p h in
          let (u, f) = lead (marked r 1) 1 p (onto x) in
          (u, subst (λ c. In (marked r 1) (u ++ (c ∷ []))) (own r 1 p x) (f [] ((end (marked r 1) 1 p).1 (rw (ends_marked r 1 1) h))))

  follows_word : (p q : ℕ) → Has q (following r 1 p) ↔ ((u : List ℕ) × (v : List ℕ) × In (marked r 1) (u ++ (p ∷ q ∷ v)))
  follows_word p q = (forth, back)
    where
      forth : Has q (following r 1 p) → (u : List ℕ) × (v : List ℕ) × In (marked r 1) (u ++ (p ∷ q ∷ v))
      forth h =
          let (x, y) = following_among r 1 p q h in
          let (v, t) = after (marked r 1) 1 q (onto y) in
          let (u, f) = lead (marked r 1) 1 p (onto x) in
          let s = (follow (marked r 1) 1 p q v).1 (via q (rw (follows_marked r 1 1 p) h) (own r 1 q y) t) in
          (u, v, subst (λ c. In (marked r 1) (u ++ (c ∷ q ∷ v))) (own r 1 p x) (f (q ∷ v) s))

      back : ((u : List ℕ) × (v : List ℕ) × In (marked r 1) (u ++ (p ∷ q ∷ v))) → Has q (following r 1 p)
      back (u, v, t) =
          elim ((follow (marked r 1) 1 p q v).0 (found p (q ∷ v) (site (marked r 1) u p (q ∷ v) t))) [
            | via x h e s ↦ subst (λ y. Has y (following r 1 p)) (sym (own r 1 x (among (following_among (marked r 1) 1 p x h).1)) ∙ e)
                (rw (follows_marked r 1 1 p) at h)
          ]

pub usual : (r : Regex) (p q : ℕ)
    → ((bit p (beginning r 1) ≡ true) ↔ ((w : List ℕ) × In (marked r 1) (p ∷ w)))
    × ((bit p (ending r 1) ≡ true) ↔ ((w : List ℕ) × In (marked r 1) (w ++ (p ∷ []))))
    × ((bit q (following r 1 p) ≡ true) ↔ ((u : List ℕ) × (v : List ℕ) × In (marked r 1) (u ++ (p ∷ q ∷ v))))
usual r p q = (begins_word r p, ends_word r p, follows_word r p q)
