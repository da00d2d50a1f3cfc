-- The pattern's positions run over a trace for one valuation, and the declarative meaning read off such a run.
use mathlib.Core.Path.{◌≡◌, refl, sym, ap, ap₂, ◌∙◌}
use mathlib.Core.Bool.{Bool, true, false, cond, not, ◌&&◌, ◌||◌, true≢false, false≢true, or-true}
use mathlib.Core.List.{List, [], ◌∷◌, reverse, reverse_aux, reverse-append, reverse-reverse}
use mathlib.Core.List.Memᴰ
use mathlib.Core.List.{Memᴰ}
use mathlib.Core.Logic.{◌↔◌, ◌⊎◌, inl, inr, ⊎_elim}
use Prim.Native.Nat.{ℕ, zero, suc, ◌+◌, ◌-◌, ◌≤◌, ◌<◌}
use native.Mathlib.Omega.{arith}
use lib.Dec.{eqb, leb}
use lib.ListN.{length, take, drop, get_or, length-take, length-drop, length-reverse, take-append-drop}
use lib.Seq.{take_all, take-take, drop_at, get_or-take}
use borrow.Author.Tests.{not-true, eqb-true, eq-eqb, ltb-true}
use Rattle.laws.specs.Bits.{bit}
use Rattle.laws.specs.Lists.{any, all}
use Rattle.laws.proofs.Lists.{and_true_split, or_true_split, any_found, any_of, all_at, all_of, mem_keep, mem_get_or, mem_index}
use Rattle.laws.proofs.Bits.{bit_zero}
use Rattle.laws.proofs.Lists.{keep_reverse, keep_length, mem_numbers, get_or_numbers, get_d_reverse}
use Rattle.pattern.specs.Regex.{In}
use Rattle.pattern.specs.Positions.{size, symbols, beginning, ending, following, symbol_at, Has, Reach, start, next as onto}
use Rattle.pattern.proofs.Masks.{Among, beginning_among, ending_among, following_among, symbol_at_list, symbols_length}
use Rattle.pattern.proofs.Spell.{positions_left}
use Rattle.meaning.specs.Events.{Parameter, ignored, names, fixed, Symbol, Event, Valuation}
use Rattle.meaning.specs.Events.{word32, well_formed, is_valuation, equal_all, holds, concerns}
use Rattle.meaning.specs.Meaning.{Tracematch, no_symbol, no_event, concerning, stretch, Reading, nothing, next, Match}
use Rattle.meaning.specs.Labels as Labels
use Rattle.meaning.specs.Labels.{State}
use Rattle.meaning.specs.Book.{Book, book_of, starting_at, Proper, binds, positions, begins_at, ends_at, follows_at, symbol_of}

module _ (b : Book) (σ : Valuation) where
  -- event e takes some path, begun now or come as far as `at` says, on to position q
  abbrev pub steps : (at : ℕ → Bool) → Event → ℕ → Bool
  steps at e q = holds (symbol_of b q) e σ && (begins_at b q || any (λ p. follows_at b p q && at p) (positions b))

  -- some path stands at position p behind event e: it was there and is passed over, or is taken on to p
  abbrev pub moves : (at : ℕ → Bool) → Event → ℕ → Bool
  moves at e p = (at p && not (concerns b.symbols e σ)) || steps at e p

  -- some path comes to an end with event e
  abbrev pub completes : (at : ℕ → Bool) → Event → Bool
  completes at e = any (λ q. ends_at b q && steps at e q) (positions b)

-- the book itself, or the same where no match begins: it is a book too
abbrev pub limited : Bool → Book → Book
limited starts b = starting_at (cond starts b.begins 0) b

-- the state after an accepted event, where `may` tells the numbers of the events that may begin a match: all numbers today; later those up to some
-- number (first events), or after some number (a book that begins later, or begins no more)
abbrev pub next_by : (may : ℕ → Bool) → Book → State → Event → State
next_by may b s e = Labels.next (limited (may (suc s.number)) b) s e

-- where the paths stand after a trace, whose newest event comes first; `may` tells the numbers of the events that may begin one,
-- as above
abbrev pub reached : (may : ℕ → Bool) → Book → Valuation → List Event → ℕ → Bool
reached may b σ [] p = false
reached may b σ (e ∷ t) p = moves (limited (may (suc (length t))) b) σ (reached may b σ t) e p

or_right : (a : Bool) {b : Bool} → b ≡ true → (a || b) ≡ true
or_right a h = ap (λ b. a || b) h ∙ or-true a

module _ (tm : Tracematch) where
  -- the book of a tracematch, in terms of the pattern's positions
  positions_among : (p : ℕ) → Memᴰ p (positions (book_of tm)) ↔ Among tm.pattern 1 p
  unfolding book_of
  positions_among p =
      let m = mem_numbers p 1 (length (symbols tm.pattern)) in
      let n = symbols_length tm.pattern in
      (λ h. omega (arith, m.0 h), λ a. m.1 (omega arith))

  pub symbol_of_at : {p : ℕ} → Among tm.pattern 1 p → symbol_of (book_of tm) p ≡ get_or tm.symbols (symbol_at tm.pattern 1 p) no_symbol
  unfolding book_of
  symbol_of_at {p} a = rw (symbol_at_list tm.pattern 1 p a)

  pub follows_at_bit : {p : ℕ} → Among tm.pattern 1 p → (q : ℕ) → follows_at (book_of tm) p q ≡ bit q (following tm.pattern 1 p)
  unfolding book_of
  follows_at_bit {p} a q =
      let place : 1 + (p - 1) ≡ p = omega arith in
      ap (bit q) (get_or_numbers (following tm.pattern 1) 1 (size tm.pattern) (p - 1) 0 (omega arith) ∙ ap (following tm.pattern 1) place)

  declared_at : Proper tm → {p : ℕ} → Among tm.pattern 1 p → symbol_at tm.pattern 1 p < length tm.symbols
  declared_at ok {p} a =
      rw (symbol_at_list tm.pattern 1 p a)
      (ltb-true _ _ (all_at _ ok.declared (mem_get_or (symbols tm.pattern) (p - 1) 0 (omega (arith, symbols_length tm.pattern)))))

module _ (tm : Tracematch) (σ : Valuation) where
  reading_length : {es : List Event} {w : List ℕ} → Reading tm σ es w → length es ≡ length w
  reading_length nothing = refl
  reading_length (next l h d) = ap suc (reading_length d)

  reach_long : {w : List ℕ} {p : ℕ} → Reach tm.pattern w p → 1 ≤ length w
  reach_long (start h) = omega arith
  reach_long (onto r h) = omega arith

  holds_concerns : (e : Event) (a : ℕ) → a < length tm.symbols → holds (get_or tm.symbols a no_symbol) e σ ≡ true
      → concerns tm.symbols e σ ≡ true
  unfolding concerns
  holds_concerns e a l h = any_of (λ s. holds s e σ) (mem_get_or tm.symbols a no_symbol l) h

-- where a match may begin
pub limited_begins : (may : Bool) (m q : ℕ) → bit q (cond may m 0) ≡ true → (may ≡ true) × (bit q m ≡ true)
limited_begins true m q h = (refl, h)
limited_begins false m q h = absurd (true≢false (sym h ∙ bit_zero q))

-- The automaton's run for one valuation, with the event that began it.
module _ (tm : Tracematch) (ok : Proper tm) (σ : Valuation) (may : ℕ → Bool) where
  -- a path that stands at position q after a trace, whose newest event comes first: it was begun by the oldest of the newest k events, and the word
  -- that they are read as is w, its newest symbol first
  data Trail : (t : List Event) (k : ℕ) (w : List ℕ) (q : ℕ) → Type 0 where
    begun : {e : Event} {t : List Event} {q : ℕ} → may (suc (length t)) ≡ true → Has q (beginning tm.pattern 1)
        → holds (symbol_of (book_of tm) q) e σ ≡ true → Trail (e ∷ t) 1 (symbol_at tm.pattern 1 q ∷ []) q
    taken : {e : Event} {t : List Event} {k : ℕ} {w : List ℕ} {p q : ℕ} → Trail t k w p → Has q (following tm.pattern 1 p)
        → holds (symbol_of (book_of tm) q) e σ ≡ true → Trail (e ∷ t) (suc k) (symbol_at tm.pattern 1 q ∷ w) q
    passed_over : {e : Event} {t : List Event} {k : ℕ} {w : List ℕ} {p : ℕ} → Trail t k w p → concerns tm.symbols e σ ≡ false
        → Trail (e ∷ t) (suc k) w p

  -- some path stands at q
  abbrev Stands : List Event → ℕ → Type 0
  Stands t q = (k : ℕ) × (w : List ℕ) × Trail t k w q

  -- a symbol that holds is one of the tracematch, so the event concerns σ
  taken_concerns : {q : ℕ} (e : Event) → Among tm.pattern 1 q → holds (symbol_of (book_of tm) q) e σ ≡ true
      → (symbol_at tm.pattern 1 q < length tm.symbols) × (holds (get_or tm.symbols (symbol_at tm.pattern 1 q) no_symbol) e σ ≡ true)
      × (concerns tm.symbols e σ ≡ true)
  taken_concerns e a h =
      let l = declared_at tm ok a in
      let g = rw (symbol_of_at tm a) at h in
      (l, g, holds_concerns tm σ e _ l g)

  -- one event more
  module _ (t : List Event) (e : Event) (at : ℕ → Bool) (ih : (p : ℕ) → (at p ≡ true) ↔ Stands t p) where
    abbrev book_here : Book
    book_here = limited (may (suc (length t))) (book_of tm)

    -- some path leads on to position q
    abbrev led : ℕ → Bool
    led q = any (λ p. follows_at (book_of tm) p q && at p) (positions (book_of tm))

    steps_path : (q : ℕ) → steps book_here σ at e q ≡ true → (concerns tm.symbols e σ ≡ true) × Stands (e ∷ t) q
    unfolding book_of
    steps_path q s =
        let b = book_of tm in
        let hs = and_true_split (holds (symbol_of b q) e σ) (begins_at book_here q || led q) s in
        ⊎_elim
        (λ h. let (m, x) = limited_begins (may (suc (length t))) b.begins q h in
        ((taken_concerns e (beginning_among tm.pattern 1 q x) hs.0).2, (1, _, begun m x hs.0)))
        (λ h. let p = any_found (λ p. follows_at b p q && at p) (positions b) h in
        let fs = and_true_split (follows_at b p.0 q) (at p.0) p.2 in
        let f : Has q (following tm.pattern 1 p.0) = rw (follows_at_bit tm ((positions_among tm p.0).0 p.1) q) at fs.0 in
        let (k, w, x) = (ih p.0).0 fs.1 in
        ((taken_concerns e (following_among tm.pattern 1 p.0 q f).1 hs.0).2, (suc k, _, taken x f hs.0)))
        (or_true_split (begins_at book_here q) (led q) hs.1)

    -- a path of the trace with e was begun or taken on by e, or passed over it
    path_moves : {k : ℕ} {w : List ℕ} {q : ℕ} → Trail (e ∷ t) k w q
        → (steps book_here σ at e q ≡ true) ⊎ ((at q ≡ true) × (concerns tm.symbols e σ ≡ false))
    unfolding book_of
    path_moves {q = q} (begun m h x) = inl (ap₂ ◌&&◌ x (ap (λ y. y || led q) (ap (λ z. bit q (cond z (book_of tm).begins 0)) m ∙ h)))
    path_moves {q = q} (taken {k = k} {w = w} {p = p} y h x) =
        let b = book_of tm in
        let a = following_among tm.pattern 1 p q h in
        let c = ap₂ ◌&&◌ (follows_at_bit tm a.0 q ∙ h) ((ih p).1 (k, w, y)) in
        inl (ap₂ ◌&&◌ x (or_right (begins_at book_here q) (any_of (λ p. follows_at b p q && at p) ((positions_among tm p).1 a.0) c)))
    path_moves {q = q} (passed_over {k = k} {w = w} y n) = inr ((ih q).1 (k, w, y), n)

    moves_path : (p : ℕ) → (moves book_here σ at e p ≡ true) ↔ Stands (e ∷ t) p
    unfolding book_of
    moves_path p = (
      λ h. ⊎_elim (λ a. let s = and_true_split (at p) (not (concerns tm.symbols e σ)) a in
          let (k, w, x) = (ih p).0 s.0 in (suc k, w, passed_over x (not-true (concerns tm.symbols e σ) s.1)))
          (λ s. (steps_path p s).1) (or_true_split (at p && not (concerns tm.symbols e σ)) (steps book_here σ at e p) h),
      λ (k, w, x). ⊎_elim (or_right (at p && not (concerns tm.symbols e σ)))
          (λ (y, n). ap₂ (λ x z. x && not z || steps book_here σ at e p) y n) (path_moves x),
    )

  -- a path has an event that began it
  some_newer : {t : List Event} {k : ℕ} {w : List ℕ} {q : ℕ} → Trail t k w q → 1 ≤ length t
  some_newer (begun m h x) = omega arith
  some_newer (taken y h x) = omega arith
  some_newer (passed_over y n) = omega arith

  -- after the trace some path stands at p just where the automaton says so
  reached_path : (t : List Event) (p : ℕ) → (reached may (book_of tm) σ t p ≡ true) ↔ Stands t p
  reached_path [] p = (λ h. absurd (false≢true h), λ (k, w, x). absurd (omega (arith, some_newer x)))
  reached_path (e ∷ t) p = moves_path t e (reached may (book_of tm) σ t) (reached_path t) p

  -- the oldest of the newest k events concerns σ and may begin a match
  record BegunAt (t : List Event) (k : ℕ) : Type 0 where
    some : 1 ≤ k
    inside : k ≤ length t
    concerned : concerns tm.symbols (get_or t (k - 1) no_event) σ ≡ true
    allowed : may (suc (length t - k)) ≡ true

  begins_more : (e : Event) {t : List Event} {k : ℕ} → BegunAt t k → BegunAt (e ∷ t) (suc k)
  begins_more e {t} {k} b =
      let place : suc k - 1 ≡ suc (k - 1) = omega (arith, b.some) in
      let same : length (e ∷ t) - suc k ≡ length t - k = omega arith in
      record { some = omega arith; inside = omega (arith, b.inside); concerned = rw place b.concerned; allowed = rw same b.allowed }

  begins_fewer : (e : Event) {t : List Event} {k : ℕ} → 1 ≤ k → BegunAt (e ∷ t) (suc k) → BegunAt t k
  begins_fewer e {t} {k} h b =
      let place : suc k - 1 ≡ suc (k - 1) = omega arith in
      let same : length (e ∷ t) - suc k ≡ length t - k = omega arith in
      record { some = h; inside = omega (arith, b.inside); concerned = rw place at b.concerned; allowed = rw same at b.allowed }

  -- the newest k events, those that concern σ, read as a word that is spelled up to q
  record Came (t : List Event) (k : ℕ) (w : List ℕ) (q : ℕ) : Type 0 where
    reading : Reading tm σ (concerning tm σ (take k t)) w
    path : Reach tm.pattern w q
    begins : BegunAt t k

  path_came : {t : List Event} {k : ℕ} {w : List ℕ} {q : ℕ} → Trail t k w q → Came t k w q
  path_came (begun {e = e} {t = t} {q = q} m h x) =
      let (l, g, c) = taken_concerns e (beginning_among tm.pattern 1 q h) x in
      let same : length (e ∷ t) - 1 ≡ length t = omega arith in
      record {
        reading = rw c (next l g nothing);
        path = start h;
        begins = record { some = omega arith; inside = omega arith; concerned = c; allowed = rw same m };
      }
  path_came (taken {e = e} {p = p} {q = q} y h x) =
      let r = path_came y in
      let (l, g, c) = taken_concerns e (following_among tm.pattern 1 p q h).1 x in
      record { reading = rw c (next l g r.reading); path = onto r.path h; begins = begins_more e r.begins }
  path_came (passed_over {e = e} y n) =
      let r = path_came y in
      record { reading = rw n r.reading; path = r.path; begins = begins_more e r.begins }

  -- something of the newest k events concerns σ, if the oldest does
  some_concerned : (t : List Event) (k : ℕ) → BegunAt t k → 1 ≤ length (concerning tm σ (take k t))
  some_concerned t k b =
      let m = mem_get_or (take k t) (k - 1) no_event (omega (arith, length-take k t, b.some, b.inside)) in
      let n = rw (get_or-take k t (k - 1) no_event (omega (arith, b.some))) at m in
      let (i, l, _) = mem_index no_event ((mem_keep (λ e. concerns tm.symbols e σ) _ _).1 (n, b.concerned)) in
      omega (arith, l)

  first_read : {q : ℕ} {e : Event} {es : List Event} {w : List ℕ} → Among tm.pattern 1 q → Reading tm σ (e ∷ es) (symbol_at tm.pattern 1 q ∷ w)
      → (holds (symbol_of (book_of tm) q) e σ ≡ true) × Reading tm σ es w
  first_read a (next l h d) = (rw (symbol_of_at tm a) h, d)

  -- what is read as a word that begins with event e
  read_path : (e : Event) (t : List Event) (k : ℕ) {w : List ℕ} {q : ℕ} → Reading tm σ (e ∷ concerning tm σ (take k t)) w → Reach tm.pattern w q
      → BegunAt (e ∷ t) (suc k) → ((v : List ℕ) (p : ℕ) → Came t k v p → Trail t k v p) → Trail (e ∷ t) (suc k) w q
  read_path e t k d (start {p = q} h) b ih = go k b (reading_length tm σ (first_read (beginning_among tm.pattern 1 q h) d).1)
    where
      go : (k : ℕ) → BegunAt (e ∷ t) (suc k) → length (concerning tm σ (take k t)) ≡ 0 → Trail (e ∷ t) (suc k) (symbol_at tm.pattern 1 q ∷ []) q
      go zero b z =
          let same : length (e ∷ t) - 1 ≡ length t = omega arith in
          begun (rw same at b.allowed) h (first_read (beginning_among tm.pattern 1 q h) d).0
      go (suc k) b z = absurd (omega (arith, some_concerned t (suc k) (begins_fewer e (omega arith) b), z))
  read_path e t k d (onto {w = v} {p = p} {q = q} r h) b ih =
      let f : Event → Bool = λ e. concerns tm.symbols e σ in
      let (x, rest) = first_read (following_among tm.pattern 1 p q h).1 d in
      let some : 1 ≤ k = omega (arith, reading_length tm σ rest, reach_long tm σ r, keep_length f (take k t), length-take k t) in
      taken (ih v p (record { reading = rest; path = r; begins = begins_fewer e some b })) h x

  came_path : (t : List Event) (k : ℕ) (w : List ℕ) (q : ℕ) → Came t k w q → Trail t k w q
  came_path [] k w q c = absurd (omega (arith, c.begins.some, c.begins.inside))
  came_path (e ∷ t) zero w q c = absurd (omega (arith, c.begins.some))
  came_path (e ∷ t) (suc k) w q c = go (concerns tm.symbols e σ) refl c.reading (λ v p. came_path t k v p)
    where
      -- e is passed over, so the first event is another
      further : (k : ℕ) → concerns tm.symbols e σ ≡ false → BegunAt (e ∷ t) (suc k) → 1 ≤ k
      further zero n b = absurd (true≢false (sym b.concerned ∙ n))
      further (suc k) n b = omega arith

      go : (z : Bool) → concerns tm.symbols e σ ≡ z
          → Reading tm σ (let es = concerning tm σ (take k t) in cond z (e ∷ es) es) w → ((v : List ℕ) (p : ℕ) → Came t k v p → Trail t k v p)
          → Trail (e ∷ t) (suc k) w q
      go true n d ih = read_path e t k d c.path c.begins ih
      go false n d ih =
          passed_over (ih w q (record { reading = d; path = c.path; begins = begins_fewer e (further k n c.begins) c.begins })) n

  -- a path comes to an end with event e just where it concerns σ and some path that stands behind it ends there
  completes_path : (t : List Event) (e : Event) → (completes (limited (may (suc (length t))) (book_of tm)) σ (reached may (book_of tm) σ t) e ≡ true)
      ↔ ((concerns tm.symbols e σ ≡ true) × ((q : ℕ) × Has q (ending tm.pattern 1) × Stands (e ∷ t) q))
  unfolding book_of
  completes_path t e = (
    λ h. let (q, _, x) = any_found (λ q. ends_at (book_of tm) q && steps b σ at e q) (positions (book_of tm)) h in
        let (ends, s) = and_true_split (ends_at (book_of tm) q) (steps b σ at e q) x in
        let (c, p) = steps_path t e at (reached_path t) q s in
        (c, (q, ends, p)),
    λ (c, (q, ends, (k, w, x))).
        ⊎_elim (λ s. any_of (λ q. ends_at (book_of tm) q && steps b σ at e q)
        ((positions_among tm q).1 (ending_among tm.pattern 1 q ends)) (ap₂ ◌&&◌ ends s))
        (λ (_, n). absurd (true≢false (sym c ∙ n))) (path_moves t e at (reached_path t) x),
  )
    where
      b : Book
      b = limited (may (suc (length t))) (book_of tm)

      at : ℕ → Bool
      at = reached may (book_of tm) σ t

-- a reading from its other end
reading_turned : {tm : Tracematch} {σ : Valuation} {es us : List Event} {w v : List ℕ} → Reading tm σ es w → Reading tm σ us v
    → Reading tm σ (reverse_aux es us) (reverse_aux w v)
reading_turned nothing c = c
reading_turned (next l h d) c = reading_turned d (next l h c)

-- the first k elements are the last of the list from its other end
reverse_take : {A : Type 0} (k : ℕ) (l : List A) → drop (length l - k) (reverse l) ≡ reverse (take k l)
reverse_take k l =
    ap (λ r. drop (length l - k) (reverse r)) (sym (take-append-drop k l)) ∙ ap (drop (length l - k)) (reverse-append (take k l) (drop k l))
    ∙ drop_at (reverse (drop k l)) (reverse (take k l)) (length l - k) (length-reverse (drop k l) ∙ length-drop k l)

-- a word of the pattern is spelled up to a position that ends one
pub spelled : (tm : Tracematch) {w : List ℕ} {p : ℕ} → Reach tm.pattern w p → Has p (ending tm.pattern 1) → In tm.pattern (reverse w)
spelled tm (start {p = p} h) g = (positions_left tm.pattern _ []).1 (p, start h, g)
spelled tm (onto {w = w} {q = q} r h) g = (positions_left tm.pattern _ w).1 (q, onto r h, g)

spelling : (tm : Tracematch) → Proper tm → (w : List ℕ) → In tm.pattern (reverse w)
    → (p : ℕ) × Reach tm.pattern w p × Has p (ending tm.pattern 1)
spelling tm ok [] h = absurd (ok.nonempty h)
spelling tm ok (a ∷ w) h = (positions_left tm.pattern a w).0 h

-- a match of events number first to last whose first event itself concerns σ and may begin one
pub record MatchFrom (may : ℕ → Bool) (tm : Tracematch) (t : List Event) (first last : ℕ) (σ : Valuation) : Type 0 where
  pub match : Match tm t first last σ
  pub concerned : concerns tm.symbols (get_or t (first - 1) no_event) σ ≡ true
  pub allowed : may first ≡ true

-- The newest events of a trace, whose newest event comes first, are a stretch of it from its other end.
module _ (tm : Tracematch) (ok : Proper tm) (σ : Valuation) (may : ℕ → Bool) (l : List Event) where
  turned : (k first : ℕ) → first - 1 ≡ length l - k → concerning tm σ (stretch (reverse l) first (length l)) ≡ reverse (concerning tm σ (take k l))
  turned k first e = rw (take_all (length l) (reverse l) (omega (arith, length-reverse l)), e, reverse_take k l) (keep_reverse _ (take k l))

  -- their oldest one
  oldest : (k first : ℕ) → 1 ≤ k → k ≤ length l → first ≡ suc (length l - k) → get_or (reverse l) (first - 1) no_event ≡ get_or l (k - 1) no_event
  oldest k first low high e =
      let place : length l - 1 - (first - 1) ≡ k - 1 = omega arith in
      get_d_reverse l (first - 1) no_event (omega arith) ∙ ap (λ i. get_or l i no_event) place

  came_match : (k : ℕ) (w : List ℕ) (q : ℕ) → Came tm ok σ may l k w q → Has q (ending tm.pattern 1)
      → (first : ℕ) × MatchFrom may tm (reverse l) first (length l) σ
  came_match k w q c ends =
      let first = suc (length l - k) in
      let b = c.begins in (
        first,
        record {
          match = record {
            from = omega arith;
            upto = omega (arith, b.some, b.inside);
            inside = omega (arith, length-reverse l);
            word = reverse w;
            reading = rw (turned k first (omega arith)) (reading_turned c.reading nothing);
            spoken = spelled tm c.path ends;
          };
          concerned = rw (oldest k first b.some b.inside refl) b.concerned;
          allowed = b.allowed;
        },
      )

  match_came : (first : ℕ) → MatchFrom may tm (reverse l) first (length l) σ
      → (q : ℕ) × Has q (ending tm.pattern 1) × ((k : ℕ) × (w : List ℕ) × Came tm ok σ may l k w q)
  match_came first f =
      let m = f.match in
      let k = length l - (first - 1) in
      let some : 1 ≤ k = omega (arith, m.from, m.upto) in
      let d = rw (turned k first (omega (arith, m.from, m.upto))) at (reading_turned m.reading nothing) in
      let (q, path, ends) = spelling tm ok (reverse m.word) (rw (reverse-reverse m.word) m.spoken) in
      let same : first ≡ suc (length l - k) = omega (arith, m.from, m.upto) in (
        q,
        ends,
        (
          k,
          reverse m.word,
          record {
            reading = rw reverse-reverse at d;
            path = path;
            begins = record {
              some = some;
              inside = omega arith;
              concerned = rw (oldest k first some (omega arith) same) at f.concerned;
              allowed = rw same at f.allowed;
            };
          },
        ),
      )

-- A path is completed just where the event concerns σ and some stretch that ends with it and may begin where it does matches; the trace is newest
-- first on the left.
pub completed_match : (tm : Tracematch) → Proper tm → (may : ℕ → Bool) (σ : Valuation) (t : List Event) (e : Event)
    → (completes (limited (may (suc (length t))) (book_of tm)) σ (reached may (book_of tm) σ t) e ≡ true)
    ↔ ((concerns tm.symbols e σ ≡ true) × ((first : ℕ) × MatchFrom may tm (reverse (e ∷ t)) first (suc (length t)) σ))
completed_match tm ok may σ t e =
    let c = completes_path tm ok σ may t e in (
      λ h. let (n, (q, ends, (k, w, x))) = c.0 h in (n, came_match tm ok σ may (e ∷ t) k w q (path_came tm ok σ may x) ends),
      λ (n, (first, m)).
          let (q, ends, (k, w, x)) = match_came tm ok σ may (e ∷ t) first m in
          c.1 (n, (q, ends, (k, w, came_path tm ok σ may (e ∷ t) k w q x))),
    )

-- what a place binds is an argument
bound_argument : (σ : Valuation) (v : ℕ) (ps : List Parameter) (xs : List ℕ) → any (binds v) ps ≡ true
    → equal_all σ ps xs ≡ true → Memᴰ (get_or σ v 0) xs
bound_argument σ v [] xs b h = absurd (false≢true b)
bound_argument σ v (p ∷ ps) [] b h = absurd (false≢true h)
bound_argument σ v (ignored ∷ ps) (x ∷ xs) b h = Memᴰ.tail (bound_argument σ v ps xs b h)
bound_argument σ v (names u ∷ ps) (x ∷ xs) b h =
    let hs = and_true_split (eqb (get_or σ u 0) x) (equal_all σ ps xs) h in
    ⊎_elim (λ e. Memᴰ.head (ap (λ i. get_or σ i 0) (eqb-true v u e) ∙ eqb-true (get_or σ u 0) x hs.0))
    (λ k. Memᴰ.tail (bound_argument σ v ps xs k hs.1)) (or_true_split (eqb v u) (any (binds v) ps) b)
bound_argument σ v (fixed n ∷ ps) (x ∷ xs) b h = Memᴰ.tail (bound_argument σ v ps xs b (and_true_split (eqb n x) (equal_all σ ps xs) h).1)

-- so a variable that a symbol binds has an argument of each event on which the symbol holds
holds_argument : (s : Symbol) (e : Event) (σ : Valuation) (v : ℕ) → holds s e σ ≡ true → any (binds v) s.parameters ≡ true
    → Memᴰ (get_or σ v 0) e.args
unfolding holds
holds_argument s e σ v h b =
    let hs = and_true_split (eqb s.kind e.kind) (equal_all σ s.parameters e.args) h in
    bound_argument σ v s.parameters e.args b hs.1

well_formed_args : (e : Event) → well_formed e ≡ true → all word32 e.args ≡ true
unfolding well_formed
well_formed_args e h = (and_true_split (leb 1 e.kind && leb e.kind 255 && leb (length e.args) 4) (all word32 e.args) h).1

-- each symbol of a reading holds on an event
read_event : {tm : Tracematch} {σ : Valuation} {es : List Event} {w : List ℕ} {a : ℕ} → Reading tm σ es w → Memᴰ a w
    → (e : Event) × Memᴰ e es × (holds (get_or tm.symbols a no_symbol) e σ ≡ true)
read_event {tm = tm} {σ = σ} {a = a} nothing x4 = elim x4 [ ]
read_event (next {e = e} l h r) (Memᴰ.head p) = (e, Memᴰ.head refl, rw p h)
read_event (next l h r) (Memᴰ.tail m) = let f = read_event r m in (f.0, Memᴰ.tail f.1, f.2)

-- an event of a stretch is one of the trace
stretch_mem : (t : List Event) (first last : ℕ) {e : Event} → Memᴰ e (stretch t first last) → Memᴰ e t
stretch_mem t first last m =
    rw take-append-drop at (Memᴰ.append_left (drop last t) (rw take-append-drop at (Memᴰ.append_right (take (first - 1) (take last t)) m)))

-- a match binds each variable to an argument of an event, so it is a valuation
pub match_valuation : (tm : Tracematch) → Proper tm → (t : List Event) → all well_formed t ≡ true → (first last : ℕ) (σ : Valuation)
    → length σ ≡ tm.variables → Match tm t first last σ → is_valuation tm.variables σ ≡ true
unfolding is_valuation
match_valuation tm ok t good first last σ w m = ap₂ ◌&&◌ (eq-eqb (length σ) tm.variables w) (all_of word32 σ word)
  where
    word : (x : ℕ) → Memᴰ x σ → word32 x ≡ true
    word x k =
        let i = mem_index 0 k in
        let a = any_found _ m.word (ok.binding i.0 (rw w at i.1) m.word m.spoken) in
        let e = read_event m.reading a.1 in
        let f = stretch_mem t first last ((mem_keep _ e.0 _).0 e.1).0 in
        rw (← i.2) (all_at word32 (well_formed_args e.0 (all_at well_formed good f)) (holds_argument _ e.0 σ i.0 e.2 a.2))

-- the same match in another trace
moved : {tm : Tracematch} {σ : Valuation} {t : List Event} {first last : ℕ} (u : List Event) → last ≤ length u → take last t ≡ take last u
    → Match tm t first last σ → Match tm u first last σ
moved u i e m = record { from = m.from; upto = m.upto; inside = i; word = m.word; reading = rw e at m.reading; spoken = m.spoken }

-- a match depends on the trace up to its last event alone
pub match_prefix : (tm : Tracematch) (t : List Event) (first last : ℕ) (σ : Valuation)
    → Match tm t first last σ ↔ (Match tm (take last t) first last σ)
match_prefix tm t first last σ =
    let n = length-take last t in
    let same : take last (take last t) ≡ take last t = take-take last last t (omega arith) in
    (λ m. moved (take last t) (omega (arith, m.inside)) (sym same) m, λ m. moved t (omega (arith, m.inside)) same m)
