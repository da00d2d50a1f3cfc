-- Runs, rows that are meant, and pairings in words: what `listed`, `answered` and `crossed` use by name, written out. For the buyer, beside document
-- 01's "Crossed messages" and demand 2.
use mathlib.Core.Path.{◌≡◌, refl, ap}
use mathlib.Core.Bool.{true, false}
use mathlib.Core.List.{List, [], ◌∷◌, ◌++◌, map, map-map, Memᴰ}
use mathlib.Core.Logic.{◌↔◌, ◌⊎◌, inl, inr, ⊎_elim}
use Prim.Native.Nat.{ℕ, suc, ◌+◌, ◌-◌, ◌*◌, ◌≤◌, ◌<◌}
use native.Mathlib.Omega.{arith}
use borrow.Author.Tests.{ltb-true, lt-ltb}
use lib.Dec.{ltb}
use lib.ListN.{length, take, drop, get_or}
use Rattle.laws.specs.Checks.{FirstToFail, none_fails, fails_here, fails_later}
use Rattle.laws.specs.Lists.{keep, gather}
use Rattle.laws.specs.Order.{ascending}
use Rattle.laws.specs.Parts.{splice}
use Rattle.laws.proofs.Lists.{all_at, all_of}
use Rattle.runs.specs.Runs.{Within}
use Rattle.runs.proofs.Runs.{trace_more, within_one}
use Rattle.pattern.specs.Regex.{In}
use Rattle.meaning.specs.Events.{Event, Valuation, is_valuation, holds, concerns}
use Rattle.meaning.specs.Meaning.{Tracematch, no_symbol, no_event, Reading, nothing, next, Row}
use Rattle.meaning.specs.Book.{book_of}
use Rattle.meaning.specs.Labels.{new_held}
use Rattle.meaning.specs.Room.{Broken}
use Rattle.meaning.specs.Rows.{compare_valuations}
use Rattle.form.specs.Text.{Bytes, is_bytes}
use Rattle.record.specs.Records.{is_record, event_in}
use Rattle.row.specs.RowBytes.{row_bytes}
use Rattle.tally.specs.Tallies.{tallied}
use Rattle.book.specs.declared.Book.{Book}
use Rattle.state.specs.declared.State.{State}
use Rattle.calls.specs.Answers.{number_of, ten_to_thirteen}
use Rattle.calls.specs.Calls.{fresh_state, taken, buffer_after}
use Rattle.calls.specs.Runs.{Lent, Call, event, lent_at, all_bytes, Made, make, run_from, run_of, accepted_in, records_of, trace_of, Delivered}
use Rattle.calls.specs.Runs.{held_after, TooShort, beyond, over, FailsAfter, PassesAfter, Judged}
use Rattle.calls.specs.Runs.{Partners, InOrder, Crossed}
use Rattle.demands.proofs.Checks.{accepted_zero, refused_number}

-- "A run is a list of event calls with one read book …, from the fresh state. Each call gets the state that the call before it returned or left"
pub run_words : (b : Book) (s : State) (l : Lent) (cs : List Call)
    → (run_of b cs ≡ run_from b fresh_state cs) × (run_from b s [] ≡ [])
    × (run_from b s (event l ∷ cs)
    ≡ record {
      lent = l;
      taken = taken b s l.bytes l.buffer l.place l.tally;
      buffer = buffer_after b s l.bytes l.buffer l.place;
    }
    ∷ run_from b (taken b s l.bytes l.buffer l.place l.tally).state cs)
unfolding make
run_words b s l cs = (refl, refl, refl)

-- "An event is accepted where its call answers 0, and the accepted ones in order are the run's trace."
pub trace_words : (m : Made) (ms : List Made)
    → (accepted_in [] ≡ []) × (number_of m.taken.answer ≡ 0 → accepted_in (m ∷ ms) ≡ m ∷ accepted_in ms)
    × ((number_of m.taken.answer ≡ 0 → ⊥) → accepted_in (m ∷ ms) ≡ accepted_in ms)
    × (records_of ms ≡ map (λ m. m.lent.bytes) (accepted_in ms)) × (trace_of ms ≡ map (λ m. event_in m.lent.bytes) (accepted_in ms))
trace_words m ms = (
  refl,
  λ h. rw (accepted_zero m.taken.answer h) refl,
  λ h. rw (refused_number m.taken.answer h) refl,
  refl,
  map-map event_in (λ m. m.lent.bytes) (accepted_in ms),
)

-- what is asked of the calls of a run: that their records are bytes, and nothing else; which element of a list is meant
pub bytes_words : (cs : List Call)
    → (all_bytes cs ≡ true) ↔ ((l : Lent) → Memᴰ (event l) cs → (x : ℕ) → Memᴰ x l.bytes → x < 256)
bytes_words cs = (
  λ h l m x k. ltb-true x 256 (all_at (λ b. ltb b 256) (all_at (λ c. is_bytes (lent_at c).bytes) h m) k),
  λ f. all_of (λ c. is_bytes (lent_at c).bytes) cs (bytes f),
)
  where
    bytes : ((l : Lent) → Memᴰ (event l) cs → (x : ℕ) → Memᴰ x l.bytes → x < 256) → (c : Call) → Memᴰ c cs
        → is_bytes (lent_at c).bytes ≡ true
    bytes f (event l) m = all_of (λ b. ltb b 256) l.bytes (λ x k. lt-ltb x 256 (f l m x k))

pub within_words : (ms : List Made) (i : ℕ) (m : Made) → Within ms i m ↔ ((i < length ms) × ((d : Made) → get_or ms i d ≡ m))
within_words ms i m = (λ w. (w.inside, w.at), λ (h, e). record { inside = h; at = e })

-- "read as symbols that hold": as many symbols as events, each declared, each with a constraint that holds
pub reading_words : (tm : Tracematch) (σ : Valuation) (e : Event) (es : List Event) (a : ℕ) (w : List ℕ)
    → Reading tm σ [] [] × (Reading tm σ [] (a ∷ w) → ⊥) × (Reading tm σ (e ∷ es) [] → ⊥)
    × (Reading tm σ (e ∷ es) (a ∷ w) ↔ ((a < length tm.symbols) × (holds (get_or tm.symbols a no_symbol) e σ ≡ true) × Reading tm σ es w))
reading_words tm σ e es a w = (nothing, λ r. omega (arith, as_many r), λ r. omega (arith, as_many r), (parts, λ (i, h, r). next i h r))
  where
    as_many : {es : List Event} {w : List ℕ} → Reading tm σ es w → length es ≡ length w
    as_many nothing = refl
    as_many (next i h r) = ap suc (as_many r)

    parts : Reading tm σ (e ∷ es) (a ∷ w) → (a < length tm.symbols) × (holds (get_or tm.symbols a no_symbol) e σ ≡ true) × Reading tm σ es w
    parts (next i h r) = (i, h, r)

-- "the valuations that the event concerns and for which some stretch of accepted events ending there, reduced to those that concern the valuation and read
-- as symbols that hold, is a word of the pattern"
pub meant_words : (tm : Tracematch) (t : List Event) (n : ℕ) (σ : Valuation)
    → Row tm t n σ
    ↔ ((is_valuation tm.variables σ ≡ true) × (concerns tm.symbols (get_or t (n - 1) no_event) σ ≡ true)
    × ((i : ℕ) × (w : List ℕ) × (1 ≤ i) × (i ≤ n) × (n ≤ length t)
    × Reading tm σ (keep (λ e. concerns tm.symbols e σ) (drop (i - 1) (take n t))) w × In tm.pattern w))
meant_words tm t n σ = (
  λ r. let m = r.match in (r.valuation, r.concerned, (r.first, m.word, m.from, m.upto, m.inside, m.reading, m.spoken)),
  λ (v, c, (i, w, a, b, l, r, s)).
      record {
        valuation = v;
        concerned = c;
        first = i;
        match = record { from = a; upto = b; inside = l; word = w; reading = r; spoken = s };
      },
)

-- l is, once each and in order, the valuations that are rows after event number n
abbrev pub Exactly : Tracematch → List Event → ℕ → List Valuation → Type 0
Exactly tm t n l = (ascending compare_valuations l ≡ true) × ((σ : Valuation) → Memᴰ σ l ↔ Row tm t n σ)

-- "the rows are, once each and in order, the valuations …", each with the event's number, from the lent place on, and all else as lent; the tally, and
-- the number of the state that is handed back
pub delivered_words : (tm : Tracematch) (t : List Event) (n : ℕ) (m : Made)
    → Delivered tm t n m
    ↔ ((l : List Valuation) × Exactly tm t n l
    × (m.taken.rows ≡ length l) × (m.lent.place + 24 * length l ≤ length m.lent.buffer)
    × (m.buffer ≡ splice m.lent.place (gather (row_bytes n tm.variables) l) m.lent.buffer)
    × (m.taken.tally ≡ tallied m.lent.tally 1 0 (length l)) × (m.taken.state.number ≡ n))
delivered_words tm t n m = (
  λ d. (d.valuations, (d.meant.ordered, d.meant.exact), d.counted, d.fitting, d.written, d.tallies, d.numbered),
  λ (l, (o, e), c, f, w, a, k).
      record {
        valuations = l;
        meant = record { ordered = o; exact = e };
        counted = c;
        fitting = f;
        written = w;
        tallies = a;
        numbered = k;
      },
)

-- what the labels hold after the events of a trace, one after the other from nothing
pub after_words : (tm : Tracematch) (t : List Event) (e : Event)
    → (held_after tm [] ≡ []) × (held_after tm (t ++ (e ∷ [])) ≡ new_held (book_of tm) (held_after tm t) e)
after_words tm t e = (refl, trace_more (new_held (book_of tm)) [] t (e ∷ []))

module _ (tm : Tracematch) (t : List Event) (l : Lent) where
  -- a record in form, and events left to accept
  abbrev pub Usable : Type 0
  Usable = (is_record l.bytes ≡ true) × (length t < 1000000)

  -- some room rule is broken (`broken_words`)
  abbrev pub Crowded : Type 0
  Crowded = Broken (book_of tm) (held_after tm t) (event_in l.bytes)

  -- the rows do not fit (`short_words`)
  abbrev pub Short : Type 0
  Short = TooShort tm t (event_in l.bytes) l.buffer l.place

  abbrev pub Answers : ℕ → Type 0
  Answers k =
      ((k ≡ 10) × (is_record l.bytes ≡ false))
      ⊎ (((k ≡ 11) × (is_record l.bytes ≡ true) × (length t ≡ 1000000))
      ⊎ (((k ≡ 12) × Usable × Crowded) ⊎ (((k ≡ 13) × Usable × (Crowded → ⊥) × Short) ⊎ ((k ≡ 0) × Usable × (Crowded → ⊥) × (Short → ⊥)))))

  -- "Events: 9 to 13 in that order", along a run, where 9 is never
  pub judged_words : (k : ℕ) → Judged tm t l k ↔ Answers k
  judged_words k = (λ j. forth j.first, λ x. record { first = back x })
    where
      First : ℕ → Type 0
      First n = FirstToFail (FailsAfter tm t l) (PassesAfter tm t l) number_of 0 ten_to_thirteen n

      forth : {k : ℕ} → First k → Answers k
      forth (fails_here h) = inl (refl, h)
      forth (fails_later h (fails_here n)) = inr (inl (refl, h, n))
      forth (fails_later h (fails_later n (fails_here b))) = inr (inr (inl (refl, (h, n), b)))
      forth (fails_later h (fails_later n (fails_later b (fails_here s)))) = inr (inr (inr (inl (refl, (h, n), b, s))))
      forth (fails_later h (fails_later n (fails_later b (fails_later s none_fails)))) = inr (inr (inr (inr (refl, (h, n), b, s))))

      back : {k : ℕ} → Answers k → First k
      back (inl (e, h)) = rw e (fails_here h)
      back (inr (inl (e, h, n))) = rw e (fails_later h (fails_here n))
      back (inr (inr (inl (e, (h, n), b)))) = rw e (fails_later h (fails_later n (fails_here b)))
      back (inr (inr (inr (inl (e, (h, n), b, s))))) = rw e (fails_later h (fails_later n (fails_later b (fails_here s))))
      back (inr (inr (inr (inr (e, (h, n), b, s))))) = rw e (fails_later h (fails_later n (fails_later b (fails_later s none_fails))))

-- "row buffer too short, or start place beyond it"
pub short_words : (tm : Tracematch) (t : List Event) (e : Event) (buffer : Bytes) (place : ℕ)
    → TooShort tm t e buffer place
    ↔ ((length buffer < place)
    ⊎ ((l : List Valuation) × Exactly tm (t ++ (e ∷ [])) (suc (length t)) l × (place ≤ length buffer) × (length buffer - place < 24 * length l)))
short_words tm t e buffer place = (forth, λ r. ⊎_elim beyond (λ (l, (o, x), p, s). over l (record { ordered = o; exact = x }) p s) r)
  where
    forth : TooShort tm t e buffer place
        → (length buffer < place)
        ⊎ ((l : List Valuation) × Exactly tm (t ++ (e ∷ [])) (suc (length t)) l × (place ≤ length buffer) × (length buffer - place < 24 * length l))
    forth (beyond h) = inl h
    forth (over l m p s) = inr (l, (m.ordered, m.exact), p, s)

-- "dependent ones in the same order"; "Two events concern a common valuation if some one valuation is concerned by both."
pub order_kept : (tm : Tracematch) (t u : List Bytes) (p : Partners t u)
    → InOrder tm t u p
    ↔ ((i j : ℕ) → i < j → j < length t
    → (σ : Valuation) → is_valuation tm.variables σ ≡ true → concerns tm.symbols (event_in (get_or t i [])) σ ≡ true
    → concerns tm.symbols (event_in (get_or t j [])) σ ≡ true → p.to i < p.to j)
order_kept tm t u p = (
  λ o i j h k σ v x y. o.keeps i j h k (record { common = σ; valuation = v; first = x; second = y }),
  λ f. record { keeps = λ i j h k d. f i j h k d.common d.valuation d.first d.second },
)

-- "Partners are accepted events with the same 20 bytes, one in each run; each accepted event has exactly one partner.": any such pairing is one
pub partners_words : (t u : List Bytes) (to back : ℕ → ℕ)
    → ((i : ℕ) → i < length t → (to i < length u) × (back (to i) ≡ i) × (get_or u (to i) [] ≡ get_or t i []))
    → ((j : ℕ) → j < length u → (back j < length t) × (to (back j) ≡ j))
    → (p : Partners t u) × ((i : ℕ) → p.to i ≡ to i)
partners_words t u to back f g = (
  record {
    to = to;
    back = back;
    to_inside = λ i h. (f i h).0;
    back_inside = λ j h. (g j h).0;
    back_to = λ i h. (f i h).1;
    to_back = λ j h. (g j h).1;
    same = λ i h. (f i h).2;
  },
  λ i. refl,
)

-- "partners have the same row count, and bytes 4 to 23 of their rows are equal, first row to last, as each call left them …. The rows are those of demand 2
-- over the trace of each one's own run."
pub crossed_words : (tm : Tracematch) (xs ys : List Made) (p : Partners (records_of xs) (records_of ys)) → Crossed tm xs ys p
    → (i : ℕ) (m n : Made) → Within (accepted_in xs) i m → Within (accepted_in ys) (p.to i) n
    → Delivered tm (trace_of xs) (suc i) m × Delivered tm (trace_of ys) (suc (p.to i)) n × (m.taken.rows ≡ n.taken.rows)
    × ((j : ℕ) → j < m.taken.rows
    → take 20 (drop (m.lent.place + 24 * j + 4) m.buffer) ≡ take 20 (drop (n.lent.place + 24 * j + 4) n.buffer))
crossed_words tm xs ys p c i m n x y =
    let h = x.inside in
    let a = c.alike i h in
    let e : c.first i h ≡ m = within_one (c.first_at i h) x in
    let f : c.partner i h ≡ n = within_one (c.partner_at i h) y in
    rw (← e, ← f) (a.left, a.right, a.counts, a.bytes)
