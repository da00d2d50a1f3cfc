-- `lent_demands`: over a text that `watch_read` accepts, all that is promised of the calls by value is so of the lent calls, their numbers, words and bytes.
use mathlib.Core.Path.{◌≡◌, refl, sym, ap, ap₂, subst, ◌∙◌}
use mathlib.Core.Bool.{Bool, true, false, cond}
use mathlib.Core.List.Memᴰ
use mathlib.Core.List.{List, [], ◌∷◌, map, map-map, Memᴰ}
use Prim.Native.Nat.{ℕ, suc, ◌<◌}
use borrow.Author.Tests.{eqb-true, eq-eqb}
use lib.Dec.{eqb}
use lib.ListN.{length, get_or, take, length-map}
use Rattle.laws.proofs.Lists.{and_true_split, all_map, keep_agree, mem_keep}
use Rattle.laws.proofs.Maps.{take_map, keep_map}
use Rattle.runs.specs.Runs.{results_from, Within}
use Rattle.runs.proofs.Runs.{within_at, within_one, within_map, within_mem}
use Rattle.pattern.specs.Regex.{Regex}
use Rattle.meaning.specs.Events.{Event}
use Rattle.meaning.specs.Meaning.{Tracematch}
use Rattle.form.specs.Text.{Bytes, is_bytes, Declarations, tracematch_of}
use Rattle.record.specs.Records.{event_in}
use Rattle.book.specs.declared.Book.{Book}
use Rattle.book.proofs.Bench as Bench
use Rattle.calls.specs.declared.EventAnswer.TheVariants.{Accepted, Unsound, OutOfForm, TooMany, NoRoom, NoSpace}
use Rattle.calls.specs.Answers.{number_of}
use Rattle.calls.specs.Calls.{is_accepted, fresh_state, taken}
use Rattle.calls.specs.Demands.{Demands, run_over}
use Rattle.calls.specs.Runs.{all_bytes, run_from, was_accepted, accepted_in, records_of, trace_of, Delivered, Judged, Partners, InOrder, Alike}
use Rattle.demands.proofs.Checks.{accepted_zero}
use Rattle.demands.proofs.Demands.{demands}
use Rattle.blocks.specs.BookBlock.{book_in}
use Rattle.blocks.specs.StateBlock.{state_held, state_in, state_words, state_stored}
use Rattle.blocks.specs.TallyBlock.{tally_in, tally_words}
use Rattle.blocks.specs.Lent.{read_left, event_left}
use Rattle.blocks.proofs.States.{state_back, state_length, stored_head}
use Rattle.blocks.proofs.Tallies.{tally_back}
use Rattle.lent_runs.specs.Lending.{LentCall, LentMade, lent_bytes, lending, lent_run, lent_taken, lent_accepted, lent_records, lent_trace, lent_as}
use Rattle.lent_runs.specs.Lending.{LentDelivered, LentAlike, LentDemands}
use Rattle.lent_runs.proofs.Accepted.{canonical_after}
use Rattle.lent_runs.proofs.Reading.{read_back}
use Rattle.lent_runs.proofs.Seen.{fresh_canonical, answer_with, answer_back, seen, calls, state_seen, run_seen}

-- accepted is what has the number 0
taken_seen : (n : ℕ) → is_accepted (answer_with n) ≡ eqb n 0
unfolding answer_with
taken_seen n = go (eqb n 0) (eqb n 9) (eqb n 10) (eqb n 11) (eqb n 12)
  where
    go : (a b c d e : Bool) → is_accepted (cond a Accepted (cond b Unsound (cond c OutOfForm (cond d TooMany (cond e NoRoom NoSpace))))) ≡ a
    go true b c d e = refl
    go false true c d e = refl
    go false false true d e = refl
    go false false false true e = refl
    go false false false false true = refl
    go false false false false false = refl

-- The lists of a run of lent calls, and those of what is seen of it.
module _ (b : Book) (ms : List LentMade) where
  accepted_seen : accepted_in (map (seen b) ms) ≡ map (seen b) (lent_accepted ms)
  accepted_seen =
      keep_map was_accepted (seen b) ms
      ∙ ap (map (seen b)) (keep_agree (λ m. was_accepted (seen b m)) lent_taken ms (λ m k. taken_seen m.left.number))

  records_seen : records_of (map (seen b) ms) ≡ lent_records ms
  records_seen = ap (map (λ m. m.lent.bytes)) accepted_seen ∙ map-map (λ m. m.lent.bytes) (seen b) (lent_accepted ms)

  trace_seen : trace_of (map (seen b) ms) ≡ lent_trace ms
  trace_seen = ap (map event_in) records_seen

-- What is told of a call by its words alone.
record Backed (m : LentMade) : Type 0 where
  pub number : number_of (answer_with m.left.number) ≡ m.left.number
  pub tally : tally_words (tally_in m.left.tally) ≡ m.left.tally
  pub state : lent_taken m ≡ true → get_or m.left.state 1 0 ≡ (state_in m.left.state).number

-- the second word of a state of this layout is its event number
second_word : (w : List ℕ) → get_or w 0 0 ≡ 2001 → get_or w 1 0 ≡ (state_in w).number
unfolding state_in state_held
second_word w h = rw (eq-eqb (get_or w 0 0) 2001 h)

backed_one : (w s : List ℕ) → length s ≡ 3715 → (c : LentCall) → is_bytes c.bytes ≡ true → Backed ((lending w).gives s c)
unfolding event_left
backed_one w s long c here =
    let t = taken (book_in w) (state_in s) c.bytes c.buffer c.place (tally_in c.tally) in
    record {
      number = ap number_of (answer_back t.answer);
      tally = ap tally_words (tally_back t.tally);
      state = λ a.
          let zero : number_of t.answer ≡ 0 = eqb-true (number_of t.answer) 0 a in
          let can = canonical_after (book_in w) (state_in s) c.bytes here c.buffer c.place (tally_in c.tally) zero in
          rw (accepted_zero t.answer zero) (second_word (state_stored s t.state) (stored_head s long t.state can).0);
    }

each_backed : (w s : List ℕ) → length s ≡ 3715 → (cs : List LentCall) → lent_bytes cs ≡ true
    → (m : LentMade) → Memᴰ m (results_from (lending w) s cs) → Backed m
each_backed w s long [] h m k = absurd (Memᴰ.not-nil k)
each_backed w s long (c ∷ cs) h m (Memᴰ.head e) =
    subst Backed (sym e) (backed_one w s long c (and_true_split (is_bytes c.bytes) (lent_bytes cs) h).0)
each_backed w s long (c ∷ cs) h m (Memᴰ.tail k) =
    let (here, rest) = and_true_split (is_bytes c.bytes) (lent_bytes cs) h in
    each_backed w (event_left w s c.bytes c.buffer c.place c.tally).state (state_seen w s long c here).1 cs rest m k

-- Demand 2 and demand 3 for one call, from what is seen of it.
module _ (tm : Tracematch) (b : Book) where
  unfoldable delivered_seen : (t : List Event) (n : ℕ) (m : LentMade) → Backed m → lent_taken m ≡ true → Delivered tm t n (seen b m) → LentDelivered tm t n m
  delivered_seen t n m k a g =
      record {
        valuations = g.valuations;
        meant = g.meant;
        counted = g.counted;
        fitting = g.fitting;
        written = g.written;
        tallies = sym k.tally ∙ ap tally_words g.tallies;
        numbered = k.state a ∙ g.numbered;
      }

  alike_seen : (t u : List Event) (n k : ℕ) (a c : LentMade) → Backed a → Backed c → lent_taken a ≡ true → lent_taken c ≡ true
      → Alike tm t u n k (seen b a) (seen b c) → LentAlike tm t u n k a c
  unfolding delivered_seen
  alike_seen t u n k a c x y i j g =
      record {
        left = delivered_seen t n a x i g.left;
        right = delivered_seen u k c y j g.right;
        valuations = g.valuations;
        counts = g.counts;
        bytes = g.bytes;
      }

-- A text that `watch_read` accepts, and lent calls over it.
module _ (text : Bytes) (read : (read_left text).number ≡ 0) (cs : List LentCall) (bytes : lent_bytes cs ≡ true) where
  abbrev w : List ℕ
  w = (read_left text).book

  abbrev b : Book
  b = book_in w

  abbrev ms : List LentMade
  ms = lent_run text cs

  calls_bytes : all_bytes (calls cs) ≡ true
  calls_bytes = all_map _ _ cs ∙ bytes

  over : map (seen b) ms ≡ run_over text (calls cs)
  over =
      run_seen w (state_words fresh_state) (state_length fresh_state fresh_canonical) cs bytes
      ∙ ap₂ (λ z s. run_from z s (calls cs)) (read_back text read) (state_back fresh_state fresh_canonical)

  backed : (i : ℕ) (m : LentMade) → Within ms i m → Backed m
  backed i m k = each_backed w (state_words fresh_state) (state_length fresh_state fresh_canonical) cs bytes m (within_mem k)

  accepted_backed : (i : ℕ) (m : LentMade) → Within (lent_accepted ms) i m → Backed m × (lent_taken m ≡ true)
  accepted_backed i m k =
      let (e, t) = (mem_keep lent_taken m ms).0 (within_mem k) in
      (each_backed w (state_words fresh_state) (state_length fresh_state fresh_canonical) cs bytes m e, t)

  -- an accepted call is one of the accepted calls by value
  accepted_over : (i : ℕ) (m : LentMade) → Within (lent_accepted ms) i m → Within (accepted_in (run_over text (calls cs))) i (seen b m)
  accepted_over i m k = subst (λ l. Within l i (seen b m)) (sym (accepted_seen b ms) ∙ ap accepted_in over) (within_map (seen b) k)

  records_over : records_of (run_over text (calls cs)) ≡ lent_records ms
  records_over = ap records_of (sym over) ∙ records_seen b ms

  trace_over : trace_of (run_over text (calls cs)) ≡ lent_trace ms
  trace_over = ap (map event_in) records_over

-- The demands.
module _ (text : Bytes) (read : (read_left text).number ≡ 0) (d : Declarations) (r : Regex) (q : Demands text d r) where
  abbrev tm : Tracematch
  tm = tracematch_of d r

  abbrev b' : Book
  b' = book_in (read_left text).book

  rows : (cs : List LentCall) → lent_bytes cs ≡ true → (i : ℕ) (m : LentMade) → Within (lent_accepted (lent_run text cs)) i m
      → LentDelivered tm (lent_trace (lent_run text cs)) (suc i) m
  rows cs h i m k =
      let (x, a) = accepted_backed text read cs h i m k in
      delivered_seen tm b' (lent_trace (lent_run text cs)) (suc i) m x a
      (subst (λ t. Delivered tm t (suc i) (seen b' m)) (trace_over text read cs h)
      (q.rows (calls cs) (calls_bytes text read cs h) i (seen b' m) (accepted_over text read cs h i m k)))

  answers : (cs : List LentCall) → lent_bytes cs ≡ true → (k : ℕ) (m : LentMade) → Within (lent_run text cs) k m
      → Judged tm (lent_trace (take k (lent_run text cs))) (lent_as m.lent) m.left.number
  answers cs h k m v =
      let ms = lent_run text cs in
      let e = over text read cs h in
      let before : trace_of (take k (run_over text (calls cs))) ≡ lent_trace (take k ms) =
      ap (λ l. trace_of (take k l)) (sym e) ∙ ap trace_of (take_map (seen b') k ms) ∙ trace_seen b' (take k ms) in
      let found : Within (run_over text (calls cs)) k (seen b' m) = subst (λ l. Within l k (seen b' m)) e (within_map (seen b') v) in
      subst (λ n. Judged tm (lent_trace (take k ms)) (lent_as m.lent) n) (backed text read cs h k m v).number
      (subst (λ t. Judged tm t (lent_as m.lent) (number_of (answer_with m.left.number))) before
      (q.answers (calls cs) (calls_bytes text read cs h) k (seen b' m) found))

  module _ (xs ys : List LentCall) (hx : lent_bytes xs ≡ true) (hy : lent_bytes ys ≡ true) where
    abbrev X : List LentMade
    X = lent_run text xs

    abbrev Y : List LentMade
    Y = lent_run text ys

    -- the claim, for the records of both runs by whatever name
    abbrev Claim : List Bytes → List Bytes → Type 0
    Claim t u = (p : Partners t u) → InOrder tm t u p → (i : ℕ) (a : LentMade) → Within (lent_accepted X) i a
        → (c : LentMade) × Within (lent_accepted Y) (p.to i) c × LentAlike tm (lent_trace X) (lent_trace Y) (suc i) (suc (p.to i)) a c

    by_value : Claim (records_of (run_over text (calls xs))) (records_of (run_over text (calls ys)))
    by_value p o i a k =
        let z = q.crossed (calls xs) (calls ys) (calls_bytes text read xs hx) (calls_bytes text read ys hy) p o in
        let there = accepted_over text read xs hx i a k in
        let inside = there.inside in
        let j = p.to i in
        let same : z.first i inside ≡ seen b' a = within_one (z.first_at i inside) there in
        let size : length (accepted_in (run_over text (calls ys))) ≡ length (lent_accepted Y) =
        ap (λ l. length (accepted_in l)) (sym (over text read ys hy)) ∙ ap length (accepted_seen b' Y) ∙ length-map (lent_accepted Y) (seen b') in
        let enough : j < length (lent_accepted Y) = subst (λ n. j < n) size (z.partner_at i inside).inside in
        let (c, v) = within_at (lent_accepted Y) j enough in
        let partner : z.partner i inside ≡ seen b' c = within_one (z.partner_at i inside) (accepted_over text read ys hy j c v) in
        let (x, g) = accepted_backed text read xs hx i a k in
        let (y, f) = accepted_backed text read ys hy j c v in
        let met : Alike tm (trace_of (run_over text (calls xs))) (trace_of (run_over text (calls ys))) (suc i) (suc j) (seen b' a) (seen b' c) =
        subst (λ m. Alike tm (trace_of (run_over text (calls xs))) (trace_of (run_over text (calls ys))) (suc i) (suc j) m (seen b' c)) same
        (subst (λ m. Alike tm (trace_of (run_over text (calls xs))) (trace_of (run_over text (calls ys))) (suc i) (suc j) (z.first i inside) m) partner
        (z.alike i inside)) in
        let alike : Alike tm (lent_trace X) (lent_trace Y) (suc i) (suc j) (seen b' a) (seen b' c) =
        subst (λ t. Alike tm t (lent_trace Y) (suc i) (suc j) (seen b' a) (seen b' c)) (trace_over text read xs hx)
        (subst (λ u. Alike tm (trace_of (run_over text (calls xs))) u (suc i) (suc j) (seen b' a) (seen b' c)) (trace_over text read ys hy) met) in
        (c, v, alike_seen tm b' (lent_trace X) (lent_trace Y) (suc i) (suc j) a c x y g f alike)

    crossed : Claim (lent_records X) (lent_records Y)
    crossed =
        subst (λ t. Claim t (lent_records Y)) (records_over text read xs hx)
        (subst (Claim (records_of (run_over text (calls xs)))) (records_over text read ys hy) by_value)

-- A text that `watch_read` accepts has one list of declarations and one tree, and all that is promised holds of the lent calls over it.
pub lent_demands : (text : Bytes) → (read_left text).number ≡ 0
    → (d : Declarations) × (r : Regex) × LentDemands text d r × ((e : Declarations) (q : Regex) → LentDemands text e q → (e ≡ d) × (q ≡ r))
unfolding read_left
lent_demands text h =
    let (d, r, q, _) = demands text h in (
      d,
      r,
      record { form = q.form; rows = rows text h d r q; answers = answers text h d r q; crossed = crossed text h d r q },
      λ e z g. Bench.unique text e d z r g.form.shape q.form.shape,
    )
