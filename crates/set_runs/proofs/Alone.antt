-- `alone`: each book of a set gives, byte 5 apart, the rows that it gives alone over the events that the set accepted, and its state has the same words. For
-- the
-- buyer.
use mathlib.Core.Path.{◌≡◌, refl, sym, ap, ap₂, subst, ◌∙◌}
use mathlib.Core.Bool.{true, cond}
use mathlib.Core.List.{List, [], ◌∷◌, ◌++◌, map}
use Prim.Native.Nat.{ℕ, zero, suc, ◌+◌, ◌*◌, ◌≤◌, ◌<◌}
use native.Mathlib.Omega.{arith}
use borrow.Author.Tests.{le-ltb}
use lib.ListN.{length, get_or, take, set, replicate, length-map, length-replicate}
use lib.Seq.{take-suc, take-take, take_at}
use Rattle.laws.specs.Checks.{first_failing}
use Rattle.laws.specs.Lists.{gather}
use Rattle.laws.specs.Parts.{splice}
use Rattle.laws.proofs.Checks.{first_behind}
use Rattle.runs.specs.Runs.{behind_trace, state_from, Within}
use Rattle.runs.proofs.Runs.{trace_more, within_at, within_one, within_map, result_at}
use Rattle.meaning.specs.Events.{Valuation}
use Rattle.meaning.specs.Meaning.{Tracematch}
use Rattle.meaning.specs.Runs.{Listed}
use Rattle.form.specs.Text.{Bytes}
use Rattle.record.specs.Records.{event_in}
use Rattle.row.specs.RowBytes.{row_size, row_bytes}
use Rattle.book.specs.declared.Book.{Book}
use Rattle.state.specs.declared.State.{State as Struct}
use Rattle.calls.specs.declared.EventAnswer.TheVariants.{Accepted, NoSpace}
use Rattle.calls.specs.Answers.{number_of}
use Rattle.calls.specs.Calls.{is_accepted, fresh_state, rows_by, decisions, no_space, answer_to}
use Rattle.tally.specs.Tallies.{tallied}
use Rattle.demands.proofs.Answered.{listed_once}
use Rattle.demands.proofs.Checks.{accepted_zero}
use Rattle.demands.proofs.Crossed.{listed_width}
use Rattle.demands.proofs.Course.{taken_answer, taken_accepted}
use Rattle.lent_runs.proofs.Checks.{lent_few_rows}
use Rattle.blocks.specs.BookBlock.{book_in}
use Rattle.blocks.specs.StateBlock.{state_in, state_words}
use Rattle.blocks.specs.TallyBlock.{tally_in, tally_words}
use Rattle.blocks.specs.Lent.{read_left, EventLeft, event_left}
use Rattle.lent_runs.specs.Lending.{LentCall, LentMade, lent_bytes, lending, lent_run, lent_as}
use Rattle.parts.specs.Parts.{part_rows}
use Rattle.parts.specs.SetBlock.{block_at, book_part}
use Rattle.parts.proofs.Left.{left_accepted}
use Rattle.set_runs.specs.Setting.{SetMade, books_of, set_run, set_accepted, set_records, set_trace, AllDeclare, row_at, SetDelivered}
use Rattle.set_runs.specs.Setting.{SameAlone, LentEnough, AloneAlike}
use Rattle.set_runs.proofs.SetBlocks.{book_at}
use Rattle.set_runs.proofs.SetRows.{listings_at, row_book, plain_row_law, book_row}
use Rattle.set_runs.proofs.SetCourse.{B, words_next, words_behind, taken_at, own_passes, course_next}
use Rattle.set_runs.proofs.SetListed.{none_refuses, met_listed, met_tracked, taken_count}
use Rattle.set_runs.proofs.Tracked.{tracked_number, tracked_variables}

-- A lent call whose own checks pass and whose rows fit is accepted.
module _ (w s : List ℕ) (c : LentCall) (passes : number_of (first_failing Accepted (decisions (book_in w) (state_in s) c.bytes)) ≡ 0)
    (fits : c.place + row_size * length (rows_by (book_in w) (state_in s) (event_in c.bytes)) ≤ length c.buffer) where
  abbrev b : Book
  b = book_in w

  abbrev z : Struct
  z = state_in s

  abbrev rows : List Valuation
  rows = rows_by b z (event_in c.bytes)

  answer_is : answer_to b z c.bytes c.buffer c.place ≡ Accepted
  unfolding answer_to no_space
  answer_is =
      first_behind Accepted is_accepted (decisions b z c.bytes) (record { fails = no_space b z c.bytes c.buffer c.place; answer = NoSpace } ∷ [])
      refl (accepted_zero (first_failing Accepted (decisions b z c.bytes)) passes)
      ∙ ap (λ x. cond x NoSpace Accepted) (le-ltb (length c.buffer) (c.place + row_size * length rows) fits)

  pub call_alone : event_left w s c.bytes c.buffer c.place c.tally
      ≡ record {
        number = 0;
        rows = length rows;
        buffer = splice c.place (gather (row_bytes (suc z.number) b.variables) rows) c.buffer;
        tally = tally_words (tallied (tally_in c.tally) 1 0 (length rows));
        state = words_next b s c.bytes;
      }
  unfolding event_left
  call_alone =
      let l = lent_as c in
      let yes : is_accepted (answer_to b z c.bytes c.buffer c.place) ≡ true = ap is_accepted answer_is in
      let (count, state, left, tally) = taken_accepted b z l yes in
      rw (taken_answer b z l, answer_is, count, state, left, tally)

-- Book number k of a set, and its run over the records that the set accepted.
module _ (texts : List Bytes) (tms : List Tracematch) (ds : AllDeclare texts tms) (some : 1 ≤ length texts) (few : length texts ≤ 8) (more states : List ℕ)
    (long : 3715 * length texts ≤ length states) (cs : List LentCall) (lent : lent_bytes cs ≡ true)
    (k : ℕ) (text : Bytes) (tm : Tracematch) (wt : Within texts k text) (wm : Within tms k tm) where
  abbrev ms : List SetMade
  ms = set_run texts more states cs

  abbrev rs : List Bytes
  rs = set_records ms

  abbrev own : Book
  own = book_in (read_left text).book

  own_is : B texts tms ds more k ≡ own
  own_is = let a = book_at ds more k tm wm in ap book_in (a.words ∙ ap (λ t. (read_left t).book) (within_one a.there wt))

  abbrev met : ℕ → Struct
  met i = state_in (words_behind own (take i rs))

  -- the accepted call in a place, as book number k has it
  record Own (i : ℕ) (m : SetMade) : Type 0 where
    passes : number_of (first_failing Accepted (decisions own (met i) m.lent.bytes)) ≡ 0
    listed : Listed tm (set_trace ms) (suc i) (rows_by own (met i) (event_in m.lent.bytes))
    numbered : (met i).number ≡ i
    wide : own.variables ≡ tm.variables
    upto : take (suc i) rs ≡ take i rs ++ (m.lent.bytes ∷ [])
    after : block_at 3715 k m.left.states ≡ words_behind own (take (suc i) rs)

  own_at : (i : ℕ) (m : SetMade) → Within (set_accepted ms) i m → Own i m
  unfolding part_rows book_part
  own_at i m w =
      let p = taken_at texts tms ds more states some few long cs lent i m w in
      let bytes = m.lent.bytes in
      let none = none_refuses texts tms ds more states some few long cs i m p in
      let before : take i rs ≡ p.records =
      sym (take-take i (suc i) rs (omega arith)) ∙ ap (take i) p.upto ∙ take_at p.records (bytes ∷ []) i p.count in
      let words : block_at 3715 k p.states_met ≡ words_behind own (take i rs) =
      p.course.words k wm.inside ∙ ap₂ words_behind own_is (sym before) in
      let state : state_in (block_at 3715 k p.states_met) ≡ met i = ap state_in words in
      let tracked = met_tracked texts tms ds more states some few long cs i m p k tm wm in
      let rd = (book_at ds more k tm wm).reads in
      let b = B texts tms ds more k in
      let next = course_next texts tms ds more p.states_met p.records p.course bytes p.lent none in
      let left = p.made
      ∙ left_accepted (books_of texts more) p.states_met bytes (length texts) m.lent.buffer m.lent.place m.lent.tally p.none in
      record {
        passes = rw (own_is, state) at (own_passes texts tms ds more p.states_met p.records p.course bytes p.lent none k wm.inside);
        listed = rw (own_is, state) at (met_listed texts tms ds more states some few long cs i m p k tm wm);
        numbered = ap (λ z. z.number) (sym state) ∙ tracked_number b tm rd _ _ tracked ∙ taken_count texts tms ds more states some few long cs i m p;
        wide = ap (λ b. b.variables) (sym own_is) ∙ tracked_variables b tm rd _ _ tracked;
        upto = p.upto ∙ ap (λ l. l ++ (bytes ∷ [])) (sym before);
        after = ap (λ l. block_at 3715 k l.states) left ∙ next.words k wm.inside ∙ ap₂ words_behind own_is (sym p.upto);
      }

  -- an event has few rows
  own_few : (i : ℕ) (m : SetMade) → Within (set_accepted ms) i m → length (rows_by own (met i) (event_in m.lent.bytes)) ≤ 16 * 129
  own_few i m w =
      let n = 24 * length (rows_by own (met i) (event_in m.lent.bytes)) in
      let words = words_behind own (take i rs) in
      let c : LentCall = record { bytes = m.lent.bytes; buffer = replicate n 0; place = 0; tally = [] } in
      let e = call_alone (read_left text).book words c (own_at i m w).passes (omega (arith, length-replicate {A = ℕ} n 0)) in
      subst (λ k. k ≤ 16 * 129) (ap (λ l. l.rows) e) (lent_few_rows (read_left text).book words m.lent.bytes (replicate n 0) 0 [])

  -- The run of book number k alone.
  module _ (bs : List LentCall) (same : map (λ c. c.bytes) bs ≡ rs) (enough : LentEnough tm (set_trace ms) bs) where
    abbrev start : List ℕ
    start = state_words fresh_state

    -- a call of it has the record of the set's accepted call in its place
    bytes_same : (i : ℕ) (c : LentCall) (m : SetMade) → Within bs i c → Within (set_accepted ms) i m → c.bytes ≡ m.lent.bytes
    bytes_same i c m v w = within_one (subst (λ l. Within l i c.bytes) same (within_map (λ c. c.bytes) v)) (within_map (λ m. m.lent.bytes) w)

    -- so it is accepted, in the words behind the records before it
    alone_left : (i : ℕ) (c : LentCall) (m : SetMade) → Within bs i c → Within (set_accepted ms) i m
        → event_left (read_left text).book (words_behind own (take i rs)) c.bytes c.buffer c.place c.tally
        ≡ record {
          number = 0;
          rows = length (rows_by own (met i) (event_in m.lent.bytes));
          buffer = splice c.place (gather (row_bytes (suc i) tm.variables) (rows_by own (met i) (event_in m.lent.bytes))) c.buffer;
          tally = tally_words (tallied (tally_in c.tally) 1 0 (length (rows_by own (met i) (event_in m.lent.bytes))));
          state = words_behind own (take (suc i) rs);
        }
    alone_left i c m v w =
        let o = own_at i m w in
        let e = bytes_same i c m v w in
        let fits : c.place + row_size * length (rows_by own (met i) (event_in c.bytes)) ≤ length c.buffer =
        rw e (enough i c _ v o.listed) in
        let made : ℕ → ℕ → List Valuation → List ℕ → EventLeft = λ n v l s.
        record {
          number = 0;
          rows = length l;
          buffer = splice c.place (gather (row_bytes (suc n) v) l) c.buffer;
          tally = tally_words (tallied (tally_in c.tally) 1 0 (length l));
          state = s;
        } in
        let now = words_behind own (take i rs) in
        let rows = rows_by own (met i) (event_in m.lent.bytes) in
        call_alone (read_left text).book now c (rw e o.passes) fits
        ∙ ap (λ x. made (met i).number own.variables (rows_by own (met i) (event_in x)) (words_next own now x)) e
        ∙ ap₂ (λ n v. made n v rows (words_next own now m.lent.bytes)) o.numbered o.wide
        ∙ ap (made i tm.variables rows) (sym (ap (words_behind own) o.upto ∙ trace_more (words_next own) start (take i rs) (m.lent.bytes ∷ [])))

    -- the words that it has reached
    reached : (i : ℕ) → i ≤ length bs → state_from (lending (read_left text).book) start (take i bs) ≡ words_behind own (take i rs)
    reached zero h = refl
    reached (suc i) h =
        let (c, v) = within_at bs i h in
        let (m, w) = within_at (set_accepted ms) i (omega (
          arith,
          h,
          sym (length-map bs (λ c. c.bytes)) ∙ ap length same
              ∙ length-map (set_accepted ms) (λ m. m.lent.bytes),
        )) in
        let step : List ℕ → LentCall → List ℕ = λ s c. (event_left (read_left text).book s c.bytes c.buffer c.place c.tally).state in
        ap (behind_trace step start) (take-suc bs i c h ∙ ap (λ x. take i bs ++ (x ∷ [])) (v.at c)) ∙ trace_more step start (take i bs) (c ∷ [])
        ∙ ap (λ s. step s c) (reached i (omega arith)) ∙ ap (λ l. l.state) (alone_left i c m v w)

    pub same_alone : (i : ℕ) (m : SetMade) (a : LentMade) → Within (set_accepted ms) i m → Within (lent_run text bs) i a
        → (d : SetDelivered tms (set_trace ms) (suc i) m) → SameAlone k d.lists m a
    same_alone i m a w u d =
        let (c, v, e) = result_at (lending (read_left text).book) start bs i a u in
        let o = own_at i m w in
        let rows = rows_by own (met i) (event_in m.lent.bytes) in
        let state = reached i (omega (arith, v.inside)) in
        let left : a.left ≡ _ = ap (λ a. a.left) e ∙ ap (λ s. event_left (read_left text).book s c.bytes c.buffer c.place c.tally) state
        ∙ alone_left i c m v w in
        let mine : rows ≡ get_or d.lists k [] = listed_once o.listed (listings_at d.meant k tm wm) in
        let place : a.lent.place ≡ c.place = ap (λ a. a.lent.place) e in
        record {
          accepted = ap (λ l. l.number) left;
          rows = ap (λ l. l.rows) left ∙ ap length mine;
          bytes = λ j h.
              let inside : j < length (get_or d.lists k []) = rw (left, mine) at h in
              let fits : c.place + 24 * length rows ≤ length c.buffer = enough i c rows v o.listed in
              let here : row_at (a.lent.place + 24 * j) a.left.buffer ≡ row_bytes (suc i) tm.variables (get_or (get_or d.lists k []) j []) =
              ap₂ (λ p b. row_at (p + 24 * j) b) place (ap (λ l. l.buffer) left)
              ∙ plain_row_law (suc i) tm.variables rows (listed_width tm (book_at ds more k tm wm).reads.proper o.listed) c.place c.buffer
              (omega arith) j
              (omega (arith, inside, ap length mine)) ∙ ap (λ l. row_bytes (suc i) tm.variables (get_or l j [])) mine in
              book_row ds d k tm wm j inside ∙ row_book (suc i) tm.variables k (get_or (get_or d.lists k []) j []) ∙ ap (λ r. set r 5 k) (sym here);
          state = ap (λ l. l.state) left ∙ sym o.after;
        }

-- for any list of calls to the book alone that lends the accepted records and enough for its rows
pub alone : (texts : List Bytes) (tms : List Tracematch) → AllDeclare texts tms → 1 ≤ length texts → length texts ≤ 8 → (more states : List ℕ)
    → 3715 * length texts ≤ length states → (cs : List LentCall) → lent_bytes cs ≡ true
    → (k : ℕ) (text : Bytes) (tm : Tracematch) → Within texts k text → Within tms k tm
    → (bs : List LentCall) → AloneAlike text k tms tm (set_run texts more states cs) bs
alone texts tms ds some few more states long cs lent k text tm wt wm bs same enough i m a w u d =
    same_alone texts tms ds some few more states long cs lent k text tm wt wm bs same enough i m a w u d

-- space for 16 × 129 rows from the place on is always enough
pub enough_lent : (texts : List Bytes) (tms : List Tracematch) → AllDeclare texts tms → 1 ≤ length texts → length texts ≤ 8 → (more states : List ℕ)
    → 3715 * length texts ≤ length states → (cs : List LentCall) → lent_bytes cs ≡ true
    → (k : ℕ) (text : Bytes) (tm : Tracematch) → Within texts k text → Within tms k tm
    → (bs : List LentCall) → map (λ c. c.bytes) bs ≡ set_records (set_run texts more states cs)
    → ((i : ℕ) (c : LentCall) → Within bs i c → c.place + 24 * (16 * 129) ≤ length c.buffer) → LentEnough tm (set_trace (set_run texts more states cs)) bs
enough_lent texts tms ds some few more states long cs lent k text tm wt wm bs same wide i c l v listed =
    let ms = set_run texts more states cs in
    let count : length bs ≡ length (set_accepted ms) =
    sym (length-map bs (λ c. c.bytes)) ∙ ap length same ∙ length-map (set_accepted ms) (λ m. m.lent.bytes) in
    let (m, w) = within_at (set_accepted ms) i (omega (arith, v.inside, count)) in
    let o = own_at texts tms ds some few more states long cs lent k text tm wt wm i m w in
    let rows : length l ≤ 16 * 129 =
    subst (λ r. length r ≤ 16 * 129) (listed_once o.listed listed) (own_few texts tms ds some few more states long cs lent k text tm wt wm i m w) in
    omega (arith, wide i c v, rows)
