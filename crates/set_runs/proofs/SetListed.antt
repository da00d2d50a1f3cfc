-- `set_listed`: along every run on a set of read texts the rows of each book are those of the declarative meaning over the events that the set accepted, in the
-- lent buffer in book order. For the buyer.
use mathlib.Core.Path.{◌≡◌, refl, sym, ap, ap₂, ◌∙◌}
use mathlib.Core.Bool.{true}
use mathlib.Core.List.{List, [], ◌∷◌, ◌++◌, map, map-append}
use Prim.Native.Nat.{ℕ, suc, ◌+◌, ◌*◌, ◌≤◌}
use native.Mathlib.Numerals.{add-one}
use native.Mathlib.Omega.{arith}
use lib.ListN.{length, get_or, take, length-map, length-append}
use Rattle.laws.specs.Checks.{first_failing}
use Rattle.laws.specs.Lists.{gather, numbers}
use Rattle.laws.specs.Parts.{splice}
use Rattle.laws.proofs.Maps.{take_map, gather_map}
use Rattle.runs.specs.Runs.{Within}
use Rattle.runs.proofs.Runs.{within_at}
use Rattle.meaning.specs.Events.{Event, Valuation, well_formed}
use Rattle.meaning.specs.Meaning.{Tracematch}
use Rattle.meaning.specs.Runs.{Listed}
use Rattle.automaton.proofs.Listed.{listed_prefix}
use Rattle.form.specs.Text.{Bytes}
use Rattle.record.specs.Records.{event_in}
use Rattle.record.proofs.Records.{record_event}
use Rattle.state.specs.declared.State.{State as Struct}
use Rattle.tally.specs.Tallies.{tallied}
use Rattle.blocks.specs.StateBlock.{state_in}
use Rattle.blocks.specs.TallyBlock.{tally_in, tally_words}
use Rattle.lent_runs.specs.Lending.{LentCall, lent_bytes}
use Rattle.parts.specs.Parts.{row_with, part_rows, part_bytes, rows_together}
use Rattle.parts.specs.SetBlock.{block_at, book_part, parts_in}
use Rattle.parts.proofs.Left.{number_zero, left_accepted}
use Rattle.set_runs.specs.Setting.{SetMade, books_of, set_run, set_accepted, set_records, set_trace, AllDeclare, row_count, rows_from, SetDelivered}
use Rattle.set_runs.proofs.SetBlocks.{Among, among_first, among_rest, among_all, book_at, declares_length}
use Rattle.set_runs.proofs.SetRows.{listings_of}
use Rattle.set_runs.proofs.SetCourse.{B, TakenAt, taken_at, own_passes, passes_form, course_state, course_next}
use Rattle.set_runs.proofs.Tracked.{Tracked, tracked_number, tracked_variables, tracked_listed}

-- An accepted call in its place.
module _ (texts : List Bytes) (tms : List Tracematch) (ds : AllDeclare texts tms) (more states : List ℕ) (some : 1 ≤ length texts) (few : length texts ≤ 8)
    (long : 3715 * length texts ≤ length states) (cs : List LentCall) (i : ℕ) (m : SetMade) (p : TakenAt texts tms ds more states some few long cs i m) where
  abbrev bytes : Bytes
  bytes = m.lent.bytes

  abbrev pub event_now : Event
  event_now = event_in bytes

  abbrev S : List ℕ
  S = p.states_met

  abbrev before : List Event
  before = map event_in p.records

  abbrev trace : List Event
  trace = set_trace (set_run texts more states cs)

  abbrev own : List ℕ
  own = books_of texts more

  -- the state that book number k met
  abbrev z : ℕ → Struct
  z k = state_in (block_at 3715 k S)

  pub taken_upto : take (suc i) trace ≡ before ++ (event_now ∷ [])
  taken_upto =
      take_map event_in (suc i) (set_records (set_run texts more states cs)) ∙ ap (map event_in) p.upto ∙ map-append event_in p.records (bytes ∷ [])

  pub taken_count : length before ≡ i
  taken_count = length-map p.records event_in ∙ p.count

  pub none_refuses : first_failing 0 (gather (λ p. p.checks) (parts_in own S bytes (length texts))) ≡ 0
  none_refuses = (number_zero own S bytes (length texts) m.lent.buffer m.lent.place p.none).1

  -- book number k
  module _ (k : ℕ) (tm : Tracematch) (w : Within tms k tm) where
    pub met_tracked : Tracked tm before (z k)
    met_tracked = course_state texts tms ds more S p.records p.course k tm w

    pub event_formed : well_formed event_now ≡ true
    event_formed =
        record_event bytes p.lent
        (passes_form (B texts tms ds more k) (z k) bytes (own_passes texts tms ds more S p.records p.course bytes p.lent none_refuses k w.inside))

    pub met_listed : Listed tm trace (suc i) (part_rows event_now (book_part own S bytes k))
    unfolding part_rows book_part
    met_listed =
        let l = tracked_listed (B texts tms ds more k) tm (book_at ds more k tm w).reads before (z k) met_tracked event_now event_formed in
        listed_prefix tm trace (before ++ (event_now ∷ [])) i _ taken_upto (rw taken_count at l)

    own_bytes : part_bytes event_now (book_part own S bytes k) ≡ gather (row_with (suc i) tm.variables k 0) (part_rows event_now (book_part own S bytes k))
    unfolding part_bytes book_part
    own_bytes =
        let rd = (book_at ds more k tm w).reads in
        rw (
          tracked_number (B texts tms ds more k) tm rd before (z k) met_tracked,
          taken_count,
          tracked_variables (B texts tms ds more k) tm rd before (z k) met_tracked,
        )

  -- the books from number k on
  abbrev lists_from : ℕ → ℕ → List (List Valuation)
  lists_from k n = map (λ j. part_rows event_now (book_part own S bytes j)) (numbers k n)

  bytes_from : (k : ℕ) (us : List Tracematch) → Among tms k us
      → gather (part_bytes event_now) (map (book_part own S bytes) (numbers k (length us))) ≡ rows_from (suc i) k us (lists_from k (length us))
  bytes_from k [] a = refl
  bytes_from k (tm ∷ us) a = ap₂ ◌++◌ (own_bytes k tm (among_first tms k tm us a)) (bytes_from (suc k) us (among_rest tms k tm us a))

  abbrev pub lists_now : List (List Valuation)
  lists_now = lists_from 0 (length tms)

  pub counted_now : rows_together event_now (parts_in own S bytes (length texts)) ≡ row_count lists_now
  unfolding rows_together
  counted_now =
      ap (λ n. length (gather (part_rows event_now) (parts_in own S bytes n))) (declares_length ds)
      ∙ ap length (gather_map (part_rows event_now) (book_part own S bytes) (numbers 0 (length tms))
      ∙ sym (gather_map (λ l. l) (λ j. part_rows event_now (book_part own S bytes j)) (numbers 0 (length tms))))

  pub delivered_now : SetDelivered tms trace (suc i) m
  delivered_now =
      let c = course_next texts tms ds more S p.records p.course bytes p.lent none_refuses in
      let left = p.made ∙ left_accepted own S bytes (length texts) m.lent.buffer m.lent.place m.lent.tally p.none in
      record {
        lists = lists_now;
        meant = listings_of (λ j. part_rows event_now (book_part own S bytes j)) 0 tms (λ j tm w. let e : j ≡ 0 + j = omega arith in
            rw (sym e) (met_listed j tm w));
        counted = ap (λ l. l.rows) left ∙ counted_now;
        fitting = rw counted_now at (number_zero own S bytes (length texts) m.lent.buffer m.lent.place p.none).2;
        written = ap (λ l. l.buffer) left
            ∙ ap (λ b. splice m.lent.place b m.lent.buffer)
            (ap (λ n. gather (part_bytes event_now) (parts_in own S bytes n)) (declares_length ds) ∙ bytes_from 0 tms (among_all tms));
        tallies = ap (λ l. l.tally) left ∙ ap (λ n. tally_words (tallied (tally_in m.lent.tally) 1 0 n)) counted_now;
        numbered = λ k h.
            let (tm, w) = within_at tms k h in
            ap (λ l. get_or (block_at 3715 k l.states) 1 0) left ∙ ap (λ b. get_or b 1 0) (c.words k h) ∙ (c.behind k tm w).numbered
            ∙ length-append p.records (bytes ∷ []) ∙ ap (λ n. n + 1) p.count ∙ add-one i;
      }

-- demand 2 for sets
pub set_listed : (texts : List Bytes) (tms : List Tracematch) → AllDeclare texts tms → 1 ≤ length texts → length texts ≤ 8 → (more states : List ℕ)
    → 3715 * length texts ≤ length states → (cs : List LentCall) → lent_bytes cs ≡ true
    → (i : ℕ) (m : SetMade) → Within (set_accepted (set_run texts more states cs)) i m
    → SetDelivered tms (set_trace (set_run texts more states cs)) (suc i) m
set_listed texts tms ds some few more states long cs lent i m w =
    delivered_now texts tms ds more states some few long cs i m (taken_at texts tms ds more states some few long cs lent i m w)
