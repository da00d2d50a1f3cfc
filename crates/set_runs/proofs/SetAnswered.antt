-- `set_answered`: the answer to each call of a run on a set of read texts, by the stated rules and in no other case; 9 and 14 never come. For the buyer.
use mathlib.Core.Path.{◌≡◌, refl, sym, ap, subst, ◌∙◌}
use mathlib.Core.Bool.{Bool, true, false, cond, not, ◌&&◌, true≢false}
use mathlib.Core.List.{List, [], ◌∷◌, ◌++◌, map}
use mathlib.Core.Logic.{⊎_elim, dite}
use Prim.Native.Nat.{ℕ, suc, ◌+◌, ◌*◌, ◌≤◌, ◌<◌}
use native.Mathlib.Decide.{dec_lt}
use native.Mathlib.Nat.{eq-or-lt_of_le}
use native.Mathlib.Omega.{arith}
use borrow.Author.Tests.{not-true, not-false, eqb-true, eqb-false, ltb-true, ltb-false}
use lib.Dec.{eqb}
use lib.ListN.{length, take}
use Rattle.laws.specs.Checks.{Check, first_failing, FirstToFail, none_fails, fails_here, fails_later}
use Rattle.laws.specs.Lists.{all, gather, numbers}
use Rattle.laws.proofs.Checks.{first_once, first_all}
use Rattle.laws.proofs.Lists.{and_true_split}
use Rattle.laws.proofs.Maps.{gather_map}
use Rattle.runs.specs.Runs.{Within}
use Rattle.meaning.specs.Events.{Event, Valuation, well_formed}
use Rattle.meaning.specs.Meaning.{Tracematch}
use Rattle.meaning.specs.Sound.{event_limit}
use Rattle.automaton.proofs.NoRoom.{no_room_law}
use Rattle.form.specs.Text.{Bytes}
use Rattle.record.specs.Records.{is_record, event_in}
use Rattle.record.proofs.Records.{record_event}
use Rattle.row.specs.RowBytes.{row_size}
use Rattle.book.specs.declared.Book.{Book}
use Rattle.state.specs.declared.State.{State as Struct}
use Rattle.calls.specs.declared.EventAnswer.TheVariants.{Accepted, Unsound, OutOfForm, TooMany, NoRoom, NoSpace}
use Rattle.calls.specs.Calls as Calls
use Rattle.demands.proofs.Bridge.{Read}
use Rattle.blocks.specs.StateBlock.{state_in}
use Rattle.lent_runs.specs.Lending.{LentCall, lent_bytes}
use Rattle.parts.specs.Parts.{part_rows, rows_together, no_space_together, number_for}
use Rattle.parts.specs.SetBlock.{block_at, outside, book_part, parts_in, set_left}
use Rattle.parts.proofs.Blocks.{inside}
use Rattle.parts.proofs.Left.{left_number}
use Rattle.set_runs.specs.SetChecks.{SetCheck, of_count, of_book, of_rows, check_number}
use Rattle.set_runs.specs.Setting.{SetMade, books_of, set_run, set_records, set_trace, AllDeclare, Listings, row_count}
use Rattle.set_runs.specs.Setting.{TooShortTogether, beyond_buffer, over_buffer, SetFailsAfter, SetPassesAfter, checks_after, SetJudged}
use Rattle.set_runs.proofs.SetBlocks.{Among, among_first, among_rest, among_all, book_at, books_long, declares_length}
use Rattle.set_runs.proofs.SetRows.{listings_of, listings_once}
use Rattle.set_runs.proofs.SetCourse.{B, Course, course_state, met_at, right_count}
use Rattle.set_runs.proofs.Tracked.{Tracked, tracked_number, tracked_few, tracked_room, tracked_sound, tracked_listed}

-- one check more, as it is computed; what comes behind it is only asked for where it passes
check_more : {K : Type 0} {Fails Passes : K → Type 0} {number : K → ℕ} {ks : List K} {r : ℕ} (z : Bool) (k : K) → (z ≡ true → Fails k)
    → (z ≡ false → Passes k) → (z ≡ false → FirstToFail Fails Passes number 0 ks r) → FirstToFail Fails Passes number 0 (k ∷ ks) (cond z (number k) r)
check_more true k f p rest = fails_here (f refl)
check_more false k f p rest = fails_later (p refl) (rest refl)

-- A call behind the records that were accepted.
module _ (texts : List Bytes) (tms : List Tracematch) (ds : AllDeclare texts tms) (more : List ℕ) (S : List ℕ) (rs : List Bytes)
    (c : Course texts tms ds more S rs) (l : LentCall) (formed : is_record l.bytes ≡ true → well_formed (event_in l.bytes) ≡ true) where
  abbrev own : List ℕ
  own = books_of texts more

  abbrev t : List Event
  t = map event_in rs

  abbrev e : Event
  e = event_in l.bytes

  abbrev z : ℕ → Struct
  z k = state_in (block_at 3715 k S)

  abbrev FirstOf : List (SetCheck Tracematch) → ℕ → Type 0
  FirstOf ks n = FirstToFail (SetFailsAfter tms t l) (SetPassesAfter tms t l) check_number 0 ks n

  -- the rows of all books
  abbrev lists : List (List Valuation)
  lists = map (λ j. part_rows e (book_part own S l.bytes j)) (numbers 0 (length tms))

  lists_are : is_record l.bytes ≡ true → Listings (t ++ (e ∷ [])) (suc (length t)) tms lists
  unfolding part_rows book_part
  lists_are f =
      listings_of (λ j. part_rows e (book_part own S l.bytes j)) 0 tms λ j tm w.
      let s : j ≡ 0 + j = omega arith in
      rw (sym s)
      (tracked_listed (B texts tms ds more j) tm (book_at ds more j tm w).reads t (z j) (course_state texts tms ds more S rs c j tm w) e (formed f))

  counted : rows_together e (parts_in own S l.bytes (length texts)) ≡ row_count lists
  unfolding rows_together
  counted =
      ap (λ n. length (gather (part_rows e) (parts_in own S l.bytes n))) (declares_length ds)
      ∙ ap length (gather_map (part_rows e) (book_part own S l.bytes) (numbers 0 (length tms))
      ∙ sym (gather_map (λ x. x) (λ j. part_rows e (book_part own S l.bytes j)) (numbers 0 (length tms))))

  -- where the rows of all would end
  abbrev end : ℕ
  end = l.place + row_size * rows_together e (parts_in own S l.bytes (length texts))

  end_is : end ≡ l.place + row_size * row_count lists
  end_is = ap (λ n. l.place + row_size * n) counted

  abbrev short : Bool
  short = no_space_together [] (parts_in own S l.bytes (length texts)) e l.buffer l.place

  short_told : is_record l.bytes ≡ true → short ≡ true → TooShortTogether tms t e l.buffer l.place
  unfolding no_space_together
  short_told f h =
      let over : length l.buffer < end = ltb-true (length l.buffer) end h in
      let same = end_is in
      dite (dec_lt (length l.buffer) l.place) beyond_buffer (λ n. over_buffer lists (lists_are f) (omega arith) (omega arith))

  long_told : is_record l.bytes ≡ true → short ≡ false → TooShortTogether tms t e l.buffer l.place → ⊥
  unfolding no_space_together
  long_told f h =
      let same = end_is in
      go (omega (arith, ltb-false (length l.buffer) end h))
    where
      go : l.place + row_size * row_count lists ≤ length l.buffer → TooShortTogether tms t e l.buffer l.place → ⊥
      go fits (beyond_buffer k) = omega arith
      go fits (over_buffer ls m k j) = let x = ap row_count (listings_once m (lists_are f)) in omega arith

  -- book number k: 9 passes, and 10 to 12 are as in words
  module _ (k : ℕ) (tm : Tracematch) (w : Within tms k tm) where
    abbrev b : Book
    b = B texts tms ds more k

    reads : Read b tm
    reads = (book_at ds more k tm w).reads

    tracked : Tracked tm t (z k)
    tracked = course_state texts tms ds more S rs c k tm w

    wholly : outside own S l.bytes k ≡ false
    wholly =
        let h = w.inside in
        let same = declares_length ds in
        inside own S l.bytes k (omega (arith, books_long ds more)) (omega (arith, c.room))

    few_told : Calls.too_many b (z k) l.bytes ≡ false → length t < event_limit
    unfolding Calls.too_many
    few_told h =
        ⊎_elim (λ x. absurd (eqb-false _ event_limit h (tracked_number b tm reads t (z k) tracked
        ∙ x))) (λ x. x) (eq-or-lt_of_le (tracked_few b tm reads t (z k) tracked))

    book_first : {ks : List (SetCheck Tracematch)} {r : ℕ} → (is_record l.bytes ≡ true → FirstOf ks r)
        → FirstOf (of_book tm OutOfForm ∷ of_book tm TooMany ∷ of_book tm NoRoom ∷ ks)
        (cond (outside own S l.bytes k) 9 (cond (Calls.unsound b (z k) l.bytes) 9 (cond (Calls.out_of_form b (z k) l.bytes) 10
        (cond (Calls.too_many b (z k) l.bytes) 11 (cond (Calls.no_room b (z k) l.bytes) 12 r)))))
    unfolding Calls.out_of_form Calls.too_many Calls.no_room
    book_first rest =
        let same = tracked_room b tm reads t (z k) tracked e in
        rw (wholly, tracked_sound b tm reads t (z k) tracked l.bytes)
        (check_more (Calls.out_of_form b (z k) l.bytes) (of_book tm OutOfForm) (not-true _) (not-false _) λ f.
        check_more (Calls.too_many b (z k) l.bytes) (of_book tm TooMany) (λ h. sym (tracked_number b tm reads t (z k) tracked)
        ∙ eqb-true _ event_limit h) few_told λ _.
        check_more (Calls.no_room b (z k) l.bytes) (of_book tm NoRoom) (λ h. (no_room_law _ _ e).0 (sym same ∙ not-true _ h))
        (λ h y. true≢false (sym (sym same ∙ not-false _ h) ∙ (no_room_law _ _ e).1 y)) λ _. rest (not-false _ f))

  abbrev keys : Tracematch → List (SetCheck Tracematch)
  keys tm = of_book tm OutOfForm ∷ of_book tm TooMany ∷ of_book tm NoRoom ∷ []

  abbrev last : List (Check ℕ)
  last = record { fails = short; answer = 13 } ∷ []

  -- the books from number k on, of a record in form, and then the space
  books_from : is_record l.bytes ≡ true → (k : ℕ) (us : List Tracematch) → Among tms k us
      → FirstOf (gather keys us ++ (of_rows ∷ [])) (first_failing 0 (gather (λ p. p.checks) (map (book_part own S l.bytes) (numbers k (length us))) ++ last))
  unfolding book_part
  books_from f k [] a = check_more short of_rows (short_told f) (long_told f) λ _. none_fails
  books_from f k (tm ∷ us) a = book_first k tm (among_first tms k tm us a) λ _. books_from f (suc k) us (among_rest tms k tm us a)

  -- of any record, where there is a book
  books_any : (us : List Tracematch) → 1 ≤ length us → Among tms 0 us
      → FirstOf (gather keys us ++ (of_rows ∷ [])) (first_failing 0 (gather (λ p. p.checks) (map (book_part own S l.bytes) (numbers 0 (length us))) ++ last))
  unfolding book_part
  books_any [] some a = absurd (omega arith)
  books_any (tm ∷ us) some a = book_first 0 tm (among_first tms 0 tm us a) λ f. books_from f 1 us (among_rest tms 0 tm us a)

  pub judged_behind : 1 ≤ length texts → length texts ≤ 8 → (tally : List ℕ)
      → SetJudged tms t l (set_left own S (length texts) l.bytes l.buffer l.place tally).number
  unfolding number_for no_space_together
  judged_behind some few tally =
      let n : ℕ = length texts in
      record {
        first = rw (left_number own S l.bytes n l.buffer l.place tally, right_count n some few)
            (subst (λ k. FirstOf (checks_after tms t l) (first_failing 0 (gather (λ p. p.checks) (map (book_part own S l.bytes) (numbers 0 k)) ++ last)))
            (sym (declares_length ds)) (books_any tms (omega (arith, declares_length ds)) (among_all tms)));
      }

-- calls are counted from 0: the number of the answer to the call number i is the one that `SetJudged` gives for the trace of the calls before it
pub set_answered : (texts : List Bytes) (tms : List Tracematch) → AllDeclare texts tms → 1 ≤ length texts → length texts ≤ 8 → (more states : List ℕ)
    → 3715 * length texts ≤ length states → (cs : List LentCall) → lent_bytes cs ≡ true
    → (i : ℕ) (m : SetMade) → Within (set_run texts more states cs) i m
    → SetJudged tms (set_trace (take i (set_run texts more states cs))) m.lent m.left.number
set_answered texts tms ds some few more states long cs lent i m w =
    let met = met_at texts tms ds more states some few long cs lent i m w in
    subst (λ l. SetJudged tms (set_trace (take i (set_run texts more states cs))) m.lent l.number) (sym met.made)
    (judged_behind texts tms ds more met.states_met (set_records (take i (set_run texts more states cs))) met.course m.lent
    (record_event m.lent.bytes met.lent) some few m.lent.tally)

-- and `SetJudged` gives one number at most
pub set_judged_once : (tms : List Tracematch) (t : List Event) (c : LentCall) (n k : ℕ) → SetJudged tms t c n → SetJudged tms t c k → n ≡ k
set_judged_once tms t c n k a b = first_once apart a.first b.first
  where
    apart : (k : SetCheck Tracematch) → SetFailsAfter tms t c k → SetPassesAfter tms t c k → ⊥
    apart of_count f p = f
    apart (of_book tm Accepted) f p = f
    apart (of_book tm Unsound) f p = f
    apart (of_book tm OutOfForm) f p = true≢false (sym p ∙ f)
    apart (of_book tm TooMany) f p = omega (arith, f, p)
    apart (of_book tm NoRoom) f p = p f
    apart (of_book tm NoSpace) f p = p f
    apart of_rows f p = p f

-- "A read book, with a state that it reached from a fresh start, never gets 9", nor do several; and a set of 1 to 8 never gets 14
pub set_never_nine : (texts : List Bytes) (tms : List Tracematch) → AllDeclare texts tms → 1 ≤ length texts → length texts ≤ 8 → (more states : List ℕ)
    → 3715 * length texts ≤ length states → (cs : List LentCall) → lent_bytes cs ≡ true
    → (i : ℕ) (m : SetMade) → Within (set_run texts more states cs) i m → (m.left.number ≡ 9 → ⊥) × (m.left.number ≡ 14 → ⊥)
set_never_nine texts tms ds some few more states long cs lent i m w =
    let a = (set_answered texts tms ds some few more states long cs lent i m w).first in
    let other = first_all (λ n. not (eqb n 9) && not (eqb n 14)) a (all_told tms) refl in
    let (x, y) = and_true_split (not (eqb m.left.number 9)) (not (eqb m.left.number 14)) other in
    (eqb-false m.left.number 9 (not-true _ x), eqb-false m.left.number 14 (not-true _ y))
  where
    keys_of : Tracematch → List (SetCheck Tracematch)
    keys_of tm = of_book tm OutOfForm ∷ of_book tm TooMany ∷ of_book tm NoRoom ∷ []

    all_told : (us : List Tracematch)
        → all (λ k. not (eqb (check_number k) 9) && not (eqb (check_number k) 14)) (gather keys_of us ++ (of_rows ∷ [])) ≡ true
    all_told [] = refl
    all_told (u ∷ us) = all_told us
