-- A call on a set of books for any words, reached by a run or not: the number that it hands back is that of the first check that fails, and a refusal leaves
-- all
-- but the refused counter. What acceptance leaves is in SetAccepted.
use mathlib.Core.Path.{◌≡◌, refl, ap, ◌∙◌}
use mathlib.Core.Bool.{Bool, true, false, cond, ◌||◌, or-true, false≢true}
use mathlib.Core.List.{List, [], ◌∷◌, ◌++◌, map}
use mathlib.Core.Logic.{◌↔◌, ◌⊎◌, inl, inr, ⊎_elim}
use Prim.Native.Nat.{ℕ, zero, suc, ◌*◌, ◌<◌}
use borrow.Author.Tests.{eqb-true, eq-eqb, ltb-true, lt-ltb}
use lib.Dec.{eqb, ltb}
use lib.ListN.{length}
use Rattle.laws.specs.Checks.{Check, first_failing, FirstToFail, none_fails, fails_here, fails_later}
use Rattle.laws.specs.Lists.{gather, numbers}
use Rattle.laws.proofs.Checks.{first_once}
use Rattle.laws.proofs.Lists.{or_true_split}
use Rattle.laws.proofs.Maps.{gather_map}
use Rattle.form.specs.Text.{Bytes}
use Rattle.record.specs.Records.{event_in}
use Rattle.book.specs.declared.Book.{Book}
use Rattle.state.specs.declared.State.{State}
use Rattle.tally.specs.Tallies.{tallied}
use Rattle.calls.specs.Calls as Calls
use Rattle.calls.specs.Calls.{rows_by}
use Rattle.calls.specs.declared.EventAnswer.TheVariants.{Unsound, OutOfForm, TooMany, NoRoom}
use Rattle.demands.proofs.Checks.{unsound_is, out_of_form_is, too_many_is, no_room_is}
use Rattle.blocks.specs.BookBlock.{book_size, book_in}
use Rattle.blocks.specs.StateBlock.{state_size, state_in}
use Rattle.blocks.specs.TallyBlock.{tally_in, tally_words}
use Rattle.parts.specs.Parts.{part_rows, rows_together, no_space_together, number_for}
use Rattle.parts.specs.SetBlock.{set_limit, bad_count, block_at, beyond_end, outside, book_part, parts_in, set_left}
use Rattle.parts.proofs.Left.{left_number, left_refused}
use Rattle.set_runs.specs.SetChecks.{SetCheck, of_count, of_book, of_rows, check_number, book_outside, state_outside, unsound_words, UnsoundAt}
use Rattle.set_runs.specs.SetChecks.{set_rows_due, SetFails, SetFirstFailing}

-- one check more, as it is computed
next_check : {K : Type 0} {Fails : K → Type 0} {number : K → ℕ} {ks : List K} {r : ℕ} (z : Bool) (k : K) → (z ≡ true) ↔ Fails k
    → FirstToFail Fails (λ k. Fails k → ⊥) number 0 ks r → FirstToFail Fails (λ k. Fails k → ⊥) number 0 (k ∷ ks) (cond z (number k) r)
next_check true k f rest = fails_here (f.0 refl)
next_check false k f rest = fails_later (λ x. false≢true (f.1 x)) rest

-- two checks with one number are one
pub same_answer : {A : Type 0} (a b : Bool) (x y : A) → cond a x (cond b x y) ≡ cond (a || b) x y
same_answer true b x y = refl
same_answer false b x y = refl

module _ (w s : List ℕ) (count : ℕ) (bytes buffer : Bytes) (place : ℕ) where
  abbrev Fails : SetCheck ℕ → Type 0
  Fails = SetFails w s count bytes buffer place

  abbrev FirstOf : List (SetCheck ℕ) → ℕ → Type 0
  FirstOf ks n = FirstToFail Fails (λ k. Fails k → ⊥) check_number 0 ks n

  count_is : (bad_count count ≡ true) ↔ ((count ≡ 0) ⊎ (set_limit < count))
  unfolding bad_count
  count_is = (
    λ h. ⊎_elim (λ e. inl (eqb-true count 0 e)) (λ e. inr (ltb-true set_limit count e)) (or_true_split (eqb count 0) (ltb set_limit count) h),
    λ h. ⊎_elim (λ e. rw (eq-eqb count 0 e)) (λ e. rw (lt-ltb set_limit count e) (or-true (eqb count 0))) h,
  )

  -- Book number k.
  module _ (k : ℕ) where
    abbrev b : Book
    b = book_in (block_at book_size k w)

    abbrev z : State
    z = state_in (block_at state_size k s)

    unsound_at : ((outside w s bytes k || Calls.unsound b z bytes) ≡ true) ↔ UnsoundAt w s count bytes buffer place k
    unfolding outside
    unsound_at = (
      λ h. ⊎_elim
          (λ e. ⊎_elim (λ x. book_outside (ltb-true _ _ x)) (λ x. state_outside (ltb-true _ _ x)) (or_true_split (beyond_end book_size k w)
          (beyond_end state_size k s) e))
          (λ e. unsound_words ((unsound_is b z bytes).0 e)) (or_true_split (beyond_end book_size k w || beyond_end state_size k s) (Calls.unsound b z bytes) h),
      back,
    )
      where
        back : UnsoundAt w s count bytes buffer place k → (beyond_end book_size k w || beyond_end state_size k s || Calls.unsound b z bytes) ≡ true
        back (book_outside h) = rw (lt-ltb (length w) (book_size * suc k) h)
        back (state_outside h) = rw (lt-ltb (length s) (state_size * suc k) h, or-true (beyond_end book_size k w))
        back (unsound_words h) = rw ((unsound_is b z bytes).1 h) (or-true (beyond_end book_size k w || beyond_end state_size k s))

  -- the books from number j on, and the checks behind them
  parts_first : (j n : ℕ) {ks : List (SetCheck ℕ)} (ds : List (Check ℕ)) → FirstOf ks (first_failing 0 ds)
      → FirstOf (gather (λ k. of_book k Unsound ∷ of_book k OutOfForm ∷ of_book k TooMany ∷ of_book k NoRoom ∷ []) (numbers j n) ++ ks)
      (first_failing 0 (gather (λ p. p.checks) (map (book_part w s bytes) (numbers j n)) ++ ds))
  unfolding book_part
  parts_first j zero ds last = last
  parts_first j (suc n) ds last =
      let rest = parts_first (suc j) n ds last in
      rw (same_answer {A = ℕ} (outside w s bytes j) (Calls.unsound (b j) (z j) bytes) 9)
      (next_check (outside w s bytes j || Calls.unsound (b j) (z j) bytes) (of_book j Unsound) (unsound_at j)
      (next_check (Calls.out_of_form (b j) (z j) bytes) (of_book j OutOfForm) (out_of_form_is (b j) (z j) bytes)
      (next_check (Calls.too_many (b j) (z j) bytes) (of_book j TooMany) (too_many_is (b j) (z j) bytes)
      (next_check (Calls.no_room (b j) (z j) bytes) (of_book j NoRoom) (no_room_is (b j) (z j) bytes) rest))))

  -- the rows of all books
  pub rows_due_law : rows_together (event_in bytes) (parts_in w s bytes count) ≡ length (set_rows_due w s count bytes buffer place)
  unfolding rows_together part_rows book_part rows_by
  rows_due_law = ap length (gather_map (part_rows (event_in bytes)) (book_part w s bytes) (numbers 0 count))

  space_is : (no_space_together [] (parts_in w s bytes count) (event_in bytes) buffer place ≡ true) ↔ Fails of_rows
  unfolding no_space_together
  space_is = rw rows_due_law (ltb-true _ _, lt-ltb _ _)

-- 14, then for each book in its turn 9 to 12, then 13: of what the call hands back
pub set_first_failing : (w s : List ℕ) (count : ℕ) (bytes buffer : Bytes) (place : ℕ) (t : List ℕ)
    → SetFirstFailing w s count bytes buffer place (set_left w s count bytes buffer place t).number
unfolding number_for no_space_together
set_first_failing w s count bytes buffer place t =
    rw (left_number w s bytes count buffer place t)
    (record {
      first = next_check (bad_count count) of_count (count_is w s count bytes buffer place)
          (parts_first w s count bytes buffer place 0 count _
          (next_check (no_space_together [] (parts_in w s bytes count) (event_in bytes) buffer place) of_rows (space_is w s count bytes buffer place) none_fails));
    })

-- which is one number
pub set_first_once : (w s : List ℕ) (count : ℕ) (bytes buffer : Bytes) (place n m : ℕ) → SetFirstFailing w s count bytes buffer place n
    → SetFirstFailing w s count bytes buffer place m → n ≡ m
set_first_once w s count bytes buffer place n m a c = first_once (λ k f p. p f) a.first c.first

-- "all unchanged", but one refused event more: every word of every state, every byte of the buffer
pub set_refused_stays : (w s : List ℕ) (count : ℕ) (bytes buffer : Bytes) (place : ℕ) (t : List ℕ)
    → ((set_left w s count bytes buffer place t).number ≡ 0 → ⊥) → let l = set_left w s count bytes buffer place t in
    (l.rows ≡ 0) × (l.buffer ≡ buffer) × (l.states ≡ s) × (l.tally ≡ tally_words (tallied (tally_in t) 0 1 0))
set_refused_stays w s count bytes buffer place t h =
    let e = left_refused w s bytes count buffer place t (λ z. h (left_number w s bytes count buffer place t ∙ z)) in
    (ap (λ l. l.rows) e, ap (λ l. l.buffer) e, ap (λ l. l.states) e, ap (λ l. l.tally) e)
