-- For any book and state, reached by a run or not: the number that a call hands back is that of the first check that fails, a refusal
-- leaves all but the refused counter, and an event has few rows.
use mathlib.Core.Path.{◌≡◌, refl, sym, ap, ◌∙◌}
use mathlib.Core.Bool.{Bool, true, false, not, ◌&&◌, ◌||◌, and-false, or-true, false≢true}
use mathlib.Core.List.{List, [], ◌∷◌, map, Memᴰ}
use mathlib.Core.Logic.Iff
use mathlib.Core.Logic.{◌↔◌, ◌⊎◌, inl, inr, ⊎_elim}
use Prim.Native.Nat.{ℕ, suc, ◌+◌, ◌-◌, ◌*◌, ◌^◌, ◌≤◌, ◌<◌}
use native.Mathlib.Omega.{arith}
use borrow.Author.Tests.{eqb-true, eq-eqb, ltb-true, lt-ltb, not-true}
use lib.Dec.{leb}
use Rattle.laws.specs.Checks.{Check}
use Rattle.laws.specs.Lists.{any, keep, gather}
use Rattle.meaning.specs.Events.{Event, constraint_of}
use Rattle.meaning.specs.Book as Plain
use Rattle.meaning.specs.Book.{sound_book, positions, ends_at, symbol_of}
use Rattle.meaning.specs.Labels.{Entry, Disjunct, Held, is_free, exclusions, meets, met, label_of, sources, step_set, skip_through, new_held}
use Rattle.meaning.specs.Room.{Broken, step_set_over, skip_set_over, seventh_exclusion, all_over}
use Rattle.meaning.specs.Rows.{rows, leaves_free}
use Rattle.meaning.specs.Sound.{sound_held, sound_state, event_limit}
use Rattle.automaton.proofs.Bound.{closed}
use Rattle.automaton.proofs.Few.{few_rows}
use Rattle.automaton.proofs.Members.{step_set_member}
use Rattle.automaton.proofs.NoRoom.{no_room_law}
use Rattle.laws.proofs.Checks.{number_behind, number_first, number_otherwise}
use Rattle.laws.proofs.Lists.{any_found, mem_keep, same_test, and_true_split, and_false_split, or_true_split, either}
use Rattle.form.specs.Text.{Bytes}
use Rattle.record.specs.Records.{is_record, event_in}
use Rattle.book.specs.Books.{view_book}
use Rattle.book.specs.declared.Book.{Book}
use Rattle.state.specs.declared.State.{State}
use lib.ListN.{length, take, replicate}
use Rattle.laws.specs.Parts.{splice, pad}
use Rattle.slot.specs.Slots.{slot_of}
use Rattle.disjunct.specs.Disjuncts.{disjunct_of}
use Rattle.state.specs.States.{state_of, held_first, view_state}
use Rattle.sound.specs.Soundness.{book_counts, book_sound, state_counts, state_sound}
use Rattle.tally.specs.declared.Tally.{Tally}
use Rattle.tally.specs.Tallies.{capped, tallied}
use Rattle.tally.proofs.Tallies.{each, capped_more, capped_full}
use Rattle.row.specs.RowBytes.{row_bytes}
use Rattle.calls.specs.Answers.{number_of}
use Rattle.calls.specs.Calls as Calls
use Rattle.calls.specs.Calls.{fresh_state, is_accepted, rows_by, state_by, leaves_free_by, room_by, answer_to, taken, buffer_after}
use Rattle.calls.specs.Checks.{Unsound, unsound_book, unsound_state, left_free, OutOfForm, TooMany, NoRoom, NoSpace, FirstFailing}
use Rattle.calls.specs.Runs.{Lent}
use Rattle.calls.specs.declared.EventAnswer.{EventAnswer}
use Rattle.calls.specs.declared.EventAnswer.TheVariants as Answer
use Rattle.calls.specs.declared.Taken.{Taken}
use Rattle.demands.proofs.Course.{taken_answer, taken_refused, taken_accepted}

-- three, four and five facts in a row
row3 : {N A B C : Type 0} → N ↔ (A × (B × C)) → N ↔ (A × B × C)
row3 h = (λ n. let (a, (b, c)) = h.0 n in (a, b, c), λ (a, b, c). h.1 (a, (b, c)))

row4 : {N A B C D : Type 0} → N ↔ (A × (B × (C × D))) → N ↔ (A × B × C × D)
row4 h = (λ n. let (a, (b, (c, d))) = h.0 n in (a, b, c, d), λ (a, b, c, d). h.1 (a, (b, (c, d))))

row5 : {N A B C D E : Type 0} → N ↔ (A × (B × (C × (D × E)))) → N ↔ (A × B × C × D × E)
row5 h = (λ n. let (a, (b, (c, (d, e)))) = h.0 n in (a, b, c, d, e), λ (a, b, c, d, e). h.1 (a, (b, (c, (d, e)))))

-- "a row that would leave a variable free", in words: a disjunct of an ending position's step set
found_free : (b : Plain.Book) (held : List Held) (e : Event) → leaves_free b held e ≡ true
    → (q : ℕ) × Memᴰ q (positions b) × (ends_at b q ≡ true) × ((D : Disjunct) × Memᴰ D (step_set b held e q) × (any is_free D ≡ true))
unfolding leaves_free
found_free b held e h =
    let (q, m, k) = any_found _ (keep (ends_at b) (positions b)) h in
    let c = constraint_of (symbol_of b q) e in
    let (S, n, j) = any_found (λ D. meets D c && any is_free (met D c)) (sources b held q) k in
    let (x, y) = and_true_split (meets S c) (any is_free (met S c)) j in
    let (i, u) = (mem_keep (ends_at b) q (positions b)).0 m in
    (q, i, u, (met S c, (step_set_member b held e q (met S c)).1 (S, n, x, refl), y))

free_found : (b : Plain.Book) (held : List Held) (e : Event) (q : ℕ) → Memᴰ q (positions b) → ends_at b q ≡ true
    → (D : Disjunct) → Memᴰ D (step_set b held e q) → any is_free D ≡ true → leaves_free b held e ≡ true
free_found b held e q m k D n f = go (leaves_free b held e) refl
  where
    go : (t : Bool) → leaves_free b held e ≡ t → t ≡ true
    go true h = refl
    go false h = absurd (false≢true (sym (closed b held e h q m k D n) ∙ f))

-- Each check of the list fails just where document 01's words are true.
module _ (b : Book) (s : State) (bytes : Bytes) where
  pub unsound_is : (Calls.unsound b s bytes ≡ true) ↔ Unsound b s bytes
  unfolding Calls.unsound leaves_free_by
  unsound_is = (
    λ h. ⊎_elim (λ k. ⊎_elim unsound_book unsound_state (and_false_split (book_sound b) (state_sound b s) (not-true _ k)))
        (λ k. let (f, g) = and_true_split (is_record bytes) _ k in
        let (q, m, j, (D, n, y)) = found_free (view_book b) (held_first b.variables s) (event_in bytes) g in left_free f q m j D n y)
        (or_true_split (not (book_sound b && state_sound b s)) _ h),
    back,
  )
    where
      back : Unsound b s bytes
          → (not (book_sound b && state_sound b s) || is_record bytes && leaves_free (view_book b) (held_first b.variables s) (event_in bytes)) ≡ true
      back (unsound_book h) = rw h
      back (unsound_state h) = rw (h, and-false)
      back (left_free f q m j D n y) = rw (f, free_found (view_book b) (held_first b.variables s) (event_in bytes) q m j D n y, or-true)

  pub out_of_form_is : (Calls.out_of_form b s bytes ≡ true) ↔ OutOfForm b s bytes
  unfolding Calls.out_of_form
  out_of_form_is = (not-true _, λ h. ap not h)

  pub too_many_is : (Calls.too_many b s bytes ≡ true) ↔ TooMany b s bytes
  unfolding Calls.too_many
  too_many_is = (eqb-true s.number event_limit, eq-eqb s.number event_limit)

  pub no_room_is : (Calls.no_room b s bytes ≡ true) ↔ NoRoom b s bytes
  unfolding Calls.no_room room_by
  no_room_is = let r = no_room_law (view_book b) (held_first b.variables s) (event_in bytes) in (λ h. r.0 (not-true _ h), λ h. ap not (r.1 h))

  no_space_is : (buffer : Bytes) (place : ℕ) → (Calls.no_space b s bytes buffer place ≡ true) ↔ NoSpace b s bytes buffer place
  unfolding Calls.no_space rows_by
  no_space_is buffer place = (ltb-true _ _, lt-ltb _ _)

-- "Events: 9 to 13 in that order", of what a call hands back
pub first_failing_law : (b : Book) (s : State) (bytes buffer : Bytes) (place : ℕ) (t : Tally)
    → FirstFailing b s bytes buffer place (number_of (taken b s bytes buffer place t).answer)
unfolding answer_to
first_failing_law b s bytes buffer place t =
    let l : Lent = record { bytes = bytes; buffer = buffer; place = place; tally = t } in
    let c9 : Check EventAnswer = record { fails = Calls.unsound b s bytes; answer = Answer.Unsound } in
    let c10 : Check EventAnswer = record { fails = Calls.out_of_form b s bytes; answer = Answer.OutOfForm } in
    let c11 : Check EventAnswer = record { fails = Calls.too_many b s bytes; answer = Answer.TooMany } in
    let c12 : Check EventAnswer = record { fails = Calls.no_room b s bytes; answer = Answer.NoRoom } in
    let c13 : Check EventAnswer = record { fails = Calls.no_space b s bytes buffer place; answer = Answer.NoSpace } in
    let l13 = c13 ∷ [] in
    let l12 = c12 ∷ l13 in
    let l11 = c11 ∷ l12 in
    let l10 = c10 ∷ l11 in
    let p9 = unsound_is b s bytes in
    let p10 = out_of_form_is b s bytes in
    let p11 = too_many_is b s bytes in
    let p12 = no_room_is b s bytes in
    let p13 = no_space_is b s bytes buffer place in
    rw (taken_answer b s l) (record {
      nine = Iff.trans (number_first Answer.Accepted number_of c9 l10 refl) p9;
      ten = number_behind Answer.Accepted number_of 10 c9 l10 refl p9 (Iff.trans (number_first Answer.Accepted number_of c10 l11 refl) p10);
      eleven = row3 (number_behind Answer.Accepted number_of 11 c9 l10 refl p9
          (number_behind Answer.Accepted number_of 11 c10 l11 refl p10 (Iff.trans (number_first Answer.Accepted number_of c11 l12 refl) p11)));
      twelve = row4 (number_behind Answer.Accepted number_of 12 c9 l10 refl p9
          (number_behind Answer.Accepted number_of 12 c10 l11 refl p10
          (number_behind Answer.Accepted number_of 12 c11 l12 refl p11 (Iff.trans (number_first Answer.Accepted number_of c12 l13 refl) p12))));
      thirteen = row5 (number_behind Answer.Accepted number_of 13 c9 l10 refl p9
          (number_behind Answer.Accepted number_of 13 c10 l11 refl p10
          (number_behind Answer.Accepted number_of 13 c11 l12 refl p11
          (number_behind Answer.Accepted number_of 13 c12 l13 refl p12 (Iff.trans (number_first Answer.Accepted number_of c13 [] refl) p13)))));
      zero = row5 (number_behind Answer.Accepted number_of 0 c9 l10 refl p9
          (number_behind Answer.Accepted number_of 0 c10 l11 refl p10
          (number_behind Answer.Accepted number_of 0 c11 l12 refl p11
          (number_behind Answer.Accepted number_of 0 c12 l13 refl p12 (number_otherwise Answer.Accepted number_of c13 refl p13)))));
    })

-- acceptance is 0, and nothing else is
pub zero_accepted : (a : EventAnswer) → is_accepted a ≡ true → number_of a ≡ 0
zero_accepted Answer.Accepted h = refl
zero_accepted Answer.Unsound h = absurd (false≢true h)
zero_accepted Answer.OutOfForm h = absurd (false≢true h)
zero_accepted Answer.TooMany h = absurd (false≢true h)
zero_accepted Answer.NoRoom h = absurd (false≢true h)
zero_accepted Answer.NoSpace h = absurd (false≢true h)

pub accepted_zero : (a : EventAnswer) → number_of a ≡ 0 → is_accepted a ≡ true
accepted_zero Answer.Accepted e = refl
accepted_zero Answer.Unsound e = absurd (omega (arith, e))
accepted_zero Answer.OutOfForm e = absurd (omega (arith, e))
accepted_zero Answer.TooMany e = absurd (omega (arith, e))
accepted_zero Answer.NoRoom e = absurd (omega (arith, e))
accepted_zero Answer.NoSpace e = absurd (omega (arith, e))

pub refused_number : (a : EventAnswer) → (number_of a ≡ 0 → ⊥) → is_accepted a ≡ false
refused_number a k = same_test (is_accepted a) false (λ g. absurd (k (zero_accepted a g))) (λ g. absurd (false≢true g))

-- "all unchanged", but one refused event more: answers 9 to 13, of what a call hands back
pub refused_stays : (b : Book) (s : State) (bytes buffer : Bytes) (place : ℕ) (t : Tally) → (number_of (taken b s bytes buffer place t).answer ≡ 0 → ⊥)
    → ((taken b s bytes buffer place t).state ≡ s) × ((taken b s bytes buffer place t).book ≡ b) × ((taken b s bytes buffer place t).rows ≡ 0)
    × ((taken b s bytes buffer place t).tally ≡ tallied t 0 1 0) × (buffer_after b s bytes buffer place ≡ buffer)
refused_stays b s bytes buffer place t h =
    let l : Lent = record { bytes = bytes; buffer = buffer; place = place; tally = t } in
    let a = taken_answer b s l in
    let n : is_accepted (answer_to b s bytes buffer place) ≡ false = refused_number (answer_to b s bytes buffer place) (λ z. h (ap number_of a ∙ z)) in
    let (e, f) = taken_refused b s l n in
    rw e (refl, refl, refl, refl, f)

-- "A fresh state has all 128 disjunct places free and event number 0.": every number of it
pub fresh_state_law : fresh_state
    ≡ record {
      number = 0;
      count = 0;
      positions = replicate 128 0;
      pool = replicate 128 (record { vars = replicate 4 (record { bound = false; value = 0; count = 0; excluded = replicate 6 0 }) });
    }
unfolding fresh_state state_of disjunct_of slot_of pad
fresh_state_law = refl

-- the book is handed back as it came, accepted or refused
pub book_stays : (b : Book) (s : State) (bytes buffer : Bytes) (place : ℕ) (t : Tally) → (taken b s bytes buffer place t).book ≡ b
unfolding taken
book_stays b s bytes buffer place t = either (λ (r : Taken). r.book ≡ b) (is_accepted (answer_to b s bytes buffer place)) (λ _. refl) λ _. refl

-- a book and a state that pass check 9
sound_parts : (b : Book) (s : State) → book_sound b ≡ true → state_sound b s ≡ true
    → (sound_book (view_book b) ≡ true) × (sound_held (view_book b) (held_first b.variables s) ≡ true)
unfolding book_sound state_sound sound_state view_state
sound_parts b s p q =
    ((and_true_split (book_counts b) _ p).1, (and_true_split (leb s.number event_limit) _ (and_true_split (state_counts b.variables s) _ q).1).1)

-- "an event has at most 16 × 129 rows", for any book and state
pub few_taken : (b : Book) (s : State) (bytes buffer : Bytes) (place : ℕ) (t : Tally) → (taken b s bytes buffer place t).rows ≤ 16 * 129
unfolding taken rows_by
few_taken b s bytes buffer place t =
    either (λ (r : Taken). r.rows ≤ 16 * 129) (is_accepted (answer_to b s bytes buffer place))
    (λ h.
    let l : Lent = record { bytes = bytes; buffer = buffer; place = place; tally = t } in
    let passes = ((first_failing_law b s bytes buffer place t).zero.0 (ap number_of (taken_answer b s l) ∙ zero_accepted (answer_to b s bytes buffer place) h)).0 in
    let (p, q) = sound_parts b s (yes _ (λ n. passes (unsound_book n))) (yes _ (λ n. passes (unsound_state n))) in
    few_rows (view_book b) p (held_first b.variables s) q (event_in bytes))
    λ _. omega arith
  where
    yes : (a : Bool) → (a ≡ false → ⊥) → a ≡ true
    yes true h = refl
    yes false h = absurd (h refl)

-- 9 in its own words: with an unsound book or state, whatever the record, the event number, the room and the buffer; with a row that would leave a
-- variable free, at any position that ends a word, whatever the event number, the room and the buffer; and in no other case
pub nine_rules : (b : Book) (s : State) (bytes buffer : Bytes) (place : ℕ) (t : Tally)
    → let v = view_book b in
    (number_of (taken b s bytes buffer place t).answer ≡ 9)
    ↔ (((book_sound b && state_sound b s) ≡ false)
    ⊎ ((is_record bytes ≡ true) × ((q : ℕ) × Memᴰ q (positions v) × (ends_at v q ≡ true)
    × ((D : Disjunct) × Memᴰ D (step_set v (held_first b.variables s) (event_in bytes) q) × (any is_free D ≡ true)))))
nine_rules b s bytes buffer place t =
    let f = (first_failing_law b s bytes buffer place t).nine in (λ h. to (f.0 h), λ h. f.1 (back h))
  where
    to : Unsound b s bytes → ((book_sound b && state_sound b s) ≡ false)
        ⊎ ((is_record bytes ≡ true) × ((q : ℕ) × Memᴰ q (positions (view_book b)) × (ends_at (view_book b) q ≡ true)
        × ((D : Disjunct) × Memᴰ D (step_set (view_book b) (held_first b.variables s) (event_in bytes) q) × (any is_free D ≡ true))))
    to (unsound_book h) = inl (rw h)
    to (unsound_state h) = inl (rw (h, and-false))
    to (left_free f q m j D n y) = inr (f, (q, m, j, (D, n, y)))

    back : ((book_sound b && state_sound b s) ≡ false)
        ⊎ ((is_record bytes ≡ true) × ((q : ℕ) × Memᴰ q (positions (view_book b)) × (ends_at (view_book b) q ≡ true)
        × ((D : Disjunct) × Memᴰ D (step_set (view_book b) (held_first b.variables s) (event_in bytes) q) × (any is_free D ≡ true))))
        → Unsound b s bytes
    back (inl h) = ⊎_elim unsound_book unsound_state (and_false_split (book_sound b) (state_sound b s) h)
    back (inr (f, (q, m, j, (D, n, y)))) = left_free f q m j D n y

-- 10, 11 and 13 in their own words: "event record out of form, or not 20 bytes"; "1,000,000 events already accepted"; "row buffer too short, or start place
-- beyond it", which with no rows is just a place beyond the end; and nothing of these at 0. "9 to 13 in that order": each by the numbers before it, so that
-- no word but `nine_rules` and `twelve_rules` is needed
pub other_rules : (b : Book) (s : State) (bytes buffer : Bytes) (place : ℕ) (t : Tally)
    → let n = number_of (taken b s bytes buffer place t).answer in
    let few = length (rows (view_book b) (held_first b.variables s) (event_in bytes)) in
    ((n ≡ 10) ↔ ((n ≡ 9 → ⊥) × (is_record bytes ≡ false)))
    × ((n ≡ 11) ↔ ((n ≡ 9 → ⊥) × (n ≡ 10 → ⊥) × (s.number ≡ 1000000)))
    × ((n ≡ 13) ↔ ((n ≡ 9 → ⊥) × (n ≡ 10 → ⊥) × (n ≡ 11 → ⊥) × (n ≡ 12 → ⊥) × (length buffer < place + 24 * few)))
    × ((n ≡ 0) ↔ ((n ≡ 9 → ⊥) × (n ≡ 10 → ⊥) × (n ≡ 11 → ⊥) × (n ≡ 12 → ⊥) × (n ≡ 13 → ⊥)))
other_rules b s bytes buffer place t =
    let f = first_failing_law b s bytes buffer place t in
    let u : (n ≡ 9 → ⊥) → Unsound b s bytes → ⊥ = λ a x. a (f.nine.1 x) in
    let o : (n ≡ 9 → ⊥) → (n ≡ 10 → ⊥) → OutOfForm b s bytes → ⊥ = λ a c x. c (f.ten.1 (u a, x)) in
    let m : (n ≡ 9 → ⊥) → (n ≡ 10 → ⊥) → (n ≡ 11 → ⊥) → TooMany b s bytes → ⊥ = λ a c d x. d (f.eleven.1 (u a, o a c, x)) in
    let r : (n ≡ 9 → ⊥) → (n ≡ 10 → ⊥) → (n ≡ 11 → ⊥) → (n ≡ 12 → ⊥) → NoRoom b s bytes → ⊥ = λ a c d k x. k (f.twelve.1 (u a, o a c, m a c d, x)) in (
      (λ h. (λ y. omega (arith, h, y), (f.ten.0 h).1), λ (a, x). f.ten.1 (u a, x)),
      (λ h. (λ y. omega (arith, h, y), λ y. omega (arith, h, y), (f.eleven.0 h).2), λ (a, c, x). f.eleven.1 (u a, o a c, x)),
      (
        λ h. (λ y. omega (arith, h, y), λ y. omega (arith, h, y), λ y. omega (arith, h, y), λ y. omega (arith, h, y), (f.thirteen.0 h).4),
        λ (a, c, d, k, x). f.thirteen.1 (u a, o a c, m a c d, r a c d k, x),
      ),
      (
        λ h. (λ y. omega (arith, h, y), λ y. omega (arith, h, y), λ y. omega (arith, h, y), λ y. omega (arith, h, y), λ y. omega (arith, h, y)),
        λ (a, c, d, k, x). f.zero.1 (u a, o a c, m a c d, r a c d k, λ y. x (f.thirteen.1 (u a, o a c, m a c d, r a c d k, y))),
      ),
    )
  where
    n : ℕ
    n = number_of (taken b s bytes buffer place t).answer

-- the four rules written out; `twelve_rules` has them in its own words
module _ (b : Plain.Book) (held : List Held) (e : Event) where
  abbrev pub through : (p k : ℕ) → List Disjunct
  through p k = skip_through (take k (map (λ y. constraint_of y e) b.symbols)) (label_of held p)

  abbrev pub FourRules : Type 0
  FourRules =
      ((q : ℕ) × Memᴰ q (positions b) × (128 < length (step_set b held e q)))
      ⊎ (((p : ℕ) × (k : ℕ) × Memᴰ p (positions b) × (1 ≤ k) × (k ≤ length b.symbols) × (128 < length (through p k)))
      ⊎ (((p : ℕ) × (k : ℕ) × Memᴰ p (positions b) × (1 ≤ k) × (k ≤ length b.symbols)
      × ((D : Disjunct) × Memᴰ D (through p k) × ((x : Entry) × Memᴰ x D × (6 < length (exclusions x)))))
      ⊎ (128 < length (new_held b held e))))

  ruled : Broken b held e → FourRules
  ruled (step_set_over q m h) = inl (q, m, h)
  ruled (skip_set_over p k m i j h) = inr (inl (p, k, m, i, j, h))
  ruled (seventh_exclusion p k m i j D n x o h) = inr (inr (inl (p, k, m, i, j, (D, n, (x, o, h)))))
  ruled (all_over h) = inr (inr (inr h))

  broken : FourRules → Broken b held e
  broken (inl (q, m, h)) = step_set_over q m h
  broken (inr (inl (p, k, m, i, j, h))) = skip_set_over p k m i j h
  broken (inr (inr (inl (p, k, m, i, j, (D, n, (x, o, h)))))) = seventh_exclusion p k m i j D n x o h
  broken (inr (inr (inr h))) = all_over h

  -- what `answered` and `no_room` call broken, for any book, label and event
  pub broken_words : Broken b held e ↔ FourRules
  broken_words = (ruled, broken)

-- "No room, exactly: some step set, or some skip set after one of its symbols, exceeds 128; a variable would have 7 exclusions; or all new labels
-- together exceed 128.": at any position, and nothing else
pub twelve_rules : (b : Book) (s : State) (bytes buffer : Bytes) (place : ℕ) (t : Tally)
    → let v = view_book b in
    let held = held_first b.variables s in
    let e = event_in bytes in
    let after : (p k : ℕ) → List Disjunct = λ p k. skip_through (take k (map (λ y. constraint_of y e) v.symbols)) (label_of held p) in
    let n = number_of (taken b s bytes buffer place t).answer in
    (n ≡ 12)
    ↔ ((n ≡ 9 → ⊥) × (n ≡ 10 → ⊥) × (n ≡ 11 → ⊥)
    × (((q : ℕ) × Memᴰ q (positions v) × (128 < length (step_set v held e q)))
    ⊎ (((p : ℕ) × (k : ℕ) × Memᴰ p (positions v) × (1 ≤ k) × (k ≤ length v.symbols) × (128 < length (after p k)))
    ⊎ (((p : ℕ) × (k : ℕ) × Memᴰ p (positions v) × (1 ≤ k) × (k ≤ length v.symbols)
    × ((D : Disjunct) × Memᴰ D (after p k) × ((x : Entry) × Memᴰ x D × (6 < length (exclusions x)))))
    ⊎ (128 < length (new_held v held e))))))
twelve_rules b s bytes buffer place t =
    let v = view_book b in
    let held = held_first b.variables s in
    let f = first_failing_law b s bytes buffer place t in (
      λ h. (
        λ k. omega (arith, h, k),
        λ k. omega (arith, h, k),
        λ k. omega (arith, h, k),
        ruled v held (event_in bytes) (f.twelve.0 h).3,
      ),
      λ (a, c, d, r). let u : Unsound b s bytes → ⊥ = λ x. a (f.nine.1 x) in
          let o : OutOfForm b s bytes → ⊥ = λ x. c (f.ten.1 (u, x)) in
          f.twelve.1 (u, o, λ x. d (f.eleven.1 (u, o, x)), broken v held (event_in bytes) r),
    )

-- what an accepted call hands back and leaves, for any book and state: the next state as a state is stored, what no count reaches zero or free; the
-- rows from the place on, each with the event's number; one accepted event and these rows more
pub accepted_leaves : (b : Book) (s : State) (bytes buffer : Bytes) (place : ℕ) (t : Tally) → number_of (taken b s bytes buffer place t).answer ≡ 0
    → let held = held_first b.variables s in
    let l = rows (view_book b) held (event_in bytes) in
    ((taken b s bytes buffer place t).state ≡ state_of (record { number = suc s.number; held = new_held (view_book b) held (event_in bytes) }))
    × ((taken b s bytes buffer place t).rows ≡ length l) × ((taken b s bytes buffer place t).tally ≡ tallied t 1 0 (length l))
    × (buffer_after b s bytes buffer place ≡ splice place (gather (row_bytes (suc s.number) b.variables) l) buffer)
unfolding state_by rows_by view_state
accepted_leaves b s bytes buffer place t h =
    let l : Lent = record { bytes = bytes; buffer = buffer; place = place; tally = t } in
    let (n, z, r, c) = taken_accepted b s l (accepted_zero (answer_to b s bytes buffer place) (sym (ap number_of (taken_answer b s l)) ∙ h)) in
    (z, n, c, r)

-- "Answers 9 to 13 to an event add one refused and leave the other two"; "a counter stops at the largest 64-bit value": the tally that a call hands back,
-- in numbers and no other word
pub tally_numbers : (b : Book) (s : State) (bytes buffer : Bytes) (place : ℕ) (t : Tally)
    → let r = taken b s bytes buffer place t in
    let Up : ℕ → ℕ → ℕ → Type 0 = λ x n y. (x + n < 2 ^ 64 → y ≡ x + n) × (2 ^ 64 ≤ x + n → y ≡ 2 ^ 64 - 1) in
    (number_of r.answer ≡ 0
    → Up t.accepted 1 r.tally.accepted × Up t.refused 0 r.tally.refused × Up t.rows r.rows r.tally.rows)
    × ((number_of r.answer ≡ 0 → ⊥)
    → Up t.accepted 0 r.tally.accepted × Up t.refused 1 r.tally.refused × Up t.rows 0 r.tally.rows)
tally_numbers b s bytes buffer place t = (
  λ h. let (_, n, c, _) = accepted_leaves b s bytes buffer place t h in
      let (x, y, z) = each t 1 0 _ in (
        told t.accepted 1 (ap (λ u. u.accepted) c ∙ x),
        told t.refused 0 (ap (λ u. u.refused) c ∙ y),
        told t.rows _ (ap (λ u. u.rows) c ∙ z ∙ ap (capped t.rows) (sym n)),
      ),
  λ h. let (_, _, _, c, _) = refused_stays b s bytes buffer place t h in
      let (x, y, z) = each t 0 1 0 in (
        told t.accepted 0 (ap (λ u. u.accepted) c ∙ x),
        told t.refused 1 (ap (λ u. u.refused) c ∙ y),
        told t.rows 0 (ap (λ u. u.rows) c ∙ z),
      ),
)
  where
    told : (x n : ℕ) {y : ℕ} → y ≡ capped x n → (x + n < 2 ^ 64 → y ≡ x + n) × (2 ^ 64 ≤ x + n → y ≡ 2 ^ 64 - 1)
    told x n e = (λ h. e ∙ capped_more x n h, λ h. e ∙ capped_full x n h)

-- what a call hands back is this and nothing else
pub taken_whole : (r : Taken) → r ≡ record { answer = r.answer; rows = r.rows; book = r.book; state = r.state; tally = r.tally }
taken_whole r = refl
