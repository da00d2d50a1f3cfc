-- The course of a run on a set: behind the records that the set accepted, the words of each book's state are those that these records make of a fresh state,
-- and the struct in them is tracked. For the theorems about runs.
use mathlib.Core.Path.{◌≡◌, refl, sym, ap, subst, ◌∙◌}
use mathlib.Core.Bool.{Bool, true, false, cond}
use mathlib.Core.List.{List, [], ◌∷◌, ◌++◌, map, map-id, map-append, append-nil, append_assoc, Memᴰ}
use Prim.Native.Nat.{ℕ, zero, suc, ◌+◌, ◌*◌, ◌≤◌, ◌<◌}
use native.Mathlib.Nat.{eq-or-lt_of_le}
use mathlib.Core.Logic.{⊎_elim}
use native.Mathlib.Omega.{arith}
use borrow.Author.Tests.{not-false, eqb-true, eqb-false, ne_eqb, le-ltb}
use lib.Dec.{eqb}
use lib.ListN.{length, get_or, take, drop, length-append, length-map}
use Rattle.laws.specs.Checks.{first_failing}
use Rattle.laws.specs.Lists.{gather, numbers}
use Rattle.laws.specs.Parts.{front}
use Rattle.laws.proofs.Fronts.{gather_length}
use Rattle.laws.proofs.Lists.{all_at, all_take, mem_numbers, length_numbers}
use Rattle.laws.proofs.Maps.{take_map}
use Rattle.runs.specs.Runs.{Machine, state_from, behind_trace, Within}
use Rattle.runs.proofs.Runs.{trace_more, within_at, within_mem, results_take, result_at, followed}
use Rattle.runs.proofs.Accepted.{passed_at}
use Rattle.meaning.specs.Meaning.{Tracematch}
use Rattle.meaning.specs.Sound.{event_limit}
use Rattle.form.specs.Text.{Bytes, is_bytes}
use Rattle.record.specs.Records.{is_record, event_in}
use Rattle.record.proofs.Records.{record_event}
use Rattle.book.specs.declared.Book.{Book}
use Rattle.state.specs.declared.State.{State as Struct}
use Rattle.state.specs.States.{state_of}
use Rattle.calls.specs.declared.EventAnswer.TheVariants.{Accepted, Unsound, OutOfForm, TooMany, NoRoom}
use Rattle.calls.specs.Answers.{number_of}
use Rattle.calls.specs.Calls.{fresh_state, state_by, room_by, unsound, out_of_form, too_many, no_room, decisions}
use Rattle.demands.proofs.Bridge.{Read}
use Rattle.blocks.specs.BookBlock.{book_in}
use Rattle.blocks.specs.StateBlock.{state_in, state_words, state_stored}
use Rattle.blocks.proofs.States.{state_back, state_length, stored_head, stored_back, stored_length}
use Rattle.lent_runs.specs.Lending.{LentCall, lent_bytes}
use Rattle.lent_runs.proofs.Seen.{fresh_canonical}
use Rattle.parts.specs.Parts.{part_next}
use Rattle.parts.specs.SetBlock.{bad_count, block_at, beyond_end, book_part, parts_in, states_after, set_left, set_fresh}
use Rattle.parts.proofs.Left.{each_passes, part_passes, number, number_zero, left_number, left_accepted, left_refused}
use Rattle.set_runs.specs.Setting.{SetMade, setting, books_of, set_run, set_taken, set_accepted, set_records, AllDeclare}
use Rattle.set_runs.proofs.SetBlocks.{block_gather, numbers_from, book_at, declares_length}
use Rattle.set_runs.proofs.Tracked.{Tracked, tracked_fresh, tracked_number, tracked_few, tracked_room, tracked_canonical, tracked_next}

-- A book's own checks that pass, one by one.
module _ (b : Book) (z : Struct) (bytes : Bytes) (h : number_of (first_failing Accepted (decisions b z bytes)) ≡ 0) where
  none_fails_law : (unsound b z bytes ≡ false) × (out_of_form b z bytes ≡ false) × (too_many b z bytes ≡ false) × (no_room b z bytes ≡ false)
  none_fails_law = go (unsound b z bytes) (out_of_form b z bytes) (too_many b z bytes) (no_room b z bytes) h
    where
      go : (i j k l : Bool) → number_of (cond i Unsound (cond j OutOfForm (cond k TooMany (cond l NoRoom Accepted)))) ≡ 0
          → (i ≡ false) × (j ≡ false) × (k ≡ false) × (l ≡ false)
      go true j k l h = absurd (omega (arith, h))
      go false true k l h = absurd (omega (arith, h))
      go false false true l h = absurd (omega (arith, h))
      go false false false true h = absurd (omega (arith, h))
      go false false false false h = (refl, refl, refl, refl)

  pub passes_form : is_record bytes ≡ true
  unfolding out_of_form
  passes_form = not-false _ none_fails_law.1

  pub passes_number : z.number ≡ event_limit → ⊥
  unfolding too_many
  passes_number = eqb-false z.number event_limit none_fails_law.2

  pub passes_room : room_by b z (event_in bytes) ≡ true
  unfolding no_room
  passes_room = not-false _ none_fails_law.3

-- the words of a state that took the event of a record, and those behind records
abbrev pub words_next : Book → List ℕ → Bytes → List ℕ
words_next b s bytes = state_stored s (state_by b (state_in s) (event_in bytes))

abbrev pub words_behind : Book → List Bytes → List ℕ
words_behind b rs = behind_trace (words_next b) (state_words fresh_state) rs

-- one book behind records: so many words, which say a tracked state
pub record Behind (b : Book) (tm : Tracematch) (rs : List Bytes) : Type 0 where
  pub size : length (words_behind b rs) ≡ 3715
  pub numbered : get_or (words_behind b rs) 1 0 ≡ length rs
  pub tracked : Tracked tm (map event_in rs) (state_in (words_behind b rs))

pub behind_fresh : (b : Book) (tm : Tracematch) → Behind b tm []
unfolding state_words fresh_state state_of
behind_fresh b tm =
    record {
      size = state_length fresh_state fresh_canonical;
      numbered = refl;
      tracked = rw (state_back fresh_state fresh_canonical) (tracked_fresh tm);
    }

-- a record that the book does not refuse
pub behind_next : (b : Book) (tm : Tracematch) → Read b tm → (rs : List Bytes) → Behind b tm rs → (bytes : Bytes) → is_bytes bytes ≡ true
    → number_of (first_failing Accepted (decisions b (state_in (words_behind b rs)) bytes)) ≡ 0 → Behind b tm (rs ++ (bytes ∷ []))
behind_next b tm rd rs h bytes lent passes =
    let w = words_behind b rs in
    let z = state_in w in
    let t = map event_in rs in
    let e = event_in bytes in
    let k = h.tracked in
    let few : length t < event_limit =
    ⊎_elim (λ x. absurd (passes_number b z bytes passes (tracked_number b tm rd t z k ∙ x))) (λ x. x) (eq-or-lt_of_le (tracked_few b tm rd t z k)) in
    let next : Tracked tm (t ++ (e ∷ [])) (state_by b z e) =
    tracked_next b tm rd t z k e (record_event bytes lent (passes_form b z bytes passes)) few (sym (tracked_room b tm rd t z k e)
    ∙ passes_room b z bytes passes) in
    let can = tracked_canonical b tm rd (t ++ (e ∷ [])) (state_by b z e) next in
    record {
      size = rw (trace_more (words_next b) (state_words fresh_state) rs (bytes ∷ [])) (stored_length w h.size (state_by b z e) can);
      numbered = rw (trace_more (words_next b) (state_words fresh_state) rs (bytes ∷ []))
          ((stored_head w h.size (state_by b z e) can).1 ∙ tracked_number b tm rd (t ++ (e ∷ [])) (state_by b z e) next
          ∙ length-append t (e ∷ []) ∙ ap (λ n. n + 1) (length-map rs event_in) ∙ sym (length-append rs (bytes ∷ [])));
      tracked = rw (
        trace_more (words_next b) (state_words fresh_state) rs (bytes ∷ []),
        stored_back w h.size (state_by b z e) can,
        map-append event_in rs
            (bytes ∷ []),
      )
          next;
    }

-- a set of 1 to 8
pub right_count : (n : ℕ) → 1 ≤ n → n ≤ 8 → bad_count n ≡ false
unfolding bad_count
right_count n some few = rw (ne_eqb n 0 (λ e. omega (arith, some, e)), le-ltb 8 n few)

-- A set of read texts.
module _ (texts : List Bytes) (tms : List Tracematch) (ds : AllDeclare texts tms) (more : List ℕ) where
  abbrev pub W : List ℕ
  W = books_of texts more

  abbrev pub B : ℕ → Book
  B k = book_in (block_at 269 k W)

  -- what the states' words are behind the records that were accepted
  pub record Course (states : List ℕ) (rs : List Bytes) : Type 0 where
    pub room : 3715 * length tms ≤ length states
    pub words : (k : ℕ) → k < length tms → block_at 3715 k states ≡ words_behind (B k) rs
    pub behind : (k : ℕ) (tm : Tracematch) → Within tms k tm → Behind (B k) tm rs

  pub course_state : (S : List ℕ) (rs : List Bytes) → Course S rs → (k : ℕ) (tm : Tracematch) → Within tms k tm
      → Tracked tm (map event_in rs) (state_in (block_at 3715 k S))
  course_state S rs c k tm w = rw (c.words k w.inside) (c.behind k tm w).tracked

  -- fresh states
  module _ (states : List ℕ) (some : 1 ≤ length texts) (few : length texts ≤ 8) (long : 3715 * length texts ≤ length states) where
    abbrev n : ℕ
    n = length texts

    fits : (j m : ℕ) → j + m ≤ n → first_failing {A = ℕ} 0 (map (λ k. record { fails = beyond_end 3715 k states; answer = 9 }) (numbers j m)) ≡ 0
    fits j zero h = refl
    fits j (suc m) h = rw (le-ltb (length states) (3715 * suc j) (omega arith)) (fits (suc j) m (omega arith))

    abbrev made : List ℕ
    made = gather (λ k. state_words fresh_state) (numbers 0 n)

    made_long : length made ≡ 3715 * n
    made_long =
        gather_length (λ k. state_words fresh_state) 3715 (numbers 0 n) (λ k m. state_length fresh_state fresh_canonical)
        ∙ omega (arith, length_numbers 0 n)

    pub fresh_left : set_fresh states n ≡ record { number = 0; states = front made states }
    unfolding set_fresh
    fresh_left = rw (right_count n some few, fits 0 n (omega arith))

    pub course_fresh : Course (set_fresh states n).states []
    unfolding front
    course_fresh =
        let same = declares_length ds in
        rw fresh_left (record {
          room = omega (arith, length-append made (drop (length made) states), made_long, same);
          words = λ k h. block_gather 3715 (λ k. state_words fresh_state) (numbers 0 n) (λ k m. state_length fresh_state fresh_canonical) (drop
              (length made) states) k k
              (numbers_from n k (omega (arith, same)));
          behind = λ k tm w. behind_fresh (B k) tm;
        })

  -- an accepted record
  module _ (S : List ℕ) (rs : List Bytes) (c : Course S rs) (bytes : Bytes) (lent : is_bytes bytes ≡ true)
      (passes : first_failing 0 (gather (λ p. p.checks) (parts_in W S bytes (length texts))) ≡ 0) where
    pub own_passes : (k : ℕ) → k < length tms → number_of (first_failing Accepted (decisions (B k) (state_in (block_at 3715 k S)) bytes)) ≡ 0
    own_passes k h =
        (part_passes W S bytes k (each_passes W S bytes 0 (length texts) passes k (omega arith) (omega (arith, declares_length ds, h)))).2

    pub next_behind : (k : ℕ) (tm : Tracematch) → Within tms k tm → Behind (B k) tm (rs ++ (bytes ∷ []))
    next_behind k tm w =
        behind_next (B k) tm (book_at ds more k tm w).reads rs (c.behind k tm w) bytes lent (rw (c.words k w.inside) at (own_passes k w.inside))

    next_words_law : (k : ℕ) → k < length tms
        → state_stored (block_at 3715 k S) (part_next (event_in bytes) (book_part W S bytes k)) ≡ words_behind (B k) (rs ++ (bytes ∷ []))
    unfolding part_next book_part
    next_words_law k h = rw (c.words k h) (sym (trace_more (words_next (B k)) (state_words fresh_state) rs (bytes ∷ [])))

    next_size : (k : ℕ) → Memᴰ k (numbers 0 (length texts))
        → length (state_stored (block_at 3715 k S) (part_next (event_in bytes) (book_part W S bytes k))) ≡ 3715
    next_size k m =
        let h : k < length tms = omega (arith, ((mem_numbers k 0 (length texts)).0 m).1, declares_length ds) in
        let (tm, w) = within_at tms k h in
        ap length (next_words_law k h) ∙ (next_behind k tm w).size

    pub course_next : Course (states_after W S bytes (length texts)) (rs ++ (bytes ∷ []))
    unfolding states_after
    course_next =
        let f : ℕ → List ℕ = λ k. state_stored (block_at 3715 k S) (part_next (event_in bytes) (book_part W S bytes k)) in
        let n = length texts in
        let rest = drop (3715 * n) S in
        record {
          room = omega (
            arith,
            length-append (gather f (numbers 0 n)) rest,
            gather_length f 3715 (numbers 0 n) next_size,
            length_numbers 0 n,
            declares_length ds,
          );
          words = λ k h.
              block_gather 3715 f (numbers 0 n) next_size rest k k (numbers_from n k (omega (arith, declares_length ds, h))) ∙ next_words_law k h;
          behind = next_behind;
        }

  -- A run: the states behind calls, and the records that were accepted.
  module _ (states : List ℕ) (some : 1 ≤ length texts) (few : length texts ≤ 8) (long : 3715 * length texts ≤ length states) where
    abbrev machine : Machine (List ℕ) LentCall SetMade
    machine = setting W (length texts)

    abbrev start : List ℕ
    start = (set_fresh states (length texts)).states

    -- the records behind a call that was made
    abbrev recorded : List Bytes → SetMade → List Bytes
    recorded rs m = cond (set_taken m) (rs ++ (m.lent.bytes ∷ [])) rs

    abbrev recording : Machine (List Bytes) SetMade (List Bytes)
    recording = record { gives = recorded; leaves = λ rs. rs }

    recorded_all : (rs : List Bytes) (ms : List SetMade) → state_from recording rs ms ≡ rs ++ set_records ms
    recorded_all rs [] = sym (append-nil rs)
    recorded_all rs (m ∷ ms) = recorded_all (recorded rs m) ms ∙ go (set_taken m)
      where
        go : (z : Bool) → cond z (rs ++ (m.lent.bytes ∷ [])) rs ++ set_records ms ≡ rs
            ++ map (λ m. m.lent.bytes) (cond z (m ∷ set_accepted ms) (set_accepted ms))
        go true = append_assoc rs (m.lent.bytes ∷ []) (set_records ms)
        go false = refl

    -- one call
    course_call : (S : List ℕ) (rs : List Bytes) → Course S rs → (c : LentCall) → is_bytes c.bytes ≡ true
        → let m = machine.gives S c in Course m.left.states (recorded rs m)
    course_call S rs h c lent = go (eqb (set_left W S n c.bytes c.buffer c.place c.tally).number 0) refl
      where
        n : ℕ
        n = length texts

        go : (z : Bool) → eqb (set_left W S n c.bytes c.buffer c.place c.tally).number 0 ≡ z
            → Course (set_left W S n c.bytes c.buffer c.place c.tally).states (cond z (rs ++ (c.bytes ∷ [])) rs)
        go true e =
            let none : number W S c.bytes n c.buffer c.place ≡ 0 =
            sym (left_number W S c.bytes n c.buffer c.place c.tally) ∙ eqb-true _ 0 e in
            rw (left_accepted W S c.bytes n c.buffer c.place c.tally none)
            (course_next S rs h c.bytes lent (number_zero W S c.bytes n c.buffer c.place none).1)
        go false e =
            let some : number W S c.bytes n c.buffer c.place ≡ 0 → ⊥ =
            λ z. eqb-false _ 0 e (left_number W S c.bytes n c.buffer c.place c.tally ∙ z) in
            rw (left_refused W S c.bytes n c.buffer c.place c.tally some) h

    pub course_run : (cs : List LentCall) → lent_bytes cs ≡ true → Course (state_from machine start cs) (set_records (set_run texts more states cs))
    course_run cs lent =
        subst (Course (state_from machine start cs)) (ap (state_from recording []) (map-id (set_run texts more states cs))
        ∙ recorded_all [] (set_run texts more states cs))
        (followed machine recording (λ m. m) Course {P = λ c. is_bytes c.bytes ≡ true} course_call start [] (course_fresh states some few long) cs
        (λ c m. all_at (λ c. is_bytes c.bytes) lent m))

    -- a call in its place: the states that it met, and what was lent to it
    pub record Met (cs : List LentCall) (i : ℕ) (m : SetMade) : Type 0 where
      pub states_met : List ℕ
      pub course : Course states_met (set_records (take i (set_run texts more states cs)))
      pub lent : is_bytes m.lent.bytes ≡ true
      pub made : m.left ≡ set_left W states_met (length texts) m.lent.bytes m.lent.buffer m.lent.place m.lent.tally

    pub met_at : (cs : List LentCall) → lent_bytes cs ≡ true → (i : ℕ) (m : SetMade) → Within (set_run texts more states cs) i m → Met cs i m
    met_at cs lent i m w =
        let (c, v, e) = result_at machine start cs i m w in
        record {
          states_met = state_from machine start (take i cs);
          course = rw (results_take machine start i cs) (course_run (take i cs) (all_take (λ c. is_bytes c.bytes) i cs lent));
          lent = rw e (all_at (λ c. is_bytes c.bytes) lent (within_mem v));
          made = rw e refl;
        }

    -- an accepted one: the records up to it, and that no book refused it
    pub record TakenAt (cs : List LentCall) (i : ℕ) (m : SetMade) : Type 0 where
      pub records : List Bytes
      pub states_met : List ℕ
      pub course : Course states_met records
      pub lent : is_bytes m.lent.bytes ≡ true
      pub made : m.left ≡ set_left W states_met (length texts) m.lent.bytes m.lent.buffer m.lent.place m.lent.tally
      pub none : number W states_met m.lent.bytes (length texts) m.lent.buffer m.lent.place ≡ 0
      pub count : length records ≡ i
      pub upto : take (suc i) (set_records (set_run texts more states cs)) ≡ records ++ (m.lent.bytes ∷ [])

    pub taken_at : (cs : List LentCall) → lent_bytes cs ≡ true → (i : ℕ) (m : SetMade) → Within (set_accepted (set_run texts more states cs)) i m → TakenAt cs i m
    taken_at cs lent i m w =
        let ms = set_run texts more states cs in
        let p = passed_at set_taken ms i m w in
        let met = met_at cs lent p.place m p.there in
        record {
          records = set_records (take p.place ms);
          states_met = met.states_met;
          course = met.course;
          lent = met.lent;
          made = met.made;
          none = sym (ap (λ l. l.number) met.made
              ∙ left_number W met.states_met m.lent.bytes (length texts) m.lent.buffer m.lent.place m.lent.tally) ∙ eqb-true _ 0 p.passes;
          count = length-map (set_accepted (take p.place ms)) (λ m. m.lent.bytes) ∙ p.before;
          upto = take_map (λ m. m.lent.bytes) (suc i) (set_accepted ms) ∙ ap (map (λ m. m.lent.bytes)) p.upto
              ∙ map-append (λ m. m.lent.bytes) (set_accepted (take p.place ms)) (m ∷ []);
        }
