-- Words of the statements about sets, with their text: what a call leaves, lists of calls, and what is promised of them; these parts and no other,
-- and any
-- parts make one. For the buyer.
use mathlib.Core.Path.{◌≡◌, refl, sym, ap, subst}
use mathlib.Core.Bool.{Bool, true, false, cond, ◌||◌}
use mathlib.Core.List.{List, [], ◌∷◌, ◌++◌, map}
use mathlib.Core.Logic.{◌↔◌, ◌⊎◌, inl, inr}
use Prim.Native.Nat.{ℕ, suc, ◌+◌, ◌-◌, ◌*◌, ◌≤◌, ◌<◌}
use lib.Dec.{eqb, ltb}
use lib.ListN.{length, get_or, take, drop, set, replicate}
use Rattle.laws.specs.Checks.{Check, first_failing, FirstToFail}
use Rattle.laws.specs.Lists.{keep, gather, numbers}
use Rattle.laws.specs.Parts.{splice}
use Rattle.runs.specs.Runs.{results_from, Within}
use Rattle.pattern.specs.Regex.{Regex}
use Rattle.meaning.specs.Events.{Event, Valuation}
use Rattle.meaning.specs.Meaning.{Tracematch}
use Rattle.meaning.specs.Book.{book_of}
use Rattle.meaning.specs.Room.{Broken}
use Rattle.meaning.specs.Runs.{Listed}
use Rattle.form.specs.Text.{Bytes, Declarations, tracematch_of}
use Rattle.form.specs.Form.{Form}
use Rattle.record.specs.Records.{is_record, event_in}
use Rattle.row.specs.RowBytes.{bytes_of}
use Rattle.tally.specs.declared.Tally.{Tally}
use Rattle.tally.specs.Tallies.{tallied}
use Rattle.calls.specs.declared.EventAnswer.{EventAnswer}
use Rattle.calls.specs.declared.EventAnswer.TheVariants.{Unsound, OutOfForm, TooMany, NoRoom}
use Rattle.calls.specs.Answers.{number_of}
use Rattle.calls.specs.Calls as Calls
use Rattle.calls.specs.Calls.{rows_by, state_by}
use Rattle.calls.specs.Checks as Single
use Rattle.calls.specs.Runs.{held_after, Partners, InOrder}
use Rattle.blocks.specs.BookBlock.{book_in}
use Rattle.blocks.specs.StateBlock.{state_in, state_stored}
use Rattle.blocks.specs.TallyBlock.{tally_in, tally_words}
use Rattle.blocks.specs.Lent.{read_left}
use Rattle.lent_runs.specs.Lending.{LentCall, LentMade, lent_bytes, lent_run}
use Rattle.parts.specs.Parts.{Part, row_with, part_rows, part_bytes, part_next, rows_together, no_space_together, number_for, parts_left}
use Rattle.parts.specs.SetBlock.{bad_count, block_at, outside, book_part, states_after, SetLeft, set_left, SetFresh, set_fresh}
use Rattle.set_runs.specs.SetChecks.{of_count, of_book, of_rows, check_number, UnsoundAt, book_outside, state_outside, unsound_words}
use Rattle.set_runs.specs.SetChecks.{set_rows_due, SetFails, set_checks, SetFirstFailing, FreshRules}
use Rattle.set_runs.specs.Setting.{SetMade, setting, set_run, set_accepted, set_records, set_trace, AllDeclare, none_declared, one_declared}
use Rattle.set_runs.specs.Setting.{Listings, no_list, one_list, row_count, rows_from, SetDelivered, TooShortTogether, beyond_buffer, over_buffer}
use Rattle.set_runs.specs.Setting.{SetFailsAfter, SetPassesAfter, checks_after, SetJudged, SameAlone, AloneAlike, SetAlike, SetAllAlike}
use Rattle.set_runs.specs.Setting.{SetCrossed, SetDemands}

-- a part of a call over several
pub part_whole : ((p : Part) → p ≡ record { book = p.book; state = p.state; byte5 = p.byte5; byte6 = p.byte6; checks = p.checks })
part_whole p = refl

-- a row of a part, its rows, their bytes and its next state
pub part_said : (e : Event) (p : Part)
    → (part_rows e p ≡ rows_by p.book p.state e) × (part_next e p ≡ state_by p.book p.state e)
    × (part_bytes e p
    ≡ gather (λ σ. bytes_of (record { number = suc p.state.number; variables = p.book.variables; byte5 = p.byte5; byte6 = p.byte6; values = σ }))
    (rows_by p.book p.state e))
unfolding part_rows part_next part_bytes
part_said e p = (refl, refl, refl)

-- a row, a block of words, and the rows of all books
pub row_with_said : (n v x y : ℕ) (σ : Valuation) → row_with n v x y σ ≡ bytes_of (record { number = n; variables = v; byte5 = x; byte6 = y; values = σ })
row_with_said n v x y σ = refl

pub block_said : (size k : ℕ) (w : List ℕ) → block_at size k w ≡ take size (drop (size * k) w)
block_said size k w = refl

pub rows_due_said : (w s : List ℕ) (count : ℕ) (bytes buffer : Bytes) (place : ℕ)
    → set_rows_due w s count bytes buffer place
    ≡ gather (λ k. Single.rows_due (book_in (take 269 (drop (269 * k) w))) (state_in (take 3715 (drop (3715 * k) s))) bytes) (numbers 0 count)
rows_due_said w s count bytes buffer place = refl

-- a call over parts: the checks before all else, those of each part in its turn, 13 on the sum; rows in part order, one event and all rows tallied, or one
-- refused event
pub parts_said : (first : List (Check ℕ)) (parts : List Part) (e : Event) (buffer : Bytes) (place : ℕ) (t : Tally)
    → let n = length (gather (part_rows e) parts) in
    let number = first_failing 0 (first ++ gather (λ p. p.checks) parts ++ (record { fails = ltb (length buffer) (place + 24 * n); answer = 13 } ∷ [])) in
    (number_for first parts e buffer place ≡ number)
    × (eqb number 0 ≡ true → parts_left first parts e buffer place t
    ≡ record { number = number; rows = n; buffer = splice place (gather (part_bytes e) parts) buffer; tally = tallied t 1 0 n })
    × (eqb number 0 ≡ false → parts_left first parts e buffer place t ≡ record { number = number; rows = 0; buffer = buffer; tally = tallied t 0 1 0 })
unfolding number_for no_space_together rows_together parts_left
parts_said first parts e buffer place t = (refl, λ h. rw h, λ h. rw h)

-- book number k of a set: its words, its state's, its number in byte 5, and its checks: 9 where they are not wholly inside, then 9 to 12 as it has them alone
pub book_part_said : (w s : List ℕ) (bytes : Bytes) (k : ℕ)
    → let b = book_in (take 269 (drop (269 * k) w)) in
    let z = state_in (take 3715 (drop (3715 * k) s)) in
    book_part w s bytes k
    ≡ record {
      book = b;
      state = z;
      byte5 = k;
      byte6 = 0;
      checks = record { fails = ltb (length w) (269 * suc k) || ltb (length s) (3715 * suc k); answer = 9 }
          ∷ record { fails = Calls.unsound b z bytes; answer = 9 }
          ∷ record { fails = Calls.out_of_form b z bytes; answer = 10 }
          ∷ record { fails = Calls.too_many b z bytes; answer = 11 }
          ∷ record { fails = Calls.no_room b z bytes; answer = 12 }
          ∷ [];
    }
unfolding book_part outside
book_part_said w s bytes k = refl

-- what `watch_set_event` hands back and leaves: 14 before all else
pub set_left_said : (w s : List ℕ) (n : ℕ) (bytes buffer : Bytes) (place : ℕ) (t : List ℕ)
    → let parts = map (book_part w s bytes) (numbers 0 n) in
    let r = parts_left (record { fails = eqb n 0 || ltb 8 n; answer = 14 } ∷ []) parts (event_in bytes) buffer place (tally_in t) in
    let l = set_left w s n bytes buffer place t in
    (l.number ≡ r.number) × (l.rows ≡ r.rows) × (l.buffer ≡ r.buffer) × (l.tally ≡ tally_words r.tally)
    × (eqb r.number 0 ≡ true
    → l.states ≡ gather (λ k. state_stored (take 3715 (drop (3715 * k) s)) (part_next (event_in bytes) (book_part w s bytes k))) (numbers 0 n)
    ++ drop (3715 * n) s)
    × (eqb r.number 0 ≡ false → l.states ≡ s)
unfolding set_left bad_count states_after
set_left_said w s n bytes buffer place t =
    let words : Bool → List ℕ = λ z. cond z (states_after w s bytes n) s in
    (refl, refl, refl, refl, λ e. ap words e, λ e. ap words e)

pub set_left_whole : ((l : SetLeft) → l ≡ record { number = l.number; rows = l.rows; buffer = l.buffer; tally = l.tally; states = l.states })
    × ((number rows : ℕ) (buffer : Bytes) (tally states : List ℕ) → SetLeft)
set_left_whole = (λ l. refl, λ n r b t s. record { number = n; rows = r; buffer = b; tally = t; states = s })

pub set_fresh_whole : (f : SetFresh) → f ≡ record { number = f.number; states = f.states }
set_fresh_whole f = refl

-- the rules for fresh states
pub fresh_rules_said : (s : List ℕ) (count number : ℕ) (left : List ℕ)
    → FreshRules s count number left
    ↔ (((number ≡ 14) ↔ ((count ≡ 0) ⊎ (8 < count)))
    × ((number ≡ 9) ↔ ((1 ≤ count) × (count ≤ 8) × (length s < 3715 * count)))
    × ((number ≡ 0) ↔ ((1 ≤ count) × (count ≤ 8) × (3715 * count ≤ length s)))
    × ((number ≡ 0 → ⊥) → left ≡ s)
    × (number ≡ 0 → ((k : ℕ) → k < count → take 3715 (drop (3715 * k) left) ≡ 2001 ∷ replicate 3714 0)
    × (drop (3715 * count) left ≡ drop (3715 * count) s) × (length left ≡ length s)))
fresh_rules_said s count number left = (
  λ r. (r.fourteen, r.nine, r.zero, r.stays, r.fresh),
  λ (a, b, c, d, e). record { fourteen = a; nine = b; zero = c; stays = d; fresh = e },
)

-- the checks in words: their keys, their numbers, their order, and when each fails
pub set_checks_said : (w s : List ℕ) (count : ℕ) (bytes buffer : Bytes) (place : ℕ)
    → let b : ℕ → _ = λ k. book_in (take 269 (drop (269 * k) w)) in
    let z : ℕ → _ = λ k. state_in (take 3715 (drop (3715 * k) s)) in
    let Fails = SetFails w s count bytes buffer place in
    (set_checks w s count bytes buffer place
    ≡ of_count ∷ gather (λ k. of_book k Unsound ∷ of_book k OutOfForm ∷ of_book k TooMany ∷ of_book k NoRoom ∷ []) (numbers 0 count) ++ (of_rows ∷ []))
    × (Fails of_count ≡ ((count ≡ 0) ⊎ (8 < count)))
    × ((k : ℕ) → (Fails (of_book k Unsound) ≡ UnsoundAt w s count bytes buffer place k) × (Fails (of_book k OutOfForm) ≡ Single.OutOfForm (b k) (z k) bytes)
    × (Fails (of_book k TooMany) ≡ Single.TooMany (b k) (z k) bytes) × (Fails (of_book k NoRoom) ≡ Single.NoRoom (b k) (z k) bytes))
    × (Fails of_rows ≡ (length buffer < place + 24 * length (gather (λ k. Single.rows_due (b k) (z k) bytes) (numbers 0 count))))
set_checks_said w s count bytes buffer place = (refl, refl, λ k. (refl, refl, refl, refl), refl)

pub check_numbers_said : {B : Type 0} → (check_number {B = B} of_count ≡ 14) × ((b : B) (a : EventAnswer) → check_number (of_book b a) ≡ number_of a)
    × (check_number {B = B} of_rows ≡ 13)
check_numbers_said = (refl, λ b a. refl, refl)

pub unsound_at_said : (w s : List ℕ) (count : ℕ) (bytes buffer : Bytes) (place k : ℕ)
    → UnsoundAt w s count bytes buffer place k
    ↔ ((length w < 269 * suc k) ⊎ ((length s < 3715 * suc k) ⊎ Single.Unsound (book_in (take 269 (drop (269 * k) w))) (state_in (take 3715 (drop
    (3715 * k) s))) bytes))
unsound_at_said w s count bytes buffer place k = (to, back)
  where
    to : UnsoundAt w s count bytes buffer place k
        → (length w < 269 * suc k) ⊎ ((length s < 3715 * suc k)
        ⊎ Single.Unsound (book_in (take 269 (drop (269 * k) w))) (state_in (take 3715 (drop (3715 * k) s))) bytes)
    to (book_outside h) = inl h
    to (state_outside h) = inr (inl h)
    to (unsound_words h) = inr (inr h)

    back : (length w < 269 * suc k) ⊎ ((length s < 3715 * suc k)
        ⊎ Single.Unsound (book_in (take 269 (drop (269 * k) w))) (state_in (take 3715 (drop (3715 * k) s))) bytes)
        → UnsoundAt w s count bytes buffer place k
    back (inl h) = book_outside h
    back (inr (inl h)) = state_outside h
    back (inr (inr h)) = unsound_words h

pub set_first_said : (w s : List ℕ) (count : ℕ) (bytes buffer : Bytes) (place n : ℕ)
    → SetFirstFailing w s count bytes buffer place n
    ↔ FirstToFail (SetFails w s count bytes buffer place) (λ c. SetFails w s count bytes buffer place c
    → ⊥) check_number 0 (set_checks w s count bytes buffer place) n
set_first_said w s count bytes buffer place n = (λ r. r.first, λ x. record { first = x })

-- lists of calls on a set
pub set_run_said : (texts : List Bytes) (more states : List ℕ) (cs : List LentCall)
    → set_run texts more states cs
    ≡ results_from (setting (gather (λ text. (read_left text).book) texts ++ more) (length texts)) (set_fresh states (length texts)).states cs
set_run_said texts more states cs = refl

pub setting_said : (w s : List ℕ) (n : ℕ) (c : LentCall) (m : SetMade)
    → ((setting w n).gives s c ≡ record { lent = c; left = set_left w s n c.bytes c.buffer c.place c.tally })
    × ((setting w n).leaves m ≡ m.left.states)
setting_said w s n c m = (refl, refl)

pub set_results_said : (w s : List ℕ) (n : ℕ) (c : LentCall) (cs : List LentCall)
    → (results_from (setting w n) s [] ≡ [])
    × (results_from (setting w n) s (c ∷ cs)
    ≡ record { lent = c; left = set_left w s n c.bytes c.buffer c.place c.tally }
    ∷ results_from (setting w n) (set_left w s n c.bytes c.buffer c.place c.tally).states cs)
set_results_said w s n c cs = (refl, refl)

pub set_made_whole : ((m : SetMade) → m ≡ record { lent = m.lent; left = m.left }) × ((c : LentCall) (l : SetLeft) → SetMade)
set_made_whole = (λ m. refl, λ c l. record { lent = c; left = l })

pub set_trace_said : (ms : List SetMade)
    → (set_accepted ms ≡ keep (λ m. eqb m.left.number 0) ms) × (set_records ms ≡ map (λ m. m.lent.bytes) (keep (λ m. eqb m.left.number 0) ms))
    × (set_trace ms ≡ map event_in (set_records ms))
set_trace_said ms = (refl, refl, refl)

-- what texts declare, one by one
pub declares_said : ((tms : List Tracematch) → AllDeclare [] tms ↔ (tms ≡ []))
    × ((text : Bytes) (texts : List Bytes) (tms : List Tracematch) → AllDeclare (text ∷ texts) tms
    ↔ ((d : Declarations) × (r : Regex) × (rest : List Tracematch) × Form text d r × AllDeclare texts rest × (tms ≡ tracematch_of d r ∷ rest)))
declares_said = (
  λ tms. (none, λ e. subst (AllDeclare []) (sym e) none_declared),
  λ text texts tms. (
    more,
    λ (d, r, rest, f, ds, e). subst (AllDeclare _)
        (sym e) (one_declared d r f ds),
  ),
)
  where
    none : {tms : List Tracematch} → AllDeclare [] tms → tms ≡ []
    none none_declared = refl

    more : {text : Bytes} {texts : List Bytes} {tms : List Tracematch} → AllDeclare (text ∷ texts) tms
        → (d : Declarations) × (r : Regex) × (rest : List Tracematch) × Form text d r × AllDeclare texts rest × (tms ≡ tracematch_of d r ∷ rest)
    more (one_declared {tms = tms} d r f ds) = (d, r, tms, f, ds, refl)

-- for each book one list
pub listings_said : (t : List Event) (n : ℕ)
    → ((ls : List (List Valuation)) → Listings t n [] ls ↔ (ls ≡ []))
    × ((tm : Tracematch) (tms : List Tracematch) (ls : List (List Valuation)) → Listings t n (tm ∷ tms) ls
    ↔ ((l : List Valuation) × (rest : List (List Valuation)) × Listed tm t n l × Listings t n tms rest × (ls ≡ l ∷ rest)))
listings_said t n = (
  λ ls. (none, λ e. subst (Listings t n []) (sym e) no_list),
  λ tm tms ls. (
    more,
    λ (l, rest, a, b, e). subst (Listings t n _) (sym e)
        (one_list a b),
  ),
)
  where
    none : {ls : List (List Valuation)} → Listings t n [] ls → ls ≡ []
    none no_list = refl

    more : {tm : Tracematch} {tms : List Tracematch} {ls : List (List Valuation)} → Listings t n (tm ∷ tms) ls
        → (l : List Valuation) × (rest : List (List Valuation)) × Listed tm t n l × Listings t n tms rest × (ls ≡ l ∷ rest)
    more (one_list {l = l} {ls = ls} a b) = (l, ls, a, b, refl)

-- how many rows these are, and their bytes
pub rows_from_said : (ls : List (List Valuation)) (n k : ℕ) (tm : Tracematch) (tms : List Tracematch) (l : List Valuation)
    → (row_count ls ≡ length (gather (λ l. l) ls)) × (rows_from n k [] ls ≡ [])
    × (rows_from n k (tm ∷ tms) (l ∷ ls)
    ≡ gather (λ σ. bytes_of (record { number = n; variables = tm.variables; byte5 = k; byte6 = 0; values = σ })) l ++ rows_from n (suc k) tms ls)
rows_from_said ls n k tm tms l = (refl, refl, refl)

pub set_delivered_said : (tms : List Tracematch) (t : List Event) (n : ℕ) (m : SetMade)
    → SetDelivered tms t n m
    ↔ ((ls : List (List Valuation)) × Listings t n tms ls × (m.left.rows ≡ row_count ls) × (m.lent.place + 24 * row_count ls ≤ length m.lent.buffer)
    × (m.left.buffer ≡ splice m.lent.place (rows_from n 0 tms ls) m.lent.buffer)
    × (m.left.tally ≡ tally_words (tallied (tally_in m.lent.tally) 1 0 (row_count ls)))
    × ((k : ℕ) → k < length tms → get_or (take 3715 (drop (3715 * k) m.left.states)) 1 0 ≡ n))
set_delivered_said tms t n m = (
  λ r. (r.lists, r.meant, r.counted, r.fitting, r.written, r.tallies, r.numbered),
  λ (l, a, b, c, d, e, f). record { lists = l; meant = a; counted = b; fitting = c; written = d; tallies = e; numbered = f },
)

-- the checks behind a trace
pub set_judged_said : (tms : List Tracematch) (t : List Event) (c : LentCall)
    → (checks_after tms t c ≡ gather (λ tm. of_book tm OutOfForm ∷ of_book tm TooMany ∷ of_book tm NoRoom ∷ []) tms ++ (of_rows ∷ []))
    × ((tm : Tracematch) → let held = held_after tm t in
    (SetFailsAfter tms t c (of_book tm OutOfForm) ≡ (is_record c.bytes ≡ false))
    × (SetPassesAfter tms t c (of_book tm OutOfForm) ≡ (is_record c.bytes ≡ true))
    × (SetFailsAfter tms t c (of_book tm TooMany) ≡ (length t ≡ 1000000)) × (SetPassesAfter tms t c (of_book tm TooMany) ≡ (length t < 1000000))
    × (SetFailsAfter tms t c (of_book tm NoRoom) ≡ Broken (book_of tm) held (event_in c.bytes))
    × (SetPassesAfter tms t c (of_book tm NoRoom) ≡ (Broken (book_of tm) held (event_in c.bytes) → ⊥)))
    × (SetFailsAfter tms t c of_rows ≡ TooShortTogether tms t (event_in c.bytes) c.buffer c.place)
    × (SetPassesAfter tms t c of_rows ≡ (TooShortTogether tms t (event_in c.bytes) c.buffer c.place → ⊥))
    × ((n : ℕ) → SetJudged tms t c n ↔ FirstToFail (SetFailsAfter tms t c) (SetPassesAfter tms t c) check_number 0 (checks_after tms t c) n)
set_judged_said tms t c = (refl, λ tm. (refl, refl, refl, refl, refl, refl), refl, refl, λ n. (λ r. r.first, λ x. record { first = x }))

pub too_short_said : (tms : List Tracematch) (t : List Event) (e : Event) (buffer : Bytes) (place : ℕ)
    → TooShortTogether tms t e buffer place
    ↔ ((length buffer < place)
    ⊎ ((ls : List (List Valuation)) × Listings (t ++ (e ∷ [])) (suc (length t)) tms ls × (place ≤ length buffer) × (length buffer - place < 24 * row_count ls)))
too_short_said tms t e buffer place = (to, back)
  where
    to : TooShortTogether tms t e buffer place
        → (length buffer < place)
        ⊎ ((ls : List (List Valuation)) × Listings (t ++ (e ∷ [])) (suc (length t)) tms ls × (place ≤ length buffer)
        × (length buffer - place < 24 * row_count ls))
    to (beyond_buffer h) = inl h
    to (over_buffer ls m h k) = inr (ls, m, h, k)

    back : (length buffer < place)
        ⊎ ((ls : List (List Valuation)) × Listings (t ++ (e ∷ [])) (suc (length t)) tms ls × (place ≤ length buffer)
        × (length buffer - place < 24 * row_count ls))
        → TooShortTogether tms t e buffer place
    back (inl h) = beyond_buffer h
    back (inr (ls, m, h, k)) = over_buffer ls m h k

-- one book alone
pub same_alone_said : (k : ℕ) (lists : List (List Valuation)) (m : SetMade) (a : LentMade)
    → SameAlone k lists m a
    ↔ ((a.left.number ≡ 0) × (a.left.rows ≡ length (get_or lists k []))
    × ((j : ℕ) → j < a.left.rows
    → take 24 (drop (m.lent.place + 24 * (row_count (take k lists) + j)) m.left.buffer)
    ≡ set (take 24 (drop (a.lent.place + 24 * j) a.left.buffer)) 5 k) × (a.left.state ≡ take 3715 (drop (3715 * k) m.left.states)))
same_alone_said k lists m a = (λ r. (r.accepted, r.rows, r.bytes, r.state), λ (x, y, z, w). record { accepted = x; rows = y; bytes = z; state = w })

pub alone_said : (text : Bytes) (k : ℕ) (tms : List Tracematch) (tm : Tracematch) (ms : List SetMade) (cs : List LentCall)
    → AloneAlike text k tms tm ms cs
    ≡ (map (λ c. c.bytes) cs ≡ set_records ms
    → ((i : ℕ) (c : LentCall) (l : List Valuation) → Within cs i c → Listed tm (set_trace ms) (suc i) l → c.place + 24 * length l ≤ length c.buffer)
    → (i : ℕ) (m : SetMade) (a : LentMade) → Within (set_accepted ms) i m → Within (lent_run text cs) i a → (d : SetDelivered tms (set_trace ms) (suc i) m)
    → SameAlone k d.lists m a)
alone_said text k tms tm ms cs = refl

-- demand 3: bytes 4 to 23 of the rows of partners
pub set_alike_said : (tms : List Tracematch) (k : ℕ) (t u : List Event) (n j : ℕ) (a c : SetMade)
    → SetAlike tms k t u n j a c
    ↔ ((x : SetDelivered tms t n a) × (y : SetDelivered tms u j c) × (get_or x.lists k [] ≡ get_or y.lists k [])
    × ((i : ℕ) → i < length (get_or x.lists k [])
    → take 20 (drop (a.lent.place + 24 * (row_count (take k x.lists) + i) + 4) a.left.buffer)
    ≡ take 20 (drop (c.lent.place + 24 * (row_count (take k y.lists) + i) + 4) c.left.buffer)))
set_alike_said tms k t u n j a c =
    (λ r. (r.left, r.right, r.valuations, r.bytes), λ (x, y, v, b). record { left = x; right = y; valuations = v; bytes = b })

pub set_all_alike_said : (a c : SetMade)
    → SetAllAlike a c
    ↔ ((a.left.rows ≡ c.left.rows)
    × ((i : ℕ) → i < a.left.rows → take 20 (drop (a.lent.place + 24 * i + 4) a.left.buffer) ≡ take 20 (drop (c.lent.place + 24 * i + 4)
    c.left.buffer)))
set_all_alike_said a c = (λ r. (r.counts, r.bytes), λ (x, y). record { counts = x; bytes = y })

pub set_crossed_said : (tms : List Tracematch) (xs ys : List SetMade) (p : Partners (set_records xs) (set_records ys))
    → SetCrossed tms xs ys p
    ↔ (((k : ℕ) (tm : Tracematch) → Within tms k tm → InOrder tm (set_records xs) (set_records ys) p → (i : ℕ) (a : SetMade) → Within (set_accepted xs) i a
    → (c : SetMade) × Within (set_accepted ys) (p.to i) c × SetAlike tms k (set_trace xs) (set_trace ys) (suc i) (suc (p.to i)) a c)
    × (((k : ℕ) (tm : Tracematch) → Within tms k tm → InOrder tm (set_records xs) (set_records ys) p) → (i : ℕ) (a : SetMade) → Within (set_accepted xs) i a
    → (c : SetMade) × Within (set_accepted ys) (p.to i) c × SetAllAlike a c))
set_crossed_said tms xs ys p = (λ r. (r.book, r.whole), λ (x, y). record { book = x; whole = y })

pub set_demands_said : (texts : List Bytes) (tms : List Tracematch) (more states : List ℕ)
    → SetDemands texts tms more states
    ↔ (AllDeclare texts tms
    × ((cs : List LentCall) → lent_bytes cs ≡ true → (i : ℕ) (m : SetMade) → Within (set_run texts more states cs) i m
    → SetJudged tms (set_trace (take i (set_run texts more states cs))) m.lent m.left.number)
    × ((cs : List LentCall) → lent_bytes cs ≡ true → (i : ℕ) (m : SetMade) → Within (set_accepted (set_run texts more states cs)) i m
    → SetDelivered tms (set_trace (set_run texts more states cs)) (suc i) m)
    × ((cs : List LentCall) → lent_bytes cs ≡ true → (k : ℕ) (text : Bytes) (tm : Tracematch) → Within texts k text → Within tms k tm
    → (bs : List LentCall) → AloneAlike text k tms tm (set_run texts more states cs) bs)
    × ((further others : List ℕ) → 3715 * length texts ≤ length others → (xs ys : List LentCall) → lent_bytes xs ≡ true → lent_bytes ys ≡ true
    → (p : Partners (set_records (set_run texts more states xs)) (set_records (set_run texts further others ys)))
    → SetCrossed tms (set_run texts more states xs) (set_run texts further others ys) p))
set_demands_said texts tms more states = (
  λ r. (r.declared, r.answers, r.rows, r.alone, r.crossed),
  λ (a, b, c, d, e). record { declared = a; answers = b; rows = c; alone = d; crossed = e },
)
