-- Lists of event calls on a set of books, an instance of the runs of any machine (crate runs), and what is promised of them: of the numbers, words and bytes
-- that the calls leave. Theorems: `set_answered`, `set_listed`, `alone`, `set_crossed`, and all of them, `set_demands`, for every set of 1 to 8 texts that
-- `watch_read` accepts.
use Rattle.std.specs.Prelude.{◌≡◌, Bool, true, List, [], ◌∷◌, ◌++◌, map, ℕ, suc, ◌+◌, ◌-◌, ◌*◌, ◌≤◌, ◌<◌, eqb, length, get_or, take, drop, set}
use Rattle.laws.specs.Checks.{FirstToFail}
use Rattle.laws.specs.Lists.{keep, gather}
use Rattle.laws.specs.Parts.{splice}
use Rattle.runs.specs.Runs.{Machine, results_from, trace_by, Within}
use Rattle.pattern.specs.Regex.{Regex}
use Rattle.meaning.specs.Events.{Event, Valuation}
use Rattle.meaning.specs.Meaning.{Tracematch}
use Rattle.meaning.specs.Runs.{Listed}
use Rattle.form.specs.Text.{Bytes, Declarations, tracematch_of}
use Rattle.form.specs.Form.{Form}
use Rattle.record.specs.Records.{event_in}
use Rattle.row.specs.RowBytes.{row_size}
use Rattle.tally.specs.Tallies.{tallied}
use Rattle.calls.specs.declared.EventAnswer.TheVariants.{OutOfForm, TooMany, NoRoom}
use Rattle.calls.specs.Runs.{FailsAfter, PassesAfter, Partners, InOrder, behind_number}
use Rattle.blocks.specs.StateBlock.{state_size}
use Rattle.blocks.specs.TallyBlock.{tally_in, tally_words}
use Rattle.blocks.specs.Lent.{read_left}
use Rattle.lent_runs.specs.Lending.{LentCall, LentMade, lent_bytes, lent_run, lent_as}
use Rattle.parts.specs.Parts.{row_with}
use Rattle.parts.specs.SetBlock.{block_at, SetLeft, set_left, set_fresh}
use Rattle.set_runs.specs.SetChecks.{SetCheck, of_count, of_book, of_rows, check_number}

-- a call that was made: what was lent beside books and states, and what it handed back and left
pub record SetMade : Type 0 where
  pub lent : LentCall
  pub left : SetLeft

-- the calls on a set of n books as a machine: the states' words that a call leaves are those that the next one gets
abbrev pub setting : (books : List ℕ) (n : ℕ) → Machine (List ℕ) LentCall SetMade
setting w n =
    record {
      gives = λ s c. record { lent = c; left = set_left w s n c.bytes c.buffer c.place c.tally };
      leaves = λ m. m.left.states;
    }

-- the books that `watch_read` left of the texts, one behind the other, and any words behind them
abbrev pub books_of : (texts : List Bytes) (more : List ℕ) → List ℕ
books_of texts more = gather (λ text. (read_left text).book) texts ++ more

-- a run over them, from the words that `watch_set_fresh` leaves of any words
abbrev pub set_run : (texts : List Bytes) (more states : List ℕ) → List LentCall → List SetMade
set_run texts more states cs = results_from (setting (books_of texts more) (length texts)) (set_fresh states (length texts)).states cs

-- "An event is accepted where its call answers 0"
abbrev pub set_taken : SetMade → Bool
set_taken m = eqb m.left.number 0

abbrev pub set_accepted : List SetMade → List SetMade
set_accepted ms = keep set_taken ms

-- "the events that the set accepted": their records, and the events that these hold
abbrev pub set_records : List SetMade → List Bytes
set_records ms = trace_by set_taken (λ m. m.lent.bytes) ms

abbrev pub set_trace : List SetMade → List Event
set_trace ms = map event_in (set_records ms)

-- each text declares its tracematch
pub data AllDeclare : List Bytes → List Tracematch → Type 0 where
  none_declared : AllDeclare [] []
  one_declared : {text : Bytes} {texts : List Bytes} {tms : List Tracematch} (d : Declarations) (r : Regex) → Form text d r → AllDeclare texts tms
      → AllDeclare (text ∷ texts) (tracematch_of d r ∷ tms)

-- for each book the list of its rows by the declarative meaning, after event number n of the trace t
pub data Listings (t : List Event) (n : ℕ) : List Tracematch → List (List Valuation) → Type 0 where
  no_list : Listings t n [] []
  one_list : {tm : Tracematch} {l : List Valuation} {tms : List Tracematch} {ls : List (List Valuation)} → Listed tm t n l → Listings t n tms ls
      → Listings t n (tm ∷ tms) (l ∷ ls)

-- how many rows these are together
abbrev pub row_count : List (List Valuation) → ℕ
row_count ls = length (gather (λ l. l) ls)

-- their bytes, "in book order, with the book number (0 to 7) in byte 5": of the books from number k on
abbrev pub rows_from : (n k : ℕ) → List Tracematch → List (List Valuation) → Bytes
rows_from n k [] ls = []
rows_from n k (tm ∷ tms) [] = []
rows_from n k (tm ∷ tms) (l ∷ ls) = gather (row_with n tm.variables k 0) l ++ rows_from n (suc k) tms ls

-- Demand 2 for one accepted call of a set, the n-th of the trace t: of each book the rows of the declarative meaning over that trace, each with the event's
-- number, in the lent buffer from the lent place on; all else in the buffer is as lent; one accepted event and all rows are tallied; and every state has
-- the event's number.
pub record SetDelivered (tms : List Tracematch) (t : List Event) (n : ℕ) (m : SetMade) : Type 0 where
  pub lists : List (List Valuation)
  pub meant : Listings t n tms lists
  pub counted : m.left.rows ≡ row_count lists
  pub fitting : m.lent.place + row_size * row_count lists ≤ length m.lent.buffer
  pub written : m.left.buffer ≡ splice m.lent.place (rows_from n 0 tms lists) m.lent.buffer
  pub tallies : m.left.tally ≡ tally_words (tallied (tally_in m.lent.tally) 1 0 (row_count lists))
  pub numbered : (k : ℕ) → k < length tms → get_or (block_at state_size k m.left.states) 1 0 ≡ n

-- 13: the rows of all books, of the event that follows the trace t, do not fit from the place on
pub data TooShortTogether (tms : List Tracematch) (t : List Event) (e : Event) (buffer : Bytes) (place : ℕ) : Type 0 where
  beyond_buffer : length buffer < place → TooShortTogether tms t e buffer place
  over_buffer : (ls : List (List Valuation)) → Listings (t ++ (e ∷ [])) (suc (length t)) tms ls → place ≤ length buffer
      → length buffer - place < row_size * row_count ls → TooShortTogether tms t e buffer place

-- The checks of a call after the trace t of read books, which are told by their tracematches: when each fails, and when it passes. 14 and 9 never come.
module _ (tms : List Tracematch) (t : List Event) (c : LentCall) where
  abbrev pub SetFailsAfter : SetCheck Tracematch → Type 0
  SetFailsAfter of_count = ⊥
  SetFailsAfter (of_book tm a) = FailsAfter tm t (lent_as c) a
  SetFailsAfter of_rows = TooShortTogether tms t (event_in c.bytes) c.buffer c.place

  abbrev pub SetPassesAfter : SetCheck Tracematch → Type 0
  SetPassesAfter of_count = ⊥ → ⊥
  SetPassesAfter (of_book tm a) = PassesAfter tm t (lent_as c) a
  SetPassesAfter of_rows = TooShortTogether tms t (event_in c.bytes) c.buffer c.place → ⊥

  -- for each book in its turn 10 to 12, then 13
  abbrev pub checks_after : List (SetCheck Tracematch)
  checks_after = gather (λ tm. of_book tm OutOfForm ∷ of_book tm TooMany ∷ of_book tm NoRoom ∷ []) tms ++ (of_rows ∷ [])

  pub record SetJudged (n : ℕ) : Type 0 where
    pub first : FirstToFail SetFailsAfter SetPassesAfter check_number 0 checks_after n

-- the row that begins at p
abbrev pub row_at : ℕ → Bytes → Bytes
row_at p buffer = take row_size (drop p buffer)

-- "each book's rows are, byte 5 apart, those it would give alone over the events that the set accepted": what book number k alone has left at an
-- accepted call, beside what the set has left: as many rows, the same bytes but for byte 5, which is the book's number, behind the rows of the books
-- before it; and the same words of its state
pub record SameAlone (k : ℕ) (lists : List (List Valuation)) (m : SetMade) (a : LentMade) : Type 0 where
  pub accepted : a.left.number ≡ 0
  pub rows : a.left.rows ≡ length (get_or lists k [])
  pub bytes : (j : ℕ) → j < a.left.rows
      → row_at (m.lent.place + row_size * (row_count (take k lists) + j)) m.left.buffer
      ≡ set (row_at (a.lent.place + row_size * j) a.left.buffer) 5 k
  pub state : a.left.state ≡ block_at state_size k m.left.states

-- lent enough: the rows of each event fit, by the declarative meaning over the trace t
abbrev pub LentEnough : (tm : Tracematch) (t : List Event) → List LentCall → Type 0
LentEnough tm t cs =
    (i : ℕ) (c : LentCall) (l : List Valuation) → Within cs i c → Listed tm t (suc i) l → c.place + row_size * length l ≤ length c.buffer

-- book number k alone, lent just the records that the set accepted and enough for its rows
abbrev pub AloneAlike : (text : Bytes) (k : ℕ) (tms : List Tracematch) (tm : Tracematch) (ms : List SetMade) → List LentCall → Type 0
AloneAlike text k tms tm ms cs =
    map (λ c. c.bytes) cs ≡ set_records ms → LentEnough tm (set_trace ms) cs
    → (i : ℕ) (m : SetMade) (a : LentMade) → Within (set_accepted ms) i m → Within (lent_run text cs) i a
    → (d : SetDelivered tms (set_trace ms) (suc i) m) → SameAlone k d.lists m a

-- Demand 3 for book number k of partners, the n-th of the trace t and the j-th of the trace u
pub record SetAlike (tms : List Tracematch) (k : ℕ) (t u : List Event) (n j : ℕ) (a c : SetMade) : Type 0 where
  pub left : SetDelivered tms t n a
  pub right : SetDelivered tms u j c
  pub valuations : get_or left.lists k [] ≡ get_or right.lists k []
  pub bytes : (i : ℕ) → i < length (get_or left.lists k [])
      → behind_number (a.lent.place + row_size * (row_count (take k left.lists) + i)) a.left.buffer
      ≡ behind_number (c.lent.place + row_size * (row_count (take k right.lists) + i)) c.left.buffer

-- Demand 3 for whole sets: partners have the same row count, and bytes 4 to 23 of their rows are equal
pub record SetAllAlike (a c : SetMade) : Type 0 where
  pub counts : a.left.rows ≡ c.left.rows
  pub bytes : (i : ℕ) → i < a.left.rows
      → behind_number (a.lent.place + row_size * i) a.left.buffer ≡ behind_number (c.lent.place + row_size * i) c.left.buffer

-- Two lists of calls on one set whose accepted records pair up: for each book whose dependent events keep their order, "book by book"; and for all books,
-- if that is so of each.
pub record SetCrossed (tms : List Tracematch) (xs ys : List SetMade) (p : Partners (set_records xs) (set_records ys)) : Type 0 where
  pub book : (k : ℕ) (tm : Tracematch) → Within tms k tm → InOrder tm (set_records xs) (set_records ys) p
      → (i : ℕ) (a : SetMade) → Within (set_accepted xs) i a
      → (c : SetMade) × Within (set_accepted ys) (p.to i) c × SetAlike tms k (set_trace xs) (set_trace ys) (suc i) (suc (p.to i)) a c
  pub whole : ((k : ℕ) (tm : Tracematch) → Within tms k tm → InOrder tm (set_records xs) (set_records ys) p)
      → (i : ℕ) (a : SetMade) → Within (set_accepted xs) i a
      → (c : SetMade) × Within (set_accepted ys) (p.to i) c × SetAllAlike a c

-- All that is promised of a set of texts that `watch_read` accepts, for any words behind the books and any words that were made fresh.
pub record SetDemands (texts : List Bytes) (tms : List Tracematch) (more states : List ℕ) : Type 0 where
  pub declared : AllDeclare texts tms
  -- the answer to each call, by the stated rules, and never 9 or 14
  pub answers : (cs : List LentCall) → lent_bytes cs ≡ true → (i : ℕ) (m : SetMade) → Within (set_run texts more states cs) i m
      → SetJudged tms (set_trace (take i (set_run texts more states cs))) m.lent m.left.number
  -- demand 2 of each accepted call, over the set's trace
  pub rows : (cs : List LentCall) → lent_bytes cs ≡ true → (i : ℕ) (m : SetMade) → Within (set_accepted (set_run texts more states cs)) i m
      → SetDelivered tms (set_trace (set_run texts more states cs)) (suc i) m
  -- each book alone
  pub alone : (cs : List LentCall) → lent_bytes cs ≡ true → (k : ℕ) (text : Bytes) (tm : Tracematch) → Within texts k text → Within tms k tm
      → (bs : List LentCall) → AloneAlike text k tms tm (set_run texts more states cs) bs
  -- demand 3, also over other words
  pub crossed : (further others : List ℕ) → state_size * length texts ≤ length others → (xs ys : List LentCall) → lent_bytes xs ≡ true → lent_bytes ys ≡ true
      → (p : Partners (set_records (set_run texts more states xs)) (set_records (set_run texts further others ys)))
      → SetCrossed tms (set_run texts more states xs) (set_run texts further others ys) p
