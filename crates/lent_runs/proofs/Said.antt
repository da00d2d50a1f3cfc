-- The words of the lent calls, each with its text: what stands where in a block, for any words, and what the calls hand back and leave. So that
-- a layout, or what a call leaves, cannot be another one than is stated here and in bindings/c/watch.h.
use mathlib.Core.Path.{◌≡◌, refl, ap, ap₂, ◌∙◌}
use mathlib.Core.Bool.{Bool, true, false, cond, not}
use mathlib.Core.List.{List, [], ◌∷◌, ◌++◌, map}
use Prim.Native.Nat.{ℕ, ◌+◌, ◌*◌, ◌<◌}
use native.Mathlib.Omega.{arith}
use borrow.Author.Tests.{eq-eqb, ne_eqb}
use lib.Dec.{eqb}
use lib.ListN.{length, get_or, take, drop, replicate, length-take, length-drop}
use lib.Seq.{length-take-le, get_or-take, get_or-drop}
use Rattle.laws.specs.Lists.{all, keep, gather}
use Rattle.laws.specs.Parts.{pad}
use Rattle.laws.proofs.Parts.{pad_at}
use Rattle.runs.specs.Runs.{results_from}
use Rattle.meaning.specs.Labels.{bound, free}
use Rattle.form.specs.Text.{Bytes, is_bytes}
use Rattle.record.specs.Records.{event_in}
use Rattle.table.specs.declared.Symbol.{Symbol}
use Rattle.slot.specs.Slots.{view_slot, slot_of}
use Rattle.disjunct.specs.Disjuncts.{view_disjunct, disjunct_of}
use Rattle.slot.specs.declared.Slot.{Slot}
use Rattle.disjunct.specs.declared.Disjunct.{Disjunct}
use Rattle.book.specs.declared.Book.{Book}
use Rattle.book.specs.Answers as Reading
use Rattle.book.specs.Books.{reading, empty_book}
use Rattle.state.specs.declared.State.{State}
use Rattle.state.specs.States.{state_of}
use Rattle.tally.specs.declared.Tally.{Tally}
use Rattle.calls.specs.Answers.{number_of}
use Rattle.calls.specs.declared.EventAnswer.TheVariants as Answer
use Rattle.calls.specs.Runs.{event}
use Rattle.calls.specs.Calls.{is_accepted, fresh_state, taken, buffer_after}
use Rattle.blocks.specs.Groups.{groups}
use Rattle.blocks.specs.BookBlock as Books
use Rattle.blocks.specs.BookBlock.{name_in, parameter_in, symbol_in, book_held, book_in, book_words}
use Rattle.blocks.specs.StateBlock as States
use Rattle.blocks.specs.StateBlock.{slot_in, disjunct_in, state_held, unknown_state, state_in, entry_words, group_words, state_words, state_stored}
use Rattle.blocks.specs.TallyBlock.{tally_size, tally_in, tally_words}
use Rattle.blocks.specs.Lent.{ReadLeft, read_left, EventLeft, event_left}
use Rattle.blocks.proofs.Groups.{made_length, made_at}
use Rattle.lent_runs.specs.Lending.{LentCall, LentMade, lent_bytes, lending, lent_run, lent_accepted, lent_records, lent_trace, lent_as}
use Rattle.lent_runs.proofs.Damage.{pool_size, held_at_law}
use Rattle.lent_runs.proofs.Seen.{answer_with, seen, calls}
use Rattle.lent_runs.proofs.Places.{any_default, word_of, part_word, seven}

-- the numbers of the layouts, and how many words a book, a state and a tally have
pub sizes_said : (Books.book_layout ≡ 1001) × (Books.book_size ≡ 269) × (States.state_layout ≡ 2001) × (States.state_size ≡ 3715) × (tally_size ≡ 3)
sizes_said = (refl, refl, refl, refl, refl)

-- A book's block of this layout. Words and hypotheses stand in each statement.
book_is : (w : List ℕ) → get_or w 0 0 ≡ 1001 → book_in w ≡ book_held w
unfolding book_in
book_is w layout = ap (λ z. cond z (book_held w) empty_book) (eq-eqb (get_or w 0 0) 1001 layout)

pub book_head_said : (w : List ℕ) → get_or w 0 0 ≡ 1001 → ((book_in w).variables ≡ get_or w 1 0) × ((book_in w).symbols ≡ get_or w 2 0)
    × ((book_in w).positions ≡ get_or w 3 0) × ((book_in w).begins ≡ get_or w 4 0) × ((book_in w).ends ≡ get_or w 5 0)
    × ((book_in w).empty ≡ not (eqb (get_or w 6 0) 0))
unfolding book_held
book_head_said w layout = rw (book_is w layout) (refl, refl, refl, refl, refl, refl)

-- the name i: its start and its size
pub name_said : (w : List ℕ) → get_or w 0 0 ≡ 1001 → (i : ℕ) → i < 20
    → get_or (book_in w).names i (record { start = 0; size = 0 }) ≡ record { start = get_or w (7 + 2 * i) 0; size = get_or w (8 + 2 * i) 0 }
unfolding book_held name_in
name_said w layout i h =
    ap (λ b. get_or b.names i (name_in [])) (book_is w layout) ∙ made_at name_in 2 20 (drop 7 w) i h
    ∙ ap₂ (λ x y. record { start = x; size = y }) (part_word 2 (2 * i) 7 w 0 (7 + 2 * i) (omega arith) (omega arith))
    (part_word 2 (2 * i) 7 w 1 (8 + 2 * i) (omega arith) (omega arith))

-- the symbol a: its kind, its count, and of each of its parameters the tag and the number; the default of `get_or` is never used
pub symbol_said : (w : List ℕ) → get_or w 0 0 ≡ 1001 → (a : ℕ) → a < 16 → (none : Symbol)
    → ((get_or (book_in w).table a none).kind ≡ get_or w (47 + 10 * a) 0) × ((get_or (book_in w).table a none).count ≡ get_or w (48 + 10 * a) 0)
    × ((j : ℕ) → j < 4 → get_or (get_or (book_in w).table a none).parameters j (record { tag = 0; number = 0 })
    ≡ record { tag = get_or w (49 + 10 * a + 2 * j) 0; number = get_or w (50 + 10 * a + 2 * j) 0 })
unfolding book_held symbol_in parameter_in
symbol_said w layout a h none =
    let g = take 10 (drop (10 * a) (drop 47 w)) in
    let table = map symbol_in (groups 10 16 (drop 47 w)) in
    let here : get_or (book_in w).table a none ≡ symbol_in g =
    ap (λ b. get_or b.table a none) (book_is w layout) ∙ any_default table a none (symbol_in []) (omega (arith, made_length symbol_in 10 16 (drop 47 w)))
    ∙ made_at symbol_in 10 16 (drop 47 w) a h in (
      ap (λ y. y.kind) here ∙ part_word 10 (10 * a) 47 w 0 (47 + 10 * a) (omega arith) (omega arith),
      ap (λ y. y.count) here ∙ part_word 10 (10 * a) 47 w 1 (48 + 10 * a) (omega arith) (omega arith),
      λ j k.
          ap (λ y. get_or y.parameters j (parameter_in [])) here ∙ made_at parameter_in 2 4 (drop 2 g) j k
          ∙ ap₂ (λ x y. record { tag = x; number = y })
          (part_word 2 (2 * j) 2 g 0 (2 + 2 * j) (omega arith) (omega arith)
          ∙ part_word 10 (10 * a) 47 w (2 + 2 * j) (49 + 10 * a + 2 * j) (omega arith) (omega arith))
          (part_word 2 (2 * j) 2 g 1 (3 + 2 * j) (omega arith) (omega arith)
          ∙ part_word 10 (10 * a) 47 w (3 + 2 * j) (50 + 10 * a + 2 * j) (omega arith) (omega arith)),
    )

-- the symbol of the position k + 1, and the set of those that follow it
pub positions_said : (w : List ℕ) → get_or w 0 0 ≡ 1001 → (k : ℕ) → k < 31
    → (get_or (book_in w).occurrences k 0 ≡ get_or w (207 + k) 0) × (get_or (book_in w).follows k 0 ≡ get_or w (238 + k) 0)
unfolding book_held
positions_said w layout k h = rw (book_is w layout) (word_of 31 207 w k h, word_of 31 238 w k h)

-- A block of another layout holds the empty book.
pub no_book_said : (w : List ℕ) → (get_or w 0 0 ≡ 1001 → ⊥) → book_in w ≡ empty_book
unfolding book_in
no_book_said w h = ap (λ z. cond z (book_held w) empty_book) (ne_eqb (get_or w 0 0) 1001 h)

-- What a variable's seven words say: a value, or the count of exclusions, as it stands, and the exclusions.
pub slot_said : (g : List ℕ) → (get_or g 0 0 ≡ 7 → slot_in g ≡ record { bound = true; value = get_or g 1 0; count = 0; excluded = replicate 6 0 })
    × ((get_or g 0 0 ≡ 7 → ⊥) → slot_in g ≡ record { bound = false; value = 0; count = get_or g 0 0; excluded = take 6 (drop 1 g) })
unfolding slot_in slot_of
slot_said g = (λ e. rw e, λ n. rw (ne_eqb (get_or g 0 0) 7 n))

-- A state's block of this layout.
state_is : (w : List ℕ) → get_or w 0 0 ≡ 2001 → state_in w ≡ state_held w
unfolding state_in
state_is w layout = ap (λ z. cond z (state_held w) unknown_state) (eq-eqb (get_or w 0 0) 2001 layout)

pub state_head_said : (w : List ℕ) → get_or w 0 0 ≡ 2001 → ((state_in w).number ≡ get_or w 1 0) × ((state_in w).count ≡ get_or w 2 0)
unfolding state_held
state_head_said w layout = rw (state_is w layout) (refl, refl)

-- what is counted: the position i, and of its disjunct the variable v; the defaults of `get_or` are never used
pub place_said : (w : List ℕ) → length w ≡ 3715 → get_or w 0 0 ≡ 2001 → (i : ℕ) → i < get_or w 2 0 → i < 128 → (none : Disjunct) (nothing : Slot)
    → (get_or (state_in w).positions i 0 ≡ get_or w (3 + i) 0)
    × ((v : ℕ) → v < 4 → get_or (get_or (state_in w).pool i none).vars v nothing ≡ slot_in (take 7 (drop (131 + 28 * i + 7 * v) w)))
unfolding state_held disjunct_in
place_said w long layout i h k none nothing =
    let n = get_or w 2 0 in
    let first = take 128 (drop 3 w) in
    let size : length first ≡ 128 = length-take-le 128 (drop 3 w) (omega (arith, length-drop 3 w)) in
    let group = take 28 (drop (28 * i) (drop 131 w)) in
    let many : length (state_held w).pool ≡ 128 = pool_size w in
    rw (state_is w layout) (
      pad_at 128 0 (take n first) i 0 (omega (arith, length-take n first)) ∙ get_or-take n first i 0 h ∙ get_or-take 128 (drop 3 w) i 0 k ∙ get_or-drop 3 w i 0,
      λ v u.
          ap (λ d. get_or d.vars v nothing) (any_default (state_held w).pool i none (disjunct_in []) (omega arith) ∙ held_at_law w i v h k u)
          ∙ any_default (map slot_in (groups 7 4 group)) v nothing (slot_in []) (omega (arith, made_length slot_in 7 4 group)) ∙ made_at slot_in 7 4 group v u
          ∙ ap slot_in (seven w i v k u long),
    )

pub no_state_said : (w : List ℕ) → (get_or w 0 0 ≡ 2001 → ⊥) → state_in w ≡ state_of (record { number = 1000001; held = [] })
unfolding state_in
no_state_said w h = ap (λ z. cond z (state_held w) unknown_state) (ne_eqb (get_or w 0 0) 2001 h)

-- A tally's three words.
pub tally_said : (w : List ℕ) → tally_in w ≡ record { accepted = get_or w 0 0; refused = get_or w 1 0; rows = get_or w 2 0 }
unfolding tally_in
tally_said w = refl

-- Structs to words: a name, a parameter, a symbol, what is before the names, all of a book.
pub book_words_said : (b : Book) → book_words b
    ≡ 1001 ∷ b.variables ∷ b.symbols ∷ b.positions ∷ b.begins ∷ b.ends ∷ cond b.empty 1 0 ∷ []
    ++ gather (λ x. x.start ∷ x.size ∷ []) b.names
    ++ gather (λ y. y.kind ∷ y.count ∷ gather (λ p. p.tag ∷ p.number ∷ []) y.parameters) b.table ++ b.occurrences ++ b.follows
unfolding book_words
book_words_said b = refl

-- a variable, a disjunct, all of a state, and a tally
pub entry_words_said : ((a : ℕ) → entry_words (bound a) ≡ 7 ∷ a ∷ 0 ∷ 0 ∷ 0 ∷ 0 ∷ 0 ∷ []) × ((xs : List ℕ) → entry_words (free xs) ≡ length xs ∷ pad 6 0 xs)
entry_words_said = (λ a. refl, λ xs. refl)

pub state_words_said : (s : State)
    → state_words s ≡ 2001 ∷ s.number ∷ s.count ∷ [] ++ s.positions ++ gather (λ d. gather entry_words (view_disjunct d)) s.pool
unfolding state_words group_words
state_words_said s = refl

-- what `watch_fresh` writes: the number of the layout, and zeros
pub fresh_words_said : state_words fresh_state ≡ 2001 ∷ replicate 3714 0
unfolding state_words fresh_state state_of group_words view_disjunct disjunct_of view_slot slot_of pad
fresh_words_said = refl

pub tally_words_said : (t : Tally) → tally_words t ≡ t.accepted ∷ t.refused ∷ t.rows ∷ []
unfolding tally_words
tally_words_said t = refl

-- What `watch_read` hands back and leaves.
pub read_left_said : (text : Bytes) → let r = reading text in
    ((read_left text).number ≡ Reading.number_of r.answer) × ((read_left text).place ≡ Reading.place_of r.answer)
    × ((read_left text).begins ≡ r.begin_count) × ((read_left text).ends ≡ r.end_count)
    × (Reading.number_of r.answer ≡ 0 → (read_left text).book ≡ book_words r.book)
    × ((Reading.number_of r.answer ≡ 0 → ⊥) → (read_left text).book ≡ replicate 269 0)
unfolding read_left
read_left_said text =
    let r = reading text in
    let n = Reading.number_of r.answer in
    let words : Bool → List ℕ = λ z. cond z (book_words r.book) (replicate 269 0) in
    (refl, refl, refl, refl, λ e. ap words (eq-eqb n 0 e), λ e. ap words (ne_eqb n 0 e))

-- What `watch_event` hands back and leaves.
pub event_left_said : (w s : List ℕ) (bytes buffer : Bytes) (place : ℕ) (t : List ℕ)
    → let r = taken (book_in w) (state_in s) bytes buffer place (tally_in t) in
    let l = event_left w s bytes buffer place t in
    (l.number ≡ number_of r.answer) × (l.rows ≡ r.rows) × (l.buffer ≡ buffer_after (book_in w) (state_in s) bytes buffer place)
    × (l.tally ≡ tally_words r.tally) × (is_accepted r.answer ≡ true → l.state ≡ state_stored s r.state)
    × (is_accepted r.answer ≡ false → l.state ≡ s)
unfolding event_left
event_left_said w s bytes buffer place t =
    let r = taken (book_in w) (state_in s) bytes buffer place (tally_in t) in
    let words : Bool → List ℕ = λ z. cond z (state_stored s r.state) s in
    (refl, refl, refl, refl, λ e. ap words e, λ e. ap words e)

-- Runs of lent calls: from the words of the fresh state, each call gets the words that the one before it left; accepted are those with the number 0.
pub lent_run_said : (text : Bytes) (cs : List LentCall) → lent_run text cs ≡ results_from (lending (read_left text).book) (state_words fresh_state) cs
lent_run_said text cs = refl

pub lending_said : (w s : List ℕ) (c : LentCall) (m : LentMade)
    → ((lending w).gives s c ≡ record { lent = c; left = event_left w s c.bytes c.buffer c.place c.tally }) × ((lending w).leaves m ≡ m.left.state)
lending_said w s c m = (refl, refl)

pub lent_trace_said : (ms : List LentMade) → (lent_accepted ms ≡ keep (λ m. eqb m.left.number 0) ms)
    × (lent_records ms ≡ map (λ m. m.lent.bytes) (keep (λ m. eqb m.left.number 0) ms))
    × (lent_trace ms ≡ map event_in (map (λ m. m.lent.bytes) (keep (λ m. eqb m.left.number 0) ms)))
lent_trace_said ms = (refl, refl, refl)

pub lent_as_said : (c : LentCall) → lent_as c
    ≡ record {
      bytes = c.bytes;
      buffer = c.buffer;
      place = c.place;
      tally = record { accepted = get_or c.tally 0 0; refused = get_or c.tally 1 0; rows = get_or c.tally 2 0 };
    }
unfolding tally_in
lent_as_said c = refl

pub lent_bytes_said : (cs : List LentCall) → lent_bytes cs ≡ all (λ c. is_bytes c.bytes) cs
lent_bytes_said cs = refl

-- What is seen of a lent call in `run_seen`: the answer with its number, and its results as a call by value hands them back.
pub answer_with_said : (answer_with 0 ≡ Answer.Accepted) × (answer_with 9 ≡ Answer.Unsound) × (answer_with 10 ≡ Answer.OutOfForm)
    × (answer_with 11 ≡ Answer.TooMany) × (answer_with 12 ≡ Answer.NoRoom) × (answer_with 13 ≡ Answer.NoSpace)
unfolding answer_with
answer_with_said = (refl, refl, refl, refl, refl, refl)

pub seen_said : (b : Book) (m : LentMade) → seen b m
    ≡ record {
      lent = lent_as m.lent;
      taken = record {
        answer = answer_with m.left.number;
        rows = m.left.rows;
        book = b;
        state = state_in m.left.state;
        tally = tally_in m.left.tally;
      };
      buffer = m.left.buffer;
    }
seen_said b m = refl

pub calls_said : (cs : List LentCall) → calls cs ≡ map (λ c. event (lent_as c)) cs
calls_said cs = refl

-- The types of what is lent and left: each has these parts and no other, and any parts make one.
pub lent_call_whole : ((c : LentCall) → c ≡ record { bytes = c.bytes; buffer = c.buffer; place = c.place; tally = c.tally })
    × ((bytes buffer : Bytes) (place : ℕ) (tally : List ℕ) → let c : LentCall = record { bytes = bytes; buffer = buffer; place = place; tally = tally } in
    (c.bytes ≡ bytes) × (c.buffer ≡ buffer) × (c.place ≡ place) × (c.tally ≡ tally))
lent_call_whole = (λ c. refl, λ a b p t. (refl, refl, refl, refl))

pub lent_made_whole : ((m : LentMade) → m ≡ record { lent = m.lent; left = m.left })
    × ((c : LentCall) (l : EventLeft) → let m : LentMade = record { lent = c; left = l } in (m.lent ≡ c) × (m.left ≡ l))
lent_made_whole = (λ m. refl, λ c l. (refl, refl))

pub event_left_whole : ((l : EventLeft) → l ≡ record { number = l.number; rows = l.rows; buffer = l.buffer; tally = l.tally; state = l.state })
    × ((number rows : ℕ) (buffer : Bytes) (tally state : List ℕ)
    → let l : EventLeft = record { number = number; rows = rows; buffer = buffer; tally = tally; state = state } in
    (l.number ≡ number) × (l.rows ≡ rows) × (l.buffer ≡ buffer) × (l.tally ≡ tally) × (l.state ≡ state))
event_left_whole = (λ l. refl, λ n r b t s. (refl, refl, refl, refl, refl))

pub read_left_whole : ((l : ReadLeft) → l ≡ record { number = l.number; book = l.book; place = l.place; begins = l.begins; ends = l.ends })
    × ((number : ℕ) (book : List ℕ) (place begins ends : ℕ)
    → let l : ReadLeft = record { number = number; book = book; place = place; begins = begins; ends = ends } in
    (l.number ≡ number) × (l.book ≡ book) × (l.place ≡ place) × (l.begins ≡ begins) × (l.ends ≡ ends))
read_left_whole = (λ l. refl, λ n b p x y. (refl, refl, refl, refl, refl))
