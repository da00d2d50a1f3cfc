-- The words of the theorems on plain data (crate automaton) and of `positions`, `positions_left` (crate pattern), each with its text, so that no
-- such statement can get weaker with no call moving.
use mathlib.Core.Path.{◌≡◌, refl}
use mathlib.Core.Bool.{true, false, cond, not, ◌&&◌, false≢true}
use mathlib.Core.List.{List, [], ◌∷◌, ◌++◌, map, Memᴰ}
use mathlib.Core.Logic.{◌↔◌, ◌⊎◌, inl, inr, ⊎_elim}
use Prim.Native.Nat.{ℕ, suc, ◌+◌, ◌-◌, ◌^◌, ◌≤◌, ◌<◌, compare}
use lib.Dec.{eqb, leb, ltb}
use lib.ListN.{length, get_or, replicate}
use Rattle.laws.specs.Bits.{bit}
use Rattle.laws.specs.Lists.{any, all, keep}
use Rattle.laws.specs.Order.{ascending}
use Rattle.runs.specs.Runs.{no_call, next_call}
use Rattle.runs.specs.Pairs.{Pairing}
use Rattle.pattern.specs.Regex.{Regex, lit, cat, alt, star, plus, opt, In}
use Rattle.pattern.specs.Positions.{size, symbols, beginning, ending, following, symbol_at, Has, Onward, stop, on, Spelling, Reach, start, next}
use Rattle.meaning.specs.Events.{ignored, names, fixed, Symbol, Event, Demand, never, demands, constraint_of}
use Rattle.meaning.specs.Events.{Valuation, satisfies, well_formed, is_valuation, concerns}
use Rattle.meaning.specs.Meaning.{Tracematch, no_symbol, concerning, Row}
use Rattle.meaning.specs.Book.{Book, book_of, positions, ends_at, symbol_of, binds, sound_parameter, sound_symbol, sound_mask, sound_book, Proper}
use Rattle.meaning.specs.Labels as Labels
use Rattle.meaning.specs.Labels.{bound, free, is_free, meets, met, sources, Disjunct, Held, compare_held, new_held, State, fresh_at, fresh}
use Rattle.meaning.specs.Room.{room}
use Rattle.meaning.specs.Rows.{rows, compare_valuations, leaves_free}
use Rattle.meaning.specs.Sound.{sound_entry, sound_disjunct, sound_piece, sound_held, sound_state}
use Rattle.meaning.specs.Runs.{Call, event, trace_of, run, given, state_after, held_after, row_lists, OrderlyFrom, Orderly, Listed, Dependent, Ordered}

pub listed_said : (tm : Tracematch) (t : List Event) (n : ℕ) (l : List Valuation)
    → Listed tm t n l ↔ ((ascending compare_valuations l ≡ true) × ((σ : Valuation) → Memᴰ σ l ↔ Row tm t n σ))
listed_said tm t n l = (λ r. (r.ordered, r.exact), λ (a, b). record { ordered = a; exact = b })

pub pairing_said : {A : Type 0} (d : A) (t u : List A)
    → Pairing d t u
    ↔ ((to : ℕ → ℕ) × (back : ℕ → ℕ) × ((i : ℕ) → i < length t → to i < length u) × ((j : ℕ) → j < length u → back j < length t)
    × ((i : ℕ) → i < length t → back (to i) ≡ i) × ((j : ℕ) → j < length u → to (back j) ≡ j)
    × ((i : ℕ) → i < length t → get_or u (to i) d ≡ get_or t i d))
pairing_said d t u = (
  λ p. (p.to, p.back, p.to_inside, p.back_inside, p.back_to, p.to_back, p.same),
  λ (x, y, a, b, c, e, f). record { to = x; back = y; to_inside = a; back_inside = b; back_to = c; to_back = e; same = f },
)

pub dependent_said : (tm : Tracematch) (e f : Event)
    → Dependent tm e f
    ↔ ((σ : Valuation) × (is_valuation tm.variables σ ≡ true) × (concerns tm.symbols e σ ≡ true) × (concerns tm.symbols f σ ≡ true))
dependent_said tm e f = (
  λ r. (r.common, r.valuation, r.first, r.second),
  λ (σ, a, b, c). record { common = σ; valuation = a; first = b; second = c },
)

pub ordered_said : {A : Type 0} (d : A) (held : A → Event) (tm : Tracematch) (t u : List A) (p : Pairing d t u)
    → Ordered d held tm t u p
    ↔ ((i j : ℕ) → i < j → j < length t → Dependent tm (held (get_or t i d)) (held (get_or t j d)) → p.to i < p.to j)
ordered_said d held tm t u p = (λ r. r.keeps, λ f. record { keeps = f })

pub well_formed_said : (e : Event)
    → well_formed e ≡ (leb 1 e.kind && leb e.kind 255 && leb (length e.args) 4 && all (λ x. ltb x (2 ^ 32)) e.args)
unfolding well_formed
well_formed_said e = refl

pub concerning_said : (tm : Tracematch) (σ : Valuation) (t : List Event) → concerning tm σ t ≡ keep (λ e. concerns tm.symbols e σ) t
concerning_said tm σ t = refl

-- the state in which nothing is held
pub fresh_said : (n : ℕ) → (fresh ≡ record { number = 0; held = [] }) × (fresh_at n ≡ record { number = n; held = [] })
fresh_said n = (refl, refl)

-- an accepted event counts, and changes what is held
pub next_said : (b : Book) (s : State) (e : Event)
    → Labels.next b s e ≡ record { number = suc s.number; held = new_held b s.held e }
next_said b s e = refl

-- some disjunct that an ending position gets meets the event's constraint and leaves a variable free
pub leaves_free_said : (b : Book) (held : List Held) (e : Event)
    → leaves_free b held e
    ≡ any (λ q. any (λ D. meets D (constraint_of (symbol_of b q) e) && any is_free (met D (constraint_of (symbol_of b q) e))) (sources b held q))
    (keep (ends_at b) (positions b))
unfolding leaves_free
leaves_free_said b held e = refl

-- what a position gets its label from: the free disjunct where it begins, and the disjuncts of the positions that it follows
pub sources_said : (b : Book) (held : List Held) (p q : ℕ)
    → (sources b held q
    ≡ cond (bit q b.begins) (replicate b.variables (free []) ∷ [])
    [] ++ map (λ h. h.disjunct) (keep (λ h. bit q (get_or b.follows (h.position - 1) 0)) held))
    × (symbol_of b p ≡ get_or b.symbols (get_or b.occurrences (p - 1) 0) no_symbol)
unfolding sources
sources_said b held p q = (refl, refl)

-- which variable a place binds, and when a constraint holds under a valuation
pub binds_said : (v u n : ℕ) → (binds v ignored ≡ false) × (binds v (names u) ≡ eqb v u) × (binds v (fixed n) ≡ false)
binds_said v u n = (refl, refl, refl)

pub satisfies_said : (ds : List Demand) (σ : Valuation)
    → (satisfies never σ ≡ false) × (satisfies (demands ds) σ ≡ all (λ d. eqb (get_or σ d.variable 0) d.value) ds)
satisfies_said ds σ = (refl, refl)

-- a plain run: accepted events move the state and give something, refused ones do neither
pub plain_run_said : {S R : Type 0} (step : S → Event → S) (give : S → Event → R) (s : S) (e : Event) (cs : List Call)
    → ((trace_of [] ≡ []) × (trace_of (event e true ∷ cs) ≡ e ∷ trace_of cs) × (trace_of (event e false ∷ cs) ≡ trace_of cs))
    × ((run step s [] ≡ s) × (run step s (event e true ∷ cs) ≡ run step (step s e) cs) × (run step s (event e false ∷ cs) ≡ run step s cs))
    × ((given step give s [] ≡ []) × (given step give s (event e true ∷ cs) ≡ give s e ∷ given step give (step s e) cs)
    × (given step give s (event e false ∷ cs) ≡ given step give s cs))
plain_run_said step give s e cs = ((refl, refl, refl), (refl, refl, refl), (refl, refl, refl))

pub plain_said : (tm : Tracematch) (cs : List Call)
    → (state_after tm cs ≡ run (Labels.next (book_of tm)) (record { number = 0; held = [] }) cs) × (held_after tm cs ≡ run (new_held (book_of tm)) [] cs)
    × (row_lists tm cs ≡ given (new_held (book_of tm)) (rows (book_of tm)) [] cs)
plain_said tm cs = (refl, refl, refl)

pub orderly_said : (b : Book) (s : State) (e : Event) (cs : List Call)
    → (Orderly b cs ≡ OrderlyFrom b fresh cs) × OrderlyFrom b s []
    × (OrderlyFrom b s (event e true ∷ cs)
    ↔ ((well_formed e ≡ true) × (s.number < 1000000) × (room b s.held e ≡ true) × OrderlyFrom b (Labels.next b s e) cs))
    × (OrderlyFrom b s (event e false ∷ cs) ↔ OrderlyFrom b s cs)
orderly_said b s e cs = (
  refl,
  no_call,
  (taken, λ (w, l, r, o). next_call (λ _. record { formed = w; below = l; roomy = r }) o),
  (left, λ o. next_call (λ h. absurd (false≢true h)) o),
)
  where
    taken : OrderlyFrom b s (event e true ∷ cs)
        → (well_formed e ≡ true) × (s.number < 1000000) × (room b s.held e ≡ true) × OrderlyFrom b (Labels.next b s e) cs
    taken (next_call p o) = let a = p refl in (a.formed, a.below, a.roomy, o)

    left : OrderlyFrom b s (event e false ∷ cs) → OrderlyFrom b s cs
    left (next_call p o) = o

pub proper_said : (tm : Tracematch)
    → Proper tm
    ↔ ((tm.variables ≤ 4) × (1 ≤ length tm.symbols) × (length tm.symbols ≤ 16) × (all (sound_symbol tm.variables) tm.symbols ≡ true)
    × (all (λ a. ltb a (length tm.symbols)) (symbols tm.pattern) ≡ true) × (size tm.pattern ≤ 31) × (In tm.pattern [] → ⊥)
    × ((v : ℕ) → v < tm.variables → (w : List ℕ) → In tm.pattern w
    → any (λ a. any (binds v) (get_or tm.symbols a no_symbol).parameters) w ≡ true))
proper_said tm = (
  λ r. (r.variables, r.some, r.few, r.symbols, r.declared, r.occurrences, r.nonempty, r.binding),
  λ (a, b, c, d, e, f, g, h).
      record { variables = a; some = b; few = c; symbols = d; declared = e; occurrences = f; nonempty = g; binding = h },
)

-- a sound symbol, a sound set of positions and a sound plain book
pub sound_book_said : (b : Book) (s : Symbol) (n v m : ℕ)
    → (sound_parameter n ignored ≡ true) × (sound_parameter n (names v) ≡ ltb v n) × (sound_parameter n (fixed v) ≡ leb v 4294967295)
    × (sound_symbol n s ≡ (leb 1 s.kind && leb s.kind 255 && leb (length s.parameters) 4 && all (sound_parameter n) s.parameters))
    × (sound_mask n m ≡ (ltb m (2 ^ suc n) && not (bit 0 m)))
    × (sound_book b
    ≡ (leb b.variables 4 && leb 1 (length b.symbols) && leb (length b.symbols) 16 && all (sound_symbol b.variables) b.symbols
    && leb 1 (length b.occurrences) && leb (length b.occurrences) 31 && all (λ a. ltb a (length b.symbols)) b.occurrences
    && sound_mask (length b.occurrences) b.begins && sound_mask (length b.occurrences) b.ends
    && eqb (length b.follows) (length b.occurrences) && all (sound_mask (length b.occurrences)) b.follows && not b.empty))
unfolding sound_symbol sound_book
sound_book_said b s n v m = (refl, refl, refl, refl, refl, refl)

-- a sound entry, disjunct, held disjunct and plain state
pub plain_sound_said : (b : Book) (h : Held) (held : List Held) (s : State) (D : Disjunct) (n a : ℕ) (xs : List ℕ)
    → (sound_entry (bound a) ≡ ltb a (2 ^ 32))
    × (sound_entry (free xs) ≡ (leb (length xs) 6 && all (λ x. ltb x (2 ^ 32)) xs && ascending compare xs))
    × (sound_disjunct n D ≡ (eqb (length D) n && all sound_entry D))
    × (sound_piece b h ≡ (leb 1 h.position && leb h.position (length b.occurrences) && sound_disjunct b.variables h.disjunct))
    × (sound_held b held ≡ (leb (length held) 128 && all (sound_piece b) held && ascending compare_held held))
    × (sound_state b s ≡ (leb s.number 1000000 && sound_held b s.held))
unfolding sound_piece sound_held sound_state
plain_sound_said b h held s D n a xs = (refl, refl, refl, refl, refl, refl)

pub symbol_at_said : (r s : Regex) (a k p : ℕ)
    → (symbol_at (lit a) k p ≡ a) × (symbol_at (cat r s) k p ≡ cond (ltb p (k + size r)) (symbol_at r k p) (symbol_at s (k + size r) p))
    × (symbol_at (alt r s) k p ≡ cond (ltb p (k + size r)) (symbol_at r k p) (symbol_at s (k + size r) p)) × (symbol_at (star r) k p ≡ symbol_at r k p)
    × (symbol_at (plus r) k p ≡ symbol_at r k p) × (symbol_at (opt r) k p ≡ symbol_at r k p)
symbol_at_said r s a k p = (refl, refl, refl, refl, refl, refl)

-- a path of positions, from its first to its last
pub onward_said : (r : Regex) (p q m : ℕ) (ps : List ℕ)
    → (Has p m ≡ (bit p m ≡ true)) × (Onward r p [] ↔ Has p (ending r 1)) × (Onward r p (q ∷ ps) ↔ (Has q (following r 1 p) × Onward r q ps))
onward_said r p q m ps = (refl, (ends, stop), (steps, λ (h, o). on h o))
  where
    ends : Onward r p [] → Has p (ending r 1)
    ends (stop h) = h

    steps : Onward r p (q ∷ ps) → Has q (following r 1 p) × Onward r q ps
    steps (on h o) = (h, o)

pub spelling_said : (r : Regex) (w : List ℕ)
    → Spelling r w ↔ ((p : ℕ) × (ps : List ℕ) × Has p (beginning r 1) × Onward r p ps × (w ≡ map (symbol_at r 1) (p ∷ ps)))
spelling_said r w = (
  λ s. (s.at, s.rest, s.begins, s.onward, s.spells),
  λ (p, ps, a, b, c). record { at = p; rest = ps; begins = a; onward = b; spells = c },
)

-- the same from the left, the word's newest symbol first
pub reach_said : (r : Regex) (w : List ℕ) (p : ℕ)
    → Reach r w p
    ↔ ((Has p (beginning r 1) × (w ≡ symbol_at r 1 p ∷ []))
    ⊎ ((v : List ℕ) × (q : ℕ) × Reach r v q × Has p (following r 1 q) × (w ≡ symbol_at r 1 p ∷ v)))
reach_said r w p = (parts, ⊎_elim (λ (h, e). rw e (start h)) (λ (v, q, x, h, e). rw e (next x h)))
  where
    parts : {w : List ℕ} → Reach r w p
        → (Has p (beginning r 1) × (w ≡ symbol_at r 1 p ∷ []))
        ⊎ ((v : List ℕ) × (q : ℕ) × Reach r v q × Has p (following r 1 q) × (w ≡ symbol_at r 1 p ∷ v))
    parts (start h) = inl (h, refl)
    parts (next {w = v} {p = q} x h) = inr (v, q, x, h, refl)
