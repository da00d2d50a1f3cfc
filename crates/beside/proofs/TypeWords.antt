-- The types that statements quantify over: each has these parts and no other, and any parts make one; so no type can come to leave something out.
-- For the buyer, beside `taken_whole` and `reading_whole`.
use mathlib.Core.Path.{◌≡◌, refl}
use mathlib.Core.Bool.{Bool}
use mathlib.Core.List.{List}
use mathlib.Core.Logic.{◌⊎◌, inl, inr}
use Prim.Native.Nat.{ℕ}
use Rattle.pattern.specs.Regex.{Regex, lit, cat, alt, star, plus, opt}
use Rattle.meaning.specs.Events.{Parameter, ignored, names, fixed, Symbol, Event, Valuation, Demand, Constraint, never, demands}
use Rattle.meaning.specs.Meaning.{Tracematch}
use Rattle.meaning.specs.Book as Plain
use Rattle.meaning.specs.Labels as Labels
use Rattle.meaning.specs.Labels.{Entry, bound, free, Disjunct, Held}
use Rattle.form.specs.Text.{Bytes, SymbolLine, Declarations, Span}
use Rattle.form.specs.Tokens.{Token, name, sign}
use Rattle.fault.specs.Places.{Spot}
use Rattle.tally.specs.declared.Tally.{Tally}
use Rattle.book.specs.declared.ReadingAnswer.{ReadingAnswer}
use Rattle.book.specs.declared.ReadingAnswer.TheVariants as TextAnswer
use Rattle.calls.specs.declared.EventAnswer.{EventAnswer}
use Rattle.calls.specs.declared.EventAnswer.TheVariants as Answer
use Rattle.calls.specs.declared.Taken.{Taken}
use Rattle.calls.specs.Runs.{Lent, Call, event, Made}

-- types by another name
pub lists_said : (Bytes ≡ List ℕ) × (Valuation ≡ List ℕ) × (Disjunct ≡ List Entry)
lists_said = (refl, refl, refl)

-- one case or another
pub parameter_whole : (p : Parameter) → (p ≡ ignored) ⊎ (((v : ℕ) × (p ≡ names v)) ⊎ ((n : ℕ) × (p ≡ fixed n)))
parameter_whole ignored = inl refl
parameter_whole (names v) = inr (inl (v, refl))
parameter_whole (fixed n) = inr (inr (n, refl))

pub constraint_whole : (c : Constraint) → (c ≡ never) ⊎ ((ds : List Demand) × (c ≡ demands ds))
constraint_whole never = inl refl
constraint_whole (demands ds) = inr (ds, refl)

pub entry_whole : (x : Entry) → ((a : ℕ) × (x ≡ bound a)) ⊎ ((xs : List ℕ) × (x ≡ free xs))
entry_whole (bound a) = inl (a, refl)
entry_whole (free xs) = inr (xs, refl)

pub token_whole : (t : Token) → ((w : List ℕ) × (t ≡ name w)) ⊎ ((b : ℕ) × (t ≡ sign b))
token_whole (name w) = inl (w, refl)
token_whole (sign b) = inr (b, refl)

pub regex_whole : (r : Regex)
    → ((a : ℕ) × (r ≡ lit a)) ⊎ (((s : Regex) × (t : Regex) × (r ≡ cat s t)) ⊎ (((s : Regex) × (t : Regex) × (r ≡ alt s t))
    ⊎ (((s : Regex) × (r ≡ star s)) ⊎ (((s : Regex) × (r ≡ plus s)) ⊎ ((s : Regex) × (r ≡ opt s))))))
regex_whole (lit a) = inl (a, refl)
regex_whole (cat s t) = inr (inl (s, t, refl))
regex_whole (alt s t) = inr (inr (inl (s, t, refl)))
regex_whole (star s) = inr (inr (inr (inl (s, refl))))
regex_whole (plus s) = inr (inr (inr (inr (inl (s, refl)))))
regex_whole (opt s) = inr (inr (inr (inr (inr (s, refl)))))

pub event_answer_whole : (a : EventAnswer)
    → (a ≡ Answer.Accepted) ⊎ ((a ≡ Answer.Unsound) ⊎ ((a ≡ Answer.OutOfForm) ⊎ ((a ≡ Answer.TooMany) ⊎ ((a ≡ Answer.NoRoom) ⊎ (a ≡ Answer.NoSpace)))))
event_answer_whole Answer.Accepted = inl refl
event_answer_whole Answer.Unsound = inr (inl refl)
event_answer_whole Answer.OutOfForm = inr (inr (inl refl))
event_answer_whole Answer.TooMany = inr (inr (inr (inl refl)))
event_answer_whole Answer.NoRoom = inr (inr (inr (inr (inl refl))))
event_answer_whole Answer.NoSpace = inr (inr (inr (inr (inr refl))))

pub reading_answer_whole : (a : ReadingAnswer)
    → (a ≡ TextAnswer.Accepted) ⊎ ((a ≡ TextAnswer.TooLong) ⊎ ((p : ℕ) × ((a ≡ TextAnswer.BadLine p) ⊎ ((a ≡ TextAnswer.AboveLimit p)
    ⊎ ((a ≡ TextAnswer.Redeclared p) ⊎ ((a ≡ TextAnswer.Undeclared p) ⊎ ((a ≡ TextAnswer.BadPattern p) ⊎ ((a ≡ TextAnswer.EmptyWord p) ⊎ (a ≡ TextAnswer.Unbound p)))))))))
reading_answer_whole TextAnswer.Accepted = inl refl
reading_answer_whole TextAnswer.TooLong = inr (inl refl)
reading_answer_whole (TextAnswer.BadLine p) = inr (inr (p, inl refl))
reading_answer_whole (TextAnswer.AboveLimit p) = inr (inr (p, inr (inl refl)))
reading_answer_whole (TextAnswer.Redeclared p) = inr (inr (p, inr (inr (inl refl))))
reading_answer_whole (TextAnswer.Undeclared p) = inr (inr (p, inr (inr (inr (inl refl)))))
reading_answer_whole (TextAnswer.BadPattern p) = inr (inr (p, inr (inr (inr (inr (inl refl))))))
reading_answer_whole (TextAnswer.EmptyWord p) = inr (inr (p, inr (inr (inr (inr (inr (inl refl)))))))
reading_answer_whole (TextAnswer.Unbound p) = inr (inr (p, inr (inr (inr (inr (inr (inr refl)))))))

-- parts, any of them, and no part more
pub symbol_whole : (y : Symbol) (k : ℕ) (ps : List Parameter)
    → (y ≡ record { kind = y.kind; parameters = y.parameters }) × ((x : Symbol) × (x.kind ≡ k) × (x.parameters ≡ ps))
symbol_whole y k ps = (refl, (record { kind = k; parameters = ps }, refl, refl))

pub event_whole : (e : Event) (k : ℕ) (xs : List ℕ)
    → (e ≡ record { kind = e.kind; args = e.args }) × ((x : Event) × (x.kind ≡ k) × (x.args ≡ xs))
event_whole e k xs = (refl, (record { kind = k; args = xs }, refl, refl))

pub demand_whole : (d : Demand) (v a : ℕ)
    → (d ≡ record { variable = d.variable; value = d.value }) × ((x : Demand) × (x.variable ≡ v) × (x.value ≡ a))
demand_whole d v a = (refl, (record { variable = v; value = a }, refl, refl))

pub tracematch_whole : (tm : Tracematch) (n : ℕ) (ys : List Symbol) (r : Regex)
    → (tm ≡ record { variables = tm.variables; symbols = tm.symbols; pattern = tm.pattern })
    × ((x : Tracematch) × (x.variables ≡ n) × (x.symbols ≡ ys) × (x.pattern ≡ r))
tracematch_whole tm n ys r = (refl, (record { variables = n; symbols = ys; pattern = r }, refl, refl, refl))

pub book_whole : (b : Plain.Book) (n : ℕ) (ys : List Symbol) (os : List ℕ) (i j : ℕ) (fs : List ℕ) (z : Bool)
    → (b ≡ record {
      variables = b.variables;
      symbols = b.symbols;
      occurrences = b.occurrences;
      begins = b.begins;
      ends = b.ends;
      follows = b.follows;
      empty = b.empty;
    })
    × ((x : Plain.Book) × (x.variables ≡ n) × (x.symbols ≡ ys) × (x.occurrences ≡ os) × (x.begins ≡ i) × (x.ends ≡ j) × (x.follows ≡ fs)
    × (x.empty ≡ z))
book_whole b n ys os i j fs z =
    (refl, (record { variables = n; symbols = ys; occurrences = os; begins = i; ends = j; follows = fs; empty = z }, refl, refl, refl, refl, refl, refl, refl))

pub held_whole : (h : Held) (p : ℕ) (D : List Entry)
    → (h ≡ record { position = h.position; disjunct = h.disjunct }) × ((x : Held) × (x.position ≡ p) × (x.disjunct ≡ D))
held_whole h p D = (refl, (record { position = p; disjunct = D }, refl, refl))

pub state_whole : (s : Labels.State) (n : ℕ) (l : List Held)
    → (s ≡ record { number = s.number; held = s.held }) × ((x : Labels.State) × (x.number ≡ n) × (x.held ≡ l))
state_whole s n l = (refl, (record { number = n; held = l }, refl, refl))

pub line_whole : (l : SymbolLine) (w : List ℕ) (k : ℕ) (ps : List Parameter)
    → (l ≡ record { name = l.name; kind = l.kind; parameters = l.parameters })
    × ((x : SymbolLine) × (x.name ≡ w) × (x.kind ≡ k) × (x.parameters ≡ ps))
line_whole l w k ps = (refl, (record { name = w; kind = k; parameters = ps }, refl, refl, refl))

pub declarations_whole : (d : Declarations) (vs : List (List ℕ)) (ls : List SymbolLine)
    → (d ≡ record { variables = d.variables; symbols = d.symbols }) × ((x : Declarations) × (x.variables ≡ vs) × (x.symbols ≡ ls))
declarations_whole d vs ls = (refl, (record { variables = vs; symbols = ls }, refl, refl))

pub span_whole : (x : Span) (p n : ℕ) → (x ≡ record { start = x.start; size = x.size }) × ((y : Span) × (y.start ≡ p) × (y.size ≡ n))
span_whole x p n = (refl, (record { start = p; size = n }, refl, refl))

pub spot_whole : (x : Spot) (k n : ℕ) (z : Bool)
    → (x ≡ record { line = x.line; words = x.words; inside = x.inside }) × ((y : Spot) × (y.line ≡ k) × (y.words ≡ n) × (y.inside ≡ z))
spot_whole x k n z = (refl, (record { line = k; words = n; inside = z }, refl, refl, refl))

pub lent_whole : (l : Lent) (bytes buffer : List ℕ) (place : ℕ) (t : Tally)
    → (l ≡ record { bytes = l.bytes; buffer = l.buffer; place = l.place; tally = l.tally })
    × ((x : Lent) × (x.bytes ≡ bytes) × (x.buffer ≡ buffer) × (x.place ≡ place) × (x.tally ≡ t))
lent_whole l bytes buffer place t = (refl, (record { bytes = bytes; buffer = buffer; place = place; tally = t }, refl, refl, refl, refl))

pub call_whole : (c : Call) → (l : Lent) × (c ≡ event l)
call_whole (event l) = (l, refl)

pub made_whole : (m : Made) (l : Lent) (t : Taken) (w : List ℕ)
    → (m ≡ record { lent = m.lent; taken = m.taken; buffer = m.buffer }) × ((x : Made) × (x.lent ≡ l) × (x.taken ≡ t) × (x.buffer ≡ w))
made_whole m l t w = (refl, (record { lent = l; taken = t; buffer = w }, refl, refl, refl))
