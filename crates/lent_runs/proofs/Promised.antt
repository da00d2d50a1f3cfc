-- What is promised of lists of lent calls and of the words that they leave, each record with its text: these parts and no other, and any parts make one.
use mathlib.Core.Path.{◌≡◌}
use mathlib.Core.Bool.{true}
use mathlib.Core.List.{List, []}
use mathlib.Core.Logic.{◌↔◌}
use Prim.Native.Nat.{ℕ, suc, ◌+◌, ◌*◌, ◌≤◌, ◌<◌}
use lib.ListN.{length, get_or, take, drop, replicate}
use Rattle.laws.specs.Lists.{gather}
use Rattle.laws.specs.Parts.{splice, pad}
use Rattle.runs.specs.Runs.{Within}
use Rattle.pattern.specs.Regex.{Regex}
use Rattle.meaning.specs.Events.{Event, Valuation}
use Rattle.meaning.specs.Labels.{free, Held}
use Rattle.meaning.specs.Meaning.{Tracematch}
use Rattle.meaning.specs.Runs.{Listed}
use Rattle.form.specs.Text.{Bytes, Declarations, tracematch_of}
use Rattle.form.specs.Form.{Form}
use Rattle.row.specs.RowBytes.{row_bytes}
use Rattle.tally.specs.Tallies.{tallied}
use Rattle.calls.specs.Runs.{Judged, Partners, InOrder}
use Rattle.blocks.specs.StateBlock.{entry_words}
use Rattle.blocks.specs.TallyBlock.{tally_in, tally_words}
use Rattle.lent_runs.specs.Lending.{LentCall, LentMade, lent_bytes, lent_run, lent_accepted, lent_records, lent_trace, lent_as}
use Rattle.lent_runs.specs.Lending.{LentDelivered, LentAlike, LentDemands}
use Rattle.lent_runs.specs.Stored.{StoredWords}

pub lent_delivered_said : (tm : Tracematch) (t : List Event) (n : ℕ) (m : LentMade)
    → LentDelivered tm t n m
    ↔ ((l : List Valuation) × Listed tm t n l × (m.left.rows ≡ length l) × (m.lent.place + 24 * length l ≤ length m.lent.buffer)
    × (m.left.buffer ≡ splice m.lent.place (gather (row_bytes n tm.variables) l) m.lent.buffer)
    × (m.left.tally ≡ tally_words (tallied (tally_in m.lent.tally) 1 0 (length l))) × (get_or m.left.state 1 0 ≡ n))
lent_delivered_said tm t n m = (
  λ r. (r.valuations, r.meant, r.counted, r.fitting, r.written, r.tallies, r.numbered),
  λ (l, a, b, c, d, e, f). record { valuations = l; meant = a; counted = b; fitting = c; written = d; tallies = e; numbered = f },
)

-- bytes 4 to 23 of the rows of partners
pub lent_alike_said : (tm : Tracematch) (t u : List Event) (n k : ℕ) (a c : LentMade)
    → LentAlike tm t u n k a c
    ↔ ((x : LentDelivered tm t n a) × (y : LentDelivered tm u k c) × (x.valuations ≡ y.valuations) × (a.left.rows ≡ c.left.rows)
    × ((i : ℕ) → i < a.left.rows
    → take 20 (drop (a.lent.place + 24 * i + 4) a.left.buffer) ≡ take 20 (drop (c.lent.place + 24 * i + 4) c.left.buffer)))
lent_alike_said tm t u n k a c = (
  λ r. (r.left, r.right, r.valuations, r.counts, r.bytes),
  λ (x, y, v, n, b). record { left = x; right = y; valuations = v; counts = n; bytes = b },
)

pub lent_demands_said : (text : Bytes) (d : Declarations) (r : Regex)
    → LentDemands text d r
    ↔ (Form text d r
    × ((cs : List LentCall) → lent_bytes cs ≡ true → (i : ℕ) (m : LentMade) → Within (lent_accepted (lent_run text cs)) i m
    → LentDelivered (tracematch_of d r) (lent_trace (lent_run text cs)) (suc i) m)
    × ((cs : List LentCall) → lent_bytes cs ≡ true → (k : ℕ) (m : LentMade) → Within (lent_run text cs) k m
    → Judged (tracematch_of d r) (lent_trace (take k (lent_run text cs))) (lent_as m.lent) m.left.number)
    × ((xs ys : List LentCall) → lent_bytes xs ≡ true → lent_bytes ys ≡ true
    → (p : Partners (lent_records (lent_run text xs)) (lent_records (lent_run text ys)))
    → InOrder (tracematch_of d r) (lent_records (lent_run text xs)) (lent_records (lent_run text ys)) p
    → (i : ℕ) (a : LentMade) → Within (lent_accepted (lent_run text xs)) i a
    → (c : LentMade) × Within (lent_accepted (lent_run text ys)) (p.to i) c
    × LentAlike (tracematch_of d r) (lent_trace (lent_run text xs)) (lent_trace (lent_run text ys)) (suc i) (suc (p.to i)) a c))
lent_demands_said text d r = (
  λ x. (x.form, x.rows, x.answers, x.crossed),
  λ (a, b, c, e). record { form = a; rows = b; answers = c; crossed = e },
)

pub stored_said : (variables number : ℕ) (held : List Held) (old : ℕ) (before after : List ℕ)
    → let at : ℕ → Held = λ i. get_or held i (record { position = 0; disjunct = [] }) in
    let group : List ℕ → ℕ → List ℕ = λ w i. take 28 (drop (131 + 28 * i) w) in
    StoredWords variables number held old before after
    ↔ ((length after ≡ 3715) × ((get_or after 0 0 ≡ 2001) × (get_or after 1 0 ≡ number) × (get_or after 2 0 ≡ length held))
    × ((i : ℕ) → i < length held → get_or after (3 + i) 0 ≡ (at i).position)
    × ((i : ℕ) → i < length held → group after i ≡ gather entry_words (pad 4 (free []) (at i).disjunct))
    × ((i v : ℕ) → i < length held → variables ≤ v → v < 4 → take 7 (drop (131 + 28 * i + 7 * v) after) ≡ replicate 7 0)
    × ((i : ℕ) → length held ≤ i → i < old → i < 128 → (get_or after (3 + i) 0 ≡ 0) × (group after i ≡ replicate 28 0))
    × ((i : ℕ) → length held ≤ i → old ≤ i → i < 128 → (get_or after (3 + i) 0 ≡ get_or before (3 + i) 0) × (group after i ≡ group before i)))
stored_said variables number held old before after = (
  λ r. (r.size, r.head, r.positions, r.groups, r.beyond, r.freed, r.later),
  λ (a, b, c, d, g, e, f). record { size = a; head = b; positions = c; groups = d; beyond = g; freed = e; later = f },
)
