-- The readers alternation, sequence and atom over what the code holds: r for a reading a, of which it knows Ok r ≡ parsed_of vars k a.
-- Each is one step over what its callees read (Fuel of the crate form); here is what each return and each call needs of that step.
use mathlib.Core.Path.{◌≡◌, refl, sym, ap, ◌∙◌}
use mathlib.Core.Bool.{Bool, true, false, cond}
use Prim.Native.Nat.{ℕ, suc, ◌+◌, ◌-◌, ◌≤◌, ◌<◌}
use native.Mathlib.Nat.{suc-add}
use native.Mathlib.Omega.{arith}
use borrow.Author.Tests.{eqb-true, eq-eqb, ne_eqb}
use lib.Dec.{eqb}
use lib.ListN.{length}
use Rattle.std.specs.Prelude.{Result, Ok, Err}
use Rattle.pattern.specs.Regex.{Regex, cat, alt}
use Rattle.pattern.specs.Positions.{size}
use Rattle.form.specs.Text.{Bytes, is_lower}
use Rattle.form.specs.Phrase.{opening, bar}
use Rattle.form.specs.Scan.{at, spaces_end, fail}
use Rattle.form.specs.Parse as Parse
use Rattle.form.specs.Parse.{enough, alternation_from, sequence_from, atom_from, item_of, name_atom, closed, failed, unfit, begins_item}
use Rattle.form.specs.Reading.{variables_of}
use Rattle.parsing.proofs.Scans.{spaces_end_le, spaces_end_ge}
use Rattle.parsing.proofs.Faults.{before_end}
use Rattle.parsing.proofs.Fuel.{Ends, alternation_ends, sequence_ends, atom_ends, item_ends, alternation_step_law, sequence_step_law, atom_step_law}
use Rattle.parsing.proofs.Fuel.{alternation_step, sequence_step, atom_step}
use Rattle.text.specs.declared.Refusal.{Refusal}
use Rattle.text.specs.Refusals.{refusal_of}
use Rattle.table.specs.Tables.{view_table}
use Rattle.table.specs.declared.Table.{Table}
use Rattle.piece.specs.Pieces.{piece_of}
use Rattle.piece.specs.declared.Piece.{Piece}
use Rattle.items.specs.Results.{parsed_of, Readable}
use Rattle.items.specs.declared.Parsed.{Parsed}
use Rattle.items.proofs.Leaves.{Good, good, bad, bad_parsed, unfit_parsed}

-- what the code reads is what is read
abbrev pub Reads : (vars : ℕ → ℕ) (k : ℕ) → Result Parsed Refusal → Parse.Parsed → Type 0
Reads vars k r a = r ≡ parsed_of vars k a

size_same : (vars : ℕ → ℕ) (k : ℕ) (r : Parsed) (a : Parse.Parsed) → Good vars k r a → r.piece.size ≡ size a.tree
unfolding piece_of
size_same vars k r a g = ap (λ (x : Piece). x.size) g.piece

-- a fault of the first part is the whole's
stopped : (vars : ℕ → ℕ) (k : ℕ) (first rest whole : Parse.Parsed) {e : Refusal} → whole ≡ cond (eqb first.step.fault 0) rest first
    → Reads vars k (Err e) first → Reads vars k (Err e) whole
stopped vars k first rest whole s h = rw (s, (bad vars k first h).fault) h

-- both tests hold
choose : {p q : Bool} {x : Parse.Parsed} (y z : Parse.Parsed) → p ≡ true → q ≡ true → cond p (cond q x y) z ≡ x
choose y z f o = rw (f, o)

-- The whole is the first part, which the code has read as r, and, where the test `on` says so, the second part behind it,
-- which is read from n on.
pub record Parts (vars : ℕ → ℕ) (k n : ℕ) (f : Regex → Regex → Regex) (on : Bool) (second : (k p : ℕ) → Parse.Parsed) (whole : Parse.Parsed) (r : Parsed)
    : Type 0 where
  pub first : Parse.Parsed
  pub read : Reads vars k (Ok r) first
  pub step : whole ≡ cond (eqb first.step.fault 0) (cond on (Parse.joined f first (second (k + size first.tree) n)) first) first

module _ {vars : ℕ → ℕ} {k n : ℕ} {f : Regex → Regex → Regex} {on : Bool} {second : (k p : ℕ) → Parse.Parsed} {whole : Parse.Parsed} {r : Parsed}
    (c : Parts vars k n f on second whole r) where
  abbrev a : Parse.Parsed
  a = c.first

  fine : Good vars k r a
  fine = good vars k a c.read

  pub first_alone : on ≡ false → Reads vars k (Ok r) whole
  first_alone o = rw (c.step, fine.fault, o) c.read

  module _ (o : on ≡ true) {x : Result Parsed Refusal} (h : Reads vars (k + r.piece.size) x (second (k + r.piece.size) n)) where
    abbrev j : ℕ
    j = k + size a.tree

    abbrev b : Parse.Parsed
    b = second j n

    second_of : Reads vars j x b
    second_of = rw (size_same vars k r a fine) at h

    both : whole ≡ Parse.joined f a b
    both = c.step ∙ choose a a fine.fault o

    pub second_fault : {e : Refusal} → x ≡ Err e → Reads vars k (Err e) whole
    second_fault i = let d = bad vars j b (sym i ∙ second_of) in rw (both, d.fault) (bad_parsed vars k b d)

    pub both_in_order : {y : Parsed} {z : Piece} → x ≡ Ok y
        → ((vars : ℕ → ℕ) (a b : Regex) (k : ℕ) → r.piece ≡ piece_of vars a k → y.piece ≡ piece_of vars b (k + size a) → z ≡ piece_of vars (f a b) k)
        → Reads vars k (Ok (record { place = y.place; piece = z })) whole
    unfolding parsed_of
    both_in_order {y} {z} i p =
        let g = good vars j b (sym i ∙ second_of) in
        let q : z ≡ piece_of vars (f a.tree b.tree) (suc k) = p vars a.tree b.tree (suc k) fine.piece (rw suc-add g.piece) in
        rw (both, g.fault, g.fault, ← g.place, ← q)

-- what is known of where a reading from p on ends
pub record Held (s : Bytes) (k p : ℕ) (r : Parsed) : Type 0 where
  pub inside : r.place ≤ length s
  pub beyond : p < r.place
  pub few : k + r.piece.size ≤ 31

module _ (s : Bytes) (t : Table) where
  abbrev pub vars : ℕ → ℕ
  vars = variables_of (view_table t).table

  -- what the readers read, as their contracts have it
  abbrev pub alternated : (d k p : ℕ) → Parse.Parsed
  alternated d k p = alternation_from s (view_table t).symbols (enough d p + 3) d k p

  abbrev pub sequenced : (d k p : ℕ) → Parse.Parsed
  sequenced d k p = sequence_from s (view_table t).symbols (enough d p + 2) d k p

  abbrev pub atom_read : (d k p : ℕ) → Parse.Parsed
  atom_read d k p = atom_from s (view_table t).symbols (enough d p + 1) d k p

module _ {s : Bytes} {t : Table} {k p : ℕ} (ok : Readable s t k p) where
  elsewhere : {j n : ℕ} → j ≤ 31 → n ≤ length s → Readable s t j n
  elsewhere h i = record { short = ok.short; ready = ok.ready; few = h; in_text = i }

  -- where an atom begins, behind the spaces, and the place behind its parenthesis
  pub atom_here : {q : ℕ} → q ≡ spaces_end s p → Readable s t k q
  atom_here i = elsewhere ok.few (rw i (spaces_end_le s p ok.in_text))

  pub atom_next : {q : ℕ} → q ≡ spaces_end s p → at s q ≡ opening → Readable s t k (q + 1) × (p < q + 1)
  atom_next {q} i o =
      (elsewhere ok.few (before_end s q opening (omega arith) (eq-eqb (at s q) opening o)), omega (arith, spaces_end_ge s p))

  module _ (d : ℕ) where
    -- a fault of the first part
    pub alternation_stopped : {e : Refusal} → Reads (vars s t) k (Err e) (sequenced s t d k p) → Reads (vars s t) k (Err e) (alternated s t d k p)
    unfolding alternation_step
    alternation_stopped = stopped (vars s t) k _ _ _ (alternation_step_law s ok.short (view_table t).symbols d k p ok.in_text)

    -- an atom is an item where its reading stops
    pub sequence_stopped : {e : Refusal} → Reads (vars s t) k (Err e) (atom_read s t d k p) → Reads (vars s t) k (Err e) (sequenced s t d k p)
    unfolding sequence_step item_of
    sequence_stopped h =
        stopped (vars s t) k _ _ _ (sequence_step_law s ok.short (view_table t).symbols d k p ok.in_text)
        (stopped (vars s t) k (atom_read s t d k p) _ _ refl h)

    module _ {r : Parsed} where
      held : (a : Parse.Parsed) → Ends s ok.short (view_table t).symbols k p a → Reads (vars s t) k (Ok r) a → Held s k p r
      held a ends e =
          let g = good (vars s t) k a e in
          let f = eqb-true a.step.fault 0 g.fault in
          record {
            inside = rw g.place ends.inside;
            beyond = rw g.place (ends.beyond f);
            few = rw (size_same (vars s t) k r a g) (ends.few f);
          }

      pub alternation_held : Reads (vars s t) k (Ok r) (alternated s t d k p) → Held s k p r
      alternation_held = held _ (alternation_ends s ok.short _ _ d k p ok.in_text)

      pub sequence_held : Reads (vars s t) k (Ok r) (sequenced s t d k p) → Held s k p r
      sequence_held = held _ (sequence_ends s ok.short _ _ d k p ok.in_text)

      pub atom_held : Reads (vars s t) k (Ok r) (atom_read s t d k p) → Held s k p r
      atom_held = held _ (atom_ends s ok.short _ _ d k p ok.in_text)

      item_held : Reads (vars s t) k (Ok r) (item_of s (atom_read s t d k p)) → Held s k p r
      item_held = held _ (item_ends s ok.short _ k p _ (atom_ends s ok.short _ _ d k p ok.in_text))

      -- alternation: the sequence r, and whether `|` stands behind it
      pub alternation_parts : Reads (vars s t) k (Ok r) (sequenced s t d k p) → {q : ℕ} {on : Bool} → q ≡ spaces_end s r.place → eqb (at s q) bar ≡ on
          → Parts (vars s t) k (q + 1) alt on (alternated s t d) (alternated s t d k p) r
      unfolding alternation_step
      alternation_parts e i l =
          record {
            first = sequenced s t d k p;
            read = e;
            step = alternation_step_law s ok.short (view_table t).symbols d k p ok.in_text ∙ rw (← l, i, (good (vars s t) k _ e).place);
          }

      pub alternation_next : Reads (vars s t) k (Ok r) (sequenced s t d k p) → {q : ℕ} → q ≡ spaces_end s r.place → eqb (at s q) bar ≡ true
          → Readable s t (k + r.piece.size) (q + 1) × (p < q + 1)
      alternation_next e {q} i o =
          let h = sequence_held e in (elsewhere h.few (before_end s q bar (omega arith) o), omega (arith, h.beyond, spaces_end_ge s r.place))

      -- sequence: the item r, the test of the byte behind it
      pub sequence_parts : Reads (vars s t) k (Ok r) (item_of s (atom_read s t d k p)) → {on : Bool} → on ≡ begins_item (at s (spaces_end s r.place))
          → Parts (vars s t) k r.place cat on (sequenced s t d) (sequenced s t d k p) r
      unfolding sequence_step
      sequence_parts e l =
          record {
            first = item_of s (atom_read s t d k p);
            read = e;
            step = sequence_step_law s ok.short (view_table t).symbols d k p ok.in_text ∙ rw (l, (good (vars s t) k _ e).place);
          }

      pub sequence_next : Reads (vars s t) k (Ok r) (item_of s (atom_read s t d k p)) → Readable s t (k + r.piece.size) r.place × (p < r.place)
      sequence_next e = let h = item_held e in (elsewhere h.few h.inside, h.beyond)

    -- atom, by the byte at its beginning q
    module _ {r : Result Parsed Refusal} {q : ℕ} (i : q ≡ spaces_end s p) where
      atom_parts : (x : Parse.Parsed)
          → cond (is_lower (at s q)) (name_atom s (view_table t).symbols k q)
          (cond (eqb (at s q) opening) (cond (eqb d 0) (failed (fail 3 q)) (closed s (alternated s t (d - 1) k (q + 1)))) (failed (unfit s q)))
          ≡ x
          → Reads (vars s t) k r x → Reads (vars s t) k r (atom_read s t d k p)
      unfolding atom_step
      atom_parts x h e = e ∙ ap (parsed_of (vars s t) k) (sym (atom_step_law s ok.short (view_table t).symbols d k p ok.in_text ∙ (rw i at h)))

      pub atom_name : is_lower (at s q) ≡ true → Reads (vars s t) k r (name_atom s (view_table t).symbols k q) → Reads (vars s t) k r (atom_read s t d k p)
      atom_name b = atom_parts _ (rw b)

      pub atom_unfit : is_lower (at s q) ≡ false → (at s q ≡ opening → ⊥) → r ≡ Err (refusal_of (unfit s q).fault q)
          → Reads (vars s t) k r (atom_read s t d k p)
      atom_unfit b o e = atom_parts (failed (unfit s q)) (rw (b, ne_eqb (at s q) opening o)) (e ∙ unfit_parsed (vars s t) k s q)

      pub atom_deep : at s q ≡ opening → d ≡ 0 → r ≡ Err (refusal_of 3 q) → Reads (vars s t) k r (atom_read s t d k p)
      unfolding parsed_of
      atom_deep o z = atom_parts (failed (fail 3 q)) (rw (o, eq-eqb d 0 z))

      pub atom_group_stopped : at s q ≡ opening → (d ≡ 0 → ⊥) → {e : Refusal} → r ≡ Err e
          → Reads (vars s t) k r (alternated s t (d - 1) k (q + 1)) → Reads (vars s t) k r (atom_read s t d k p)
      unfolding closed
      atom_group_stopped o z i h =
          let a = alternated s t (d - 1) k (q + 1) in
          atom_parts (closed s a) (rw (o, ne_eqb d 0 z)) (i ∙ stopped (vars s t) k a _ (closed s a) refl (sym i ∙ h))

      pub atom_group : at s q ≡ opening → (d ≡ 0 → ⊥) → Reads (vars s t) k r (closed s (alternated s t (d - 1) k (q + 1)))
          → Reads (vars s t) k r (atom_read s t d k p)
      atom_group o z = atom_parts _ (rw (o, ne_eqb d 0 z))
