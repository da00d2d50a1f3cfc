-- What the crates below say of lent words, four variables wide, as what an event does with a book and with what is held: the follow masks, the
-- constraints, free variables, room, labels and rows. For `take_event`.
use mathlib.Core.Path.{◌≡◌, sym, ap, ap₂, ◌∙◌}
use mathlib.Core.Bool.{true, cond, ◌&&◌, and-eq-true_iff}
use mathlib.Core.List.{List, map, map-map, Memᴰ}
use Prim.Native.Nat.{ℕ, ◌-◌, ◌≤◌}
use Rattle.std.proofs.Common.{Option, Some, None, IfSome, IsSome, unwrap_or}
use native.Mathlib.Omega.{arith}
use borrow.Author.Tests.{leb-true, le-leb}
use lib.Dec.{leb}
use lib.ListN.{length, take, get_or, length-map, length-take}
use lib.Seq.{length-take-le, get_or-take}
use Rattle.laws.specs.Lists.{all}
use Rattle.laws.specs.Sets.{full, grown, within}
use Rattle.laws.proofs.Lists.{all_at, all_of, mem_map}
use Rattle.laws.proofs.Maps.{map_agree}
use Rattle.meaning.specs.Events as Events
use Rattle.meaning.specs.Book as Plain
use Rattle.meaning.specs.Book.{sound_book, followers}
use Rattle.meaning.specs.Labels.{Held, new_held}
use Rattle.meaning.specs.Room.{room, held_limit}
use Rattle.meaning.specs.Rows.{row_limit, rows}
use Rattle.meaning.specs.Sound.{sound_piece, sound_held}
use Rattle.meaning.specs.Wide.{wide_held, wide_valuation, wide_book}
use Rattle.automaton.proofs.Few.{few_rows}
use Rattle.bounded.specs.Bounded.{free_rows}
use Rattle.bounded.proofs.Wide.{wide_sound, wide_held_law, wide_room, wide_rows, wide_free}
use Rattle.table.specs.Tables.{view_symbol}
use Rattle.demand.specs.declared.Constraint.{Constraint}
use Rattle.demand.specs.Constraints.{view_constraint}
use Rattle.packed.specs.Held.{held_in, held_grown}
use Rattle.packed.proofs.Held.{positions_in}
use Rattle.book.specs.declared.Book.{Book}
use Rattle.book.specs.Books.{view_book}
use Rattle.book.specs.Counts.{Counts, view_from}
use Rattle.sound.specs.Soundness.{book_sound}
use Rattle.sound.proofs.Soundness.{book_counts_law}
use Rattle.rows.specs.Valuations.{valuations_in, rows_grown}
use Rattle.rows.proofs.Valuations as Valuations
use Rattle.matcher.specs.declared.Effect.{Effect}
use Rattle.matcher.specs.Effects.{Holding, Effects}

-- rows that there is room for are counted
counted_rows : (c : Option ℕ) (out : List ℕ) (l : List Events.Valuation) → IfSome c (λ k. k ≤ row_limit) → rows_grown c out ≡ grown l
    → (unwrap_or c 0 ≤ row_limit) × (take (unwrap_or c 0) (valuations_in out) ≡ l)
counted_rows None out l few e = let z : ◌≡◌ {A = ℕ} 0 1 = cc in absurd (omega arith)
counted_rows (Some k) out l few e = (few, cc)

-- the positions of what is held stay where it is made wide
wide_position : (l : List Held) → map (λ h. h.position) (map wide_held l) ≡ map (λ h. h.position) l
unfolding wide_held
wide_position l = map-map (λ h. h.position) wide_held l

-- the constraints of the table are those of the book
pub constraints_known : (b : Book) (e : Events.Event) (cs : List (Option Constraint))
    → map view_constraint (take b.symbols cs) ≡ map (λ y. Events.constraint_of (view_symbol y) e) (take b.symbols b.table)
    → map view_constraint (take b.symbols cs) ≡ map (λ y. Events.constraint_of y e) (view_book b).symbols
unfolding view_book
constraints_known b e cs h = h ∙ sym (map-map (λ y. Events.constraint_of y e) view_symbol (take b.symbols b.table))

pub counts_known : (b : Book) → book_sound b ≡ true → Counts b
counts_known b h = let c = book_counts_law b h in record { positions = c.2; symbols = c.1 }

-- a book whose matches begin at the positions of m
module _ (b : Book) (m : ℕ) where
  -- a held position is one of the book's
  held_position : (l : List Held) → sound_held (view_from m b) l ≡ true → (h : Held) → Memᴰ h l → (1 ≤ h.position) × (h.position ≤ b.positions)
  unfolding sound_held sound_piece view_book
  held_position l s h k =
      let p = simp and-eq-true_iff at s in
      let q = simp and-eq-true_iff at (all_at (sound_piece (view_from m b)) p.0.1 k) in
      let few = length-take b.positions b.occurrences in
      (leb-true 1 h.position q.0.0, omega (arith, leb-true h.position (length (take b.positions b.occurrences)) q.0.1))

  -- the lent words hold what is sound with it
  module _ (sb : book_sound b ≡ true) (n : ℕ) (at w : List ℕ) (few : n ≤ 128) (held : Holding (view_from m b) n at w) where
    parameter_known : (p : ℕ) → Memᴰ p (take n at) → (1 ≤ p) × (p ≤ b.positions)
    parameter_known p k =
        let e = sym (positions_in n at w few) ∙ ap (map (λ h. h.position)) held.wide ∙ wide_position held.plain in
        let j = (mem_map (λ h. h.position) p held.plain).0 (rw e at k) in
        rw j.2 (held_position held.plain held.sound j.0 j.1)

    pub parameters_sound : all (λ p. leb 1 p && leb p 31) (take n at) ≡ true
    parameters_sound =
        all_of (λ p. leb 1 p && leb p 31) (take n at) λ p k.
        let j = parameter_known p k in
        ap₂ ◌&&◌ (le-leb 1 p j.0) (le-leb p 31 (omega (arith, j.1, (book_counts_law b sb).2)))

    pub masks_known : (masks : List ℕ) → take n masks ≡ map (λ p. get_or b.follows (p - 1) 0) (take n at)
        → take n masks ≡ map (followers (view_book b)) (take n at)
    unfolding view_book
    masks_known masks e =
        e ∙ map_agree (λ p. get_or b.follows (p - 1) 0) (followers (view_book b)) (take n at) λ p k.
        let j = parameter_known p k in
        sym (get_or-take b.positions b.follows (p - 1) 0 (omega arith))

-- the same of any sound book, as the rules have it
module _ (b : Plain.Book) (sb : sound_book b ≡ true) (n : ℕ) (at w : List ℕ) (held : Holding b n at w) where
  pub words_sound : sound_held (wide_book b) (held_in n at w) ≡ true
  words_sound = rw held.wide (wide_sound b sb held.plain held.sound)

  module _ (e : Events.Event) where
    rows_few : length (map wide_valuation (rows b held.plain e)) ≤ row_limit
    rows_few = rw (length-map (rows b held.plain e) wide_valuation) (few_rows b sb held.plain held.sound e)

    -- what the rows are, wide
    rows_wide : within row_limit (rows (wide_book b) (held_in n at w) e) ≡ grown (map wide_valuation (rows b held.plain e))
    rows_wide =
        let D = held.plain in
        let l = map wide_valuation (rows b D e) in
        ap (λ k. within row_limit (rows (wide_book b) k e)) held.wide ∙ ap (within row_limit) (wide_rows b sb D held.sound e)
        ∙ ap (λ t. cond t (grown l) full) (le-leb (length l) row_limit rows_few)

    -- there is room for them
    pub rows_some : (c : Option ℕ) (out : List ℕ) → rows_grown c out ≡ within row_limit (rows (wide_book b) (held_in n at w) e) → IsSome c
    rows_some (Some k) out g = search
    rows_some None out g =
        let none : full ≡ grown (map wide_valuation (rows b held.plain e)) = g ∙ rows_wide in
        let apart : ◌≡◌ {A = ℕ} 0 1 = cc in
        absurd (omega arith)

    -- by the counts, the flag and the words of `collect` and of `advance`
    pub effects_known : (r : Effect) (c : Option ℕ) (at' w' out : List ℕ) → r.rows ≡ unwrap_or c 0 → IfSome c (λ k. k ≤ row_limit)
        → rows_grown c out ≡ within row_limit (rows (wide_book b) (held_in n at w) e)
        → r.free ≡ free_rows b.variables (wide_book b) (held_in n at w) e
        → IfSome r.held (λ k. k ≤ held_limit)
        → held_grown r.held at' w' ≡ cond (room (wide_book b) (held_in n at w) e) (grown (new_held (wide_book b) (held_in n at w) e)) full
        → Effects b held.plain e r at' w' out
    effects_known r c at' w' out k few g f fits a =
        let D = held.plain in
        let l = map wide_valuation (rows b D e) in
        let q : (r.rows ≤ row_limit) × (take r.rows (valuations_in out) ≡ l) = rw k (counted_rows c out l few (g ∙ rows_wide)) in
        record {
          free = f ∙ ap (λ k. free_rows b.variables (wide_book b) k e) held.wide ∙ wide_free b sb D held.sound e;
          after = a ∙ ap (λ k. cond (room (wide_book b) k e) (grown (new_held (wide_book b) k e)) full) held.wide
              ∙ ap₂ (λ t k. cond t (grown k) full) (wide_room b sb D held.sound e) (wide_held_law b sb D held.sound e);
          room = fits;
          counted = sym (length-take-le r.rows (valuations_in out) (omega (arith, q.0, Valuations.in_length out))) ∙ ap length q.1
              ∙ length-map (rows b D e) wide_valuation;
          few = q.0;
          listed = q.1;
        }
