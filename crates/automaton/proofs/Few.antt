-- Document 01: "an event has at most 16 × 129 rows", for any sound book and state.
use mathlib.Core.Path.{◌≡◌, ap, ◌∙◌}
use mathlib.Core.Bool.{true, and-eq-true_iff}
use mathlib.Core.List.{List, ◌∷◌, map, Memᴰ}
use mathlib.Core.Logic.{⊎_elim}
use Prim.Native.Nat.{ℕ, ◌-◌, ◌*◌, ◌≤◌}
use native.Mathlib.Omega.{arith}
use borrow.Author.Tests.{leb-true, ltb-true}
use lib.Dec.{ltb}
use lib.ListN.{length, length-map}
use Rattle.laws.specs.Lists.{all, gather}
use Rattle.laws.proofs.Lists.{all_at, mem_map, mem_gather, mem_get_or, mem_numbers, length_gather}
use Rattle.laws.proofs.Sets.{ascending_length}
use Rattle.meaning.specs.Events.{Event, Valuation, Symbol, constraint_of}
use Rattle.meaning.specs.Book.{Book, sound_book, positions, symbol_of}
use Rattle.meaning.specs.Labels.{Disjunct, Held, free_disjunct, met, sources}
use Rattle.meaning.specs.Rows.{valuation_of, rows}
use Rattle.meaning.specs.Sound.{sound_held}
use Rattle.automaton.proofs.Orders.{valuation_order}
use Rattle.automaton.proofs.Members.{step_set_member, rows_member, rows_ascending}
use Rattle.automaton.proofs.Stems.{source_cases}

sound_few : (b : Book) → sound_book b ≡ true → (length b.symbols ≤ 16) × (all (λ a. ltb a (length b.symbols)) b.occurrences ≡ true)
unfolding sound_book
sound_few b h = let p = simp and-eq-true_iff at h in (omega (arith, leb-true), search)

held_few : (b : Book) (held : List Held) → sound_held b held ≡ true → length held ≤ 128
unfolding sound_held
held_few b held h = let p = simp and-eq-true_iff at h in omega (arith, leb-true)

-- a position of the book has a symbol of the book
symbol_mem : (b : Book) → sound_book b ≡ true → (q : ℕ) → Memᴰ q (positions b) → Memᴰ (symbol_of b q) b.symbols
symbol_mem b sb q m =
    let r = (mem_numbers q 1 (length b.occurrences)).0 m in
    mem_get_or b.symbols _ _ (ltb-true _ _ (all_at _ (sound_few b sb).1 (mem_get_or b.occurrences (q - 1) 0 (omega arith))))

module _ (b : Book) (held : List Held) where
  -- all that a meeting may start from
  abbrev starts : List Disjunct
  starts = free_disjunct b.variables ∷ map (λ h. h.disjunct) held

  source_start : (q : ℕ) (D : Disjunct) → Memᴰ D (sources b held q) → Memᴰ D starts
  source_start q D m =
      ⊎_elim (λ s. mathlib.Core.List.Memᴰ.head s.1) (λ s. mathlib.Core.List.Memᴰ.tail ((mem_map _ D held).1 (s.0, s.1, s.3))) (source_cases b held q m)

  module _ (e : Event) where
    abbrev meeting : Symbol → Disjunct → Valuation
    meeting s D = valuation_of (met D (constraint_of s e))

    -- each of them met with every symbol
    abbrev candidates : List Valuation
    candidates = gather (λ s. map (meeting s) starts) b.symbols

    row_candidate : sound_book b ≡ true → (σ : Valuation) → Memᴰ σ (rows b held e) → Memᴰ σ candidates
    row_candidate sb σ m =
        let (q, k, _, (D, d, x)) = (rows_member b held e σ).0 m in
        let (E, f, _, y) = (step_set_member b held e q D).0 d in
        let started : Memᴰ E starts = source_start q E f in
        (mem_gather (λ x. map (meeting x) starts) σ _).1 (symbol_of b q, symbol_mem b sb q k, (mem_map (meeting (symbol_of b q)) σ starts).1 (E, started, x ∙ ap valuation_of y))

pub few_rows : (b : Book) → sound_book b ≡ true → (held : List Held) → sound_held b held ≡ true → (e : Event) → length (rows b held e) ≤ 16 * 129
few_rows b sb held sh e =
    let few = (sound_few b sb).0 in
    let low = held_few b held sh in
    omega (
      arith,
      ascending_length valuation_order (rows b held e) (candidates b held e) (rows_ascending b held e) (row_candidate b held e sb),
      length_gather (λ s. map (meeting b held e s) (starts b held)) 129 b.symbols (λ s m. simp length-map (omega arith)),
    )
