-- The parts of soundness that the code tests one by one. No public contract cites this page: a buyer may pass it over.
use Rattle.std.specs.Prelude.{Bool, not, ◌&&◌, ℕ, ◌+◌, leb, ltb, take}
use Rattle.laws.specs.Lists.{all}
use Rattle.pattern.specs.Positions.{occurrence_limit}
use Rattle.meaning.specs.Book.{sound_symbol, sound_mask}
use Rattle.meaning.specs.Sound.{sound_entry}
use Rattle.table.specs.declared.Symbol.{Symbol}
use Rattle.table.specs.Tables.{view_symbol}
use Rattle.slot.specs.declared.Slot.{Slot}
use Rattle.slot.specs.Slots.{view_slot}
use Rattle.disjunct.specs.declared.Disjunct.{Disjunct}
use Rattle.book.specs.declared.Book.{Book}
use Rattle.state.specs.declared.State.{State}
use Rattle.sound.specs.Soundness.{symbol_counts, name_placed, slot_counts}

unfoldable pub slot_sound : Slot → Bool
slot_sound s = slot_counts s && sound_entry (view_slot s)

unfoldable pub disjunct_sound : ℕ → Disjunct → Bool
disjunct_sound n d = all slot_sound (take n d.vars)

unfoldable pub pool_sound : (variables positions : ℕ) → State → Bool
pool_sound n m s = all (λ p. leb 1 p && leb p m) (take s.count s.positions) && all (disjunct_sound n) (take s.count s.pool)

unfoldable pub symbol_sound : ℕ → Symbol → Bool
symbol_sound n y = symbol_counts y && sound_symbol n (view_symbol y)

unfoldable pub declared_sound : Book → Bool
declared_sound b = all (symbol_sound b.variables) (take b.symbols b.table) && all name_placed (take (b.variables + b.symbols) b.names)

unfoldable pub pattern_sound : Book → Bool
pattern_sound b =
    let n = b.positions in
    leb 1 n && leb n occurrence_limit
    && all (λ a. ltb a b.symbols) (take n b.occurrences)
    && sound_mask n b.begins && sound_mask n b.ends && all (sound_mask n) (take n b.follows)
    && not b.empty
