-- What an event over a set leaves, put together of what the functions leave: accepted, and refused. For `watch_set_event`.
use mathlib.Core.Path.{◌≡◌, sym, ◌∙◌}
use mathlib.Core.List.{List}
use Prim.Native.Nat.{ℕ}
use Rattle.laws.specs.Lists.{gather}
use Rattle.laws.specs.Parts.{splice}
use Rattle.form.specs.Text.{Bytes}
use Rattle.record.specs.Records.{event_in}
use Rattle.tally.specs.declared.Tally.{Tally}
use Rattle.tally.specs.Tallies.{tallied}
use Rattle.blocks.specs.TallyBlock.{tally_in, tally_words}
use Rattle.parts.specs.Parts.{part_bytes, rows_together, number_for}
use Rattle.parts.specs.SetBlock.{count_checks, parts_in, states_after, set_left}
use Rattle.parts.proofs.Left.{left_accepted, left_refused}

module _ (w s : List ℕ) (n : ℕ) (bytes buffer : Bytes) (place : ℕ) (t : List ℕ) {number : ℕ}
    (told : number ≡ number_for (count_checks n) (parts_in w s bytes n) (event_in bytes) buffer place) {before after : Tally} {tallies : List ℕ}
    (read : before ≡ tally_in t) (kept : tallies ≡ tally_words after) where
  pub event_accepted : {rows : ℕ} {out states : List ℕ} → number ≡ 0 → rows ≡ rows_together (event_in bytes) (parts_in w s bytes n)
      → out ≡ splice place (gather (part_bytes (event_in bytes)) (parts_in w s bytes n)) buffer → states ≡ states_after w s bytes n
      → after ≡ tallied before 1 0 rows
      → set_left w s n bytes buffer place t ≡ record { number = 0; rows = rows; buffer = out; tally = tallies; states = states }
  event_accepted zero counted written stored added =
      left_accepted w s bytes n buffer place t (sym told ∙ zero) ∙ rw (kept, added, read, counted, written, stored)

  pub event_refused : (number ≡ 0 → ⊥) → after ≡ tallied before 0 1 0
      → set_left w s n bytes buffer place t ≡ record { number = number; rows = 0; buffer = buffer; tally = tallies; states = s }
  event_refused more added =
      left_refused w s bytes n buffer place t (λ z. more (told ∙ z)) ∙ rw (kept, added, read, told)
