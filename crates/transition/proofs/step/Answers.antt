-- `transition::step` meets its contract: each return is the first check that fails, or what `judged` says of the event in the record.
use mathlib.Core.Path.{refl, sym, ◌∙◌}
use Rattle.sound.proofs.Soundness.{book_counts_law}
use Rattle.transition.proofs.Checks.{first_book, first_state, first_form, decoded_not, decoded_few, decided_record}
use Rattle.transition.proofs.step.Goals as goal

pub sound_state-requires : goal.sound_state-requires
sound_state-requires c = (book_counts_law _ (sym c.sound_book.ensures ∙ c.if-not-sound_book.false)).0

pub judged-requires : goal.judged-requires
judged-requires c = (
  sym c.sound_book.ensures ∙ c.if-not-sound_book.false,
  sym c.sound_state.ensures ∙ c.if-not-sound_state.false,
  decoded_few _ _ c.in-Some.ensures,
)

pub returns-in-Some : goal.returns-in-Some
returns-in-Some c =
    decided_record _ _ c.in-Some.ensures _ _ (sym c.sound_book.ensures ∙ c.if-not-sound_book.false)
    (sym c.sound_state.ensures ∙ c.if-not-sound_state.false) c.judged.result c.judged.new.next_at c.judged.new.next c.judged.new.out c.judged.ensures

pub returns-in-None : goal.returns-in-None
returns-in-None c = (
  sym (first_form _ _ _ (sym c.sound_book.ensures ∙ c.if-not-sound_book.false) (sym c.sound_state.ensures ∙ c.if-not-sound_state.false)
      (decoded_not _ c.in-None.ensures)),
  refl,
)

pub returns-then-not-sound_book : goal.returns-then-not-sound_book
returns-then-not-sound_book c = (sym (first_book _ _ _ (sym c.sound_book.ensures ∙ c.if-not-sound_book.true)), refl)

pub returns-then-not-sound_state : goal.returns-then-not-sound_state
returns-then-not-sound_state c = (
  sym (first_state _ _ _ (sym c.sound_book.ensures ∙ c.if-not-sound_book.false) (sym c.sound_state.ensures ∙ c.if-not-sound_state.true)),
  refl,
)
