-- `tallied` and `taken`, which the contracts of `count` and `event` cite, keep what is promised of the results, and nothing else does.
use mathlib.Core.Path.{◌≡◌, refl, sym, ap, ◌∙◌}
use mathlib.Core.Bool.{true, cond}
use Prim.Native.Nat.{ℕ, ◌+◌, ◌^◌}
use native.Mathlib.Omega.{arith}
use borrow.Author.Tests.{eqb-true, eqb-false, ltb-true, ltb-false}
use lib.Dec.{eqb, ltb}
use Rattle.form.specs.Text.{Bytes, is_bytes}
use Rattle.book.specs.declared.Book.{Book}
use Rattle.state.specs.declared.State.{State}
use Rattle.tally.specs.declared.Tally.{Tally}
use Rattle.tally.specs.Tallies.{capped, tallied}
use Rattle.tally.proofs.Tallies.{each, capped_more, capped_full}
use Rattle.calls.specs.Answers.{number_of, place_of}
use Rattle.calls.specs.Calls.{taken, buffer_after}
use Rattle.calls.specs.Checks.{FirstFailing}
use Rattle.calls.specs.declared.EventAnswer.{EventAnswer}
use Rattle.calls.specs.declared.EventAnswer.TheVariants.{Accepted, Unsound, OutOfForm, TooMany, NoRoom, NoSpace}
use Rattle.calls.specs.declared.Taken.{Taken}
use Rattle.demands.proofs.Checks.{first_failing_law, refused_stays, book_stays, accepted_leaves}
use Rattle.promises.proofs.Whether.{whether}
use Rattle.promises.specs.EventResults.{EventTold, Risen, TallyRises, EventGives}

-- the numbers and places that the enum has
pub event_told : (a : EventAnswer) → EventTold a (number_of a) (place_of a)
event_told a = record {
  accepted = λ e. ap number_of e;
  unsound = λ e. ap number_of e;
  out_of_form = λ e. ap number_of e;
  too_many = λ e. ap number_of e;
  no_room = λ e. ap number_of e;
  no_space = λ e. ap number_of e;
  place = refl;
}

-- and no others
pub event_told_decided : (a : EventAnswer) (n m p q : ℕ) → EventTold a n p → EventTold a m q → (n ≡ m) × (p ≡ q)
event_told_decided Accepted n m p q x y = (x.accepted refl ∙ sym (y.accepted refl), x.place ∙ sym y.place)
event_told_decided Unsound n m p q x y = (x.unsound refl ∙ sym (y.unsound refl), x.place ∙ sym y.place)
event_told_decided OutOfForm n m p q x y = (x.out_of_form refl ∙ sym (y.out_of_form refl), x.place ∙ sym y.place)
event_told_decided TooMany n m p q x y = (x.too_many refl ∙ sym (y.too_many refl), x.place ∙ sym y.place)
event_told_decided NoRoom n m p q x y = (x.no_room refl ∙ sym (y.no_room refl), x.place ∙ sym y.place)
event_told_decided NoSpace n m p q x y = (x.no_space refl ∙ sym (y.no_space refl), x.place ∙ sym y.place)

-- a counter
rises : (x n : ℕ) {y : ℕ} → y ≡ capped x n → Risen x n y
rises x n e = record { below = λ h. e ∙ capped_more x n h; above = λ h. e ∙ capped_full x n (omega (arith, h)) }

rises_one : (x n y z : ℕ) → Risen x n y → Risen x n z → y ≡ z
rises_one x n y z p q =
    whether (ltb (x + n) (2 ^ 64)) (λ h. let l = ltb-true _ _ h in p.below l ∙ sym (q.below l))
    λ h. let l = ltb-false (x + n) (2 ^ 64) h in p.above (omega (arith, l)) ∙ sym (q.above (omega (arith, l)))

-- a tally
pub tally_given : (t : Tally) (a f r : ℕ) → TallyRises t a f r (tallied t a f r)
tally_given t a f r =
    let (x, y, z) = each t a f r in
    record { accepted = rises t.accepted a x; refused = rises t.refused f y; rows = rises t.rows r z }

pub tally_decided : (t : Tally) (a f r : ℕ) (u v : Tally) → TallyRises t a f r u → TallyRises t a f r v → u ≡ v
tally_decided t a f r u v p q =
    ap (λ x. record { accepted = x; refused = u.refused; rows = u.rows }) (rises_one _ _ _ _ p.accepted q.accepted)
    ∙ ap (λ x. record { accepted = v.accepted; refused = x; rows = u.rows }) (rises_one _ _ _ _ p.refused q.refused)
    ∙ ap (λ x. record { accepted = v.accepted; refused = v.refused; rows = x }) (rises_one _ _ _ _ p.rows q.rows)

-- the number of an answer tells which it is
abbrev decode : ℕ → EventAnswer
decode n = cond (eqb n 0) Accepted (cond (eqb n 9) Unsound (cond (eqb n 10) OutOfForm (cond (eqb n 11) TooMany (cond (eqb n 12) NoRoom NoSpace))))

told_again : (a : EventAnswer) → decode (number_of a) ≡ a
told_again Accepted = refl
told_again Unsound = refl
told_again OutOfForm = refl
told_again TooMany = refl
told_again NoRoom = refl
told_again NoSpace = refl

module _ (b : Book) (s : State) (bytes buffer : Bytes) (place : ℕ) where
  -- the first check that fails has one number
  number_one : (n : ℕ) → FirstFailing b s bytes buffer place n → (a : EventAnswer) → FirstFailing b s bytes buffer place (number_of a) → n ≡ number_of a
  number_one n f Accepted g = f.zero.1 (g.zero.0 refl)
  number_one n f Unsound g = f.nine.1 (g.nine.0 refl)
  number_one n f OutOfForm g = f.ten.1 (g.ten.0 refl)
  number_one n f TooMany g = f.eleven.1 (g.eleven.0 refl)
  number_one n f NoRoom g = f.twelve.1 (g.twelve.0 refl)
  number_one n f NoSpace g = f.thirteen.1 (g.thirteen.0 refl)

  module _ (t : Tally) where
    -- what the contract of `event` calls its result keeps what is promised
    pub event_given : is_bytes bytes ≡ true → EventGives b s bytes buffer place t (taken b s bytes buffer place t) (buffer_after b s bytes buffer place)
    event_given lent = record {
      lent = lent;
      first = first_failing_law b s bytes buffer place t;
      book = book_stays b s bytes buffer place t;
      refused = λ h. let (state, _, count, tally, left) = refused_stays b s bytes buffer place t h in (state, count, left, rw tally (tally_given t 0 1 0));
      accepted = λ h. let (state, count, tally, left) = accepted_leaves b s bytes buffer place t h in
          (state, count, left, rw tally (tally_given t 1 0 _));
    }

    -- results are equal where their parts are
    same_parts : (x y : Taken) → x.answer ≡ y.answer → x.rows ≡ y.rows → x.book ≡ y.book → x.state ≡ y.state → x.tally ≡ y.tally → x ≡ y
    same_parts x y p q r z u =
        ap (λ k. record { answer = k; rows = x.rows; book = x.book; state = x.state; tally = x.tally }) p
        ∙ ap (λ k. record { answer = y.answer; rows = k; book = x.book; state = x.state; tally = x.tally }) q
        ∙ ap (λ k. record { answer = y.answer; rows = y.rows; book = k; state = x.state; tally = x.tally }) r
        ∙ ap (λ k. record { answer = y.answer; rows = y.rows; book = y.book; state = k; tally = x.tally }) z
        ∙ ap (λ k. record { answer = y.answer; rows = y.rows; book = y.book; state = y.state; tally = k }) u

    -- two results of one call are one
    pub event_decided : (x y : Taken) (v w : Bytes) → EventGives b s bytes buffer place t x v → EventGives b s bytes buffer place t y w → (x ≡ y) × (v ≡ w)
    event_decided x y v w p q =
        whether (eqb (number_of y.answer) 0)
        (λ h.
        let e = eqb-true _ 0 h in
        let (state, count, left, tally) = p.accepted (n ∙ e) in
        let (state', count', left', tally') = q.accepted e in
        (parts (count ∙ sym count') (state ∙ sym state') (tally_decided _ _ _ _ _ _ tally tally'), left ∙ sym left'))
        λ h.
        let e = eqb-false (number_of y.answer) 0 h in
        let (state, count, left, tally) = p.refused (λ z. e (sym n ∙ z)) in
        let (state', count', left', tally') = q.refused e in
        (parts (count ∙ sym count') (state ∙ sym state') (tally_decided _ _ _ _ _ _ tally tally'), left ∙ sym left')
      where
        n : number_of x.answer ≡ number_of y.answer
        n = number_one _ p.first y.answer q.first

        parts : x.rows ≡ y.rows → x.state ≡ y.state → x.tally ≡ y.tally → x ≡ y
        parts count state tally =
            same_parts x y (sym (told_again x.answer) ∙ ap decode n ∙ told_again y.answer) count (p.book ∙ sym q.book) state tally
