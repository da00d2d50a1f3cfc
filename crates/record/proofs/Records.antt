-- Laws of the event record: what a record in form says of its bytes, the event in it as the code holds it, and that this event is
-- well-formed. For the functions of this crate and for the event call.
use mathlib.Core.Path.{◌≡◌, refl, sym, ap, ap₂, ◌∙◌}
use mathlib.Core.Bool.{Bool, true, false, true≢false, ◌&&◌}
use mathlib.Core.List.{List, [], ◌∷◌}
use mathlib.Core.Logic.{dite}
use Prim.Native.Nat.{ℕ, ◌+◌, ◌-◌, ◌^◌, ◌≤◌, ◌<◌}
use native.Mathlib.Decide.{dec_lt}
use native.Mathlib.Omega.{arith}
use borrow.Author.Tests.{ltb-true, leb-true, eqb-true, lt-ltb, le-leb, eq-eqb, ne_eqb}
use lib.Dec.{eqb, leb, ltb}
use lib.ListN.{length, get_or, take, drop, replicate, length-drop, take-append-drop, get_or-eq_default}
use lib.Seq.{length-take-le}
use Rattle.std.specs.List.{list_all}
use Rattle.std.specs.Prelude.{is_some, Some, None}
use Rattle.laws.specs.Lists.{all}
use Rattle.laws.specs.Parts.{pad}
use Rattle.laws.proofs.Lists.{and_true_split, all_append, all_at, mem_get_or}
use Rattle.laws.proofs.Parts.{pad_take}
use Rattle.meaning.specs.Events as Events
use Rattle.meaning.specs.Events.{word32, well_formed}
use Rattle.record.specs.Records.{word_at, arguments_in, is_record, event_in, event_of, view_event, decoded}

-- a number compared with zero, and zero with it
pub all_zero : (l : List ℕ) → list_all (λ x. eqb x 0) l ≡ all (eqb 0) l
all_zero [] = refl
all_zero (x ∷ l) = ap₂ ◌&&◌ (go (eqb 0 x) refl) (all_zero l)
  where
    go : (b : Bool) → eqb 0 x ≡ b → eqb x 0 ≡ b
    go true e = eq-eqb x 0 (sym (eqb-true 0 x e))
    go false e = ne_eqb x 0 (λ h. true≢false (sym (eq-eqb 0 x (sym h)) ∙ e))

-- numbers that are all zero
zeros : (l : List ℕ) → all (eqb 0) l ≡ true → l ≡ replicate (length l) 0
zeros [] h = refl
zeros (x ∷ l) h =
    let p = and_true_split (eqb 0 x) _ h in
    rw (← eqb-true 0 x p.0) (ap (λ m. 0 ∷ m) (zeros l p.1))

-- numbers that are zero from k on are the first k of them, padded
pad_zeros : (l : List ℕ) (k : ℕ) → all (eqb 0) (drop k l) ≡ true → k ≤ length l → pad (length l) 0 (take k l) ≡ l
unfolding pad
pad_zeros l k h m =
    let z = zeros (drop k l) h in
    let e : length l - length (take k l) ≡ length (drop k l) = omega (arith, length-take-le k l m, length-drop k l) in
    rw (e, ← z) (take-append-drop k l)

-- the four arguments, one by one
pub arguments : (s : List ℕ) (a b c d : ℕ) → a ≡ word_at s 4 → b ≡ word_at s 8 → c ≡ word_at s 12 → d ≡ word_at s 16
    → arguments_in s ≡ a ∷ b ∷ c ∷ d ∷ []
unfolding arguments_in
arguments s a b c d p q r t = rw (p, q, r, t)

arguments_length : (s : List ℕ) → length (arguments_in s) ≡ 4
arguments_length s = ap length (arguments s _ _ _ _ refl refl refl refl)

-- what a record in form says of its bytes
pub record Form (s : List ℕ) : Type 0 where
  pub size : length s ≡ 20
  pub kind : 1 ≤ get_or s 0 0
  pub few : get_or s 1 0 ≤ 4
  pub third : get_or s 2 0 ≡ 0
  pub fourth : get_or s 3 0 ≡ 0
  pub rest : all (eqb 0) (drop (get_or s 1 0) (arguments_in s)) ≡ true

pub record_form : (s : List ℕ) → is_record s ≡ true → Form s
unfolding is_record
record_form s h =
    let a = and_true_split _ (all (eqb 0) (drop (get_or s 1 0) (arguments_in s))) h in
    let b = and_true_split _ (eqb (get_or s 3 0) 0) a.0 in
    let c = and_true_split _ (eqb (get_or s 2 0) 0) b.0 in
    let d = and_true_split _ (leb (get_or s 1 0) 4) c.0 in
    let e = and_true_split (eqb (length s) 20) (leb 1 (get_or s 0 0)) d.0 in
    record {
      size = eqb-true _ 20 e.0;
      kind = leb-true 1 _ e.1;
      few = leb-true _ 4 d.1;
      third = eqb-true _ 0 c.1;
      fourth = eqb-true _ 0 b.1;
      rest = a.1;
    }

pub form_record : (s : List ℕ) → Form s → is_record s ≡ true
unfolding is_record
form_record s f =
    rw (
      eq-eqb (length s) 20 f.size,
      le-leb 1 (get_or s 0 0) f.kind,
      le-leb (get_or s 1 0) 4 f.few,
      eq-eqb (get_or s 2 0) 0 f.third,
      eq-eqb (get_or s 3 0) 0 f.fourth,
    )
    f.rest

-- what is decoded of bytes that are no record
pub decoded_none : (s : List ℕ) → (Form s → ⊥) → decoded s ≡ None
unfolding decoded
decoded_none s n = go (is_record s) refl
  where
    go : (b : Bool) → is_record s ≡ b → decoded s ≡ None
    go true e = absurd (n (record_form s e))
    go false e = rw e

-- an event is decoded of a record in form, and of nothing else
pub decoded_ok : (s : List ℕ) → is_some (decoded s) ≡ is_record s
unfolding decoded
decoded_ok s = go (is_record s) refl
  where
    go : (b : Bool) → is_record s ≡ b → is_some (decoded s) ≡ is_record s
    go true e = rw e
    go false e = rw e

pub decoded_event : (s : List ℕ) → is_record s ≡ true → decoded s ≡ Some (event_of (event_in s))
unfolding decoded
decoded_event s h = rw h

-- what is decoded of a record, field by field
pub decoded_form : (s : List ℕ) → Form s → decoded s ≡ Some (record { kind = get_or s 0 0; count = get_or s 1 0; args = arguments_in s })
unfolding decoded event_of event_in
decoded_form s f =
    let n = arguments_length s in
    let l = length-take-le (get_or s 1 0) (arguments_in s) (omega (arith, f.few)) in
    let p = pad_zeros (arguments_in s) (get_or s 1 0) f.rest (omega (arith, f.few)) in
    rw (form_record s f, l, rw n at p)

-- An event as the code holds it.
pub view_event_law : (e : Events.Event) → view_event (event_of e) ≡ e
unfolding view_event event_of
view_event_law e = rw (pad_take 4 0 e.args)

pub event_count : (e : Events.Event) → (event_of e).count ≡ length e.args
unfolding event_of
event_count e = refl

pub event_few : (s : List ℕ) → is_record s ≡ true → length (event_in s).args ≤ 4
unfolding event_in
event_few s h =
    let f = record_form s h in
    let n = arguments_length s in
    omega (arith, f.few, length-take-le (get_or s 1 0) (arguments_in s) (omega (arith, f.few)))

-- Bytes are below 256, so that words are below 2 ^ 32.
module _ (s : List ℕ) (bytes : all (λ x. ltb x 256) s ≡ true) where
  byte : (i : ℕ) → get_or s i 0 < 256
  byte i = dite (dec_lt i (length s)) (λ h. ltb-true _ 256 (all_at (λ x. ltb x 256) bytes (mem_get_or s i 0 h)))
      λ h. rw (get_or-eq_default s 0 {n = i} (omega arith)) (omega arith)

  word : (k : ℕ) → word32 (word_at s k) ≡ true
  unfolding word_at
  word k = lt-ltb (word_at s k) (2 ^ 32) (omega (arith, byte k, byte (k + 1), byte (k + 2), byte (k + 3)))

  words : all word32 (arguments_in s) ≡ true
  words = rw (arguments s _ _ _ _ refl refl refl refl, word 4, word 8, word 12, word 16)

  pub record_event : is_record s ≡ true → well_formed (event_in s) ≡ true
  unfolding well_formed event_in
  record_event h =
      let n = get_or s 1 0 in
      let few = event_few s h in
      let w = and_true_split (all word32 (take n (arguments_in s))) _
      (sym (all_append word32 (take n (arguments_in s)) (drop n (arguments_in s)))
      ∙ ap (all word32) (take-append-drop n (arguments_in s))
      ∙ words) in
      rw (
        le-leb 1 (get_or s 0 0) (record_form s h).kind,
        le-leb (get_or s 0 0) 255 (omega (arith, byte 0)),
        le-leb (length (take n (arguments_in s))) 4 few,
      )
      w.0
