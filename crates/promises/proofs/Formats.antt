-- Records and rows in numbers are those of the definitions that the event call is decided by.
use mathlib.Core.Path.{◌≡◌, refl, sym, ap, ◌∙◌}
use mathlib.Core.Bool.{true}
use mathlib.Core.List.{List, [], ◌∷◌, ◌++◌, Memᴰ}
use mathlib.Core.Logic.{◌↔◌}
use Prim.Native.Nat.{ℕ, zero, suc, ◌+◌, ◌-◌, ◌*◌, ◌/◌, ◌%◌, ◌≤◌, ◌<◌}
use native.Mathlib.Omega.{arith}
use borrow.Author.Tests.{eqb-true, eq-eqb, ltb-true, ltb-false}
use lib.Dec.{eqb, ltb}
use lib.ListN.{length, get_or, drop, get_or-append, get_or-eq_default}
use lib.Seq.{get_or-append-add, get_or-drop}
use Rattle.laws.specs.Lists.{gather}
use Rattle.laws.specs.Parts.{splice, pad}
use Rattle.laws.proofs.Lists.{all_get_d, all_indexed}
use Rattle.laws.proofs.Parts.{splice_length, splice_before, splice_within, splice_after}
use Rattle.meaning.specs.Events.{Valuation}
use Rattle.form.specs.Text.{Bytes}
use Rattle.record.specs.Records.{word_at, arguments_in, is_record, event_in}
use Rattle.record.proofs.Records.{record_form, form_record}
use Rattle.row.specs.RowBytes.{word_bytes, bytes_of, row_bytes}
use Rattle.laws.proofs.Fronts.{gather_length}
use Rattle.row.proofs.RowBytes.{row_length}
use Rattle.promises.proofs.Whether.{whether}
use Rattle.promises.specs.Formats.{word_from, InRecord, event_of_bytes, WordAt, RowAt, RowsIn}

pub event_read : event_in ≡ event_of_bytes
unfolding event_in arguments_in word_at
event_read = refl

-- the argument words, by their numbers
words_read : (s : Bytes) (k : ℕ) → k < 4 → get_or (arguments_in s) k 0 ≡ word_from s (4 + 4 * k)
unfolding arguments_in word_at
words_read s zero h = refl
words_read s (suc zero) h = refl
words_read s (suc (suc zero)) h = refl
words_read s (suc (suc (suc zero))) h = refl
words_read s (suc (suc (suc (suc k)))) h = absurd (omega arith)

words_length : (s : Bytes) → length (arguments_in s) ≡ 4
unfolding arguments_in
words_length s = refl

pub record_read : (s : Bytes) → (is_record s ≡ true) ↔ InRecord s
record_read s = (forth, back)
  where
    forth : is_record s ≡ true → InRecord s
    forth h =
        let f = record_form s h in
        record {
          size = f.size;
          kind = f.kind;
          count = f.few;
          zeros = (f.third, f.fourth);
          beyond = λ k p q.
              let e : get_or s 1 0 + (k - get_or s 1 0) ≡ k = omega (arith, p) in
              let zero_there = eqb-true 0 _ (all_get_d (eqb 0) (drop (get_or s 1 0) (arguments_in s)) (k - get_or s 1 0) 0 refl f.rest) in
              sym (words_read s k q) ∙ ap (λ i. get_or (arguments_in s) i 0) (sym e)
              ∙ sym (get_or-drop (get_or s 1 0) (arguments_in s) (k - get_or s 1 0) 0) ∙ sym zero_there;
        }

    back : InRecord s → is_record s ≡ true
    back r =
        let there : (i : ℕ) → get_or (drop (get_or s 1 0) (arguments_in s)) i 0 ≡ 0 = λ i.
        get_or-drop (get_or s 1 0) (arguments_in s) i 0
        ∙ whether (ltb (get_or s 1 0 + i) 4)
        (λ h. let l = ltb-true _ 4 h in words_read s _ l ∙ r.beyond _ (omega arith) l)
        (λ h. get_or-eq_default (arguments_in s) 0 (omega (arith, words_length s, ltb-false (get_or s 1 0 + i) 4 h))) in
        form_record s (record {
          size = r.size;
          kind = r.kind;
          few = r.count;
          third = r.zeros.0;
          fourth = r.zeros.1;
          rest = all_indexed (eqb 0) 0 (drop (get_or s 1 0) (arguments_in s)) (λ i. eq-eqb 0 _ (sym (there i)));
        })

-- the bytes of a row, every one
abbrev word_then : ℕ → List ℕ → List ℕ
word_then x l = x % 256 ∷ x / 256 % 256 ∷ x / 65536 % 256 ∷ x / 16777216 % 256 ∷ l

abbrev row_of : (n v : ℕ) → Valuation → List ℕ
row_of n v σ = word_then n (v ∷ 0 ∷ 0 ∷ 0 ∷ word_then (get_or σ 0 0) (word_then (get_or σ 1 0) (word_then (get_or σ 2 0) (word_then (get_or σ 3 0) []))))

row_listed : (n v : ℕ) (σ : Valuation) → length σ ≤ 4 → row_bytes n v σ ≡ row_of n v σ
unfolding row_bytes bytes_of word_bytes pad
row_listed n v [] h = refl
row_listed n v (a ∷ []) h = refl
row_listed n v (a ∷ b ∷ []) h = refl
row_listed n v (a ∷ b ∷ c ∷ []) h = refl
row_listed n v (a ∷ b ∷ c ∷ d ∷ []) h = refl
row_listed n v (a ∷ b ∷ c ∷ d ∷ e ∷ σ) h = absurd (omega arith)

abbrev pub Few : List Valuation → Type 0
Few l = (σ : Valuation) → Memᴰ σ l → length σ ≤ 4

-- byte r of row j stands 24 times j behind the first row's
row_byte : (n v : ℕ) (l : List Valuation) → Few l → (j r : ℕ) → j < length l → r < 24
    → get_or (gather (row_bytes n v) l) (24 * j + r) 0 ≡ get_or (row_of n v (get_or l j [])) r 0
row_byte n v [] few j r h k = absurd (omega arith)
row_byte n v (σ ∷ l) few zero r h k =
    ap (λ i. get_or (row_bytes n v σ ++ gather (row_bytes n v) l) i 0) (omega arith)
    ∙ get_or-append (row_bytes n v σ) _ 0 r (omega (arith, row_length n v σ (few σ (Memᴰ.head refl))))
    ∙ ap (λ b. get_or b r 0) (row_listed n v σ (few σ (Memᴰ.head refl)))
row_byte n v (σ ∷ l) few (suc j) r h k =
    let e : length (row_bytes n v σ) + (24 * j + r) ≡ 24 * suc j + r = omega (arith, row_length n v σ (few σ (Memᴰ.head refl))) in
    ap (λ i. get_or (row_bytes n v σ ++ gather (row_bytes n v) l) i 0) (sym e) ∙ get_or-append-add (row_bytes n v σ) _ (24 * j + r) 0
    ∙ row_byte n v l (λ τ m. few τ (Memᴰ.tail m)) j r (omega arith) k

-- from the bytes of one row to their names
row_named : (n v : ℕ) (σ : Valuation) {s : Bytes} {p : ℕ} → ((r : ℕ) → r < 24 → get_or s (p + r) 0 ≡ get_or (row_of n v σ) r 0) → RowAt s p n v σ
row_named n v σ {s} {p} at = record {
  number = word 0 (omega arith) (omega arith) refl refl refl refl;
  variables = byte 4 (omega arith) (omega arith);
  zeros = (byte 5 (omega arith) (omega arith), byte 6 (omega arith) (omega arith), byte 7 (omega arith) (omega arith));
  first = word 8 (omega arith) (omega arith) refl refl refl refl;
  second = word 12 (omega arith) (omega arith) refl refl refl refl;
  third = word 16 (omega arith) (omega arith) refl refl refl refl;
  fourth = word 20 (omega arith) (omega arith) refl refl refl refl;
}
  where
    byte : {i : ℕ} (r : ℕ) → i ≡ p + r → r < 24 → get_or s i 0 ≡ get_or (row_of n v σ) r 0
    byte r e h = ap (λ k. get_or s k 0) e ∙ at r h

    word : {i : ℕ} (r : ℕ) {x : ℕ} → i ≡ p + r → r + 3 < 24 → get_or (row_of n v σ) r 0 ≡ x % 256 → get_or (row_of n v σ) (r + 1) 0 ≡ x / 256 % 256
        → get_or (row_of n v σ) (r + 2) 0 ≡ x / 65536 % 256 → get_or (row_of n v σ) (r + 3) 0 ≡ x / 16777216 % 256 → WordAt s i x
    word r e h a b c d = record {
      lowest = byte r e (omega arith) ∙ a;
      second = byte (r + 1) (omega arith) (omega arith) ∙ b;
      third = byte (r + 2) (omega arith) (omega arith) ∙ c;
      highest = byte (r + 3) (omega arith) h ∙ d;
    }

pub rows_read : (buffer : Bytes) (place n v : ℕ) (l : List Valuation) → ((σ : Valuation) → Memᴰ σ l → length σ ≤ 4) → place + 24 * length l ≤ length buffer
    → RowsIn buffer (splice place (gather (row_bytes n v) l) buffer) place n v l
rows_read buffer place n v l few h =
    let size : length (gather (row_bytes n v) l) ≡ 24 * length l = omega (arith, gather_length (row_bytes n v) 24 l (λ σ m. row_length n v σ (few σ m))) in
    let inside : place + length (gather (row_bytes n v) l) ≤ length buffer = omega (arith, size, h) in
    record {
      fitting = h;
      size = splice_length place _ buffer inside;
      before = λ i k. splice_before place _ buffer i 0 (omega (arith, h)) k;
      within = λ j k. row_named n v (get_or l j []) (λ r q.
          ap (λ i. get_or (splice place (gather (row_bytes n v) l) buffer) i 0) (omega arith)
          ∙ splice_within place _ buffer (24 * j + r) 0 (omega (arith, h)) (omega (arith, size, k, q)) ∙ row_byte n v l few j r k q);
      behind = λ i k. splice_after place _ buffer i 0 inside (omega (arith, size, k));
    }
