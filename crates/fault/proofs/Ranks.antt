-- The numbers of faults and their order: each fault has one of `fault_numbers`, two that have one rank are one, and the ranks are in the order of
-- the numbers. For the crates least, promises and beside.
use mathlib.Core.Path.{◌≡◌, refl, sym, ap, ◌∙◌}
use mathlib.Core.Bool.{true, false}
use mathlib.Core.List.{Memᴰ}
use mathlib.Core.Logic.{◌↔◌}
use Prim.Native.Nat.{ℕ, ◌+◌, ◌≤◌}
use native.Mathlib.Omega.{arith}
use borrow.Author.Tests.{eqb-true, eqb-false}
use lib.Dec.{eqb}
use lib.ListN.{get_or}
use Rattle.laws.specs.Lists.{any}
use Rattle.laws.proofs.Lists.{any_found, any_none, all_at, mem_numbers}
use Rattle.form.specs.Text.{Bytes}
use Rattle.fault.specs.Fault as F
use Rattle.fault.specs.Fault.{WordFault, TokenFault, Fault, fault_numbers, fault_rank}

-- at the rank of a number stands this number
at_rank : {n : ℕ} → Memᴰ n fault_numbers → get_or fault_numbers (fault_rank n) 0 ≡ n
at_rank a = eqb-true _ _ (all_at (λ k. eqb (get_or fault_numbers (fault_rank k) 0) k) refl a)

-- the numbers ascend one by one, from 2
rank_number : {n : ℕ} → Memᴰ n fault_numbers → n ≡ 2 + fault_rank n
rank_number a = eqb-true _ _ (all_at (λ k. eqb k (2 + fault_rank k)) refl a)

-- they are the five numbers from 2 on
pub listed_range : (n : ℕ) → Memᴰ n fault_numbers ↔ ((2 ≤ n) × (n ≤ 6))
listed_range n =
    let m = mem_numbers n 2 5 in (λ a. let (low, high) = m.0 a in (low, omega arith), λ (low, high). m.1 (low, omega arith))

-- a number that a search of the list finds, or does not find
pub is_listed : {n : ℕ} → any (eqb n) fault_numbers ≡ true → Memᴰ n fault_numbers
is_listed {n} h = let (m, a, e) = any_found (eqb n) fault_numbers h in rw (eqb-true n m e) a

pub not_listed : {n : ℕ} → any (eqb n) fault_numbers ≡ false → Memᴰ n fault_numbers → ⊥
not_listed {n} h a = eqb-false n n (any_none (eqb n) h a) refl

word_listed : {s : Bytes} {k i p n : ℕ} → WordFault s k i p n → Memᴰ n fault_numbers
word_listed (F.not_vars _ _ _) = is_listed refl
word_listed (F.not_sym _ _ _) = is_listed refl
word_listed (F.seventeenth _ _ _) = is_listed refl
word_listed (F.no_name _ _) = is_listed refl
word_listed (F.long_name _ _ _) = is_listed refl
word_listed (F.already _ _ _ _ _) = is_listed refl
word_listed (F.no_kind _ _ _) = is_listed refl
word_listed (F.no_argument _ _ _ _) = is_listed refl
word_listed (F.no_number _ _ _) = is_listed refl
word_listed (F.long_argument _ _ _) = is_listed refl
word_listed (F.undeclared_argument _ _ _ _) = is_listed refl
word_listed (F.symbol_argument _ _ _ _) = is_listed refl
word_listed (F.fifth_variable _ _) = is_listed refl
word_listed (F.fifth_argument _ _) = is_listed refl

token_listed : {s : Bytes} {k p q n : ℕ} → TokenFault s k p q n → Memᴰ n fault_numbers
token_listed (F.long_token _ _) = is_listed refl
token_listed (F.thirty_second _ _) = is_listed refl
token_listed (F.seventeenth_open _ _) = is_listed refl
token_listed (F.undeclared_name _ _ _) = is_listed refl
token_listed (F.variable_name _ _ _) = is_listed refl
token_listed (F.misplaced _ _) = is_listed refl

pub fault_listed : {s : Bytes} {q n : ℕ} → Fault s q n → Memᴰ n fault_numbers
fault_listed (F.space_first _ _ _ _) = is_listed refl
fault_listed (F.space_twice _ _ _ _ _ _) = is_listed refl
fault_listed (F.space_last _ _ _ _) = is_listed refl
fault_listed (F.word _ _ f) = word_listed f
fault_listed (F.missing_word _ _ _ _) = is_listed refl
fault_listed (F.missing_sym _ _) = is_listed refl
fault_listed (F.missing_space _ _ _) = is_listed refl
fault_listed (F.token _ _ _ f) = token_listed f
fault_listed (F.missing_token _ _ _ _ _ _) = is_listed refl
fault_listed (F.missing_lf _ _ _) = is_listed refl
fault_listed (F.after _ _ _ _ _ _) = is_listed refl

-- of two faults
module _ {s : Bytes} {p q n m : ℕ} (f : Fault s p n) (g : Fault s q m) where
  pub same_rank : fault_rank n ≡ fault_rank m → n ≡ m
  same_rank e = sym (at_rank (fault_listed f)) ∙ ap (λ i. get_or fault_numbers i 0) e ∙ at_rank (fault_listed g)

  pub rank_order : (n ≤ m) ↔ (fault_rank n ≤ fault_rank m)
  rank_order = let x = rank_number (fault_listed f) in let y = rank_number (fault_listed g) in (λ h. omega arith, λ h. omega arith)
