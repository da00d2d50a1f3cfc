-- Texts with a fault each, by the constructor for it and computed evidence; places that have no fault; and what `Least` and `Rules` say of
-- two numbers. For readers of the definitions, and so that a change of one is refused here, before `refused` (crate least) is proved again.
-- The pattern's line stands directly behind line 0 in most of the texts: that no other stands before it is then plain.
use mathlib.Core.Path.{◌≡◌, refl, sym, ap}
use mathlib.Core.Bool.{true≢false}
use mathlib.Core.List.{◌++◌}
use mathlib.Core.Logic.{inl, inr, ⊎_elim}
use Prim.Native.Nat.{ℕ, zero, suc, ◌+◌, ◌≤◌, ◌<◌}
use native.Mathlib.Omega.{arith}
use lib.ListN.{length, replicate}
use Rattle.laws.specs.Lists.{gather}
use Rattle.pattern.specs.Regex.{Regex}
use Rattle.form.specs.Text.{Bytes, ascii, match_word, Declarations, header}
use Rattle.form.specs.Limits.{text_limit}
use Rattle.form.specs.Form.{Shape}
use Rattle.form.specs.Scan.{run, is_space, spaces_end, word_end, name_end}
use Rattle.fault.specs.Places.{spot_at, Word, NoMatch, PatternLine}
use Rattle.fault.specs.Fault.{Declares, WordFault, Fault, Least, NoFault}
use Rattle.fault.specs.Fault as F
use Rattle.fault.specs.Rules.{AdmitsEmpty, Rules}
use Rattle.fault.proofs.Ranks.{not_listed, rank_order}

-- no line stands between line 0 and line 1
none_before : {s : Bytes} (k : ℕ) → k ≤ 1 → NoMatch s k
none_before k b j q h l w e = omega arith

-- "a space too many is 2 at that space": of two, the second
pub two_spaces_law : Fault (ascii "vars  a\n") 5 2
unfolding spot_at
two_spaces_law = F.space_twice 4 refl (none_before 1 (omega arith)) refl refl (omega arith)

-- "the first excess word, of any form, carries 3": a fifth variable
pub fifth_variable_law : Fault (ascii "vars a b c d e") 13 3
unfolding spot_at
fifth_variable_law =
    F.word (record { present = omega arith; byte = refl; spot = refl }) (none_before 1 (omega arith)) (F.fifth_variable refl (omega arith))

-- "a missing LF at the book's end"
pub no_lf_law : Fault (ascii "vars") 4 2
unfolding spot_at
no_lf_law = F.missing_lf refl (none_before 0 (omega arith)) (omega arith)

-- "Last line: `match`, a space, a pattern": without the space, 2 where it should stand
pub no_space_law : Fault (ascii "vars\nmatch\n") 10 2
unfolding spot_at word_end
no_space_law =
    F.missing_space {k = 1} {p = 5}
    (record {
      word = record { present = omega arith; byte = refl; spot = refl };
      match = refl;
      behind = omega arith;
      first = none_before 1 (omega arith);
    })
    (λ e. omega arith) (omega arith)

-- `vars a` and a pattern: this variable's name, and so many times more
abbrev variable_pattern : ℕ → Bytes
variable_pattern n = ascii "vars a\nmatch a" ++ (gather ascii (replicate n " a") ++ ascii "\n")

variable_line : (n : ℕ) → PatternLine (variable_pattern n) 1 7
unfolding spot_at word_end
variable_line n =
    record {
      word = record { present = omega arith; byte = refl; spot = refl };
      match = refl;
      behind = omega arith;
      first = none_before 1 (omega arith);
    }

-- "or a variable's in the pattern, is 5"
pub variable_five : Fault (variable_pattern 0) 13 5
unfolding spot_at word_end name_end
variable_five =
    F.token (variable_line 0) refl
    (record { behind = omega arith; present = omega arith; on = refl; in_line = λ e. omega arith; byte = refl; begins = refl })
    (F.variable_name refl (λ (j, q, h, l, w, e). omega arith)
    (1, 5, record { present = omega arith; byte = refl; spot = refl }, inl (refl, omega arith, omega arith), refl))

-- "At most 31 symbol occurrences": a thirty-second name is 3
pub thirty_second_law : Fault (variable_pattern 31) 75 3
unfolding spot_at word_end name_end
thirty_second_law =
    F.token (variable_line 31) refl
    (record { behind = omega arith; present = omega arith; on = refl; in_line = λ e. omega arith; byte = refl; begins = refl })
    (F.thirty_second refl (omega arith))

-- "name already declared": one variable is not, by its own word
pub once_declared : WordFault (ascii "vars a\n") 0 1 5 4 → ⊥
unfolding spot_at
once_declared (F.already {j} {h} {q} d w e l same) = by q (omega arith) w
  where
    by : (q : ℕ) → q < 5 → Word (ascii "vars a\n") j h q → ⊥
    by zero b x = own (ap (λ y. y.words) x.spot) e
      where
        own : 0 ≡ h → Declares j h → ⊥
        own f (inl g) = omega (arith, g.1)
        own f (inr g) = omega (arith, g.1)
    by (suc zero) b x = true≢false (ap (λ y. y.inside) x.spot)
    by (suc (suc zero)) b x = true≢false (ap (λ y. y.inside) x.spot)
    by (suc (suc (suc zero))) b x = true≢false (ap (λ y. y.inside) x.spot)
    by (suc (suc (suc (suc zero)))) b x = true≢false (sym x.byte)
    by (suc (suc (suc (suc (suc q))))) b x = omega arith

-- "between the tokens of a pattern, and at its ends, spaces are free": the one behind `a` is no fault
abbrev trailing : Bytes
trailing = ascii "vars\nmatch a \n"

pub free_space : (n : ℕ) → Fault trailing 12 n → ⊥
unfolding spot_at word_end spaces_end
free_space n (F.space_first o h b w) = omega (arith, w)
free_space n (F.space_twice p o h b c e) = let f : p ≡ 11 = omega arith in omega (arith, rw f at b)
free_space n (F.space_last o h b e) =
    h 1 5 (omega arith) (omega (arith, o)) (record { present = omega arith; byte = refl; spot = refl }) refl
free_space n (F.word w h f) = true≢false (sym w.byte)
free_space n (F.missing_word o h (inl e) m) = omega (arith, e)
free_space n (F.missing_word o h (inr e) m) = omega (arith, e)
free_space n (F.missing_sym w e) = true≢false (sym w.byte)
free_space n (F.missing_space {p = p} x g e) =
    let f : p ≡ 7 = omega arith in
    true≢false (ap (λ y. y.inside) (rw f at x.word.spot))
free_space n (F.token x g t f) = true≢false t.byte
free_space n (F.missing_token x g o (inl e) b h) = omega (arith, e)
free_space n (F.missing_token x g o (inr e) b h) = omega (arith, e)
free_space n (F.missing_lf o h e) = omega (arith, e)
free_space n (F.after i x o e l g) = let f : i ≡ 11 = omega arith in omega (arith, rw f at e)

-- "at one place the smaller number"
pub smaller_first : {s : Bytes} {p n m : ℕ} → Least s p n → Fault s p m → n ≤ m
smaller_first {p = p} {m = m} l f = ⊎_elim (λ x. absurd (omega arith)) (λ x. (rank_order l.fault f).1 x.1) (l.least p m f)

-- "7, then 8": a text that admits the empty word gets 7, whatever its words leave unbound
pub seven_first : {s : Bytes} {p : ℕ} → length s ≤ text_limit → NoFault s → AdmitsEmpty s
    → ((d : Declarations) (r : Regex) (f : Shape s d r) → p ≡ length (header d) + (length match_word + 1) + run is_space f.written) → Rules s p 7
seven_first short none empty first =
    record {
      long = (λ (e, f). absurd (omega arith), λ h. absurd (omega arith));
      fault = λ m q a. (λ (e, f). absurd (not_listed {n = 7} refl (rw e a)), λ (h, l). absurd (none q m l.fault));
      seven = (λ e. (short, none, empty), λ h. refl);
      eight = (λ e. absurd (omega arith), λ (h, g, n, u). absurd (search (n, empty)));
      first = λ d r f h. first d r f;
      none = (λ (e, f). absurd (omega arith), λ (h, g, n, u). absurd (n empty));
    }
