-- The steps of the reader of variables, as the code takes them.
use mathlib.Core.Path.{◌≡◌}
use mathlib.Core.List.{List, [], ◌∷◌, ◌++◌}
use Prim.Native.Nat.{ℕ, zero, suc, ◌+◌}
use borrow.Author.Tests.{eq-eqb, ne_eqb}
use Rattle.form.specs.Text.{Bytes, Span}
use Rattle.form.specs.Scan.{Step, go, fail, word_end, next_word}
use Rattle.form.specs.Lines.{span_of, declare_fault, variables_from}

-- Variables from p on, behind which the step x comes.
module _ (s : Bytes) (xs : List Span) (p : ℕ) {x : Step} (n : next_word s p ≡ x) where
  pub variables_fault : (room : ℕ) → (x.fault ≡ 0 → ⊥) → variables_from s room xs p ≡ record { step = x; spans = xs }
  variables_fault zero h = rw (n, ne_eqb _ 0 h)
  variables_fault (suc room) h = rw (n, ne_eqb _ 0 h)

  module _ (ok : x.fault ≡ 0) where
    pub variables_end : (room : ℕ) → x.place ≡ p → variables_from s room xs p ≡ record { step = go (p + 1); spans = xs }
    variables_end zero h = rw (n, eq-eqb _ 0 ok, eq-eqb _ p h)
    variables_end (suc room) h = rw (n, eq-eqb _ 0 ok, eq-eqb _ p h)

    module _ (on : x.place ≡ p → ⊥) (room : ℕ) where
      pub variables_full : room ≡ 0 → variables_from s room xs p ≡ record { step = fail 3 x.place; spans = xs }
      variables_full k = rw (k, n, eq-eqb _ 0 ok, ne_eqb _ p on)

      module _ {rest e f : ℕ} (k : room ≡ suc rest) (ends : e ≡ word_end s x.place) (tells : f ≡ declare_fault s xs x.place e) where
        pub variable_wrong : (f ≡ 0 → ⊥) → variables_from s room xs p ≡ record { step = fail f x.place; spans = xs }
        variable_wrong h = rw (k, n, eq-eqb _ 0 ok, ne_eqb _ p on, ← ends, ← tells, ne_eqb f 0 h)

        pub variable_next : f ≡ 0 → variables_from s room xs p ≡ variables_from s rest (xs ++ (span_of x.place e ∷ [])) e
        variable_next h = rw (k, n, eq-eqb _ 0 ok, ne_eqb _ p on, ← ends, ← tells, eq-eqb f 0 h)
