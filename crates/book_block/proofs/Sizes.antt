-- What the types alone tell of the symbols in an array and in a book: each has four parameters, so that its words are ten. The kit says it of a
-- parameter as a part of `c.well_formed`. For the functions that put symbols into words.
use mathlib.Core.Path.{◌≡◌, refl, sym, subst}
use mathlib.Core.List.Memᴰ
use mathlib.Core.List.{List, [], ◌∷◌, Memᴰ}
use mathlib.Core.Logic.{⊎_elim}
use Prim.Native.Nat.{ℕ}
use native.Mathlib.Omega.{arith}
use base.Fml.{Fml}
use denote.Laws.{Is}
use denote.Shadow.{shadow}
use denote.Array.{Array, each}
use mir.Val.{Val}
use lib.ListN.{length}
use Rattle.laws.proofs.Fronts.{gather_length}
use Rattle.table.specs.declared.Symbol.{Symbol}
use Rattle.table.specs.contracts.Symbol as symbols
use Rattle.book.specs.declared.Book.{Book}
use Rattle.book.specs.contracts.Book as books
use Rattle.blocks.specs.BookBlock.{parameter_words, symbol_words}

-- what is told of every element of an array
each_told : {D : Type 0} (own : D → List Val → Fml) (P : D → Type 0) → ((d : D) (u : Val) → shadow (own d (u ∷ [])) → P d)
    → (ds : List D) (us : List Val) → shadow (each D own ds us) → (d : D) → Memᴰ d ds → P d
each_told own P one [] us h d m = absurd (Memᴰ.not-nil m)
each_told own P one (e ∷ ds) [] h d m = absurd h
each_told own P one (e ∷ ds) (u ∷ us) h d m =
    ⊎_elim (λ s. subst P (sym s) (one e u h.0)) (each_told own P one ds us h.1 d) (Memᴰ.cases_cons m)

ten_words : (y : Symbol) → length y.parameters ≡ 4 → length (symbol_words y) ≡ 10
ten_words y h =
    omega (arith, gather_length parameter_words 2 y.parameters (λ p m. refl))

pub symbols_words : (n : ℕ) (ys : List Symbol) {vs : List Val} → Is (Array symbols.the_row n) ys vs → (y : Symbol) → Memᴰ y ys
    → length (symbol_words y) ≡ 10
symbols_words n ys h =
    each_told (symbols.the_row).own_val (λ y. length (symbol_words y) ≡ 10) (λ y u k. ten_words y k.1.1.1.1.0.1.0.1) ys h.0 h.1.1

pub table_words : (b : Book) {vs : List Val} → Is books.the_row b vs → (y : Symbol) → Memᴰ y b.table → length (symbol_words y) ≡ 10
table_words b h y m =
    let a = h.1.1.1.1.1.0 in
    each_told (symbols.the_row).own_val (λ y. length (symbol_words y) ≡ 10) (λ y u k. ten_words y k.1.1.1.1.0.1.0.1) b.table a.0 a.1.1 y m
