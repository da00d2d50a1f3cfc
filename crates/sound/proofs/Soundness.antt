-- What a sound book and a sound state give: counts within their arrays, sound views, declared variables at the places of symbols. For the event
-- call.
use mathlib.Core.Path.{◌≡◌, sym, ap₂, ◌∙◌}
use mathlib.Core.Bool.{true, ◌&&◌, and-eq-true_iff}
use mathlib.Core.List.{map}
use Prim.Native.Nat.{ℕ, ◌≤◌}
use native.Mathlib.Omega.{arith}
use borrow.Author.Tests.{leb-true}
use lib.Dec.{leb}
use lib.ListN.{take}
use Rattle.laws.specs.Lists.{all}
use Rattle.laws.proofs.Lists.{and_true_split, all_at, all_of, all_map}
use Rattle.meaning.specs.Book.{sound_parameter, sound_symbol, sound_book}
use Rattle.meaning.specs.Sound.{sound_held, sound_state}
use Rattle.table.specs.declared.Symbol.{Symbol}
use Rattle.table.specs.Tables.{view_symbol}
use Rattle.table.proofs.Codes.{parameter_wide}
use Rattle.book.specs.declared.Book.{Book}
use Rattle.book.specs.Books.{view_book}
use Rattle.state.specs.declared.State.{State}
use Rattle.state.specs.States.{held_first, view_state}
use Rattle.sound.specs.Soundness.{symbol_counts, book_counts, book_sound, state_counts, state_sound}

pub book_counts_law : (b : Book) → book_sound b ≡ true → (b.variables ≤ 4) × (b.symbols ≤ 16) × (b.positions ≤ 31)
unfolding book_sound book_counts sound_book view_book
book_counts_law b h = let p = simp and-eq-true_iff at h in (omega (arith, leb-true), omega (arith, leb-true), omega (arith, leb-true))

pub book_view : (b : Book) → book_sound b ≡ true → sound_book (view_book b) ≡ true
unfolding book_sound
book_view b h = (and_true_split (book_counts b) (sound_book (view_book b)) h).1

-- the symbols of a book, as the struct's counts and as the view tell
symbols_told : (b : Book) → book_sound b ≡ true → let l = take b.symbols b.table in
    (all symbol_counts l ≡ true) × (all (sound_symbol b.variables) (map view_symbol l) ≡ true)
unfolding book_sound book_counts sound_book view_book
symbols_told b h = let p = simp and-eq-true_iff at h in (search, search)

symbol_wide : (n : ℕ) → n ≤ 4 → (y : Symbol) → symbol_counts y ≡ true → sound_symbol n (view_symbol y) ≡ true
    → (leb y.count 4 && all (sound_parameter 4) (view_symbol y).parameters) ≡ true
unfolding symbol_counts sound_symbol
symbol_wide n h y c k =
    let p = simp and-eq-true_iff at c in
    let q = simp and-eq-true_iff at k in
    let s : all (sound_parameter n) (view_symbol y).parameters ≡ true = search in
    ap₂ ◌&&◌ p.0 (all_of (sound_parameter 4) (view_symbol y).parameters (λ x m. parameter_wide n 4 h x (all_at (sound_parameter n) s m)))

pub book_symbols : (b : Book) → book_sound b ≡ true
    → all (λ y. leb y.count 4 && all (sound_parameter 4) (view_symbol y).parameters) (take b.symbols b.table) ≡ true
book_symbols b h =
    let l = take b.symbols b.table in
    let t = symbols_told b h in
    let v = sym (all_map (sound_symbol b.variables) view_symbol l) ∙ t.1 in
    all_of (λ (y : Symbol). leb y.count 4 && all (sound_parameter 4) (view_symbol y).parameters) l
    λ y m.
    symbol_wide b.variables (book_counts_law b h).0 y (all_at symbol_counts t.0 m) (all_at (λ z. sound_symbol b.variables (view_symbol z)) v m)

pub state_count : (b : Book) (s : State) → state_sound b s ≡ true → s.count ≤ 128
unfolding state_sound state_counts
state_count b s h = let p = simp and-eq-true_iff at h in omega (arith, leb-true)

pub state_number : (b : Book) (s : State) → state_sound b s ≡ true → s.number ≤ 1000000
unfolding state_sound sound_state view_state
state_number b s h = let p = simp and-eq-true_iff at h in omega (arith, leb-true)

pub state_view : (b : Book) (s : State) → state_sound b s ≡ true → sound_held (view_book b) (held_first b.variables s) ≡ true
unfolding state_sound sound_state view_state
state_view b s h = let p = simp and-eq-true_iff at h in search
