-- The rows of several books: for each book one list, which is unique, and its bytes in the lent buffer, row by row. For the theorems about runs on sets.
use mathlib.Core.Path.{◌≡◌, refl, sym, ap, ap₂, subst, ◌∙◌}
use mathlib.Core.List.{List, [], ◌∷◌, ◌++◌, map, append_assoc, map-append, map-map}
use mathlib.Core.List.Memᴰ
use mathlib.Core.List.{Memᴰ}
use mathlib.Core.Logic.{⊎_elim}
use Prim.Native.Nat.{ℕ, zero, suc, ◌+◌, ◌*◌, ◌≤◌, ◌<◌}
use native.Mathlib.Omega.{arith}
use lib.ListN.{length, get_or, take, drop, set, length-map, length-append, get_or-map, get_or-append}
use lib.Seq.{take_at, drop-append-add, get_or-append-add, drop-drop, length-take-le}
use Rattle.laws.specs.Lists.{gather, numbers}
use Rattle.laws.specs.Parts.{front, splice}
use Rattle.laws.proofs.Fronts.{gather_append}
use Rattle.laws.proofs.Lists.{mem_map}
use Rattle.laws.proofs.Maps.{gather_map, map_agree}
use Rattle.runs.specs.Runs.{Within}
use Rattle.runs.proofs.Runs.{within_head, within_tail, within_more, within_none}
use Rattle.meaning.specs.Events.{Event, Valuation}
use Rattle.meaning.specs.Meaning.{Tracematch}
use Rattle.meaning.specs.Runs.{Listed}
use Rattle.form.specs.Text.{Bytes}
use Rattle.parsing.proofs.Accepted.{form_proper}
use Rattle.row.specs.RowBytes.{word_bytes, bytes_of, row_bytes}
use Rattle.row.proofs.RowBytes.{bytes_length}
use Rattle.calls.specs.Runs.{behind_number}
use Rattle.demands.proofs.Answered.{listed_once}
use Rattle.demands.proofs.Crossed.{listed_width}
use Rattle.parts.specs.Parts.{row_with}
use Rattle.set_runs.specs.Setting.{AllDeclare, none_declared, one_declared, Listings, no_list, one_list, row_count, rows_from, row_at, SetMade, SetDelivered}

-- One list for each book.
module _ {t : List Event} {n : ℕ} where
  -- lists that are told by the books' numbers, from k on
  pub listings_of : (f : ℕ → List Valuation) (k : ℕ) (tms : List Tracematch) → ((j : ℕ) (tm : Tracematch) → Within tms j tm → Listed tm t n (f (k + j)))
      → Listings t n tms (map f (numbers k (length tms)))
  listings_of f k [] h = no_list
  listings_of f k (tm ∷ tms) h =
      let e : k + 0 ≡ k = omega arith in
      one_list (subst (λ i. Listed tm t n (f i)) e (h 0 tm (record { inside = omega arith; at = λ d. refl })))
      (listings_of f (suc k) tms (λ j u w. let e : k + suc j ≡ suc k + j = omega arith in subst (λ i. Listed u t n (f i)) e (h (suc j) u (within_more tm w))))

  pub listings_once : {tms : List Tracematch} {ls ms : List (List Valuation)} → Listings t n tms ls → Listings t n tms ms → ls ≡ ms
  listings_once no_list no_list = refl
  listings_once (one_list a as') (one_list b bs) = ap₂ ◌∷◌ (listed_once a b) (listings_once as' bs)

  pub listings_at : {tms : List Tracematch} {ls : List (List Valuation)} → Listings t n tms ls → (k : ℕ) (tm : Tracematch) → Within tms k tm
      → Listed tm t n (get_or ls k [])
  listings_at no_list k tm w = absurd (within_none w)
  listings_at (one_list {tm = u} {l = l} a rest) zero tm w = subst (λ v. Listed v t n l) (sym (within_head w)) a
  listings_at (one_list a rest) (suc k) tm w = listings_at rest k tm (within_tail w)

  -- a row has at most four values
  pub listings_few : {texts : List Bytes} {tms : List Tracematch} → AllDeclare texts tms → {ls : List (List Valuation)} → Listings t n tms ls
      → (l : List Valuation) → Memᴰ l ls → (σ : Valuation) → Memᴰ σ l → length σ ≤ 4
  listings_few none_declared no_list l m σ k = absurd (Memᴰ.not-nil m)
  listings_few (one_declared d r f ds) (one_list a rest) l (Memᴰ.head e) σ k = listed_width _ (form_proper _ d r f) a σ (subst (Memᴰ σ) e k)
  listings_few (one_declared d r f ds) (one_list a rest) l (Memᴰ.tail m) σ k = listings_few ds rest l m σ k

-- the rows one by one, of the books from number k on
abbrev pub row_list : (n k : ℕ) → List Tracematch → List (List Valuation) → List Bytes
row_list n k [] ls = []
row_list n k (tm ∷ tms) [] = []
row_list n k (tm ∷ tms) (l ∷ ls) = map (row_with n tm.variables k 0) l ++ row_list n (suc k) tms ls

pub rows_one_by_one : (n k : ℕ) (tms : List Tracematch) (ls : List (List Valuation)) → rows_from n k tms ls ≡ gather (λ r. r) (row_list n k tms ls)
rows_one_by_one n k [] ls = refl
rows_one_by_one n k (tm ∷ tms) [] = refl
rows_one_by_one n k (tm ∷ tms) (l ∷ ls) =
    ap₂ ◌++◌ (sym (gather_map (λ r. r) (row_with n tm.variables k 0) l)) (rows_one_by_one n (suc k) tms ls)
    ∙ sym (gather_append (λ r. r) (map (row_with n tm.variables k 0) l) (row_list n (suc k) tms ls))

-- how many there are
pub row_list_length : {t : List Event} {i : ℕ} {tms : List Tracematch} {ls : List (List Valuation)} → Listings t i tms ls → (n k : ℕ)
    → length (row_list n k tms ls) ≡ row_count ls
row_list_length no_list n k = refl
row_list_length (one_list {tm = tm} {l = l} {tms = tms} {ls = ls} a rest) n k =
    length-append (map (row_with n tm.variables k 0) l) (row_list n (suc k) tms ls)
    ∙ ap₂ ◌+◌ (length-map l (row_with n tm.variables k 0)) (row_list_length rest n (suc k)) ∙ sym (length-append l (gather (λ l. l) ls))

-- each has 24 bytes
pub row_long : (n v x : ℕ) (σ : Valuation) → length σ ≤ 4 → length (row_with n v x 0 σ) ≡ 24
row_long n v x σ h = bytes_length (record { number = n; variables = v; byte5 = x; byte6 = 0; values = σ }) h

pub row_list_each : (n k : ℕ) (tms : List Tracematch) (ls : List (List Valuation))
    → ((l : List Valuation) → Memᴰ l ls → (σ : Valuation) → Memᴰ σ l → length σ ≤ 4)
    → (r : Bytes) → Memᴰ r (row_list n k tms ls) → length r ≡ 24
row_list_each n k [] ls few r m = absurd (Memᴰ.not-nil m)
row_list_each n k (tm ∷ tms) [] few r m = absurd (Memᴰ.not-nil m)
row_list_each n k (tm ∷ tms) (l ∷ ls) few r m =
    ⊎_elim
    (λ j. let (σ, i, e) = (mem_map (row_with n tm.variables k 0) r l).0 j in ap length e ∙ row_long n tm.variables k σ (few l (Memᴰ.head refl) σ i))
    (λ j. row_list_each n (suc k) tms ls (λ l i. few l (Memᴰ.tail i)) r j) (Memᴰ.append_cases (map (row_with n tm.variables k 0) l) m)

-- an element that is there is told with any default
any_value : (xs : List Bytes) (i : ℕ) (d : Bytes) → i < length xs → get_or xs i [] ≡ get_or xs i d
any_value [] i d h = absurd (omega arith)
any_value (x ∷ xs) zero d h = refl
any_value (x ∷ xs) (suc i) d h = any_value xs i d (omega arith)

-- the j-th row of book number k
pub row_list_at : {t : List Event} {i : ℕ} {tms : List Tracematch} {ls : List (List Valuation)} → Listings t i tms ls → (n s k j : ℕ) (tm : Tracematch)
    → Within tms k tm → j < length (get_or ls k [])
    → get_or (row_list n s tms ls) (row_count (take k ls) + j) [] ≡ row_with n tm.variables (s + k) 0 (get_or (get_or ls k []) j [])
row_list_at no_list n s k j tm w h = absurd (within_none w)
row_list_at (one_list {tm = u} {l = l} {tms = tms} {ls = ls} a rest) n s zero j tm w h =
    let e : s + 0 ≡ s = omega arith in
    let f = row_with n u.variables s 0 in
    let z : 0 + j ≡ j = omega arith in
    rw (e, z, within_head w)
    (get_or-append (map f l) (row_list n (suc s) tms ls) [] j (rw length-map h) ∙ any_value (map f l) j (f []) (rw length-map h) ∙ get_or-map f l j [])
row_list_at (one_list {tm = u} {l = l} {tms = tms} {ls = ls} a rest) n s (suc k) j tm w h =
    let e : s + suc k ≡ suc s + k = omega arith in
    let f = row_with n u.variables s 0 in
    let c : row_count (take (suc k) (l ∷ ls)) + j ≡ length (map f l) + (row_count (take k ls) + j) =
    omega (arith, length-append l (gather (λ l. l) (take k ls)), length-map l f) in
    rw (e, c) (get_or-append-add (map f l) (row_list n (suc s) tms ls) (row_count (take k ls) + j) [] ∙ row_list_at rest n (suc s) k j tm (within_tail w) h)

-- all bytes of a row but those of the event's number are the same whatever that is
pub row_tail : (n m v x : ℕ) (σ : Valuation) → drop 4 (row_with n v x 0 σ) ≡ drop 4 (row_with m v x 0 σ)
unfolding bytes_of word_bytes
row_tail n m v x σ = refl

pub row_list_tail : (n m k : ℕ) (tms : List Tracematch) (ls : List (List Valuation)) → map (drop 4) (row_list n k tms ls) ≡ map (drop 4) (row_list m k tms ls)
row_list_tail n m k [] ls = refl
row_list_tail n m k (tm ∷ tms) [] = refl
row_list_tail n m k (tm ∷ tms) (l ∷ ls) =
    let f = row_with n tm.variables k 0 in
    let g = row_with m tm.variables k 0 in
    map-append (drop 4) (map f l) (row_list n (suc k) tms ls)
    ∙ ap₂ ◌++◌
    (map-map (drop 4) f l ∙ map_agree (λ σ. drop 4 (f σ)) (λ σ. drop 4 (g σ)) l (λ σ i. row_tail n m tm.variables k σ) ∙ sym (map-map (drop 4) g l))
    (row_list_tail n m (suc k) tms ls) ∙ sym (map-append (drop 4) (map g l) (row_list m (suc k) tms ls))

-- with another byte 5
pub row_book : (n v k : ℕ) (σ : Valuation) → row_with n v k 0 σ ≡ set (row_bytes n v σ) 5 k
unfolding row_bytes bytes_of word_bytes
row_book n v k σ = refl

-- Rows in a buffer from a place on.
module _ (rows : List Bytes) (each : (r : Bytes) → Memᴰ r rows → length r ≡ 24) where
  row_in : (rest : Bytes) (i : ℕ) → i < length rows → take 24 (drop (24 * i) (gather (λ r. r) rows ++ rest)) ≡ get_or rows i []
  row_in rest i h = go rows each i h
    where
      go : (rows : List Bytes) → ((r : Bytes) → Memᴰ r rows → length r ≡ 24) → (i : ℕ) → i < length rows
          → take 24 (drop (24 * i) (gather (λ r. r) rows ++ rest)) ≡ get_or rows i []
      go [] each i h = absurd (omega arith)
      go (r ∷ rows) each zero h = rw append_assoc (take_at r (gather (λ r. r) rows ++ rest) 24 (each r (Memᴰ.head refl)))
      go (r ∷ rows) each (suc i) h =
          let e : 24 * suc i ≡ length r + 24 * i = omega (arith, each r (Memᴰ.head refl)) in
          rw (append_assoc, e, drop-append-add r) (go rows (λ r m. each r (Memᴰ.tail m)) i (omega arith))

  pub buffer_row : (place : ℕ) (buffer : Bytes) → place ≤ length buffer → (i : ℕ) → i < length rows
      → row_at (place + 24 * i) (splice place (gather (λ r. r) rows) buffer) ≡ get_or rows i []
  unfolding splice front
  buffer_row place buffer h i k =
      let e : place + 24 * i ≡ length (take place buffer) + 24 * i = ap (λ n. n + 24 * i) (sym (length-take-le place buffer h)) in
      rw (e, drop-append-add (take place buffer)) (row_in _ i k)

-- the rows of one book alone
pub plain_row_law : (n v : ℕ) (l : List Valuation) → ((σ : Valuation) → Memᴰ σ l → length σ ≤ 4) → (place : ℕ) (buffer : Bytes) → place ≤ length buffer
    → (j : ℕ) → j < length l → row_at (place + 24 * j) (splice place (gather (row_bytes n v) l) buffer) ≡ row_bytes n v (get_or l j [])
unfolding row_bytes
plain_row_law n v l few place buffer h j k =
    let f = row_with n v 0 0 in
    let long : j < length (map f l) = rw length-map k in
    rw (sym (gather_map (λ r. r) f l))
    (buffer_row (map f l) (λ r m. let (σ, i, e) = (mem_map f r l).0 m in ap length e ∙ row_long n v 0 σ (few σ i)) place buffer h j long
    ∙ any_value (map f l) j (f []) long ∙ get_or-map f l j [])

-- rows of the books below, and of one book, are among all rows
count_below : (ls : List (List Valuation)) (k j : ℕ) → j < length (get_or ls k []) → row_count (take k ls) + j < row_count ls
count_below [] k j h = absurd (omega arith)
count_below (l ∷ ls) zero j h = omega (arith, length-append l (gather (λ l. l) ls))
count_below (l ∷ ls) (suc k) j h =
    omega (arith, count_below ls k j h, length-append l (gather (λ l. l) ls), length-append l (gather (λ l. l) (take k ls)))

-- What an accepted call has left in its buffer.
module _ {texts : List Bytes} {tms : List Tracematch} (ds : AllDeclare texts tms) {t : List Event} {n : ℕ} {m : SetMade} (d : SetDelivered tms t n m) where
  -- the i-th of all rows
  pub delivered_row : (i : ℕ) → i < row_count d.lists → row_at (m.lent.place + 24 * i) m.left.buffer ≡ get_or (row_list n 0 tms d.lists) i []
  delivered_row i h =
      let fits = d.fitting in
      rw (d.written, rows_one_by_one n 0 tms d.lists)
      (buffer_row (row_list n 0 tms d.lists) (row_list_each n 0 tms d.lists (listings_few ds d.meant)) m.lent.place m.lent.buffer (omega arith) i
      (omega (arith, row_list_length d.meant n 0, h)))

  -- the j-th of book number k
  pub book_row : (k : ℕ) (tm : Tracematch) → Within tms k tm → (j : ℕ) → j < length (get_or d.lists k [])
      → row_at (m.lent.place + 24 * (row_count (take k d.lists) + j)) m.left.buffer ≡ row_with n tm.variables k 0 (get_or (get_or d.lists k []) j [])
  book_row k tm w j h =
      let e : 0 + k ≡ k = omega arith in
      delivered_row (row_count (take k d.lists) + j) (count_below d.lists k j h)
      ∙ row_list_at d.meant n 0 k j tm w h ∙ ap (λ i. row_with n tm.variables i 0 (get_or (get_or d.lists k []) j [])) e

-- bytes 4 to 23 are all but the event's number
pub behind_row : (p : ℕ) (buffer : Bytes) → behind_number p buffer ≡ drop 4 (row_at p buffer)
behind_row p buffer = ap (take 20) (sym (drop-drop 4 p buffer)) ∙ four (drop p buffer)
  where
    four : (l : Bytes) → take 20 (drop 4 l) ≡ drop 4 (take 24 l)
    four [] = refl
    four (a ∷ []) = refl
    four (a ∷ (b ∷ [])) = refl
    four (a ∷ (b ∷ (c ∷ []))) = refl
    four (a ∷ (b ∷ (c ∷ (d ∷ l)))) = refl
