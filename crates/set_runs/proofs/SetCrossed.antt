-- `set_crossed`: demand 3 for sets, two whole lists of calls, refused ones included: for each book whose dependent events keep their order the rows of partners
-- are alike, and so all rows where that is so of every book. For the buyer.
use mathlib.Core.Path.{◌≡◌, refl, sym, ap, ap₂, ◌∙◌}
use mathlib.Core.Bool.{true}
use mathlib.Core.List.{List, [], ◌∷◌, map}
use mathlib.Core.Logic.Iff
use Prim.Native.Nat.{ℕ, suc, ◌+◌, ◌*◌, ◌≤◌, ◌<◌}
use native.Mathlib.Omega.{arith}
use lib.ListN.{length, get_or, take, drop, length-map, get_or-map}
use Rattle.laws.proofs.Sets.{same_members}
use Rattle.runs.specs.Runs.{Within}
use Rattle.runs.proofs.Runs.{within_at, within_more}
use Rattle.meaning.specs.Events.{Event, Valuation}
use Rattle.meaning.specs.Meaning.{Tracematch}
use Rattle.automaton.proofs.Crossed.{partner_rows}
use Rattle.automaton.proofs.Orders.{valuation_order}
use Rattle.form.specs.Text.{Bytes}
use Rattle.record.specs.Records.{event_in}
use Rattle.calls.specs.Runs.{Partners, InOrder}
use Rattle.demands.proofs.Crossed.{events, in_order}
use Rattle.lent_runs.specs.Lending.{LentCall, lent_bytes}
use Rattle.parts.specs.Parts.{row_with}
use Rattle.set_runs.specs.Setting.{SetMade, set_run, set_accepted, set_records, set_trace, AllDeclare, Listings, no_list, one_list, row_count}
use Rattle.set_runs.specs.Setting.{SetDelivered, SetAlike, SetAllAlike, SetCrossed}
use Rattle.set_runs.proofs.SetRows.{listings_at, row_list, row_list_tail, row_tail, behind_row, delivered_row, book_row}
use Rattle.set_runs.proofs.SetListed.{set_listed}

-- Partners of two runs on one set.
module _ {texts : List Bytes} {tms : List Tracematch} (ds : AllDeclare texts tms) (xs ys : List SetMade) (p : Partners (set_records xs) (set_records ys))
    (i : ℕ) (a c : SetMade) (ha : Within (set_accepted xs) i a) (left : SetDelivered tms (set_trace xs) (suc i) a)
    (right : SetDelivered tms (set_trace ys) (suc (p.to i)) c) where
  -- the same valuations of a book whose dependent events keep their order
  same_list : (k : ℕ) (tm : Tracematch) → Within tms k tm → InOrder tm (set_records xs) (set_records ys) p
      → get_or left.lists k [] ≡ get_or right.lists k []
  same_list k tm w o =
      let l = listings_at left.meant k tm w in
      let r = listings_at right.meant k tm w in
      let inside : i < length (map event_in (set_records xs)) = rw (length-map, length-map) ha.inside in
      same_members valuation_order _ _ l.ordered r.ordered λ σ.
      Iff.trans (l.exact σ)
      (Iff.trans (partner_rows tm _ _ (events (set_records xs) (set_records ys) p) (in_order tm (set_records xs) (set_records ys) p o) i inside σ) (Iff.symm
      (r.exact σ)))

  pub alike_book : (k : ℕ) (tm : Tracematch) → Within tms k tm → InOrder tm (set_records xs) (set_records ys) p
      → SetAlike tms k (set_trace xs) (set_trace ys) (suc i) (suc (p.to i)) a c
  alike_book k tm w o =
      let e = same_list k tm w o in
      record {
        left = left;
        right = right;
        valuations = e;
        bytes = λ j h.
            let g : j < length (get_or right.lists k []) = rw e at h in
            behind_row (a.lent.place + 24 * (row_count (take k left.lists) + j)) a.left.buffer ∙ ap (drop 4) (book_row ds left k tm w j h)
            ∙ row_tail (suc i) (suc (p.to i)) tm.variables k (get_or (get_or left.lists k []) j [])
            ∙ ap (λ l. drop 4 (row_with (suc (p.to i)) tm.variables k 0 (get_or l j []))) e
            ∙ sym (behind_row (c.lent.place + 24 * (row_count (take k right.lists) + j)) c.left.buffer ∙ ap (drop 4) (book_row ds right k tm w j g));
      }

  -- all lists are the same where each is
  same_lists : {t u : List Event} {n m : ℕ} {us : List Tracematch} {ls ms : List (List Valuation)} → Listings t n us ls → Listings u m us ms
      → ((k : ℕ) (tm : Tracematch) → Within us k tm → get_or ls k [] ≡ get_or ms k []) → ls ≡ ms
  same_lists no_list no_list h = refl
  same_lists (one_list {tm = tm} x l) (one_list y r) h =
      ap₂ ◌∷◌ (h 0 tm (record { inside = omega arith; at = λ d. refl })) (same_lists l r (λ k u w. h (suc k) u (within_more tm w)))

  pub alike_all : ((k : ℕ) (tm : Tracematch) → Within tms k tm → InOrder tm (set_records xs) (set_records ys) p) → SetAllAlike a c
  alike_all o =
      let e : left.lists ≡ right.lists = same_lists left.meant right.meant (λ k tm w. same_list k tm w (o k tm w)) in
      let counts : a.left.rows ≡ c.left.rows = left.counted ∙ ap row_count e ∙ sym right.counted in
      record {
        counts = counts;
        bytes = λ j h.
            let g : j < row_count left.lists = rw left.counted at h in
            let f : j < row_count right.lists = rw e at g in
            behind_row (a.lent.place + 24 * j) a.left.buffer ∙ ap (drop 4) (delivered_row ds left j g)
            ∙ sym (get_or-map (drop 4) (row_list (suc i) 0 tms left.lists) j [])
            ∙ ap (λ l. get_or l j []) (row_list_tail (suc i) (suc (p.to i)) 0 tms left.lists ∙ ap (λ l. map (drop 4) (row_list (suc (p.to i)) 0 tms l)) e)
            ∙ get_or-map (drop 4) (row_list (suc (p.to i)) 0 tms right.lists) j []
            ∙ sym (behind_row (c.lent.place + 24 * j) c.left.buffer ∙ ap (drop 4) (delivered_row ds right j f));
      }

-- the two runs may refuse different calls, lend other buffers, places and tallies, and have other words behind their books and states
pub set_crossed : (texts : List Bytes) (tms : List Tracematch) → AllDeclare texts tms → 1 ≤ length texts → length texts ≤ 8
    → (more states further others : List ℕ)
    → 3715 * length texts ≤ length states → 3715 * length texts ≤ length others → (xs ys : List LentCall) → lent_bytes xs ≡ true → lent_bytes ys ≡ true
    → (p : Partners (set_records (set_run texts more states xs)) (set_records (set_run texts further others ys)))
    → SetCrossed tms (set_run texts more states xs) (set_run texts further others ys) p
set_crossed texts tms ds some few more states further others long wide xs ys bx by p =
    let rx = set_run texts more states xs in
    let ry = set_run texts further others ys in
    let second : (i : ℕ) (a : SetMade) → Within (set_accepted rx) i a → (c : SetMade) × Within (set_accepted ry) (p.to i) c = λ i a w.
    within_at (set_accepted ry) (p.to i) (rw length-map at (p.to_inside i (rw length-map w.inside))) in
    let left = set_listed texts tms ds some few more states long xs bx in
    let right = set_listed texts tms ds some few further others wide ys by in
    record {
      book = λ k tm w o i a ha. let (c, hc) = second i a ha in (c, hc, alike_book ds rx ry p i a c ha (left i a ha) (right (p.to i) c hc) k tm w o);
      whole = λ o i a ha. let (c, hc) = second i a ha in (c, hc, alike_all ds rx ry p i a c ha (left i a ha) (right (p.to i) c hc) o);
    }
