-- What the contracts of the calls below give, as what is promised: the theorems of the crate promises, carried to the result that is equal to
-- what they speak of. For the proofs of the functions.
use mathlib.Core.Path.{◌≡◌}
use mathlib.Core.Bool.{true}
use Prim.Native.Nat.{ℕ}
use Rattle.form.specs.Text.{Bytes, is_bytes}
use Rattle.table.specs.declared.Name.{Name}
use Rattle.table.specs.Tables.{name_of}
use Rattle.book.specs.declared.Book.{Book}
use Rattle.book.specs.declared.Reading.{Reading}
use Rattle.book.specs.Books.{reading, name_place, name_bytes}
use Rattle.state.specs.declared.State.{State}
use Rattle.tally.specs.declared.Tally.{Tally}
use Rattle.tally.specs.Tallies.{tallied}
use Rattle.calls.specs.Calls.{taken, buffer_after}
use Rattle.calls.specs.declared.Taken.{Taken}
use Rattle.promises.specs.ReadResults.{ReadGives, PlaceGives, NameGives}
use Rattle.promises.specs.EventResults.{TallyRises, EventGives}
use Rattle.promises.proofs.ReadResults.{read_given, place_given, name_given}
use Rattle.promises.proofs.EventResults.{tally_given, event_given}

pub read_carried : (s : Bytes) (r : Reading) → (r ≡ reading s) × (is_bytes s ≡ true) → ReadGives s r
read_carried s r (e, lent) = rw e (read_given s lent)

pub place_carried : (s : Bytes) (n : ℕ) (r : Name) → r ≡ name_of (name_place s n) → PlaceGives s n r.start r.size
place_carried s n r e = rw e (place_given s n)

pub name_carried : (s : Bytes) (n : ℕ) (w : Bytes) → w ≡ name_bytes s n → NameGives s n w
name_carried s n w e = rw e (name_given s n)

pub tally_carried : (t : Tally) (a f r : ℕ) (u : Tally) → u ≡ tallied t a f r → TallyRises t a f r u
tally_carried t a f r u e = rw e (tally_given t a f r)

pub event_carried : (b : Book) (s : State) (bytes buffer : Bytes) (place : ℕ) (t : Tally) (r : Taken) (after : Bytes)
    → (r ≡ taken b s bytes buffer place t) × (after ≡ buffer_after b s bytes buffer place) × (is_bytes bytes ≡ true)
    → EventGives b s bytes buffer place t r after
event_carried b s bytes buffer place t r after (e, left, lent) = rw (e, left) (event_given b s bytes buffer place t lent)
