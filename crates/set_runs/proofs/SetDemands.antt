-- `set_demands`: all that is promised of a set of 1 to 8 texts that `watch_read` accepts. For the buyer.
use mathlib.Core.Path.{◌≡◌}
use mathlib.Core.Bool.{true}
use mathlib.Core.List.{List, [], ◌∷◌}
use Prim.Native.Nat.{ℕ, ◌*◌, ◌≤◌}
use borrow.Author.Tests.{eqb-true}
use lib.Dec.{eqb}
use lib.ListN.{length}
use Rattle.laws.specs.Lists.{all}
use Rattle.laws.proofs.Lists.{and_true_split}
use Rattle.meaning.specs.Meaning.{Tracematch}
use Rattle.form.specs.Text.{Bytes, tracematch_of}
use Rattle.blocks.specs.Lent.{read_left}
use Rattle.lent_runs.proofs.Reading.{read_accepts}
use Rattle.set_runs.specs.Setting.{AllDeclare, none_declared, one_declared, SetDemands}
use Rattle.set_runs.proofs.SetListed.{set_listed}
use Rattle.set_runs.proofs.SetAnswered.{set_answered}
use Rattle.set_runs.proofs.Alone.{alone}
use Rattle.set_runs.proofs.SetCrossed.{set_crossed}

-- what the texts declare
declared_by : (texts : List Bytes) → all (λ text. eqb (read_left text).number 0) texts ≡ true → (tms : List Tracematch) × AllDeclare texts tms
declared_by [] h = ([], none_declared)
declared_by (text ∷ texts) h =
    let (this, rest) = and_true_split (eqb (read_left text).number 0) (all (λ text. eqb (read_left text).number 0) texts) h in
    let (d, r, f) = (read_accepts text).0 (eqb-true (read_left text).number 0 this) in
    let (tms, ds) = declared_by texts rest in
    (tracematch_of d r ∷ tms, one_declared d r f ds)

pub set_demands : (texts : List Bytes) → 1 ≤ length texts → length texts ≤ 8 → all (λ text. eqb (read_left text).number 0) texts ≡ true
    → (more states : List ℕ) → 3715 * length texts ≤ length states → (tms : List Tracematch) × SetDemands texts tms more states
set_demands texts some few read more states long =
    let (tms, ds) = declared_by texts read in (
      tms,
      record {
        declared = ds;
        answers = set_answered texts tms ds some few more states long;
        rows = set_listed texts tms ds some few more states long;
        alone = alone texts tms ds some few more states long;
        crossed = λ further others wide. set_crossed texts tms ds some few more states further others long wide;
      },
    )
