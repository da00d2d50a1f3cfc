-- `demands`: a text that `read` accepts has one list of declarations and one tree, and all that is promised holds of its runs.
use mathlib.Core.Path.{◌≡◌}
use Rattle.pattern.specs.Regex.{Regex}
use Rattle.form.specs.Text.{Bytes, Declarations}
use Rattle.book.specs.Answers as Reading
use Rattle.book.specs.Books.{reading}
use Rattle.book.proofs.Bench as Bench
use Rattle.calls.specs.Demands.{Demands}
use Rattle.demands.proofs.Listed.{listed}
use Rattle.demands.proofs.Answered.{answered}
use Rattle.demands.proofs.Crossed.{crossed}

pub demands : (text : Bytes) → Reading.number_of (reading text).answer ≡ 0
    → (d : Declarations) × (r : Regex) × Demands text d r × ((e : Declarations) (q : Regex) → Demands text e q → (e ≡ d) × (q ≡ r))
demands text h =
    let (d, r, f) = (Bench.accepted text).0 h in (
      d,
      r,
      record { form = f; rows = listed text d r f; answers = answered text d r f; crossed = crossed text d r f },
      λ e q g. Bench.unique text e d q r g.form.shape f.shape,
    )
