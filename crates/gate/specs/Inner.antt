-- What the loop over a day's pairs finds. Assumes nothing.
use Rattle.std.specs.Prelude.{ℕ, zero, suc, ◌+◌, ◌*◌, cond, List, eqb, get_or, None, Option, Some}
use Rattle.gate.specs.declared.reasons.Reason.{Reason}
use Rattle.gate.specs.declared.reasons.Reason.TheVariants.{Festival}

-- the first of the k pairs from pair i on that has the mark of a holiday
unfoldable pub marked_from : List ℕ → ℕ → ℕ → Option Reason
marked_from xs i zero = None
marked_from xs i (suc k) = cond (eqb (get_or xs (i * 2 + 1) 0) 1) (Some (Festival (get_or xs (i * 2) 0))) (marked_from xs (i + 1) k)
