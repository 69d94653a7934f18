-- The month, both buffers and the state as they were given. Assumes nothing.
use mathlib.Core.Path.{refl}
use Rattle.desk.proofs.Answered.{says_kept}
use Rattle.desk.proofs.keeping.put_month.Goals as goal

pub returns : goal.returns
returns c = λ ready.
    let month = c.ask_month-asked.ensures ready in
    rw (← c.date_of-today.ensures, ← c.small.ensures, ← c.small-2.ensures)
    (says_kept refl month.holds (rw (month.answer, month.first, month.second) at c.put_shown.ensures))
