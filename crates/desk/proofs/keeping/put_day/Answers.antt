-- The answer, the buffer and the state as they were given. Assumes nothing.
use mathlib.Core.Path.{refl}
use Rattle.desk.proofs.Answered.{says_kept}
use Rattle.desk.proofs.keeping.put_day.Goals as goal

pub returns : goal.returns
returns c = λ ready.
    let day = c.ask_day-asked.ensures ready in
    says_kept refl day.holds (rw (day.answer, day.written) at c.put_listed.ensures)
