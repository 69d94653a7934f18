-- `paper::Refusal::told` meets its contract: each variant tells its own. Assumes nothing.
use Rattle.paper.proofs.Refusal.told.Goals as goal

pub returns-in-Before : goal.returns-in-Before
returns-in-Before c = rw c.in-Before.is

pub returns-in-After : goal.returns-in-After
returns-in-After c = rw c.in-After.is

pub returns-in-OutOfForm : goal.returns-in-OutOfForm
returns-in-OutOfForm c = rw c.in-OutOfForm.is
