-- The started state, or none. Assumes nothing.
use mathlib.Core.Path.{refl}
use Rattle.desk.proofs.Answered.{begun, not_begun}
use Rattle.desk.proofs.keeping.begin.Goals as goal

pub returns-in-Ok : goal.returns-in-Ok
returns-in-Ok c = begun _ c.start-started.ensures c.in-Ok.is refl c.put.ensures

pub returns-in-Err : goal.returns-in-Err
returns-in-Err c = not_begun _ c.start-started.ensures c.in-Err.is refl c.put-in-Err.ensures
