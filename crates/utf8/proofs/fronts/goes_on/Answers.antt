-- `utf8::fronts::goes_on` meets its contract. Assumes nothing.
use mathlib.Core.Path.{refl}
use Rattle.utf8.specs.Characters.{goes_on}
use Rattle.utf8.proofs.fronts.goes_on.Goals as goal

pub returns : goal.returns
unfolding goes_on
returns c = refl
