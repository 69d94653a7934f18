-- `doubtful::years::put_moons` meets its contract. Assumes nothing.
use mathlib.Core.Path.{refl, ◌∙◌}
use Rattle.doubtful.proofs.Sheets.{moons_turn, moons_end}
use Rattle.doubtful.proofs.years.put_moons.Goals as goal

pub loop-x-init : goal.loop-x-init
loop-x-init c = (refl, refl)

pub put_moon-q-requires : goal.put_moon-q-requires
put_moon-q-requires c = c.requires.rows_value

pub loop-x-preserved : goal.loop-x-preserved
loop-x-preserved c = (c.put_moon-q.auto.out ∙ c.loop-x.invariant.0, moons_turn _ _ _ _ _ c.loop-x.x-index c.loop-x-test.true _ _ _ c.put_moon-q.ensures c.loop-x.invariant.1)

pub returns : goal.returns
returns c = moons_end _ _ _ _ _ c.loop-x.x-index _ _ c.loop-x-test.false c.loop-x.invariant.1
