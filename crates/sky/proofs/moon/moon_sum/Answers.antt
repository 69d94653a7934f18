use mathlib.Core.Path.{refl, ◌∙◌}
use Rattle.sky.specs.MoonTable.{moon_terms}
use Rattle.sky.specs.Moon.{term_at, moon_sum}
use Rattle.sky.proofs.Series.{row_of, passes}
use Rattle.sky.proofs.moon.moon_sum.Goals as goal

pub returns : goal.returns
unfolding moon_sum
returns c = c.series.ensures ∙ passes _ moon_terms c.args.a 60 (row_of (term_at moon_terms) 60 _ refl)
