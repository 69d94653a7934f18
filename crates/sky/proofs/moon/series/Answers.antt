-- `sky::moon::series` meets its contract. Assumes nothing.
use mathlib.Core.Path.{ap, ◌∙◌}
use native.Mathlib.Omega.{arith}
use lib.Ieee.{nan}
use Rattle.std.proofs.lemmas.List.{get_or-map}
use Rattle.trig.specs.Trig.{sine}
use Rattle.sky.specs.Moon.{angle}
use Rattle.sky.specs.Inner.{row}
use Rattle.sky.proofs.Series.{added_same}
use Rattle.sky.proofs.moon.series.Goals as goal

pub returns : goal.returns
returns c =
    let a = c.args in
    let long = c.put_angles.ensures.0 in
    let placed = c.put_angles.ensures.1 in
    c.add_terms.ensures
    ∙ added_same (row a.terms.now) a.a.factor _ (λ i. sine (angle a.a (row a.terms.now i))) 60
    (λ i h. rw c.sines.ensures (get_or-map sine c.put_angles.new.out i nan nan (omega arith) ∙ ap sine (placed i h)))
