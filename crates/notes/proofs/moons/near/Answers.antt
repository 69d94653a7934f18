-- `notes::moons::near` meets its contract. Assumes nothing.
use mathlib.Core.Path.{ap, ◌∙◌}
use lib.IntN.{pos}
use lib.Ieee.{Float, of_bits}
use Rattle.paper.specs.Floats.{◌⊕◌, near, dec, whole}
use Rattle.notes.specs.Near.{minutes_to}
use Rattle.notes.proofs.Nears.{near_after, near-neither, near-last}
use Rattle.notes.proofs.moons.near.Goals as goal

pub returns-then-day-eq1 : goal.returns-then-day-eq1
returns-then-day-eq1 c = let a = c.args in
    near_after a.x.0 a.n a.day a.len c.if-day-eq1.true (c.minutes_to.ensures ∙ ap (minutes_to (whole (pos a.n))) c.local_day-local.ensures)

pub returns-then-day-len : goal.returns-then-day-len
unfolding near of_bits
returns-then-day-len c = let a = c.args in
    c.then_some.ensures
    ∙ near-last a.x.0 a.n a.day a.len c.if-day-eq1.false c.if-day-len.true (c.minutes_to-m.ensures ∙ ap (λ (l : Float). minutes_to l (whole (pos a.n) ⊕ dec 1 0)) c.local_day-local.ensures)

pub returns : goal.returns
returns c = let a = c.args in near-neither a.x.0 a.n a.day a.len c.if-day-eq1.false c.if-day-len.false
