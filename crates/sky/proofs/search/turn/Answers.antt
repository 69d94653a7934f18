use mathlib.Core.Path.{◌≡◌, sym, ◌∙◌}
use mathlib.Core.Bool.{cond}
use lib.Ieee.{le, neg, of_bits}
use Rattle.paper.specs.Floats.{◌⊕◌, near, dec}
use Rattle.sky.specs.Search.{turned}
use Rattle.sky.proofs.search.turn.Goals as goal
use Rattle.sky.proofs.search.turn.Goals.{Joined-x, then-x, else-x}

-- y where the two ways meet
once : (c : Joined-x) → c.if-x.y ≡ cond (le c.args.x (neg (dec 180 0))) (c.args.x ⊕ dec 360 0) c.args.x
unfolding near of_bits
once c = elim c.if-x.branch [ then-x w ↦ w.y-is ∙ simp w.if-x.true | else-x w ↦ w.y-is ∙ simp w.if-x.false ]

pub returns-then-y : goal.returns-then-y
unfolding turned near of_bits
returns-then-y c = simp (sym (once c.before), c.if-y.true)

pub returns-else-y : goal.returns-else-y
unfolding turned near of_bits
returns-else-y c = simp (sym (once c.before), c.if-y.false)
