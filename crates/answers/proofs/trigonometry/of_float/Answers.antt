-- `answers::trigonometry::of_float` meets its contract. Assumes nothing.
use Rattle.replies.specs.Replies.{among}
use Rattle.answers.specs.Trigonometry.{angle_rows}
use Rattle.answers.proofs.Rows.{other}
use Rattle.answers.proofs.trigonometry.of_float.Goals as goal

pub returns-in-78414 : goal.returns-in-78414
unfolding among
returns-in-78414 c = rw (c.in-78414.is, c.sine.ensures)

pub returns-in-13267 : goal.returns-in-13267
unfolding among
returns-in-13267 c = rw (c.in-13267.is, c.cosine.ensures)

pub returns-in-340558 : goal.returns-in-340558
unfolding among
returns-in-340558 c = rw (c.in-340558.is, c.arcsine.ensures)

pub returns-in-275411 : goal.returns-in-275411
unfolding among
returns-in-275411 c = rw (c.in-275411.is, c.arccosine.ensures)

pub returns-in-81998 : goal.returns-in-81998
unfolding among
returns-in-81998 c = rw (c.in-81998.is, c.tangent.ensures)

pub returns-in_default : goal.returns-in_default
returns-in_default c = other c.args.tag (angle_rows c.args.x) c.in_default.in_default-own.rest
