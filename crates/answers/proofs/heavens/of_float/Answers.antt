-- `answers::heavens::of_float` meets its contract. Assumes nothing.
use Rattle.std.proofs.Common.{◌≡◌}
use borrow.Author.Rules.{rules}
use Rattle.sky.specs.Answers.{tt_says}
use Rattle.replies.specs.declared.Reply.TheVariants as R
use Rattle.replies.specs.Replies.{said, among}
use Rattle.answers.specs.Heavens.{float_rows}
use Rattle.answers.proofs.Rows.{other}
use Rattle.answers.proofs.heavens.of_float.Goals as goal

pub returns-in-4382081108 : goal.returns-in-4382081108
unfolding among
returns-in-4382081108 c = rw (c.in-4382081108.is, c.delta_t.ensures)

pub returns-in-1300 : goal.returns-in-1300
unfolding among
returns-in-1300 c = let e : c.said.result ≡ said R.Float (tt_says c.tt_from_ut.result) = search rules in
    rw (c.in-1300.is, e, c.tt_from_ut.ensures)

pub returns-in-79182 : goal.returns-in-79182
unfolding among
returns-in-79182 c =
    let e : c.said-in-79182.result ≡ said R.Float c.sun_longitude.result = search rules in
    rw (c.in-79182.is, e, c.sun_longitude.ensures)

pub returns-in-3470286 : goal.returns-in-3470286
unfolding among
returns-in-3470286 c =
    let e : c.said-in-3470286.result ≡ said R.Float c.moon_longitude.result = search rules in
    rw (c.in-3470286.is, e, c.moon_longitude.ensures)

pub returns-in-87094151 : goal.returns-in-87094151
unfolding among
returns-in-87094151 c =
    let e : c.said-in-87094151.result ≡ said R.Float c.elongation.result = search rules in
    rw (c.in-87094151.is, e, c.elongation.ensures)

pub returns-in-337986057 : goal.returns-in-337986057
unfolding among
returns-in-337986057 c = let e : c.said-in-337986057.result ≡ said R.Number c.tithi_at.result = search rules in
    rw (c.in-337986057.is, e, c.tithi_at.ensures)

pub returns-in-1384390890438 : goal.returns-in-1384390890438
unfolding among
returns-in-1384390890438 c = rw (c.in-1384390890438.is, c.tithi_of.ensures)

pub returns-in-21380 : goal.returns-in-21380
unfolding among
returns-in-21380 c = rw (c.in-21380.is, c.instant.ensures, c.tithi_end.ensures)

pub returns-in-53539019 : goal.returns-in-53539019
unfolding among
returns-in-53539019 c = let e : c.said-in-53539019.result ≡ said R.Number c.npt_clock.result = search rules in
    rw (c.in-53539019.is, e, c.npt_clock.ensures)

pub returns-in-903257342291 : goal.returns-in-903257342291
unfolding among
returns-in-903257342291 c = rw (c.in-903257342291.is, c.minutes_of.ensures)

pub returns-in_default : goal.returns-in_default
returns-in_default c = other c.args.tag (float_rows c.args.x) c.in_default.in_default-own.rest
