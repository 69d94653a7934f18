-- `answers::almanac::of_date` meets its contract. Assumes nothing.
use borrow.Author.Rules.{rules}
use Rattle.std.proofs.Common.{◌≡◌}
use Rattle.replies.specs.declared.Reply.TheVariants as R
use Rattle.replies.specs.Replies.{said, among}
use Rattle.answers.specs.Almanac.{date_rows}
use Rattle.answers.proofs.Rows.{other}
use Rattle.answers.proofs.almanac.of_date.Goals as goal

pub returns-in-5739177235 : goal.returns-in-5739177235
unfolding among
returns-in-5739177235 c = rw (c.in-5739177235.is, c.span.ensures, c.sun_events.ensures)

pub returns-in-4756677 : goal.returns-in-4756677
unfolding among
returns-in-4756677 c = rw (c.in-4756677.is, c.instant.ensures, c.sunrise.ensures)

pub returns-in-78164 : goal.returns-in-78164
unfolding among
returns-in-78164 c = rw (c.in-78164.is, c.instant-in-78164.ensures, c.sunset.ensures)

pub returns-in-972057253121 : goal.returns-in-972057253121
unfolding among
returns-in-972057253121 c = rw (c.in-972057253121.is, c.span-in-972057253121.ensures, c.nishita_window.ensures)

pub returns-in-4739140 : goal.returns-in-4739140
unfolding among
returns-in-4739140 c =
    let e : c.said.result ≡ said R.Reading c.reading.result = search rules in
    rw (c.in-4739140.is, e, c.reading.ensures)

pub returns-in_default : goal.returns-in_default
returns-in_default c = other c.args.tag (date_rows c.args.d) c.in_default.in_default-own.rest
