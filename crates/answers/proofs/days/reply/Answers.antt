-- `answers::days::reply` meets its contract. Assumes nothing.
use Rattle.std.proofs.Common.{◌≡◌}
use borrow.Author.Rules.{rules}
use Rattle.gregorian.specs.Instants.{julian_says}
use Rattle.replies.specs.declared.Reply.TheVariants as R
use Rattle.replies.specs.Replies.{said, among}
use Rattle.answers.specs.Days.{days_rows, days_reply}
use borrow.Author.Tests.{ne_eqb}
use Rattle.answers.proofs.Rows.{other}
use Rattle.answers.proofs.days.reply.Goals as goal

pub returns-then-form-eq111 : goal.returns-then-form-eq111
unfolding days_reply among
returns-then-form-eq111 c = rw (c.in-16473.is, c.if-form-eq111.true, c.day.ensures, c.date_of.ensures)

pub returns-then-form : goal.returns-then-form
unfolding days_reply among
returns-then-form c = rw (c.in-1053957.is, c.if-form.true, c.date.ensures, c.from_day_number.ensures, c.large.ensures)

pub returns-then-form-eq1114 : goal.returns-then-form-eq1114
unfolding days_reply among
returns-then-form-eq1114 c = let e : c.said.result ≡ said R.Float (julian_says c.julian_day-at.result) = search rules in
    rw (c.in-644.is, c.if-form-eq1114.true, e, c.julian_day-at.ensures, c.float.ensures, c.date_of-then-form-eq1114.ensures)

pub returns-then-form-eq4 : goal.returns-then-form-eq4
unfolding days_reply among
returns-then-form-eq4 c = rw (c.in-58388.is, c.if-form-eq4.true, c.date-then-form-eq4.ensures, c.npt_date.ensures, c.float-then-form-eq4.ensures)

pub returns-else-form-eq111 : goal.returns-else-form-eq111
unfolding days_reply among
returns-else-form-eq111 c = rw (c.in-16473.is, ne_eqb _ _ c.if-form-eq111.false)

pub returns-else-form : goal.returns-else-form
unfolding days_reply among
returns-else-form c = rw (c.in-1053957.is, c.if-form.false)

pub returns-else-form-eq1114 : goal.returns-else-form-eq1114
unfolding days_reply among
returns-else-form-eq1114 c = rw (c.in-644.is, ne_eqb _ _ c.if-form-eq1114.false)

pub returns-else-form-eq4 : goal.returns-else-form-eq4
unfolding days_reply among
returns-else-form-eq4 c = rw (c.in-58388.is, ne_eqb _ _ c.if-form-eq4.false)

pub returns-in_default : goal.returns-in_default
unfolding days_reply
returns-in_default c = other c.args.w.tag (days_rows c.args.w) c.in_default.in_default-own.rest
