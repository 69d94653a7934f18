-- `answers::conversions::reply` meets its contract. Assumes nothing.
use Rattle.std.proofs.Common.{◌≡◌}
use borrow.Author.Rules.{rules}
use Rattle.replies.specs.declared.Reply.TheVariants as R
use Rattle.conversion.specs.Flat.{flat}
use Rattle.replies.specs.Replies.{said, among}
use Rattle.answers.specs.Conversions.{bs_dated, conversions_rows, conversions_reply}
use borrow.Author.Tests.{ne_eqb}
use Rattle.answers.proofs.Rows.{other}
use Rattle.answers.proofs.conversions.reply.Goals as goal

pub returns-then-form-eq0 : goal.returns-then-form-eq0
unfolding conversions_reply among
returns-then-form-eq0 c = rw (c.in-52449483.is, c.if-form-eq0.true, c.passed.ensures, c.accepts.ensures)

pub returns-then-form-eq111 : goal.returns-then-form-eq111
unfolding conversions_reply among
returns-then-form-eq111 c = rw (c.in-147.is, c.if-form-eq111.true, c.date.ensures, c.bs_to_ad.ensures, c.bs_date.ensures)

pub returns-then-form-eq111-2 : goal.returns-then-form-eq111-2
unfolding conversions_reply among
returns-then-form-eq111-2 c = let e : c.said.result ≡ said bs_dated c.ad_to_bs-date.result = search rules in
    rw (c.in-68.is, c.if-form-eq111-2.true, e, c.ad_to_bs-date.ensures, c.small-then-form-eq111-2-2.ensures, c.small-then-form-eq111-2.ensures, c.small.ensures)

pub returns-then-form-eq11 : goal.returns-then-form-eq11
unfolding conversions_reply among
returns-then-form-eq11 c = let e : c.said-then-form-eq11.result ≡ said R.Number c.bs_month_len-days.result = search rules in
    rw (c.in-49486.is, c.if-form-eq11.true, e, c.bs_month_len-days.ensures, c.small-then-form-eq11-2.ensures, c.small-then-form-eq11.ensures)

pub returns-then-form-eq111-3 : goal.returns-then-form-eq111-3
unfolding conversions_reply among
returns-then-form-eq111-3 c = let e : c.said-then-form-eq111-3.result ≡ said (λ good. R.Good) c.validate_bs_date.result = search rules in
    rw (c.in-369410628.is, c.if-form-eq111-3.true, e, c.validate_bs_date.ensures, c.bs_date-then-form-eq111-3.ensures)

pub returns-else-form-eq0 : goal.returns-else-form-eq0
unfolding conversions_reply among
returns-else-form-eq0 c = rw (c.in-52449483.is, ne_eqb _ _ c.if-form-eq0.false)

pub returns-else-form-eq111 : goal.returns-else-form-eq111
unfolding conversions_reply among
returns-else-form-eq111 c = rw (c.in-147.is, ne_eqb _ _ c.if-form-eq111.false)

pub returns-else-form-eq111-2 : goal.returns-else-form-eq111-2
unfolding conversions_reply among
returns-else-form-eq111-2 c = rw (c.in-68.is, ne_eqb _ _ c.if-form-eq111-2.false)

pub returns-else-form-eq11 : goal.returns-else-form-eq11
unfolding conversions_reply among
returns-else-form-eq11 c = rw (c.in-49486.is, ne_eqb _ _ c.if-form-eq11.false)

pub returns-else-form-eq111-3 : goal.returns-else-form-eq111-3
unfolding conversions_reply among
returns-else-form-eq111-3 c = rw (c.in-369410628.is, ne_eqb _ _ c.if-form-eq111-3.false)

pub returns-in_default : goal.returns-in_default
unfolding conversions_reply
returns-in_default c = other c.args.w.tag (conversions_rows (flat c.args.table c.args.rows.now) c.args.w) c.in_default.in_default-own.rest
