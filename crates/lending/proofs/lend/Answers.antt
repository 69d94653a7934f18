-- What each line that lends leaves of what is lent. Assumes nothing.
use mathlib.Core.Path.{sym, ap, ◌∙◌}
use native.Mathlib.Omega.{arith}
use Rattle.std.specs.Prelude.{Some}
use Rattle.lending.proofs.Loans.{wrote_longer, how_many, few}
use Rattle.lending.proofs.lend.Goals as goal

pub append-requires : goal.append-requires
append-requires c = let a = c.args in
    let e = sym c.lending_of.ensures ∙ c.in-Some.is ∙ ap Some c.in-Cells.is in
    omega (arith, (few a.w.tag a.w.form a.x.count).most, ap how_many e)

pub append-requires-in-Numbers : goal.append-requires-in-Numbers
append-requires-in-Numbers c = let a = c.args in
    let e = sym c.lending_of.ensures ∙ c.in-Some.is ∙ ap Some c.in-Numbers.is in
    omega (arith, (few a.w.tag a.w.form a.x.count).most, ap how_many e)

pub returns-in-Table : goal.returns-in-Table
returns-in-Table c = rw (sym c.lending_of.ensures ∙ c.in-Some.is ∙ ap Some c.in-Table.is, c.table_in.ensures)

pub returns-in-Rules : goal.returns-in-Rules
returns-in-Rules c = rw (sym c.lending_of.ensures ∙ c.in-Some.is ∙ ap Some c.in-Rules.is)

pub returns-in-Text : goal.returns-in-Text
returns-in-Text c = rw (sym c.lending_of.ensures ∙ c.in-Some.is ∙ ap Some c.in-Text.is)

pub returns-in-Cells : goal.returns-in-Cells
returns-in-Cells c = let w = c.append.ensures in
    let n = c.in-Cells in
    rw (sym c.lending_of.ensures ∙ c.in-Some.is ∙ ap Some n.is, wrote_longer c.args.w n.n w, w.stored)

pub returns-in-Numbers : goal.returns-in-Numbers
returns-in-Numbers c = let w = c.append-in-Numbers.ensures in
    let n = c.in-Numbers in
    rw (sym c.lending_of.ensures ∙ c.in-Some.is ∙ ap Some n.is, wrote_longer c.args.w n.n w, w.stored)

pub returns-in-Octets : goal.returns-in-Octets
returns-in-Octets c = let w = c.put.ensures in
    rw (sym c.lending_of.ensures ∙ c.in-Some.is ∙ ap Some c.in-Octets.is, w.end, w.stored)

pub returns-in_default : goal.returns-in_default
returns-in_default c = rw (sym c.lending_of.ensures ∙ c.in_default.is)
