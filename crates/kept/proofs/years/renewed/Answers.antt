-- `kept::years::renewed` meets its contract. Assumes nothing.
use mathlib.Core.Path.{ap}
use Rattle.conversion.specs.Flat.{flat}
use Rattle.kept.specs.State.{year_numbers}
use Rattle.kept.proofs.Stores.{years_none, years_one, years_two, none-fresh, one-fresh, two-fresh}
use Rattle.kept.proofs.years.renewed.Goals as goal

pub returns-then-store-eq0 : goal.returns-then-store-eq0
returns-then-store-eq0 c =
    let a = c.args in
    none-fresh (flat a.table a.rows.now) a.rules.now _ _ (ap year_numbers (years_none a.store c.if-store-eq0.true)) c.no_years.ensures

pub returns-then-store-eq1 : goal.returns-then-store-eq1
returns-then-store-eq1 c =
    let a = c.args in
    one-fresh (flat a.table a.rows.now) a.rules.now _ _ _ _ (ap year_numbers (years_one a.store c.if-store-eq1.true)) c.resolve_year-this.ensures c.one_year.ensures

pub returns : goal.returns
returns c =
    let a = c.args in
    two-fresh (flat a.table a.rows.now) a.rules.now _ _ _ _ _ _ (ap year_numbers (years_two a.store c.if-store-eq0.false c.if-store-eq1.false))
    c.year_before.ensures c.resolve_year-before.ensures c.resolve_year-this.ensures c.two_years.ensures
