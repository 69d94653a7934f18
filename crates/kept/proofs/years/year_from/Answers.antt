-- `kept::years::year_from` meets its contract. Assumes nothing.
use mathlib.Core.Path.{sym, ap, ◌∙◌}
use Rattle.conversion.specs.Flat.{flat}
use Rattle.rules.specs.Rules.{rules_of}
use Rattle.festivals.specs.Kathmandu.{resolved_year}
use Rattle.kept.proofs.Stores.{stored-before, stored-this}
use Rattle.kept.proofs.years.year_from.Goals as goal

pub returns-then-store-year : goal.returns-then-store-year
returns-then-store-year c = λ g.
    let a = c.args in
    let k = flat a.table a.rows.now in
    stored-this k a.rules.now a.store g c.if-store-eq0.false ∙ ap (resolved_year k (rules_of a.rules.now)) c.if-store-year.true

pub returns-then-year_before-year : goal.returns-then-year_before-year
returns-then-year_before-year c = λ g.
    let a = c.args in
    let k = flat a.table a.rows.now in
    stored-before k a.rules.now a.store g c.if-store-eq0.false c.if-store-eq1.false
    ∙ ap (resolved_year k (rules_of a.rules.now)) (sym c.year_before.ensures ∙ c.if-year_before-year.true)

pub returns-then-store-eq0 : goal.returns-then-store-eq0
returns-then-store-eq0 c = λ g. c.resolve_year.ensures

pub returns-then-store-eq1 : goal.returns-then-store-eq1
returns-then-store-eq1 c = λ g. c.resolve_year-then-store-eq1.ensures

pub returns : goal.returns
returns c = λ g. c.resolve_year-2.ensures
