-- `festivals::months::lunar_months` meets its contract. Assumes nothing.
use Rattle.std.specs.Prelude.{None}
use borrow.Author.Rules.{rules}
use mathlib.Core.Path.{sym, ap, ◌∙◌}
use mathlib.Core.List.{List}
use lib.Ieee.{Float}
use Rattle.conversion.specs.Flat.{flat}
use Rattle.festivals.specs.Kathmandu.{last_in}
use Rattle.festivals.specs.Months.{months_by}
use Rattle.festivals.proofs.Moons.{moons_front}
use Rattle.festivals.proofs.TableYears.{opens_all}
use Rattle.festivals.proofs.months.lunar_months.Goals as goal

pub returns-in_default : goal.returns-in_default
returns-in_default c =
    let a = c.args in
    c.months_of.ensures ∙ opens_all _ (flat a.table a.rows.now) a.year None (sym c.in_default.is ∙ c.year_days.ensures)

pub months_of-requires-2 : goal.months_of-requires-2
months_of-requires-2 c =
    let f = moons_front _ _ _ _ _ c.new_moons-n.ensures.count c.new_moons-n.ensures.written (search rules) in
    (c.requires, f.0.0, f.0.1)

pub returns : goal.returns
returns c =
    let a = c.args in
    let k = flat a.table a.rows.now in
    let f = moons_front _ _ _ _ _ c.new_moons-n.ensures.count c.new_moons-n.ensures.written (search rules) in
    c.months_of-2.ensures
    ∙ ap (λ (xs : List Float). months_by (λ m. last_in k a.year m xs)) f.1
    ∙ opens_all _ k a.year _ (sym c.in-Some.is ∙ c.year_days.ensures)
