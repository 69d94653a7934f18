-- `kept::years::drawn_years` meets its contract. Assumes nothing.
use mathlib.Core.Logic.{⊎_elim}
use native.Mathlib.Omega.{arith}
use Rattle.conversion.specs.Flat.{flat}
use Rattle.conversion.proofs.Accepted.{facts}
use Rattle.kept.proofs.Fresh.{drawn_late, drawn_first, drawn_two}
use Rattle.kept.proofs.Stores.{one-fresh, two-fresh}
use Rattle.kept.proofs.years.drawn_years.Goals as goal

pub returns-then-late : goal.returns-then-late
returns-then-late c = λ g.
    let a = c.args in
    let k = flat a.table a.rows.now in
    let f = (facts a.table a.rows.now c.requires.rows_value.0).frame in
    let alone = ⊎_elim (drawn_late k a.year a.month c.requires.year_in) (λ b. drawn_first k a.year a.month c.requires.year_in b.0 (omega (arith, b.1, f.year_from))) c.then-late.either in
    one-fresh k a.rules.now _ _ _ _ alone (c.year_from-this.ensures g) c.one_year.ensures

pub returns : goal.returns
returns c = λ g.
    let a = c.args in
    let k = flat a.table a.rows.now in
    two-fresh k a.rules.now _ _ _ _ _ _ (drawn_two k a.year a.month c.requires.year_in (omega (arith, c.if-late.false)) (omega (arith, c.if-year-table.false)))
    c.year_before.ensures (c.year_from-before.ensures g) (c.year_from-this.ensures g) c.two_years.ensures
