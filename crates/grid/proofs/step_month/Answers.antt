-- The signed numbers go from call to call by their bits, and are read back as they were. Assumes nothing.
use Prim.Native.Nat.{ℕ}
use mathlib.Core.Path.{◌≡◌, sym, ap, ◌∙◌}
use mathlib.Core.Bool.{Bool, true}
use mathlib.Core.List.{List}
use native.Mathlib.Omega.{arith}
use mir.Syntax.{w32, w64}
use mir.Val.{to_z, of_z}
use mir.ValLaws.{to_z-of_z}
use Rattle.conversion.specs.declared.Table.{Table}
use Rattle.conversion.specs.Flat.{accepted, flat}
use Rattle.conversion.proofs.Accepted.{facts}
use Rattle.grid.specs.Step.{absolute, month_at}
use Rattle.grid.proofs.Stepped.{step_bad, step_good}
use Rattle.grid.proofs.step_month.Goals as goal

-- an accepted table is good
good : (t : Table) (rows : List ℕ) (b : Bool) → b ≡ accepted t rows → b ≡ true → (flat t rows).good ≡ true
good t rows b e h = sym e ∙ h

pub returns-then-not-accepts : goal.returns-then-not-accepts
returns-then-not-accepts c =
    sym (step_bad (flat c.args.table c.args.rows.now) _ _ _ (sym c.accepts.ensures ∙ c.if-not-accepts.true))

pub overflow_cast-years : goal.overflow_cast-years
overflow_cast-years c =
    let f = facts c.args.table c.args.rows.now (good _ _ _ c.accepts.ensures c.if-not-accepts.false) in
    omega (arith, f, c.year_count-years.ensures)

pub month_at-requires : goal.month_at-requires
month_at-requires c =
    let f = facts c.args.table c.args.rows.now (good _ _ _ c.accepts.ensures c.if-not-accepts.false) in
    omega (arith, f, c.year_count-years.ensures)

pub returns : goal.returns
returns c =
    let n = c.absolute_month in
    let x = c.args in
    let k = flat x.table x.rows.now in
    let sum : n.result ≡ absolute x.year x.month (to_z w32 (of_z w32 x.step)) = n.ensures in
    let a : c.month_at.result ≡ month_at k.first c.year_count-years.result (to_z w64 (of_z w64 n.result)) = c.month_at.ensures in
    a
    ∙ ap (λ (m : ℕ). month_at k.first m (to_z w64 (of_z w64 n.result))) c.year_count-years.ensures
    ∙ ap (month_at k.first k.years) (to_z-of_z w64 n.result (record { sfits = n.type_inv }) ∙ sum ∙ ap (absolute x.year x.month) (to_z-of_z w32 x.step c.ranges.step))
    ∙ sym (step_good k x.year x.month x.step (good _ _ _ c.accepts.ensures c.if-not-accepts.false))
