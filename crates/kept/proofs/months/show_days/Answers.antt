-- `kept::months::show_days` meets its contract. Assumes nothing.
use Rattle.std.specs.Prelude.{Ok}
use Prim.Native.Nat.{ℕ}
use mathlib.Core.Path.{◌≡◌, refl, sym, ap, subst⁻¹, ◌∙◌}
use mathlib.Core.Bool.{true}
use mathlib.Core.List.{List}
use lib.ListN.{length}
use Rattle.paper.specs.Answers.{then}
use Rattle.paper.proofs.Answers.{shown, passed_on}
use Rattle.gregorian.specs.declared.Date.{Date}
use Rattle.conversion.specs.declared.Table.{Table}
use Rattle.conversion.specs.Calendar.{month_len}
use Rattle.conversion.specs.Flat.{accepted, flat}
use Rattle.rules.specs.Rules.{accepted_rules}
use Rattle.rules.proofs.Questions.{then_by}
use Rattle.grid.specs.declared.page.Plan.{Plan}
use Rattle.grid.specs.Month.{Grid, fitted}
use Rattle.grid.specs.Kathmandu.{grid_under}
use Rattle.grid.specs.Inner.{Planned, plan_for, grid_by}
use Rattle.grid.proofs.Grids.{says_by}
use Rattle.grid.proofs.Plans.{in_year, planned, same-grid}
use Rattle.kept.specs.declared.Store.{Store}
use Rattle.kept.specs.State.{drawn}
use Rattle.kept.specs.Inner.{store_for}
use Rattle.kept.proofs.Stores.{drawn-years}
use Rattle.kept.proofs.Replies.{month_refused, month_answered}
use Rattle.kept.proofs.months.show_days.Goals as goal

pub drawn_years-years-requires : goal.drawn_years-years-requires
drawn_years-years-requires c =
    record {
      rows_value = c.requires.rows_value;
      year_in = (in_year c.args.table c.args.rows.now c.requires.rows_value.0 _ _ _ c.requires.days_value).0;
    }

pub write_month-requires : goal.write_month-requires
write_month-requires c =
    record {
      rules_value = c.requires.rows_value.1;
      planned = subst⁻¹ (λ (q : Plan). Planned q) c.plan_of-plan.ensures (planned c.args.table c.args.rows.now c.requires.rows_value.0 _ _ _ c.requires.days_value _ _);
    }

-- the month by its plan p, which is made with the years drawn, whose store is s
its-grid : (t : Table) (rows rules : List ℕ) (today : Date) (y m n cells festivals : ℕ) → (accepted t rows ≡ true) × (accepted_rules rules ≡ true) → Ok n ≡ month_len (flat t rows) y m
    → (s : Store) → s ≡ store_for (flat t rows) rules (drawn (flat t rows) y m) → (p : Plan) → p ≡ plan_for (flat t rows) today y m n s.years
    → then (month_len (flat t rows) y m) (λ n. fitted (grid_under (flat t rows) rules today y m n) cells festivals) ≡ fitted (grid_by rules p) cells festivals
its-grid t rows rules today y m n cells festivals g d s e p q =
    let i = in_year t rows g.0 y m n d in
    let l = ap (λ (s : Store). s.years) e ∙ drawn-years (flat t rows) rules y m i.0 in
    then_by _ _ _ (sym d) ∙ ap (λ (z : Grid). fitted z cells festivals) (same-grid t rows g.0 y m n d rules g.1 today _ l p q)

pub returns-in_err-shown : goal.returns-in_err-shown
returns-in_err-shown c = λ g.
    let a = c.args in
    let e = its-grid a.table a.rows.now a.rules.now a.today a.year a.month a.days (length a.cells.now) (length a.festivals.now) c.requires.rows_value c.requires.days_value _ (c.drawn_years-years.ensures g) _ c.plan_of-plan.ensures in
    let w = c.write_month.ensures in
    let s = says_by e (record { answer = w.result_value; first = w.cells_after; second = w.festivals_after }) in
    month_refused _ _ _ _ _ _ _ (shown c.in_err-shown.was s.answer) s.first s.second (passed_on _ c.from_residual.ensures.1 refl)

pub returns : goal.returns
returns c = λ g.
    let a = c.args in
    let e = its-grid a.table a.rows.now a.rules.now a.today a.year a.month a.days (length a.cells.now) (length a.festivals.now) c.requires.rows_value c.requires.days_value _ (c.drawn_years-years.ensures g) _ c.plan_of-plan.ensures in
    let w = c.write_month.ensures in
    let s = says_by e (record { answer = w.result_value; first = w.cells_after; second = w.festivals_after }) in
    month_answered _ _ _ _ _ _ _ _ (shown c.in_ok-shown.was s.answer) s.first s.second (c.drawn_years-years.ensures g)
