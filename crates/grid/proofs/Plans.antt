-- A month of an accepted table: its first day, its plan, and that the plan shows what the rules themselves say. Assumes nothing.
use Rattle.std.specs.Prelude.{Ok}
use Prim.Native.Nat.{ℕ, ◌+◌, ◌-◌}
use mathlib.Core.Path.{◌≡◌, sym, ap, ◌∙◌}
use mathlib.Core.Bool.{true}
use mathlib.Core.List.{List}
use native.Mathlib.Omega.{arith}
use Rattle.gregorian.specs.declared.Date.{Date}
use Rattle.conversion.specs.declared.Table.{Table}
use Rattle.conversion.specs.Calendar.{Calendar, bs, day_at, month_len, to_day}
use Rattle.conversion.specs.Claims.{YearIn, MonthIn}
use Rattle.conversion.specs.Flat.{accepted, flat}
use Rattle.conversion.proofs.Accepted.{facts}
use Rattle.conversion.proofs.Rows.{row_lens}
use Rattle.conversion.proofs.Days.{len_told, converts}
use Rattle.rules.specs.declared.lists.Years.{Years}
use Rattle.rules.specs.Rules.{rules_of, accepted_rules}
use Rattle.rules.proofs.Accepted.{good_rules}
use Rattle.rules.proofs.Used.{two_years}
use Rattle.festivals.specs.Kathmandu.{years_in}
use Rattle.grid.specs.declared.page.Plan.{Plan}
use Rattle.grid.specs.Kathmandu.{reading_on, list_under, grid_under}
use Rattle.grid.specs.Inner.{Planned, plan_for, list_for, grid_by}
use Rattle.grid.proofs.Asked.{in_range_law, grid_ext}

-- ---- the first day

module _ (t : Table) (rows : List ℕ) (e : accepted t rows ≡ true) (y m d : ℕ) (a : YearIn (flat t rows) y) (b : MonthIn m) (q : d ≡ 1) where
  abbrev c : Calendar
  c = flat t rows

  pub has_first : to_day c y m d ≡ Ok (day_at c (y - t.first_year) (m - 1) 0)
  has_first =
      let i = y - t.first_year in
      let l = row_lens rows i (m - 1) ((facts t rows e).row i (omega arith)) (omega arith) in
      rw q (converts c y m 1 (record { month = record { good = e; year_from = a.0; year_to = a.1; month_from = b.0; month_to = b.1 }; day_from = omega arith; day_to = omega (arith, l) }))

-- ---- the plan

module _ (t : Table) (rows : List ℕ) (e : accepted t rows ≡ true) (y m n : ℕ) (h : Ok n ≡ month_len (flat t rows) y m) where
  pub in_year : YearIn (flat t rows) y × MonthIn m
  in_year = let k = (len_told (flat t rows) y m n h).0 in ((k.year_from, k.year_to), (k.month_from, k.month_to))

  -- so much for its plan, from any two years
  pub planned : (today : Date) (years : Years) → Planned (plan_for (flat t rows) today y m n years)
  planned today years =
      let k = len_told (flat t rows) y m n h in
      let r = in_range_law t rows e y m n k.0 k.1 in
      record { some = r.some; few = r.few; from = omega (arith, r.from); to = omega (arith, r.to) }

  -- and from the two years that its lists come from
  module _ (rules : List ℕ) (ok : accepted_rules rules ≡ true) (today : Date) (years : Years) (ey : years ≡ years_in (flat t rows) (rules_of rules) y m) (p : Plan) (ep : p ≡ plan_for (flat t rows) today y m n years) where
    pub same-grid : grid_under (flat t rows) rules today y m n ≡ grid_by rules p
    same-grid =
        let q = plan_for (flat t rows) today y m n (years_in (flat t rows) (rules_of rules) y m) in
        let w = planned today (years_in (flat t rows) (rules_of rules) y m) in
        sym
        (ap (grid_by rules) (ep ∙ ap (plan_for (flat t rows) today y m n) ey)
        ∙ grid_ext (list_for rules q) (list_under (flat t rows) rules) reading_on today y m q.first n
        (λ d l. two_years _ (flat t rows) (rules_of rules) (bs y m (d + 1)) (q.first + d) (good_rules rules ok).counts.computed_few (omega (arith, w.from))))
