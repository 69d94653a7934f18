-- DEMAND 3 for the holiday, over two good calendars of which the longer begins as the shorter does: what the shorter answers the longer answers, and the
-- shorter refuses what the longer answers exactly if its year is added. Assumes nothing.
use Rattle.std.specs.Prelude.{Ok}
use Prim.Native.Nat.{ℕ}
use mathlib.Core.Path.{◌≡◌, sym, ap, ◌∙◌}
use mathlib.Core.Bool.{Bool, true}
use mathlib.Core.List.{List, ◌++◌}
use native.Mathlib.Omega.{arith}
use Rattle.paper.specs.declared.Refusal.TheVariants.{NoYear}
use Rattle.paper.specs.Answers.{Answer}
use Rattle.conversion.specs.declared.Table.{Table}
use Rattle.conversion.specs.Calendar.{Calendar, bs, to_day}
use Rattle.conversion.specs.Claims.{Added, RefusedIf}
use Rattle.conversion.specs.Flat.{accepted, flat}
use Rattle.conversion.proofs.Accepted.{facts}
use Rattle.conversion.proofs.Rows.{row_lens}
use Rattle.conversion.proofs.Days.{from_to}
use Rattle.conversion.proofs.Longer.{Extends, extends, day_longer, day_added}
use Rattle.rules.specs.declared.Rule.{Rule}
use Rattle.rules.specs.Rules.{rules_of, accepted_rules}
use Rattle.rules.specs.Sky.{Sky}
use Rattle.rules.specs.Festivals.{Pair, day_list}
use Rattle.rules.proofs.Following.{then_told, then_longer, then_added}
use Rattle.rules.proofs.Longer.{Filled, list_same}
use Rattle.festivals.specs.Kathmandu.{kathmandu}
use Rattle.grid.specs.Cells.{holiday_of}
use Rattle.holiday.specs.Holiday.{holiday_by, holiday_on}
use Rattle.holiday.proofs.Asked.{rules_good, by_day}

module _ {I : Type 0} (s : Sky I) (rs : List Rule) (ok : Bool) (c e : Calendar) (x : Extends c e) (w : Filled c) (y m d : ℕ) (v : Bool) where
  abbrev on : Calendar → ℕ → Answer Bool
  on z n = Ok (holiday_of n (day_list s z rs (bs y m d) n))

  -- a day of the shorter has the same list
  same : (n : ℕ) → to_day c y m d ≡ Ok n → on c n ≡ on e n
  same n q = ap (λ (l : List Pair). Ok (holiday_of n l)) (list_same s c e x w rs n (bs y m d) (from_to c y m d n q))

  longer_by : holiday_by s c rs ok y m d ≡ Ok v → holiday_by s e rs ok y m d ≡ Ok v
  longer_by h =
      let o = rules_good s c rs ok y m d h in
      by_day s e rs ok y m d x.good_too o
      ∙ then_longer (to_day c y m d) (to_day e y m d) (on c) (on e) (day_longer c e x y m d) same v (sym (by_day s c rs ok y m d x.good o) ∙ h)

  added_by : holiday_by s e rs ok y m d ≡ Ok v → RefusedIf (holiday_by s c rs ok y m d) NoYear (Added c y)
  added_by h =
      let o = rules_good s e rs ok y m d h in
      let q = sym (by_day s e rs ok y m d x.good_too o) ∙ h in
      let t = then_told (to_day e y m d) (on e) q in
      rw (by_day s c rs ok y m d x.good o)
      (then_added (to_day c y m d) (to_day e y m d) (on c) (on e) (day_longer c e x y m d) same NoYear (Added c y) t.0 v t.1.0 (day_added c e x y m d t.0 t.1.0) q)

-- the rows of one accepted table are the first rows of another, with the same rules
module _ (t : Table) (rows more rules : List ℕ) (a : accepted t rows ≡ true) (b : accepted t (rows ++ more) ≡ true) (y m d : ℕ) (v : Bool) where
  filled : Filled (flat t rows)
  filled i n h k = omega (arith, row_lens rows i n ((facts t rows a).row i h) k)

  pub holiday_longer : holiday_on t rows rules y m d ≡ Ok v → holiday_on t (rows ++ more) rules y m d ≡ Ok v
  holiday_longer = longer_by kathmandu (rules_of rules) (accepted_rules rules) _ _ (extends t rows more a b) filled y m d v

  pub holiday_added : holiday_on t (rows ++ more) rules y m d ≡ Ok v → RefusedIf (holiday_on t rows rules y m d) NoYear (Added (flat t rows) y)
  holiday_added = added_by kathmandu (rules_of rules) (accepted_rules rules) _ _ (extends t rows more a b) filled y m d v
