-- `doubtful::years::put_unopened_months` meets its contract. Assumes nothing.
use Prim.Native.Nat.{◌-◌}
use mathlib.Core.Path.{refl, sym, ◌∙◌}
use Rattle.doubtful.specs.Inner.{has_place}
use Rattle.doubtful.proofs.Sheets.{months_turn, months_none}
use borrow.Author.Rules.{rules}
use Rattle.doubtful.proofs.years.put_unopened_months.Goals as goal

pub loop-j-init : goal.loop-j-init
loop-j-init c = (refl, refl)

pub loop-j-preserved : goal.loop-j-preserved
loop-j-preserved c = (search rules, months_turn _ _ _ (has_place c.args.m) c.loop-j.j (search rules) _ _ _ (rw c.is_some-opened.ensures at c.put_unopened_month-q.ensures) c.loop-j.invariant.1)

pub returns : goal.returns
returns c = sym (months_none _ _ _ (has_place c.args.m) c.loop-j.j _ (search rules)) ∙ c.loop-j.invariant.1
