-- `doubtful::years::put_years` meets its contract. Assumes nothing.
use mathlib.Core.Path.{refl, ◌∙◌}
use Rattle.doubtful.proofs.Sheets.{years_none, years_turn, years_last}
use borrow.Author.Rules.{rules}
use Rattle.doubtful.proofs.years.put_years.Goals as goal

pub loop-year-init : goal.loop-year-init
loop-year-init c = (refl, refl)

pub loop-year-preserved : goal.loop-year-preserved
loop-year-preserved c = (search rules, years_turn _ _ _ c.loop-year.year c.args.last (search rules) _ _ _ c.put_year-q.ensures c.loop-year.invariant.1)

pub returns : goal.returns
returns c = years_none _ _ _ c.loop-year.year c.args.last _ (search rules) ∙ c.loop-year.invariant.1

pub returns-2 : goal.returns-2
returns-2 c = years_last _ _ _ c.loop-year.year c.args.last (search rules) (search rules) _ _ _ c.put_year-q.ensures c.loop-year.invariant.1
