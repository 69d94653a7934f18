use Rattle.gregorian.specs.Calendar.{weekday_of}
use Rattle.grid.specs.Inner.{list_at, cell_at}
use Rattle.grid.proofs.Pages.{Left}
use Rattle.grid.proofs.page.fill.Given as goal

abbrev pub invariant-loop-d : goal.invariant-loop-d
invariant-loop-d l = Left (cell_at l.rules l.plan) (list_at l.rules l.plan) (weekday_of l.plan.first) l.plan.days l.initial.page l.initial.lists l.page l.lists l.at l.d
