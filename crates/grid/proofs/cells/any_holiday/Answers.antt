-- One pair has the mark exactly if one of the numbers of pairs finds it. Assumes nothing.
use mathlib.Core.Path.{refl, ◌∙◌}
use lib.Dec.{eqb}
use lib.ListN.{get_or}
use Prim.Native.Nat.{◌+◌, ◌*◌}
use Rattle.std.proofs.Common.{rules, tests}
use Rattle.std.proofs.lemmas.Iterator.{YieldsList-from_range}
use Rattle.std.proofs.lemmas.Iterator.Search.{any_from_yields_List}
use Rattle.grid.proofs.Marks.{any_pair}
use Rattle.grid.proofs.cells.any_holiday.Goals as goal

pub returns : goal.returns
returns c =
    let a = c.args in
    any_from_yields_List (λ j. eqb (get_or a.lists.now (j * 2 + 1) 0) 1) _ _ _ c.any.ensures.ran
    (YieldsList-from_range a.at a.end _ refl refl) (λ x b q k. search (rules, tests))
    ∙ any_pair a.lists.now a.at _
