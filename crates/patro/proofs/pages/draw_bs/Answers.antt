-- `patro::pages::draw_bs` meets its contract. Assumes nothing.
use mathlib.Core.Path.{refl}
use Rattle.paper.proofs.Answers.{passed_on}
use Rattle.patro.proofs.Drawing.{draws_refused}
use Rattle.patro.proofs.Parts.{few_cells, bs_page, bs_refused}
use borrow.Author.Rules.{rules}
use Rattle.patro.proofs.pages.draw_bs.Goals as goal

pub draw_part-requires : goal.draw_part-requires
draw_part-requires c =
    let a = c.args in
    let g = c.month_grid.ensures in
    (few_cells a.table a.rows.now a.rules.now a.today a.year a.month g.result_value c.in_ok-m.was, search rules)

pub returns : goal.returns
returns c =
    let a = c.args in
    let g = c.month_grid.ensures in
    let e = bs_page a.table a.rows.now a.rules.now a.today a.year a.month g.result_value a.names.now a.part c.in_ok-m.was in
    rw (e, ← g.cells_after, ← g.festivals_after) c.draw_part.ensures

pub returns-in_err-m : goal.returns-in_err-m
returns-in_err-m c =
    let a = c.args in
    let g = c.month_grid.ensures in
    rw (passed_on _ c.from_residual.ensures.1 refl) (draws_refused (bs_refused a.table a.rows.now a.rules.now a.today a.year a.month g.result_value a.names.now a.part c.in_err-m.was))
