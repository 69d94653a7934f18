-- The fronts of the page and of the lists are what the month's buffers hold. Assumes nothing.
use borrow.Author.Rules.{rules}
use Prim.Native.Nat.{ℕ, ◌*◌, ◌≤◌}
use mathlib.Core.Path.{sym, ap, ◌∙◌}
use native.Mathlib.Omega.{arith}
use lib.ListN.{length, take}
use Rattle.paper.specs.declared.Refusal.TheVariants.{NoRoom}
use Rattle.grid.specs.Month.{cell_numbers, festival_numbers}
use Rattle.grid.specs.Inner.{grid_by}
use Rattle.grid.proofs.Grids.{no_cells, no_festivals, fits, says_refused, says_grid, cell_numbers_length, festival_numbers_length, festivals_are, page_front, lists_front, month_is}
use Rattle.grid.proofs.page.copy_month.Goals as goal

pub returns-then-cells-total : goal.returns-then-cells-total
returns-then-cells-total c =
    let a = c.args in
    let g = grid_by a.rules.now a.plan in
    let h = no_cells g (length a.cells.now) (length a.festivals.now) (omega (arith, c.if-cells-total.true, c.cell_count-total.ensures, cell_numbers_length a.rules.now a.plan)) in
    let r = says_refused _ NoRoom a.cells.now a.festivals.now h in
    record { result_value = r.answer; cells_after = r.first; festivals_after = r.second }

pub returns-then-festivals-count : goal.returns-then-festivals-count
returns-then-festivals-count c =
    let a = c.args in
    let g = grid_by a.rules.now a.plan in
    let n = c.fill-count.ensures.value ∙ ap length (sym (festivals_are a.rules.now a.plan)) in
    let h = no_festivals g (length a.cells.now) (length a.festivals.now) (omega (arith, c.if-festivals-count.true, n, festival_numbers_length a.rules.now a.plan)) in
    let r = says_refused _ NoRoom a.cells.now a.festivals.now h in
    record { result_value = r.answer; cells_after = r.first; festivals_after = r.second }

pub returns : goal.returns
returns c =
    let a = c.args in
    let rules = a.rules.now in
    let p = a.plan in
    let g = grid_by rules p in
    let e = c.cell_count-total.ensures in
    let f = c.fill-count.ensures in
    let n = f.value ∙ ap length (sym (festivals_are rules p)) in
    let room : length (cell_numbers g) ≤ length a.cells.now = omega (arith, c.if-cells-total.false, e, cell_numbers_length rules p) in
    let space : length (festival_numbers g) ≤ length a.festivals.now = omega (arith, c.if-festivals-count.false, n, festival_numbers_length rules p) in
    let h = fits g (length a.cells.now) (length a.festivals.now) room space in
    let page = c.fill-count.new.page in
    let lists = c.fill-count.new.lists in
    let cells-front = ap (λ (k : ℕ). take (k * 12) page) e ∙ page_front rules p a.page.now page c.requires.page_value f.page_after (omega (arith, c.requires.planned)) in
    let festivals-front = lists_front rules p a.lists.now lists c.fill-count.result f.lists_after f.value (omega (arith, f.upper_bound, c.requires.planned.1.festivals)) in
    let r = says_grid _ g a.cells.now a.festivals.now _ _ c.month_of.result h (month_is rules p _ _ _ c.month_of.ensures e n) cells-front festivals-front room space in
    record { result_value = r.answer; cells_after = c.put_at.ensures ∙ r.first; festivals_after = c.put_at-2.ensures ∙ r.second }
