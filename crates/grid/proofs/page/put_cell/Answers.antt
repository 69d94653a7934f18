-- The list that was stored shows how many festivals there are and whether one is a holiday. Assumes nothing.
use Prim.Native.Nat.{ℕ, ◌+◌, ◌*◌}
use mathlib.Core.Path.{ap, ◌∙◌}
use mathlib.Core.Bool.{Bool, ◌||◌}
use native.Mathlib.Omega.{arith}
use lib.ListN.{length}
use lib.Seq.{sets}
use Rattle.rules.specs.declared.lists.Day.{Day}
use Rattle.rules.specs.Festivals.{numbers}
use Rattle.grid.specs.Cells.{saturday, day_cell}
use Rattle.grid.specs.Kathmandu.{reading_on}
use Rattle.grid.specs.Inner.{list_for}
use Rattle.grid.proofs.Marks.{shown, cell_of_law, cell_length, sets_same}
use Rattle.grid.proofs.page.put_cell.Goals as goal

pub put_at-requires : goal.put_at-requires
put_at-requires c =
    omega (arith, ap length c.day_cell-cell.ensures ∙ cell_length _ _ _ _ _, c.lead_of.ensures, c.requires.planned, c.requires.roomy)

pub returns : goal.returns
returns c =
    let a = c.args in
    let list = list_for a.rules.now a.plan in
    let q = c.day_on-day.result in
    let e = c.day_on-day.ensures in
    let p = c.put_day_list-end in
    let t = shown (list q) a.lists.now p.new.buf a.at p.result p.ensures.buf_after p.ensures.value (omega (arith, p.ensures.upper_bound, c.requires.planned, c.requires.roomy)) in
    let k = cell_of_law a.plan.today q (list q) (reading_on q) c.reading_on-reading.result _ _ t.0 (c.is_holiday-holiday.ensures ∙ ap (λ (b : Bool). saturday q.number || b) t.1) c.reading_on-reading.ensures in
    record {
      page_after =
          c.put_at.ensures
          ∙ sets_same a.page.now _ _ _ _ (ap (λ (z : ℕ). (z + a.d) * 12) c.lead_of.ensures)
          (c.day_cell-cell.ensures ∙ k ∙ ap (λ (x : Day). day_cell a.plan.today x (list x) (reading_on x)) e);
      lists_after = p.ensures.buf_after ∙ ap (λ (x : Day). sets a.lists.now (a.at * 2) (numbers (list x))) e;
      value = p.ensures.value ∙ ap (λ (x : Day). a.at + length (list x)) e;
      upper_bound = p.ensures.upper_bound;
    }
