-- `patro::pages::draw_kept` meets its contract: the state answers what its table and rules give. Assumes nothing.
use Rattle.kept.specs.Held.{held}
use Rattle.patro.specs.declared.pages.Part.TheVariants.{Whole}
use Rattle.patro.proofs.Drawing.{draws_refused}
use Rattle.patro.proofs.Parts.{few_cells, bs_page, bs_refused}
use Rattle.patro.proofs.Months.{asked-answer, asked-cells, asked-festivals, asked-same}
use borrow.Author.Rules.{rules}
use Rattle.patro.proofs.pages.draw_kept.Goals as goal

pub draw_part-requires : goal.draw_part-requires
draw_part-requires c =
    let a = c.args in
    let σ = held a.state in
    let p = asked-answer σ a.today a.year a.month c.requires.1 (c.ask_month-asked.ensures c.requires.0) in
    (few_cells σ.table σ.rows σ.rules a.today a.year a.month p c.in-Ok.is, search rules)

pub returns-in-Ok : goal.returns-in-Ok
returns-in-Ok c =
    let a = c.args in
    let σ = held a.state in
    let g = c.ask_month-asked.ensures c.requires.0 in
    let p = asked-answer σ a.today a.year a.month c.requires.1 g in
    let page = bs_page σ.table σ.rows σ.rules a.today a.year a.month p a.names.now Whole c.in-Ok.is in
    let cells = asked-cells σ a.today a.year a.month c.requires.1 g in
    let festivals = asked-festivals σ a.today a.year a.month c.requires.1 g in
    record {
      laid = rw (page, ← cells, ← festivals) c.draw_part.ensures;
      ready = g.holds.ready;
      same = asked-same σ a.today a.year a.month c.requires.1 g;
    }

pub returns-in-Err : goal.returns-in-Err
returns-in-Err c =
    let a = c.args in
    let σ = held a.state in
    let g = c.ask_month-asked.ensures c.requires.0 in
    let p = asked-answer σ a.today a.year a.month c.requires.1 g in
    record {
      laid = draws_refused (bs_refused σ.table σ.rows σ.rules a.today a.year a.month p a.names.now Whole c.in-Err.is);
      ready = g.holds.ready;
      same = asked-same σ a.today a.year a.month c.requires.1 g;
    }
