-- `patro::years::draw_next` meets its contract. Assumes nothing.
use Rattle.text.proofs.Writes.{wrote_none}
use Rattle.kept.specs.Held.{held}
use Rattle.patro.proofs.Months.{gap_none, gap_feed, draws_spaced}
use Rattle.patro.proofs.years.draw_next.Goals as goal

pub returns-then-month-eq1 : goal.returns-then-month-eq1
returns-then-month-eq1 c =
    let a = c.args in
    let σ = held a.state in
    let d = c.draw_kept.ensures in
    record {
      laid = draws_spaced σ.table σ.rows σ.rules a.names.now a.today a.year a.month (gap_none a.month c.if-month-eq1.true) (wrote_none a.page.now a.at) d.laid;
      ready = d.ready;
      same = d.same;
    }

pub returns : goal.returns
returns c =
    let a = c.args in
    let σ = held a.state in
    let d = c.draw_kept-2.ensures in
    record {
      laid = draws_spaced σ.table σ.rows σ.rules a.names.now a.today a.year a.month (gap_feed a.month c.if-month-eq1.false) c.put-next.ensures d.laid;
      ready = d.ready;
      same = d.same;
    }
