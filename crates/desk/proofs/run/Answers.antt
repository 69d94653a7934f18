-- All turns: what stands at first, and one turn more. Assumes nothing.
use Rattle.std.proofs.Common.{refl, ◌∙◌}
use Rattle.asked.proofs.Runs.{runs_first, runs_turn, runs_all}
use Rattle.lending.specs.Lending.{loan_of}
use Rattle.desk.specs.Keeping.{state_in}
use Rattle.desk.specs.Runs.{opened, answering}
use Rattle.desk.proofs.run.Goals as goal

pub loop-t-init : goal.loop-t-init
loop-t-init g c =
    let a = c.args in
    let x = loan_of a.first a.rows.now a.rules.now a.text.now in
    (c.first_turn-t.auto.line, tt, runs_first answering (opened x) 18446744073709551615 refl c.first_turn-t.ensures)

pub loop-t-preserved : goal.loop-t-preserved
loop-t-preserved g c =
    let l = c.loop-t in
    let d = c.step-s.ensures l.invariant.1 in
    (c.step-s.auto.line ∙ l.invariant.0, d.sound, runs_turn l.invariant.2 c.loop-t-test.true l.invariant.0 d.done)

pub returns : goal.returns
returns g c =
    let l = c.loop-t in
    record { lent = l.lent; state = state_in l.kept; run = runs_all l.invariant.2 refl }
