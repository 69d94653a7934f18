-- A line more at each turn, until the input is over.
use Rattle.std.proofs.Common.{refl, ◌∙◌, arith}
use Rattle.asked.proofs.Runs.{runs_first, runs_turn, runs_all}
use Rattle.convert.specs.Replies.{converting}
use Rattle.convert.proofs.run.Goals as goal

pub loop-t-init : goal.loop-t-init
loop-t-init g c =
    let t = c.first_turn-t in
    (t.auto.line, omega (arith, t.ensures.inside, t.auto.line), runs_first converting tt 18446744073709551615 refl t.ensures)

pub loop-t-preserved : goal.loop-t-preserved
loop-t-preserved g c =
    let l = c.loop-t in
    let t = c.turn-t in
    (t.auto.line ∙ l.invariant.0, omega (arith, t.ensures.turn.inside, t.auto.line), runs_turn l.invariant.2 c.loop-t-test.true l.invariant.0 t.ensures)

pub returns : goal.returns
returns g c = runs_all c.loop-t.invariant.2 refl
