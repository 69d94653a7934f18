use Rattle.kept.specs.State.{State}
use Rattle.kept.specs.Operations.{append_row}
use Rattle.panel.proofs.Arrays.{refuses, answers, handed_done}
use Rattle.panel.proofs.keeping.panel_kept_append_row.Goals as goal

pub returns-then-is_short : goal.returns-then-is_short
returns-then-is_short c = refuses c.if-is_short.ensures c.number.ensures

pub returns : goal.returns
returns c =
    let done = c.give_done.ensures in
    answers c.if-is_short.ensures (λ σ m. handed_done m c.kept_of.ensures _ (λ (τ : State). append_row τ c.args.row.now) c.append_row-done.ensures done.code done.state)
