use Rattle.kept.specs.State.{State}
use Rattle.kept.specs.Operations.{take_rules}
use Rattle.panel.proofs.Arrays.{refuses, answers, handed_done}
use Rattle.panel.proofs.keeping.panel_kept_take_rules.Goals as goal

pub returns-then-is_short : goal.returns-then-is_short
returns-then-is_short c = refuses c.if-is_short.ensures c.number.ensures

pub returns : goal.returns
returns c =
    let done = c.give_done.ensures in
    answers c.if-is_short.ensures (λ σ m. handed_done m c.kept_of.ensures _ (λ (τ : State). take_rules τ c.args.rules.now) c.take_rules-done.ensures done.code done.state)
