use Prim.Native.Nat.{ℕ}
use Rattle.paper.specs.Answers.{Answer}
use Rattle.kept.specs.State.{State}
use Rattle.kept.specs.Operations.{ask_bs}
use Rattle.panel.specs.Boundary.{gives}
use Rattle.panel.proofs.Arrays.{refuses, answers, handed_list}
use Rattle.panel.proofs.kept_lists.panel_kept_festivals_on.Goals as goal

pub returns-then-is_short : goal.returns-then-is_short
returns-then-is_short c = refuses c.if-is_short.ensures c.number.ensures

pub returns : goal.returns
returns c =
    let a = c.args in
    answers c.if-is_short.ensures (λ σ m.
    handed_list m c.kept_of.ensures (λ (x : Answer ℕ). gives x (λ n. n) a.count.now) _ (λ (τ : State). ask_bs τ a.year a.month a.day a.festivals.now) c.ask_bs-asked.ensures c.give.ensures c.keep.ensures)
