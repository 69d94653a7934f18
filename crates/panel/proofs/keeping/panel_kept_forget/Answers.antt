use mathlib.Core.Path.{refl, ◌∙◌}
use Rattle.kept.specs.State.{State}
use Rattle.kept.specs.Operations.{forgotten}
use Rattle.kept.specs.Held.{Holds}
use Rattle.shelf.proofs.Made.{put_laid}
use Rattle.panel.proofs.Arrays.{refuses, answers, of_made}
use Rattle.panel.proofs.Handing.{both}
use Rattle.panel.proofs.keeping.panel_kept_forget.Goals as goal

pub returns-then-is_short : goal.returns-then-is_short
returns-then-is_short c = refuses c.if-is_short.ensures c.number.ensures

pub returns : goal.returns
returns c =
    answers c.if-is_short.ensures (λ σ m.
    let h = of_made (λ (τ : State). Holds c.forget-after.result (forgotten τ)) m c.kept_of.ensures c.forget-after.ensures in
    both refl (c.put.ensures ∙ put_laid _ (forgotten σ) c.forget-after.result h m.room))
