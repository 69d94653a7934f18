use mathlib.Core.Path.{◌≡◌, ap, ◌∙◌}
use Rattle.kept.specs.State.{State, year_numbers}
use Rattle.kept.specs.Held.{stored_says}
use Rattle.panel.specs.Keeping.{kept_years}
use Rattle.panel.proofs.Arrays.{refuses, answers, of_made}
use Rattle.panel.proofs.keeping.panel_kept_stored.Goals as goal

pub returns-then-is_short : goal.returns-then-is_short
returns-then-is_short c = refuses c.if-is_short.ensures c.number.ensures

pub returns : goal.returns
returns c =
    answers c.if-is_short.ensures (λ σ m.
    c.give_stored.ensures ∙ ap kept_years (of_made (λ (τ : State). stored_says c.stored.result ≡ year_numbers τ.stored) m c.kept_of.ensures (λ h. c.stored.ensures)))
