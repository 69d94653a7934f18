-- `kept::start` meets its contract. Assumes nothing.
use mathlib.Core.Path.{refl, sym, ◌∙◌}
use Rattle.paper.proofs.Answers.{refused_answered}
use Rattle.kept.specs.Operations.{blank}
use Rattle.kept.proofs.Records.{made}
use Rattle.kept.proofs.Goods.{good_blank}
use Rattle.kept.proofs.Outcomes.{started, not_started, blank_record}
use Rattle.kept.proofs.start.Goals as goal

pub returns-else-can_start : goal.returns-else-can_start
returns-else-can_start c =
    let t = c.args.table in
    record {
      answer = not_started t (sym c.can_start.ensures ∙ c.if-can_start.false);
      is = blank_record t _ c.no_years.ensures;
      ready = λ e. absurd (refused_answered refl e);
    }

pub returns-then-can_start : goal.returns-then-can_start
returns-then-can_start c =
    let t = c.args.table in
    let g = sym c.can_start.ensures ∙ c.if-can_start.true in
    let r = blank_record t _ c.no_years.ensures in
    record { answer = started t g; is = r; ready = λ e. made _ (blank t) (good_blank t g) r }
