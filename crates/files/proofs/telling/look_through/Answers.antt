-- The line that was looked at is one line more.
use Rattle.std.proofs.Common.{◌≡◌, false, ◌∙◌}
use Rattle.std.specs.Prelude.{is_some}
use Rattle.files.proofs.Told.{looks_line}
use Rattle.files.proofs.telling.look_through.Goals as goal

pub returns-then-is_some : goal.returns-then-is_some
returns-then-is_some g c = looks_line c.loop-input.invariant.1 c.loop-input.invariant.2 _ c.look_at-p.ensures

pub loop-input-preserved : goal.loop-input-preserved
loop-input-preserved g c =
    let more : is_some c.look_at-p.result.found ≡ false = rw (← c.is_some.ensures) c.if-is_some.false in
    (c.next_line-input.auto.line ∙ c.loop-input.invariant.0, looks_line c.loop-input.invariant.1 c.loop-input.invariant.2 _ c.look_at-p.ensures, more)
