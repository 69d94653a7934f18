-- A line more, or the fault that ends the reading.
use Rattle.std.proofs.Common.{◌≡◌, true, false, refl, ◌∙◌, arith}
use Rattle.files.specs.File.{well}
use Rattle.files.proofs.Made.{stood_first, stood_turn, stood_fault}
use Rattle.files.proofs.reading.read_lines.Goals as goal

pub loop-input-init : goal.loop-input-init
loop-input-init g c = (refl, stood_first 50000 (omega arith) c.start-input.ensures.0, c.requires)

pub returns-then-is_some : goal.returns-then-is_some
returns-then-is_some g c =
    let l = c.loop-input in
    let bad : well c.with_input-q.result.fault ≡ false = rw (← c.is_some.ensures, c.if-is_some.true) in
    stood_fault l.invariant.1 l.invariant.2 l.invariant.0 c.next_line-input.ensures c.with_input-q.ensures bad

pub loop-input-preserved : goal.loop-input-preserved
loop-input-preserved g c =
    let l = c.loop-input in
    let ok : well c.with_input-q.result.fault ≡ true = rw (← c.is_some.ensures, c.if-is_some.false) in
    (c.next_line-input.auto.line ∙ l.invariant.0, stood_turn l.invariant.1 l.invariant.2 l.invariant.0 c.next_line-input.ensures c.with_input-q.ensures ok, ok)
