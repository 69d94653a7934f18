-- `files::reading::with_input` meets its contract: one line came, or none. Assumes nothing.
use Rattle.std.proofs.Common.{sym, refl, ◌∙◌, length-take-le}
use Rattle.files.specs.File.{made}
use Rattle.files.proofs.Made.{instead, input_broken, input_over, input_line}
use Rattle.files.proofs.reading.with_input.Goals as goal

pub returns-then-input : goal.returns-then-input
returns-then-input c = let a = c.args in
    instead c.faulted.ensures refl (input_broken (made a.r a.rows.now) a.input a.line.now c.if-input.true)

pub returns-then-input-eq0 : goal.returns-then-input-eq0
returns-then-input-eq0 c = let a = c.args in input_over (made a.r a.rows.now) a.input a.line.now c.if-input.false c.if-input-eq0.true

pub slice_bounds-with_next-end : goal.slice_bounds-with_next-end
slice_bounds-with_next-end c = let a = c.args in sym (length-take-le a.input.len a.line.now c.requires)

pub returns : goal.returns
returns c = let a = c.args in
    c.with_next.ensures
    ∙ input_line (made a.r a.rows.now) a.input a.line.now c.if-input.false c.if-input-eq0.false
