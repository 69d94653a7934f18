-- `output::floats::put_float` meets its contract. Assumes nothing.
use mathlib.Core.Path.{sym}
use Rattle.text.proofs.Writes.{then}
use Rattle.output.proofs.Numbers.{a_number, no_number, number_text_law, nan_text, defined}
use Rattle.output.proofs.floats.put_float.Goals as goal

pub returns-then-x : goal.returns-then-x
returns-then-x c = rw (sym (number_text_law c.args.x (a_number c.args.x c.if-x.true))) (then c.put-next.ensures c.put_hex.ensures)

pub returns : goal.returns
returns c = rw (sym (nan_text c.args.x (no_number c.args.x c.if-x.false))) c.put.ensures
