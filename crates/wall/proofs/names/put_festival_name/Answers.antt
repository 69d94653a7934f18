-- `wall::names::put_festival_name` meets its contract. Assumes nothing.
use mathlib.Core.Path.{sym, ◌∙◌}
use Rattle.wall.specs.Names.{name_text}
use Rattle.wall.proofs.names.put_festival_name.Goals as goal

pub returns-then-has_name : goal.returns-then-has_name
unfolding name_text
returns-then-has_name c = let h = sym c.has_name.ensures ∙ c.if-has_name.true in rw h c.put_name.ensures

pub returns : goal.returns
unfolding name_text
returns c = let h = sym c.has_name.ensures ∙ c.if-has_name.false in rw h c.put_number.ensures
