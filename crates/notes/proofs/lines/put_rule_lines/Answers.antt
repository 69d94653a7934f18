-- `notes::lines::put_rule_lines` meets its contract. Assumes nothing.
use Prim.Native.Nat.{◌-◌}
use mathlib.Core.Path.{refl}
use native.Mathlib.Omega.{arith}
use Rattle.notes.proofs.Lists.{rest_all, rest_turn, rest_none}
use borrow.Author.Rules.{rules}
use Rattle.notes.proofs.lines.put_rule_lines.Goals as goal

pub loop-i-init : goal.loop-i-init
loop-i-init c = (refl, rest_all _ _)

pub loop-i-preserved : goal.loop-i-preserved
loop-i-preserved c = (search rules, rest_turn c.loop-i.invariant.1 (omega arith) c.put_if_of_month-l.ensures.puts c.put_if_of_month-l.ensures.some_value)

pub returns : goal.returns
returns c = record { same = rest_none c.loop-i.invariant.1 (omega arith) c.put_rules_end.ensures }
