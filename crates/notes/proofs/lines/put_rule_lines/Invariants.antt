use mathlib.Core.Path.{◌≡◌}
use lib.ListN.{length}
use Rattle.rules.specs.Rules.{rules_from}
use Rattle.output.specs.Gathered.{gathered}
use Rattle.output.specs.Pieces.{put_pieces}
use Rattle.notes.specs.Lines.{list_pieces}
use Rattle.notes.proofs.Lists.{Rest}
use Rattle.notes.proofs.lines.put_rule_lines.Given as goal

abbrev pub invariant-loop-i : goal.invariant-loop-i
invariant-loop-i l = (length l.out ≡ length l.initial.out) × Rest l.names l.month l.rules l.n (put_pieces (gathered l.initial.out l.initial.l.out) (list_pieces l.names l.month l.initial.l.some (rules_from l.rules 0 l.n))) l.i l.out l.l
