-- A byte that goes on with a character leaves the others to come.
use mathlib.Core.Path.{◌∙◌}
use Rattle.text.proofs.Texts.{cut}
use Rattle.utf8.proofs.Turns.{tail_turn}
use Rattle.utf8.proofs.sequences.is_utf8.Goals as goal

pub loop-b-preserved : goal.loop-b-preserved
loop-b-preserved c = let l = c.loop-b in
    tail_turn _ _ l.least l.most _ (cut c.args.s.now l.b-index c.loop-b-test.true) l.left c.if-left-eq0.false c.if-b-least.false c.if-most-b.false ∙ l.invariant
