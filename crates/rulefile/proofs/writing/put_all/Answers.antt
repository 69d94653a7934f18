-- `rulefile::writing::put_all` meets its contract: what is written and what is left are the file. Assumes nothing.
use Rattle.text.proofs.Texts.{cut}
use Rattle.keyed.proofs.Walks.{laid-turn}
use Rattle.rulefile.specs.Files.{rule_form}
use Rattle.rulefile.proofs.writing.put_all.Goals as goal

pub loop-i-preserved : goal.loop-i-preserved
loop-i-preserved c =
    let l = c.loop-i in
    laid-turn rule_form 0 l.invariant (cut c.args.rules.now l.i c.loop-i-test.true) (rw c.key.ensures at c.put_line-at.ensures)
