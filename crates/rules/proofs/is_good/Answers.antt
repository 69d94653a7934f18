-- `rules::is_good` meets its contract: its code is the definition, test by test. Assumes nothing.
use Rattle.rules.specs.Rules.{rule_good}
use Rattle.rules.proofs.is_good.Goals as goal

pub returns : goal.returns
unfolding rule_good
returns c =
    rw (c.has_date-4.ensures, c.has_date-3.ensures, c.has_date-2.ensures, c.has_date.ensures)
