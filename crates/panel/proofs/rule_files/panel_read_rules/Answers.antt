use Rattle.panel.proofs.Handing.{handed_read}
use Rattle.panel.proofs.rule_files.panel_read_rules.Goals as goal

pub returns : goal.returns
returns c = handed_read _ c.give_rules.ensures c.read_rules.ensures
