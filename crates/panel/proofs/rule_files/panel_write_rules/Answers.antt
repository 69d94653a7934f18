use Rattle.panel.proofs.Handing.{handed_written}
use Rattle.panel.proofs.rule_files.panel_write_rules.Goals as goal

pub returns : goal.returns
returns c = handed_written _ c.give.ensures c.write_rules.ensures
