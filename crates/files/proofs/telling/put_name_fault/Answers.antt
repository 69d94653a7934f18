-- `files::telling::put_name_fault` meets its contract. Assumes nothing.
use Rattle.text.proofs.Writes.{then}
use Rattle.files.specs.Texts.{name_fault_text}
use Rattle.files.proofs.telling.put_name_fault.Goals as goal

pub returns-in-Mark : goal.returns-in-Mark
unfolding name_fault_text
returns-in-Mark c = rw c.in-Mark.is c.put.ensures

pub returns-in-Form : goal.returns-in-Form
unfolding name_fault_text
returns-in-Form c = rw c.in-Form.is c.put-in-Form.ensures

pub returns-in-NotGreater : goal.returns-in-NotGreater
unfolding name_fault_text
returns-in-NotGreater c = rw c.in-NotGreater.is c.put-in-NotGreater.ensures

pub returns-in-NoText : goal.returns-in-NoText
unfolding name_fault_text
returns-in-NoText c = rw c.in-NoText.is c.put-in-NoText.ensures

pub returns-in-NotUtf8 : goal.returns-in-NotUtf8
unfolding name_fault_text
returns-in-NotUtf8 c = rw c.in-NotUtf8.is c.put-in-NotUtf8.ensures

pub returns-in-Control : goal.returns-in-Control
unfolding name_fault_text
returns-in-Control c = rw c.in-Control.is (then c.put-a.ensures (then c.put_control-c.ensures c.put-in-Control.ensures))

pub returns-in-NoFeed : goal.returns-in-NoFeed
unfolding name_fault_text
returns-in-NoFeed c = rw c.in-NoFeed.is c.put-in-NoFeed.ensures
