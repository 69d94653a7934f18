-- `output::page::put_date` meets its contract. Assumes nothing.
use Rattle.output.proofs.Pieces.{puts_as, date_is, date_none}
use Rattle.output.proofs.page.put_date.Goals as goal

pub returns-in-Ok : goal.returns-in-Ok
returns-in-Ok c = puts_as (date_is _ c.from_day_number.ensures c.in-Ok.is) c.put_ymd.ensures

pub returns-in-Err : goal.returns-in-Err
returns-in-Err c = puts_as (date_none _ c.from_day_number.ensures c.in-Err.is) c.put_text.ensures
