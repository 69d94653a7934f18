-- `commands::refusals::put_reason` meets its contract: each variant's text is put. Assumes nothing.
use Rattle.commands.proofs.refusals.put_reason.Goals as goal

pub returns-in-BadTable : goal.returns-in-BadTable
returns-in-BadTable c = rw c.in-BadTable.is c.put.ensures

pub returns-in-BadRules : goal.returns-in-BadRules
returns-in-BadRules c = rw c.in-BadRules.is c.put-in-BadRules.ensures

pub returns-in-NoSuchDate : goal.returns-in-NoSuchDate
returns-in-NoSuchDate c = rw c.in-NoSuchDate.is c.put-in-NoSuchDate.ensures

pub returns-in-NoYear : goal.returns-in-NoYear
returns-in-NoYear c = rw c.in-NoYear.is c.put-in-NoYear.ensures

pub returns-in-NoMonth : goal.returns-in-NoMonth
returns-in-NoMonth c = rw c.in-NoMonth.is c.put-in-NoMonth.ensures

pub returns-in-NoDay : goal.returns-in-NoDay
returns-in-NoDay c = rw c.in-NoDay.is c.put-in-NoDay.ensures

pub returns-in-OutOfRange : goal.returns-in-OutOfRange
returns-in-OutOfRange c = rw c.in-OutOfRange.is c.put-in-OutOfRange.ensures

pub returns-in-NoRoom : goal.returns-in-NoRoom
returns-in-NoRoom c = rw c.in-NoRoom.is c.put-in-NoRoom.ensures

pub returns-in-OffTable : goal.returns-in-OffTable
returns-in-OffTable c = rw c.in-OffTable.is c.put-in-OffTable.ensures

pub returns-in-NotEnded : goal.returns-in-NotEnded
returns-in-NotEnded c = rw c.in-NotEnded.is c.put-in-NotEnded.ensures

pub returns-in-NoRow : goal.returns-in-NoRow
returns-in-NoRow c = rw c.in-NoRow.is c.put-in-NoRow.ensures
