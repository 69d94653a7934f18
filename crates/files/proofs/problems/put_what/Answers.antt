-- `files::problems::put_what` meets its contract. Assumes nothing.
use Rattle.files.specs.Problems.{what_text}
use Rattle.files.proofs.problems.put_what.Goals as goal

pub returns-in-NotOpened : goal.returns-in-NotOpened
unfolding what_text
returns-in-NotOpened c = rw c.in-NotOpened.is c.put.ensures

pub returns-in-NotRead : goal.returns-in-NotRead
unfolding what_text
returns-in-NotRead c = rw c.in-NotRead.is c.put-in-NotRead.ensures

pub returns-in-TooLarge : goal.returns-in-TooLarge
unfolding what_text
returns-in-TooLarge c = rw c.in-TooLarge.is c.put-in-TooLarge.ensures

pub returns-in-NoLine : goal.returns-in-NoLine
unfolding what_text
returns-in-NoLine c = rw c.in-NoLine.is c.put-in-NoLine.ensures

pub returns-in-At : goal.returns-in-At
unfolding what_text
returns-in-At c = rw c.in-At.is c.put_at.ensures
