-- Each tag is its arm's, or none. Assumes nothing.
use borrow.Author.Tests.{ne_eqb}
use Rattle.asked.specs.Tags.{START, TAKE, APPEND, ASKBS, ASKAD, ASKGRID, FORGET, STORED}
use Rattle.lending.specs.Lending.{ones}
use Rattle.desk.specs.Keeping.{keeping_of}
use Rattle.desk.proofs.keeping.keeping_of.Goals as goal

pub returns-in-324015252 : goal.returns-in-324015252
unfolding keeping_of ones
returns-in-324015252 c = rw c.in-324015252.is c.formed.ensures

pub returns-in-5247685 : goal.returns-in-5247685
unfolding keeping_of ones
returns-in-5247685 c = rw c.in-5247685.is c.formed-in-5247685.ensures

pub returns-in-1346392964 : goal.returns-in-1346392964
unfolding keeping_of ones
returns-in-1346392964 c = rw c.in-1346392964.is (rw c.count_in.ensures at c.formed-in-1346392964.ensures)

pub returns-in-21803155 : goal.returns-in-21803155
unfolding keeping_of ones
returns-in-21803155 c = rw c.in-21803155.is c.formed-in-21803155.ensures

pub returns-in-21803076 : goal.returns-in-21803076
unfolding keeping_of ones
returns-in-21803076 c = rw c.in-21803076.is c.formed-in-21803076.ensures

pub returns-in-89307030084 : goal.returns-in-89307030084
unfolding keeping_of ones
returns-in-89307030084 c = rw c.in-89307030084.is c.formed-in-89307030084.ensures

pub returns-in-6698856788 : goal.returns-in-6698856788
unfolding keeping_of ones
returns-in-6698856788 c = rw c.in-6698856788.is c.formed-in-6698856788.ensures

pub returns-in-20740645188 : goal.returns-in-20740645188
unfolding keeping_of ones
returns-in-20740645188 c = rw c.in-20740645188.is c.formed-in-20740645188.ensures

pub returns-in_default : goal.returns-in_default
unfolding keeping_of ones
returns-in_default c = let rest = c.in_default.in_default-own.rest in
    let tag = c.args.tag in
    rw (
      ne_eqb tag START rest.0.0.0.0.0.0.0.1,
      ne_eqb tag TAKE rest.0.0.0.0.0.0.1,
      ne_eqb tag APPEND rest.0.0.0.0.0.1,
      ne_eqb tag ASKBS rest.0.0.0.0.1,
      ne_eqb tag ASKAD rest.0.0.0.1,
      ne_eqb tag ASKGRID rest.0.0.1,
      ne_eqb tag FORGET rest.0.1,
      ne_eqb tag STORED rest.1,
    )
