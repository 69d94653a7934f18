-- What is lent is accepted once, at the start of a call: the table, then the rules. Assumes nothing.
use Rattle.std.specs.Prelude.{Bool, Ok}
use Rattle.paper.specs.declared.Refusal.TheVariants.{BadTable, BadRules}
use Rattle.paper.specs.Answers.{Answer, given}
use Rattle.conversion.specs.Calendar.{Calendar}

-- what is asked of a lent table and lent rules, ok saying whether the rules are good: refusals 1, 2, else the answer
abbrev pub lent : {A : Type 0} → Calendar → Bool → Answer A → Answer A
lent c ok a = given c.good BadTable (given ok BadRules a)

-- whether what is lent is good
abbrev pub accepting : Calendar → Bool → Answer Unit
accepting c ok = lent c ok (Ok tt)
