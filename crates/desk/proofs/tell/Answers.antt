-- A line that lends, a new state, a question to it, or another. Assumes nothing.
use mathlib.Core.Path.{refl, sym, ◌∙◌}
use Rattle.output.proofs.Gathering.{gathers_none}
use Rattle.desk.specs.Runs.{told_by, told_to}
use Rattle.desk.proofs.tell.Goals as goal

pub returns-then-is_lending : goal.returns-then-is_lending
unfolding told_to
returns-then-is_lending c = λ sound.
    let a = c.args in
    rw (← c.is_lending.ensures, c.if-is_lending.true) (record { words = gathers_none a.out.now a.o; state = refl; sound = sound })

pub returns-in-Some-Start : goal.returns-in-Some-Start
unfolding told_to told_by
returns-in-Some-Start c = λ sound.
    rw (
      ← c.is_lending.ensures,
      c.if-is_lending.false,
      sym c.keeping_of.ensures ∙ c.in-Some-Start.is,
      c.in-Some-Start.field-0-is,
      ← c.table_in.ensures,
    )
    c.begin.ensures

pub returns-in-Some-Ask : goal.returns-in-Some-Ask
unfolding told_to told_by
returns-in-Some-Ask c = λ sound.
    rw (
      ← c.is_lending.ensures,
      c.if-is_lending.false,
      sym c.keeping_of.ensures ∙ c.in-Some-Ask.is,
      c.in-Some-Ask.field-0-is,
      ← c.front-held.ensures,
    )
    (c.ask.ensures sound)

pub returns-in-None : goal.returns-in-None
unfolding told_to told_by
returns-in-None c = λ sound.
    rw (
      ← c.is_lending.ensures,
      c.if-is_lending.false,
      sym c.keeping_of.ensures ∙ c.in-None.is,
    )
    (record { words = c.answer.ensures; state = refl; sound = sound })
