use Rattle.std.proofs.Common.{◌≡◌, true, T, sym, ap, ◌∙◌}
use Rattle.paper.proofs.Answers.{given_told}
use Rattle.gregorian.specs.Calendar.{is_date}
use Rattle.gregorian.specs.Instants.{zero_of, zero_hour}
use Rattle.gregorian.proofs.Laws.{real_of}
use Rattle.gregorian.proofs.Instants.{zero_hour_law}
use Rattle.gregorian.proofs.julian_day.Goals as goal
use Rattle.gregorian.proofs.julian_day.Goals.{After-zero_hour}

-- the date is one, and this is its 0h
zero : (c : After-zero_hour) → (let x = c.args.date in is_date x.year x.month x.day ≡ true) × (c.zero_hour.result ≡ zero_hour c.args.date)
zero c =
    let x = c.args.date in
    let g = given_told (is_date x.year x.month x.day) _ _ _ c.in_ok-n.ensures in
    let t : T (is_date x.year x.month x.day) = rw g.0 tt in
    (g.0, c.zero_hour.ensures ∙ ap zero_of g.1 ∙ zero_hour_law x (real_of x t))

pub returns-then-not-is_instant : goal.returns-then-not-is_instant
returns-then-not-is_instant c =
    let z = zero (goal.at.returns-then-not-is_instant c).After-zero_hour in
    rw (z.0, ← z.1, sym c.is_instant.ensures ∙ c.if-not-is_instant.true)

pub returns : goal.returns
returns c =
    let z = zero (goal.at.returns c).After-zero_hour in
    rw (z.0, ← z.1, sym c.is_instant.ensures ∙ c.if-not-is_instant.false)
