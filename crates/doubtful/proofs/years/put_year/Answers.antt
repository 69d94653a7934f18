-- `doubtful::years::put_year` meets its contract. Assumes nothing.
use Rattle.doubtful.proofs.Sheets.{year_none, places_opened, year_whole}
use Rattle.festivals.proofs.Moons.{moons_front}
use borrow.Author.Rules.{rules}
use Rattle.doubtful.proofs.years.put_year.Goals as goal

pub returns-in_default : goal.returns-in_default
returns-in_default c = year_none _ _ _ _ _ c.args.p c.year_days.result c.year_days.ensures c.in_default.is

pub months_of-m-requires : goal.months_of-m-requires
months_of-m-requires c =
    let f = moons_front _ _ _ _ _ c.new_moons-n.ensures.count c.new_moons-n.ensures.written (search rules) in
    (c.requires, f.0.0, f.0.1)

pub put_moons-q-requires : goal.put_moons-q-requires
put_moons-q-requires c =
    let f = moons_front _ _ _ _ _ c.new_moons-n.ensures.count c.new_moons-n.ensures.written (search rules) in
    record { rows_value = (c.requires, places_opened _ _ c.year_days.ensures c.in-Some.is f.1 c.months_of-m.result c.months_of-m.ensures); n_bound = f.0 }

pub returns : goal.returns
returns c =
    let e = c.year_days.ensures in
    let g = c.in-Some.is in
    let f = (moons_front _ _ _ _ _ c.new_moons-n.ensures.count c.new_moons-n.ensures.written (search rules)).1 in
    let h = places_opened _ _ e g f c.months_of-m.result c.months_of-m.ensures in
    year_whole _ _ _ _ _ c.args.p c.year_days.result e g f c.months_of-m.result h c.unheaded.ensures _ _ c.put_moons-q.ensures c.put_unopened_months.ensures
