-- `kept::asking::list_day` meets its contract. Assumes nothing.
use Rattle.std.specs.Prelude.{Ok}
use Prim.Native.Nat.{ℕ}
use mathlib.Core.Path.{◌≡◌, refl, ap, ◌∙◌}
use mathlib.Core.Bool.{true}
use mathlib.Core.List.{List}
use Rattle.paper.proofs.Answers.{shown, passed_on}
use Rattle.conversion.specs.declared.Table.{Table}
use Rattle.conversion.specs.declared.BsDate.{BsDate}
use Rattle.conversion.specs.Calendar.{to_day}
use Rattle.conversion.specs.Flat.{accepted, flat}
use Rattle.rules.specs.Rules.{rules_of, accepted_rules}
use Rattle.rules.specs.Resolved.{day_numbered, list_by}
use Rattle.rules.proofs.Listed.{says_by}
use Rattle.festivals.specs.Kathmandu.{day_list_of}
use Rattle.festivals.proofs.Numbered.{to_numbered, drawn_list}
use Rattle.kept.specs.declared.Store.{Store}
use Rattle.kept.specs.State.{drawn}
use Rattle.kept.specs.Inner.{store_for}
use Rattle.kept.proofs.Stores.{drawn-years}
use Rattle.kept.proofs.Replies.{dated_in, day_refused, day_counted}
use Rattle.kept.proofs.asking.list_day.Goals as goal

pub drawn_years-years-requires : goal.drawn_years-years-requires
drawn_years-years-requires c =
    record {
      rows_value = c.requires.rows_value;
      year_in = dated_in (flat c.args.table c.args.rows.now) _ _ _ _ c.requires.day_value;
    }

pub list_from-requires : goal.list_from-requires
list_from-requires c =
    let a = c.args in
    (c.requires.rows_value.1, to_numbered a.table a.rows.now a.bs.year a.bs.month a.bs.day a.number c.requires.rows_value.0 c.requires.day_value)

-- the list of the day, from the years drawn, whose store is s
its-list : (t : Table) (rows rules : List ℕ) (bs : BsDate) (n : ℕ) → (accepted t rows ≡ true) × (accepted_rules rules ≡ true) → to_day (flat t rows) bs.year bs.month bs.day ≡ Ok n
    → (s : Store) → s ≡ store_for (flat t rows) rules (drawn (flat t rows) bs.year bs.month)
    → day_list_of (flat t rows) (rules_of rules) bs n ≡ list_by (rules_of rules) (day_numbered bs n) s.years
its-list t rows rules bs n g d s e =
    let c = flat t rows in
    let h = to_numbered t rows bs.year bs.month bs.day n g.0 d in
    let y = ap (λ (s : Store). s.years) e ∙ drawn-years c rules bs.year bs.month (dated_in c _ _ _ _ d) in
    drawn_list t rows rules bs n g.1 h _ y

pub returns-in_err-count : goal.returns-in_err-count
returns-in_err-count c = λ g.
    let a = c.args in
    let l = its-list a.table a.rows.now a.rules.now a.bs a.number c.requires.rows_value c.requires.day_value _ (c.drawn_years-years.ensures g) in
    let s = says_by (ap Ok l) (record { answer = c.list_from.ensures.result_value; buffer = c.list_from.ensures.out_after }) in
    day_refused _ _ _ _ _ _ (shown c.in_err-count.was s.answer) s.buffer (passed_on _ c.from_residual.ensures.1 refl)

pub returns : goal.returns
returns c = λ g.
    let a = c.args in
    let l = its-list a.table a.rows.now a.rules.now a.bs a.number c.requires.rows_value c.requires.day_value _ (c.drawn_years-years.ensures g) in
    let s = says_by (ap Ok l) (record { answer = c.list_from.ensures.result_value; buffer = c.list_from.ensures.out_after }) in
    day_counted _ _ _ _ _ _ _ (shown c.in_ok-count.was s.answer) s.buffer (c.drawn_years-years.ensures g)
