-- The numbers of a table's days and of dates, as the calls on dates know them. Assumes nothing.
use Rattle.std.specs.Prelude.{Ok}
use Prim.Native.Nat.{ℕ, ◌≤◌}
use mathlib.Core.Path.{◌≡◌, sym, ◌∙◌}
use mathlib.Core.Bool.{true}
use mathlib.Core.List.{List}
use native.Mathlib.Omega.{arith}
use borrow.Author.Tests.{leb-true}
use lib.Dec.{leb}
use Rattle.paper.specs.declared.Refusal.TheVariants.{NoSuchDate}
use Rattle.paper.proofs.Answers.{answered_same, given_answered}
use Rattle.paper.proofs.Tests.{and_left}
use Rattle.gregorian.specs.declared.Date.{Date}
use Rattle.gregorian.specs.Calendar.{first_number, day_number}
use Rattle.gregorian.specs.Answers.{real, number_answer, numbered}
use Rattle.gregorian.proofs.Laws.{real_of, number_above, number_below, in_range_law}
use Rattle.conversion.specs.declared.BsDate.{BsDate}
use Rattle.conversion.specs.declared.Table.{Table}
use Rattle.conversion.specs.Calendar.{to_day}
use Rattle.conversion.specs.Flat.{accepted, flat}
use Rattle.conversion.proofs.Ad.{served, on_numbered}
use Rattle.conversion.proofs.Days.{converts, converted, valid_on}
use Rattle.rules.specs.declared.lists.Years.{Years}
use Rattle.rules.specs.Rules.{rules_of, accepted_rules}
use Rattle.rules.specs.Resolved.{day_numbered, list_by}
use Rattle.rules.proofs.Accepted.{good_rules}
use Rattle.rules.proofs.Used.{two_years}
use Rattle.festivals.specs.Kathmandu.{years_in, day_list_of}
use Rattle.festivals.proofs.Nepal.{real_told}
use Rattle.rules.proofs.Lent.{accepted_both}
use Rattle.rules.proofs.Questions.{bs_lent, on_bs_law}

-- ---- a day number that is a date's
pub numbered_from : (n : ℕ) → numbered n ≡ true → 1 ≤ n
numbered_from n h = omega (arith, leb-true first_number n (and_left (leb first_number n) _ h))

-- ---- a date's day number
pub its_number : (x : Date) (n : ℕ) → Ok n ≡ number_answer x → (real x ≡ true) × (n ≡ day_number x)
its_number x n e = let g = given_answered (real x) NoSuchDate (Ok (day_number x)) (sym e) in (g.0, sym (answered_same g.1))

pub real_numbered : (x : Date) (n : ℕ) → real x ≡ true → n ≡ day_number x → numbered n ≡ true
real_numbered x n h e = rw e (in_range_law (day_number x) (number_above x) (number_below x (real_of x (real_told (real x) h))))

-- ---- a day of an accepted table
pub to_numbered : (t : Table) (rows : List ℕ) (y m d n : ℕ) → accepted t rows ≡ true → to_day (flat t rows) y m d ≡ Ok n → numbered n ≡ true
to_numbered t rows y m d n g e =
    let c = flat t rows in
    let v = converted c y m d n e in
    let q = answered_same (sym e ∙ converts c y m d v) in
    on_numbered c n (served t rows g) (rw q (valid_on c y m d v))

-- ---- the list of a day from the two years of its month
pub drawn_list : (t : Table) (rows rules : List ℕ) (bs : BsDate) (n : ℕ) → accepted_rules rules ≡ true → numbered n ≡ true → (ys : Years) → ys ≡ years_in (flat t rows) (rules_of rules) bs.year bs.month
    → day_list_of (flat t rows) (rules_of rules) bs n ≡ list_by (rules_of rules) (day_numbered bs n) ys
drawn_list t rows rules bs n o h ys e =
    rw e (sym (two_years _ _ _ bs n (good_rules rules o).counts.computed_few (numbered_from n h)))

-- what a list asked by BS date stands on
pub ruleset asked_bs = (accepted_both, to_numbered, bs_lent, on_bs_law)
