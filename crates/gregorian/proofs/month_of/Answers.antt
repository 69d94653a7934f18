use Rattle.std.proofs.Common.{ℕ, ◌+◌, ◌/◌, ◌<◌, ◌≤◌, Bool, true, false, cond, ◌&&◌, T, ltb, leb, arith, ltb→lt, leb→le, le-leb}
use lib.Ieee.Fits.{and_l, and_r}
use borrow.Author.Tests.{lt-leb}
use Rattle.gregorian.specs.Calendar.{month_start, year_length}
use Rattle.paper.proofs.Tests.{at}
use Rattle.gregorian.proofs.Months.{year_high}
use Rattle.gregorian.proofs.month_of.Goals as goal

-- what the code picks
abbrev pick : Bool → ℕ → ℕ
pick l n = cond (leb (month_start l (n / 32 + 2)) n) (n / 32 + 2) (n / 32 + 1)

right : Bool → ℕ → Bool
unfolding month_start
right l n = leb 1 (pick l n) && leb (pick l n) 12 && leb (month_start l (pick l n)) n && ltb n (month_start l (pick l n + 1))

-- the test at each day of a year of both kinds
right-at : (l : Bool) (n : ℕ) → n < year_length l → T (right l n)
unfolding year_length right
right-at false n h = at (right false) 365 tt n h
right-at true n h = at (right true) 366 tt n h

month : (l : Bool) (n : ℕ) → n < year_length l → (1 ≤ pick l n) × (pick l n ≤ 12) × (month_start l (pick l n) ≤ n) × (n < month_start l (pick l n + 1))
unfolding right
month l n h =
    let a = leb 1 (pick l n) in
    let b = leb (pick l n) 12 in
    let c = leb (month_start l (pick l n)) n in
    let d = ltb n (month_start l (pick l n + 1)) in
    let t = right-at l n h in
    let u = and_l (a && b && c) d t in
    let v = and_l (a && b) c u in
    (leb→le 1 (pick l n) (and_l a b v), leb→le (pick l n) 12 (and_r a b v), leb→le (month_start l (pick l n)) n (and_r (a && b) c u), ltb→lt n (month_start l (pick l n + 1)) (and_r (a && b && c) d t))

pub overflow_cast-k : goal.overflow_cast-k
overflow_cast-k c = omega (arith, year_high c.args.l)

pub overflow_add-k : goal.overflow_add-k
overflow_add-k c = omega (arith, year_high c.args.l)

pub month_start-requires : goal.month_start-requires
month_start-requires c = omega (arith, year_high c.args.l)

pub overflow_add-result : goal.overflow_add-result
overflow_add-result c = omega (arith, year_high c.args.l)

pub returns-then-month_start-n : goal.returns-then-month_start-n
returns-then-month_start-n c =
    let n = c.args.n in
    let l = c.args.l in
    let t : month_start l (n / 32 + 2) ≤ n = rw c.month_start.ensures at c.if-month_start-n.true in
    rw (le-leb _ _ t) at (month l n c.requires)

pub overflow_add-result-2 : goal.overflow_add-result-2
overflow_add-result-2 c = omega (arith, year_high c.args.l)

pub returns : goal.returns
returns c =
    let n = c.args.n in
    let l = c.args.l in
    let t : n < month_start l (n / 32 + 2) = rw c.month_start.ensures at c.if-month_start-n.false in
    rw (lt-leb _ _ t) at (month l n c.requires)
