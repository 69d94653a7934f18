use Rattle.std.proofs.Common.{◌≡◌, ℕ, ◌+◌, ◌<◌, ◌≤◌, Bool, cond, ◌&&◌, eqb, ltb, leb, List, [], ◌∷◌, get_or, arith, eqb→eq, leb→le, le-ltb, lt-ltb}
use Rattle.gregorian.specs.Calendar.{month_start}
use Rattle.paper.proofs.Tests.{at}
use Rattle.gregorian.proofs.Months.{at_each}
use Rattle.gregorian.proofs.month_start.Goals as goal
use Rattle.gregorian.proofs.month_start.Goals.{else-l-via-then-l+else-m-gt2, else-l-via-else-l}

abbrev starts : List ℕ
starts = 0 ∷ 0 ∷ 31 ∷ 59 ∷ 90 ∷ 120 ∷ 151 ∷ 181 ∷ 212 ∷ 243 ∷ 273 ∷ 304 ∷ 334 ∷ 365 ∷ []

small : ℕ → Bool
small m = leb (get_or starts m 0) 400

bound : (m : ℕ) → m < 14 → get_or starts m 0 ≤ 400
unfolding small
bound m h = leb→le (get_or starts m 0) 400 (at small 14 tt m h)

right : Bool → ℕ → Bool
unfolding month_start
right l m = eqb (cond (l && ltb 2 m) (get_or starts m 0 + 1) (get_or starts m 0)) (month_start l m)

table : (l : Bool) (m : ℕ) → m < 14 → cond (l && ltb 2 m) (get_or starts m 0 + 1) (get_or starts m 0) ≡ month_start l m
unfolding right
table l m h = eqb→eq (cond (l && ltb 2 m) (get_or starts m 0 + 1) (get_or starts m 0)) (month_start l m) (at_each right 14 tt l m h)

pub overflow_cast-common : goal.overflow_cast-common
overflow_cast-common c = omega (arith, bound c.args.m c.requires)

pub overflow_add-result : goal.overflow_add-result
overflow_add-result c = omega (arith, bound c.args.m c.requires)

pub returns-then-m-gt2 : goal.returns-then-m-gt2
returns-then-m-gt2 c =
    let a = c.args in
    rw (← table a.l a.m c.requires) (simp (c.if-l.true, lt-ltb _ _ c.if-m-gt2.true))

pub returns-else-l : goal.returns-else-l
returns-else-l c =
    let a = c.args in
    elim c.else-l.branch [
      | else-l-via-then-l+else-m-gt2 w ↦ rw (← table a.l a.m c.requires) (simp (w.if-l.true, le-ltb _ _ w.if-m-gt2.false))
      | else-l-via-else-l w ↦ rw (← table a.l a.m c.requires) (simp w.if-l.false)
    ]
