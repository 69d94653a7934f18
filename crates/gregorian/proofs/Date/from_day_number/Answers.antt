use Rattle.std.proofs.Common.{◌≡◌, ℕ, ◌+◌, ◌&&◌, leb, arith, le-leb, le-ltb, lt-ltb, ⊎_elim, sym}
use borrow.Author.Tests.{lt-leb, leb-true}
use Rattle.paper.proofs.Tests.{in_range_is, split, and_right}
use Rattle.gregorian.specs.Calendar.{first_number, all_days}
use Rattle.gregorian.specs.Answers.{numbered}
use Rattle.gregorian.proofs.Laws.{all_number, of_is}
use Rattle.gregorian.proofs.Date.from_day_number.Goals as goal

-- the numbers of dates, by the first and the last
numbered_is : (n : ℕ) → (leb 2415021 n && leb n 2506331) ≡ numbered n
numbered_is n =
    let e : first_number + all_days ≡ 2506332 = omega (arith, all_number) in
    rw e (⊎_elim (λ l. rw (le-leb n 2506331 l, lt-ltb n 2506332 (omega arith))) (λ l. rw (lt-leb n 2506331 l, le-ltb n 2506332 (omega arith))) (split n 2506331))

pub returns-then-not-contains : goal.returns-then-not-contains
returns-then-not-contains c =
    let s = c.new.ensures in
    let no = rw (s.start, s.end, s.exhausted, in_range_is, numbered_is) at c.if-not-contains.ensures.value in
    rw (← no)

pub date_after-requires : goal.date_after-requires
date_after-requires c =
    let s = c.new.ensures in
    let n = c.args.n in
    let yes = rw (s.start, s.end, s.exhausted, in_range_is) at c.if-not-contains.ensures.value in
    omega (arith, all_number, leb-true _ _ (and_right (leb 2415021 n) (leb n 2506331) (sym yes)))

pub returns : goal.returns
returns c =
    let s = c.new.ensures in
    let yes = rw (s.start, s.end, s.exhausted, in_range_is, numbered_is) at c.if-not-contains.ensures.value in
    rw (← yes, of_is, c.date_after.ensures)
