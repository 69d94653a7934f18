use Prim.Native.Nat.{ℕ, zero, suc, ◌+◌, ◌*◌, ◌≤◌}
use mathlib.Core.Path.{◌≡◌, sym, ap, ◌∙◌}
use mathlib.Core.Bool.{Bool, true, false, cond}
use mathlib.Core.Logic.{⊎_elim}
use native.Mathlib.Nat.{one-mul}
use native.Mathlib.Omega.{arith}
use borrow.Author.Tests.{lt-ltb, le-ltb}
use lib.Dec.{ltb}
use lib.ListN.{get_or}
use Rattle.paper.specs.Sums.{sum}
use Rattle.paper.proofs.Sums.{sum_zero, sum_suc, sum_step, sum_ext}
use Rattle.paper.proofs.Tests.{split}
use Rattle.conversion.specs.Inner.{column}
use Rattle.conversion.proofs.columns.months_span.Invariants.{first}
use Rattle.conversion.proofs.columns.months_span.Goals as goal
use Rattle.conversion.proofs.columns.months_span.Goals.{After-counted-total}

first-sum : (f : ℕ → ℕ) (count n : ℕ) → count ≤ n → sum (first f count) n ≡ sum f count
first-sum f count zero h = let e : count ≡ 0 = omega arith in rw e (sum_zero (first f 0) ∙ sym (sum_zero f))
first-sum f count (suc n) h =
    ⊎_elim
    (λ l. let z : first f count n ≡ 0 = rw (le-ltb n count l) in omega (arith, z, sum_suc (first f count) n, first-sum f count n l))
    (λ l. let e : count ≡ suc n = omega arith in rw e (sum_ext (first f (suc n)) f (suc n) (λ k i. rw (lt-ltb k (suc n) i))))
    (split count n)

sum-most : (f : ℕ → ℕ) (n : ℕ) → ((k : ℕ) → f k ≤ 65535) → sum f n ≤ 65535 * n
sum-most f zero h = omega (arith, sum_zero f)
sum-most f (suc n) h = omega (arith, sum_suc f n, sum-most f n h, h n)

cond-most : (b : Bool) (x : ℕ) → x ≤ 65535 → cond b x 0 ≤ 65535
cond-most true x h = h
cond-most false x h = omega arith

pub loop-m-init : goal.loop-m-init
loop-m-init c = let a = c.args in omega (arith, sum_zero (first (column a.rows.now a.at 1) a.count))

-- what a turn adds
added : (c : After-counted-total) → let a = c.args in c.counted-total.result ≡ first (column a.rows.now a.at 1) a.count c.loop-m.m
added c =
    let a = c.args in
    let m = c.loop-m.m in
    c.counted-total.ensures ∙ ap (λ (k : ℕ). cond (ltb m a.count) (get_or a.rows.now (a.at + k) 0) 0) (sym (one-mul m))

added-most : (c : After-counted-total) → c.counted-total.result ≤ 65535
added-most c =
    let a = c.args in
    let m = c.loop-m.m in
    let h : get_or a.rows.now (a.at + m) 0 ≤ 65535 = omega (arith, c.type_inv.rows (a.at + m)) in
    rw c.counted-total.ensures (cond-most (ltb m a.count) _ h)

pub overflow_add-total : goal.overflow_add-total
overflow_add-total c = omega (arith, added-most c)

pub loop-m-preserved : goal.loop-m-preserved
loop-m-preserved c =
    let a = c.args in
    let l = c.loop-m in
    omega (arith, c.loop-m-test.true, added c, added-most c, sum_step (first (column a.rows.now a.at 1) a.count) l.m)

pub returns : goal.returns
returns c =
    let a = c.args in
    let l = c.loop-m in
    let f = column a.rows.now a.at 1 in
    let e : l.m ≡ 12 = omega arith in
    let w : l.total ≡ sum f a.count = rw e at l.invariant.0 ∙ first-sum f a.count 12 c.requires.1 in
    record { whole = w; most = rw w (sum-most f a.count (λ k. omega (arith, c.type_inv.rows (a.at + 1 * k)))) }
