-- The form of ones grows by a digit a turn until it is the form that was asked. Assumes nothing.
use Prim.Native.Nat.{◌+◌, ◌*◌}
use mathlib.Core.Path.{◌≡◌, sym, ◌∙◌}
use native.Mathlib.Omega.{arith}
use borrow.Author.Rules.{rules}
use Rattle.lending.specs.Lending.{ones, numbers_in}
use Rattle.lending.proofs.Forms.{ones_more, ones_fits, numbers_found, numbers_none}
use Rattle.lending.proofs.count_of.Goals as goal

pub loop-n-init : goal.loop-n-init
unfolding ones numbers_in
loop-n-init c = search rules

pub overflow_mul-ones : goal.overflow_mul-ones
overflow_mul-ones c = omega (arith, ones_fits c.loop-n.n (omega arith))

pub overflow_add-ones : goal.overflow_add-ones
overflow_add-ones c = omega (arith, ones_fits c.loop-n.n (omega arith))

pub returns-then-form-ones : goal.returns-then-form-ones
returns-then-form-ones c = let a = c.args in
    let l = c.loop-n in
    let e : a.form ≡ ones l.n * 10 + 1 = omega arith in
    numbers_found a.form l.n e a.most (omega arith)

pub loop-n-preserved : goal.loop-n-preserved
loop-n-preserved c = let a = c.args in
    let l = c.loop-n in
    let m = ones_more l.n in
    (omega arith, numbers_none a.form l.n l.invariant.1 (λ e. c.if-form-ones.false (omega arith)))

pub returns : goal.returns
returns c = let l = c.loop-n in
    let a = c.args in
    let e : l.n ≡ a.most = omega arith in
    sym l.invariant.1 ∙ rw e
