-- `asked::words::below` meets its contract. Assumes nothing.
use Prim.Native.Nat.{◌-◌, ◌≤◌}
use native.Mathlib.Omega.{arith}
use lib.IntN.{negsuc}
use mir.Syntax.{w32}
use mir.ValLaws.{to_z-of_z}
use Rattle.text.proofs.Signs.{word_fits, below_zero_is}
use Rattle.asked.proofs.Splits.{below_nought, below_fits, below_large}
use Rattle.asked.proofs.words.below.Goals as goal

pub returns-then-v-eq0 : goal.returns-then-v-eq0
returns-then-v-eq0 c = below_nought c.args.v c.if-v-eq0.true

pub overflow_sub-result-then-v-le2147483648 : goal.overflow_sub-result-then-v-le2147483648
overflow_sub-result-then-v-le2147483648 c = let v = c.args.v in
    let h : v - 1 ≤ 2147483647 = omega arith in
    rw (below_zero_is (v - 1) h) (word_fits (negsuc (v - 1)) h)

pub returns-then-v-le2147483648 : goal.returns-then-v-le2147483648
returns-then-v-le2147483648 c = let v = c.args.v in
    let h : v - 1 ≤ 2147483647 = omega arith in
    rw (below_zero_is (v - 1) h, to_z-of_z w32 (negsuc (v - 1)) (word_fits (negsuc (v - 1)) h)) (below_fits v c.if-v-eq0.false c.if-v-le2147483648.true)

pub returns : goal.returns
returns c = below_large c.args.v c.if-v-le2147483648.false
