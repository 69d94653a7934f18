-- `wall::lists::before` meets its contract: the sum so far is that of the cells before the place reached. Assumes nothing.
use Prim.Native.Nat.{◌-◌}
use mathlib.Core.Path.{◌≡◌}
use native.Mathlib.Omega.{arith}
use Rattle.wall.proofs.Counts.{before_none, before_turn}
use borrow.Author.Rules.{rules}
use Rattle.wall.proofs.lists.before.Goals as goal

pub loop-k-init : goal.loop-k-init
loop-k-init c = (before_none c.args.cells.now, omega arith)

pub loop-k-preserved : goal.loop-k-preserved
loop-k-preserved c = let l = c.loop-k in let t = before_turn c.args.cells.now l.k in let n = c.number.ensures in (omega arith, search rules)

pub returns : goal.returns
returns c = let l = c.loop-k in let e : l.k ≡ c.args.i = omega arith in (rw e at l.invariant.0, rw e at l.invariant.1)
