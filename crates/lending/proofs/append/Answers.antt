-- The words so far stand one after the other. Assumes nothing.
use mathlib.Core.Path.{◌≡◌, ap, ◌∙◌}
use native.Mathlib.Omega.{arith}
use lib.ListN.{length}
use lib.Seq.{length-sets}
use Rattle.text.proofs.Writes.{wrote_none}
use Rattle.lending.specs.Lending.{numbers_of}
use Rattle.lending.proofs.Loans.{append_turn}
use Rattle.lending.proofs.append.Goals as goal

pub loop-i-init : goal.loop-i-init
loop-i-init c = let a = c.args in wrote_none a.list.now a.from

pub loop-i-preserved : goal.loop-i-preserved
loop-i-preserved c = let l = c.loop-i in
    let a = c.args in
    append_turn a.w l.i c.small.result l.invariant c.small.ensures c.put-at.ensures

pub shape_of-list : goal.shape_of-list
shape_of-list c = let l = c.loop-i in let a = c.args in
    ap length l.invariant.stored ∙ length-sets a.list.now a.from (numbers_of a.w l.i)

pub returns : goal.returns
returns c = let l = c.loop-i in
    let e : l.i ≡ c.args.n = omega arith in
    rw e at l.invariant
