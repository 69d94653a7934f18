-- The bytes so far stand one after the other. Assumes nothing.
use mathlib.Core.Path.{◌≡◌}
use native.Mathlib.Omega.{arith}
use Rattle.text.proofs.Writes.{wrote_none}
use Rattle.asked.proofs.HeldOctets.{first_turn}
use Rattle.asked.proofs.bytes.Octets.put.Goals as goal

pub loop-i-init : goal.loop-i-init
loop-i-init c = let a = c.args in wrote_none a.out.now a.from

pub loop-i-preserved : goal.loop-i-preserved
loop-i-preserved c = let l = c.loop-i in first_turn c.args.self l.i c.octet.result l.invariant c.octet.ensures c.put-at.ensures

pub returns : goal.returns
returns c = let l = c.loop-i in
    let e : l.i ≡ c.args.self.count = omega arith in
    rw e at l.invariant
