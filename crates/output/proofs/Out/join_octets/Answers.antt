-- The digits so far are joined. Assumes nothing.
use Prim.Native.Nat.{◌+◌}
use mathlib.Core.Path.{refl}
use lib.ListN.{get_or, drop}
use Rattle.text.specs.Digits.{run}
use Rattle.text.proofs.Texts.{cut, over}
use Rattle.output.specs.Octets.{octets_text}
use Rattle.output.proofs.Joins.{rest_turn}
use Rattle.output.proofs.Out.join_octets.Goals as goal

pub loop-b-preserved : goal.loop-b-preserved
unfolding run
loop-b-preserved c = let t = c.args.list.now in
    let l = c.loop-b in
    rest_turn {xs = run 16 2 (get_or t l.b-index 0)} {ys = octets_text (drop (l.b-index + 1) t)} (rw (cut t l.b-index c.loop-b-test.true) at l.invariant) (rw c.put_octet.ensures.stored at c.join_all-o.ensures)
