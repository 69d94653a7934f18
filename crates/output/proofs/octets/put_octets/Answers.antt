-- The digits so far stand one after the other. Assumes nothing.
use Prim.Native.Nat.{◌+◌}
use mathlib.Core.Path.{refl}
use mathlib.Core.List.{[]}
use lib.ListN.{get_or, drop}
use Rattle.text.specs.Digits.{run}
use Rattle.text.proofs.Texts.{cut, over}
use Rattle.text.proofs.Writes.{wrote_none}
use Rattle.output.specs.Octets.{octets_text}
use Rattle.output.proofs.Joins.{Ahead, ahead_turn}
use Rattle.output.proofs.octets.put_octets.Goals as goal

pub loop-b-preserved : goal.loop-b-preserved
loop-b-preserved c = let t = c.args.list.now in
    let l = c.loop-b in
    ahead_turn {xs = run 16 2 (get_or t l.b-index 0)} {ys = octets_text (drop (l.b-index + 1) t)} (rw (cut t l.b-index c.loop-b-test.true) at l.invariant) c.put_octet-at.ensures

pub returns : goal.returns
returns c = let t = c.args.list.now in
    let l = c.loop-b in
    let a : Ahead c.args.out.now c.args.from (octets_text t) l.out l.at [] = rw (over t l.b-index c.loop-b-test.false) at l.invariant in
    a.all (wrote_none l.out l.at)
