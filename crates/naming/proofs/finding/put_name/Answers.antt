-- `naming::finding::put_name` meets its contract. Assumes nothing.
use native.Mathlib.Omega.{arith}
use Prim.Native.Nat.{◌-◌, ◌≤◌}
use mathlib.Core.Path.{sym}
use lib.ListN.{length, take, drop}
use lib.Seq.{length-take-le}
use Rattle.text.proofs.Writes.{wrote_none}
use Rattle.naming.proofs.Searches.{front_inside, finds_inside, name_none, name_some}
use Rattle.naming.proofs.finding.put_name.Goals as goal

pub returns-in_default : goal.returns-in_default
returns-in_default c = let a = c.args in
    let f = c.find in
    rw (name_none f.result f.ensures c.in_default.is) (wrote_none a.out.now a.at)

pub slice_bounds-put-end : goal.slice_bounds-put-end
slice_bounds-put-end c = let n = c.front_length-n in
    let s = take (c.in-Some.to - c.in-Some.from) (drop c.in-Some.from c.args.file.now) in
    let h : n.result ≤ length s = omega (arith, front_inside 120 s) in
    sym (length-take-le n.result s h)

pub returns : goal.returns
returns c = let f = c.find in
    let n = c.front_length-n in
    rw (name_some f.result f.ensures n.result c.in-Some.is n.ensures) c.put.ensures
