-- Two digits, or one, or none. Assumes nothing.
use mathlib.Core.Path.{sym}
use Prim.Native.Nat.{◌+◌}
use native.Mathlib.Omega.{arith}
use lib.ListN.{drop}
use Rattle.text.proofs.Said.{number_said, number_unsaid}
use Rattle.asked.proofs.HeldOctets.{octet_over, octet_half, octet-said, octet-unsaid, octet_small}
use Rattle.asked.proofs.bytes.octet_at.Goals as goal

pub returns-then-s-at : goal.returns-then-s-at
returns-then-s-at c = let a = c.args in
    record { says = record { same = octet_over a.s.now a.c.at c.if-s-at.true; inside = omega arith }; result_bound = omega arith }

pub returns-then-s-at-lt2 : goal.returns-then-s-at-lt2
returns-then-s-at-lt2 c = let a = c.args in
    record { says = record { same = octet_half a.s.now a.c.at (omega arith) (omega arith); inside = omega arith }; result_bound = omega arith }

pub returns : goal.returns
returns c = let a = c.args in
    let n = c.in_ok-n.n in
    let e = rw c.start.ensures at (number_said c.hex.result c.hex.ensures c.in_ok-n.was) in
    let q = octet-said a.s.now a.c.at (omega arith) n e in
    record { says = record { same = q; inside = omega arith }; result_bound = octet_small (drop a.c.at a.s.now) n (drop (a.c.at + 2) a.s.now) (sym q) }

pub returns-in_err-n : goal.returns-in_err-n
returns-in_err-n c = let a = c.args in
    let e = rw c.start.ensures at (number_unsaid c.hex.result c.hex.ensures c.in_err-n.was) in
    rw c.from_residual.ensures (record { says = record { same = octet-unsaid a.s.now a.c.at (omega arith) e; inside = omega arith }; result_bound = omega arith })
