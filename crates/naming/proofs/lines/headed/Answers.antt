-- `naming::lines::headed` meets its contract. Assumes nothing.
use native.Mathlib.Omega.{arith}
use mathlib.Core.Path.{sym}
use Rattle.naming.proofs.Heads.{headed_none, headed-unequal, headed-is}
use Rattle.naming.proofs.lines.headed.Goals as goal

pub returns-in_err-n : goal.returns-in_err-n
returns-in_err-n c = let f = c.start in
    rw c.from_residual.ensures (record { same = headed_none c.args.s.now f.result.at f.ensures (sym c.in_err-n.ensures.same); inside = omega arith })

pub returns-in_err-pass : goal.returns-in_err-pass
returns-in_err-pass c = let f = c.start in
    rw c.from_residual-in_err-pass.ensures (record {
      same = headed-unequal c.args.s.now f.result.at f.ensures (sym c.in_ok-n.ensures.same) (sym c.in_err-pass.ensures.same);
      inside = omega arith;
    })

pub returns : goal.returns
returns c = let f = c.start in
    record {
      same = headed-is c.args.s.now f.result.at f.ensures (sym c.in_ok-n.ensures.same) (sym c.in_ok-pass.ensures.same);
      inside = c.in_ok-pass.ensures.inside;
    }
