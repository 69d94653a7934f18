-- `text::writing::put_run` meets its contract: the digits that are left are to be stored before those that stand. Assumes nothing.
use Prim.Native.Nat.{◌+◌, ◌-◌}
use mathlib.Core.Path.{◌≡◌, sym, ◌∙◌}
use native.Mathlib.Omega.{arith}
use Rattle.paper.proofs.Stores.{sets_past}
use Rattle.text.specs.Digits.{run}
use Rattle.text.proofs.Runs.{length_run}
use Rattle.text.proofs.Turns.{run_turn, run_done}
use Rattle.text.proofs.writing.put_run.Goals as goal

pub returns-then-out-at : goal.returns-then-out-at
returns-then-out-at c = let a = c.args in
    record { stored = sym (sets_past (run a.base a.k a.n) a.out.now a.at c.if-out-at.true); end = omega arith }

pub loop-i-preserved : goal.loop-i-preserved
loop-i-preserved c = let a = c.args in
    let l = c.loop-i in
    let e : a.k - (l.i + 1) ≡ a.k - l.i - 1 = omega arith in
    let f : a.k - 1 - l.i ≡ a.k - l.i - 1 = omega arith in
    rw (c.store.ensures, c.mark.ensures, e, f) (run_turn l.out a.at a.base (a.k - l.i) l.rest (omega arith) ∙ l.invariant)

pub returns : goal.returns
returns c = let a = c.args in
    let l = c.loop-i in
    record { stored = run_done l.out a.at a.base (a.k - l.i) l.rest (omega arith) ∙ l.invariant; end = omega (arith, length_run a.base a.k a.n) }
