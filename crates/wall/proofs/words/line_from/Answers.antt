-- `wall::words::line_from` meets its contract: the lines that are left lead on from the place reached. Assumes nothing.
use Prim.Native.Nat.{◌+◌, ◌-◌, ◌<◌, ◌≤◌}
use mathlib.Core.Path.{◌≡◌, refl, ap, ◌∙◌}
use native.Mathlib.Omega.{arith}
use lib.ListN.{drop}
use Rattle.wall.specs.Words.{line_from}
use Rattle.wall.proofs.Parts.{line_turn, line_here}
use Rattle.wall.proofs.words.line_from.Goals as goal

pub loop-done-init : goal.loop-done-init
loop-done-init c = let e : c.args.k - 0 ≡ c.args.k = omega arith in rw e

pub loop-done-preserved : goal.loop-done-preserved
loop-done-preserved c =
    let l = c.loop-done in
    let k = c.args.k in
    let more : 0 < k - l._done = omega arith in
    let less : k - (l._done + 1) ≡ k - l._done - 1 = omega arith in
    rw less (ap (line_from (k - l._done - 1)) c.next_line-at.ensures ∙ line_turn (k - l._done) (drop l.at c.args.s.now) more ∙ l.invariant)

pub returns : goal.returns
returns c =
    let l = c.loop-done in
    let k = c.args.k in
    let none : k - l._done ≤ 0 = omega arith in
    line_here (k - l._done) (drop l.at c.args.s.now) none ∙ l.invariant
