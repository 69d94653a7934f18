-- `rulefile::reading::read_all` meets its contract: the lines so far and those that are left are the file's. Assumes nothing.
use Rattle.std.proofs.Common.{◌≡◌, sym, ◌∙◌, true, false, add-one, arith}
use Rattle.keyed.proofs.Said.{line_said, line_inside, line_unsaid}
use Rattle.keyed.proofs.Walks.{nearer, ahead_turn, ahead-count, ahead-whole, ahead-stored}
use Rattle.rulefile.specs.Files.{rule_form, file_lines}
use Rattle.rulefile.proofs.reading.read_all.Goals as goal

pub loop-n-smaller : goal.loop-n-smaller
loop-n-smaller c =
    let inv = c.loop-n.invariant in
    let r = rw c.key.ensures at c.read_line.ensures in
    let inside = line_inside c.read_line.result r c.in-Some.is in
    omega (arith, nearer rule_form 0 inv (line_said c.read_line.result r c.in-Some.is) inside, inside)

pub loop-n-preserved : goal.loop-n-preserved
loop-n-preserved c =
    let r = rw c.key.ensures at c.read_line.ensures in
    let inside = line_inside c.read_line.result r c.in-Some.is in
    rw c.set_at.ensures (ahead_turn rule_form 0 c.loop-n.invariant (line_said c.read_line.result r c.in-Some.is) inside)

pub returns-then-at_end-i : goal.returns-then-at_end-i
returns-then-at_end-i c =
    let inv = c.loop-n.invariant in
    let e = line_unsaid c.read_line.result (rw c.key.ensures at c.read_line.ensures) c.in_default.is in
    let q : (file_lines c.args.s.now).whole ≡ true = sym (ahead-whole rule_form 0 inv e) ∙ (rw c.at_end.ensures at c.if-at_end-i.true) in
    let n = ahead-count rule_form 0 inv e in
    record { count = rw (q, ← n); stored = ahead-stored rule_form 0 inv e }

pub returns-else-at_end-i : goal.returns-else-at_end-i
returns-else-at_end-i c =
    let inv = c.loop-n.invariant in
    let e = line_unsaid c.read_line.result (rw c.key.ensures at c.read_line.ensures) c.in_default.is in
    let q : (file_lines c.args.s.now).whole ≡ false = sym (ahead-whole rule_form 0 inv e) ∙ (rw c.at_end.ensures at c.if-at_end-i.false) in
    let n = ahead-count rule_form 0 inv e in
    record { count = rw (q, ← n, add-one); stored = ahead-stored rule_form 0 inv e }
