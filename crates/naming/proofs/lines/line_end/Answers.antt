-- `naming::lines::line_end` meets its contract. Assumes nothing.
use Rattle.std.proofs.Common.{◌+◌, ℕ, drop, sym, ap, ◌∙◌}
use Rattle.naming.proofs.Splits.{line_taken}
use Rattle.naming.proofs.lines.line_end.Goals as goal

pub returns : goal.returns
returns c = let a = c.args in
    let e = rw c.behind.ensures at c.before_feed.ensures in
    ap (λ (n : ℕ). a.from + n) (e ∙ sym (line_taken (drop a.from a.file.now)))
