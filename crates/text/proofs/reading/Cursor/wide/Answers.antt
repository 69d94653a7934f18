-- `text::reading::Cursor::wide` meets its contract. Assumes nothing.
use native.Mathlib.Omega.{arith}
use lib.ListN.{drop}
use Rattle.text.proofs.Turns.{wide_is, wide_not}
use Rattle.text.proofs.reading.Cursor.wide.Goals as goal

pub returns-then-k-le19 : goal.returns-then-k-le19
returns-then-k-le19 c = let a = c.args in rw (wide_is a.k (drop a.self.at a.s.now) c.if-k-le19.true) c.read_fixed.ensures

pub returns : goal.returns
returns c = let a = c.args in record { same = wide_not a.k (drop a.self.at a.s.now) c.if-k-le19.false; inside = omega arith }
