-- `text::triples::dashed` meets its contract. Assumes nothing.
use mathlib.Core.Path.{sym}
use native.Mathlib.Omega.{arith}
use lib.ListN.{drop}
use Rattle.text.proofs.Dashes.{number_small, next_small}
use Rattle.text.proofs.triples.dashed.Goals as goal

pub overflow_cast-result : goal.overflow_cast-result
overflow_cast-result c = let a = c.args in omega (arith, number_small a.«first» _ _ _ (sym c.in_ok-y.ensures.same))

pub overflow_cast-result-then-at_end : goal.overflow_cast-result-then-at_end
overflow_cast-result-then-at_end c = let a = c.args in
    omega (arith, next_small a.others (drop c.in_ok-y.a.at a.s.now) c.in_ok-m.m (drop c.in_ok-m.b.at a.s.now) (sym c.in_ok-m.ensures.same))

pub overflow_cast-result-then-at_end-2 : goal.overflow_cast-result-then-at_end-2
overflow_cast-result-then-at_end-2 c = let a = c.args in
    omega (arith, next_small a.others (drop c.in_ok-m.b.at a.s.now) c.in_ok-d.d (drop c.in_ok-d.end.at a.s.now) (sym c.in_ok-d.ensures.same))
