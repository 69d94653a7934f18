-- `sky::moon::add_term` meets its contract. Assumes nothing.
use native.Mathlib.Omega.{arith}
use lib.IntN.{pos}
use mir.Syntax.{w32}
use mir.Val.{SFits}
use Rattle.sky.proofs.Signed.{is, is_not}
use Rattle.sky.proofs.Series.{term_none, term_is}
use Rattle.sky.proofs.moon.add_term.Goals as goal

pub returns-then-x-eq0 : goal.returns-then-x-eq0
returns-then-x-eq0 c =
    let s = c.args in
    let f : SFits w32 s.x.coefficient = record { sfits = omega arith } in
    term_none s.factor s.x s.sine s.sum (is w32 s.x.coefficient f 0 c.if-x-eq0.true)

pub returns : goal.returns
returns c =
    let s = c.args in
    term_is s.factor s.x s.sine s.sum (record { sfits = omega arith }) (record { sfits = omega arith }) (is_not w32 s.x.coefficient (pos 0) c.if-x-eq0.false)
    c.as_float.ensures c.factor_power.ensures
