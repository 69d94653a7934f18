-- `files::listing::rules_in` meets its contract. Assumes nothing.
use Rattle.std.proofs.Common.{arith}
use Rattle.files.proofs.Whole.{read_fits, rules_are, rules_refused}
use Rattle.files.proofs.listing.rules_in.Goals as goal

pub overflow_mul-result : goal.overflow_mul-result
overflow_mul-result c = let a = c.args in
    let h = read_fits a.text.now a.rules.now c.read_rules.ensures c.in-Ok.is in
    omega arith

pub returns-in-Ok : goal.returns-in-Ok
returns-in-Ok c = let a = c.args in rules_are a.text.now a.rules.now c.read_rules.ensures c.in-Ok.is

pub returns-in-Err : goal.returns-in-Err
returns-in-Err c = let a = c.args in rules_refused a.text.now a.rules.now c.read_rules.ensures c.in-Err.is c.refused.ensures
