-- `asked::words::read_word` meets its contract. Assumes nothing.
use native.Mathlib.Omega.{arith}
use lib.ListN.{drop}
use Rattle.text.proofs.Said.{number_said, number_inside, number_unsaid, passed_said, passed_unsaid}
use Rattle.asked.proofs.Splits.{word_bits, word-minus, word_number, of_kind_said, number_said_as, no_word}
use Rattle.asked.proofs.words.read_word.Goals as goal

pub returns-in-Some : goal.returns-in-Some
returns-in-Some c = let a = c.args in
    let s = a.s.now in
    let x = drop a.c.at s in
    let r = of_kind_said s x 4 c.hex.result c.of_kind.result (omega arith) c.of_kind.ensures c.hex.ensures
    (word_bits x (passed_said c.pass.result c.pass.ensures c.in-Some.is)) in
    record { says = r.0; result_bound = r.1 }

pub returns-in-Some-pass : goal.returns-in-Some-pass
returns-in-Some-pass c = let a = c.args in
    let s = a.s.now in
    let x = drop a.c.at s in
    let r = of_kind_said s x 3 c.decimal.result c.of_kind-in-Some-pass.result (omega arith) c.of_kind-in-Some-pass.ensures c.decimal.ensures
    (word-minus x (passed_unsaid c.pass.result c.pass.ensures c.in_default.is) (passed_said c.pass-2.result c.pass-2.ensures c.in-Some-pass.is)) in
    record { says = r.0; result_bound = r.1 }

pub returns : goal.returns
returns c = let a = c.args in
    let s = a.s.now in
    let x = drop a.c.at s in
    let r = number_said_as s x c.kind_of.result c.in_ok-n.n c.in_ok-n.next c.kind_of.ensures
    (number_said c.decimal-2.result c.decimal-2.ensures c.in_ok-n.was) (number_inside c.decimal-2.result c.decimal-2.ensures c.in_ok-n.was)
    (word_number x (passed_unsaid c.pass.result c.pass.ensures c.in_default.is) (passed_unsaid c.pass-2.result c.pass-2.ensures c.in_default-pass.is)) in
    record { says = r.0; result_bound = r.1 }

pub returns-in_err-n : goal.returns-in_err-n
returns-in_err-n c = let a = c.args in
    let s = a.s.now in
    let x = drop a.c.at s in
    let r = no_word s x (number_unsaid c.decimal-2.result c.decimal-2.ensures c.in_err-n.was)
    (word_number x (passed_unsaid c.pass.result c.pass.ensures c.in_default.is) (passed_unsaid c.pass-2.result c.pass-2.ensures c.in_default-pass.is)) in
    rw c.from_residual.ensures (record { says = r.0; result_bound = r.1 })
