-- `asked::words::read_tag` meets its contract: the code so far and what is left of the line. Assumes nothing.
use Prim.Native.Nat.{◌+◌, ◌-◌, ◌*◌, ◌≤◌}
use mathlib.Core.Path.{◌≡◌, refl, sym, ◌∙◌}
use mathlib.Core.Bool.{true}
use native.Mathlib.Omega.{arith}
use lib.ListN.{get_or, length}
use Rattle.asked.specs.Line.{letter}
use Rattle.asked.proofs.Splits.{letter_is, letters_over, letters_stop, letters_large, letters_turn}
use Rattle.asked.proofs.words.read_tag.Goals as goal

pub loop-i-init : goal.loop-i-init
loop-i-init c = refl

pub returns-then-not-is_letter : goal.returns-then-not-is_letter
returns-then-not-is_letter c = let a = c.args in
    let l = c.loop-i in
    record {
      same = letters_stop a.s.now l.i l.v c.loop-i-test.true (sym c.is_letter.ensures ∙ c.if-not-is_letter.true) ∙ l.invariant;
      inside = omega arith;
    }

pub overflow_sub-d : goal.overflow_sub-d
overflow_sub-d c = let x = get_or c.args.s.now c.loop-i.i 0 in
    omega (arith, letter_is x (sym c.is_letter.ensures ∙ c.if-not-is_letter.false))

pub overflow_cast-d : goal.overflow_cast-d
overflow_cast-d c = let x = get_or c.args.s.now c.loop-i.i 0 in
    omega (arith, letter_is x (sym c.is_letter.ensures ∙ c.if-not-is_letter.false))

pub overflow_sub-d-in-loop-i : goal.overflow_sub-d-in-loop-i
overflow_sub-d-in-loop-i c = let x = get_or c.args.s.now c.loop-i.i 0 in
    omega (arith, letter_is x (sym c.is_letter.ensures ∙ c.if-not-is_letter.false))

pub returns-then-d-v : goal.returns-then-d-v
returns-then-d-v c = let a = c.args in
    let l = c.loop-i in
    let x = get_or a.s.now l.i 0 in
    let d : letter x ≡ true = sym c.is_letter.ensures ∙ c.if-not-is_letter.false in
    let g = letter_is x d in
    record { same = letters_large a.s.now l.i l.v c.loop-i-test.true d (omega arith) ∙ l.invariant; inside = omega arith }

pub overflow_mul-v : goal.overflow_mul-v
overflow_mul-v c = let x = get_or c.args.s.now c.loop-i.i 0 in
    omega (arith, letter_is x (sym c.is_letter.ensures ∙ c.if-not-is_letter.false))

pub overflow_add-v : goal.overflow_add-v
overflow_add-v c = let x = get_or c.args.s.now c.loop-i.i 0 in
    omega (arith, letter_is x (sym c.is_letter.ensures ∙ c.if-not-is_letter.false))

pub loop-i-preserved : goal.loop-i-preserved
loop-i-preserved c = let a = c.args in
    let l = c.loop-i in
    let x = get_or a.s.now l.i 0 in
    let d : letter x ≡ true = sym c.is_letter.ensures ∙ c.if-not-is_letter.false in
    let g = letter_is x d in
    let m : l.v * 64 + (x - 96) ≤ 18446744073709551615 = omega arith in
    letters_turn a.s.now l.i l.v c.loop-i-test.true d m ∙ l.invariant

pub returns : goal.returns
returns c = let a = c.args in
    let l = c.loop-i in
    let e : l.i ≡ length a.s.now = omega arith in
    record { same = rw e at (letters_over a.s.now l.i l.v (omega arith) ∙ l.invariant); inside = omega arith }
