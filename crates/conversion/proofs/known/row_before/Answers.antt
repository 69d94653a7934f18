use native.Mathlib.Omega.{arith}
use Rattle.paper.proofs.Sums.{sum_zero}
use Rattle.conversion.specs.Inner.{column}
use Rattle.conversion.proofs.Accepted.{years_in_law}
use Rattle.conversion.proofs.known.row_before.Goals as goal

pub span-before-requires : goal.span-before-requires
span-before-requires c = years_in_law _ _ c.requires (omega (arith, c.min-guess.ensures, c.year_count-count.ensures))

pub returns-then-day-before : goal.returns-then-day-before
returns-then-day-before c = record { row = omega arith; whole = omega (arith, sum_zero (column c.args.rows.now 12 13)) }

pub returns : goal.returns
returns c =
    record {
      row = omega (arith, c.min-guess.ensures, c.year_count-count.ensures);
      whole = omega (arith, c.span-before.ensures.whole);
    }
