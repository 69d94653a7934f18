-- The examples, worked out by antt. Assumes nothing.
use mathlib.Core.Path.{refl}
use Rattle.text.specs.Digits.{worth, decimal}
use Rattle.keyed.specs.Lines.{line}
use Rattle.keyed.specs.Forms.{lines_in}
use Rattle.rulefile.specs.Examples.{Examples}

pub checked : Examples
unfolding lines_in line decimal worth
checked =
    record {
      empty = refl;
      one_rule = refl;
      too_large = (refl, refl);
      leading_zero = (refl, refl);
      other_order = (refl, refl);
      no_feed = (refl, refl);
      inside = (refl, refl);
      empty_line = (refl, refl);
    }
