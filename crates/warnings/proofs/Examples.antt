-- The examples, worked out by antt. Assumes nothing.
use mathlib.Core.Path.{refl}
use Rattle.paper.specs.Sums.{sum, all}
use Rattle.gregorian.specs.Calendar.{is_date, day_number}
use Rattle.conversion.specs.Calendar.{month_len}
use Rattle.conversion.specs.Flat.{row_ok, accepted}
use Rattle.text.specs.Digits.{mark, run, places_in, worth, decimal}
use Rattle.naming.specs.Names.{headed, text_of, has_name}
use Rattle.faults.specs.Words.{line_of, number_text, lines_text, at_text, line_text}
use Rattle.warnings.specs.Warnings.{first_like, shared, no_text, no_day, beside}
use Rattle.warnings.specs.Words.{labelled, name_text, date_text, day_text, what_text, warning_text, told_text, rule_text, warnings_text}
use Rattle.warnings.specs.Examples.{Examples}

pub checked : Examples
unfolding warnings_text rule_text told_text warning_text what_text day_text date_text name_text labelled first_like shared no_text no_day beside month_len accepted row_ok all sum is_date day_number has_name text_of headed decimal worth mark run places_in line_of number_text lines_text at_text line_text
checked =
    record {
      first_good = refl;
      second_good = refl;
      third_good = refl;
      past_end = refl;
      twice = refl;
      not_first = refl;
      shared = refl;
      no_text = refl;
      told_once = refl;
      no_day_law = refl;
      beside = refl;
      no_names = refl;
    }
