-- The festival rules over the small sky hold, each by computation. Assumes nothing.
use mathlib.Core.Path.{refl}
use Rattle.paper.specs.Answers.{given, then}
use Rattle.paper.specs.Sums.{sum}
use Rattle.conversion.specs.Calendar.{last, to_day, from_day}
use Rattle.rules.specs.Days.{next, holds, or_else, first_from, rank, claims, claimed, asked_day, festival_day}
use Rattle.rules.specs.Festivals.{dated, last_of, in_table, beginning, moons, in_month, opening, rule_day, entry, entry_on, picked, any, kept_after, kept, silenced, is_computed, day_pairs, day_list}
use Rattle.grid.specs.Cells.{any_holiday}
use Rattle.holiday.specs.Holiday.{holiday_by}
use Rattle.steady.specs.SmallSky.{SmallSky}

pub small_sky : SmallSky
unfolding sum last to_day from_day next holds or_else first_from rank claims claimed asked_day festival_day dated last_of in_table beginning moons in_month opening rule_day entry entry_on picked any kept_after kept silenced is_computed day_pairs day_list any_holiday holiday_by
small_sky =
    record {
      first_inside = refl;
      second_inside = refl;
      second_opens = refl;
      none_opens = refl;
      nishita_at_end = refl;
      nishita_cut = refl;
      nishita_at_start = refl;
      kala_at_end = refl;
      kala_before_end = refl;
      kala_at_start = refl;
      by_kala = refl;
      no_kala = refl;
      by_udaya = refl;
      no_udaya = refl;
      by_beginning = refl;
      at_once = refl;
      resolved = refl;
      unresolved = refl;
      year_before = refl;
      silenced_by_own = refl;
      not_by_before = refl;
      before_removal = refl;
      removed = refl;
      apart = refl;
      holiday_marked = refl;
      holiday_removed = refl;
      holiday_apart = refl;
      holiday_saturday = refl;
      holiday_friday = refl;
      holiday_sunday = refl;
    }
