-- Two lines of `convert` (docs/RULES.md, The program `convert`): the replies to `bs=100-12-30` and `ad=1952-01-02`, byte for byte. Assumes nothing.
use mathlib.Core.Path.{◌≡◌, refl}
use Rattle.paper.specs.Answers.{given}
use Rattle.paper.specs.Sums.{sum, all}
use Rattle.text.specs.Digits.{mark, run, places_in, worth, wide, decimal}
use Rattle.text.specs.Quoted.{bytes}
use Rattle.gregorian.specs.Calendar.{leap, month_length, month_start, year_length, year_start, is_date, day_number, next_day, date_after, date_of}
use Rattle.conversion.specs.Calendar.{outside, from_day, to_ad, from_ad}
use Rattle.conversion.specs.Flat.{row_ok, accepted}
use Rattle.convert.specs.Lines.{line_form}
use Rattle.convert.specs.Replies.{bs_reply, ad_reply, reply_to}

first : reply_to (bytes "bs=100-12-30") ≡ bytes "bs=100-12-30\nad=1950-12-31\nrefusal=0\noutside=0\n"
unfolding line_form worth decimal mark run places_in bs_reply to_ad sum all row_ok accepted is_date day_number year_start year_length month_start month_length leap next_day date_after date_of
first = refl

second : reply_to (bytes "ad=1952-01-02") ≡ bytes "bs=none\nad=1952-01-02\nrefusal=7\noutside=1\n"
unfolding line_form worth wide mark run places_in ad_reply from_ad from_day outside sum all row_ok accepted is_date day_number year_start year_length month_start month_length leap
second = refl
