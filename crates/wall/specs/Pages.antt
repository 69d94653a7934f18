-- The page of a month and the page of a day. Assumes nothing.
use Rattle.std.specs.Prelude.{ℕ, ◌-◌, ◌*◌, cond, List, ◌++◌, ltb, eqb}
use Rattle.text.specs.Digits.{digits}
use Rattle.text.specs.Quoted.{bytes}
use Rattle.gregorian.specs.declared.Date.{Date}
use Rattle.wall.specs.declared.Page.{Page}
use Rattle.wall.specs.Words.{word, weekdays, bs_months}
use Rattle.wall.specs.Columns.{space, repeated, clock, full_date}
use Rattle.wall.specs.Cells.{num, marked, border, weeks_of}
use Rattle.wall.specs.Lists.{festivals_on, festivals_of}

abbrev pub feed : List ℕ
feed = bytes "\n"

-- Kartik 2083
unfoldable pub bs_month : ℕ → ℕ → List ℕ
bs_month year month = word 8 month bs_months ++ (space ++ digits year)

abbrev pub date_text : Date → List ℕ
date_text d = full_date d.year d.month d.day

-- ---- a month

-- Kartik 2083 BS, 18 October 2026 to 16 November 2026, and an empty line
unfoldable pub title : Page → List ℕ
title p =
    bs_month p.year p.month ++ (bytes " BS, " ++ (date_text p.first ++ (bytes " to " ++ (date_text p.last ++ bytes "\n\n"))))

-- three letters of a weekday over its column
abbrev pub head : ℕ → List ℕ
head d = bytes "|   " ++ (word 3 d weekdays ++ bytes "    ")

-- the weekdays between two borders
unfoldable pub heads : List ℕ
heads = border ++ ((repeated head 1 0 7 ++ bytes "|\n") ++ border)

-- * holiday, << today; tithi 1 to 15 waxing, 16 to 30 waning half; Nepal time, and an empty line
unfoldable pub legend : List ℕ
legend = bytes "* holiday, << today; tithi 1 to 15 waxing, 16 to 30 waning half; Nepal time\n\n"

unfoldable pub month_page : Page → List ℕ → List ℕ → List ℕ → List ℕ
month_page p names cells festivals =
    title p ++ (heads ++ (weeks_of cells p.weeks ++ (legend ++ festivals_of names cells festivals (p.weeks * 7))))

-- ---- a day

-- Sunday, 29 Kartik 2083 BS
unfoldable pub day_title : ℕ → ℕ → List ℕ → ℕ → List ℕ
day_title year month cells i =
    word 9 (num cells i 4) weekdays ++ (bytes ", " ++ (digits (num cells i 0) ++ (space ++ (bs_month year month ++ bytes " BS\n"))))

-- tithi    6, waxing half 6 of 15
unfoldable pub tithi_text : ℕ → List ℕ
tithi_text t =
    bytes "tithi    " ++ (digits t ++ cond (ltb t 16)
    (bytes ", waxing half " ++ digits t)
    (bytes ", waning half " ++ digits (t - 15)))

-- when it ends, if it does on that day
unfoldable pub end_text : ℕ → List ℕ
end_text end =
    cond (ltb end 1440) (bytes " of 15, ends at " ++ (clock end ++ feed))
    (bytes " of 15, ends on a later day\n")

-- sunrise and sunset
unfoldable pub sun_text : ℕ → ℕ → List ℕ
sun_text rise set =
    bytes "sunrise  " ++ (clock rise ++ (bytes "\nsunset   " ++ (clock set ++ feed)))

-- the Gregorian date
unfoldable pub date_line : List ℕ → ℕ → List ℕ
date_line cells i = full_date (num cells i 1) (num cells i 2) (num cells i 3) ++ feed

-- the tithi, when it ends, sunrise and sunset
unfoldable pub reading_text : List ℕ → ℕ → List ℕ
reading_text cells i = tithi_text (num cells i 7) ++ (end_text (num cells i 8) ++ sun_text (num cells i 9) (num cells i 10))

-- holiday  yes (Saturday), which is weekday 6; holiday  yes; holiday  no
unfoldable pub holiday_text : List ℕ → ℕ → List ℕ
holiday_text cells i =
    marked (num cells i 6)
    (cond (eqb (num cells i 4) 6) (bytes "holiday  yes (Saturday)\n") (bytes "holiday  yes\n"))
    (bytes "holiday  no\n")

-- the day of cell i in a month
unfoldable pub day_page : ℕ → ℕ → ℕ → List ℕ → List ℕ → List ℕ → List ℕ
day_page year month i names cells festivals =
    day_title year month cells i ++ (date_line cells i ++ (reading_text cells i ++ (holiday_text cells i ++ festivals_on names cells festivals i)))
