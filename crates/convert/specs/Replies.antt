-- What `convert` writes for a line. Assumes nothing.
use Rattle.std.specs.Prelude.{ℕ, false, List, [], ◌++◌, Err, None, Ok, Option, Some}
use Rattle.paper.specs.Refusals.{number, told}
use Rattle.paper.specs.declared.Told.{Told}
use Rattle.paper.specs.declared.Told.TheVariants as T
use Rattle.paper.specs.Answers.{Answer}
use Rattle.text.specs.Digits.{digits}
use Rattle.text.specs.Quoted.{bytes}
use Rattle.gregorian.specs.declared.Date.{Date}
use Rattle.output.specs.Gathered.{Gathered, stored}
use Rattle.asked.specs.Runs.{Program}
use Rattle.conversion.specs.Calendar.{to_ad, from_ad}
use Rattle.conversion.specs.Own.{own}
use Rattle.conversion.specs.declared.BsDate.{BsDate}
use Rattle.convert.specs.declared.line.Line.{Line}
use Rattle.convert.specs.declared.line.Line.TheVariants.{Bs, Ad}
use Rattle.convert.specs.declared.reply.Reply.{Reply}
use Rattle.convert.specs.Lines.{numbers_text, line_form}

-- ---- a reply

-- the date as read beside the one found; a refused date as read beside none. A Gregorian date that is refused tells what its refusal tells
abbrev pub from_bs : ℕ → ℕ → ℕ → Answer Date → Reply
from_bs y m d (Ok x) = record { bs = Some (y, m, d); ad = Some (x.year, x.month, x.day); refusal = 0; told = None }
from_bs y m d (Err k) = record { bs = Some (y, m, d); ad = None; refusal = number k; told = None }

abbrev pub from_ad_date : ℕ → ℕ → ℕ → Answer BsDate → Reply
from_ad_date y m d (Ok x) = record { bs = Some (x.year, x.month, x.day); ad = Some (y, m, d); refusal = 0; told = None }
from_ad_date y m d (Err k) = record { bs = None; ad = Some (y, m, d); refusal = number k; told = told k }

unfoldable pub bs_reply : ℕ → ℕ → ℕ → Reply
bs_reply y m d = from_bs y m d (to_ad own y m d)

unfoldable pub ad_reply : ℕ → ℕ → ℕ → Reply
ad_reply y m d = from_ad_date y m d (from_ad own y m d)

-- ---- its text

-- Y-M-D or YYYY-MM-DD, by the widths, or none
abbrev pub shown_text : ℕ → ℕ → Option (ℕ × ℕ × ℕ) → List ℕ
shown_text first others (Some (y, m, d)) = numbers_text first others y m d
shown_text first others None = bytes "none"

-- the days after the last day, or behind a minus sign those before the first; 0 where no days are told
abbrev pub outside_text : Option Told → List ℕ
outside_text (Some (T.Before k)) = bytes "-" ++ digits k
outside_text (Some (T.After k)) = digits k
outside_text (Some (T.Line k)) = bytes "0"
outside_text None = bytes "0"

-- bs=.. and ad=..
abbrev pub dates_text : Option (ℕ × ℕ × ℕ) → Option (ℕ × ℕ × ℕ) → List ℕ
dates_text bs ad = bytes "bs=" ++ (shown_text 0 0 bs ++ (bytes "\nad=" ++ shown_text 4 2 ad))

-- these, refusal=.. and outside=.., each with a line feed
abbrev pub reply_text : Reply → List ℕ
reply_text r =
    dates_text r.bs r.ad
    ++ (bytes "\nrefusal=" ++ (digits r.refusal ++ (bytes "\noutside=" ++ (outside_text r.told ++ bytes "\n"))))

abbrev pub line_reply : Option Line → List ℕ
line_reply (Some (Bs y m d)) = reply_text (bs_reply y m d)
line_reply (Some (Ad y m d)) = reply_text (ad_reply y m d)
line_reply None = []

-- what is written for a line
abbrev pub reply_to : List ℕ → List ℕ
reply_to s = line_reply (line_form s)

-- ---- all replies

-- the reply to a line behind what is gathered, or at the front, once that is written out, where 80 bytes are not free: no reply is longer
unfoldable pub gather_reply : Gathered → List ℕ → Gathered
gather_reply g s = stored 80 g (reply_to s) false

-- the program holds nothing, and replies to each line
abbrev pub converting : Program (Unit {0})
converting = record { next = λ u s. u; reply = λ u g s. gather_reply g s }
