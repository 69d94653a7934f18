-- The tags of the line language: two octal digits for each letter, 01 for a to 32 for z. Assumes nothing.
use Rattle.std.specs.Prelude.{ℕ, ◌+◌, ◌-◌, ◌*◌, List, [], ◌∷◌}
use Prim.Native.String.{String}
use Rattle.text.specs.Quoted.{bytes}

-- the letters that follow a code
abbrev pub coded : ℕ → List ℕ → ℕ
coded v [] = v
coded v (b ∷ s) = coded (v * 64 + (b - 96)) s

abbrev pub tag : String → ℕ
tag letters = coded 0 (bytes letters)

abbrev pub TABLE : ℕ
TABLE = tag "table"

abbrev pub CELLS : ℕ
CELLS = tag "cells"

abbrev pub RULES : ℕ
RULES = tag "rules"

abbrev pub RULE : ℕ
RULE = tag "rule"

abbrev pub TEXT : ℕ
TEXT = tag "text"

abbrev pub CHECK : ℕ
CHECK = tag "check"

abbrev pub CHECKRULES : ℕ
CHECKRULES = tag "checkrules"

abbrev pub READRULES : ℕ
READRULES = tag "readrules"

abbrev pub WRITERULES : ℕ
WRITERULES = tag "writerules"

abbrev pub BS : ℕ
BS = tag "bs"

abbrev pub AD : ℕ
AD = tag "ad"

abbrev pub LEN : ℕ
LEN = tag "len"

abbrev pub VALID : ℕ
VALID = tag "valid"

abbrev pub STEP : ℕ
STEP = tag "step"

abbrev pub DAY : ℕ
DAY = tag "day"

abbrev pub DATE : ℕ
DATE = tag "date"

abbrev pub JD : ℕ
JD = tag "jd"

abbrev pub DELTAT : ℕ
DELTAT = tag "deltat"

abbrev pub TT : ℕ
TT = tag "tt"

abbrev pub SUN : ℕ
SUN = tag "sun"

abbrev pub MOON : ℕ
MOON = tag "moon"

abbrev pub ELONG : ℕ
ELONG = tag "elong"

abbrev pub TITHI : ℕ
TITHI = tag "tithi"

abbrev pub TITHIOF : ℕ
TITHIOF = tag "tithiof"

abbrev pub STARTS : ℕ
STARTS = tag "starts"

abbrev pub END : ℕ
END = tag "end"

abbrev pub EVENTS : ℕ
EVENTS = tag "events"

abbrev pub RISE : ℕ
RISE = tag "rise"

abbrev pub SET : ℕ
SET = tag "set"

abbrev pub KALA : ℕ
KALA = tag "kala"

abbrev pub NISHITA : ℕ
NISHITA = tag "nishita"

abbrev pub NPT : ℕ
NPT = tag "npt"

abbrev pub CLOCK : ℕ
CLOCK = tag "clock"

abbrev pub MINUTES : ℕ
MINUTES = tag "minutes"

abbrev pub READ : ℕ
READ = tag "read"

abbrev pub LISTBS : ℕ
LISTBS = tag "listbs"

abbrev pub LISTAD : ℕ
LISTAD = tag "listad"

abbrev pub GRID : ℕ
GRID = tag "grid"

abbrev pub HOLIDAY : ℕ
HOLIDAY = tag "holiday"

abbrev pub START : ℕ
START = tag "start"

abbrev pub TAKE : ℕ
TAKE = tag "take"

abbrev pub APPEND : ℕ
APPEND = tag "append"

abbrev pub ASKBS : ℕ
ASKBS = tag "askbs"

abbrev pub ASKAD : ℕ
ASKAD = tag "askad"

abbrev pub ASKGRID : ℕ
ASKGRID = tag "askgrid"

abbrev pub FORGET : ℕ
FORGET = tag "forget"

abbrev pub STORED : ℕ
STORED = tag "stored"

abbrev pub SIN : ℕ
SIN = tag "sin"

abbrev pub COS : ℕ
COS = tag "cos"

abbrev pub ASIN : ℕ
ASIN = tag "asin"

abbrev pub ACOS : ℕ
ACOS = tag "acos"

abbrev pub TAN : ℕ
TAN = tag "tan"
