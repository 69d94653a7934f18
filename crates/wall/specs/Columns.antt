-- Numbers in columns. Assumes nothing.
use Rattle.std.specs.Prelude.{ℕ, zero, suc, ◌+◌, ◌/◌, ◌%◌, cond, List, [], ◌++◌, ltb}
use Rattle.text.specs.Digits.{run, digits}
use Rattle.text.specs.Quoted.{bytes}
use Rattle.wall.specs.Words.{word, gregorian_months}

abbrev pub space : List ℕ
space = bytes " "

-- f i, f (i + step), .., n of them one after the other
unfoldable pub repeated : (ℕ → List ℕ) → ℕ → ℕ → ℕ → List ℕ
repeated f step i zero = []
repeated f step i (suc n) = f i ++ repeated f step (i + step) n

-- a number of one or two digits in two columns, a space before one digit
unfoldable pub two : ℕ → List ℕ
two n = cond (ltb n 10) (space ++ run 10 1 n) (run 10 2 n)

-- a minute of the day as 06:26; --:-- for 1440, which is none
unfoldable pub clock : ℕ → List ℕ
clock m = cond (ltb m 1440) (run 10 2 (m / 60) ++ (bytes ":" ++ run 10 2 (m % 60))) (bytes "--:--")

-- a Gregorian day in six columns: Nov 15
unfoldable pub short_date : ℕ → ℕ → List ℕ
short_date month day = word 3 month gregorian_months ++ (space ++ two day)

-- 15 November 2026
unfoldable pub full_date : ℕ → ℕ → ℕ → List ℕ
full_date year month day = digits day ++ (space ++ (word 9 month gregorian_months ++ (space ++ digits year)))
