-- Lines as they are printed: a new moon near the beginning of a solar month, what it opens, and the rules that hang on it. Assumes nothing.
use Rattle.std.specs.Prelude.{ℕ, ◌+◌, ◌-◌, Bool, false, cond, ◌&&◌, ◌||◌, List, [], ◌∷◌, ◌++◌, leb, eqb, Float}
use Rattle.text.specs.Digits.{digits}
use Rattle.text.specs.Quoted.{bytes}
use Rattle.wall.specs.Names.{name_text}
use Rattle.rules.specs.declared.Rule.{Rule}
use Rattle.conversion.specs.declared.BsDate.{BsDate}
use Rattle.panchanga.specs.Clock.{clock_of}
use Rattle.output.specs.Pieces.{Text, date_pieces, clock_pieces, span_pieces, month_pieces}

-- ---- months, counted from 1 to 12 and round again

unfoldable pub month_before : ℕ → ℕ
month_before m = cond (leb m 1) 12 (m - 1)

unfoldable pub month_after : ℕ → ℕ
month_after m = cond (leb 12 m) 1 (m + 1)

-- the two months that meet at the beginning of month m, or else at its end: the earlier and the later
unfoldable pub earlier_of : Bool → ℕ → ℕ
earlier_of beginning m = cond beginning (month_before m) m

unfoldable pub later_of : Bool → ℕ → ℕ
later_of beginning m = cond beginning m (month_after m)

-- ---- a new moon

-- its date and time in Nepal
unfoldable pub moment_pieces : Float → ℕ → List Text
moment_pieces x n = bytes "  new moon " ∷ (date_pieces n ++ (bytes " " ∷ clock_pieces (clock_of x)))

-- so many minutes after the beginning of its month, or else before the end
unfoldable pub where_pieces : BsDate → Bool → ℕ → List Text
where_pieces t after minutes =
    bytes ", "
    ∷ (span_pieces minutes
    ++ (cond after (bytes " after the beginning of ") (bytes " before the end of ")
    ∷ month_pieces t.year t.month))

-- on a line of its own, the lunar month that it opens; or none, where another follows in its solar month
unfoldable pub opening_pieces : BsDate → Bool → List Text
opening_pieces t opens =
    cond opens
    (bytes "\n    opens lunar month " ∷ digits t.month ∷ bytes "\n" ∷ [])
    (bytes "\n    opens nothing: another follows in " ∷ (month_pieces t.year t.month ++ (bytes "\n" ∷ [])))

-- a solar month without one
unfoldable pub none_pieces : ℕ → ℕ → List Text
none_pieces y m = bytes "  no new moon in " ∷ (month_pieces y m ++ (bytes ": nothing opens lunar month " ∷ digits m ∷ bytes "\n" ∷ []))

-- ---- the rules of a lunar month

-- a computed rule of the month
unfoldable pub is_of : ℕ → Rule → Bool
is_of month r = eqb r.kind 3 && eqb r.month month

-- the end of a list of rules
unfoldable pub end_of : Bool → Text
end_of begun = cond begun (bytes "\n") (bytes " none\n")

-- a rule, on a line of its own: its name as a number and as text
unfoldable pub rule_pieces : ℕ → Text → List Text
rule_pieces number name = bytes "\n      " ∷ digits number ∷ bytes " " ∷ name ∷ []

module _ (names : List ℕ) (month : ℕ) where
  -- a rule, if it is one of the month
  unfoldable pub item_pieces : Rule → List Text
  item_pieces r = cond (is_of month r) (rule_pieces r.name (name_text r.name names)) []

  -- the rules of a list, behind others or none
  unfoldable pub list_pieces : Bool → List Rule → List Text
  list_pieces begun [] = end_of begun ∷ []
  list_pieces begun (r ∷ rs) = item_pieces r ++ list_pieces (begun || is_of month r) rs

module _ (rules : List Rule) (names : List ℕ) where
  -- the month, and its rules each on a line
  unfoldable pub rules_pieces : ℕ → List Text
  rules_pieces month = bytes "    rules of lunar month " ∷ digits month ∷ bytes ":" ∷ list_pieces names month false rules

  -- a new moon after the beginning of its month or else before the end, what it opens, and the rules of the two months that meet there
  unfoldable pub beside_pieces : BsDate → Bool → Bool → ℕ → List Text
  beside_pieces t opens after minutes =
      where_pieces t after minutes
      ++ (opening_pieces t opens ++ (rules_pieces (earlier_of after t.month) ++ rules_pieces (later_of after t.month)))
