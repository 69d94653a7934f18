-- Where a list of rules first breaks a rule of acceptance: the rules in their order, in each the fields in theirs, then how many there are of each
-- kind. Assumes nothing.
use Rattle.std.specs.Prelude.{ℕ, ◌+◌, ◌-◌, ◌%◌, Bool, cond, ◌||◌, List, [], ◌∷◌, length, ◌==◌, nat_lt, Option, Some, None, option_map, find}
use Rattle.std.specs.Option.{option_or}
use Rattle.rules.specs.declared.Rule.{Rule}
use Rattle.rules.specs.Rules.{rules_of}
use Rattle.faults.specs.declared.first.Field.{Field}
use Rattle.faults.specs.declared.first.Field.TheVariants as field
use Rattle.faults.specs.declared.first.Fault.{Fault}
use Rattle.faults.specs.declared.first.Fault.TheVariants as fault

-- ---- what is allowed in a field

-- the number that stands there
abbrev pub number_in : Rule → Field → ℕ
number_in r field.Kind = r.kind
number_in r field.Year = r.year
number_in r field.Month = r.month
number_in r field.Day = r.day
number_in r field.Half = r.half
number_in r field.Kala = r.kala
number_in r field.Holiday = r.holiday

-- the smallest
abbrev pub least : Field → ℕ
least field.Kind = 1
least field.Year = 0
least field.Month = 1
least field.Day = 1
least field.Half = 0
least field.Kala = 0
least field.Holiday = 0

-- the last day of a kind: a tithi where it is computed
unfoldable pub most_day : ℕ → ℕ
most_day kind = cond (kind == 2) 31 (cond (kind == 3) 15 32)

-- a number in rules of one kind, another in the others
unfoldable pub only_in : ℕ → ℕ → ℕ → ℕ → ℕ
only_in kind one n other = cond (kind == one) n other

-- the largest; the year of an override is any, so it is its own bound
abbrev pub most : Rule → Field → ℕ
most r field.Kind = 4
most r field.Year = only_in r.kind 4 r.year 0
most r field.Month = 12
most r field.Day = most_day r.kind
most r field.Half = only_in r.kind 3 1 0
most r field.Kala = only_in r.kind 3 5 0
most r field.Holiday = 1

-- the number is below the smallest or above the largest
abbrev pub breaks : Rule → Field → Bool
breaks r f = nat_lt (number_in r f) (least f) || nat_lt (most r f) (number_in r f)

-- ---- a rule

-- the fields in the order in which they are asked
abbrev pub fields : List Field
fields = field.Kind ∷ field.Year ∷ field.Month ∷ field.Day ∷ field.Half ∷ field.Kala ∷ field.Holiday ∷ []

-- the first field that breaks a rule
unfoldable pub first_field : Rule → Option Field
first_field r = find (breaks r) fields

-- ---- a list

-- the first of these rules, before which i stand, that breaks one
unfoldable pub first_from : List Rule → ℕ → Option Fault
first_from [] i = None
first_from (r ∷ rs) i = option_or (option_map (λ f. fault.At i f r) (first_field r)) (first_from rs (i + 1))

-- the first rule of a kind before which as many of that kind stand as are left
unfoldable pub over_from : ℕ → ℕ → List Rule → ℕ → Option Fault
over_from kind left [] i = None
over_from kind left (r ∷ rs) i =
    cond (r.kind == kind) (cond (left == 0) (Some (fault.Many i kind)) (over_from kind (left - 1) rs (i + 1))) (over_from kind left rs (i + 1))

-- at most 64 rules of each of the kinds 1 to 3, and 128 of kind 4
unfoldable pub many_of : List Rule → Option Fault
many_of rs = option_or (over_from 1 64 rs 0) (option_or (over_from 2 64 rs 0) (option_or (over_from 3 64 rs 0) (over_from 4 128 rs 0)))

-- what a list of numbers breaks first as a list of rules
unfoldable pub first_fault : List ℕ → Option Fault
first_fault xs = cond (length xs % 8 == 0) (option_or (first_from (rules_of xs) 0) (many_of (rules_of xs))) (Some fault.Uneven)
