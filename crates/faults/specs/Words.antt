-- What a list of rules breaks, in words. Assumes nothing.
use Rattle.std.specs.Prelude.{ℕ, ◌+◌, ◌%◌, ◌^◌, cond, List, [], ◌++◌, ◌==◌, Option, Some, None}
use Rattle.text.specs.Digits.{digits}
use Rattle.text.specs.Quoted.{bytes}
use Rattle.rules.specs.declared.Rule.{Rule}
use Rattle.faults.specs.declared.first.Field.{Field}
use Rattle.faults.specs.declared.first.Field.TheVariants as field
use Rattle.faults.specs.declared.first.Fault.{Fault}
use Rattle.faults.specs.declared.first.Fault.TheVariants as fault
use Rattle.faults.specs.Faults.{number_in, least, most}

-- the name of a field
abbrev pub name_text : Field → List ℕ
name_text field.Kind = bytes "kind"
name_text field.Year = bytes "year"
name_text field.Month = bytes "month"
name_text field.Day = bytes "day"
name_text field.Half = bytes "half"
name_text field.Kala = bytes "kala"
name_text field.Holiday = bytes "holiday"

-- 1 to 12, or one number
unfoldable pub range_text : ℕ → ℕ → List ℕ
range_text low high = cond (low == high) (digits low) (digits low ++ (bytes " to " ++ digits high))

-- the number of the rule that i come before, in 64 bits, which no list leaves
abbrev pub ordinal : ℕ → List ℕ
ordinal i = digits ((i + 1) % 2 ^ 64)

-- a sum in 64 bits
abbrev pub plus : ℕ → ℕ → ℕ
plus a b = (a + b) % 2 ^ 64

-- the line of the file that comes k lines behind the eight of each of i rules, in 64 bits
unfoldable pub line_of : ℕ → ℕ → ℕ
line_of i k = plus (plus (plus (plus i i) (plus i i)) (plus (plus i i) (plus i i))) k

-- rule 5
unfoldable pub number_text : ℕ → List ℕ
number_text i = bytes "rule " ++ ordinal i

-- rule 5 (lines 33 to 40)
unfoldable pub lines_text : ℕ → List ℕ
lines_text i = number_text i ++ (bytes " (lines " ++ (digits (line_of i 1) ++ (bytes " to " ++ (digits (line_of i 8) ++ bytes ")"))))

-- rule 5 (lines 33 to 40), kind 3
unfoldable pub rule_text : ℕ → ℕ → List ℕ
rule_text i kind = lines_text i ++ (bytes ", kind " ++ (digits kind ++ bytes ": "))

-- rule 5 (lines 33 to 40), kind 3: day is 16, expected 1 to 15
unfoldable pub field_text : ℕ → Field → Rule → List ℕ
field_text i f r =
    rule_text i r.kind ++ (name_text f ++ (bytes " is " ++ (digits (number_in r f) ++ (bytes ", expected " ++ range_text (least f) (most r f)))))

-- rule 65 (lines 513 to 520) is one too many of kind 1
unfoldable pub many_text : ℕ → ℕ → List ℕ
many_text i kind =
    lines_text i ++ (bytes " is one too many of kind " ++ (digits kind
    ++ bytes ", expected at most 64 of each of the kinds 1 to 3 and 128 of kind 4"))

-- what a list breaks first
unfoldable pub fault_text : Option Fault → List ℕ
fault_text None = bytes "no rule is broken"
fault_text (Some fault.Uneven) = bytes "its numbers are no whole rules"
fault_text (Some (fault.At i f r)) = field_text i f r
fault_text (Some (fault.Many i kind)) = many_text i kind

-- which of a rule's eight lines a field has
abbrev pub field_line : Field → ℕ
field_line field.Kind = 1
field_line field.Year = 2
field_line field.Month = 3
field_line field.Day = 4
field_line field.Half = 5
field_line field.Kala = 6
field_line field.Holiday = 8

-- , line 36
unfoldable pub at_text : ℕ → List ℕ
at_text n = bytes ", line " ++ digits n

-- data/nepal.rules, line 36: and a space
unfoldable pub line_text : List ℕ → ℕ → List ℕ
line_text path n = path ++ (at_text n ++ bytes ": ")

-- the line in which a rule is broken: the field's own, or the first of a rule that is one too many
unfoldable pub place_text : Option Fault → List ℕ
place_text None = []
place_text (Some fault.Uneven) = []
place_text (Some (fault.At i f r)) = at_text (line_of i (field_line f))
place_text (Some (fault.Many i kind)) = at_text (line_of i 1)

-- the refusal behind the name of the file
unfoldable pub refusal_text : Option Fault → List ℕ
refusal_text f = place_text f ++ (bytes ": refused with 2: " ++ (fault_text f ++ bytes "\n"))
