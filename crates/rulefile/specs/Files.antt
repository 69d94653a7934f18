-- The rules as a text file: eight lines `key=NUMBER` for each rule, in the order of its fields; how a file is read and written. Assumes nothing.
use Rattle.std.specs.Prelude.{ℕ, ◌+◌, ◌/◌, ◌%◌, true, List, [], ◌∷◌, ◌++◌, leb, eqb, length, get_or, drop, Err, Ok}
use Rattle.paper.specs.Answers.{Answer, given}
use Rattle.paper.specs.declared.Refusal.TheVariants.{BadRules, NoRoom, OutOfForm}
use Rattle.text.specs.Quoted.{bytes}
use Rattle.keyed.specs.Forms.{Form, Found, told_line, text, lines}
use Rattle.rules.specs.Rules.{accepted_rules}

abbrev pub keys : List (List ℕ)
keys = bytes "kind" ∷ bytes "year" ∷ bytes "month" ∷ bytes "day" ∷ bytes "half" ∷ bytes "kala" ∷ bytes "name" ∷ bytes "holiday" ∷ []

-- the state is how many lines stand before: a line may always follow, and the text may end after each eight
abbrev pub rule_form : Form ℕ
rule_form = record { more = λ i. true; key = λ i. get_or keys (i % 8) []; ends = λ i. eqb (i % 8) 0; next = λ i n. i + 1 }

-- the lines of a text, and the file of a list of numbers
abbrev pub file_lines : List ℕ → Found
file_lines s = lines rule_form 0 s

abbrev pub file_text : List ℕ → List ℕ
file_text ns = text rule_form 0 ns

-- ---- what is read and written

-- the numbers of the rules of a text, for a buffer of so many: refusals 12 with the line, 2, 9
unfoldable pub rules_read : List ℕ → ℕ → Answer (List ℕ)
rules_read s room =
    given (file_lines s).whole (OutOfForm (told_line (file_lines s)))
    (given (accepted_rules (file_lines s).numbers) BadRules
    (given (leb (length (file_lines s).numbers) room) NoRoom
    (Ok (file_lines s).numbers)))

-- the file of a list of rules, for a buffer of so many bytes: refusals 2, 9
unfoldable pub file_written : List ℕ → ℕ → Answer (List ℕ)
file_written rules room =
    given (accepted_rules rules) BadRules
    (given (leb (length (file_text rules)) room) NoRoom
    (Ok (file_text rules)))

-- the count is answered, and what was read or written stands at the front of the lent buffer, with what lay past it as it was; a refusal leaves the buffer
abbrev pub into : (List ℕ → ℕ) → Answer (List ℕ) → List ℕ → Answer ℕ × List ℕ
into count (Ok vs) out = (Ok (count vs), vs ++ drop (length vs) out)
into count (Err k) out = (Err k, out)

-- how many rules are read, and the lent buffer then
abbrev pub read_into : List ℕ → List ℕ → Answer ℕ × List ℕ
read_into s out = into (λ ns. length ns / 8) (rules_read s (length out)) out

-- how many bytes are written, and the lent buffer then
abbrev pub write_into : List ℕ → List ℕ → Answer ℕ × List ℕ
write_into rules out = into length (file_written rules (length out)) out
