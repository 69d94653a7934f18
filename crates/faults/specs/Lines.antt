-- A line of a rule file that is not the one due: what was expected there, and what is plainly wrong with it. Assumes nothing.
use Rattle.std.specs.Prelude.{ℕ, ◌%◌, cond, ◌&&◌, List, [], ◌∷◌, ◌++◌, ◌==◌, slice_index_or, Option, Some, None}
use Rattle.std.specs.Bool.{then_some}
use Rattle.std.specs.Option.{option_or, option_and_then}
use Rattle.text.specs.Digits.{found, past, starts, is_end, decimal, wide}
use Rattle.text.specs.Quoted.{bytes}
use Rattle.rulefile.specs.Files.{keys}
use Rattle.naming.specs.Names.{marked}
use Rattle.faults.specs.declared.lines.Reason.{Reason}
use Rattle.faults.specs.declared.lines.Reason.TheVariants as reason

-- the key of the line that i come before, and the sign behind it
unfoldable pub key_text : ℕ → List ℕ
key_text i = slice_index_or keys (i % 8) [] ++ bytes "="

-- ---- what is plainly wrong

-- a number that is in form lacks its line feed where the text is over; one that is not has a leading zero (48), or is too large where it begins with a digit
unfoldable pub number_reason : List ℕ → Option Reason
number_reason t =
    found (decimal 65535 t) (λ n u. then_some (is_end u) reason.NoFeed)
    (cond (starts 48 t) (Some reason.Zero) (found (wide 1 t) (λ n u. Some reason.Large) None))

-- the last byte of the line with which a text begins, behind another byte
abbrev pub end_byte : Option ℕ → List ℕ → Option ℕ
end_byte b [] = b
end_byte b (x ∷ s) = cond (x == 10) b (end_byte (Some x) s)

-- a line ends in a carriage return (13), a tab (9) or a space (32)
unfoldable pub byte_reason : ℕ → Option Reason
byte_reason b = cond (b == 13) (Some reason.CarriageReturn) (cond (b == 9) (Some reason.Tab) (cond (b == 32) (Some reason.Space) None))

-- the number behind the key that is due
unfoldable pub key_reason : ℕ → List ℕ → Option Reason
key_reason i s = found (past (key_text i) s) (λ u t. number_reason t) None

-- the line that i come before, with which a text begins
unfoldable pub reason_of : ℕ → List ℕ → Option Reason
reason_of i s = cond (is_end s) (Some reason.FileEnds) (cond (i == 0 && marked s) (Some reason.Mark) (option_or (option_and_then byte_reason (end_byte None s)) (key_reason i s)))

-- ---- in words

abbrev pub reason_text : Option Reason → List ℕ
reason_text None = bytes "\n"
reason_text (Some reason.FileEnds) = bytes ": the file ends inside a rule\n"
reason_text (Some reason.Mark) = bytes ": the file begins with a byte order mark\n"
reason_text (Some reason.CarriageReturn) = bytes ": the line ends in CR LF, not in LF alone\n"
reason_text (Some reason.Tab) = bytes ": the line ends in a tab\n"
reason_text (Some reason.Space) = bytes ": the line ends in a space\n"
reason_text (Some reason.Zero) = bytes ": the number has a leading zero\n"
reason_text (Some reason.Large) = bytes ": the number is above 65535\n"
reason_text (Some reason.NoFeed) = bytes ": the file's last line has no line feed\n"

-- expected day=NUMBER, and what is plainly wrong
unfoldable pub line_fault_text : ℕ → List ℕ → List ℕ
line_fault_text i s = bytes "expected " ++ (key_text i ++ (bytes "NUMBER" ++ reason_text (reason_of i s)))
