-- What lines lend: `table`, `rules` and `text` begin a list, `cells` and `rule` add numbers at its end, `octets` adds bytes. Assumes nothing.
use Rattle.std.specs.Prelude.{ℕ, zero, suc, Option, Some, None, ◌+◌, ◌-◌, ◌*◌, min, Bool, true, false, cond, List, [], ◌∷◌, ◌++◌, eqb, ltb, length, take}
use Rattle.std.proofs.lemmas.List.Edits.{sets}
use Rattle.conversion.specs.declared.Table.{Table}
use Rattle.asked.specs.Line.{small}
use Rattle.asked.specs.Tags.{TABLE, CELLS, RULES, RULE, TEXT}
use Rattle.asked.specs.Octets.{bytes_of}
use Rattle.asked.specs.declared.bytes.Octets.{Octets}
use Rattle.asked.specs.declared.words.Words.{Words}
use Rattle.lending.specs.declared.Lent.{Lent}
use Rattle.lending.specs.declared.Lending.{Lending}
use Rattle.lending.specs.declared.Lending.TheVariants as L

-- ---- which line it is

-- the form of n numbers up to 65,535
unfoldable pub ones : ℕ → ℕ
ones zero = 0
ones (suc n) = ones n * 10 + 1

-- how many numbers up to 65,535 a form is, from 1 to most; 0 for any other form
unfoldable pub numbers_in : ℕ → ℕ → ℕ
numbers_in form zero = 0
numbers_in form (suc most) = cond (eqb form (ones (suc most))) (suc most) (numbers_in form most)

-- what a line lends where it has its form
abbrev pub in_form : Bool → Lending → Option Lending
in_form good l = cond good (Some l) None

-- `octets` with its bytes, 1 or more; `table` with four numbers, `cells` with 1 to 13, `rules` alone, `rule` with 1 to 8, `text` alone. No number is a line
-- out of form
unfoldable pub lending_of : ℕ → ℕ → ℕ → Option Lending
lending_of tag form bytes =
    cond (ltb 0 bytes) (Some L.Octets)
    (cond (eqb tag TABLE) (in_form (eqb form (ones 4)) L.Table)
    (cond (eqb tag CELLS) (Some (L.Cells (numbers_in form 13)))
    (cond (eqb tag RULES) (in_form (eqb form 0) L.Rules)
    (cond (eqb tag RULE) (Some (L.Numbers (numbers_in form 8)))
    (cond (eqb tag TEXT) (in_form (eqb form 0) L.Text)
    None)))))

-- any line that lends is not answered
abbrev pub lends : Option Lending → Bool
lends (Some L.Table) = true
lends (Some L.Rules) = true
lends (Some (L.Cells n)) = ltb 0 n
lends (Some (L.Numbers n)) = ltb 0 n
lends (Some L.Text) = true
lends (Some L.Octets) = true
lends None = false

-- ---- what is lent after it

-- a line's first n words
abbrev pub numbers_of : Words → ℕ → List ℕ
numbers_of w zero = []
numbers_of w (suc n) = numbers_of w n ++ (small w (suc n) ∷ [])

-- the numbers of a line that has numbers up to 65,535 alone; of more than fifteen the first fifteen and a 0
abbrev pub line_numbers : Words → List ℕ
line_numbers w = numbers_of w (numbers_in w.form 16)

-- what is lent, and the lists that its numbers and bytes stand in
pub record Loan : Type 0 where
  pub lent : Lent
  pub rows : List ℕ
  pub rules : List ℕ
  pub text : List ℕ

-- the lent rules
abbrev pub lent_rules : Loan → List ℕ
lent_rules x = take x.lent.numbers x.rules

abbrev pub loan_of : Lent → List ℕ → List ℕ → List ℕ → Loan
loan_of lent rows rules text = record { lent = lent; rows = rows; rules = rules; text = text }

-- where a list of so many elements ends after n more: what has no room is not taken
abbrev pub longer : List ℕ → ℕ → ℕ → ℕ
longer list from n = from + min n (length list - from)

-- the table that a line begins
abbrev pub table_in : Words → Table
table_in w = record { first_year = small w 1; year = small w 2; month = small w 3; day = small w 4 }

-- nothing: no table, no rules, no text
abbrev pub no_loan : Lent
no_loan = record { table = record { first_year = 0; year = 0; month = 0; day = 0 }; cells = 0; numbers = 0; octets = 0 }

-- a new table has no cells yet, a new rule list and a new text are empty, numbers and bytes stand at the end of theirs, and all else stays
abbrev pub after : Loan → Words → Octets → Option Lending → Loan
after x w o (Some L.Table) = record {
  lent = record { table = table_in w; cells = 0; numbers = x.lent.numbers; octets = x.lent.octets };
  rows = x.rows;
  rules = x.rules;
  text = x.text;
}
after x w o (Some L.Rules) = record {
  lent = record { table = x.lent.table; cells = x.lent.cells; numbers = 0; octets = x.lent.octets };
  rows = x.rows;
  rules = x.rules;
  text = x.text;
}
after x w o (Some L.Text) = record {
  lent = record { table = x.lent.table; cells = x.lent.cells; numbers = x.lent.numbers; octets = 0 };
  rows = x.rows;
  rules = x.rules;
  text = x.text;
}
after x w o (Some (L.Cells n)) = record {
  lent = record { table = x.lent.table; cells = longer x.rows x.lent.cells n; numbers = x.lent.numbers; octets = x.lent.octets };
  rows = sets x.rows x.lent.cells (numbers_of w n);
  rules = x.rules;
  text = x.text;
}
after x w o (Some (L.Numbers n)) = record {
  lent = record { table = x.lent.table; cells = x.lent.cells; numbers = longer x.rules x.lent.numbers n; octets = x.lent.octets };
  rows = x.rows;
  rules = sets x.rules x.lent.numbers (numbers_of w n);
  text = x.text;
}
after x w o (Some L.Octets) = record {
  lent = record {
    table = x.lent.table;
    cells = x.lent.cells;
    numbers = x.lent.numbers;
    octets = longer x.text x.lent.octets (length (bytes_of o));
  };
  rows = x.rows;
  rules = x.rules;
  text = sets x.text x.lent.octets (bytes_of o);
}
after x w o None = x

-- what is lent after a line of these words or bytes
abbrev pub loan_after : Loan → Words → Octets → Loan
loan_after x w o = after x w o (lending_of w.tag w.form o.count)
