-- The lines that `convert` reads: bs=Y-M-D with numbers at most 65,535 and no leading zeros, and ad=YYYY-MM-DD. Assumes nothing.
use Rattle.std.specs.Prelude.{ℕ, zero, suc, ◌≤◌, ◌<◌, ◌^◌, ◌≡◌, List, ◌++◌, None, Option, Some}
use Rattle.text.specs.Digits.{run, digits, found, past}
use Rattle.text.specs.Quoted.{bytes}
use Rattle.text.specs.Dashed.{dash, numbers, ended}
use Rattle.convert.specs.declared.line.Line.{Line}
use Rattle.convert.specs.declared.line.Line.TheVariants.{Bs, Ad}

-- ---- three numbers with a dash between them

-- a number in the fewest digits (width 0), or in so many
abbrev pub number_text : ℕ → ℕ → List ℕ
number_text zero n = digits n
number_text (suc k) n = run 10 (suc k) n

-- the first of one width, the others of another
abbrev pub numbers_text : ℕ → ℕ → ℕ → ℕ → ℕ → List ℕ
numbers_text first others y m d = number_text first y ++ ((dash ++ number_text others m) ++ (dash ++ number_text others d))

-- ---- a line

abbrev pub bs_tag : List ℕ
bs_tag = bytes "bs="

abbrev pub ad_tag : List ℕ
ad_tag = bytes "ad="

abbrev pub bs_line : ℕ → ℕ → ℕ → List ℕ
bs_line y m d = bs_tag ++ numbers_text 0 0 y m d

abbrev pub ad_line : ℕ → ℕ → ℕ → List ℕ
ad_line y m d = ad_tag ++ numbers_text 4 2 y m d

-- three numbers of one of the two lines
abbrev pub as_bs : Option (ℕ × ℕ × ℕ) → Option Line
as_bs (Some (y, m, d)) = Some (Bs y m d)
as_bs None = None

abbrev pub as_ad : Option (ℕ × ℕ × ℕ) → Option Line
as_ad (Some (y, m, d)) = Some (Ad y m d)
as_ad None = None

-- a line of another form is none
unfoldable pub line_form : List ℕ → Option Line
line_form s =
    found (past bs_tag s) (λ u t. as_bs (ended (numbers 0 0 t)))
    (found (past ad_tag s) (λ u t. as_ad (ended (numbers 4 2 t))) None)

-- ---- the same, by what is written

pub record IsBs (s : List ℕ) (y m d : ℕ) : Type 0 where
  pub year : y ≤ 65535
  pub month : m ≤ 65535
  pub day : d ≤ 65535
  pub same : s ≡ bs_line y m d

pub record IsAd (s : List ℕ) (y m d : ℕ) : Type 0 where
  pub year : y < 10 ^ 4
  pub month : m < 10 ^ 2
  pub day : d < 10 ^ 2
  pub same : s ≡ ad_line y m d

-- a line is the writing of three numbers in one of the two forms, or in neither
abbrev pub LineIs : List ℕ → Option Line → Type 0
LineIs s (Some (Bs y m d)) = IsBs s y m d
LineIs s (Some (Ad y m d)) = IsAd s y m d
LineIs s None = ((y m d : ℕ) → IsBs s y m d → ⊥) × ((y m d : ℕ) → IsAd s y m d → ⊥)
