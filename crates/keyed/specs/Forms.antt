-- Texts that are lines `key=NUMBER` one after the other, where what was read so far says which key is due. A list of records with the same
-- keys is one such form. Assumes nothing.
use Rattle.std.specs.Prelude.{ℕ, zero, suc, ◌≤◌, ◌≡◌, Bool, true, false, cond, ◌&&◌, List, [], ◌∷◌, ◌++◌, length}
use Rattle.text.specs.Digits.{is_end, Got, no, found}
use Rattle.keyed.specs.Lines.{line_text, line}

-- at each state: whether a line may follow and under which key, whether the text may end, and the state after a number
pub record Form (S : Type 0) : Type 0 where
  pub more : S → Bool
  pub key : S → List ℕ
  pub ends : S → Bool
  pub next : S → ℕ → S

-- the numbers of all lines before the first that is not the one due, and whether there is none such
pub record Found : Type 0 where
  pub numbers : List ℕ
  pub whole : Bool

-- the number of the line that is out of form or missing, counted from 1
abbrev pub told_line : Found → ℕ
told_line r = suc (length r.numbers)

abbrev pub also : ℕ → Found → Found
also n r = record { numbers = n ∷ r.numbers; whole = r.whole }

abbrev pub nothing : Bool → Found
nothing b = record { numbers = []; whole = b }

module _ {S : Type 0} (f : Form S) where
  -- ---- writing

  -- the text of some numbers, each under the key that is due
  abbrev pub text : S → List ℕ → List ℕ
  text st [] = []
  text st (n ∷ ns) = line_text (f.key st) n ++ text (f.next st n) ns

  -- the state after some numbers
  abbrev pub after : S → List ℕ → S
  after st [] = st
  after st (n ∷ ns) = after (f.next st n) ns

  -- each of these numbers is at most 65,535 and stands where a line may follow
  abbrev pub Keeps : S → List ℕ → Type 0
  Keeps st [] = Unit {0}
  Keeps st (n ∷ ns) = (n ≤ 65535) × (f.more st ≡ true) × Keeps (f.next st n) ns

  -- ---- reading

  -- the line due, off the front of a text
  abbrev pub due : S → List ℕ → Got ℕ
  due st s = cond (f.more st) (line (f.key st) s) no

  -- nothing is left where the text may end
  abbrev pub over : S → List ℕ → Bool
  over st s = is_end s && f.ends st

  -- all lines of a text; so many turns as the text has bytes are enough
  unfoldable pub lines_in : ℕ → S → List ℕ → Found
  lines_in zero st s = nothing (over st s)
  lines_in (suc turns) st s = found (due st s) (λ n t. also n (lines_in turns (f.next st n) t)) (nothing (over st s))

  abbrev pub lines : S → List ℕ → Found
  lines st s = lines_in (length s) st s

  -- ---- what is claimed of a text

  -- it is the writing of some numbers that the form allows
  pub record Writing (st : S) (s ns : List ℕ) : Type 0 where
    pub keeps : Keeps st ns
    pub ends : f.ends (after st ns) ≡ true
    pub same : s ≡ text st ns

  -- it is out of form at line k: the lines before are those of some numbers, what follows them is the line of no number, and the text may not end there
  pub record OutAt (st : S) (s : List ℕ) (k : ℕ) : Type 0 where
    pub before : List ℕ
    pub rest : List ℕ
    pub same : s ≡ text st before ++ rest
    pub keeps : Keeps st before
    pub number : k ≡ suc (length before)
    pub other : (n : ℕ) (t : List ℕ) → Keeps (after st before) (n ∷ []) → rest ≡ line_text (f.key (after st before)) n ++ t → ⊥
    pub unfinished : rest ≡ [] → f.ends (after st before) ≡ false
