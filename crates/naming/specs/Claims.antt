-- What is proved of files of names (proofs/Theorems.antt). Assumes nothing.
use Rattle.std.specs.Prelude.{ℕ, suc, ◌≤◌, ◌≡◌, true, false, cond, List, [], ◌∷◌, ◌++◌, eqb, length, None, Option, Some}
use Rattle.text.specs.Digits.{is_end, digits}
use Rattle.text.specs.Quoted.{bytes}
use Rattle.utf8.specs.Utf8.{utf8}
use Rattle.utf8.specs.Controls.{clear}
use Rattle.utf8.specs.Characters.{characters}
use Rattle.naming.specs.Names.{Name, are, names_of, present, shown, has_name, name_of}

-- the file of some names
abbrev pub written : List Name → List ℕ
written [] = []
written (x ∷ xs) = digits x.number ++ (bytes "=" ++ (x.text ++ (bytes "\n" ++ written xs)))

-- a name that a line can hold
pub record Good (x : Name) : Type 0 where
  pub small : x.number ≤ 65535
  pub filled : is_end x.text ≡ false
  pub encoded : utf8 x.text ≡ true
  pub plain : clear false x.text ≡ true

-- names that a file can hold: each good, each number greater than the one before
abbrev pub Rising : ℕ → List Name → Type 0
Rising least [] = Unit {0}
Rising least (x ∷ xs) = (least ≤ x.number) × Good x × Rising (suc x.number) xs

-- the text of the name of a number in a list
abbrev pub text_at : ℕ → List Name → Option (List ℕ)
text_at number [] = None
text_at number (x ∷ xs) = cond (eqb x.number number) (Some x.text) (text_at number xs)

-- A file is in form exactly if it is the file of some names that rise; and it has no others.
pub record Exact : Type 0 where
  pub reads : (s : List ℕ) (xs : List Name) → names_of s ≡ are xs → Rising 0 xs × (s ≡ written xs)
  pub writes : (xs : List Name) → Rising 0 xs → names_of (written xs) ≡ are xs
  pub same : (s t : List ℕ) (xs : List Name) → names_of s ≡ are xs → names_of t ≡ are xs → s ≡ t

-- Of a file in form, the name of a number is the text in its list, cut, and whole where it has at most 120 characters. It is UTF-8 without control
-- characters, and has at most 480 bytes.
pub record InList (s : List ℕ) (xs : List Name) (number : ℕ) : Type 0 where
  pub has : has_name number s ≡ present (text_at number xs)
  pub name : name_of number s ≡ shown (text_at number xs)
  pub whole : (t : List ℕ) → text_at number xs ≡ Some t → characters t ≤ 120 → name_of number s ≡ t
  pub encoded : utf8 (name_of number s) ≡ true
  pub plain : clear false (name_of number s) ≡ true
  pub short : length (name_of number s) ≤ 480

-- each number, in each file in form
abbrev pub Looked : Type 0
Looked = (s : List ℕ) (xs : List Name) (number : ℕ) → names_of s ≡ are xs → InList s xs number
