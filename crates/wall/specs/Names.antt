-- The name of a festival on a page. Assumes nothing.
use Rattle.std.specs.Prelude.{ℕ, cond, List, ◌++◌}
use Rattle.text.specs.Digits.{digits}
use Rattle.text.specs.Quoted.{bytes}
use Rattle.naming.specs.Names.{has_name, name_of}

-- name 12: what stands for a name without text
unfoldable pub numbered : ℕ → List ℕ
numbered n = bytes "name " ++ digits n

-- the text of number n in a file of names
unfoldable pub name_text : ℕ → List ℕ → List ℕ
name_text n names = cond (has_name n names) (name_of n names) (numbered n)
