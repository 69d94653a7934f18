-- What is proved of UTF-8 and of the front of a text (proofs/Theorems.antt). Assumes nothing.
use Rattle.std.specs.Prelude.{ℕ, ◌*◌, ◌≤◌, ◌≡◌, Bool, true, List, ◌++◌, length}
use Rattle.utf8.specs.Utf8.{utf8}
use Rattle.utf8.specs.Encoded.{encoded, scalars}
use Rattle.utf8.specs.Controls.{clear}
use Rattle.utf8.specs.Characters.{characters, front}

-- characters whose bytes a text is
pub record Decoded (s : List ℕ) : Type 0 where
  pub characters : List ℕ
  pub good : scalars characters ≡ true
  pub same : s ≡ encoded characters

-- a text is UTF-8 exactly if it is the bytes of some characters
pub record Exact : Type 0 where
  pub encodes : (cs : List ℕ) → scalars cs ≡ true → utf8 (encoded cs) ≡ true
  pub decodes : (s : List ℕ) → utf8 s ≡ true → Decoded s

-- a text is its front and what is cut off behind it
pub record Cut (s t : List ℕ) : Type 0 where
  pub behind : List ℕ
  pub same : s ≡ t ++ behind

-- The front of a text has no more characters than are asked for, and is the whole text where that has no more. No character is cut: of UTF-8 it is UTF-8,
-- and then of four bytes a character at most. It has no control character where the text has none.
pub record Fronts : Type 0 where
  pub part : (most : ℕ) (s : List ℕ) → Cut s (front most s)
  pub few : (most : ℕ) (s : List ℕ) → characters (front most s) ≤ most
  pub whole : (most : ℕ) (s : List ℕ) → characters s ≤ most → front most s ≡ s
  pub stays : (most : ℕ) (s : List ℕ) → utf8 s ≡ true → utf8 (front most s) ≡ true
  pub short : (most : ℕ) (s : List ℕ) → utf8 s ≡ true → length (front most s) ≤ 4 * most
  pub plain : (feed : Bool) (most : ℕ) (s : List ℕ) → clear feed s ≡ true → clear feed (front most s) ≡ true
