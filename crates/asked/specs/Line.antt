-- The line language: a tag of letters, then words with one space before each. Assumes nothing.
use Rattle.std.specs.Prelude.{ℕ, ℤ, zero, suc, ◌+◌, ◌-◌, ◌*◌, Bool, true, false, cond, ◌&&◌, List, [], ◌∷◌, leb, ltb, eqb, Float, pos, negsuc, drop, replicate, get_or, None, Option, Some}
use Rattle.std.specs.Float.{binary64}
use Rattle.std.specs.Float.Ieee.{of_bits}
use Rattle.std.proofs.lemmas.List.Edits.{sets}
use Rattle.text.specs.Digits.{Got, got, no, found, past, fixed, decimal, is_end}
use Rattle.text.specs.Quoted.{bytes}
use Rattle.asked.specs.declared.words.Words.{Words}
use Rattle.text.specs.declared.reading.Cursor.{Cursor}

-- ---- a tag

unfoldable pub letter : ℕ → Bool
letter b = leb 97 b && leb b 122

-- all letters that follow, two octal digits for each (01 for a), with the code v before them, as long as a u64 holds it
abbrev pub letters : ℕ → List ℕ → Got ℕ
letters v [] = got v []
letters v (b ∷ s) =
    cond (letter b) (cond (leb (v * 64 + (b - 96)) 18446744073709551615) (letters (v * 64 + (b - 96)) s) no) (got v (b ∷ s))

-- ---- a word

-- kind 1 is a number up to 65,535, 2 a larger one, 3 one with a minus sign, 4 the bits of a float
pub record Item : Type 0 where
  pub kind : ℕ
  pub value : ℕ

unfoldable pub kind_of : ℕ → ℕ
kind_of n = cond (leb n 65535) 1 2

-- what was read, as a word whose kind goes by its value
abbrev pub item : (ℕ → ℕ) → Got ℕ → Got Item
item kind (got n t) = got (record { kind = kind n; value = n }) t
item kind no = no

-- 0x and sixteen hexadecimal digits; a minus sign and a number; or a number
unfoldable pub word : List ℕ → Got Item
word s =
    found (past (bytes "0x") s) (λ u t. item (λ n. 4) (fixed 16 16 0 t))
    (found (past (bytes "-") s) (λ u t. item (λ n. 3) (decimal 2147483648 t))
    (item kind_of (decimal 4294967295 s)))

-- ---- a line

abbrev pub cons : Item → Got (List Item) → Got (List Item)
cons w (got ws t) = got (w ∷ ws) t
cons w no = no

-- at most so many words to the line's end, a space before each
unfoldable pub others : ℕ → List ℕ → Got (List Item)
others zero s = cond (is_end s) (got [] []) no
others (suc most) s =
    cond (is_end s) (got [] [])
    (found (past (bytes " ") s) (λ u t. found (word t) (λ w r. cons w (others most r)) no) no)

-- a kind as one more decimal digit of a form, up to sixteen. Behind sixteen a number up to 65,535 leaves the form as it is, and any other word makes it one
-- that no sixteen kinds are
unfoldable pub with_kind : ℕ → ℕ → ℕ
with_kind v kind = cond (ltb v 1000000000000000) (v * 10 + kind) (cond (eqb kind 1) v 1000000000000000)

-- the kinds as decimal digits, the first first, after those before them
abbrev pub form : ℕ → List Item → ℕ
form v [] = v
form v (w ∷ ws) = form (with_kind v w.kind) ws

abbrev pub values_of : List Item → List ℕ
values_of [] = []
values_of (w ∷ ws) = w.value ∷ values_of ws

abbrev pub zeros : List ℕ
zeros = replicate 16 0

-- a line out of form
abbrev pub unformed : Words
unformed = record { tag = 0; form = 0; values = zeros }

-- the words to come behind those that stand at the places below k; what has no place is not stored
abbrev pub packed : ℕ → ℕ → List ℕ → ℕ → Got (List Item) → Words
packed tag before values k (got ws t) = record { tag = tag; form = form before ws; values = sets values k (values_of ws) }
packed tag before values k no = unformed

-- a tag and at most 4,095 words: a line that is heard has no more, since it has at most 4,096 bytes
unfoldable pub words_of : List ℕ → Words
words_of s = found (letters 0 s) (λ tag t. packed tag 0 zeros 1 (others 4095 t)) unformed

-- ---- what the code's answers say

abbrev pub kinded : ℕ → Option (ℕ × Cursor) → Option (ℕ × ℕ × Cursor)
kinded kind (Some (n, next)) = Some (kind, n, next)
kinded kind None = None

abbrev pub found_says : List ℕ → Option (ℕ × ℕ × Cursor) → Got Item
found_says s (Some (kind, n, next)) = got (record { kind = kind; value = n }) (drop next.at s)
found_says s None = no

abbrev pub found_end : Option (ℕ × ℕ × Cursor) → ℕ
found_end (Some (kind, n, next)) = next.at
found_end None = 0

abbrev pub found_kind : Option (ℕ × ℕ × Cursor) → ℕ
found_kind (Some (kind, n, next)) = kind
found_kind None = 0

-- the value at a place, and 0 past the sixteen places
abbrev pub value_at : Words → ℕ → ℕ
value_at w i = cond (ltb i 16) (get_or w.values i 0) 0

-- a word's value, and 0 where it is larger than asked
unfoldable pub fitting : ℕ → ℕ → ℕ
fitting most v = cond (leb v most) v 0

-- a line's word: a number up to 65,535, one that a u32 holds, a float
abbrev pub small : Words → ℕ → ℕ
small w i = fitting 65535 (value_at w i)

abbrev pub large : Words → ℕ → ℕ
large w i = fitting 4294967295 (value_at w i)

abbrev pub float : Words → ℕ → Float
float w i = of_bits binary64 (value_at w i)

-- a whole number of an i32, behind a minus sign or not
unfoldable pub whole_of : Bool → ℕ → Option ℤ
whole_of false v = cond (leb v 2147483647) (Some (pos v)) None
whole_of true zero = Some (pos 0)
whole_of true (suc v) = cond (leb v 2147483647) (Some (negsuc v)) None
