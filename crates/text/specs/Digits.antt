-- Numbers as bytes in ASCII, and what reading one off the front of a text finds. Assumes nothing.
use Rattle.std.specs.Prelude.{ℕ, zero, suc, ◌+◌, ◌-◌, ◌*◌, ◌/◌, ◌%◌, ◌^◌, Bool, true, false, cond, ◌&&◌, List, [], ◌∷◌, ltb, leb, eqb, ℤ, pos, negsuc, drop, None, Option, Some}

-- ---- writing

-- the byte of a digit below 16: 0 to 9, then a to f
unfoldable pub mark : ℕ → ℕ
mark d = cond (ltb d 10) (48 + d) (87 + d)

-- the last k digits of n in a base, the first first
unfoldable pub run : ℕ → ℕ → ℕ → List ℕ
run base zero n = []
run base (suc k) n = mark (n / base ^ k % base) ∷ run base k n

-- how many decimal digits a number takes: one, and one more for each time that it can be divided by ten; n turns are enough
unfoldable pub places_in : ℕ → ℕ → ℕ
places_in zero n = 1
places_in (suc turns) n = cond (ltb n 10) 1 (suc (places_in turns (n / 10)))

abbrev pub places : ℕ → ℕ
places n = places_in n n

-- a decimal number in the fewest digits
abbrev pub digits : ℕ → List ℕ
digits n = run 10 (places n) n

-- the same of a whole number, with a minus sign (45) below zero
abbrev pub signed_digits : ℤ → List ℕ
signed_digits (pos n) = digits n
signed_digits (negsuc n) = 45 ∷ digits (suc n)

-- ---- reading

-- what a byte is worth as a digit, and 16 where it is none
unfoldable pub worth : ℕ → ℕ
worth b = cond (leb 48 b && leb b 57) (b - 48) (cond (leb 97 b && leb b 102) (b - 87) 16)

-- a byte is a digit of a base, at most 16
abbrev pub digit : ℕ → ℕ → Bool
digit base b = ltb (worth b) base

-- what a byte is worth as a digit of a base, where it is one
abbrev pub digit_of : ℕ → ℕ → Option ℕ
digit_of base b = cond (digit base b) (Some (worth b)) None

-- the text starts with a decimal digit; with the byte b; is empty
abbrev pub starts_digit : List ℕ → Bool
starts_digit [] = false
starts_digit (b ∷ s) = digit 10 b

abbrev pub starts : ℕ → List ℕ → Bool
starts b [] = false
starts b (x ∷ s) = eqb x b

abbrev pub is_end : List ℕ → Bool
is_end [] = true
is_end (b ∷ s) = false

-- what reading off the front of a text finds: a value and the text after it, or none
pub data Got (A : Type 0) : Type 0 where
  got : A → List ℕ → Got A
  no : Got A

-- what follows from what was found, or another where nothing was
abbrev pub found : {A B : Type 0} → Got A → (A → List ℕ → B) → B → B
found (got x t) f other = f x t
found no f other = other

-- one and then another
abbrev pub both : {A B : Type 0} → (List ℕ → Got A) → (List ℕ → Got B) → List ℕ → Got (A × B)
both a b s = found (a s) (λ x t. found (b t) (λ y u. got (x, y) u) no) no

-- exactly this text
abbrev pub past : List ℕ → List ℕ → Got (Unit {0})
past [] s = got tt s
past (a ∷ w) [] = no
past (a ∷ w) (b ∷ s) = cond (eqb a b) (past w s) no

-- k digits in a base, with the number v before them
abbrev pub fixed : ℕ → ℕ → ℕ → List ℕ → Got ℕ
fixed base zero v s = got v s
fixed base (suc k) v [] = no
fixed base (suc k) v (b ∷ s) = cond (digit base b) (fixed base k (v * base + worth b) s) no

-- exactly k decimal digits, nineteen at most
unfoldable pub wide : ℕ → List ℕ → Got ℕ
wide k s = cond (leb k 19) (fixed 10 k 0 s) no

-- a text, and then another
abbrev pub behind : {A : Type 0} → List ℕ → (List ℕ → Got A) → List ℕ → Got A
behind w a s = found (past w s) (λ u t. a t) no

-- all decimal digits that follow, with the number v before them, as long as the number is at most the limit
abbrev pub scan : ℕ → ℕ → List ℕ → Got ℕ
scan limit v [] = got v []
scan limit v (b ∷ s) =
    cond (digit 10 b) (cond (leb (v * 10 + worth b) limit) (scan limit (v * 10 + worth b) s) no) (got v (b ∷ s))

-- a decimal number at most the limit, without leading zeros
unfoldable pub decimal : ℕ → List ℕ → Got ℕ
decimal limit s =
    cond (starts 48 s) (cond (starts_digit (drop 1 s)) no (got 0 (drop 1 s)))
    (cond (starts_digit s) (scan limit 0 s) no)

-- the number at most the limit that a whole text is, without leading zeros
unfoldable pub whole_number : ℕ → List ℕ → Option ℕ
whole_number limit s = found (decimal limit s) (λ n t. cond (is_end t) (Some n) None) None

-- a whole number from -2,147,483,648 to 2,147,483,647, in the fewest digits; a minus sign stands before a number below zero alone
abbrev pub above : Got ℕ → Got ℤ
above (got n t) = got (pos n) t
above no = no

abbrev pub below : Got ℕ → Got ℤ
below (got zero t) = no
below (got (suc n) t) = got (negsuc n) t
below no = no

unfoldable pub signed : List ℕ → Got ℤ
signed s = cond (starts 45 s) (below (decimal 2147483648 (drop 1 s))) (above (decimal 2147483647 s))
