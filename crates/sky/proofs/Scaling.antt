-- Remainders of natural numbers. Assumes nothing.
use mathlib.Core.Path.{◌≡◌, sym, ap, ◌∙◌}
use Prim.Native.Nat.{ℕ, ◌+◌, ◌*◌, ◌/◌, ◌%◌, ◌^◌, ◌<◌}
use native.Mathlib.Nat.{add-mul, add_comm, mul_assoc, mul_comm, div-add-mod', add-mul-mod_self_right, mod-eq_of_lt, mod-lt, mul-lt-mul_of_pos_right}
use lib.Pow.{pow-add}

-- a * c and b * c leave c times what a and b leave
pub scaled : (a b c : ℕ) → 0 < b → 0 < c → a * c % (b * c) ≡ a % b * c
scaled a b c B C =
    let parts : a * c ≡ a % b * c + a / b * (b * c) =
    ap (λ (k : ℕ). k * c) (sym (div-add-mod' a b)) ∙ add-mul (a / b * b) (a % b) c ∙ ap (λ (k : ℕ). k + a % b * c) (mul_assoc (a / b) b c) ∙ add_comm (a / b * (b * c)) (a % b * c) in
    ap (λ (k : ℕ). k % (b * c)) parts ∙ add-mul-mod_self_right (a % b * c) (a / b) (b * c) ∙ mod-eq_of_lt (mul-lt-mul_of_pos_right (mod-lt a B) C)

-- a remainder's multiple leaves what the number's multiple leaves
multiple : (a b n : ℕ) → a % n * b % n ≡ a * b % n
multiple a b n =
    let parts : a * b ≡ a % n * b + a / n * b * n =
    ap (λ (k : ℕ). k * b) (sym (div-add-mod' a n)) ∙ add-mul (a / n * n) (a % n) b ∙ add_comm (a / n * n * b) (a % n * b)
    ∙ ap (λ (k : ℕ). a % n * b + k) (mul_assoc (a / n) n b ∙ ap (λ (k : ℕ). a / n * k) (mul_comm n b) ∙ sym (mul_assoc (a / n) b n)) in
    sym (ap (λ (k : ℕ). k % n) parts ∙ add-mul-mod_self_right (a % n * b) (a / n * b) n)

-- a step of a loop that doubles
pub doubling : (d k n left : ℕ) → left ≡ d * 2 ^ k % n → left * 2 % n ≡ d * 2 ^ (k + 1) % n
doubling d k n left h =
    ap (λ (l : ℕ). l * 2 % n) h ∙ multiple (d * 2 ^ k) 2 n ∙ ap (λ (l : ℕ). l % n) (mul_assoc d (2 ^ k) 2 ∙ ap (λ (l : ℕ). d * l) (sym (pow-add 2 k 1)))
