-- Texts at the borders of UTF-8, computed. Assumes nothing.
use Rattle.std.specs.Prelude.{Some}
use mathlib.Core.Path.{◌≡◌, refl}
use mathlib.Core.Bool.{true, false}
use mathlib.Core.List.{[], ◌∷◌}
use Rattle.utf8.specs.Utf8.{follow, low, high, utf8}
use Rattle.utf8.specs.Controls.{control, first_control, clear}
use Rattle.utf8.specs.Characters.{goes_on, front}

-- the euro sign; U+10FFFF
pub are_utf8 : (utf8 (226 ∷ 130 ∷ 172 ∷ []) ≡ true) × (utf8 (244 ∷ 143 ∷ 191 ∷ 191 ∷ []) ≡ true)
unfolding follow low high
are_utf8 = (refl, refl)

-- 0 in two bytes, U+07FF in three, the surrogate U+D800, U+110000, and a euro sign without its last byte
pub are_not : (utf8 (192 ∷ 128 ∷ []) ≡ false) × (utf8 (224 ∷ 159 ∷ 191 ∷ []) ≡ false) × (utf8 (237 ∷ 160 ∷ 128 ∷ []) ≡ false)
    × (utf8 (244 ∷ 144 ∷ 128 ∷ 128 ∷ []) ≡ false) × (utf8 (226 ∷ 130 ∷ []) ≡ false)
unfolding follow low high
are_not = (refl, refl, refl, refl, refl)

-- the first of two characters, of two bytes each; none of them
pub are_fronts : (front 1 (195 ∷ 169 ∷ 195 ∷ 168 ∷ []) ≡ 195 ∷ 169 ∷ []) × (front 0 (195 ∷ 169 ∷ []) ≡ [])
unfolding goes_on
are_fronts = (refl, refl)

-- a line feed passes where the flag says so, a carriage return never
pub are_controls : (clear true (65 ∷ 10 ∷ []) ≡ true) × (clear false (65 ∷ 10 ∷ []) ≡ false) × (first_control true (65 ∷ 13 ∷ 127 ∷ []) ≡ Some 13)
unfolding control
are_controls = (refl, refl, refl)
