-- The year behind a row, case by case. Assumes nothing.
use Rattle.std.specs.Prelude.{None, Some}
use Prim.Native.Nat.{ℕ, ◌≤◌, ◌<◌}
use mathlib.Core.Path.{◌≡◌}
use mathlib.Core.List.{List}
use lib.ListN.{length, drop}
use Rattle.text.specs.Digits.{got, no, wide}
use Rattle.text.proofs.Texts.{cut, over}
use Rattle.fields.specs.Line.{skip, comment, year_said}

module _ (s : List ℕ) {t : List ℕ} (e : t ≡ comment s) where
  pub year_none : wide 4 t ≡ no → None ≡ year_said s
  unfolding year_said
  year_none q = rw (← e, q)

  module _ (n i end : ℕ) (q : wide 4 t ≡ got n (drop i s)) (f : drop end s ≡ skip (drop i s)) where
    pub year-more : end < length s → None ≡ year_said s
    unfolding year_said
    year-more h = rw (← e, q, ← f, cut s end h)

    pub year-all : length s ≤ end → Some n ≡ year_said s
    unfolding year_said
    year-all h = rw (← e, q, ← f, over s end h)
