-- The sky, as far as festivals ask it: any instants, any astronomy. Days are day numbers; tithis, 1 to 30, and kalas, 0 to 5, are numbers. Assumes nothing.
use Rattle.std.specs.Prelude.{ℕ, Bool, List, Option}

pub record Sky (I : Type 0) : Type 0 where
  -- the new moons from 35 days before 0h of one day to 5 days after 0h of another, in their order
  pub new_moons : ℕ → ℕ → List I
  -- the day in Nepal at an instant
  pub day_of : I → Option ℕ
  -- the first start of a tithi from 0.5 to 30.0 days after a new moon
  pub start_of : ℕ → I → Option I
  -- the end of a tithi that begins at an instant: the next tithi's first start from 0.1 to 2.5 days on
  pub end_of : ℕ → I → Option I
  -- the instant of a kala other than nishita on a day
  pub kala_on : ℕ → ℕ → Option I
  -- the beginning and the end of nishita on a day
  pub nishita_on : ℕ → Option (I × I)
  -- one instant is not after another; one is before another
  pub not_after : I → I → Bool
  pub before : I → I → Bool
