-- The kalas: the instants and spans of a day at which festival rules are evaluated. Assumes nothing.
use Rattle.std.specs.Prelude.{ℕ, Bool, true, false, Float, None, Option, Some}
use Rattle.paper.specs.Floats.{◌⊕◌, ◌⊖◌, ◌⊗◌, ◌⊘◌, dec}
use Rattle.panchanga.specs.declared.Kala.{Kala}
use Rattle.panchanga.specs.declared.Kala.TheVariants.{Udaya, Madhyanna, Aparahna, Pradosh, Nishita, Begins}

-- The instant of a kala on a day with this sunrise and sunset. Daylight has five equal parts: madhyanna begins the third, aparahna the fourth.
-- Pradosh is 45 minutes after sunset. Nishita lies in the night and begins is no instant: asked here, they give sunrise.
unfoldable pub kala_at : Kala → Float → Float → Float
kala_at Udaya rise set = rise
kala_at Madhyanna rise set = rise ⊕ (set ⊖ rise) ⊗ dec 4 1
kala_at Aparahna rise set = rise ⊕ (set ⊖ rise) ⊗ dec 6 1
kala_at Pradosh rise set = set ⊕ dec 45 0 ⊘ dec 1440 0
kala_at Nishita rise set = rise
kala_at Begins rise set = rise

abbrev pub is_nishita : Kala → Bool
is_nishita Udaya = false
is_nishita Madhyanna = false
is_nishita Aparahna = false
is_nishita Pradosh = false
is_nishita Nishita = true
is_nishita Begins = false

-- k of the fifteen muhurtas of the night from a sunset to the next sunrise are over
unfoldable pub muhurta : ℕ → Float → Float → Float
muhurta k set next = set ⊕ (next ⊖ set) ⊗ dec k 0 ⊘ dec 15 0

-- nishita is the eighth muhurta
abbrev pub nishita_of : Float → Float → Float × Float
nishita_of set next = (muhurta 7 set next, muhurta 8 set next)

-- by the sun's events of a day and of the next; none where one of them has none
abbrev pub nishita_between : Option (Float × Float) → Option (Float × Float) → Option (Float × Float)
nishita_between None b = None
nishita_between (Some a) None = None
nishita_between (Some a) (Some b) = Some (nishita_of a.1 b.0)

-- the middle of two instants
unfoldable pub middle : Float × Float → Float
middle w = (w.0 ⊕ w.1) ⊘ dec 2 0
