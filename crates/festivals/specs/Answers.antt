-- What the enums say, and what the public calls answer and write. Assumes nothing.
use Rattle.std.specs.Prelude.{ℕ, List}
use Rattle.conversion.specs.declared.Table.{Table}
use Rattle.conversion.specs.Flat.{flat}
use Rattle.rules.specs.Rules.{rules_of, accepted_rules}
use Rattle.rules.specs.Festivals.{Listed, listed, listOnBs, listOnAd}
use Rattle.festivals.specs.Kathmandu.{kathmandu}

-- a day's list asked by BS date, and by Gregorian date: the answer, and the lent buffer
abbrev pub on_bs : Table → List ℕ → List ℕ → ℕ → ℕ → ℕ → List ℕ → Listed
on_bs t rows xs y m d out = listed (listOnBs kathmandu (flat t rows) (rules_of xs) (accepted_rules xs) y m d) out

abbrev pub on_ad : Table → List ℕ → List ℕ → ℕ → ℕ → ℕ → List ℕ → Listed
on_ad t rows xs y m d out = listed (listOnAd kathmandu (flat t rows) (rules_of xs) (accepted_rules xs) y m d) out
