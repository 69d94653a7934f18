-- Meeus, table 47.A, the longitude column: sixty rows of the multiples of D, M, M', F and the coefficient in millionths of a degree. Assumes nothing.
use Rattle.std.specs.Prelude.{List, [], ◌∷◌, ℕ, ℤ, pos, neg_ℤ}

-- minus n
abbrev pub neg : ℕ → ℤ
neg n = neg_ℤ (pos n)

abbrev pub moon_terms : List ℤ
moon_terms =
    pos 0 ∷ pos 0 ∷ pos 1 ∷ pos 0 ∷ pos 6288774 ∷
    pos 2 ∷ pos 0 ∷ neg 1 ∷ pos 0 ∷ pos 1274027 ∷
    pos 2 ∷ pos 0 ∷ pos 0 ∷ pos 0 ∷ pos 658314 ∷
    pos 0 ∷ pos 0 ∷ pos 2 ∷ pos 0 ∷ pos 213618 ∷
    pos 0 ∷ pos 1 ∷ pos 0 ∷ pos 0 ∷ neg 185116 ∷
    pos 0 ∷ pos 0 ∷ pos 0 ∷ pos 2 ∷ neg 114332 ∷
    pos 2 ∷ pos 0 ∷ neg 2 ∷ pos 0 ∷ pos 58793 ∷
    pos 2 ∷ neg 1 ∷ neg 1 ∷ pos 0 ∷ pos 57066 ∷
    pos 2 ∷ pos 0 ∷ pos 1 ∷ pos 0 ∷ pos 53322 ∷
    pos 2 ∷ neg 1 ∷ pos 0 ∷ pos 0 ∷ pos 45758 ∷
    pos 0 ∷ pos 1 ∷ neg 1 ∷ pos 0 ∷ neg 40923 ∷
    pos 1 ∷ pos 0 ∷ pos 0 ∷ pos 0 ∷ neg 34720 ∷
    pos 0 ∷ pos 1 ∷ pos 1 ∷ pos 0 ∷ neg 30383 ∷
    pos 2 ∷ pos 0 ∷ pos 0 ∷ neg 2 ∷ pos 15327 ∷
    pos 0 ∷ pos 0 ∷ pos 1 ∷ pos 2 ∷ neg 12528 ∷
    pos 0 ∷ pos 0 ∷ pos 1 ∷ neg 2 ∷ pos 10980 ∷
    pos 4 ∷ pos 0 ∷ neg 1 ∷ pos 0 ∷ pos 10675 ∷
    pos 0 ∷ pos 0 ∷ pos 3 ∷ pos 0 ∷ pos 10034 ∷
    pos 4 ∷ pos 0 ∷ neg 2 ∷ pos 0 ∷ pos 8548 ∷
    pos 2 ∷ pos 1 ∷ neg 1 ∷ pos 0 ∷ neg 7888 ∷
    pos 2 ∷ pos 1 ∷ pos 0 ∷ pos 0 ∷ neg 6766 ∷
    pos 1 ∷ pos 0 ∷ neg 1 ∷ pos 0 ∷ neg 5163 ∷
    pos 1 ∷ pos 1 ∷ pos 0 ∷ pos 0 ∷ pos 4987 ∷
    pos 2 ∷ neg 1 ∷ pos 1 ∷ pos 0 ∷ pos 4036 ∷
    pos 2 ∷ pos 0 ∷ pos 2 ∷ pos 0 ∷ pos 3994 ∷
    pos 4 ∷ pos 0 ∷ pos 0 ∷ pos 0 ∷ pos 3861 ∷
    pos 2 ∷ pos 0 ∷ neg 3 ∷ pos 0 ∷ pos 3665 ∷
    pos 0 ∷ pos 1 ∷ neg 2 ∷ pos 0 ∷ neg 2689 ∷
    pos 2 ∷ pos 0 ∷ neg 1 ∷ pos 2 ∷ neg 2602 ∷
    pos 2 ∷ neg 1 ∷ neg 2 ∷ pos 0 ∷ pos 2390 ∷
    pos 1 ∷ pos 0 ∷ pos 1 ∷ pos 0 ∷ neg 2348 ∷
    pos 2 ∷ neg 2 ∷ pos 0 ∷ pos 0 ∷ pos 2236 ∷
    pos 0 ∷ pos 1 ∷ pos 2 ∷ pos 0 ∷ neg 2120 ∷
    pos 0 ∷ pos 2 ∷ pos 0 ∷ pos 0 ∷ neg 2069 ∷
    pos 2 ∷ neg 2 ∷ neg 1 ∷ pos 0 ∷ pos 2048 ∷
    pos 2 ∷ pos 0 ∷ pos 1 ∷ neg 2 ∷ neg 1773 ∷
    pos 2 ∷ pos 0 ∷ pos 0 ∷ pos 2 ∷ neg 1595 ∷
    pos 4 ∷ neg 1 ∷ neg 1 ∷ pos 0 ∷ pos 1215 ∷
    pos 0 ∷ pos 0 ∷ pos 2 ∷ pos 2 ∷ neg 1110 ∷
    pos 3 ∷ pos 0 ∷ neg 1 ∷ pos 0 ∷ neg 892 ∷
    pos 2 ∷ pos 1 ∷ pos 1 ∷ pos 0 ∷ neg 810 ∷
    pos 4 ∷ neg 1 ∷ neg 2 ∷ pos 0 ∷ pos 759 ∷
    pos 0 ∷ pos 2 ∷ neg 1 ∷ pos 0 ∷ neg 713 ∷
    pos 2 ∷ pos 2 ∷ neg 1 ∷ pos 0 ∷ neg 700 ∷
    pos 2 ∷ pos 1 ∷ neg 2 ∷ pos 0 ∷ pos 691 ∷
    pos 2 ∷ neg 1 ∷ pos 0 ∷ neg 2 ∷ pos 596 ∷
    pos 4 ∷ pos 0 ∷ pos 1 ∷ pos 0 ∷ pos 549 ∷
    pos 0 ∷ pos 0 ∷ pos 4 ∷ pos 0 ∷ pos 537 ∷
    pos 4 ∷ neg 1 ∷ pos 0 ∷ pos 0 ∷ pos 520 ∷
    pos 1 ∷ pos 0 ∷ neg 2 ∷ pos 0 ∷ neg 487 ∷
    pos 2 ∷ pos 1 ∷ pos 0 ∷ neg 2 ∷ neg 399 ∷
    pos 0 ∷ pos 0 ∷ pos 2 ∷ neg 2 ∷ neg 381 ∷
    pos 1 ∷ pos 1 ∷ pos 1 ∷ pos 0 ∷ pos 351 ∷
    pos 3 ∷ pos 0 ∷ neg 2 ∷ pos 0 ∷ neg 340 ∷
    pos 4 ∷ pos 0 ∷ neg 3 ∷ pos 0 ∷ pos 330 ∷
    pos 2 ∷ neg 1 ∷ pos 2 ∷ pos 0 ∷ pos 327 ∷
    pos 0 ∷ pos 2 ∷ pos 1 ∷ pos 0 ∷ neg 323 ∷
    pos 1 ∷ pos 1 ∷ neg 1 ∷ pos 0 ∷ pos 299 ∷
    pos 2 ∷ pos 0 ∷ pos 3 ∷ pos 0 ∷ pos 294 ∷
    pos 2 ∷ pos 0 ∷ neg 1 ∷ neg 2 ∷ pos 0 ∷
    []
