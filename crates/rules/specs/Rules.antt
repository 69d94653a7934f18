-- The lent rules (docs/RULES.md, What is lent): records of eight numbers, and which lists of numbers are good. Assumes nothing.
use Rattle.std.specs.Prelude.{ℕ, zero, suc, ◌+◌, ◌*◌, ◌/◌, ◌%◌, Bool, true, cond, ◌&&◌, ◌||◌, List, [], ◌∷◌, leb, eqb, length, get_or}
use Rattle.rules.specs.declared.Rule.{Rule}

-- rule number i
abbrev pub rule_at : List ℕ → ℕ → Rule
rule_at xs i =
    record {
      kind = get_or xs (i * 8) 0;
      year = get_or xs (i * 8 + 1) 0;
      month = get_or xs (i * 8 + 2) 0;
      day = get_or xs (i * 8 + 3) 0;
      half = get_or xs (i * 8 + 4) 0;
      kala = get_or xs (i * 8 + 5) 0;
      name = get_or xs (i * 8 + 6) 0;
      holiday = get_or xs (i * 8 + 7) 0;
    }

-- the k rules from number i on
abbrev pub rules_from : List ℕ → ℕ → ℕ → List Rule
rules_from xs i zero = []
rules_from xs i (suc k) = rule_at xs i ∷ rules_from xs (i + 1) k

abbrev pub rules_of : List ℕ → List Rule
rules_of xs = rules_from xs 0 (length xs / 8)

module _ (r : Rule) where
  -- a date: month 1 to 12, and a day from 1 to so many
  abbrev pub has_date : ℕ → Bool
  has_date most = leb 1 r.month && leb r.month 12 && leb 1 r.day && leb r.day most

  -- half and kala are not used
  abbrev pub plain : Bool
  plain = eqb r.half 0 && eqb r.kala 0

  -- kind 1: a fixed BS date
  abbrev pub fixed : Bool
  fixed = eqb r.kind 1 && eqb r.year 0 && has_date 32 && plain

  -- kind 2: a fixed Gregorian date
  abbrev pub gregorian : Bool
  gregorian = eqb r.kind 2 && eqb r.year 0 && has_date 31 && plain

  -- kind 3: a tithi of a lunar month, in a half, at a kala
  abbrev pub computed : Bool
  computed = eqb r.kind 3 && eqb r.year 0 && has_date 15 && leb r.half 1 && leb r.kala 5

  -- kind 4: an override, of any year
  abbrev pub override : Bool
  override = eqb r.kind 4 && has_date 32 && plain

-- a rule keeps the line of its kind; the holiday is 0 or 1 and the name is free
unfoldable pub rule_good : Rule → Bool
rule_good r = leb r.holiday 1 && (fixed r || gregorian r || computed r || override r)

unfoldable pub all_good : List Rule → Bool
all_good [] = true
all_good (r ∷ rs) = rule_good r && all_good rs

-- how many rules have the kind k
unfoldable pub count_kind : ℕ → List Rule → ℕ
count_kind k [] = 0
count_kind k (r ∷ rs) = cond (eqb r.kind k) (count_kind k rs + 1) (count_kind k rs)

-- a list of numbers is a good list of rules
unfoldable pub accepted_rules : List ℕ → Bool
accepted_rules xs =
    eqb (length xs % 8) 0
    && (all_good (rules_of xs)
    && leb (count_kind 1 (rules_of xs)) 64
    && leb (count_kind 2 (rules_of xs)) 64
    && leb (count_kind 3 (rules_of xs)) 64
    && leb (count_kind 4 (rules_of xs)) 128)
