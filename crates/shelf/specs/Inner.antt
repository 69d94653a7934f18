-- What the functions read of any list, and write to it. Assumes nothing.
use Rattle.std.specs.Prelude.{ℕ, zero, suc, ◌+◌, ◌*◌, Bool, cond, ◌&&◌, List, [], ◌∷◌, ◌++◌, leb, length, get_or, take, drop}
use Rattle.conversion.specs.declared.Table.{Table}
use Rattle.rules.specs.declared.lists.Resolved.{Resolved}
use Rattle.kept.specs.declared.Store.{Store}
use Rattle.kept.specs.declared.Kept.{Kept}
use Rattle.kept.specs.Held.{padded, entries}
use Rattle.shelf.specs.Numbers.{numbers_of}

-- ---- read: past the end stand zeros

-- n days, each of two numbers, its low half first
unfoldable pub wholes : ℕ → List ℕ → List ℕ
wholes zero l = []
wholes (suc n) l = (get_or l 0 0 + 65536 * get_or l 1 0) ∷ wholes n (drop 2 l)

abbrev pub table_of : List ℕ → Table
table_of a = record { first_year = get_or a 0 0; year = get_or a 1 0; month = get_or a 2 0; day = get_or a 3 0 }

abbrev pub days_at : List ℕ → ℕ → Resolved
days_at a at = entries (wholes 64 (drop at a))

abbrev pub store_in : List ℕ → Store
store_in a = record { count = get_or a 6 0; year = get_or a 7 0; years = record { before = days_at a 4232; this = days_at a 4360 } }

unfoldable pub kept_of : List ℕ → Kept
kept_of a =
    record {
      table = table_of a;
      rows = padded 1664 (take 1664 (drop 8 a));
      row_len = get_or a 4 0;
      rules = padded 2560 (take 2560 (drop 1672 a));
      rule_len = get_or a 5 0;
      store = store_in a;
    }

-- the table's rows where they stand
abbrev pub rows_of : List ℕ → List ℕ
rows_of a = take (get_or a 4 0) (drop 8 a)

-- ---- written

-- whether a state can be written to a list: there is room, and its lengths are numbers of sixteen bits
abbrev pub fits : Kept → List ℕ → Bool
fits k a = leb 4488 (length a) && (leb k.row_len 65535 && leb k.rule_len 65535)

-- a state that cannot be written leaves the list as it was
unfoldable pub placed : Kept → List ℕ → List ℕ
placed k a = cond (fits k a) (numbers_of k ++ drop 4488 a) a
