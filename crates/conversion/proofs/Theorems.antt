-- What is proved of conversion, for every accepted year table. It matches the BS dates of the table and the days from its first to its last
-- one to one and in order, and refuses all else with the exact number. And it is steady: rows added to a table change no answer, and the
-- shorter table refuses exactly what lies in an added year. Assumes nothing.
use Prim.Native.Nat.{ℕ}
use mathlib.Core.Path.{◌≡◌, ◌∙◌}
use mathlib.Core.Bool.{true, false}
use mathlib.Core.List.{List, ◌++◌}
use Rattle.paper.specs.declared.Refusal.TheVariants.{BadTable, NoSuchDate}
use Rattle.paper.proofs.Answers.{given_on, given_off, given_then, then_answered}
use Rattle.gregorian.specs.Calendar.{is_date}
use Rattle.conversion.specs.declared.Table.{Table}
use Rattle.conversion.specs.Calendar.{Calendar, month_len, valid_bs, to_ad, from_ad}
use Rattle.conversion.specs.Flat.{first_day, accepted, flat}
use Rattle.conversion.specs.Claims.{YearIn, MonthIn, BsIn, first_of, OneToOne, NoTable, DatesStay}
use Rattle.conversion.proofs.Days as Days
use Rattle.conversion.proofs.Ad as Ad
use Rattle.conversion.proofs.Longer as Longer

in_table : (c : Calendar) (y m : ℕ) → c.good ≡ true → YearIn c y → MonthIn m → Days.InTable c y m
in_table c y m g p q = record { good = g; year_from = p.0; year_to = p.1; month_from = q.0; month_to = q.1 }

bs_valid : (c : Calendar) (y m d : ℕ) → c.good ≡ true → BsIn c y m d → Days.Valid c y m d
bs_valid c y m d g b = record { month = in_table c y m g b.0 b.1.0; day_from = b.1.1.0; day_to = b.1.1.1 }

valid_bs_law : (c : Calendar) (y m d : ℕ) → Days.Valid c y m d → BsIn c y m d
valid_bs_law c y m d v = let k = v.month in ((k.year_from, k.year_to), ((k.month_from, k.month_to), (v.day_from, v.day_to)))

-- for every calendar that is good and whose days are Gregorian dates
pub matched : (c : Calendar) → Ad.Served c → OneToOne c
unfolding to_ad from_ad valid_bs month_len
matched c s =
    record {
      to = λ y m d b. let v = bs_valid c y m d s.good b in let e = Ad.to_ad_law c s y m d v in (_, (e, Ad.ad_table c s y m d _ e));
      from = λ x d. let e = Ad.ad_inside c s x d in (e.0, (e.1, valid_bs_law c _ _ _ (Ad.ad_valid c s _ _ _ _ (Ad.ad_from_to c s _ _ _ _ e.1))));
      to_from = Ad.ad_to_from c s;
      from_to = Ad.ad_from_to c s;
      to_order = Ad.ad_order c s;
      from_order = λ a b p q e f. let h = Ad.ad_order c s p q a b (Ad.ad_from_to c s _ _ _ _ e) (Ad.ad_from_to c s _ _ _ _ f) in (h.1, h.0);
      no_year = λ y m d h. Days.no_year c y m _ s.good (λ f t. h (f, t));
      no_month = λ y m d p h. Days.no_month c y m _ s.good p.0 p.1 (λ f t. h (f, t));
      no_day_law = λ y m d p q h. Days.no_day_law c y m d _ (in_table c y m s.good p q) (λ f t. h (f, t));
      no_date = λ y m d h. given_on c.good BadTable _ s.good ∙ given_off (is_date y m d) NoSuchDate _ h;
      out = Ad.ad_outside c s;
      before = Ad.ad_before c s;
      after = Ad.ad_after c s;
      valid = λ y m d. simp (given_then, then_answered);
      len = λ y m p q. Days.of_month_law c y m _ (in_table c y m s.good p q);
      len_no_year = λ y m h. Days.no_year c y m _ s.good (λ f t. h (f, t));
      len_no_month = λ y m p h. Days.no_month c y m _ s.good p.0 p.1 (λ f t. h (f, t));
    }

-- for every accepted table, whose first day is the one that it names
pub one_to_one : (t : Table) (rows : List ℕ) → accepted t rows ≡ true → OneToOne (flat t rows) × (first_of (flat t rows) ≡ first_day t)
one_to_one t rows e = (matched (flat t rows) (Ad.served t rows e), Ad.first_is t rows e)

-- a table that is not accepted
pub no_table : (t : Table) (rows : List ℕ) → accepted t rows ≡ false → NoTable (flat t rows)
unfolding to_ad from_ad valid_bs month_len
no_table t rows e =
    record {
      len = λ y m. Days.no_table (flat t rows) y m _ e;
      valid = λ y m d. Days.no_table (flat t rows) y m _ e;
      to = λ y m d. Days.no_table (flat t rows) y m _ e;
      from = λ y m d. given_off _ BadTable _ e;
    }

-- for every two good calendars of which the longer begins as the shorter does
pub extended : (c e : Calendar) → Longer.Extends c e → DatesStay c e
extended c e x =
    record {
      len = Longer.len_longer c e x;
      valid = Longer.valid_longer c e x;
      to = Longer.to_longer c e x;
      from = Longer.from_longer c e x;
      len_added = Longer.len_added c e x;
      valid_added = Longer.valid_added c e x;
      to_added = Longer.to_added c e x;
      from_added = Longer.from_added c e x;
      from_before = Longer.ad_before c e x;
      from_reached = Longer.ad_reached c e x;
      from_after = Longer.ad_after c e x;
    }

-- for every accepted table, and the same with more rows where that is accepted too
pub steady : (t : Table) (rows more : List ℕ) → accepted t rows ≡ true → accepted t (rows ++ more) ≡ true → DatesStay (flat t rows) (flat t (rows ++ more))
steady t rows more a b = extended _ _ (Longer.extends t rows more a b)
