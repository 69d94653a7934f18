-- What is proved of day lists, over any sky and any calendar. Asked by BS date and by Gregorian date of the same day the answer is the same. And they are
-- steady: rows added to a year table change no answered list, and a computed entry only where it lies in an added year. Assumes nothing.
use Rattle.std.specs.Prelude.{Err, Ok}
use Prim.Native.Nat.{ℕ, ◌-◌, ◌≤◌, ◌<◌}
use mathlib.Core.Path.{◌≡◌, refl, sym, ap, ◌∙◌}
use mathlib.Core.Bool.{Bool, true}
use mathlib.Core.List.{List, ◌++◌}
use native.Mathlib.Omega.{arith}
use Rattle.paper.specs.declared.Refusal.TheVariants.{NoSuchDate, NoYear, Before, After}
use Rattle.paper.specs.Answers.{Answer}
use Rattle.paper.proofs.Answers.{given_answered, given_on}
use Rattle.gregorian.specs.declared.Date.{Date}
use Rattle.gregorian.specs.Calendar.{is_date, day_number}
use Rattle.conversion.specs.declared.Table.{Table}
use Rattle.conversion.specs.declared.BsDate.{BsDate}
use Rattle.conversion.specs.Calendar.{Calendar, bs, to_day, outside, from_day, to_ad, from_ad}
use Rattle.conversion.specs.Flat.{accepted, flat, date}
use Rattle.conversion.proofs.Rows.{row_lens}
use Rattle.conversion.proofs.Accepted.{facts}
use Rattle.conversion.specs.Claims.{Added, added_days, RefusedIf}
use Rattle.conversion.proofs.Days.{from_to, to_from}
use Rattle.conversion.proofs.Ad.{Served, ad_from}
use Rattle.conversion.proofs.Longer.{Extends, extends, day_longer, day_added, from_day_longer, day_before, day_reached, day_after_law}
use Rattle.conversion.proofs.Theorems.{matched}
use Rattle.rules.specs.declared.Rule.{Rule}
use Rattle.rules.specs.Lent.{lent}
use Rattle.rules.specs.Sky.{Sky}
use Rattle.rules.specs.Festivals.{Pair, listed, listOnBs, listOnAd}
use Rattle.rules.specs.Longer.{AddedDay, SameList, ListsStay}
use Rattle.rules.proofs.Lent.{lent_told}
use Rattle.rules.proofs.Questions.{then_by, then_not, on_bs_law, on_ad_law, ad_outside}
use Rattle.rules.proofs.Following.{then_told, then_longer, then_added}
use Rattle.rules.proofs.Longer.{Filled, day_refused, opening-same, entry-same, list_same}

-- ---- BS date and Gregorian date
module _ {I : Type 0} (s : Sky I) (c : Calendar) (rs : List Rule) (ok : Bool) (y m d : ℕ) where
  -- the BS date of a Gregorian date
  pub same_day : (t : BsDate) → from_ad c y m d ≡ Ok t → listOnAd s c rs ok y m d ≡ listOnBs s c rs ok t.year t.month t.day
  unfolding listOnBs listOnAd
  same_day t e =
      let n = day_number (date y m d) in
      let p = ad_from c y m d t e in
      ap (lent c ok)
      (given_on (is_date y m d) NoSuchDate _ p.0 ∙ then_by (from_day c n) _ t p.1 ∙ sym (then_by (to_day c t.year t.month t.day) _ n (to_from c n t p.1)))

-- the Gregorian date of a BS date
pub same_date_law : {I : Type 0} (s : Sky I) (c : Calendar) (rs : List Rule) (ok : Bool) (y m d : ℕ) (x : Date) → Served c → to_ad c y m d ≡ Ok x
    → listOnBs s c rs ok y m d ≡ listOnAd s c rs ok x.year x.month x.day
same_date_law s c rs ok y m d x w e = sym (same_day s c rs ok x.year x.month x.day (bs y m d) ((matched c w).to_from y m d x e))

-- ---- past the first tests, which the calendars pass alike
module _ {I : Type 0} (s : Sky I) (c : Calendar) (rs : List Rule) (ok : Bool) (y m d : ℕ) where
  bs_rules : {l : List Pair} → listOnBs s c rs ok y m d ≡ Ok l → ok ≡ true
  unfolding listOnBs
  bs_rules e = (lent_told c ok _ e).1

  ad_rules : {l : List Pair} → listOnAd s c rs ok y m d ≡ Ok l → (ok ≡ true) × (is_date y m d ≡ true)
  unfolding listOnAd
  ad_rules e = let a = lent_told c ok _ e in (a.1, (given_answered (is_date y m d) NoSuchDate _ a.2).0)

-- ---- steady
same_list : {short long : Answer (List Pair)} (out : List ℕ) {l : List Pair} → short ≡ Ok l → long ≡ Ok l → SameList short long out l
same_list out a b = record { answer = b; written = ap (λ z. listed z out) (b ∙ sym a) }

module _ {I : Type 0} (s : Sky I) (rs : List Rule) (ok : Bool) (c e : Calendar) (x : Extends c e) (w : Filled c) (y m d : ℕ) (l : List Pair) where
  bs_longer : listOnBs s c rs ok y m d ≡ Ok l → listOnBs s e rs ok y m d ≡ Ok l
  bs_longer h =
      let o = bs_rules s c rs ok y m d h in
      on_bs_law s e rs ok y m d x.good_too o
      ∙ then_longer (to_day c y m d) (to_day e y m d) _ _ (day_longer c e x y m d) (λ n q. ap Ok (list_same s c e x w rs n (bs y m d) (from_to c y m d n q))) l (sym (on_bs_law s c rs ok y m d x.good o) ∙ h)

  bs_added : listOnBs s e rs ok y m d ≡ Ok l → RefusedIf (listOnBs s c rs ok y m d) NoYear (Added c y)
  bs_added h =
      let o = bs_rules s e rs ok y m d h in
      let q = sym (on_bs_law s e rs ok y m d x.good_too o) ∙ h in
      let t = then_told (to_day e y m d) _ q in
      rw (on_bs_law s c rs ok y m d x.good o)
      (then_added (to_day c y m d) (to_day e y m d) _ _ (day_longer c e x y m d) (λ n q. ap Ok (list_same s c e x w rs n (bs y m d) (from_to c y m d n q))) NoYear (Added c y) t.0 l t.1.0 (day_added c e x y m d t.0 t.1.0) q)

  ad_longer : listOnAd s c rs ok y m d ≡ Ok l → listOnAd s e rs ok y m d ≡ Ok l
  ad_longer h =
      let o = ad_rules s c rs ok y m d h in
      let n = day_number (date y m d) in
      on_ad_law s e rs ok y m d x.good_too o.0 o.1
      ∙ then_longer (from_day c n) (from_day e n) _ _ (from_day_longer c e x n) (λ t q. ap Ok (list_same s c e x w rs n t q)) l (sym (on_ad_law s c rs ok y m d x.good o.0 o.1) ∙ h)

  ad_added : listOnAd s e rs ok y m d ≡ Ok l → RefusedIf (listOnAd s c rs ok y m d) (outside c (day_number (date y m d))) (AddedDay c e (day_number (date y m d)))
  ad_added h =
      let o = ad_rules s e rs ok y m d h in
      let n = day_number (date y m d) in
      let q = sym (on_ad_law s e rs ok y m d x.good_too o.0 o.1) ∙ h in
      let t = then_told (from_day e n) _ q in
      rw (on_ad_law s c rs ok y m d x.good o.0 o.1)
      (then_added (from_day c n) (from_day e n) _ _ (from_day_longer c e x n) (λ t q. ap Ok (list_same s c e x w rs n t q)) (outside c n) (AddedDay c e n) t.0 l t.1.0 (day_refused c e x n t.0 t.1.0) q)

-- a day outside
module _ {I : Type 0} (s : Sky I) (rs : List Rule) (ok : Bool) (c e : Calendar) (x : Extends c e) (y m d k : ℕ) where
  ad_before : listOnAd s c rs ok y m d ≡ Err (Before k) → listOnAd s e rs ok y m d ≡ Err (Before k)
  ad_before h =
      let o = ad_outside s c rs ok y m d (Before k) x.good refl h in
      on_ad_law s e rs ok y m d x.good_too o.0 o.1 ∙ then_not _ _ (Before k) (day_before c e x _ k o.2)

  ad_reached : listOnAd s c rs ok y m d ≡ Err (After k) → k ≤ added_days c e
      → (l : List Pair) × ((listOnAd s e rs ok y m d ≡ Ok l) × AddedDay c e (day_number (date y m d)))
  ad_reached h l =
      let o = ad_outside s c rs ok y m d (After k) x.good refl h in
      let r = day_reached c e x _ k o.2 l in
      (_, (on_ad_law s e rs ok y m d x.good_too o.0 o.1 ∙ then_by _ _ r.0 r.1.0, record { date = r.0; is = r.1.0; added = r.1.1 }))

  ad_after : listOnAd s c rs ok y m d ≡ Err (After k) → added_days c e < k → listOnAd s e rs ok y m d ≡ Err (After (k - added_days c e))
  ad_after h l =
      let o = ad_outside s c rs ok y m d (After k) x.good refl h in
      on_ad_law s e rs ok y m d x.good_too o.0 o.1 ∙ then_not _ _ _ (day_after_law c e x _ k o.2 l)

pub steady_by : {I : Type 0} (s : Sky I) (rs : List Rule) (ok : Bool) (out : List ℕ) (c e : Calendar) → Extends c e → Filled c → ListsStay s rs ok out c e
steady_by s rs ok out c e x w =
    record {
      opens = λ y m h. opening-same s c e x w y h m;
      entries = λ y r h. entry-same s c e x w y h r;
      on_bs_law = λ y m d l h. same_list out h (bs_longer s rs ok c e x w y m d l h);
      on_ad_law = λ y m d l h. same_list out h (ad_longer s rs ok c e x w y m d l h);
      on_bs_added = bs_added s rs ok c e x w;
      on_ad_added = ad_added s rs ok c e x w;
      on_ad_before = ad_before s rs ok c e x;
      on_ad_reached = ad_reached s rs ok c e x;
      on_ad_after = ad_after s rs ok c e x;
    }

filled : (t : Table) (rows : List ℕ) → accepted t rows ≡ true → Filled (flat t rows)
filled t rows g i m h k = omega (arith, (row_lens rows i m ((facts t rows g).row i h) k).0)

-- DEMAND 3: the rows of one accepted table are the first rows of another, with the same rules, the same sky and the same buffer
pub steady : {I : Type 0} (s : Sky I) (rs : List Rule) (ok : Bool) (out : List ℕ) (t : Table) (rows more : List ℕ) → accepted t rows ≡ true → accepted t (rows ++ more) ≡ true
    → ListsStay s rs ok out (flat t rows) (flat t (rows ++ more))
steady s rs ok out t rows more a b = steady_by s rs ok out (flat t rows) (flat t (rows ++ more)) (extends t rows more a b) (filled t rows a)
