-- No reply is longer than 80 bytes. Assumes nothing.
use Rattle.std.specs.Prelude.{Err, None, Ok, Option, Some}
use Prim.Native.Nat.{ℕ, zero, suc, ◌-◌, ◌^◌, ◌≤◌, ◌<◌}
use mathlib.Core.Path.{◌≡◌, refl}
use mathlib.Core.Bool.{true}
use mathlib.Core.List.{List, ◌++◌}
use mathlib.Core.Logic.{⊎_elim}
use native.Mathlib.Nat.{pow-le-pow_right}
use native.Mathlib.Omega.{arith}
use lib.ListN.{length, length-append}
use Rattle.paper.specs.declared.Refusal.{Refusal}
use Rattle.paper.specs.declared.Refusal.TheVariants as R
use Rattle.paper.specs.Refusals.{number, told}
use Rattle.paper.specs.Answers.{Answer}
use Rattle.paper.specs.Sums.{sum, all}
use Rattle.paper.proofs.Tests.{split}
use Rattle.text.specs.Digits.{digits, places}
use Rattle.text.specs.Dashed.{dash}
use Rattle.text.specs.Quoted.{bytes}
use Rattle.text.proofs.Runs.{length_run}
use Rattle.text.proofs.Decimals.{has_fewest, places_fewest, Fewest, nought, some}
use Rattle.gregorian.specs.declared.Date.{Date}
use Rattle.gregorian.specs.Calendar.{is_date, day_number}
use Rattle.conversion.specs.declared.BsDate.{BsDate}
use Rattle.conversion.specs.Calendar.{to_ad, from_ad}
use Rattle.conversion.specs.Flat.{date, row_ok, accepted}
use Rattle.conversion.specs.Own.{own_table, own_rows, own}
use Rattle.conversion.proofs.Accepted.{facts}
use Rattle.conversion.proofs.Rows.{row_lens}
use Rattle.conversion.proofs.Days.{before_told, after_told}
use Rattle.conversion.proofs.Ad.{served, is_real, ad_valid, ad_from_to, ad_refused}
use Rattle.gregorian.proofs.Laws.{all_number, number_above, number_below}
use Rattle.convert.specs.Lines.{number_text, numbers_text, line_form, LineIs}
use Rattle.convert.specs.declared.line.Line.{Line}
use Rattle.convert.specs.declared.line.Line.TheVariants.{Bs, Ad}
use Rattle.convert.specs.declared.reply.Reply.{Reply}
use Rattle.convert.specs.Replies.{from_bs, from_ad_date, bs_reply, ad_reply, shown_text, outside_text, reply_text, line_reply, reply_to}
use Rattle.convert.proofs.Forms.{line_is}

-- ---- the numbers

good : own.good ≡ true
unfolding accepted row_ok all sum is_date day_number
good = refl

-- a BS date of the own table has small numbers
own_small : (y m d : ℕ) (t : BsDate) → from_ad own y m d ≡ Ok t → (t.year < 65536) × (t.month < 65536) × (t.day < 65536)
own_small y m d t e =
    let s = served own_table own_rows good in
    let v = ad_valid own s t.year t.month t.day (date y m d) (ad_from_to own s y m d t e) in
    let k = v.month in
    let r = (facts own_table own_rows good).row (t.year - 100) (omega (arith, k.year_from, k.year_to)) in
    let l = row_lens own_rows (t.year - 100) (t.month - 1) r (omega (arith, k.month_from, k.month_to)) in
    (omega (arith, k.year_to), omega (arith, k.month_to), omega (arith, v.day_to, l.1))

refusal_small : (k : Refusal) → number k < 65536
refusal_small R.BadTable = omega arith
refusal_small R.BadRules = omega arith
refusal_small R.NoSuchDate = omega arith
refusal_small R.NoYear = omega arith
refusal_small R.NoMonth = omega arith
refusal_small R.NoDay = omega arith
refusal_small (R.Before days) = omega arith
refusal_small (R.After days) = omega arith
refusal_small R.OutOfRange = omega arith
refusal_small R.NoRoom = omega arith
refusal_small R.OffTable = omega arith
refusal_small R.NotEnded = omega arith
refusal_small (R.OutOfForm line) = omega arith
refusal_small R.NoRow = omega arith

-- ---- their texts

-- a number below 100,000, so one of a u16, takes at most five digits
digits_short : (n : ℕ) → n < 100000 → length (digits n) ≤ 5
digits_short n h = let w = has_fewest n in go w.k w.fewest
  where
    go : (k : ℕ) → Fewest n k → length (digits n) ≤ 5
    go k (nought e) = omega (arith, length_run 10 (places n) n, places_fewest n 0 (nought e))
    go k (some a b) =
        ⊎_elim (λ l. omega (arith, length_run 10 (places n) n, places_fewest n k (some a b))) (λ l. absurd (large l)) (split k 4)
      where
        large : 4 < k → ⊥
        large l =
            let z : 0 < 10 = omega arith in
            let q : 10 ^ 5 ≤ 10 ^ k = pow-le-pow_right z l in
            omega arith

number_short : (w n : ℕ) → w ≤ 4 → n < 65536 → length (number_text w n) ≤ 5
number_short zero n h l = digits_short n (omega arith)
number_short (suc k) n h l = omega (arith, length_run 10 (suc k) n)

-- three numbers of at most five digits
pub numbers_short : (f o y m d : ℕ) → f ≤ 4 → o ≤ 4 → y < 65536 → m < 65536 → d < 65536 → length (numbers_text f o y m d) ≤ 17
numbers_short f o y m d hf ho hy hm hd =
    omega (
      arith,
      number_short f y hf hy,
      number_short o m ho hm,
      number_short o d ho hd,
      length-append (number_text f y) ((dash ++ number_text o m) ++ (dash ++ number_text o d)),
      length-append (dash ++ number_text o m) (dash ++ number_text o d),
    )

-- YYYY-MM-DD, or none
ad_shown : (x : Option (ℕ × ℕ × ℕ)) → length (shown_text 4 2 x) ≤ 17
ad_shown (Some (y, m, d)) =
    omega (
      arith,
      length_run 10 4 y,
      length_run 10 2 m,
      length_run 10 2 d,
      length-append (number_text 4 y) ((dash ++ number_text 2 m) ++ (dash ++ number_text 2 d)),
      length-append (dash ++ number_text 2 m) (dash ++ number_text 2 d),
    )
ad_shown None = omega arith

-- how far outside the own table a Gregorian date lies: no farther than all dates reach
outside_short : (y m d : ℕ) (k : Refusal) → from_ad own y m d ≡ Err k → length (outside_text (told k)) ≤ 6
outside_short y m d R.BadTable e = omega arith
outside_short y m d R.BadRules e = omega arith
outside_short y m d R.NoSuchDate e = omega arith
outside_short y m d R.NoYear e = omega arith
outside_short y m d R.NoMonth e = omega arith
outside_short y m d R.NoDay e = omega arith
outside_short y m d (R.Before j) e =
    let a = ad_refused own y m d (R.Before j) good refl e in
    let b = before_told own (day_number (date y m d)) good j a.1 in
    let s = served own_table own_rows good in
    let n : j < 100000 = omega (arith, b.0, s.some, s.to, all_number, number_above (date y m d)) in
    omega (arith, digits_short j n, length-append (bytes "-") (digits j))
outside_short y m d (R.After j) e =
    let a = ad_refused own y m d (R.After j) good refl e in
    let b = after_told own (day_number (date y m d)) good j a.1 in
    let s = served own_table own_rows good in
    let n : j < 100000 = omega (arith, b.0, s.some, s.from, all_number, number_below (date y m d) (is_real (date y m d) a.0)) in
    omega (arith, digits_short j n)
outside_short y m d R.OutOfRange e = omega arith
outside_short y m d R.NoRoom e = omega arith
outside_short y m d R.OffTable e = omega arith
outside_short y m d R.NotEnded e = omega arith
outside_short y m d (R.OutOfForm line) e = omega arith
outside_short y m d R.NoRow e = omega arith

text_short : (r : Reply) → length (shown_text 0 0 r.bs) ≤ 17 → r.refusal < 65536 → length (outside_text r.told) ≤ 6 → length (reply_text r) ≤ 80
text_short r a c o = simp length-append (omega (arith, a, ad_shown r.ad, digits_short r.refusal (omega arith), o))

-- ---- a reply

bs_reply_short : (y m d : ℕ) → y < 65536 → m < 65536 → d < 65536 → length (reply_text (bs_reply y m d)) ≤ 80
unfolding bs_reply
bs_reply_short y m d hy hm hd = go (to_ad own y m d)
  where
    bs : length (numbers_text 0 0 y m d) ≤ 17
    bs = numbers_short 0 0 y m d (omega arith) (omega arith) hy hm hd

    go : (a : Answer Date) → length (reply_text (from_bs y m d a)) ≤ 80
    go (Ok x) = text_short (from_bs y m d (Ok x)) bs (omega arith) (omega arith)
    go (Err k) = text_short (from_bs y m d (Err k)) bs (refusal_small k) (omega arith)

ad_reply_short : (y m d : ℕ) → length (reply_text (ad_reply y m d)) ≤ 80
unfolding ad_reply
ad_reply_short y m d = go (from_ad own y m d) refl
  where
    go : (a : Answer BsDate) → from_ad own y m d ≡ a → length (reply_text (from_ad_date y m d a)) ≤ 80
    go (Ok t) e =
        let s = own_small y m d t e in
        text_short (from_ad_date y m d (Ok t)) (numbers_short 0 0 t.year t.month t.day (omega arith) (omega arith) s.0 s.1 s.2) (omega arith) (omega arith)
    go (Err k) e = text_short (from_ad_date y m d (Err k)) (omega arith) (refusal_small k) (outside_short y m d k e)

pub reply_short : (s : List ℕ) → length (reply_to s) ≤ 80
reply_short s = go (line_form s) (line_is s)
  where
    go : (l : Option Line) → LineIs s l → length (line_reply l) ≤ 80
    go (Some (Bs y m d)) k = bs_reply_short y m d (omega (arith, k.year)) (omega (arith, k.month)) (omega (arith, k.day))
    go (Some (Ad y m d)) k = ad_reply_short y m d
    go None k = omega arith
