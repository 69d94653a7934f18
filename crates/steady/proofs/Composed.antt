-- DEMAND 3 COMPOSED WITH THE CONTRACTS: of two results that meet a call's contract, under a table and under the same with more rows, what the first
-- answers the second answers, with the same numbers in each lent buffer. Assumes nothing.
use Rattle.std.specs.Prelude.{Ok}
use Prim.Native.Nat.{ℕ}
use mathlib.Core.Path.{◌≡◌, refl, sym, ap, ◌∙◌}
use mathlib.Core.Bool.{true}
use mathlib.Core.List.{List, [], ◌++◌}
use lib.IntN.{ℤ}
use Rattle.paper.specs.declared.Refusal.{Refusal}
use Rattle.paper.specs.Answers.{Answer}
use Rattle.gregorian.specs.declared.Date.{Date}
use Rattle.conversion.specs.declared.Table.{Table}
use Rattle.conversion.specs.declared.BsDate.{BsDate}
use Rattle.conversion.specs.Flat.{accepted}
use Rattle.conversion.proofs.bs_month_len.Reads as BsMonthLen
use Rattle.conversion.proofs.validate_bs_date.Reads as ValidateBsDate
use Rattle.conversion.proofs.bs_to_ad.Reads as BsToAd
use Rattle.conversion.proofs.ad_to_bs.Reads as AdToBs
use Rattle.rules.specs.Festivals.{Listed}
use Rattle.festivals.proofs.festivals_on.Reads as FestivalsOn
use Rattle.festivals.proofs.festivals_on_ad.Reads as FestivalsOnAd
use Rattle.grid.specs.Month.{Shown}
use Rattle.grid.proofs.step_month.Reads as StepMonth
use Rattle.grid.proofs.month_grid.Reads as MonthGrid
use Rattle.holiday.proofs.is_holiday.Reads as IsHoliday
use Rattle.steady.specs.Steady.{Stays, AnswerStays, Steady}
use Rattle.steady.specs.Composed.{Place, ref, mut_ref, AnswerCarries, Carries}
use Rattle.steady.proofs.Steady.{steady}
use Rattle.steady.proofs.Once.{both}

-- THE LAW: a and b are what two results answer, and what `buffers` reads of all that is told is what they leave
carried : {W A B : Type 0} (answer : W → Answer A) (buffers : W → B) {short long : W} {k : Refusal} {P : A → Type 0} → Stays answer short long k P
    → {a b : Answer A} {u w : B} (v : A) → a ≡ answer short → b ≡ answer long → u ≡ buffers short → w ≡ buffers long → a ≡ Ok v
    → (b ≡ Ok v) × (w ≡ u)
carried answer buffers stays v p q i j h =
    let e = stays.same v (sym p ∙ h) in
    (q ∙ ap answer e ∙ sym p ∙ h, j ∙ ap buffers e ∙ sym i)

-- where nothing is lent to write to
told : {A : Type 0} {short long : Answer A} {k : Refusal} {P : A → Type 0} → AnswerStays short long k P
    → {a b : Answer A} (v : A) → a ≡ short → b ≡ long → a ≡ Ok v → b ≡ Ok v
told {A} stays v p q h = (carried {W = Answer A} (λ z. z) (λ z. z) stays v p q refl refl h).0

-- the two buffers of a month
abbrev written : Shown → List ℕ × List ℕ
written w = (w.cells, w.festivals)

-- a today, for the claims that ask none
abbrev pub any : Date
any = record { year = 1950; month = 1; day = 1 }

-- a table and the same with more rows, both accepted, lent at any two places
module _ (t : Table) (rows more : List ℕ) (good : accepted t rows ≡ true) (longer : accepted t (rows ++ more) ≡ true) (p q : Place) where
  plain : Steady t rows more [] any
  plain = steady t rows more [] any good longer

  -- ---- nothing is lent to write to

  pub bs_month_len : (y m : ℕ) → AnswerCarries BsMonthLen.Learnt (λ k x. x)
      (λ k. (t, (ref p rows, (y, (m, tt))))) (λ k. (t, (ref q (rows ++ more), (y, (m, tt)))))
  bs_month_len y m k l x z s u v c d h = told (plain.month_len_law y m) v c d h

  pub validate_bs_date : (x : BsDate) → AnswerCarries ValidateBsDate.Learnt (λ k x. x)
      (λ k. (t, (ref p rows, (x, tt)))) (λ k. (t, (ref q (rows ++ more), (x, tt))))
  validate_bs_date b k l x z s u v c d h = told (plain.valid b.year b.month b.day) v c d h

  pub bs_to_ad : (x : BsDate) → AnswerCarries BsToAd.Learnt (λ k x. x)
      (λ k. (t, (ref p rows, (x, tt)))) (λ k. (t, (ref q (rows ++ more), (x, tt))))
  bs_to_ad b k l x z s u v c d h = told (plain.to_ad_law b.year b.month b.day) v c d h

  pub ad_to_bs : (y m n : ℕ) → AnswerCarries AdToBs.Learnt (λ k x. x)
      (λ k. (t, (ref p rows, (y, (m, (n, tt)))))) (λ k. (t, (ref q (rows ++ more), (y, (m, (n, tt))))))
  ad_to_bs y m n k l x z s u v c d h = told (plain.to_bs y m n) v c d h

  pub step_month_law : (y m : ℕ) (i : ℤ) → AnswerCarries StepMonth.Learnt (λ k x. x)
      (λ k. (t, (ref p rows, (y, (m, (i, tt)))))) (λ k. (t, (ref q (rows ++ more), (y, (m, (i, tt))))))
  step_month_law y m i k l x z s u v c d h = told (plain.step y m i) v c d h

  -- ---- rules and buffers: the same numbers, lent at any places
  module _ (rules : List ℕ) (a b : Place) where
    -- the buffer is the seventh parameter
    pub festivals_on : (y m n : ℕ) (out : List ℕ) (e f : Place) → Carries FestivalsOn.Learnt (λ k x. x) (λ k s. s.1.1.1.1.1.1.0.now)
        (λ k. (t, (ref p rows, (ref a rules, (y, (m, (n, (mut_ref e out, tt))))))))
        (λ k. (t, (ref q (rows ++ more), (ref b rules, (y, (m, (n, (mut_ref f out, tt))))))))
    festivals_on y m n out e f k l x z s u v c d h =
        carried {W = Listed} (λ w. w.answer) (λ w. w.buffer) ((steady t rows more rules any good longer).list y m n out) v c.0 d.0 c.1 d.1 h

    pub festivals_on_ad : (y m n : ℕ) (out : List ℕ) (e f : Place) → Carries FestivalsOnAd.Learnt (λ k x. x) (λ k s. s.1.1.1.1.1.1.0.now)
        (λ k. (t, (ref p rows, (ref a rules, (y, (m, (n, (mut_ref e out, tt))))))))
        (λ k. (t, (ref q (rows ++ more), (ref b rules, (y, (m, (n, (mut_ref f out, tt))))))))
    festivals_on_ad y m n out e f k l x z s u v c d h =
        carried {W = Listed} (λ w. w.answer) (λ w. w.buffer) ((steady t rows more rules any good longer).list_ad y m n out) v c.0 d.0 c.1 d.1 h

    pub is_holiday : (y m n : ℕ) → AnswerCarries IsHoliday.Learnt (λ k x. x)
        (λ k. (t, (ref p rows, (ref a rules, (y, (m, (n, tt)))))))
        (λ k. (t, (ref q (rows ++ more), (ref b rules, (y, (m, (n, tt)))))))
    is_holiday y m n k l x z s u v c d h = told ((steady t rows more rules any good longer).holiday y m n) v c d h

    -- cells and festivals are the seventh and eighth parameters
    pub month_grid_law : (today : Date) (y m : ℕ) (cells festivals : List ℕ) (e f g i : Place) → Carries {B = List ℕ × List ℕ} MonthGrid.Learnt (λ k x. x)
        (λ k s. (s.1.1.1.1.1.1.0.now, s.1.1.1.1.1.1.1.0.now))
        (λ k. (t, (ref p rows, (ref a rules, (today, (y, (m, (mut_ref e cells, (mut_ref f festivals, tt)))))))))
        (λ k. (t, (ref q (rows ++ more), (ref b rules, (today, (y, (m, (mut_ref g cells, (mut_ref i festivals, tt)))))))))
    month_grid_law today y m cells festivals e f g i k l x z s u v c d h =
        carried {W = Shown} (λ w. w.answer) written ((steady t rows more rules today good longer).month y m cells festivals) v c.0 d.0 (both c.1.0 c.1.1) (both d.1.0 d.1.1) h
