-- What a C function is lent to write to: the numbers in its places and buffers, read from the references to them and lent as such. A function's
-- arguments, and its parameters at exit, are a list that ends in nothing; the places are its last part. Assumes nothing.
use Rattle.std.specs.Prelude.{ℕ, List}
use Rattle.std.specs.Borrow.{Bor, MutBor}
use Rattle.conversion.specs.declared.Table.{Table}
use Rattle.steady.specs.Composed.{Place, ref, mut_ref}
use Rattle.panel.specs.Boundary.{MonthPlaces}

-- ---- places, as the contracts group them

abbrev pub Last : Type 0 → Type 0
Last X = MutBor X × Unit

-- the one place
abbrev pub one : {X : Type 0} → Last X → X
one s = s.0.now

-- two places
abbrev pub two : {X Y : Type 0} → MutBor X × Last Y → X × Y
two s = (s.0.now, s.1.0.now)

-- three places
abbrev pub three : {X Y Z : Type 0} → MutBor X × (MutBor Y × Last Z) → X × Y × Z
three s = (s.0.now, s.1.0.now, s.1.1.0.now)

-- four places
abbrev pub four : {W X Y Z : Type 0} → MutBor W × (MutBor X × (MutBor Y × Last Z)) → W × X × Y × Z
four s = (s.0.now, s.1.0.now, s.1.1.0.now, s.1.1.1.0.now)

-- whether there is something, and its two numbers
abbrev pub span : {X Y Z : Type 0} → MutBor X × (MutBor Y × Last Z) → X × (Y × Z)
span s = (s.0.now, (s.1.0.now, s.1.1.0.now))

-- a buffer, and two places behind it
abbrev pub walked : {X Y Z : Type 0} → MutBor X × (MutBor Y × Last Z) → (Y × Z) × X
walked s = ((s.1.0.now, s.1.1.0.now), s.0.now)

-- three places, and two for days behind them
abbrev pub dated : {X Y Z B A : Type 0} → MutBor X × (MutBor Y × (MutBor Z × (MutBor B × Last A))) → (X × Y × Z) × (B × A)
dated s = let d = s.1.1.1 in ((s.0.now, s.1.0.now, s.1.1.0.now), (d.0.now, d.1.0.now))

-- a buffer, its count behind it, and two places for days
abbrev pub listed_ad : {X Y B A : Type 0} → MutBor X × (MutBor Y × (MutBor B × Last A)) → (Y × (B × A)) × X
listed_ad s = let d = s.1.1 in ((s.1.0.now, (d.0.now, d.1.0.now)), s.0.now)

-- a buffer, and its count behind it
abbrev pub listed : {X Y : Type 0} → MutBor X × Last Y → Y × X
listed s = (s.1.0.now, s.0.now)

-- places and buffers, and the array of a kept state behind the buffers
abbrev pub with_array : {P X : Type 0} → P × X → List ℕ → P × (X × List ℕ)
with_array b a = (b.0, (b.1, a))

-- ---- the two buffers of a month, and its nine places

abbrev pub Numbered : Type 0 → Type 0
Numbered X = MutBor ℕ × X

abbrev pub MonthLent : Type 0
MonthLent =
    MutBor (List ℕ) × (MutBor (List ℕ) × Numbered (Numbered (Numbered (Numbered (Numbered (Numbered (Numbered (Numbered (Last ℕ)))))))))

abbrev pub MonthState : Type 0
MonthState = MonthPlaces × (List ℕ × List ℕ)

abbrev pub month : MonthLent → MonthState
month s =
    let p = s.1.1 in
    let to = p.1.1.1.1 in (
      (
        p.0.now,
        (p.1.0.now, p.1.1.0.now, p.1.1.1.0.now),
        (to.0.now, to.1.0.now, to.1.1.0.now),
        to.1.1.1.0.now,
        to.1.1.1.1.0.now,
      ),
      (s.0.now, s.1.0.now),
    )

-- ---- lent at some places: place i lies at e i

-- a year table by its four numbers and its rows, and what is lent behind it
abbrev pub lend_table : {X : Type 0} → Table → Place → List ℕ → X → ℕ × (ℕ × (ℕ × (ℕ × (Bor (List ℕ) × X))))
lend_table t p rows x = (t.first_year, (t.year, (t.month, (t.day, (ref p rows, x)))))

abbrev pub lend_one : {X : Type 0} → (ℕ → Place) → X → Last X
lend_one e x = (mut_ref (e 0) x, tt)

abbrev pub lend_two : {X Y : Type 0} → (ℕ → Place) → X × Y → MutBor X × Last Y
lend_two e x = (mut_ref (e 0) x.0, (mut_ref (e 1) x.1, tt))

abbrev pub lend_three : {X Y Z : Type 0} → (ℕ → Place) → X × Y × Z → MutBor X × (MutBor Y × Last Z)
lend_three e x = (mut_ref (e 0) x.0, (mut_ref (e 1) x.1, (mut_ref (e 2) x.2, tt)))

abbrev pub lend_list : {X Y : Type 0} → (ℕ → Place) → Y × X → MutBor X × Last Y
lend_list e x = (mut_ref (e 0) x.1, (mut_ref (e 1) x.0, tt))

abbrev pub lend_dated : {X Y Z B A : Type 0} → (ℕ → Place) → (X × Y × Z) × (B × A) → MutBor X × (MutBor Y × (MutBor Z × (MutBor B × Last A)))
lend_dated e x =
    (mut_ref (e 0) x.0.0, (mut_ref (e 1) x.0.1, (mut_ref (e 2) x.0.2, (mut_ref (e 3) x.1.0, (mut_ref (e 4) x.1.1, tt)))))

abbrev pub lend_list_ad : {X Y B A : Type 0} → (ℕ → Place) → (Y × (B × A)) × X → MutBor X × (MutBor Y × (MutBor B × Last A))
lend_list_ad e x = (mut_ref (e 0) x.1, (mut_ref (e 1) x.0.0, (mut_ref (e 2) x.0.1.0, (mut_ref (e 3) x.0.1.1, tt))))

abbrev pub lend_month : (ℕ → Place) → MonthState → MonthLent
lend_month e x =
    let p = x.0 in
    let from = p.1 in
    let to = p.2 in (
      mut_ref (e 0) x.1.0,
      (
        mut_ref (e 1) x.1.1,
        (
          mut_ref (e 2) p.0,
          (
            mut_ref (e 3) from.0,
            (
              mut_ref (e 4) from.1,
              (
                mut_ref (e 5) from.2,
                (mut_ref (e 6) to.0, (mut_ref (e 7) to.1, (mut_ref (e 8) to.2, (mut_ref (e 9) p.3, (mut_ref (e 10) p.4, tt))))),
              ),
            ),
          ),
        ),
      ),
    )
