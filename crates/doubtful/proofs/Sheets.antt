-- What a year puts on a page, step by step. Assumes nothing.
use Rattle.std.specs.Prelude.{Err, None, Ok, Option, Some}
use Prim.Native.Nat.{ℕ, zero, suc, ◌+◌, ◌-◌, ◌≤◌, ◌<◌}
use mathlib.Core.Bool.{Bool, true, false, cond, ◌&&◌, ◌||◌, true≢false}
use mathlib.Core.Path.{◌≡◌, refl, sym, ap, ◌∙◌}
use mathlib.Core.List.{List, ◌++◌}
use mathlib.Core.Logic.{⊎_elim}
use native.Mathlib.Numerals.{add-one}
use native.Mathlib.Omega.{arith}
use borrow.Author.Tests.{eq-eqb, ne_eqb, leb-true, le-leb, lt-leb, le-ltb}
use lib.Dec.{leb, ltb}
use lib.ListN.{length, get_or, drop}
use lib.Seq.{drop-cons}
use Rattle.std.specs.Option.{is_some}
use Rattle.std.proofs.lemmas.List.{drop_all}
use lib.Ieee.{Float, nan, eq}
use Rattle.paper.specs.declared.Refusal.{Refusal}
use Rattle.paper.specs.Answers.{Answer}
use Rattle.paper.proofs.Answers.{given_answered}
use Rattle.paper.proofs.Tests.{and_left, and_right, split}
use Rattle.output.specs.Gathered.{Gathered, gathered}
use Rattle.output.specs.declared.Out.{Out}
use Rattle.conversion.specs.declared.BsDate.{BsDate}
use Rattle.conversion.specs.Calendar.{Calendar, year_ok, month_ok, month_len}
use Rattle.rules.specs.declared.Rule.{Rule}
use Rattle.rules.specs.Days.{holds}
use Rattle.festivals.specs.Kathmandu.{moons_around, kathmandu, last_in, opening_in}
use Rattle.festivals.specs.Months.{year_days, months_by, month_at}
use Rattle.festivals.specs.declared.months.Months.{Months}
use Rattle.notes.specs.Near.{dated_moon, nearness}
use Rattle.output.specs.Pieces.{Text, put_pieces, Puts}
use Rattle.notes.specs.Lines.{moment_pieces, opening_pieces, none_pieces, rules_pieces, beside_pieces}
use Rattle.doubtful.specs.Tallies.{Tally, tally_of, with_heading, one_more, doubted, unopened, heading_pieces}
use Rattle.doubtful.specs.Years.{Sheet, sheet, under, near_line, dated_line, month_line, month_lines, opens_month, opened_at, length_line, placed_line, day_line, moon_line, moon_lines, days_page, year_page, years_page}
use Rattle.doubtful.specs.Inner.{with_out, Opened, has_place, opens_place}
use Rattle.doubtful.specs.declared.page.Page.{Page}
use Rattle.output.proofs.Pieces.{then}
use Rattle.festivals.proofs.Moons.{month_at_law}
use Rattle.festivals.proofs.TableYears.{opens}

-- ---- lines under a heading

abbrev made : Gathered → Tally → Sheet
made g t = record { written = g; tally = t }

under_sheet : (l : List ℕ) (p : Page) (y : ℕ) (pieces : List Text) (m : List ℕ) (r : Page) (count : Tally → Tally) → Puts l p.out (heading_pieces p.headed y ++ pieces) m r.out → tally_of r ≡ count (tally_of p) → sheet m r ≡ under y pieces count (sheet l p)
unfolding under
under_sheet l p y pieces m r count w e = ap (λ (g : Gathered). made g (tally_of r)) w.same ∙ ap (made (put_pieces (gathered l p.out) (heading_pieces p.headed y ++ pieces))) e

-- a page with so many lunar months that nothing opens
abbrev emptied : Page → Out → ℕ → Page
emptied h o n = record { out = o; headed = true; near = h.near; first = h.first; second = h.second; empty = n }

-- the heading, then lines, then what they count
module _ (p : Page) (y : ℕ) (h : Page) {l k : List ℕ} {pieces : List Text} {m : List ℕ} (w : Puts l p.out (heading_pieces p.headed y) k h.out) (e : tally_of h ≡ with_heading true (tally_of p)) where
  pub doubted_sheet : (r : Page) (near first opens : Bool) → Puts k h.out pieces m r.out → tally_of r ≡ doubted near first opens (tally_of h) → sheet m r ≡ under y pieces (doubted near first opens) (sheet l p)
  unfolding doubted
  doubted_sheet r near first opens v f = under_sheet l p y pieces m r (doubted near first opens) (then w v) (f ∙ ap (doubted near first opens) e)

  pub unopened_sheet : (o : Out) (n : ℕ) → Puts k h.out pieces m o → n ≡ one_more h.empty → sheet m (emptied h o n) ≡ under y pieces unopened (sheet l p)
  unfolding unopened
  unopened_sheet o n v f = under_sheet l p y pieces m (emptied h o n) unopened (then w v) (rw f (ap unopened e))

-- ---- a new moon on a date

module _ (rules : List Rule) (names : List ℕ) (x : Float) (n : ℕ) (t : BsDate) (opens : Bool) (len : ℕ) (s : Sheet) (q : Option (Bool × ℕ)) (e : q ≡ nearness x n t.day len) where
  near_is : {d : Option (Bool × ℕ)} → q ≡ d → near_line rules names x n t opens d s ≡ dated_line rules names x n t opens len s
  unfolding dated_line
  near_is g = ap (λ (d : Option (Bool × ℕ)). near_line rules names x n t opens d s) (sym g ∙ e)

  pub dated_beside : {after : Bool} {minutes : ℕ} → q ≡ Some (after, minutes) → under t.year (moment_pieces x n ++ beside_pieces rules names t opens after minutes) (doubted true after opens) s ≡ dated_line rules names x n t opens len s
  dated_beside g = near_is g

  pub dated_far : q ≡ None → opens ≡ false → under t.year (moment_pieces x n ++ opening_pieces t opens) (doubted false false opens) s ≡ dated_line rules names x n t opens len s
  dated_far g o =
      let f : under t.year (moment_pieces x n ++ opening_pieces t opens) (doubted false false opens) s ≡ near_line rules names x n t opens None s = rw o in
      f ∙ near_is g

  pub dated_plain : q ≡ None → opens ≡ true → s ≡ dated_line rules names x n t opens len s
  dated_plain g o =
      let f : s ≡ near_line rules names x n t opens None s = rw o in
      f ∙ near_is g

-- ---- the places of the months

-- a month that has a length is one of the twelve
month_ok_law : (c : Calendar) (y m : ℕ) {len : ℕ} → month_len c y m ≡ Ok len → month_ok m ≡ true
unfolding month_len
month_ok_law c y m e =
    let a = (given_answered c.good _ _ e).1 in
    let b = (given_answered (year_ok c y) _ _ a).1 in
    (given_answered (month_ok m) _ _ b).0

month_twelve : (m : ℕ) → month_ok m ≡ true → (1 ≤ m) × (m ≤ 12)
month_twelve m e = (leb-true 1 m (and_left (leb 1 m) (leb m 12) e), leb-true m 12 (and_right (leb 1 m) (leb m 12) e))

opens_same : (c : Calendar) (y z m : ℕ) (x : Float) (places : Months) {len : ℕ} → Opened c y places → month_len c z m ≡ Ok len → opens_place places m x ≡ opens_month c y m x
unfolding opens_place opens_month
opens_same c y z m x places h e =
    let o = month_ok_law c z m e in
    let t = month_twelve m o in
    let j : m - 1 < 12 = omega arith in
    let f : month_at places (m - 1) ≡ opening_in c y m = h (m - 1) j ∙ ap (opening_in c y) (let k : m - 1 + 1 ≡ m = omega arith in k) in
    rw (o, f)

pub opens_some : (places : Months) (m : ℕ) (x : Float) {z : Float} → 1 ≤ m → m ≤ 12 → month_at places (m - 1) ≡ Some z → eq z x ≡ opens_place places m x
unfolding opens_place holds
opens_some places m x h k e = rw (le-leb 1 m h, le-leb m 12 k, e)

pub opens_none : (places : Months) (m : ℕ) (x : Float) → 1 ≤ m → m ≤ 12 → month_at places (m - 1) ≡ None → false ≡ opens_place places m x
unfolding opens_place holds
opens_none places m x h k e = rw (le-leb 1 m h, le-leb m 12 k, e)

pub opens_off : (places : Months) (m : ℕ) (x : Float) → (ltb m 1 || ltb 12 m) ≡ true → false ≡ opens_place places m x
unfolding opens_place
opens_off places m x h =
    ⊎_elim (λ (k : 1 ≤ m). ⊎_elim (λ (l : m ≤ 12). absurd (true≢false (sym (rw (le-ltb m 1 k, le-ltb 12 m l) at h)))) (λ (l : 12 < m). rw (le-leb 1 m k, lt-leb m 12 l)) (split m 12))
    (λ (k : m < 1). rw (lt-leb 1 m k))
    (split 1 m)

pub opened_same : (c : Calendar) (y : ℕ) (places : Months) → Opened c y places → (j : ℕ) → j < 12 → has_place places j ≡ opened_at c y j
unfolding opened_at holds month_at
opened_same c y places h j l = ap is_some (h j l) ∙ has (opening_in c y (j + 1))
  where
    has : (o : Option Float) → is_some o ≡ holds o (λ x. true)
    has (Some x) = refl
    has None = refl

-- ---- a new moon in a month

module _ (c : Calendar) (y : ℕ) (rules : List Rule) (names : List ℕ) (x : Float) (n : ℕ) (t : BsDate) (s : Sheet) (q : Answer ℕ) (e : q ≡ month_len c t.year t.month) where
  placed_is : {a : Answer ℕ} → q ≡ a → length_line c y rules names x n t a s ≡ placed_line c y rules names x n t s
  unfolding placed_line
  placed_is g = ap (λ (a : Answer ℕ). length_line c y rules names x n t a s) (sym g ∙ e)

  pub placed_in : {len : ℕ} (places : Months) (opens : Bool) → Opened c y places → q ≡ Ok len → opens ≡ opens_place places t.month x
      → dated_line rules names x n t opens len s ≡ placed_line c y rules names x n t s
  placed_in {len} places opens h g o =
      ap (λ (b : Bool). dated_line rules names x n t b len s) (o ∙ opens_same c y t.year t.month x places h (sym e ∙ g))
      ∙ placed_is g

  pub placed_refused : {k : Refusal} → q ≡ Err k → s ≡ placed_line c y rules names x n t s
  placed_refused g = placed_is g

-- ---- a new moon

module _ (c : Calendar) (y : ℕ) (rules : List Rule) (names : List ℕ) (x : Float) (s : Sheet) (q : Option (ℕ × BsDate)) (e : q ≡ dated_moon c x) where
  line_is : {d : Option (ℕ × BsDate)} → q ≡ d → day_line c y rules names x d s ≡ moon_line c y rules names x s
  unfolding moon_line
  line_is g = ap (λ (d : Option (ℕ × BsDate)). day_line c y rules names x d s) (sym g ∙ e)

  pub line_undated : q ≡ None → s ≡ moon_line c y rules names x s
  line_undated g = line_is g

  module _ {n : ℕ} {t : BsDate} (g : q ≡ Some (n, t)) where
    pub line_other : (t.year ≡ y → ⊥) → s ≡ moon_line c y rules names x s
    line_other f =
        let k : s ≡ day_line c y rules names x (Some (n, t)) s = rw (ne_eqb t.year y f) in
        k ∙ line_is g

    pub line-dated : t.year ≡ y → placed_line c y rules names x n t s ≡ moon_line c y rules names x s
    line-dated f =
        let k : placed_line c y rules names x n t s ≡ day_line c y rules names x (Some (n, t)) s = rw (eq-eqb t.year y f) in
        k ∙ line_is g

-- ---- the loops: what is left comes to the whole

module _ (c : Calendar) (y : ℕ) (rules : List Rule) (names : List ℕ) where
  pub moons_turn : (l : List Float) (i : ℕ) → i < length l → (s u v : Sheet) → u ≡ moon_line c y rules names (get_or l i nan) s → moon_lines c y rules names (drop i l) s ≡ v → moon_lines c y rules names (drop (i + 1) l) u ≡ v
  unfolding moon_lines
  moons_turn l i h s u v e q = rw (add-one, e) (rw (drop-cons l i nan h) at q)

  pub moons_end : (l : List Float) (i : ℕ) (s v : Sheet) → length l ≤ i → moon_lines c y rules names (drop i l) s ≡ v → s ≡ v
  unfolding moon_lines
  moons_end l i s v h q = rw (drop_all i l h) at q

module _ (rules : List Rule) (names : List ℕ) (y : ℕ) where
  pub months_turn : (opened : ℕ → Bool) (j : ℕ) → j < 12 → (s u v : Sheet) → u ≡ month_line rules names y (opened j) (j + 1) s → month_lines rules names y opened j (12 - j) s ≡ v → month_lines rules names y opened (j + 1) (12 - (j + 1)) u ≡ v
  unfolding month_lines
  months_turn opened j h s u v e q = let k : 12 - j ≡ suc (12 - (j + 1)) = omega arith in rw e (rw k at q)

  pub months_none : (opened : ℕ → Bool) (j : ℕ) (s : Sheet) → 12 ≤ j → month_lines rules names y opened j (12 - j) s ≡ s
  unfolding month_lines
  months_none opened j s h = let k : 12 - j ≡ 0 = omega arith in rw k

  pub months_same : (f g : ℕ → Bool) → ((j : ℕ) → j < 12 → f j ≡ g j) → (j k : ℕ) → j + k ≤ 12 → (s : Sheet) → month_lines rules names y f j k s ≡ month_lines rules names y g j k s
  unfolding month_lines
  months_same f g h j zero l s = refl
  months_same f g h j (suc k) l s =
      ap (λ (b : Bool). month_lines rules names y f (j + 1) k (month_line rules names y b (j + 1) s)) (h j (omega arith))
      ∙ months_same f g h (j + 1) k (omega arith) (month_line rules names y (g j) (j + 1) s)

  pub month_opened : (opened : Bool) (m : ℕ) (s : Sheet) → opened ≡ true → s ≡ month_line rules names y opened m s
  unfolding month_line
  month_opened opened m s e = rw e

  pub month_empty : (opened : Bool) (m : ℕ) (s : Sheet) → opened ≡ false → under y (none_pieces y m ++ rules_pieces rules names m) unopened s ≡ month_line rules names y opened m s
  unfolding month_line
  month_empty opened m s e = rw e

-- ---- a year

-- the last of its new moons in a month opens it
pub places_opened : (c : Calendar) (y : ℕ) {q : Option (ℕ × ℕ)} → q ≡ year_days c y → {a b : ℕ} → q ≡ Some (a, b) → {xs : List Float} → xs ≡ moons_around a b → (places : Months)
    → places ≡ months_by (λ m. last_in c y m xs) → Opened c y places
places_opened c y e g {xs} f places k j h =
    ap (λ (p : Months). month_at p j) k
    ∙ month_at_law (λ m. last_in c y m xs) j h
    ∙ ap (last_in c y (j + 1)) f
    ∙ opens kathmandu c y _ (sym g ∙ e) (j + 1)

module _ (c : Calendar) (y : ℕ) (rules : List Rule) (names : List ℕ) (l : List ℕ) (p : Page) (q : Option (ℕ × ℕ)) (e : q ≡ year_days c y) where
  year_is : {d : Option (ℕ × ℕ)} → q ≡ d → days_page c y rules names d (sheet l p) ≡ year_page c y rules names (sheet l p)
  unfolding year_page
  year_is g = ap (λ (d : Option (ℕ × ℕ)). days_page c y rules names d (sheet l p)) (sym g ∙ e)

  pub year_none : q ≡ None → sheet l p ≡ year_page c y rules names (sheet l p)
  year_none g = year_is g

  pub year_whole : {a b : ℕ} → q ≡ Some (a, b) → {xs : List Float} → xs ≡ moons_around a b → (places : Months) → Opened c y places → {o : Page} → o ≡ with_out false p p.out → (u v : Sheet)
      → u ≡ moon_lines c y rules names xs (sheet l o) → v ≡ month_lines rules names y (has_place places) 0 12 u → v ≡ year_page c y rules names (sheet l p)
  year_whole {a} {b} g {xs} f places h {o} z u v m w =
      w
      ∙ months_same rules names y (has_place places) (opened_at c y) (opened_same c y places h) 0 12 (omega arith) u
      ∙ ap (month_lines rules names y (opened_at c y) 0 12) (m ∙ ap (λ (r : Page). moon_lines c y rules names xs (sheet l r)) z ∙ ap (λ (ms : List Float). moon_lines c y rules names ms (sheet l (with_out false p p.out))) f)
      ∙ year_is g

-- ---- years, up to the last

module _ (c : Calendar) (rules : List Rule) (names : List ℕ) where
  pub years_none : (first last : ℕ) (s : Sheet) → last < first → s ≡ years_page c rules names first (last + 1 - first) s
  unfolding years_page
  years_none first last s h = let e : last + 1 - first ≡ 0 = omega arith in rw e

  pub years_turn : (y last : ℕ) → y ≤ last → (s u v : Sheet) → u ≡ year_page c y rules names s → years_page c rules names y (last + 1 - y) s ≡ v → years_page c rules names (y + 1) (last + 1 - (y + 1)) u ≡ v
  unfolding years_page
  years_turn y last h s u v e q = let k : last + 1 - y ≡ suc (last + 1 - (y + 1)) = omega arith in rw e (rw k at q)

  pub years_last : (y last : ℕ) → y ≤ last → last ≤ y → (s u v : Sheet) → u ≡ year_page c y rules names s → years_page c rules names y (last + 1 - y) s ≡ v → u ≡ v
  years_last y last h k s u v e q = years_none (y + 1) last u (omega arith) ∙ years_turn y last h s u v e q
