-- The questions, case by case: what is answered and written, and what is stored. Assumes nothing.
use Rattle.std.specs.Prelude.{Err, Ok}
use Prim.Native.Nat.{ℕ}
use mathlib.Core.Path.{◌≡◌, refl, sym, ap, subst, ◌∙◌}
use mathlib.Core.Bool.{true, false}
use mathlib.Core.List.{List, [], ◌∷◌}
use native.Mathlib.Omega.{arith}
use borrow.Author.Tests.{eqb-true, eqb-false}
use lib.Dec.{eqb}
use lib.ListN.{length}
use Rattle.paper.specs.declared.Refusal.{Refusal}
use Rattle.paper.specs.declared.Refusal.TheVariants.{NoRow}
use Rattle.paper.specs.Answers.{Answer}
use Rattle.gregorian.specs.declared.Date.{Date}
use Rattle.conversion.specs.declared.Table.{Table}
use Rattle.conversion.specs.Calendar.{Calendar, to_day, from_ad}
use Rattle.conversion.specs.Claims.{YearIn}
use Rattle.conversion.specs.Flat.{flat}
use Rattle.conversion.proofs.Days.{converted}
use Rattle.rules.specs.Festivals.{Pair, Listed, listed}
use Rattle.rules.proofs.Listed.{says_refused}
use Rattle.festivals.specs.Answers.{on_bs, on_ad}
use Rattle.grid.specs.declared.Month.{Month}
use Rattle.grid.specs.Month.{Grid, Shown, shown}
use Rattle.grid.specs.Kathmandu.{month_shown}
use Rattle.grid.proofs.Grids as Grids
use Rattle.kept.specs.declared.Store.{Store}
use Rattle.kept.specs.declared.Kept.{Kept}
use Rattle.kept.specs.declared.After.{After}
use Rattle.kept.specs.State.{calendar, drawn, Good}
use Rattle.kept.specs.Operations.{with_years, after, empty, row_first, drawn_on, ask_bs, ask_ad, row_first_month, ask_month}
use Rattle.kept.specs.Held.{held, Ready, Holds, AskedAs, MonthAs}
use Rattle.kept.specs.Inner.{asked, Fresh, store_for, beside, DrewDay, DrewMonth}
use Rattle.kept.proofs.Records.{settled, untouched}
use Rattle.kept.proofs.Goods.{good_drawn, good_on}

-- ---- whether a row is held

pub is_empty : (l : List ℕ) → length l ≡ 0 → empty l ≡ true
is_empty [] h = refl
is_empty (x ∷ l) h = absurd (omega arith)

pub not_empty : (l : List ℕ) → (length l ≡ 0 → ⊥) → empty l ≡ false
not_empty [] h = absurd (h refl)
not_empty (x ∷ l) h = refl

-- what the test of a list for none says
pub none_in : (l : List ℕ) → true ≡ eqb (length l) 0 → length l ≡ 0
none_in l e = eqb-true (length l) 0 (sym e)

pub some_in : (l : List ℕ) → false ≡ eqb (length l) 0 → length l ≡ 0 → ⊥
some_in l e = eqb-false (length l) 0 (sym e)

module _ (rows : List ℕ) where
  pub row_less : length rows ≡ 0 → (l : Listed) (out : List ℕ) → row_first rows l out ≡ record { answer = Err NoRow; buffer = out }
  unfolding row_first
  row_less h l out = rw (is_empty rows h)

  pub row_held : (length rows ≡ 0 → ⊥) → (l : Listed) (out : List ℕ) → row_first rows l out ≡ l
  unfolding row_first
  row_held h l out = rw (not_empty rows h)

  pub month_less : length rows ≡ 0 → (w : Shown) (cells festivals : List ℕ) → row_first_month rows w cells festivals ≡ record { answer = Err NoRow; cells = cells; festivals = festivals }
  unfolding row_first_month
  month_less h w cells festivals = rw (is_empty rows h)

  pub month_held : (length rows ≡ 0 → ⊥) → (w : Shown) (cells festivals : List ℕ) → row_first_month rows w cells festivals ≡ w
  unfolding row_first_month
  month_held h w cells festivals = rw (not_empty rows h)

-- ---- a day

-- a date that has a day is one of the table's years
pub dated_in : (c : Calendar) (y m d n : ℕ) → to_day c y m d ≡ Ok n → YearIn c y
dated_in c y m d n e = let v = (converted c y m d n e).month in (v.year_from, v.year_to)

module _ (c : Calendar) (rules ys : List ℕ) where
  pub day_refused : (l : Listed) (k : Refusal) (buffer : List ℕ) → Err k ≡ l.answer → buffer ≡ l.buffer → {r : Answer (ℕ × Store)} → r ≡ Err k → DrewDay c rules ys l r buffer
  day_refused l k buffer e b q = record { answer = q ∙ ap (beside (store_for c rules ys)) e; written = b }

  pub day_counted : (l : Listed) (n : ℕ) (t : Store) (buffer : List ℕ) → Ok n ≡ l.answer → buffer ≡ l.buffer → t ≡ store_for c rules ys → DrewDay c rules ys l (Ok (n, t)) buffer
  day_counted l n t buffer e b q = record { answer = rw q (ap (beside (store_for c rules ys)) e); written = b }

  -- a question that is refused before it comes to a list
  pub day_not : (a : Answer (List Pair)) (k : Refusal) (out : List ℕ) → a ≡ Err k → {r : Answer (ℕ × Store)} → r ≡ Err k → DrewDay c rules ys (listed a out) r out
  day_not a k out e p = let q = says_refused k out in rw e (day_refused (listed (Err k) out) k out q.answer q.buffer p)

  -- a question before a row is held, and behind one
  pub day_rowless : (rows : List ℕ) → length rows ≡ 0 → (l : Listed) (out : List ℕ) → DrewDay c rules ys (row_first rows l out) (Err NoRow) out
  day_rowless rows h l out = rw (row_less rows h l out) (day_refused _ NoRow out refl refl refl)

  pub day_behind : (rows : List ℕ) → (length rows ≡ 0 → ⊥) → {l : Listed} (out : List ℕ) {r : Answer (ℕ × Store)} {buffer : List ℕ} → DrewDay c rules ys l r buffer → DrewDay c rules ys (row_first rows l out) r buffer
  day_behind rows h {l} out d = rw (row_held rows h l out) d

-- what is asked by other words
pub day_by_law : {c : Calendar} {rules ys zs : List ℕ} {a b : Answer (List Pair)} (out : List ℕ) {r : Answer (ℕ × Store)} {buffer : List ℕ} → zs ≡ ys → b ≡ a
    → DrewDay c rules ys (listed a out) r buffer → DrewDay c rules zs (listed b out) r buffer
day_by_law out p q d = rw (p, q) d

-- ---- a month

module _ (c : Calendar) (rules ys : List ℕ) where
  pub month_refused : (w : Shown) (k : Refusal) (a b : List ℕ) → Err k ≡ w.answer → a ≡ w.cells → b ≡ w.festivals → {r : Answer (Month × Store)} → r ≡ Err k → DrewMonth c rules ys w r a b
  month_refused w k a b e p q z = record { answer = z ∙ ap (beside (store_for c rules ys)) e; first = p; second = q }

  pub month_answered : (w : Shown) (x : Month) (t : Store) (a b : List ℕ) → Ok x ≡ w.answer → a ≡ w.cells → b ≡ w.festivals → t ≡ store_for c rules ys → DrewMonth c rules ys w (Ok (x, t)) a b
  month_answered w x t a b e p q z = record { answer = rw z (ap (beside (store_for c rules ys)) e); first = p; second = q }

  pub month_not : (g : Answer Grid) (k : Refusal) (cells festivals : List ℕ) → g ≡ Err k → {r : Answer (Month × Store)} → r ≡ Err k
      → DrewMonth c rules ys (shown g cells festivals) r cells festivals
  month_not g k cells festivals e z = let q = Grids.says_refused g k cells festivals e in month_refused _ k cells festivals q.answer q.first q.second z

  pub month_rowless : (rows : List ℕ) → length rows ≡ 0 → (w : Shown) (cells festivals : List ℕ) → DrewMonth c rules ys (row_first_month rows w cells festivals) (Err NoRow) cells festivals
  month_rowless rows h w cells festivals = rw (month_less rows h w cells festivals) (month_refused _ NoRow cells festivals refl refl refl refl)

  pub month_behind : (rows : List ℕ) → (length rows ≡ 0 → ⊥) → {w : Shown} (cells festivals : List ℕ) {r : Answer (Month × Store)} {a b : List ℕ} → DrewMonth c rules ys w r a b → DrewMonth c rules ys (row_first_month rows w cells festivals) r a b
  month_behind rows h {w} cells festivals d = rw (month_held rows h w cells festivals) d

pub month_by : {c : Calendar} {rules ys : List ℕ} {g h : Answer Grid} (cells festivals : List ℕ) {r : Answer (Month × Store)} {a b : List ℕ} → h ≡ g
    → DrewMonth c rules ys (shown g cells festivals) r a b → DrewMonth c rules ys (shown h cells festivals) r a b
month_by cells festivals e d = rw e d

-- ---- the state after a question

module _ {A : Type 0} (k : Kept) (w : Ready k) (ys : List ℕ) (g : Good (with_years (held k) ys)) (r : After A) (d : Answer (A × Store)) (q : r ≡ asked k d) where
  -- what is answered, and the state after it
  settles : (a : Answer A) → d ≡ beside (store_for (calendar (held k)) (held k).rules ys) a → (r.answer ≡ a) × Holds r.state (after (held k) ys a)
  settles (Ok x) e = let z = q ∙ ap (asked k) e in (ap (λ (r : After A). r.answer) z, settled k w ys g (ap (λ (r : After A). r.state) z))
  settles (Err n) e = let z = q ∙ ap (asked k) e in (ap (λ (r : After A). r.answer) z, untouched k w (ap (λ (r : After A). r.state) z))

-- a question over what is lent is one over what is held
module _ (k : Kept) (w : Ready k) (rows rules : List ℕ) (p : rows ≡ (held k).rows) (q : rules ≡ (held k).rules) where
  abbrev t : Table
  t = k.table

  lent_held : (P : List ℕ → List ℕ → Type 0) → (Fresh (flat t rows) rules k.store → P rows rules) → P (held k).rows (held k).rules
  lent_held P h =
      let f = subst (λ (x : List ℕ). Fresh (flat t x) rules k.store → P x rules) p h in
      subst (λ (x : List ℕ). Fresh (flat t (held k).rows) x k.store → P (held k).rows x) q f w.good.stored

  pub asked-bs : (y m d : ℕ) (out buffer : List ℕ) (a : Answer (ℕ × Store)) (r : After ℕ)
      → (Fresh (flat t rows) rules k.store → DrewDay (flat t rows) rules (drawn (flat t rows) y m) (row_first rows (on_bs t rows rules y m d out) out) a buffer)
      → r ≡ asked k a → AskedAs r buffer (ask_bs (held k) y m d out)
  unfolding ask_bs
  asked-bs y m d out buffer a r h e =
      let g = lent_held (λ rows rules. DrewDay (flat t rows) rules (drawn (flat t rows) y m) (row_first rows (on_bs t rows rules y m d out) out) a buffer) h in
      let s = settles k w _ (good_drawn (held k) w.good y m) r a e _ g.answer in
      record { answer = s.0; written = g.written; holds = s.1 }

  pub asked-ad : (y m d : ℕ) (out buffer : List ℕ) (a : Answer (ℕ × Store)) (r : After ℕ)
      → (Fresh (flat t rows) rules k.store
      → DrewDay (flat t rows) rules (drawn_on (flat t rows) (from_ad (flat t rows) y m d)) (row_first rows (on_ad t rows rules y m d out) out) a buffer)
      → r ≡ asked k a → AskedAs r buffer (ask_ad (held k) y m d out)
  unfolding ask_ad
  asked-ad y m d out buffer a r h e =
      let g = lent_held (λ rows rules. DrewDay (flat t rows) rules (drawn_on (flat t rows) (from_ad (flat t rows) y m d)) (row_first rows (on_ad t rows rules y m d out) out) a buffer) h in
      let s = settles k w _ (good_on (held k) w.good (from_ad (calendar (held k)) y m d)) r a e _ g.answer in
      record { answer = s.0; written = g.written; holds = s.1 }

  pub asked-month : (today : Date) (y m : ℕ) (cells festivals a b : List ℕ) (d : Answer (Month × Store)) (r : After Month)
      → (Fresh (flat t rows) rules k.store
      → DrewMonth (flat t rows) rules (drawn (flat t rows) y m) (row_first_month rows (month_shown t rows rules today y m cells festivals) cells festivals) d a b)
      → r ≡ asked k d → MonthAs r a b (ask_month (held k) today y m cells festivals)
  unfolding ask_month
  asked-month today y m cells festivals a b d r h e =
      let g = lent_held (λ rows rules. DrewMonth (flat t rows) rules (drawn (flat t rows) y m) (row_first_month rows (month_shown t rows rules today y m cells festivals) cells festivals) d a b) h in
      let s = settles k w _ (good_drawn (held k) w.good y m) r d e _ g.answer in
      record { answer = s.0; first = g.first; second = g.second; holds = s.1 }
