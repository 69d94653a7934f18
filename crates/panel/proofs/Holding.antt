-- NO SECOND ANSWER, AND A REFUSAL LEAVES WHAT WAS LENT, for each call over a kept array that is too short or holds a state: two numbers that meet its contract are
-- equal, and so is all that they leave in the lent places, the buffers and the array; a number other than 0 leaves these as they were, but that 7 writes its
-- days to places of their own. A start promises so of every array. Assumes nothing.
use Rattle.std.specs.Prelude.{Err}
use Prim.Native.Nat.{ℕ}
use mathlib.Core.Path.{◌≡◌, refl, sym, ap, ◌∙◌}
use mathlib.Core.List.{List, [], ◌∷◌}
use mathlib.Core.Logic.{inl, inr}
use Rattle.paper.specs.declared.Refusal.{Refusal}
use Rattle.paper.specs.declared.Refusal.TheVariants.{NoRoom}
use Rattle.paper.specs.Answers.{Answer}
use Rattle.paper.specs.Refusals.{number}
use Rattle.gregorian.specs.declared.Date.{Date}
use Rattle.conversion.specs.Flat.{date}
use Rattle.rules.specs.Festivals.{Pair, listed}
use Rattle.grid.specs.Month.{Grid, shown}
use Rattle.kept.specs.State.{State, year_numbers}
use Rattle.kept.specs.Operations.{Outcome, Reply, take_rules, append_row, forgotten, row_first, row_first_month, ask_bs, ask_ad, ask_month}
use Rattle.kept.specs.Converting.{ask_to_ad, ask_from_ad}
use Rattle.steady.proofs.Refusals.{list_left, month_left}
use Rattle.shelf.specs.Numbers.{laid}
use Rattle.panel.specs.Boundary.{gives, days_in, gives_told, numbers, bs_numbers, table, month_numbers}
use Rattle.panel.specs.Lent as L
use Rattle.panel.specs.Lent.{MonthState, three, dated, listed_ad, month, with_array}
use Rattle.panel.specs.Keeping.{Keeping, written, start_in, kept_done, kept_years, kept_list, kept_list_ad, kept_month}
use Rattle.panel.specs.Claims.{Crosses, CrossesTelling, Meant, OfMeant}
use Rattle.panel.proofs.Crossing.{Told, crosses, other_refused, gives_code, gives_left, told_code, parts_kept, told_kept, no_days}
use Rattle.panel.proofs.Handing.{both}
use Rattle.panel.proofs.keeping.panel_kept_start.Reads as Start
use Rattle.panel.proofs.keeping.panel_kept_take_rules.Reads as TakeRules
use Rattle.panel.proofs.keeping.panel_kept_append_row.Reads as AppendRow
use Rattle.panel.proofs.keeping.panel_kept_forget.Reads as Forget
use Rattle.panel.proofs.keeping.panel_kept_stored.Reads as Stored
use Rattle.panel.proofs.kept_lists.panel_kept_festivals_on.Reads as FestivalsOn
use Rattle.panel.proofs.kept_lists.panel_kept_festivals_on_ad.Reads as FestivalsOnAd
use Rattle.panel.proofs.kept_months.panel_kept_month_grid.Reads as MonthGrid
use Rattle.panel.proofs.kept_dates.panel_kept_bs_to_ad.Reads as BsToAd
use Rattle.panel.proofs.kept_dates.panel_kept_ad_to_bs.Reads as AdToBs

-- ---- the laws

module _ {K : Type 0} {A S : K → Type 0} {B : Type 0} {C : (k : K) → A k → ℕ → S k → Type 0} {array : (k : K) → A k → List ℕ} {before : (k : K) → A k → B} {after : (k : K) → S k → B}
    (on : (k : K) → A k → State → Told B) (e : (k : K) (a : A k) (x : ℕ) (s : S k) → C k a x s → Keeping (array k a) x (before k a) (after k s) (on k a)) where
  -- what is told of such an array
  abbrev telling : (k : K) (a : A k) → Meant (array k a) → Told B
  telling k a (inl h) = (number NoRoom, before k a)
  telling k a (inr u) = on k a u.0

  is_told : (k : K) (a : A k) (m : Meant (array k a)) (x : ℕ) (s : S k) → C k a x s → ◌≡◌ {A = Told B} (x, after k s) (telling k a m)
  is_told k a (inl h) x s c = (e k a x s c).short h
  is_told k a (inr u) x s c = (e k a x s c).made u.0 u.1

  kept_once : (k : K) (a : A k) (x y : ℕ) (s t : S k) → OfMeant C array k a x s → OfMeant C array k a y t → (x ≡ y) × (after k s ≡ after k t)
  kept_once k a x y s t p q =
      let d : ◌≡◌ {A = Told B} (x, after k s) (y, after k t) = is_told k a p.0 x s p.1 ∙ sym (is_told k a p.0 y t q.1) in
      (ap (λ (z : Told B). z.0) d, ap (λ (z : Told B). z.1) d)

  -- what holds of all that is lent where the array is too short, and where it is told otherwise, holds of what a call leaves
  leaves : (P : ℕ → Type 0) (Q : B → B → Type 0) → ((b : B) → Q b b) → ((k : K) (a : A k) (σ : State) → P (on k a σ).0 → Q (on k a σ).1 (before k a))
      → (k : K) (a : A k) (x : ℕ) (s : S k) → OfMeant C array k a x s → P x → Q (after k s) (before k a)
  leaves P Q r f k a x s (inl h, c) n = let d = is_told k a (inl h) x s c in rw (ap (λ (z : Told B). z.1) d) (r (before k a))
  leaves P Q r f k a x s (inr u, c) n = let d = is_told k a (inr u) x s c in rw (ap (λ (z : Told B). z.1) d) (f k a u.0 (rw (ap (λ (z : Told B). z.0) d) at n))

  pub by_state : ((k : K) (a : A k) (σ : State) → ((on k a σ).0 ≡ 0 → ⊥) → (on k a σ).1 ≡ before k a) → Crosses (OfMeant C array) before after
  by_state f = record { once = kept_once; left = leaves (λ x. x ≡ 0 → ⊥) (λ b c. b ≡ c) (λ b. refl) f }

module _ {K : Type 0} {A S : K → Type 0} {P D B : Type 0} {C : (k : K) → A k → ℕ → S k → Type 0} {array : (k : K) → A k → List ℕ} {before : (k : K) → A k → (P × D) × B} {after : (k : K) → S k → (P × D) × B}
    (on : (k : K) → A k → State → Told ((P × D) × B)) (e : (k : K) (a : A k) (x : ℕ) (s : S k) → C k a x s → Keeping (array k a) x (before k a) (after k s) (on k a)) where
  pub by_telling_state : (n : ℕ)
      → ((k : K) (a : A k) (σ : State) → ((on k a σ).0 ≡ 0 → ⊥) → ((on k a σ).1.0.0 ≡ (before k a).0.0) × ((on k a σ).1.1 ≡ (before k a).1))
      → ((k : K) (a : A k) (σ : State) → ((on k a σ).0 ≡ n → ⊥) → (on k a σ).1.0.1 ≡ (before k a).0.1)
      → CrossesTelling n (OfMeant C array) before after
  by_telling_state n f g =
      record {
        once = kept_once on e;
        left = leaves on e (λ x. x ≡ 0 → ⊥) (λ b c. (b.0.0 ≡ c.0.0) × (b.1 ≡ c.1)) (λ b. (refl, refl)) f;
        told_left = leaves on e (λ x. x ≡ n → ⊥) (λ b c. b.0.1 ≡ c.0.1) (λ b. refl) g;
      }

-- places alone, beside no buffer
alone : {B : Type 0} {a : List ℕ} {n : ℕ} {before after : B} {on : State → Told B} → Keeping a n before after on
    → Keeping {B = B × Unit {0}} a n (before, tt) (after, tt) (λ σ. ((on σ).0, ((on σ).1, tt)))
alone {B} c = record { short = λ h. ap (λ (z : Told B). (z.0, (z.1, tt))) (c.short h); made = λ σ m. ap (λ (z : Told B). (z.0, (z.1, tt))) (c.made σ m) }

-- ---- a number other than 0 leaves what was lent

written_left : {A : Type 0} (a : List ℕ) (σ : State) (x : Answer A) (k : Refusal) → x ≡ Err k → written a σ x ≡ a
written_left a σ x k e = rw e

done_left : (a : List ℕ) (w : Outcome) → ((kept_done a w).0 ≡ 0 → ⊥) → (kept_done a w).1 ≡ a
done_left a w h = let r = other_refused w.answer h in written_left a w.state w.answer r.0 r.1

-- nothing is refused
years_left : (ys : List ℕ) (old : ℕ × ℕ × ℕ) → ((kept_years ys).0 ≡ 0 → ⊥) → (kept_years ys).1 ≡ old
years_left [] old h = absurd (h refl)
years_left (y ∷ []) old h = absurd (h refl)
years_left (y ∷ z ∷ ys) old h = absurd (h refl)

row_left : (rows : List ℕ) (a : Answer (List Pair)) (out : List ℕ) (k : Refusal) → (row_first rows (listed a out) out).answer ≡ Err k → (row_first rows (listed a out) out).buffer ≡ out
unfolding row_first
row_left [] a out k e = refl
row_left (x ∷ rows) a out k e = list_left a out k e

page_left : (rows : List ℕ) (a : Answer Grid) (cells festivals : List ℕ) (k : Refusal) → (row_first_month rows (shown a cells festivals) cells festivals).answer ≡ Err k
    → ((row_first_month rows (shown a cells festivals) cells festivals).cells ≡ cells) × ((row_first_month rows (shown a cells festivals) cells festivals).festivals ≡ festivals)
unfolding row_first_month
page_left [] a cells festivals k e = (refl, refl)
page_left (x ∷ rows) a cells festivals k e = month_left a cells festivals k e

-- the buffer of a reply that is refused
abbrev Untouched : Reply → List ℕ → Type 0
Untouched w out = (k : Refusal) → w.listed.answer ≡ Err k → w.listed.buffer ≡ out

bs_left : (σ : State) (y m d : ℕ) (out : List ℕ) → Untouched (ask_bs σ y m d out) out
unfolding ask_bs
bs_left σ y m d out k e = row_left σ.rows _ out k e

ad_left : (σ : State) (y m d : ℕ) (out : List ℕ) → Untouched (ask_ad σ y m d out) out
unfolding ask_ad
ad_left σ y m d out k e = row_left σ.rows _ out k e

module _ (a : List ℕ) (w : Reply) (out : List ℕ) (u : Untouched w out) where
  list_kept : (old : ℕ) → ((kept_list a w old).0 ≡ 0 → ⊥) → (kept_list a w old).1 ≡ (old, (out, a))
  list_kept old h =
      let r = other_refused w.listed.answer (λ z. h (gives_code w.listed.answer (λ n. n) old ∙ z)) in
      both (gives_left w.listed.answer (λ n. n) old h) (both (u r.0 r.1) (written_left a w.state w.listed.answer r.0 r.1))

  list_ad_kept : (old : ℕ × (ℕ × ℕ)) → ((kept_list_ad a w old).0 ≡ 0 → ⊥) → ((kept_list_ad a w old).1.0.0 ≡ old.0) × ((kept_list_ad a w old).1.1 ≡ (out, a))
  list_ad_kept old h =
      let r = other_refused w.listed.answer (λ z. h (told_code days_in (λ n. n) w.listed.answer old ∙ z)) in
      (parts_kept days_in (λ n. n) w.listed.answer old h, both (u r.0 r.1) (written_left a w.state w.listed.answer r.0 r.1))

page_kept : (a : List ℕ) (σ : State) (today : Date) (y m : ℕ) (old : MonthState) → let w = ask_month σ today y m old.1.0 old.1.1 in
    ((kept_month a w old.0).0 ≡ 0 → ⊥) → (kept_month a w old.0).1 ≡ with_array old a
unfolding ask_month
page_kept a σ today y m old h =
    let w = ask_month σ today y m old.1.0 old.1.1 in
    let r = other_refused w.shown.answer (λ z. h (gives_code w.shown.answer month_numbers old.0 ∙ z)) in
    let b = page_left σ.rows _ old.1.0 old.1.1 r.0 r.1 in
    both (gives_left w.shown.answer month_numbers old.0 h) (both (both b.0 b.1) (written_left a w.state w.shown.answer r.0 r.1))

-- ---- the calls

pub start : Crosses Start.Learnt (λ k a. a.1.1.1.1.0.now) (λ k s. s.1.1.1.1.0.now)
start =
    crosses (λ k a. let l = a.1.1.1.1.0.now in gives (start_in (table a.0 a.1.0 a.1.1.0 a.1.1.1.0) l) (laid l) l) (λ k a x s p. p)
    (λ k a. let l = a.1.1.1.1.0.now in gives_left (start_in (table a.0 a.1.0 a.1.1.0 a.1.1.1.0) l) (laid l) l)

pub take_rules_law : Crosses (OfMeant TakeRules.Learnt (λ k a. a.0.now)) (λ k a. a.0.now) (λ k s. s.0.now)
take_rules_law = by_state (λ k a σ. kept_done a.0.now (take_rules σ a.1.0.now)) (λ k a x s p. p) (λ k a σ. done_left a.0.now (take_rules σ a.1.0.now))

pub append_row_law : Crosses (OfMeant AppendRow.Learnt (λ k a. a.0.now)) (λ k a. a.0.now) (λ k s. s.0.now)
append_row_law = by_state (λ k a σ. kept_done a.0.now (append_row σ a.1.0.now)) (λ k a x s p. p) (λ k a σ. done_left a.0.now (append_row σ a.1.0.now))

pub forget : Crosses (OfMeant Forget.Learnt (λ k a. a.0.now)) (λ k a. a.0.now) (λ k s. s.0.now)
forget = by_state (λ k a σ. (0, laid a.0.now (forgotten σ))) (λ k a x s p. p) (λ k a σ h. absurd (h refl))

pub stored : Crosses (OfMeant Stored.Learnt (λ k a. a.0.now)) (λ k a. three a.1) (λ k s. three s.1)
stored = by_state (λ k a σ. kept_years (year_numbers σ.stored)) (λ k a x s p. p) (λ k a σ. years_left (year_numbers σ.stored) (three a.1))

pub festivals_on : Crosses (OfMeant FestivalsOn.Learnt (λ k a. a.0.now)) (λ k a. with_array (L.listed a.1.1.1.1) a.0.now) (λ k s. with_array (L.listed s.1.1.1.1) s.0.now)
festivals_on =
    by_state (λ k a σ. let b = L.listed a.1.1.1.1 in kept_list a.0.now (ask_bs σ a.1.0 a.1.1.0 a.1.1.1.0 b.1) b.0) (λ k a x s p. p)
    (λ k a σ. let b = L.listed a.1.1.1.1 in list_kept a.0.now (ask_bs σ a.1.0 a.1.1.0 a.1.1.1.0 b.1) b.1 (bs_left σ a.1.0 a.1.1.0 a.1.1.1.0 b.1) b.0)

pub festivals_on_ad : CrossesTelling 7 (OfMeant FestivalsOnAd.Learnt (λ k a. a.0.now)) (λ k a. with_array (listed_ad a.1.1.1.1) a.0.now) (λ k s. with_array (listed_ad s.1.1.1.1) s.0.now)
festivals_on_ad =
    by_telling_state (λ k a σ. let b = listed_ad a.1.1.1.1 in kept_list_ad a.0.now (ask_ad σ a.1.0 a.1.1.0 a.1.1.1.0 b.1) b.0) (λ k a x s p. p) 7
    (λ k a σ. let b = listed_ad a.1.1.1.1 in list_ad_kept a.0.now (ask_ad σ a.1.0 a.1.1.0 a.1.1.1.0 b.1) b.1 (ad_left σ a.1.0 a.1.1.0 a.1.1.1.0 b.1) b.0)
    (λ k a σ. let b = listed_ad a.1.1.1.1 in told_kept days_in (λ n. n) 7 no_days (ask_ad σ a.1.0 a.1.1.0 a.1.1.1.0 b.1).listed.answer b.0)

pub month_grid_law : Crosses (OfMeant MonthGrid.Learnt (λ k a. a.0.now)) (λ k a. with_array (month a.1.1.1.1.1.1) a.0.now) (λ k s. with_array (month s.1.1.1.1.1.1) s.0.now)
month_grid_law =
    by_state
    (λ k a σ. let b = month a.1.1.1.1.1.1 in kept_month a.0.now (ask_month σ (date a.1.0 a.1.1.0 a.1.1.1.0) a.1.1.1.1.0 a.1.1.1.1.1.0 b.1.0 b.1.1) b.0)
    (λ k a x s p. p)
    (λ k a σ. page_kept a.0.now σ (date a.1.0 a.1.1.0 a.1.1.1.0) a.1.1.1.1.0 a.1.1.1.1.1.0 (month a.1.1.1.1.1.1))

pub bs_to_ad : Crosses (OfMeant BsToAd.Learnt (λ k a. a.0.now)) (λ k a. three a.1.1.1.1) (λ k s. three s.1.1.1.1)
bs_to_ad =
    by_state (λ k a σ. gives (ask_to_ad σ a.1.0 a.1.1.0 a.1.1.1.0) numbers (three a.1.1.1.1)) (λ k a x s p. p)
    (λ k a σ. gives_left (ask_to_ad σ a.1.0 a.1.1.0 a.1.1.1.0) numbers (three a.1.1.1.1))

pub ad_to_bs : CrossesTelling {B = Unit {0}} 7 (OfMeant AdToBs.Learnt (λ k a. a.0.now)) (λ k a. (dated a.1.1.1.1, tt)) (λ k s. (dated s.1.1.1.1, tt))
ad_to_bs =
    by_telling_state (λ k a σ. let g = gives_told days_in (ask_from_ad σ a.1.0 a.1.1.0 a.1.1.1.0) bs_numbers (dated a.1.1.1.1) in (g.0, (g.1, tt))) (λ k a x s p. alone p) 7
    (λ k a σ h. (parts_kept days_in bs_numbers (ask_from_ad σ a.1.0 a.1.1.0 a.1.1.1.0) (dated a.1.1.1.1) h, refl))
    (λ k a σ. told_kept days_in bs_numbers 7 no_days (ask_from_ad σ a.1.0 a.1.1.0 a.1.1.1.0) (dated a.1.1.1.1))
