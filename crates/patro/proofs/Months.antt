-- The months of a year drawn one behind the other. Assumes nothing.
use Rattle.std.specs.Prelude.{Err, Ok}
use Prim.Native.Nat.{ℕ, suc, ◌+◌, ◌-◌, ◌≤◌}
use mathlib.Core.Path.{◌≡◌, refl, sym, ap, ◌∙◌}
use mathlib.Core.Bool.{false}
use mathlib.Core.List.{List, [], ◌++◌, append_assoc, append-nil}
use native.Mathlib.Omega.{arith}
use borrow.Author.Tests.{eq-eqb, ne_eqb}
use lib.ListN.{replicate}
use Rattle.paper.specs.declared.Refusal.{Refusal}
use Rattle.paper.specs.Answers.{Answer}
use Rattle.gregorian.specs.declared.Date.{Date}
use Rattle.text.specs.Written.{Wrote}
use Rattle.text.proofs.Writes.{wrote_none}
use Rattle.text.proofs.Writes as writes
use Rattle.conversion.specs.declared.Table.{Table}
use Rattle.conversion.specs.Flat.{flat}
use Rattle.rules.specs.Rules.{accepted_rules}
use Rattle.rules.specs.Lent.{accepting}
use Rattle.grid.specs.declared.Month.{Month}
use Rattle.grid.specs.Month.{Shown}
use Rattle.grid.specs.Kathmandu.{month_shown}
use Rattle.grid.proofs.Asked.{not_lent}
use Rattle.grid.proofs.Grids.{says_refused}
use Rattle.wall.specs.Pages.{feed}
use Rattle.kept.specs.declared.After.{After}
use Rattle.kept.specs.State.{State, calendar, drawn}
use Rattle.kept.specs.Operations.{forgotten, after, empty, row_first_month, ask_month}
use Rattle.kept.specs.Held.{held, MonthAs}
use Rattle.patro.specs.declared.pages.Part.TheVariants.{Whole}
use Rattle.patro.specs.Pages.{month_in, page_bs}
use Rattle.patro.specs.Years.{gap, behind, spaced, months_from, year_page}
use Rattle.patro.specs.Inner.{Draws}
use Rattle.patro.proofs.Drawing.{draws_page}
use Rattle.patro.proofs.Parts.{bs_refused}

-- ---- a month of a state

module _ (σ : State) (today : Date) (y m : ℕ) where
  -- what a state that holds a row shows
  asked_shown : empty σ.rows ≡ false → (ask_month σ today y m (replicate 504 0) (replicate 24576 0)).shown ≡ month_in σ.table σ.rows σ.rules today y m
  unfolding ask_month row_first_month
  asked_shown h = rw h

  -- it holds the same table and rules after it
  after_same : (cells festivals : List ℕ) → forgotten (ask_month σ today y m cells festivals).state ≡ forgotten σ
  unfolding ask_month
  after_same cells festivals = go (row_first_month σ.rows (month_shown σ.table σ.rows σ.rules today y m cells festivals) cells festivals).answer
    where
      go : (a : Answer Month) → forgotten (after σ (drawn (calendar σ) y m) a) ≡ forgotten σ
      go (Ok x) = refl
      go (Err k) = refl

  module _ (h : empty σ.rows ≡ false) {r : After Month} {cells festivals : List ℕ} (g : MonthAs r cells festivals (ask_month σ today y m (replicate 504 0) (replicate 24576 0))) where
    pub asked-answer : r.answer ≡ (month_in σ.table σ.rows σ.rules today y m).answer
    asked-answer = g.answer ∙ ap (λ (w : Shown). w.answer) (asked_shown h)

    pub asked-cells : cells ≡ (month_in σ.table σ.rows σ.rules today y m).cells
    asked-cells = g.first ∙ ap (λ (w : Shown). w.cells) (asked_shown h)

    pub asked-festivals : festivals ≡ (month_in σ.table σ.rows σ.rules today y m).festivals
    asked-festivals = g.second ∙ ap (λ (w : Shown). w.festivals) (asked_shown h)

    pub asked-same : forgotten (held r.state) ≡ forgotten σ
    asked-same = ap forgotten g.holds.state ∙ after_same (replicate 504 0) (replicate 24576 0)

-- ---- a text before a page

behind_refused : (text : List ℕ) {a : Answer (List ℕ)} {k : Refusal} → a ≡ Err k → behind text a ≡ Err k
behind_refused text e = rw e

behind_page : (text : List ℕ) {a : Answer (List ℕ)} {page : List ℕ} → a ≡ Ok page → behind text a ≡ Ok (text ++ page)
behind_page text e = rw e

behind_none : (a : Answer (List ℕ)) → behind [] a ≡ a
behind_none (Ok page) = refl
behind_none (Err k) = refl

behind_both : (text more : List ℕ) (a : Answer (List ℕ)) → behind text (behind more a) ≡ behind (text ++ more) a
behind_both text more (Ok page) = rw append_assoc
behind_both text more (Err k) = refl

-- it is written, and the page behind it
draws_behind : {a : Answer (List ℕ)} {l : List ℕ} {i : ℕ} {text m : List ℕ} {j : ℕ} {n : List ℕ} {r : Answer ℕ} → Wrote l i text m j → Draws a m j n r → Draws (behind text a) l i n r
draws_behind {text = text} w d =
    record {
      page = λ k q. let p = d.page k q in (text ++ p.0, (behind_page text p.1.0, writes.then w p.1.1));
      refusal = λ why q. behind_refused text (d.refusal why q);
    }

pub gap_none : (m : ℕ) → m ≡ 1 → gap m ≡ []
unfolding gap
gap_none m e = rw (eq-eqb m 1 e)

pub gap_feed : (m : ℕ) → (m ≡ 1 → ⊥) → gap m ≡ feed
unfolding gap
gap_feed m h = rw (ne_eqb m 1 h)

-- ---- the months of a year

module _ (t : Table) (rows rules names : List ℕ) (today : Date) (y : ℕ) where
  -- the month's page with what stands before it
  spaced_by : (m : ℕ) {text : List ℕ} → gap m ≡ text → spaced t rows rules names today y m ≡ behind text (page_bs t rows rules names today y m Whole)
  unfolding spaced
  spaced_by m e = rw e

  pub draws_spaced : (m : ℕ) {text l : List ℕ} {i : ℕ} {page : List ℕ} {j : ℕ} {after : List ℕ} {r : Answer ℕ} → gap m ≡ text → Wrote l i text page j
      → Draws (page_bs t rows rules names today y m Whole) page j after r → Draws (spaced t rows rules names today y m) l i after r
  draws_spaced m e w d = rw (spaced_by m e) (draws_behind w d)

  next_page : (text page : List ℕ) (m k : ℕ) → spaced t rows rules names today y m ≡ Ok page
      → behind text (months_from t rows rules names today y m (suc k)) ≡ behind (text ++ page) (months_from t rows rules names today y (m + 1) k)
  unfolding months_from
  next_page text page m k e = rw e (behind_both text page (months_from t rows rules names today y (m + 1) k))

  no_page : (text : List ℕ) (m k : ℕ) {why : Refusal} → spaced t rows rules names today y m ≡ Err why → behind text (months_from t rows rules names today y m (suc k)) ≡ Err why
  unfolding months_from
  no_page text m k e = rw e

  last_page : (text : List ℕ) (m : ℕ) → behind text (months_from t rows rules names today y m 0) ≡ Ok text
  unfolding months_from
  last_page text m = rw append-nil

  -- the pages before a month are drawn, and with those that are left they are the year
  pub record Sofar (out : List ℕ) (month : ℕ) (page : List ℕ) (at : ℕ) : Type 0 where
    pub text : List ℕ
    pub wrote : Wrote out 0 text page at
    pub left : behind text (months_from t rows rules names today y month (13 - month)) ≡ year_page t rows rules names today y

  pub sofar_none : (out : List ℕ) → Sofar out 1 out 0
  sofar_none out = record { text = []; wrote = wrote_none out 0; left = behind_none (year_page t rows rules names today y) }

  module _ {out : List ℕ} {month : ℕ} {page : List ℕ} {at : ℕ} (s : Sofar out month page at) where
    pub sofar-all : 13 ≤ month → Draws (year_page t rows rules names today y) out 0 page (Ok at)
    sofar-all h =
        let e : 13 - month ≡ 0 = omega arith in
        draws_page (sym s.left ∙ ap (λ (k : ℕ). behind s.text (months_from t rows rules names today y month k)) e ∙ last_page s.text month) s.wrote

    module _ (h : month ≤ 12) {after : List ℕ} {r : Answer ℕ} (d : Draws (spaced t rows rules names today y month) page at after r) where
      left_one : 13 - month ≡ suc (12 - month)
      left_one = omega arith

      pub sofar-next : {n : ℕ} → r ≡ Ok n → Sofar out (month + 1) after n
      sofar-next {n} q =
          let p = d.page _ q in
          let e : 13 - (month + 1) ≡ 12 - month = omega arith in
          record {
            text = s.text ++ p.0;
            wrote = writes.then s.wrote p.1.1;
            left = rw e (sym (next_page s.text p.0 month (12 - month) p.1.0) ∙ (rw left_one at s.left));
          }

      pub sofar-refused : {why : Refusal} → r ≡ Err why → year_page t rows rules names today y ≡ Err why
      sofar-refused q = sym (rw left_one at s.left) ∙ no_page s.text month (12 - month) (d.refusal _ q)

  -- what is not accepted is refused with the first month
  pub year_not_lent : (k : Refusal) → Err k ≡ accepting (flat t rows) (accepted_rules rules) → year_page t rows rules names today y ≡ Err k
  year_not_lent k e =
      let g = not_lent (flat t rows) (accepted_rules rules) _ _ today y 1 _ _ k e in
      let p = bs_refused t rows rules today y 1 (says_refused _ k (replicate 504 0) (replicate 24576 0) g).answer names Whole refl in
      sym (behind_none (year_page t rows rules names today y)) ∙ no_page [] 1 11 (spaced_by 1 (gap_none 1 refl) ∙ behind_refused [] p)
