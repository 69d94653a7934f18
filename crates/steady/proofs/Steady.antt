-- DEMAND 3 holds, for every accepted table and the same with more rows where that is accepted too. Assumes nothing.
use Rattle.std.specs.Prelude.{Err, Ok}
use Prim.Native.Nat.{ℕ, ◌*◌}
use mathlib.Core.Path.{◌≡◌, refl, sym, ap, ◌∙◌}
use mathlib.Core.Bool.{Bool, true, false, cond}
use native.Mathlib.Omega.{arith}
use mathlib.Core.List.{List, ◌++◌}
use lib.Dec.{leb}
use lib.ListN.{length, drop}
use Rattle.paper.specs.declared.Refusal.{Refusal}
use Rattle.paper.specs.declared.Refusal.TheVariants.{Before, After, NoRoom}
use Rattle.paper.specs.Answers.{Answer}
use Rattle.paper.specs.Refusals.{number}
use Rattle.paper.proofs.Answers.{refused_answered}
use Rattle.paper.proofs.Days.{same_number, refused_as}
use Rattle.gregorian.specs.declared.Date.{Date}
use Rattle.conversion.specs.declared.Table.{Table}
use Rattle.conversion.specs.Flat.{accepted}
use Rattle.conversion.specs.Claims.{RefusedIf}
use Rattle.conversion.proofs.Longer.{extends}
use Rattle.conversion.proofs.Theorems as Conversion
use Rattle.rules.specs.Rules.{rules_of, accepted_rules}
use Rattle.rules.specs.Festivals.{Pair, Listed, numbers, listed}
use Rattle.rules.proofs.Theorems as Lists
use Rattle.festivals.specs.Kathmandu.{kathmandu}
use Rattle.grid.specs.Month.{Grid, shown}
use Rattle.grid.proofs.Longer as Grids
use Rattle.holiday.proofs.Longer.{holiday_longer, holiday_added}
use Rattle.steady.specs.Steady.{Stays, AnswerStays, Steady}
use Rattle.steady.proofs.Stepping.{step_longer, step_added}

-- an answer alone
stays : {A : Type 0} {a b : Answer A} {k : Refusal} {P : A → Type 0} → ((x : A) → a ≡ Ok x → b ≡ Ok x) → ((x : A) → b ≡ Ok x → RefusedIf a k (P x)) → AnswerStays a b k P
stays longer added = record { same = λ x h. longer x h ∙ sym h; added = added }

-- an answer from which w makes all that is told, a refusal of a refusal
module _ {X W A : Type 0} (w : Answer X → W) (answer : W → Answer A) (refuses : (k : Refusal) → answer (w (Err k)) ≡ Err k) where
  tells : (u : Answer X) (v : A) → answer (w u) ≡ Ok v → (x : X) × (u ≡ Ok x)
  tells (Ok x) v h = (x, refl)
  tells (Err j) v h = absurd (refused_answered (refuses j) h)

  told_stays : {a b : Answer X} {k : Refusal} {P : Type 0} → ((x : X) → a ≡ Ok x → b ≡ Ok x) → ((x : X) → b ≡ Ok x → RefusedIf a k P) → Stays answer (w a) (w b) k (λ v. P)
  told_stays {a} {b} {k} {P} longer added =
      record {
        same = λ v h. let x = tells a v h in ap w (longer x.0 x.1 ∙ sym x.1);
        added = λ v h.
            let x = tells b v h in
            let r = added x.0 x.1 in
            record { when = λ p. ap (λ (z : Answer X). answer (w z)) (r.when p) ∙ refuses k; only = λ j q. go v h r j q a refl };
      }
    where
      go : (v : A) → answer (w b) ≡ Ok v → RefusedIf a k P → (j : Refusal) → answer (w a) ≡ Err j → (c : Answer X) → a ≡ c → P
      go v h r j q (Ok z) p = absurd (refused_answered q (ap (λ (u : Answer X). answer (w u)) (p ∙ sym (longer z p)) ∙ h))
      go v h r j q (Err i) p = r.only i p

listed_refused : (out : List ℕ) (k : Refusal) → (listed (Err k) out).answer ≡ Err k
unfolding listed
listed_refused out k = refl

-- a list in a buffer that is refused with 7 is refused before it comes to the buffer
listed_outside : (a : Answer (List Pair)) (out : List ℕ) (k : Refusal) → number k ≡ 7 → (listed a out).answer ≡ Err k → a ≡ Err k
unfolding listed
listed_outside (Ok l) out k n e = absurd (go (leb (length l * 2) (length out)) e)
  where
    go : (b : Bool) → (cond {A = Listed} b (record { answer = Ok (length l); buffer = numbers l ++ drop (length l * 2) out }) (record { answer = Err NoRoom; buffer = out })).answer ≡ Err k → ⊥
    go true h = refused_answered h refl
    go false h = let z = same_number h in omega arith
listed_outside (Err j) out k n e = refused_as e

shown_refused : (cells festivals : List ℕ) (k : Refusal) → (shown (Err k) cells festivals).answer ≡ Err k
unfolding shown
shown_refused cells festivals k = refl

-- DEMAND 3
pub steady : (t : Table) (rows more rules : List ℕ) (today : Date) → accepted t rows ≡ true → accepted t (rows ++ more) ≡ true → Steady t rows more rules today
steady t rows more rules today a b =
    let c = Conversion.steady t rows more a b in
    let l = Lists.steady kathmandu (rules_of rules) (accepted_rules rules) in
    let g = Grids.steady rules today t rows more a b in
    let x = extends t rows more a b in
    record {
      month_len_law = λ y m. stays (c.len y m) (c.len_added y m);
      valid = λ y m d. stays (λ u. c.valid y m d) (λ u. c.valid_added y m d);
      to_ad_law = λ y m d. stays (c.to y m d) (c.to_added y m d);
      to_bs = λ y m d. stays (c.from y m d) (c.from_added y m d);
      step = λ y m s. stays (step_longer _ _ x y m s) (step_added _ _ x y m s);
      list = λ y m d out. let s = l out t rows more a b in told_stays (λ (z : Answer (List Pair)). listed z out) (λ w. w.answer) (listed_refused out) (λ v h. (s.on_bs_law y m d v h).answer) (s.on_bs_added y m d);
      list_ad = λ y m d out. let s = l out t rows more a b in told_stays (λ (z : Answer (List Pair)). listed z out) (λ w. w.answer) (listed_refused out) (λ v h. (s.on_ad_law y m d v h).answer) (s.on_ad_added y m d);
      holiday = λ y m d. stays (holiday_longer t rows more rules a b y m d) (holiday_added t rows more rules a b y m d);
      bs_outside = λ y m d. record { before = c.from_before y m d; after = c.from_after y m d; reached = c.from_reached y m d };
      list_outside = λ y m d out.
          let s = l out t rows more a b in
          record {
            before = λ k h. ap (λ (z : Answer (List Pair)). (listed z out).answer) (s.on_ad_before y m d k (listed_outside _ out (Before k) refl h)) ∙ listed_refused out (Before k);
            after = λ k h r. ap (λ (z : Answer (List Pair)). (listed z out).answer) (s.on_ad_after y m d k (listed_outside _ out (After k) refl h) r) ∙ listed_refused out _;
            reached = λ k h r. (s.on_ad_reached y m d k (listed_outside _ out (After k) refl h) r).1.1;
          };
      month = λ y m cells festivals. told_stays (λ (z : Answer Grid). shown z cells festivals) (λ w. w.answer) (shown_refused cells festivals) (g.month y m _ _) (g.month_added y m _ _);
    }
