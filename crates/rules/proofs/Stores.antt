-- Laws of the loops that store pairs: what a turn does, and what the stores come to. Assumes nothing.
use Rattle.std.specs.Prelude.{Option, Some, None}
use Prim.Native.Nat.{ℕ, suc, ◌+◌, ◌-◌, ◌*◌, ◌<◌}
use mathlib.Core.Path.{◌≡◌, refl, sym, ap, subst, ◌∙◌}
use mathlib.Core.Bool.{Bool, true, false, cond, ◌||◌, or_assoc, or-false}
use mathlib.Core.List.{List, [], ◌∷◌, ◌++◌}
use native.Mathlib.Numerals.{add-one}
use native.Mathlib.Omega.{arith}
use borrow.Author.Tests.{eq-eqb, ne_eqb, eqb-true, eqb-false}
use lib.Dec.{eqb}
use lib.ListN.{length, get_or, set}
use lib.Seq.{sets}
use Rattle.rules.specs.declared.Rule.{Rule}
use Rattle.rules.specs.declared.lists.Kept.{Kept}
use Rattle.rules.specs.Rules.{rule_at, rules_from}
use Rattle.rules.specs.Festivals.{Pair, picked, any, overrides, silenced, kept_after, kept, numbers}
use Rattle.rules.specs.Resolved.{shows, used}
use Rattle.rules.specs.Inner.{State, is_name, repeats, store_if, store_pairs}
use Rattle.rules.proofs.Walk.{rest, left}

-- ---- one pair

pub store_off : (on : Bool) (σ : State) (name holiday : ℕ) → on ≡ false → σ ≡ store_if on σ name holiday
unfolding store_if
store_off on σ name holiday e = rw e

pub store_same : (on : Bool) (σ : State) (name holiday : ℕ) → on ≡ true → repeats σ.1 name ≡ true → σ ≡ store_if on σ name holiday
unfolding store_if
store_same on σ name holiday e q = rw (e, q)

pub store_new : (on : Bool) (l : List ℕ) (s : Kept) (name holiday : ℕ) → on ≡ true → repeats s name ≡ false
    → ◌≡◌ {A = State} (set (set l (s.n * 2) name) (s.n * 2 + 1) holiday, record { n = s.n + 1; last = Some name }) (store_if on (l, s) name holiday)
unfolding store_if
store_new on l s name holiday e q = rw (e, q, add-one)

-- a pair that is stored or passed over
store_cond : (b : Bool) (σ : State) (name holiday : ℕ) (es : List Pair) → store_pairs (store_if b σ name holiday) es ≡ store_pairs σ (cond b ((name, holiday) ∷ es) es)
unfolding store_pairs store_if
store_cond true σ name holiday es = refl
store_cond false σ name holiday es = refl

pairs_append : (xs ys : List Pair) (σ : State) → store_pairs σ (xs ++ ys) ≡ store_pairs (store_pairs σ xs) ys
unfolding store_pairs
pairs_append [] ys σ = refl
pairs_append (e ∷ xs) ys σ = pairs_append xs ys (store_if true σ e.0 e.1)

-- ---- the next rule

pub picked_cons : (f : Rule → Bool) (r : Rule) (rs : List Rule) → picked f (r ∷ rs) ≡ cond (f r) ((r.name, r.holiday) ∷ picked f rs) (picked f rs)
unfolding picked
picked_cons f r rs = refl

silenced_cons : (y name : ℕ) (r : Rule) (rs : List Rule) → silenced (r ∷ rs) y name ≡ (overrides y name r || silenced rs y name)
unfolding silenced any
silenced_cons y name r rs = refl

module _ (rules : List Rule) (y : ℕ) (d : List ℕ) (n j : ℕ) (r : Rule) (rs : List Rule) where
  pub used_not : (r.kind ≡ 3 → ⊥) → used rules y d n j (r ∷ rs) ≡ used rules y d n j rs
  unfolding used
  used_not e = rw (ne_eqb r.kind 3 e)

  pub used_is : r.kind ≡ 3
      → used rules y d n j (r ∷ rs) ≡ cond (shows rules y r.name (get_or d j 0) n) ((r.name, r.holiday) ∷ used rules y d n (j + 1) rs) (used rules y d n (j + 1) rs)
  unfolding used
  used_is e = rw (eq-eqb r.kind 3 e)

pub none_silenced : (a : Bool) (y name : ℕ) → a ≡ (a || silenced [] y name)
unfolding silenced any
none_silenced a y name = sym (or-false a)

pub none_picked : (σ : State) (f : Rule → Bool) → σ ≡ store_pairs σ (picked f [])
unfolding picked store_pairs
none_picked σ f = refl

pub none_used : (σ : State) (rules : List Rule) (y : ℕ) (d : List ℕ) (n j : ℕ) → σ ≡ store_pairs σ (used rules y d n j [])
unfolding used store_pairs
none_used σ rules y d n j = refl

-- ---- a turn of a loop over the rules

module _ (xs : List ℕ) (i n : ℕ) (h : i < n) (r : Rule) (er : r ≡ rule_at xs i) where
  abbrev now : List Rule
  now = rules_from xs i (n - i)

  abbrev later : List Rule
  later = rest xs i n h r er

  pub turn_picked : (f : Rule → Bool) (σ τ t : State) (b : Bool) → b ≡ f r → τ ≡ store_if b σ r.name r.holiday → store_pairs σ (picked f now) ≡ t → store_pairs τ (picked f later) ≡ t
  turn_picked f σ τ t b eb et q =
      ap (λ (z : State). store_pairs z (picked f later)) et
      ∙ store_cond b σ r.name r.holiday (picked f later)
      ∙ ap (λ (z : Bool). store_pairs σ (cond z ((r.name, r.holiday) ∷ picked f later) (picked f later))) eb
      ∙ ap (store_pairs σ) (sym (ap (picked f) (left xs i n h r er) ∙ picked_cons f r later))
      ∙ q

  pub turn_silenced : (y name : ℕ) (a b t : Bool) → (a || silenced now y name) ≡ t → b ≡ overrides y name r → (a || b || silenced later y name) ≡ t
  turn_silenced y name a b t q e =
      or_assoc a b (silenced later y name)
      ∙ ap (λ (z : Bool). a || (z || silenced later y name)) e
      ∙ ap (λ (z : Bool). a || z) (sym (ap (λ (l : List Rule). silenced l y name) (left xs i n h r er) ∙ silenced_cons y name r later))
      ∙ q

  module _ (rules : List Rule) (y : ℕ) (d : List ℕ) (v j : ℕ) (σ t : State) where
    pub skip-used : (r.kind ≡ 3 → ⊥) → store_pairs σ (used rules y d v j now) ≡ t → store_pairs σ (used rules y d v j later) ≡ t
    skip-used e q = ap (store_pairs σ) (sym (ap (used rules y d v j) (left xs i n h r er) ∙ used_not rules y d v j r later e)) ∙ q

    pub turn-used : r.kind ≡ 3 → (τ : State) (b : Bool) → b ≡ shows rules y r.name (get_or d j 0) v → τ ≡ store_if b σ r.name r.holiday → store_pairs σ (used rules y d v j now) ≡ t → store_pairs τ (used rules y d v (j + 1) later) ≡ t
    turn-used e τ b eb et q =
        ap (λ (z : State). store_pairs z (used rules y d v (j + 1) later)) et
        ∙ store_cond b σ r.name r.holiday (used rules y d v (j + 1) later)
        ∙ ap (λ (z : Bool). store_pairs σ (cond z ((r.name, r.holiday) ∷ used rules y d v (j + 1) later) (used rules y d v (j + 1) later))) eb
        ∙ ap (store_pairs σ) (sym (ap (used rules y d v j) (left xs i n h r er) ∙ used_is rules y d v j r later e))
        ∙ q

-- ---- what the stores come to

-- what is kept of a list, after what is kept already
abbrev kept_from : Option ℕ → List Pair → List Pair
kept_from (Some last) es = kept_after last es
kept_from None es = kept es

abbrev fresh : State → Pair → State
fresh σ e = (sets σ.0 (σ.1.n * 2) (e.0 ∷ e.1 ∷ []), record { n = σ.1.n + 1; last = Some e.0 })

pub record Came (σ τ : State) (l : List Pair) : Type 0 where
  pub buffer : τ.0 ≡ sets σ.0 (σ.1.n * 2) (numbers l)
  pub count : τ.1.n ≡ σ.1.n + length l

came_fresh : (σ τ : State) (e : Pair) (l : List Pair) → Came (fresh σ e) τ l → Came σ τ (e ∷ l)
came_fresh σ τ e l c =
    let h : (σ.1.n + 1) * 2 ≡ suc (suc (σ.1.n * 2)) = omega arith in
    record { buffer = c.buffer ∙ rw h; count = omega (arith, c.count) }

came_none : (σ : State) → Came σ σ (kept_from σ.1.last [])
unfolding kept kept_after
came_none σ = go σ.1.last
  where
    go : (o : Option ℕ) → Came σ σ (kept_from o [])
    go (Some last) = record { buffer = refl; count = omega arith }
    go None = record { buffer = refl; count = omega arith }

eqb_sym : (a b : ℕ) → eqb a b ≡ eqb b a
eqb_sym a b = go (eqb b a) refl
  where
    go : (t : Bool) → eqb b a ≡ t → eqb a b ≡ t
    go true e = eq-eqb a b (sym (eqb-true b a e))
    go false e = ne_eqb a b (λ q. eqb-false b a e (sym q))

came_some : (σ : State) (e : Pair) (es : List Pair) (last : ℕ) → ((τ : State) → Came τ (store_pairs τ es) (kept_from τ.1.last es)) → σ.1.last ≡ Some last → (b : Bool)
    → Came σ (store_pairs (cond b σ (fresh σ e)) es) (cond b (kept_after last es) (e ∷ kept_after e.0 es))
came_some σ e es last ih q true = subst (λ (o : Option ℕ). Came σ (store_pairs σ es) (kept_from o es)) q (ih σ)
came_some σ e es last ih q false = came_fresh σ _ e (kept_after e.0 es) (ih (fresh σ e))

came_by : (σ : State) (e : Pair) (es : List Pair) → ((τ : State) → Came τ (store_pairs τ es) (kept_from τ.1.last es)) → (o : Option ℕ) → σ.1.last ≡ o
    → Came σ (store_pairs (cond (is_name o e.0) σ (fresh σ e)) es) (kept_from o (e ∷ es))
unfolding kept kept_after
came_by σ e es ih (Some last) q = rw (eqb_sym last e.0) (came_some σ e es last ih q (eqb e.0 last))
came_by σ e es ih None q = came_fresh σ _ e (kept_after e.0 es) (ih (fresh σ e))

came : (es : List Pair) (σ : State) → Came σ (store_pairs σ es) (kept_from σ.1.last es)
unfolding store_pairs store_if
came [] σ = came_none σ
came (e ∷ es) σ = came_by σ e es (came es) σ.1.last refl

-- five runs, one after the other, where nothing of the day is kept yet
pub five : (a b c d e : List Pair) (buf : List ℕ) (at : ℕ) (σ₁ σ₂ σ₃ σ₄ σ₅ : State) → σ₁ ≡ store_pairs (buf, record { n = at; last = None }) a → σ₂ ≡ store_pairs σ₁ b → σ₃ ≡ store_pairs σ₂ c → σ₄ ≡ store_pairs σ₃ d → σ₅ ≡ store_pairs σ₄ e
    → (σ₅.0 ≡ sets buf (at * 2) (numbers (kept (a ++ b ++ c ++ d ++ e)))) × (σ₅.1.n ≡ at + length (kept (a ++ b ++ c ++ d ++ e)))
five a b c d e buf at σ₁ σ₂ σ₃ σ₄ σ₅ p₁ p₂ p₃ p₄ p₅ =
    let σ₀ : State = (buf, record { n = at; last = None }) in
    let p : σ₅ ≡ store_pairs σ₀ (a ++ b ++ c ++ d ++ e) = simp pairs_append (rw (p₅, p₄, p₃, p₂, p₁)) in
    let w = came (a ++ b ++ c ++ d ++ e) σ₀ in
    (ap (λ (σ : State). σ.0) p ∙ w.buffer, ap (λ (σ : State). σ.1.n) p ∙ w.count)
