-- What a line is: the definition that reads from the front finds exactly the lines that are the writing of three numbers. Assumes nothing.
use Rattle.std.specs.Prelude.{None, Option, Some}
use Prim.Native.Nat.{ℕ, ◌+◌}
use mathlib.Core.Path.{◌≡◌, refl, sym, ap, ◌∙◌, subst}
use mathlib.Core.Bool.{Bool, true, false, cond, true≢false}
use mathlib.Core.List.{List, [], ◌∷◌, ◌++◌, append-nil}
use native.Mathlib.Omega.{arith}
use Rattle.text.specs.Digits.{starts_digit, is_end, worth, Got, got, no, past}
use Rattle.text.specs.Dashed.{dash, numbers, ended}
use Rattle.text.proofs.Texts.{past_append, append_past}
use Rattle.text.proofs.Ways.{Way, decimals, wides, behinds, boths}
use Rattle.convert.specs.Lines.{numbers_text, bs_tag, ad_tag, as_bs, as_ad, line_form, IsBs, IsAd, LineIs}
use Rattle.convert.specs.declared.line.Line.{Line}
use Rattle.convert.specs.declared.line.Line.TheVariants.{Bs, Ad}

-- ---- the code's line

module _ (s : List ℕ) where
  pub form_bs : {t : List ℕ} → past bs_tag s ≡ got tt t → as_bs (ended (numbers 0 0 t)) ≡ line_form s
  unfolding line_form
  form_bs e = rw e

  module _ (e : past bs_tag s ≡ no) where
    pub form-ad : {t : List ℕ} → past ad_tag s ≡ got tt t → as_ad (ended (numbers 4 2 t)) ≡ line_form s
    unfolding line_form
    form-ad f = rw (e, f)

    pub form-other : past ad_tag s ≡ no → None ≡ line_form s
    unfolding line_form
    form-other f = rw (e, f)

-- ---- both ways

calm : (a : Way ℕ) (n : ℕ) (t : List ℕ) → starts_digit ((dash ++ a.write n) ++ t) ≡ false
unfolding worth
calm a n t = refl

calm_two : (a : Way ℕ) (x : ℕ × ℕ) (t : List ℕ) → starts_digit (((dash ++ a.write x.0) ++ (dash ++ a.write x.1)) ++ t) ≡ false
unfolding worth
calm_two a x t = refl

-- a number, and two with a dash before each
abbrev three : Way ℕ → Way ℕ → Way (ℕ × (ℕ × ℕ))
three a b = boths a (boths (behinds dash b) (behinds dash b) (calm b)) (calm_two b)

abbrev bs_way : Way (ℕ × (ℕ × ℕ))
bs_way = three (decimals 65535) (decimals 65535)

abbrev ad_way : Way (ℕ × (ℕ × ℕ))
ad_way = three (wides 4 (omega arith)) (wides 2 (omega arith))

end_nil : (s : List ℕ) → is_end s ≡ true → s ≡ []
end_nil [] e = refl
end_nil (x ∷ s) e = absurd (true≢false (sym e))

module _ (w : Way (ℕ × (ℕ × ℕ))) where
  ended_back : (x : ℕ × (ℕ × ℕ)) → w.ok x → ended (w.reads (w.write x)) ≡ Some (x.0, x.1.0, x.1.1)
  ended_back x h =
      let e : w.reads (w.write x) ≡ got x [] = ap w.reads (sym (append-nil (w.write x))) ∙ w.back x [] h refl in
      rw e

  record Written (s : List ℕ) (y m d : ℕ) : Type 0 where
    ok : w.ok (y, (m, d))
    text : s ≡ w.write (y, (m, d))

  abbrev or_these : Option (ℕ × ℕ × ℕ) → (ℕ × ℕ × ℕ) → ℕ × ℕ × ℕ
  or_these (Some n) other = n
  or_these None other = other

  ended_only : (s : List ℕ) (y m d : ℕ) → ended (w.reads s) ≡ Some (y, m, d) → Written s y m d
  ended_only s y m d e = go (w.reads s) refl e
    where
      last : (x : ℕ × (ℕ × ℕ)) (t : List ℕ) → w.reads s ≡ got x t → (f : Bool) → is_end t ≡ f → cond {A = Option (ℕ × ℕ × ℕ)} f (Some (x.0, x.1.0, x.1.1)) None ≡ Some (y, m, d) → Written s y m d
      last x t p true f q =
          let p3 : ◌≡◌ {A = ℕ × ℕ × ℕ} (x.0, x.1.0, x.1.1) (y, m, d) = ap (λ (o : Option (ℕ × ℕ × ℕ)). or_these o (y, m, d)) q in
          let a : x.0 ≡ y = ap (λ (n : ℕ × ℕ × ℕ). n.0) p3 in
          let b : x.1.0 ≡ m = ap (λ (n : ℕ × ℕ × ℕ). n.1) p3 in
          let c : x.1.1 ≡ d = ap (λ (n : ℕ × ℕ × ℕ). n.2) p3 in
          let o = w.only s x t p in
          rw (← a, ← b, ← c) (record { ok = o.0; text = o.1 ∙ rw (end_nil t f) (append-nil (w.write x)) })
      last x t p false f q = absurd (let z : ◌≡◌ {A = ℕ} 0 1 = cc in omega arith)

      go : (g : Got (ℕ × (ℕ × ℕ))) → w.reads s ≡ g → ended g ≡ Some (y, m, d) → Written s y m d
      go (got x t) p q = last x t p (is_end t) refl q
      go no p q = absurd (let z : ◌≡◌ {A = ℕ} 0 1 = cc in omega arith)

-- a line that is the writing of three numbers is read as these
pub line_bs : (s : List ℕ) (y m d : ℕ) → IsBs s y m d → line_form s ≡ Some (Bs y m d)
line_bs s y m d h =
    sym (form_bs s (ap (past bs_tag) h.same ∙ past_append bs_tag (numbers_text 0 0 y m d)))
    ∙ ap as_bs (ended_back bs_way (y, (m, d)) (h.year, (h.month, h.day)))

pub line_ad : (s : List ℕ) (y m d : ℕ) → IsAd s y m d → line_form s ≡ Some (Ad y m d)
line_ad s y m d h =
    sym (form-ad s (ap (past bs_tag) h.same) (ap (past ad_tag) h.same ∙ past_append ad_tag (numbers_text 4 2 y m d)))
    ∙ ap as_ad (ended_back ad_way (y, (m, d)) (h.year, (h.month, h.day)))

no_bs_law : {l : Option Line} {y m d : ℕ} → l ≡ Some (Bs y m d) → l ≡ None → ⊥
no_bs_law e f = let z : ◌≡◌ {A = ℕ} 0 1 = cc in omega arith

no_ad_law : {l : Option Line} {y m d : ℕ} → l ≡ Some (Ad y m d) → l ≡ None → ⊥
no_ad_law e f = let z : ◌≡◌ {A = ℕ} 0 1 = cc in omega arith

is_other : (s : List ℕ) → line_form s ≡ None → LineIs s (line_form s)
is_other s e = subst (LineIs s) (sym e) ((λ y m d h. no_bs_law (line_bs s y m d h) e), (λ y m d h. no_ad_law (line_ad s y m d h) e))

-- what the definition gives is what the line is
pub line_is : (s : List ℕ) → LineIs s (line_form s)
line_is s = first (past bs_tag s) refl
  where
    as-bs : (t : List ℕ) → past bs_tag s ≡ got tt t → (n : Option (ℕ × ℕ × ℕ)) → ended (numbers 0 0 t) ≡ n → LineIs s (line_form s)
    as-bs t e (Some (y, m, d)) q =
        let w = ended_only bs_way t y m d q in
        subst (LineIs s) (ap as_bs (sym q) ∙ form_bs s e)
        (record { year = w.ok.0; month = w.ok.1.0; day = w.ok.1.1; same = append_past bs_tag s t e ∙ ap (λ (x : List ℕ). bs_tag ++ x) w.text })
    as-bs t e None q = is_other s (sym (form_bs s e) ∙ ap as_bs q)

    as-ad : past bs_tag s ≡ no → (t : List ℕ) → past ad_tag s ≡ got tt t → (n : Option (ℕ × ℕ × ℕ)) → ended (numbers 4 2 t) ≡ n → LineIs s (line_form s)
    as-ad b t e (Some (y, m, d)) q =
        let w = ended_only ad_way t y m d q in
        subst (LineIs s) (ap as_ad (sym q) ∙ form-ad s b e)
        (record { year = w.ok.0; month = w.ok.1.0; day = w.ok.1.1; same = append_past ad_tag s t e ∙ ap (λ (x : List ℕ). ad_tag ++ x) w.text })
    as-ad b t e None q = is_other s (sym (form-ad s b e) ∙ ap as_ad q)

    second : past bs_tag s ≡ no → (g : Got (Unit {0})) → past ad_tag s ≡ g → LineIs s (line_form s)
    second b (got tt t) e = as-ad b t e (ended (numbers 4 2 t)) refl
    second b no e = is_other s (sym (form-other s b e))

    first : (g : Got (Unit {0})) → past bs_tag s ≡ g → LineIs s (line_form s)
    first (got tt t) e = as-bs t e (ended (numbers 0 0 t)) refl
    first no e = second e (past ad_tag s) refl

-- a line is nothing else: no second answer is right
pub line_only : (s : List ℕ) (l : Option Line) → LineIs s l → l ≡ line_form s
line_only s (Some (Bs y m d)) h = sym (line_bs s y m d h)
line_only s (Some (Ad y m d)) h = sym (line_ad s y m d h)
line_only s None h = go (line_form s) (line_is s)
  where
    go : (l : Option Line) → LineIs s l → None ≡ l
    go (Some (Bs y m d)) k = absurd (h.0 y m d k)
    go (Some (Ad y m d)) k = absurd (h.1 y m d k)
    go None k = refl
