-- A file in form is the file of its names, and the file of names that rise is in form. Assumes nothing.
use Rattle.std.specs.Prelude.{None, Some}
use Prim.Native.Nat.{ℕ, zero, suc, ◌+◌, ◌/◌, ◌%◌, ◌^◌, ◌<◌}
use mathlib.Core.Path.{◌≡◌, refl, sym, ap, ◌∙◌, subst}
use mathlib.Core.Bool.{Bool, true, false, cond, ◌&&◌, true≢false}
use mathlib.Core.List.{List, [], ◌∷◌, ◌++◌, append_assoc}
use native.Mathlib.Nat.{mod-lt}
use native.Mathlib.Omega.{arith}
use borrow.Author.Tests.{lt-ltb, ne_eqb, eqb-true}
use lib.Dec.{eqb}
use lib.ListN.{drop}
use Rattle.text.specs.Digits.{mark, run, worth, digits, starts, got, no, decimal}
use Rattle.text.specs.Quoted.{bytes}
use Rattle.text.proofs.Runs.{never}
use Rattle.text.proofs.Decimals.{decimal_other, decimal_digits}
use Rattle.utf8.specs.Controls.{control, first_control, missing, clear}
use Rattle.naming.specs.declared.lines.Fault.{Fault}
use Rattle.naming.specs.declared.lines.Fault.TheVariants.{Mark, NoFeed}
use Rattle.naming.specs.Names.{Name, Names, are, fails, ahead, Lines, ended, last, longer, lines_of, Judged, is, wrong, headed, judged, named, names_from, marked, names_of, text_of, text_in}
use Rattle.naming.specs.Claims.{written, Good, Rising, text_at}
use Rattle.naming.proofs.Heads.{equals_ends, headed_digits, headed_empty, text_none}
use Rattle.naming.proofs.Judges.{Accepted, accepted, name_judged}

no_names : {n : ℕ} {fault : Fault} {xs : List Name} → fails n fault ≡ are xs → ⊥
no_names e = let z : ◌≡◌ {A = ℕ} 0 1 = cc in omega arith

-- ---- lines put together again

joined : Lines → List ℕ
joined (ended s more) = s ++ (10 ∷ joined more)
joined (last s) = s

joined_of : (s : List ℕ) → joined (lines_of s) ≡ s
unfolding joined
joined_of [] = refl
joined_of (b ∷ s) = go (eqb b 10) refl (lines_of s) (joined_of s)
  where
    go : (f : Bool) → eqb b 10 ≡ f → (lines : Lines) → joined lines ≡ s → joined (cond f (ended [] lines) (longer b lines)) ≡ b ∷ s
    go true f lines e = let x = eqb-true b 10 f in rw (x, e)
    go false f (ended t more) e = ap (λ (x : List ℕ). b ∷ x) e
    go false f (last t) e = ap (λ (x : List ℕ). b ∷ x) e

-- ---- a file in form is the file of its names

-- a list of names begins with this one
record Begun (x : Name) (names : Names) (xs : List Name) : Type 0 where
  others : List Name
  rest : names ≡ are others
  same : x ∷ others ≡ xs

begun : (x : Name) (names : Names) (xs : List Name) → ahead x names ≡ are xs → Begun x names xs
begun x (are ys) xs e = record { others = ys; rest = refl; same = cc }
begun x (fails n fault) xs e = absurd (no_names e)

written_line : (x : Name) (xs : List Name) (s : List ℕ) → s ≡ digits x.number ++ (bytes "=" ++ x.text) → s ++ (bytes "\n" ++ written xs) ≡ written (x ∷ xs)
written_line x xs s e = rw (e, append_assoc (digits x.number) (bytes "=" ++ x.text) (bytes "\n" ++ written xs))

-- the names of lines rise, are written so, and each is found under its number
record Reads (least : ℕ) (lines : Lines) (xs : List Name) : Type 0 where
  rising : Rising least xs
  same : joined lines ≡ written xs
  text : (number : ℕ) → text_in number lines ≡ text_at number xs

none_read : (least : ℕ) → Reads least (last []) []
unfolding joined
none_read least = record { rising = tt; same = refl; text = λ number. text_none number [] None headed_empty }

name_read : (least : ℕ) (s : List ℕ) (more : Lines) (x : Name) (xs : List Name) → Accepted least s x → Reads (suc x.number) more xs → Reads least (ended s more) (x ∷ xs)
unfolding joined text_of
name_read least s more x xs a r =
    let h : headed s ≡ got x.number x.text = ap headed a.same ∙ headed_digits x.number x.text a.good.small in
    record {
      rising = (a.greater, a.good, r.rising);
      same = rw r.same (written_line x xs s a.same);
      text = λ number. rw (h, r.text number);
    }

reads_from : (lines : Lines) (n least : ℕ) (xs : List Name) → names_from n least lines ≡ are xs → Reads least lines xs
reads_from (last []) n least xs e = let f : [] ≡ xs = cc in rw (← f) (none_read least)
reads_from (last (b ∷ s)) n least xs e = go (judged least (b ∷ s)) e
  where
    go : (j : Judged) → named j n (λ x. fails n NoFeed) ≡ are xs → Reads least (last (b ∷ s)) xs
    go (is x) e = absurd (no_names e)
    go (wrong f) e = absurd (no_names e)
reads_from (ended s more) n least xs e = go (judged least s) refl e (λ k l ys. reads_from more k l ys)
  where
    go : (j : Judged) → judged least s ≡ j → named j n (λ x. ahead x (names_from (suc n) (suc x.number) more)) ≡ are xs
        → ((k l : ℕ) (ys : List Name) → names_from k l more ≡ are ys → Reads l more ys) → Reads least (ended s more) xs
    go (wrong f) j e ih = absurd (no_names e)
    go (is x) j e ih =
        let b = begun x (names_from (suc n) (suc x.number) more) xs e in
        subst (Reads least (ended s more)) b.same
        (name_read least s more x b.others (accepted least s x j) (ih (suc n) (suc x.number) b.others b.rest))

pub record InForm (s : List ℕ) (xs : List Name) : Type 0 where
  pub rising : Rising 0 xs
  pub same : s ≡ written xs
  pub text : (number : ℕ) → text_in number (lines_of s) ≡ text_at number xs

pub in_form_law : (s : List ℕ) (xs : List Name) → names_of s ≡ are xs → InForm s xs
unfolding names_of
in_form_law s xs e = go (marked s) e
  where
    go : (m : Bool) → cond m (fails 1 Mark) (names_from 1 0 (lines_of s)) ≡ are xs → InForm s xs
    go true e = absurd (no_names e)
    go false e = let r = reads_from (lines_of s) 1 0 xs e in record { rising = r.rising; same = sym (joined_of s) ∙ r.same; text = r.text }

-- ---- the file of names is in form

-- no byte is a line feed
Feedless : List ℕ → Type 0
Feedless [] = Unit {0}
Feedless (b ∷ s) = (eqb b 10 ≡ false) × Feedless s

feedless_append : (s t : List ℕ) → Feedless s → Feedless t → Feedless (s ++ t)
unfolding Feedless
feedless_append [] t p q = q
feedless_append (b ∷ s) t p q = (p.0, feedless_append s t p.1 q)

feedless_run : (k n : ℕ) → Feedless (run 10 k n)
unfolding Feedless run mark
feedless_run zero n = tt
feedless_run (suc k) n =
    let z : 0 < 10 = omega arith in
    let l : n / 10 ^ k % 10 < 10 = mod-lt (n / 10 ^ k) z in
    (rw (lt-ltb (n / 10 ^ k % 10) 10 l) (ne_eqb (48 + n / 10 ^ k % 10) 10 (λ e. omega arith)), feedless_run k n)

feed_control : control false 10 ≡ true
unfolding control
feed_control = refl

feedless_clear : (s : List ℕ) → clear false s ≡ true → Feedless s
unfolding Feedless
feedless_clear [] h = tt
feedless_clear (b ∷ s) h = go (control false b) refl (eqb b 10) refl h (feedless_clear s)
  where
    go : (c : Bool) → control false b ≡ c → (f : Bool) → eqb b 10 ≡ f → missing (cond c (Some b) (first_control false s)) ≡ true
        → (clear false s ≡ true → Feedless s) → (f ≡ false) × Feedless s
    go true c f e h ih = absurd (true≢false (sym h))
    go false c true e h ih = absurd (true≢false (sym feed_control ∙ ap (control false) (sym (eqb-true b 10 e)) ∙ c))
    go false c false e h ih = (refl, ih h)

-- a line is cut off at its line feed
line_cut : (s t : List ℕ) → Feedless s → lines_of (s ++ (10 ∷ t)) ≡ ended s (lines_of t)
unfolding Feedless
line_cut [] t p = refl
line_cut (b ∷ s) t p = rw (p.0, line_cut s t p.1)

name_feedless : (x : Name) → Good x → Feedless (digits x.number ++ (bytes "=" ++ x.text))
unfolding Feedless
name_feedless x g = feedless_append (digits x.number) (bytes "=" ++ x.text) (feedless_run _ x.number) (refl, feedless_clear x.text g.plain)

writes_from : (xs : List Name) (n least : ℕ) → Rising least xs → names_from n least (lines_of (written xs)) ≡ are xs
writes_from [] n least r = refl
writes_from (x ∷ xs) n least r =
    let s = digits x.number ++ (bytes "=" ++ x.text) in
    ap (λ (t : List ℕ). names_from n least (lines_of t)) (sym (written_line x xs s refl))
    ∙ ap (names_from n least) (line_cut s (written xs) (name_feedless x r.1))
    ∙ ap (λ (j : Judged). named j n (λ y. ahead y (names_from (suc n) (suc y.number) (lines_of (written xs))))) (name_judged least x r.0 r.1)
    ∙ ap (ahead x) (writes_from xs (suc n) (suc x.number) r.2)

-- what begins with a number begins with no mark
mark_unread : (t : List ℕ) → decimal 65535 (239 ∷ t) ≡ no
unfolding worth
mark_unread t = decimal_other 65535 (239 ∷ t) refl refl

unmarked : (s : List ℕ) (n : ℕ) (t : List ℕ) → decimal 65535 s ≡ got n t → marked s ≡ false
unfolding marked
unmarked [] n t e = refl
unmarked (b ∷ s) n t e = go (eqb b 239) refl
  where
    go : (f : Bool) → eqb b 239 ≡ f → (f && (starts 187 s && starts 191 (drop 1 s))) ≡ false
    go true f = absurd (never (sym (mark_unread s) ∙ ap (λ (x : ℕ). decimal 65535 (x ∷ s)) (sym (eqb-true b 239 f)) ∙ e))
    go false f = refl

written_unmarked : (xs : List Name) → Rising 0 xs → marked (written xs) ≡ false
unfolding marked
written_unmarked [] r = refl
written_unmarked (x ∷ xs) r =
    let t = bytes "=" ++ (x.text ++ (bytes "\n" ++ written xs)) in
    unmarked (written (x ∷ xs)) x.number t (decimal_digits 65535 x.number t r.1.small (equals_ends (x.text ++ (bytes "\n" ++ written xs))))

pub file_writes : (xs : List Name) → Rising 0 xs → names_of (written xs) ≡ are xs
unfolding names_of
file_writes xs r = rw (written_unmarked xs r) (writes_from xs 1 0 r)
