-- Texts of lines in the order that a form asks for: what is written reads back, what is read was written, and which line is told. Assumes nothing.
use Prim.Native.Nat.{ℕ, zero, suc, ◌+◌, ◌≤◌}
use mathlib.Core.Path.{◌≡◌, refl, sym, ap, ◌∙◌}
use mathlib.Core.Bool.{Bool, true, false, cond, true≢false}
use mathlib.Core.List.{List, [], ◌∷◌, ◌++◌, append_assoc, append-nil}
use native.Mathlib.Omega.{arith}
use lib.ListN.{length, length-append}
use Rattle.text.specs.Digits.{is_end, Got, got, no, found}
use Rattle.paper.proofs.Tests.{and_left, and_right}
use Rattle.text.proofs.Runs.{never}
use Rattle.keyed.specs.Lines.{line_text, line}
use Rattle.keyed.specs.Forms.{Form, Found, told_line, also, nothing, text, after, Keeps, due, over, lines_in, lines, Writing, OutAt}
use Rattle.keyed.proofs.Lines.{line_back, line_only, line_long}

module _ {S : Type 0} (f : Form S) where
  -- ---- the line due

  pub due_back : (st : S) (n : ℕ) (t : List ℕ) → n ≤ 65535 → f.more st ≡ true → due f st (line_text (f.key st) n ++ t) ≡ got n t
  due_back st n t h m = rw m (line_back (f.key st) n t h)

  pub record Was (st : S) (s : List ℕ) (n : ℕ) (t : List ℕ) : Type 0 where
    pub small : n ≤ 65535
    pub more : f.more st ≡ true
    pub same : s ≡ line_text (f.key st) n ++ t

  pub due_only : (st : S) (s : List ℕ) (n : ℕ) (t : List ℕ) → due f st s ≡ got n t → Was st s n t
  due_only st s n t e = go (f.more st) refl e
    where
      go : (b : Bool) → f.more st ≡ b → cond b (line (f.key st) s) no ≡ got n t → Was st s n t
      go true m q = let o = line_only (f.key st) s n t q in record { small = o.0; more = m; same = o.1 }
      go false m q = absurd (never q)

  pub due_shorter : (st : S) (s : List ℕ) (n : ℕ) (t : List ℕ) → due f st s ≡ got n t → length t + 2 ≤ length s
  due_shorter st s n t e =
      omega (arith, line_long (f.key st) n, ap length (due_only st s n t e).same, length-append (line_text (f.key st) n) t)

  due_empty : (st : S) → due f st [] ≡ no
  due_empty st = go (due f st []) refl
    where
      go : (g : Got ℕ) → due f st [] ≡ g → due f st [] ≡ no
      go (got n t) e = absurd (let bad : ⊥ = omega (arith, due_shorter st [] n t e) in bad)
      go no e = e

  -- ---- the turns of reading

  -- no line due stands there
  lines_none : (turns : ℕ) (st : S) (s : List ℕ) → due f st s ≡ no → lines_in f turns st s ≡ nothing (over f st s)
  unfolding lines_in
  lines_none zero st s e = refl
  lines_none (suc turns) st s e = rw e

  pub lines_over : (st : S) (s : List ℕ) → due f st s ≡ no → lines f st s ≡ nothing (over f st s)
  lines_over st s e = lines_none (length s) st s e

  -- with turns enough, their number makes no difference
  lines_enough : (turns more : ℕ) (st : S) (s : List ℕ) → length s ≤ turns → length s ≤ more → lines_in f turns st s ≡ lines_in f more st s
  unfolding lines_in
  lines_enough zero more st [] h l = sym (lines_none more st [] (due_empty st))
  lines_enough zero more st (b ∷ s) h l = absurd (let bad : ⊥ = omega arith in bad)
  lines_enough (suc turns) zero st [] h l = lines_none (suc turns) st [] (due_empty st)
  lines_enough (suc turns) zero st (b ∷ s) h l = absurd (let bad : ⊥ = omega arith in bad)
  lines_enough (suc turns) (suc more) st s h l =
      go (due f st s) refl (λ n t. lines_enough turns more (f.next st n) t)
    where
      go : (g : Got ℕ) → due f st s ≡ g
          → ((n : ℕ) (t : List ℕ) → length t ≤ turns → length t ≤ more → lines_in f turns (f.next st n) t ≡ lines_in f more (f.next st n) t)
          → found g (λ n t. also n (lines_in f turns (f.next st n) t)) (nothing (over f st s))
          ≡ found g (λ n t. also n (lines_in f more (f.next st n) t)) (nothing (over f st s))
      go (got n t) e ih = let k = due_shorter st s n t e in ap (also n) (ih n t (omega arith) (omega arith))
      go no e ih = refl

  lines_line : (turns : ℕ) (st : S) (s : List ℕ) (n : ℕ) (t : List ℕ) → due f st s ≡ got n t → length s ≤ turns
      → lines_in f turns st s ≡ also n (lines f (f.next st n) t)
  unfolding lines_in
  lines_line zero st s n t e h = absurd (let bad : ⊥ = omega (arith, due_shorter st s n t e) in bad)
  lines_line (suc turns) st s n t e h =
      let k = due_shorter st s n t e in
      rw e (ap (also n) (lines_enough turns (length t) (f.next st n) t (omega arith) (omega arith)))

  -- the line due is read, and then the lines after it
  pub lines_next : (st : S) (s : List ℕ) (n : ℕ) (t : List ℕ) → due f st s ≡ got n t → lines f st s ≡ also n (lines f (f.next st n) t)
  lines_next st s n t e = lines_line (length s) st s n t e (omega arith)

  -- ---- what was written reads back

  abbrev along : List ℕ → Found → Found
  along ns r = record { numbers = ns ++ r.numbers; whole = r.whole }

  -- the lines of some numbers are read, and then what follows them
  pub lines_text_law : (st : S) (ns t : List ℕ) → Keeps f st ns → lines f st (text f st ns ++ t) ≡ along ns (lines f (after f st ns) t)
  lines_text_law st [] t k = refl
  lines_text_law st (n ∷ ns) t k =
      let st' = f.next st n in
      let u = text f st' ns ++ t in
      let e = append_assoc (line_text (f.key st) n) (text f st' ns) t in
      rw (e, lines_next st (line_text (f.key st) n ++ u) n u (due_back st n u k.0 k.1)) (ap (also n) (lines_text_law st' ns t k.2))

  pub lines_after : (st : S) (ns t : List ℕ) → Keeps f st ns → due f (after f st ns) t ≡ no
      → lines f st (text f st ns ++ t) ≡ record { numbers = ns; whole = over f (after f st ns) t }
  lines_after st ns t k e =
      let q = append-nil ns in
      lines_text_law st ns t k ∙ rw (lines_over (after f st ns) t e, q)

  -- ---- what is read was written

  -- the text is the writing of the numbers, and then a rest that is not the line due: nothing more, where the text is in form
  pub record Parts (st : S) (s : List ℕ) (r : Found) : Type 0 where
    pub rest : List ℕ
    pub same : s ≡ text f st r.numbers ++ rest
    pub keeps : Keeps f st r.numbers
    pub other : due f (after f st r.numbers) rest ≡ no
    pub ended : r.whole ≡ over f (after f st r.numbers) rest

  nothing_due : (st : S) (s : List ℕ) → due f st s ≡ no → Parts st s (nothing (over f st s))
  nothing_due st s e = record { rest = s; same = refl; keeps = tt; other = e; ended = refl }

  parts_in : (turns : ℕ) (st : S) (s : List ℕ) → length s ≤ turns → Parts st s (lines_in f turns st s)
  unfolding lines_in
  parts_in zero st [] h = nothing_due st [] (due_empty st)
  parts_in zero st (b ∷ s) h = absurd (let bad : ⊥ = omega arith in bad)
  parts_in (suc turns) st s h = go (due f st s) refl (λ n t. parts_in turns (f.next st n) t)
    where
      go : (g : Got ℕ) → due f st s ≡ g
          → ((n : ℕ) (t : List ℕ) → length t ≤ turns → Parts (f.next st n) t (lines_in f turns (f.next st n) t))
          → Parts st s (found g (λ n t. also n (lines_in f turns (f.next st n) t)) (nothing (over f st s)))
      go (got n t) e ih =
          let w = due_only st s n t e in
          let k = due_shorter st s n t e in
          let p = ih n t (omega arith) in
          let first = line_text (f.key st) n in
          record {
            rest = p.rest;
            same = w.same ∙ ap (λ (x : List ℕ). first ++ x) p.same
                ∙ sym (append_assoc first (text f (f.next st n) (lines_in f turns (f.next st n) t).numbers) p.rest);
            keeps = (w.small, w.more, p.keeps);
            other = p.other;
            ended = p.ended;
          }
      go no e ih = nothing_due st s e

  pub parts : (st : S) (s : List ℕ) → Parts st s (lines f st s)
  parts st s = parts_in (length s) st s (omega arith)

  -- ---- in form

  -- a text is in form exactly if it is the writing of some numbers, and those are the ones read
  pub in_form_law : (st : S) (s : List ℕ) → (lines f st s).whole ≡ true → Writing f st s (lines f st s).numbers
  in_form_law st s e =
      let p = parts st s in
      let ns = (lines f st s).numbers in
      let q : over f (after f st ns) p.rest ≡ true = sym p.ended ∙ e in
      let r : p.rest ≡ [] = empty p.rest (and_left (is_end p.rest) (f.ends (after f st ns)) q) in
      record {
        keeps = p.keeps;
        ends = and_right (is_end p.rest) (f.ends (after f st ns)) q;
        same = p.same ∙ ap (λ (x : List ℕ). text f st ns ++ x) r ∙ append-nil (text f st ns);
      }
    where
      empty : (s : List ℕ) → is_end s ≡ true → s ≡ []
      empty [] e = refl
      empty (b ∷ s) e = absurd (true≢false (sym e))

  pub written : (st : S) (s ns : List ℕ) → Writing f st s ns → lines f st s ≡ record { numbers = ns; whole = true }
  written st s ns w =
      let p = append-nil (text f st ns) in
      let e = w.ends in
      ap (lines f st) (w.same ∙ sym p) ∙ lines_after st ns [] w.keeps (due_empty (after f st ns)) ∙ rw e

  -- ---- the line told

  -- what starts with no line due is not read, and what is not read starts with none
  none_due : (st : S) (s : List ℕ) → ((n : ℕ) (t : List ℕ) → Keeps f st (n ∷ []) → s ≡ line_text (f.key st) n ++ t → ⊥) → due f st s ≡ no
  none_due st s h = go (due f st s) refl
    where
      go : (g : Got ℕ) → due f st s ≡ g → g ≡ no
      go (got n t) e = let w = due_only st s n t e in absurd (h n t (w.small, w.more, tt) w.same)
      go no e = refl

  due_none : (st : S) (s : List ℕ) → due f st s ≡ no → (n : ℕ) (t : List ℕ) → Keeps f st (n ∷ []) → s ≡ line_text (f.key st) n ++ t → ⊥
  due_none st s e n t k q = never (sym e ∙ ap (due f st) q ∙ due_back st n t k.0 k.1)

  not_over : (st : S) (s : List ℕ) → (s ≡ [] → f.ends st ≡ false) → over f st s ≡ false
  not_over st [] h = h refl
  not_over st (b ∷ s) h = refl

  over_not : (st : S) (s : List ℕ) → over f st s ≡ false → s ≡ [] → f.ends st ≡ false
  over_not st s e q = rw q at e

  pub told : (st : S) (s : List ℕ) → (lines f st s).whole ≡ false → OutAt f st s (told_line (lines f st s))
  told st s e =
      let p = parts st s in
      let to = after f st (lines f st s).numbers in
      record {
        before = (lines f st s).numbers;
        rest = p.rest;
        same = p.same;
        keeps = p.keeps;
        number = refl;
        other = due_none to p.rest p.other;
        unfinished = over_not to p.rest (sym p.ended ∙ e);
      }

  -- no second line can be told, and none of a text in form
  pub told_only : (st : S) (s : List ℕ) (k : ℕ) → OutAt f st s k → ((lines f st s).whole ≡ false) × (k ≡ told_line (lines f st s))
  told_only st s k w =
      let to = after f st w.before in
      let e = ap (lines f st) w.same ∙ lines_after st w.before w.rest w.keeps (none_due to w.rest w.other) in
      (ap (λ (r : Found). r.whole) e ∙ not_over to w.rest w.unfinished, w.number ∙ ap told_line (sym e))
