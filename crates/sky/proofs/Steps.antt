-- The walk of a search, over any offset f: a step, the way from one start to the next, and all of them. Assumes nothing.
use Rattle.std.specs.Prelude.{Option, None, Some}
use mathlib.Core.Path.{◌≡◌, refl, sym, ap, ◌∙◌}
use mathlib.Core.Bool.{true, false, not}
use mathlib.Core.List.{List, [], ◌∷◌, ◌++◌, append_assoc, append-nil}
use Prim.Native.Nat.{ℕ, zero, suc, ◌+◌, ◌-◌, ◌≤◌, ◌<◌}
use native.Mathlib.Nat.{not-suc-le-zero}
use native.Mathlib.Numerals.{add-one, sub-one}
use native.Mathlib.Omega.{arith}
use lib.ListN.{length, take, drop, set, length-set, take-append-drop}
use lib.Seq.{take-suc-set, drop-set-lt, drop-drop, length-take-le}
use lib.Ieee.{Float, lt}
use Rattle.sky.specs.Search.{halved, step_end, crosses, here, Walk, onward, walk, searched, first}
use Rattle.sky.specs.Inner.{stopped, listed, came, no_start, rest, Goes, Comes}
use Rattle.sky.specs.declared.search.Next.{Next}

came_none : (r : Next) → r.at ≡ None → came r ≡ []
came_none r h = ap listed h

pub came_one : (r : Next) {v : Float} → r.at ≡ Some v → came r ≡ v ∷ []
came_one r h = ap listed h

module _ (f : Float → Float) (to : Float) where
  walk_on : (n : ℕ) (lo : Float) → 0 < n → walk f n true to lo ≡ onward (here f lo (step_end to lo)) (rest f to (n - 1) (step_end to lo))
  unfolding walk
  walk_on zero lo h = absurd (not-suc-le-zero h)
  walk_on (suc n) lo h = rw sub-one refl

  walk_stop : (n : ℕ) (lo : Float) → walk f n false to lo ≡ stopped true
  unfolding walk
  walk_stop zero lo = refl
  walk_stop (suc n) lo = refl

  -- lo is not below to
  pub rest_stop : (n : ℕ) (lo : Float) → lt lo to ≡ false → rest f to n lo ≡ stopped true
  rest_stop n lo h = rw h (walk_stop n lo)

  -- no step is left
  pub rest_end : (n : ℕ) (lo : Float) → n ≡ 0 → rest f to n lo ≡ stopped (not (lt lo to))
  unfolding walk
  rest_end n lo e = rw e refl

  -- ---- a step from lo to hi, and the offsets at its ends
  pub record Turn (lo flo hi fhi : Float) (left : ℕ) : Type 0 where
    pub more : 0 < left
    pub go : lt lo to ≡ true
    pub from_is : flo ≡ f lo
    pub end_is : hi ≡ step_end to lo
    pub to_is : fhi ≡ f hi

  module _ {lo flo hi fhi : Float} {left : ℕ} (t : Turn lo flo hi fhi left) where
    step : (l : List Float) → here f lo hi ≡ l → Goes f to left lo l (left - 1) hi
    step l e =
        let q : rest f to left lo ≡ onward l (rest f to (left - 1) hi) = rw (t.go, ← e, t.end_is) (walk_on left lo t.more) in
        let s = ap (λ (w : Walk). w.steps) q in
        let m = t.more in
        record { starts = ap (λ (w : Walk). w.starts) q; steps = omega arith; ended = ap (λ (w : Walk). w.ended) q }

    step-none : crosses flo fhi ≡ false → Goes f to left lo [] (left - 1) hi
    unfolding here
    step-none h = step [] (simp (sym t.from_is, sym t.to_is, h))

    step-one : {v : Float} → crosses flo fhi ≡ true → v ≡ halved f 30 lo hi → Goes f to left lo (v ∷ []) (left - 1) hi
    unfolding here
    step-one {v} h e = step (v ∷ []) (simp (sym t.from_is, sym t.to_is, h, e))

  -- ---- one way after the other
  pub goes_begin : (left : ℕ) (lo : Float) → Goes f to left lo [] left lo
  goes_begin left lo = record { starts = refl; steps = omega arith; ended = refl }

  goes_then : {n m k : ℕ} {lo at end : Float} (l : List Float) {r : List Float} → Goes f to n lo l m at → Goes f to m at r k end → Goes f to n lo (l ++ r) k end
  goes_then {n} {m} {k} {lo} {at} {end} l {r} p q =
      let a = p.steps in
      let b = q.steps in
      record {
        starts = p.starts ∙ ap (λ (w : List Float). l ++ w) q.starts ∙ sym (append_assoc l r (rest f to k end).starts);
        steps = omega arith;
        ended = p.ended ∙ q.ended;
      }

  -- ---- from one start to the next: no start yet on the way to lo
  module _ (steps : ℕ) (a : Float) where
    pub record Sought (lo flo : Float) (left : ℕ) : Type 0 where
      pub goes : Goes f to steps a [] left lo
      pub fewer : left ≤ steps
      pub from_is : flo ≡ f lo

    pub sought-begin : {flo : Float} → flo ≡ f a → Sought a flo steps
    sought-begin e = record { goes = goes_begin steps a; fewer = omega arith; from_is = e }

    module _ {lo flo : Float} {left : ℕ} (i : Sought lo flo left) where
      module _ {hi fhi : Float} (t : Turn lo flo hi fhi left) where
        pub sought-none : crosses flo fhi ≡ false → Sought hi fhi (left - 1)
        sought-none h = let n = i.fewer in record { goes = goes_then [] i.goes (step-none t h); fewer = omega arith; from_is = t.to_is }

        pub sought-one : {v : Float} → crosses flo fhi ≡ true → v ≡ halved f 30 lo hi → Comes f to steps a (record { at = Some v; lo = hi; gap = fhi; left = left - 1 })
        sought-one h e =
            let n = i.fewer in
            let m = t.more in
            record { goes = goes_then [] i.goes (step-one t h e); fewer = omega arith; gap_is = t.to_is; over = λ q. absurd (cc) }

      pub sought-out : rest f to left lo ≡ stopped (not (lt lo to)) → Comes f to steps a (no_start lo flo left)
      sought-out e = let n = i.fewer in record { goes = i.goes; fewer = omega arith; gap_is = i.from_is; over = λ q. e }

  -- ---- the whole search
  module _ (a : Float) where
    abbrev whole : Walk
    whole = searched f a to

    module _ {r : Next} (i : Comes f to 1024 a r) where
      first_come : (o : Option Float) → r.at ≡ o → o ≡ first whole.starts
      unfolding first searched
      first_come (Some v) h = sym (ap first (i.goes.starts ∙ ap (λ (l : List Float). l ++ (rest f to r.left r.lo).starts) (came_one r h)))
      first_come None h =
          sym (ap first (i.goes.starts ∙ ap (λ (l : List Float). l ++ (rest f to r.left r.lo).starts) (came_none r h) ∙ ap (λ (w : Walk). w.starts) (i.over h)))

      pub first_is : r.at ≡ first whole.starts
      first_is = first_come r.at refl

    -- every start: those before the next are in b
    pub record All (b₀ b : List Float) (count : ℕ) (r : Next) : Type 0 where
      pub len : length b ≡ 1024
      pub room : count + (length (came r) + r.left) ≤ 1024
      pub goes : Goes f to 1024 a (take count b ++ came r) r.left r.lo
      pub behind : drop count b ≡ drop count b₀
      pub gap_is : r.gap ≡ f r.lo
      pub over : r.at ≡ None → rest f to r.left r.lo ≡ stopped (not (lt r.lo to))

    pub all-begin : (b : List Float) {r : Next} → length b ≡ 1024 → Comes f to 1024 a r → All b b 0 r
    all-begin b h i = let n = i.fewer in record { len = h; room = omega arith; goes = i.goes; behind = refl; gap_is = i.gap_is; over = i.over }

    module _ {b₀ b : List Float} {count : ℕ} {r : Next} (i : All b₀ b count r) where
      pub all_room : {v : Float} → r.at ≡ Some v → count + 1 + r.left ≤ 1024
      all_room {v} h = let n = i.room in let e = ap length (came_one r h) in omega arith

      pub all_more : {next : Next} {v : Float} → r.at ≡ Some v → Comes f to r.left r.lo next → All b₀ (set b count v) (count + 1) next
      all_more {next} {v} h j =
          let m = i.len in
          let n = all_room h in
          let k = j.fewer in
          let c : count < length b = omega arith in
          let t : take count b ++ came r ≡ take (count + 1) (set b count v) = rw (came_one r h, add-one count) (sym (take-suc-set b count v c)) in
          record {
            len = length-set b count v ∙ m;
            room = omega arith;
            goes = rw t at (goes_then (take count b ++ came r) i.goes j.goes);
            behind = drop-set-lt (count + 1) b count v (omega arith) ∙ sym (drop-drop 1 count b) ∙ ap (drop 1) i.behind ∙ drop-drop 1 count b₀;
            gap_is = j.gap_is;
            over = j.over;
          }

      -- what the contract says, where no start is left
      module _ (h : r.at ≡ None) where
        all_found : whole.starts ≡ take count b
        unfolding searched
        all_found =
            i.goes.starts ∙ ap (λ (l : List Float). (take count b ++ l) ++ (rest f to r.left r.lo).starts) (came_none r h)
            ∙ ap (λ (w : Walk). (take count b ++ []) ++ w.starts) (i.over h) ∙ append-nil (take count b ++ []) ∙ append-nil (take count b)

        pub all_end : (count ≡ length whole.starts) × ((1024 - r.left ≡ whole.steps) × ((not (lt r.lo to) ≡ whole.ended) × (b ≡ whole.starts ++ drop count b₀)))
        unfolding searched
        all_end =
            let n = i.len in
            let m = i.room in
            let o = i.over h in
            let p = ap (λ (w : Walk). w.steps) o in
            let q = i.goes.steps in (
              sym (ap length all_found ∙ length-take-le count b (omega arith)),
              (
                omega arith,
                (
                  sym (i.goes.ended ∙ ap (λ (w : Walk). w.ended) o),
                  rw all_found (sym (take-append-drop count b) ∙ ap (λ (l : List Float). take count b ++ l) i.behind),
                ),
              ),
            )
