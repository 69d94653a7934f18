-- A line too long to be kept has another form: the reply to what is kept of a line, where 20 bytes or more are kept, is the reply to the line.
-- Assumes nothing.
use Rattle.std.specs.Prelude.{None, Option, Some}
use Prim.Native.Nat.{ℕ, ◌≤◌, ◌<◌}
use mathlib.Core.Path.{◌≡◌, refl, sym, ap, ◌∙◌}
use mathlib.Core.Bool.{Bool, true, false, cond}
use mathlib.Core.List.{List, []}
use native.Mathlib.Omega.{arith}
use borrow.Author.Tests.{leb-false}
use lib.Dec.{leb}
use lib.ListN.{length}
use Rattle.text.specs.Kept.{short, long}
use Rattle.text.proofs.Lines.{comes}
use Rattle.lines.specs.Lines.{handed}
use Rattle.convert.specs.Lines.{line_form, LineIs, IsBs, IsAd}
use Rattle.convert.specs.declared.line.Line.{Line}
use Rattle.convert.specs.declared.line.Line.TheVariants.{Bs, Ad}
use Rattle.convert.specs.Replies.{line_reply, reply_to}
use Rattle.convert.proofs.Forms.{line_is}
use Rattle.convert.proofs.Short.{numbers_short}

bs_short : (s : List ℕ) (y m d : ℕ) → IsBs s y m d → length s ≤ 20
bs_short s y m d h =
    let a = h.year in
    let b = h.month in
    let c = h.day in
    let l = numbers_short 0 0 y m d (omega arith) (omega arith) (omega arith) (omega arith) (omega arith) in
    rw h.same (omega arith)

ad_short : (s : List ℕ) (y m d : ℕ) → IsAd s y m d → length s ≤ 20
ad_short s y m d h =
    let a = h.year in
    let b = h.month in
    let c = h.day in
    let l = numbers_short 4 2 y m d (omega arith) (omega arith) (omega arith) (omega arith) (omega arith) in
    rw h.same (omega arith)

pub long_other : (s : List ℕ) → 20 < length s → line_form s ≡ None
long_other s h = go (line_form s) (line_is s)
  where
    go : (l : Option Line) → LineIs s l → l ≡ None
    go (Some (Bs y m d)) k = let x = bs_short s y m d k in absurd (let bad : ⊥ = omega arith in bad)
    go (Some (Ad y m d)) k = let x = ad_short s y m d k in absurd (let bad : ⊥ = omega arith in bad)
    go None k = refl

empty_other : line_form [] ≡ None
unfolding line_form
empty_other = refl

pub whole_reply : (room : ℕ) (s : List ℕ) → 20 ≤ room → reply_to (handed (comes room s)) ≡ reply_to s
whole_reply room s h = go (leb (length s) room) refl
  where
    go : (f : Bool) → leb (length s) room ≡ f → reply_to (handed (cond f (short s) long)) ≡ reply_to s
    go true e = refl
    go false e =
        let l = leb-false (length s) room e in
        let m : 20 < length s = omega arith in
        ap line_reply (empty_other ∙ sym (long_other s m))
