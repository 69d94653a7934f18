use Rattle.std.specs.Prelude.{Ok}
use mathlib.Core.Bool.{Bool, true, false, not}
use mathlib.Core.Path.{◌≡◌, refl, sym, ap, ◌∙◌}
use mathlib.Core.List.{List, ◌++◌}
use Prim.Native.Nat.{ℕ, ◌≤◌}
use native.Mathlib.Omega.{arith}
use lib.ListN.{length, drop, replicate}
use lib.Ieee.{Float, binary64, of_bits}
use Rattle.sky.specs.Tithi.{elongation_of}
use Rattle.sky.specs.Search.{offset, target_of, starts_of}
use Rattle.sky.proofs.Fronts.{over_front}
use Rattle.sky.proofs.Searches.{starts_bounded, refused_buffer, out_of_range, no_room, not-ended, gives_found, found-buffer}
use Rattle.sky.proofs.tithi_starts_between.Goals as goal

-- what a test with `!` shows
off : (b : Bool) → not b ≡ true → b ≡ false
off true h = sym h
off false h = refl

on : (b : Bool) → not b ≡ false → b ≡ true
on true h = refl
on false h = sym h

abbrev zeros : List Float
zeros = replicate 1024 (of_bits binary64 0)

-- as many as the walk found are at most 1,024
short : (n : ℕ) (a b : Float) (k : ℕ) → k ≡ length (starts_of n a b).starts → k ≤ 1024
short n a b k e = omega (arith, starts_bounded (offset elongation_of (target_of n)) a b)

pub returns-then-not-is_query : goal.returns-then-not-is_query
returns-then-not-is_query c =
    let a = c.args in
    let e = out_of_range a.tithi a.from.0 a.to.0 a.out.now (sym c.is_query.ensures ∙ c.if-not-is_query.true) in
    record { answer = sym e; buffer = sym (refused_buffer a.tithi a.from.0 a.to.0 a.out.now e) }

pub returns-then-not-walked : goal.returns-then-not-walked
returns-then-not-walked c =
    let a = c.args in
    let w = c.walk-walked in
    let e = not-ended a.tithi a.from.0 a.to.0 a.out.now (sym c.is_query.ensures ∙ c.if-not-is_query.false) (sym w.ensures.ended ∙ off w.result.ended c.if-not-walked.true) in
    record { answer = sym e; buffer = sym (refused_buffer a.tithi a.from.0 a.to.0 a.out.now e) }

pub returns-then-n-out : goal.returns-then-n-out
returns-then-n-out c =
    let a = c.args in
    let w = c.walk-walked in
    let e =
    no_room a.tithi a.from.0 a.to.0 a.out.now (sym c.is_query.ensures ∙ c.if-not-is_query.false) (sym w.ensures.ended ∙ on w.result.ended c.if-not-walked.false) (omega (arith, w.ensures.count)) in
    record { answer = sym e; buffer = sym (refused_buffer a.tithi a.from.0 a.to.0 a.out.now e) }

pub returns : goal.returns
returns c =
    let a = c.args in
    let w = c.walk-walked in
    let n = w.result.count in
    let l = (starts_of a.tithi a.from.0 a.to.0).starts in
    let k = w.ensures.count in
    let r : length l ≤ length a.out.now = omega arith in
    let good = sym c.is_query.ensures ∙ c.if-not-is_query.false in
    let done = sym w.ensures.ended ∙ on w.result.ended c.if-not-walked.false in
    let e = gives_found a.tithi a.from.0 a.to.0 a.out.now good done r in
    let h = c.copy_from_slice.ensures.after in
    record {
      answer = ap (λ (m : ℕ). Ok (m, w.result.steps)) k ∙ ap (λ (m : ℕ). Ok (length l, m)) w.ensures.steps ∙ sym e;
      buffer =
          ap (λ (x : List Float). x ++ drop n a.out.now) (h ∙ over_front l zeros w.ensures.written k)
          ∙ ap (λ (m : ℕ). l ++ drop m a.out.now) k ∙ sym (found-buffer a.tithi a.from.0 a.to.0 a.out.now good done r);
    }
