-- A search, over any offset: it has at most as many starts as steps, and at most 1,024 steps; from not below to it has none. And what
-- `tithi_starts_between` gives at each refusal. Assumes nothing.
use Rattle.std.specs.Prelude.{Err, Ok}
use mathlib.Core.Path.{◌≡◌}
use mathlib.Core.Bool.{Bool, true, false, cond}
use mathlib.Core.List.{List, [], ◌∷◌, ◌++◌}
use Prim.Native.Nat.{ℕ, zero, suc, ◌≤◌, ◌<◌}
use native.Mathlib.Omega.{arith}
use borrow.Author.Tests.{le-leb, lt-leb}
use lib.ListN.{length, drop, length-append}
use lib.Ieee.{Float, lt}
use Rattle.paper.specs.declared.Refusal.{Refusal}
use Rattle.paper.specs.declared.Refusal.TheVariants.{OutOfRange, NoRoom, NotEnded}
use Rattle.paper.specs.Answers.{Answer}
use Rattle.sky.specs.Search.{halved, step_end, crosses, here, walk, searched, starts_of}
use Rattle.sky.specs.Answers.{query, starts_answer, held, starts_buffer}
use Rattle.sky.proofs.Steps.{rest_stop}

few : (b : Bool) (x : Float) → length (cond b (x ∷ []) []) ≤ 1
few true x = omega arith
few false x = omega arith

module _ (f : Float → Float) where
  here_few : (lo hi : Float) → length (here f lo hi) ≤ 1
  unfolding here
  here_few lo hi = few (crosses (f lo) (f hi)) (halved f 30 lo hi)

  walk_starts : (n : ℕ) (go : Bool) (to lo : Float) → length (walk f n go to lo).starts ≤ (walk f n go to lo).steps
  unfolding walk
  walk_starts zero go to lo = omega arith
  walk_starts (suc n) false to lo = omega arith
  walk_starts (suc n) true to lo =
      let hi = step_end to lo in
      let h = walk_starts n (lt hi to) to hi in
      let k = here_few lo hi in
      let a = length-append (here f lo hi) (walk f n (lt hi to) to hi).starts in
      omega arith

  walk_steps : (n : ℕ) (go : Bool) (to lo : Float) → (walk f n go to lo).steps ≤ n
  unfolding walk
  walk_steps zero go to lo = omega arith
  walk_steps (suc n) false to lo = omega arith
  walk_steps (suc n) true to lo = let hi = step_end to lo in let h = walk_steps n (lt hi to) to hi in omega arith

  -- at most as many starts as steps
  pub starts_steps : (a to : Float) → length (searched f a to).starts ≤ (searched f a to).steps
  unfolding searched
  starts_steps a to = walk_starts 1024 (lt a to) to a

  -- at most 1,024 steps
  pub steps_bounded : (a to : Float) → (searched f a to).steps ≤ 1024
  unfolding searched
  steps_bounded a to = walk_steps 1024 (lt a to) to a

  pub starts_bounded : (a to : Float) → length (searched f a to).starts ≤ 1024
  starts_bounded a to = omega (arith, starts_steps a to, steps_bounded a to)

  -- from not below to: no start, no step, and an end
  pub none_from : (a to : Float) → lt a to ≡ false → searched f a to ≡ record { starts = []; steps = 0; ended = true }
  unfolding searched
  none_from a to h = rest_stop f to 1024 a h

-- ---- what a call gives: the answer, and what the buffer holds
-- a refusal leaves the buffer as it was
pub held_refused : {A B : Type 0} (r : Answer A) {k : Refusal} (w b : B) → r ≡ Err k → held r w b ≡ b
unfolding held
held_refused r w b e = rw e

pub held_answered : {A B : Type 0} (r : Answer A) {x : A} (w b : B) → r ≡ Ok x → held r w b ≡ w
unfolding held
held_answered r w b e = rw e

module _ (n : ℕ) (a b : Float) (out : List Float) where
  abbrev answer : Answer (ℕ × ℕ)
  answer = starts_answer n a b (length out)

  pub refused_buffer : {k : Refusal} → answer ≡ Err k → starts_buffer n a b out ≡ out
  unfolding starts_buffer
  refused_buffer e = held_refused answer _ out e

  pub out_of_range : query n a b ≡ false → answer ≡ Err OutOfRange
  unfolding starts_answer
  out_of_range h = rw h

  module _ (good : query n a b ≡ true) where
    pub not-ended : (starts_of n a b).ended ≡ false → answer ≡ Err NotEnded
    unfolding starts_answer
    not-ended h = rw (good, h)

    module _ (e : (starts_of n a b).ended ≡ true) where
      pub no_room : length out < length (starts_of n a b).starts → answer ≡ Err NoRoom
      unfolding starts_answer
      no_room h = rw (good, e, lt-leb (length (starts_of n a b).starts) (length out) h)

      module _ (room : length (starts_of n a b).starts ≤ length out) where
        pub gives_found : answer ≡ Ok (length (starts_of n a b).starts, (starts_of n a b).steps)
        unfolding starts_answer
        gives_found = rw (good, e, le-leb (length (starts_of n a b).starts) (length out) room)

        pub found-buffer : starts_buffer n a b out ≡ (starts_of n a b).starts ++ drop (length (starts_of n a b).starts) out
        unfolding starts_buffer
        found-buffer = held_answered answer _ out gives_found
