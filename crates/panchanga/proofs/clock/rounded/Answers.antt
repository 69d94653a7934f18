use Rattle.std.proofs.Common.{◌≡◌, ℕ, ◌+◌, Bool, true, false, cond, T, pos, sym, ◌∙◌, subst, arith}
use lib.Ieee.{Float, le, lt, of_bits}
use Rattle.paper.specs.Floats.{◌⊖◌, near, dec, whole, floor_of}
use Rattle.panchanga.specs.Clock.{half_up, rounded}
use Rattle.panchanga.proofs.Whole.{Counted, counted}
use Rattle.panchanga.proofs.clock.rounded.Goals as goal
use Rattle.panchanga.proofs.clock.rounded.Goals.{After-truncating_f64_to_u64-n, Then-x-2}

-- the tests on the way
inside : (c : Then-x-2) → Counted c.args.x
unfolding near of_bits
inside c = counted c.args.x (subst T (sym c.if-x.true) tt) (subst T (sym c.if-x-2.true) tt)

cut : (c : After-truncating_f64_to_u64-n) → c.truncating_f64_to_u64-n.result ≡ floor_of c.args.x
cut c = c.truncating_f64_to_u64-n.ensures ∙ (inside c.before).cut

-- the whole part is known: what is left decides
half : (x : Float) (n : ℕ) → n ≡ floor_of x → le (dec 0 0) x ≡ true → lt x (dec 4294967295 0) ≡ true → (b : Bool) → le (dec 5 1) (x ⊖ whole (pos n)) ≡ b → cond b (n + 1) n ≡ rounded x
unfolding rounded half_up
half x n e l h b q = rw (l, h, ← e, q)

pub truncating_f64_to_u64-n-requires : goal.truncating_f64_to_u64-n-requires
truncating_f64_to_u64-n-requires c = record { lower_bound = (inside c).above; upper_bound = (inside c).below }

pub overflow_cast-n : goal.overflow_cast-n
overflow_cast-n c = let e = cut c in let s = (inside c.before).small in omega arith

pub overflow_add-result : goal.overflow_add-result
overflow_add-result c = let e = cut c.before.before in let s = (inside c.before.before.before).small in omega arith

pub returns-then-x-n : goal.returns-then-x-n
unfolding near of_bits
returns-then-x-n c =
    half c.args.x c.truncating_f64_to_u64-n.result (cut c.before.before) c.if-x.true c.if-x-2.true true c.if-x-n.true

pub returns-then-x-2 : goal.returns-then-x-2
unfolding near of_bits
returns-then-x-2 c =
    half c.args.x c.truncating_f64_to_u64-n.result (cut c.before.before) c.if-x.true c.if-x-2.true false c.if-x-n.false

pub returns-then-x : goal.returns-then-x
unfolding rounded near of_bits
returns-then-x c = rw (c.if-x.true, c.if-x-2.false)

pub returns : goal.returns
unfolding rounded near of_bits
returns c = rw c.if-x.false
