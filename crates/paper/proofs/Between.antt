-- Floats above zero between two whole numbers: `Between L H x`. A sum with what is small stays between, and a difference is small. Assumes nothing.
use mathlib.Core.Path.{◌≡◌, sym, ap, ◌∙◌, subst}
use mathlib.Core.Bool.{Bool, true, false, cond, ◌&&◌}
use Prim.Native.Nat.{ℕ, zero, suc, ◌+◌, ◌-◌, ◌*◌, ◌^◌, ◌≤◌, ◌<◌, zero-le}
use native.Mathlib.Nat.{le_trans, le_of_eq, le_of_lt, lt_of_lt_of_le, lt_of_le_of_lt, mul_comm, mul_assoc, mul-one, mul_right_comm, mul-le-mul_right, mul-pos, mul-sub, add-mul, le_of_mul-le-mul_right}
use native.Mathlib.Omega.{arith}
use borrow.Author.Tests.{le-ltb, ltb-false, ltb-true}
use lib.Dec.{T, leb, ltb, leb→le, ltb→lt, lt→ltb, eqb-suc-zero, lit<}
use lib.Ieee.{Float, nan, inf, fin, binary64, up, down, round, neg, sum, add, sub, div, lt, le}
use lib.Ieee.Fits.{up_pos, down_pos, and_l, and_r}
use lib.Ieee.Exact.{HasValue}
use lib.Ieee.Order.{round_mono}
use lib.Ieee.Positive as Positive
use lib.Ieee.Positive.{num, den, den_pos, positive, positive_of_value, le→cross, value→cross}
use Rattle.paper.proofs.Within.{Within, Size, held_exactly, round_size, sub_is}

abbrev pub Span : ℕ → ℕ → Float → Type 0
Span L H nan = ⊥
Span L H (inf s) = ⊥
Span L H (fin true m e) = ⊥
Span L H (fin false m e) = (L * down e ≤ m * up e) × (m * up e ≤ H * down e)

pub record Between (L H : ℕ) (x : Float) : Type 0 where
  pub span : Span L H x

-- a / c ≤ b / d, and the same for p ≤ a / c
up_from : (L n d m c : ℕ) → 0 < d → L * d ≤ n → n * c ≤ m * d → L * c ≤ m
up_from L n d m c D h k = le_of_mul-le-mul_right (le_trans (le_of_eq (mul_right_comm L c d)) (le_trans (mul-le-mul_right c h) k)) D

down_from : (H n d m c : ℕ) → 0 < d → n ≤ H * d → m * d ≤ n * c → m ≤ H * c
down_from H n d m c D h k = le_of_mul-le-mul_right (le_trans k (le_trans (mul-le-mul_right c h) (le_of_eq (mul_right_comm H d c)))) D

span_of : (L H : ℕ) (x : Float) → T (positive x) → L * den x ≤ num x → num x ≤ H * den x → Span L H x
span_of L H nan p h k = p
span_of L H (inf s) p h k = p
span_of L H (fin true m e) p h k = p
span_of L H (fin false m e) p h k = (h, k)

from_ends : (L H : ℕ) (lo x hi : Float) → T (positive lo) → T (positive hi) → T (le lo x) → T (le x hi) → L * den lo ≤ num lo → num hi ≤ H * den hi → Span L H x
from_ends L H lo x hi p q h k l r =
    let z = Positive.between lo x hi p q h k in
    span_of L H x z (up_from L (num lo) (den lo) (num x) (den x) (den_pos lo) l (le→cross lo x p z h)) (down_from H (num hi) (den hi) (num x) (den x) (den_pos hi) r (le→cross x hi z q k))

-- from the comparisons with two constants
abbrev pub ends : ℕ → ℕ → Float → Float → Bool
ends L H lo hi = positive lo && (positive hi && (leb (L * den lo) (num lo) && leb (num hi) (H * den hi)))

pub between : (L H : ℕ) (lo hi : Float) {x : Float} → T (le lo x) → T (le x hi) → T (ends L H lo hi) → Between L H x
between L H lo hi {x} h k t =
    let a = leb (L * den lo) (num lo) in
    let b = leb (num hi) (H * den hi) in
    let u = and_r (positive lo) (positive hi && (a && b)) t in
    let v = and_r (positive hi) (a && b) u in
    record { span = from_ends L H lo x hi (and_l (positive lo) (positive hi && (a && b)) t) (and_l (positive hi) (a && b) u) h k (leb→le (L * den lo) (num lo) (and_l a b v)) (leb→le (num hi) (H * den hi) (and_r a b v)) }

-- a constant
pub exactly : (L H : ℕ) (k : Float) → T (positive k && (leb (L * den k) (num k) && leb (num k) (H * den k))) → Between L H k
exactly L H k t =
    let a = leb (L * den k) (num k) in
    let b = leb (num k) (H * den k) in
    let v = and_r (positive k) (a && b) t in
    record { span = span_of L H k (and_l (positive k) (a && b) t) (leb→le (L * den k) (num k) (and_l a b v)) (leb→le (num k) (H * den k) (and_r a b v)) }

pub sized : {L H : ℕ} {x : Float} → Between L H x → Within 0 H x
sized {L} {H} {x} p = record { size = go x p.span; unit = zero-le }
  where
    go : (x : Float) → Span L H x → Size 0 H x
    go nan h = h
    go (inf s) h = h
    go (fin true m e) h = absurd h
    go (fin false m e) h = le_trans (le_of_eq (mul-one (m * up e))) h.1

pub round_span : (a c L H : ℕ) → 0 < c → 0 < L → L ≤ H → H < 2 ^ 53 → L * c ≤ a → a ≤ H * c → Span L H (round binary64 false a c)
round_span a c L H C z o h l r =
    let vl : HasValue (round binary64 false L 1) false L 1 = held_exactly 0 L zero-le (lt_of_le_of_lt o h) in
    let vh : HasValue (round binary64 false H 1) false H 1 = held_exactly 0 H zero-le h in
    from_ends L H (round binary64 false L 1) (round binary64 false a c) (round binary64 false H 1)
    (positive_of_value (round binary64 false L 1) L 1 vl z) (positive_of_value (round binary64 false H 1) H 1 vh (lt_of_lt_of_le z o))
    (round_mono binary64 L 1 a c (lit< tt) C (le_trans l (le_of_eq (sym (mul-one a)))))
    (round_mono binary64 a c H 1 C (lit< tt) (le_trans (le_of_eq (mul-one a)) r))
    (le_of_eq (sym (value→cross (round binary64 false L 1) L 1 vl) ∙ mul-one (num (round binary64 false L 1))))
    (le_of_eq (sym (mul-one (num (round binary64 false H 1))) ∙ value→cross (round binary64 false H 1) H 1 vh))

coarser : (L x c d : ℕ) → L * c ≤ x → L * (c * d) ≤ x * d
coarser L x c d h = le_trans (le_of_eq (sym (mul_assoc L c d))) (mul-le-mul_right d h)

coarser' : (L x c d : ℕ) → L * d ≤ x → L * (c * d) ≤ x * c
coarser' L x c d h = le_trans (le_of_eq (ap (λ (k : ℕ). L * k) (mul_comm c d))) (coarser L x d c h)

finer : (x A c d : ℕ) → x ≤ A * c → x * d ≤ A * (c * d)
finer x A c d h = le_trans (mul-le-mul_right d h) (le_of_eq (mul_assoc A c d))

finer' : (x A c d : ℕ) → x ≤ A * d → x * c ≤ A * (c * d)
finer' x A c d h = le_trans (finer x A d c h) (le_of_eq (ap (λ (k : ℕ). A * k) (mul_comm d c)))

-- ---- a sum with what is small
more : (L D c a b : ℕ) → L * c ≤ a → b ≤ D * c → (L - D) * c ≤ a - b
more L D c a b h k =
    let e : (L - D) * c ≡ c * L - c * D = mul_comm (L - D) c ∙ mul-sub c L D in
    let f = mul_comm c L in
    let g = mul_comm c D in
    omega arith

sum_span : (a : ℕ) (t : Bool) (b c L H D : ℕ) → 0 < c → D < L → L ≤ H → H + D < 2 ^ 53 → L * c ≤ a → a ≤ H * c → b ≤ D * c → Span (L - D) (H + D) (sum binary64 false a t b c)
unfolding sum
sum_span a false b c L H D C z o h l r s =
    let e : (H + D) * c ≡ H * c + D * c = add-mul H D c in
    let m = more L D c a b l s in
    round_span (a + b) c (L - D) (H + D) C (omega arith) (omega arith) h (omega arith) (omega arith)
sum_span a true b c L H D C z o h l r s =
    let e : (H + D) * c ≡ H * c + D * c = add-mul H D c in
    let m = more L D c a b l s in
    let g : D * c ≤ L * c = mul-le-mul_right c (omega arith) in
    rw (le-ltb a b (omega arith)) (round_span (a - b) c (L - D) (H + D) C (omega arith) (omega arith) h (omega arith) (omega arith))

add_span : (L H D : ℕ) (x y : Float) → D < L → L ≤ H → H + D < 2 ^ 53 → Span L H x → Size 0 D y → Span (L - D) (H + D) (add binary64 x y)
unfolding add
add_span L H D nan y z o h p q = absurd p
add_span L H D (inf s) y z o h p q = absurd p
add_span L H D (fin true m e) y z o h p q = absurd p
add_span L H D (fin false m e) nan z o h p q = absurd q
add_span L H D (fin false m e) (inf t) z o h p q = absurd q
add_span L H D (fin false m e) (fin t n d) z o h p q =
    sum_span (m * up e * down d) t (n * up d * down e) (down e * down d) L H D (mul-pos (down_pos e) (down_pos d)) z o h
    (coarser L (m * up e) (down e) (down d) p.0) (finer (m * up e) H (down e) (down d) p.1) (finer' (n * up d) D (down e) (down d) (le_trans (le_of_eq (sym (mul-one (n * up d)))) q))

pub nearby : {L H D : ℕ} {x y : Float} → Between L H x → Within 0 D y → T (ltb D L && (leb L H && ltb (H + D) (2 ^ 53))) → Between (L - D) (H + D) (add binary64 x y)
nearby {L} {H} {D} {x} {y} p q t =
    let u = and_r (ltb D L) (leb L H && ltb (H + D) (2 ^ 53)) t in
    record { span = add_span L H D x y (ltb→lt D L (and_l (ltb D L) (leb L H && ltb (H + D) (2 ^ 53)) t)) (leb→le L H (and_l (leb L H) (ltb (H + D) (2 ^ 53)) u)) (ltb→lt (H + D) (2 ^ 53) (and_r (leb L H) (ltb (H + D) (2 ^ 53)) u)) p.span q.size }

-- ---- a difference
apart : (a b c L H L' H' D : ℕ) → 0 < c → H ≤ L' + D → H' ≤ L + D → D < 2 ^ 53 → L * c ≤ a → a ≤ H * c → L' * c ≤ b → b ≤ H' * c → Size 0 D (sum binary64 false a true b c)
unfolding sum
apart a b c L H L' H' D C f g h l r l' r' = go (ltb a b)
  where
    first : a - b ≤ D * c
    first =
        let e : (L' + D) * c ≡ L' * c + D * c = add-mul L' D c in
        let k = mul-le-mul_right c f in omega arith

    second : b - a ≤ D * c
    second =
        let e : (L + D) * c ≡ L * c + D * c = add-mul L D c in
        let k = mul-le-mul_right c g in omega arith

    go : (y : Bool) → Size 0 D (cond y (round binary64 true (b - a) c) (round binary64 false (a - b) c))
    go true = round_size 0 true (b - a) c D zero-le C h (le_trans (le_of_eq (mul-one (b - a))) second)
    go false = round_size 0 false (a - b) c D zero-le C h (le_trans (le_of_eq (mul-one (a - b))) first)

apart_size : (L H L' H' D : ℕ) (x y : Float) → H ≤ L' + D → H' ≤ L + D → D < 2 ^ 53 → Span L H x → Span L' H' y → Size 0 D (add binary64 x (neg y))
unfolding add neg
apart_size L H L' H' D nan y f g h p q = absurd p
apart_size L H L' H' D (inf s) y f g h p q = absurd p
apart_size L H L' H' D (fin true m e) y f g h p q = absurd p
apart_size L H L' H' D (fin false m e) nan f g h p q = absurd q
apart_size L H L' H' D (fin false m e) (inf t) f g h p q = absurd q
apart_size L H L' H' D (fin false m e) (fin true n d) f g h p q = absurd q
apart_size L H L' H' D (fin false m e) (fin false n d) f g h p q =
    apart (m * up e * down d) (n * up d * down e) (down e * down d) L H L' H' D (mul-pos (down_pos e) (down_pos d)) f g h
    (coarser L (m * up e) (down e) (down d) p.0) (finer (m * up e) H (down e) (down d) p.1) (coarser' L' (n * up d) (down e) (down d) q.0) (finer' (n * up d) H' (down e) (down d) q.1)

pub difference : (D : ℕ) {L H L' H' : ℕ} {x y : Float} → Between L H x → Between L' H' y → T (leb H (L' + D) && (leb H' (L + D) && ltb D (2 ^ 53))) → Within 0 D (sub binary64 x y)
difference D {L} {H} {L'} {H'} {x} {y} p q t =
    let a = leb H (L' + D) in
    let b = leb H' (L + D) in
    let c = ltb D (2 ^ 53) in
    let u = and_r a (b && c) t in
    subst (Within 0 D) (sub_is x y) (record { size = apart_size L H L' H' D x y (leb→le H (L' + D) (and_l a (b && c) t)) (leb→le H' (L + D) (and_l b c u)) (ltb→lt D (2 ^ 53) (and_r b c u)) p.span q.span; unit = zero-le })

-- ---- a sum of two, a quotient by a constant, and the comparisons that follow
both_span : (L H L' H' : ℕ) (x y : Float) → 0 < L → L ≤ H → L' ≤ H' → H + H' < 2 ^ 53 → Span L H x → Span L' H' y → Span (L + L') (H + H') (add binary64 x y)
unfolding add sum
both_span L H L' H' nan y z o o' h p q = absurd p
both_span L H L' H' (inf s) y z o o' h p q = absurd p
both_span L H L' H' (fin true m e) y z o o' h p q = absurd p
both_span L H L' H' (fin false m e) nan z o o' h p q = absurd q
both_span L H L' H' (fin false m e) (inf t) z o o' h p q = absurd q
both_span L H L' H' (fin false m e) (fin true n d) z o o' h p q = absurd q
both_span L H L' H' (fin false m e) (fin false n d) z o o' h p q =
    let c = down e * down d in
    let l = coarser L (m * up e) (down e) (down d) p.0 in
    let r = finer (m * up e) H (down e) (down d) p.1 in
    let l' = coarser' L' (n * up d) (down e) (down d) q.0 in
    let r' = finer' (n * up d) H' (down e) (down d) q.1 in
    let f : (L + L') * c ≡ L * c + L' * c = add-mul L L' c in
    let g : (H + H') * c ≡ H * c + H' * c = add-mul H H' c in
    round_span (m * up e * down d + n * up d * down e) c (L + L') (H + H') (mul-pos (down_pos e) (down_pos d)) (omega arith) (omega arith) h (omega arith) (omega arith)

pub total : {L H L' H' : ℕ} {x y : Float} → Between L H x → Between L' H' y → T (ltb 0 L && (leb L H && (leb L' H' && ltb (H + H') (2 ^ 53)))) → Between (L + L') (H + H') (add binary64 x y)
total {L} {H} {L'} {H'} {x} {y} p q t =
    let b = leb L H in
    let c = leb L' H' in
    let d = ltb (H + H') (2 ^ 53) in
    let u = and_r (ltb 0 L) (b && (c && d)) t in
    let v = and_r b (c && d) u in
    record { span = both_span L H L' H' x y (ltb→lt 0 L (and_l (ltb 0 L) (b && (c && d)) t)) (leb→le L H (and_l b (c && d) u)) (leb→le L' H' (and_l c d v)) (ltb→lt (H + H') (2 ^ 53) (and_r c d v)) p.span q.span }

part_low : (A L n d m e : ℕ) → A * n ≤ L * d → L * e ≤ m → A * (n * e) ≤ m * d
part_low A L n d m e h k = le_trans (le_of_eq (sym (mul_assoc A n e))) (le_trans (mul-le-mul_right e h) (le_trans (le_of_eq (mul_right_comm L d e)) (mul-le-mul_right d k)))

part_high : (B H n d m e : ℕ) → H * d ≤ B * n → m ≤ H * e → m * d ≤ B * (n * e)
part_high B H n d m e h k = le_trans (mul-le-mul_right d k) (le_trans (le_of_eq (mul_right_comm H e d)) (le_trans (mul-le-mul_right e h) (le_of_eq (mul_assoc B n e))))

part_span : (A B L H : ℕ) (x k : Float) → T (positive k) → 0 < A → A ≤ B → B < 2 ^ 53 → A * num k ≤ L * den k → H * den k ≤ B * num k → Span L H x → Span A B (div binary64 x k)
unfolding div
part_span A B L H x nan t z o h l r p = absurd t
part_span A B L H x (inf s) t z o h l r p = absurd t
part_span A B L H x (fin true n d) t z o h l r p = absurd t
part_span A B L H nan (fin false n d) t z o h l r p = absurd p
part_span A B L H (inf s) (fin false n d) t z o h l r p = absurd p
part_span A B L H (fin true m e) (fin false n d) t z o h l r p = absurd p
part_span A B L H (fin false m e) (fin false zero d) t z o h l r p = absurd t
part_span A B L H (fin false m e) (fin false (suc n) d) t z o h l r p =
    rw (eqb-suc-zero n)
    (round_span (m * up e * down d) (suc n * up d * down e) A B (mul-pos (mul-pos (ltb→lt 0 (suc n) t) (up_pos d)) (down_pos e)) z o h
    (part_low A L (suc n * up d) (down d) (m * up e) (down e) l p.0) (part_high B H (suc n * up d) (down d) (m * up e) (down e) r p.1))

abbrev pub shares : ℕ → ℕ → ℕ → ℕ → Float → Bool
shares A B L H k = positive k && (ltb 0 A && (leb A B && (ltb B (2 ^ 53) && (leb (A * num k) (L * den k) && leb (H * den k) (B * num k)))))

pub part : (A B : ℕ) (k : Float) {L H : ℕ} {x : Float} → Between L H x → T (shares A B L H k) → Between A B (div binary64 x k)
part A B k {L} {H} {x} p t =
    let f = leb (H * den k) (B * num k) in
    let e = leb (A * num k) (L * den k) in
    let d = ltb B (2 ^ 53) in
    let c = leb A B in
    let b = ltb 0 A in
    let t1 = and_r (positive k) (b && (c && (d && (e && f)))) t in
    let t2 = and_r b (c && (d && (e && f))) t1 in
    let t3 = and_r c (d && (e && f)) t2 in
    let t4 = and_r d (e && f) t3 in
    record { span = part_span A B L H x k (and_l (positive k) (b && (c && (d && (e && f)))) t) (ltb→lt 0 A (and_l b (c && (d && (e && f))) t1)) (leb→le A B (and_l c (d && (e && f)) t2)) (ltb→lt B (2 ^ 53) (and_l d (e && f) t3)) (leb→le (A * num k) (L * den k) (and_l e f t4)) (leb→le (H * den k) (B * num k) (and_r e f t4)) p.span }

span_positive : (L H : ℕ) (x : Float) → 0 < L → Span L H x → T (positive x)
span_positive L H nan z p = p
span_positive L H (inf s) z p = p
span_positive L H (fin true m e) z p = p
span_positive L H (fin false m e) z p = lt→ltb 0 m (Positive.first_pos m (up e) (lt_of_lt_of_le (mul-pos z (down_pos e)) p.0))

span_low : (L H : ℕ) (x : Float) → Span L H x → L * den x ≤ num x
span_low L H nan p = absurd p
span_low L H (inf s) p = absurd p
span_low L H (fin true m e) p = absurd p
span_low L H (fin false m e) p = p.0

span_high : (L H : ℕ) (x : Float) → Span L H x → num x ≤ H * den x
span_high L H nan p = absurd p
span_high L H (inf s) p = absurd p
span_high L H (fin true m e) p = absurd p
span_high L H (fin false m e) p = p.1

pub at_least : (lo : Float) {L H : ℕ} {x : Float} → Between L H x → T (ltb 0 L && (positive lo && leb (num lo) (L * den lo))) → T (le lo x)
at_least lo {L} {H} {x} p t =
    let c = leb (num lo) (L * den lo) in
    let u = and_r (ltb 0 L) (positive lo && c) t in
    Positive.cross→le lo x (and_l (positive lo) c u) (span_positive L H x (ltb→lt 0 L (and_l (ltb 0 L) (positive lo && c) t)) p.span)
    (le_trans (mul-le-mul_right (den x) (leb→le (num lo) (L * den lo) (and_r (positive lo) c u))) (le_trans (le_of_eq (mul_right_comm L (den lo) (den x))) (mul-le-mul_right (den lo) (span_low L H x p.span))))

pub at_most : (hi : Float) {L H : ℕ} {x : Float} → Between L H x → T (ltb 0 L && (positive hi && leb (H * den hi) (num hi))) → T (le x hi)
at_most hi {L} {H} {x} p t =
    let c = leb (H * den hi) (num hi) in
    let u = and_r (ltb 0 L) (positive hi && c) t in
    Positive.cross→le x hi (span_positive L H x (ltb→lt 0 L (and_l (ltb 0 L) (positive hi && c) t)) p.span) (and_l (positive hi) c u)
    (le_trans (mul-le-mul_right (den hi) (span_high L H x p.span)) (le_trans (le_of_eq (mul_right_comm H (den x) (den hi))) (mul-le-mul_right (den x) (leb→le (H * den hi) (num hi) (and_r (positive hi) c u)))))

-- what is not above another is not above its bound
beyond_span : (L H L' H' : ℕ) (x y : Float) → lt y x ≡ false → Span L H x → Span L' H' y → Span L H' x
unfolding lt
beyond_span L H L' H' nan y h p q = absurd p
beyond_span L H L' H' (inf s) y h p q = absurd p
beyond_span L H L' H' (fin true m e) y h p q = absurd p
beyond_span L H L' H' (fin false m e) nan h p q = absurd q
beyond_span L H L' H' (fin false m e) (inf t) h p q = absurd q
beyond_span L H L' H' (fin false m e) (fin true n d) h p q = absurd q
beyond_span L H L' H' (fin false m e) (fin false n d) h p q = (p.0, down_from H' (n * up d) (down d) (m * up e) (down e) (down_pos d) q.1 (ltb-false (n * up d * down e) (m * up e * down d) h))

pub not_beyond : {L H L' H' : ℕ} {x y : Float} → lt y x ≡ false → Between L H x → Between L' H' y → Between L H' x
not_beyond {L} {H} {L'} {H'} {x} {y} h p q = record { span = beyond_span L H L' H' x y h p.span q.span }

-- the same by either answer of a test x < y
above_span : (L H L' H' : ℕ) (x y : Float) → lt y x ≡ false → Span L H x → Span L' H' y → Span L H' y
unfolding lt
above_span L H L' H' nan y h p q = absurd p
above_span L H L' H' (inf s) y h p q = absurd p
above_span L H L' H' (fin true m e) y h p q = absurd p
above_span L H L' H' (fin false m e) nan h p q = absurd q
above_span L H L' H' (fin false m e) (inf t) h p q = absurd q
above_span L H L' H' (fin false m e) (fin true n d) h p q = absurd q
above_span L H L' H' (fin false m e) (fin false n d) h p q = (up_from L (m * up e) (down e) (n * up d) (down d) (down_pos e) p.0 (ltb-false (n * up d * down e) (m * up e * down d) h), q.1)

below_span : (L H L' H' : ℕ) (x y : Float) → lt x y ≡ true → Span L H x → Span L' H' y → Span L H' x
unfolding lt
below_span L H L' H' nan y h p q = absurd p
below_span L H L' H' (inf s) y h p q = absurd p
below_span L H L' H' (fin true m e) y h p q = absurd p
below_span L H L' H' (fin false m e) nan h p q = absurd q
below_span L H L' H' (fin false m e) (inf t) h p q = absurd q
below_span L H L' H' (fin false m e) (fin true n d) h p q = absurd q
below_span L H L' H' (fin false m e) (fin false n d) h p q = (p.0, down_from H' (n * up d) (down d) (m * up e) (down e) (down_pos d) q.1 (le_of_lt (ltb-true (m * up e * down d) (n * up d * down e) h)))

pub not_under : {L H L' H' : ℕ} {x y : Float} → lt y x ≡ false → Between L H x → Between L' H' y → Between L H' y
not_under {L} {H} {L'} {H'} {x} {y} h p q = record { span = above_span L H L' H' x y h p.span q.span }

pub below : {L H L' H' : ℕ} {x y : Float} → lt x y ≡ true → Between L H x → Between L' H' y → Between L H' x
below {L} {H} {L'} {H'} {x} {y} h p q = record { span = below_span L H L' H' x y h p.span q.span }
