-- Sine, cosine, the arcs and tangent (docs/RULES.md, Trigonometry), operation by operation, as docs/TRIG.md gives them. Assumes nothing.
use Rattle.std.specs.Prelude.{Bool, cond, ◌&&◌, Float}
use Rattle.std.specs.Float.Ieee.{neg, lt, le}
use Rattle.paper.specs.Floats.{◌⊕◌, ◌⊖◌, ◌⊗◌, ◌⊘◌, bits}

-- ---- constants

abbrev pub zero : Float
zero = bits 0x0000_0000_0000_0000

abbrev pub half : Float
half = bits 0x3fe0_0000_0000_0000

abbrev pub one : Float
one = bits 0x3ff0_0000_0000_0000

abbrev pub two : Float
two = bits 0x4000_0000_0000_0000

-- 100,000
abbrev pub limit : Float
limit = bits 0x40f8_6a00_0000_0000

-- 1.5 * 2 ^ 52 and 1.5 * 2 ^ 53: one of them added and taken away again leaves the nearest whole number, or the nearest even one
abbrev pub wholes : Float
wholes = bits 0x4338_0000_0000_0000

abbrev pub evens : Float
evens = bits 0x4348_0000_0000_0000

-- 1 / pi
abbrev pub per_half_turn : Float
per_half_turn = bits 0x3fd4_5f30_6dc9_c883

-- pi in two parts: of the first a product with up to 63,662 quarters is exact
abbrev pub pi_high : Float
pi_high = bits 0x4009_21fb_5444_0000

abbrev pub pi_low : Float
pi_low = bits 0x3d96_8c23_4c4c_6629

-- pi / 2 and pi, each nearest
abbrev pub quarter_turn : Float
quarter_turn = bits 0x3ff9_21fb_5444_2d18

abbrev pub half_turn : Float
half_turn = bits 0x4009_21fb_5444_2d18

-- ---- which numbers are served

abbrev pub in_range : Float → Bool
in_range x = le (neg limit) x && le x limit

abbrev pub within_one : Float → Bool
within_one x = le (neg one) x && le x one

-- ---- order and sign

-- the smaller and the larger of two numbers; b if one is no number
unfoldable pub least : Float → Float → Float
least a b = cond (lt a b) a b

unfoldable pub most : Float → Float → Float
most a b = cond (lt b a) a b

unfoldable pub clamp : Float → Float
clamp v = most (least v one) (neg one)

-- x without its sign
unfoldable pub magnitude : Float → Float
magnitude x = cond (lt zero x) x (cond (lt x zero) (neg x) zero)

-- v with the sign of x; a zero x stays
unfoldable pub turned : Float → Float → Float
turned x v = cond (lt x zero) (neg v) x

unfoldable pub signed : Float → Float → Float
signed x v = cond (lt zero x) v (turned x v)

-- ---- sine and cosine

abbrev pub nearest_whole : Float → Float
nearest_whole x = x ⊕ wholes ⊖ wholes

-- 1 at an even k, -1 at an odd one
unfoldable pub turn_sign : Float → Float
turn_sign k =
    let p = k ⊖ (k ⊕ evens ⊖ evens) in
    one ⊖ (p ⊕ p) ⊗ p

-- (sin y - y) / y ^ 3, for z = y ^ 2 and y within a quarter turn
unfoldable pub sine_series : Float → Float
sine_series z =
    let zz = z ⊗ z in
    let a = bits 0x3f81_1111_1111_1107 ⊖ z ⊗ bits 0x3f2a_01a0_1a01_8aad in
    let b = bits 0x3ec7_1de3_a545_6716 ⊖ z ⊗ bits 0x3e5a_e645_5a1d_7087 in
    let c = bits 0x3de6_1240_15b5_ee3a ⊖ z ⊗ bits 0x3d6a_e513_8c12_16b3 in
    let q = a ⊕ zz ⊗ b ⊕ zz ⊗ zz ⊗ (c ⊕ zz ⊗ bits 0x3ce8_9a48_66f5_27eb) in
    z ⊗ q ⊖ bits 0x3fc5_5555_5555_5555

-- the sine of a less h half turns, negated where k is odd, before it is cut
unfoldable pub wave : Float → Float → Float → Float
wave a k h =
    let y = a ⊖ h ⊗ pi_high ⊖ h ⊗ pi_low in
    let z = y ⊗ y in
    let w = turn_sign k ⊗ y in
    w ⊕ w ⊗ z ⊗ sine_series z

unfoldable pub swing : Float → Float → Float → Float
swing a k h = clamp (wave a k h)

unfoldable pub sine_above : Float → Float
sine_above a =
    let k = nearest_whole (a ⊗ per_half_turn) in
    swing a k k

-- the sine a quarter turn on
unfoldable pub cosine_above : Float → Float
cosine_above a =
    let k = nearest_whole (a ⊗ per_half_turn ⊕ half) in
    swing a k (k ⊖ half)

unfoldable pub sine : Float → Float
sine x = cond (in_range x) (signed x (sine_above (magnitude x))) zero

unfoldable pub cosine : Float → Float
cosine x = cond (in_range x) (cosine_above (magnitude x)) zero

unfoldable pub tangent : Float → Float
tangent x = sine x ⊘ cosine x

-- ---- the arcs

-- (arcsine y - y) / y ^ 3, for z = y ^ 2 and y from -0.5 to 0.5
unfoldable pub arc_series : Float → Float
arc_series z =
    let a = z ⊗ bits 0x3f9c_d864_394d_2ff2 ⊖ bits 0x3f86_0399_1d60_60e0 in
    let b = z ⊗ (z ⊗ a ⊕ bits 0x3f90_6b9d_26d1_0838) ⊕ bits 0x3f7f_f5fc_4d14_c735 in
    let c = z ⊗ (z ⊗ b ⊕ bits 0x3f88_522d_dffa_6208) ⊕ bits 0x3f8c_8726_5d47_ef49 in
    let d = z ⊗ (z ⊗ c ⊕ bits 0x3f91_c593_c7b1_d958) ⊕ bits 0x3f96_e8b2_b3b1_0be4 in
    let e = z ⊗ (z ⊗ d ⊕ bits 0x3f9f_1c71_f952_69af) ⊕ bits 0x3fa6_db6d_b684_b6a1 in
    z ⊗ (z ⊗ e ⊕ bits 0x3fb3_3333_3333_6da5) ⊕ bits 0x3fc5_5555_5555_554f

unfoldable pub arc_near : Float → Float
arc_near x =
    let z = x ⊗ x in
    x ⊕ x ⊗ z ⊗ arc_series z

-- the factor of a root whose square m is below an end
unfoldable pub lift : Float → Float → Float → Float
lift m end by = cond (lt m end) by one

-- one over the root of n, from r that is nearly that: Newton's step
abbrev pub nearer : Float → Float → Float
nearer n r = r ⊗ (bits 0x3ff8_0000_0000_0000 ⊖ half ⊗ n ⊗ r ⊗ r)

-- one over the root of an n from 0.25 to 1: four steps from the line 2.125 - 1.21875 n
unfoldable pub over_root : Float → Float
over_root n = nearer n (nearer n (nearer n (nearer n (bits 0x4001_0000_0000_0000 ⊖ n ⊗ bits 0x3ff3_8000_0000_0000))))

-- the root of m: powers of 4 bring m up to 0.25 to 1, and m times one over its root is made better once
unfoldable pub root : Float → Float
root m =
    let a = lift m (bits 0x3e30_0000_0000_0000) (bits 0x40d0_0000_0000_0000) in
    let ma = m ⊗ a ⊗ a in
    let b = lift ma (bits 0x3f10_0000_0000_0000) (bits 0x4060_0000_0000_0000) in
    let mb = ma ⊗ b ⊗ b in
    let c = lift mb (bits 0x3f70_0000_0000_0000) (bits 0x4030_0000_0000_0000) in
    let mc = mb ⊗ c ⊗ c in
    let d = lift mc (bits 0x3fb0_0000_0000_0000) (bits 0x4010_0000_0000_0000) in
    let md = mc ⊗ d ⊗ d in
    let e = lift md (bits 0x3fd0_0000_0000_0000) two in
    let r = over_root (md ⊗ e ⊗ e) ⊗ (a ⊗ b ⊗ c ⊗ d ⊗ e) in
    let s = m ⊗ r in
    s ⊕ half ⊗ r ⊗ (m ⊖ s ⊗ s)

-- the arccosine of an a from 0.5 to 1
unfoldable pub arc_far : Float → Float
arc_far a = two ⊗ arc_near (root ((one ⊖ a) ⊗ half))

unfoldable pub arcsine_within : Float → Float
arcsine_within x =
    let a = magnitude x in
    cond (le a half) (arc_near x) (signed x (quarter_turn ⊖ arc_far a))

unfoldable pub arccosine_within : Float → Float
arccosine_within x =
    let a = magnitude x in
    cond (le a half) (quarter_turn ⊖ arc_near x) (cond (lt x zero) (half_turn ⊖ arc_far a) (arc_far a))

unfoldable pub arcsine : Float → Float
arcsine x = cond (within_one x) (arcsine_within x) zero

unfoldable pub arccosine : Float → Float
arccosine x = cond (within_one x) (arccosine_within x) zero
