-- What the questions about an angle or an arc are answered. Assumes nothing.
use Rattle.std.specs.Prelude.{ℕ, List, [], ◌∷◌, eqb, Float}
use Rattle.trig.specs.Trig.{sine, cosine, arcsine, arccosine, tangent}
use Rattle.asked.specs.Tags.{SIN, COS, ASIN, ACOS, TAN}
use Rattle.asked.specs.declared.words.Words.{Words}
use Rattle.replies.specs.declared.Reply.{Reply}
use Rattle.replies.specs.declared.Reply.TheVariants as R
use Rattle.asked.specs.Line.{float}
use Rattle.replies.specs.Replies.{formed, among}

-- by tag
abbrev pub angle_rows : Float → List (ℕ × Reply)
angle_rows x =
    (SIN, R.Float (sine x))
    ∷ (COS, R.Float (cosine x))
    ∷ (ASIN, R.Float (arcsine x))
    ∷ (ACOS, R.Float (arccosine x))
    ∷ (TAN, R.Float (tangent x))
    ∷ []

-- each asks with one float
unfoldable pub trigonometry_reply : Words → Reply
trigonometry_reply w = formed (eqb w.form 4) (among w.tag (angle_rows (float w 1)))
