-- How much of a file is left after some of its lines. Assumes nothing.
use Prim.Native.Nat.{ℕ, ◌+◌, ◌≤◌, ◌<◌}
use mathlib.Core.Path.{◌≡◌, ap, ◌∙◌}
use mathlib.Core.List.{List}
use lib.ListN.{length, get_or, drop, length-append}
use Rattle.text.proofs.Texts.{cut, over}
use Rattle.keyed.specs.Lines.{line_text}
use Rattle.keyed.specs.Forms.{text}
use Rattle.rulefile.specs.Files.{rule_form}

-- how long the text of the numbers from number i on is
abbrev pub rest : List ℕ → ℕ → ℕ
rest ns i = length (text rule_form i (drop i ns))

pub rest_turn : (ns : List ℕ) (i : ℕ) → i < length ns → rest ns i ≡ length (line_text (rule_form.key i) (get_or ns i 0)) + rest ns (i + 1)
rest_turn ns i h =
    ap (λ (x : List ℕ). length (text rule_form i x)) (cut ns i h)
    ∙ length-append (line_text (rule_form.key i) (get_or ns i 0)) (text rule_form (i + 1) (drop (i + 1) ns))

pub rest_none : (ns : List ℕ) (i : ℕ) → length ns ≤ i → rest ns i ≡ 0
rest_none ns i h = ap (λ (x : List ℕ). length (text rule_form i x)) (over ns i h)
