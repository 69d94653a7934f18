-- `asked::bytes::octets_in` meets its contract. Assumes nothing.
use mathlib.Core.Path.{sym, ap, ◌∙◌}
use lib.Seq.{length-take-le, take_all}
use native.Mathlib.Omega.{arith}
use Rattle.asked.specs.Octets.{octets_in, held}
use Rattle.asked.proofs.bytes.octets_in.Goals as goal

pub slice_bounds-octets_of-end : goal.slice_bounds-octets_of-end
slice_bounds-octets_of-end c = sym (length-take-le _ _ c.if-n-line.true)

pub returns : goal.returns
returns c = let a = c.args in
    c.octets_of-2.ensures ∙ ap (λ s. held (octets_in s)) (sym (take_all a.n a.line.now (omega arith)))
