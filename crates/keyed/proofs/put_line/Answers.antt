-- `keyed::put_line` meets its contract: the key, the sign, the digits and the line feed follow one another. Assumes nothing.
use Rattle.text.proofs.Writes.{then}
use Rattle.keyed.proofs.put_line.Goals as goal

pub returns : goal.returns
returns c =
    then (then c.put-sign.ensures (then c.put-digits.ensures c.put_decimal-end.ensures)) c.put.ensures
