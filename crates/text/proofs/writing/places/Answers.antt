-- `text::writing::places` meets its contract: the places so far and those of what is left. Assumes nothing.
use native.Mathlib.Omega.{arith}
use Rattle.text.proofs.Decimals.{places_one, places_more}
use Rattle.text.proofs.writing.places.Goals as goal

pub loop-rest-preserved : goal.loop-rest-preserved
loop-rest-preserved c = (omega (arith, places_more c.loop-rest.rest c.loop-rest-test.true), omega arith)

pub returns : goal.returns
returns c = omega (arith, places_one c.loop-rest.rest c.loop-rest-test.false)
