use lib.Ieee.{of_bits, div}
use Rattle.paper.specs.Floats.{near}
use Rattle.panchanga.specs.Kalas.{kala_at}
use Rattle.panchanga.proofs.kalas.kala_at.Goals as goal

pub returns-in-Udaya : goal.returns-in-Udaya
unfolding kala_at
returns-in-Udaya c = rw c.in-Udaya.is

pub returns-in-Madhyanna : goal.returns-in-Madhyanna
unfolding kala_at near of_bits
returns-in-Madhyanna c = rw c.in-Madhyanna.is

pub returns-in-Aparahna : goal.returns-in-Aparahna
unfolding kala_at near of_bits
returns-in-Aparahna c = rw c.in-Aparahna.is

pub returns-in-Pradosh : goal.returns-in-Pradosh
unfolding kala_at near of_bits div
returns-in-Pradosh c = rw c.in-Pradosh.is

pub returns-in-Nishita : goal.returns-in-Nishita
unfolding kala_at
returns-in-Nishita c = rw c.in-Nishita.is

pub returns-in-Begins : goal.returns-in-Begins
unfolding kala_at
returns-in-Begins c = rw c.in-Begins.is
