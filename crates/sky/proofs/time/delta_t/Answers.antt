use lib.Ieee.{of_bits}
use Rattle.paper.specs.Floats.{near}
use Rattle.sky.specs.Time.{delta_t, before1920, before1941, before1961, before1986, before2005, before2050, after2050}
use Rattle.sky.proofs.time.delta_t.Goals as goal

pub returns-then-year : goal.returns-then-year
unfolding delta_t before1920 near of_bits
returns-then-year c = rw c.if-year.true

pub returns-then-year-2 : goal.returns-then-year-2
unfolding delta_t before1941 near of_bits
returns-then-year-2 c = rw (c.if-year.false, c.if-year-2.true)

pub returns-then-year-3 : goal.returns-then-year-3
unfolding delta_t before1961 near of_bits
returns-then-year-3 c = rw (c.if-year.false, c.if-year-2.false, c.if-year-3.true)

pub returns-then-year-4 : goal.returns-then-year-4
unfolding delta_t before1986 near of_bits
returns-then-year-4 c = rw (c.if-year.false, c.if-year-2.false, c.if-year-3.false, c.if-year-4.true)

pub returns-then-year-5 : goal.returns-then-year-5
unfolding delta_t before2005 near of_bits
returns-then-year-5 c = rw (c.if-year.false, c.if-year-2.false, c.if-year-3.false, c.if-year-4.false, c.if-year-5.true)

pub returns-then-year-6 : goal.returns-then-year-6
unfolding delta_t before2050 near of_bits
returns-then-year-6 c = rw (c.if-year.false, c.if-year-2.false, c.if-year-3.false, c.if-year-4.false, c.if-year-5.false, c.if-year-6.true)

pub returns : goal.returns
unfolding delta_t after2050 near of_bits
returns c = rw (c.if-year.false, c.if-year-2.false, c.if-year-3.false, c.if-year-4.false, c.if-year-5.false, c.if-year-6.false)
