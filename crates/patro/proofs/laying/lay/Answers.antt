-- `patro::laying::lay` meets its contract: the page is drawn in a buffer of its own and copied. Assumes nothing.
use Prim.Native.Nat.{ℕ}
use mathlib.Core.Path.{refl}
use Rattle.paper.proofs.Answers.{passed_on}
use lib.ListN.{replicate, length-replicate}
use Rattle.patro.specs.Years.{page_wanted}
use Rattle.patro.proofs.Drawing.{bytes_few, lays_drawn, lays_refused}
use borrow.Author.Rules.{rules}
use Rattle.patro.proofs.laying.lay.Goals as goal

pub copy-requires : goal.copy-requires
copy-requires c = let a = c.args in (search rules, bytes_few (page_wanted a.table a.rows.now a.rules.now a.names.now a.today a.wanted) (replicate 262144 0) (length-replicate {A = ℕ} 262144 0) c.draw_wanted.ensures c.in_ok-n.was)

pub returns : goal.returns
returns c = let a = c.args in rw (← lays_drawn (page_wanted a.table a.rows.now a.rules.now a.names.now a.today a.wanted) (replicate 262144 0) (length-replicate {A = ℕ} 262144 0) c.draw_wanted.ensures a.out.now c.in_ok-n.was) c.copy.ensures

pub returns-in_err-n : goal.returns-in_err-n
returns-in_err-n c = let a = c.args in
    rw (passed_on _ c.from_residual.ensures.1 refl) (lays_refused (page_wanted a.table a.rows.now a.rules.now a.names.now a.today a.wanted) (replicate 262144 0) a.out.now c.draw_wanted.ensures c.in_err-n.was)
