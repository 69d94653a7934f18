-- `rules::lists::put_day_list` meets its contract: five runs over the rules, one after the other. Assumes nothing.
use borrow.Author.Rules.{rules}
use native.Mathlib.Omega.{arith}
use Rattle.rules.specs.Rules.{rules_of}
use Rattle.rules.specs.Resolved.{pairs_by, list_by}
use Rattle.rules.proofs.Accepted.{good_rules}
use Rattle.rules.proofs.Most.{list_most}
use Rattle.rules.proofs.Stores.{five}
use Rattle.rules.proofs.lists.put_day_list.Goals as goal

pub put_before-prior-requires : goal.put_before-prior-requires
put_before-prior-requires c =
    record { rules_bound = (good_rules c.args.rules.now c.requires.rules_value).counts.computed_few; rules_bound_2 = search rules }

pub put_resolved-own-requires : goal.put_resolved-own-requires
put_resolved-own-requires c =
    record {
      rules_bound = (good_rules c.args.rules.now c.requires.rules_value).counts.computed_few;
      rules_bound_2 = omega (arith, c.put_before-prior.ensures.n_bound, c.put_dated-both.ensures.n_bound, c.put_dated-fixed.ensures.n_bound);
    }

pub put_dated-whole-requires : goal.put_dated-whole-requires
put_dated-whole-requires c =
    omega (arith, c.put_resolved-own.ensures.n_bound, c.put_before-prior.ensures.n_bound, c.put_dated-both.ensures.n_bound, c.put_dated-fixed.ensures.n_bound)

pub returns : goal.returns
unfolding list_by pairs_by
returns c =
    let a = c.args in
    let rs = rules_of a.rules.now in
    let w = five _ _ _ _ _ a.buf.now a.at _ _ _ _ _ c.put_dated-fixed.ensures.result_after c.put_dated-both.ensures.result_after c.put_before-prior.ensures.result_after c.put_resolved-own.ensures.result_after c.put_dated-whole.ensures.result_after in
    let most = list_most rs (good_rules a.rules.now c.requires.rules_value).counts a.day a.years in
    record { buf_after = w.0; value = w.1; upper_bound = omega (arith, w.1, most) }
