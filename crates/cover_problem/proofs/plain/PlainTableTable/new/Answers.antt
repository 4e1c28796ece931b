use Rattle.std.proofs.Common.{◌≡◌, ◌∙◌, map, sym, subst, true, vec_capacity}
use Rattle.std.specs.List.{list_all}
use Rattle.cover_problem.specs.Problem.{is_option}
use Rattle.cover_problem.specs.declared.plain.TheConstants.{NEVER}
use Rattle.cover_problem.proofs.TableLemmas.{plain_new}
use Rattle.cover_problem.proofs.plain.PlainTableTable.new.Goals as goal

pub holders_of-requires-clause-options : goal.holders_of-requires-clause-options
holders_of-requires-clause-options c =
    rw (c.in_ok-options.ensures ∙ c.option_lists.ensures) (subst (λ n. list_all (is_option n) c.args.problem.now.options ≡ true) (sym c.items-items.ensures.count) c.items-items.ensures.problem.options_are)

pub invariant_of-result : goal.invariant_of-result
invariant_of-result c =
    plain_new c.args.problem.now c.of.result.value c.primary.result c.items-items.result NEVER (vec_capacity c.in_ok-covered.covered)
    c.in_ok-options.options (map (λ o. o.items) c.in_ok-holders.holders.items) c.in_ok-covered.covered.items c.in_ok-times.times.items
    c.items-items.ensures.problem c.of.ensures c.primary.ensures c.items-items.ensures.count (c.in_ok-options.ensures ∙ c.option_lists.ensures) c.in_ok-holders.ensures
    c.in_ok-covered.ensures.items (c.in_ok-times.ensures.items_if_clones_equal (λ y h. h)) c.in_ok-covered.ensures.capacity
