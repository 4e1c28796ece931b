use Rattle.std.proofs.Common.{◌≡◌, ℕ, List, [], sym, ◌∙◌, subst, arith, vec_capacity}
use Rattle.cover_problem.specs.Problem.{ProblemValue}
use Rattle.cover_links.specs.Table.{IsTable}
use Rattle.cover_problem.proofs.CoveredLemmas.{covered_none}
use Rattle.cover_links.proofs.BlockLemmas.{block_none}
use Rattle.cover_links.proofs.table.LinkTableTable.new.Goals as goal

pub invariant_of-result : goal.invariant_of-result
invariant_of-result c =
    let p = c.args.problem.now in let same : p ≡ c.of.result.value = sym c.of.ensures in
    let none : c.in_ok-covered.covered.items ≡ [] = c.in_ok-covered.ensures.items in
    let t : IsTable p [] c.items-items.result c.in_ok-block.block c.in_ok-starts.starts.items (vec_capacity c.in_ok-covered.covered) = record {
      problem = c.items-items.ensures.problem;
      covered = covered_none p;
      items_are = c.items-items.ensures.count;
      block_is = c.in_ok-block.ensures ∙ sym (block_none p);
      count = c.in_ok-starts.ensures.count;
      each = c.in_ok-starts.ensures.each;
      capacity = (let e = c.in_ok-covered.ensures.capacity in let n = c.items-items.ensures.count in omega arith);
    } in
    subst (λ (w : ProblemValue × List ℕ). IsTable w.0 w.1 c.items-items.result c.in_ok-block.block c.in_ok-starts.starts.items (vec_capacity c.in_ok-covered.covered)) (λ i. (same i, sym none i)) t
