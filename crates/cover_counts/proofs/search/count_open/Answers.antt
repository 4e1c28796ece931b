use Rattle.std.proofs.Common.{refl, sym, subst}
use Rattle.cover_counts.specs.Search.{IsTaken, LeadsDown}
use Rattle.cover_counts.proofs.LoopLemmas.{counted_last, last_counted, weight_gone, into_leads, into_less, out_less, whole_counted, whole_back}
use Rattle.cover_counts.proofs.search.count_open.Goals as goal

pub loop-top-init : goal.loop-top-init
loop-top-init g c = record { at = c.requires.at; kept = c.requires.kept; lead = rw c.new-parents.ensures.items refl; top = c.requires.first }

pub loop-top-smaller-in-Some-2 : goal.loop-top-smaller-in-Some-2
loop-top-smaller-in-Some-2 g c =
    into_less _ _ _ _ _ _ _ c.in-Some-2.open _ c.loop-top.invariant.lead c.loop-top.invariant.top c.in-Some.is (rw c.in-Some-2.is at c.in_ok-open-in-Some.ensures.same) c.in_ok-push-in-Some.ensures.items

pub loop-top-preserved-in-Some-2 : goal.loop-top-preserved-in-Some-2
loop-top-preserved-in-Some-2 g c = record {
  at = c.try_option.ensures.at;
  kept = c.loop-top.invariant.kept;
  lead = into_leads _ _ _ _ _ _ _ _ c.loop-top.invariant.lead (rw c.in-Some-2.is at c.in_ok-open-in-Some.ensures.same) (rw c.in-Some-2.is at c.in_ok-open-in-Some.ensures.into) c.in_ok-push-in-Some.ensures.items;
  top = rw c.in-Some-2.is at c.in_ok-open-in-Some.ensures.open;
}

pub loop-top-smaller-in_default : goal.loop-top-smaller-in_default
loop-top-smaller-in_default g c = weight_gone c.args.problem.now (g.T.Table.covered_list c.args.table.now) c.loop-top.parents.items c.loop-top.top c.try_option.new.top (rw c.in_default.is at c.in_ok-open-in-Some.ensures.fewer)

pub returns-in_default-pop : goal.returns-in_default-pop
returns-in_default-pop g c =
    let none = (rw c.in_default-pop.is at c.pop.ensures.cases).0 in
    record {
      at = c.loop-top.invariant.at;
      kept = c.loop-top.invariant.kept;
      back = whole_back _ _ _ _ _ c.loop-top.invariant.lead c.loop-top.parents.ok.0 none;
      below = whole_counted _ _ _ _ _ _ c.loop-top.invariant.lead c.loop-top.invariant.top c.in-None.is c.loop-top.parents.ok.0 none;
    }

pub close-requires-clause-counted : goal.close-requires-clause-counted
close-requires-clause-counted g c = counted_last _ _ _ _ _ _ (rw c.in-Some-pop.ensures.items at c.loop-top.invariant.lead) c.loop-top.invariant.top c.in-None.is

pub loop-top-smaller : goal.loop-top-smaller
loop-top-smaller g c = out_less _ _ _ _ _ _ c.loop-top.top c.close.new.parent c.loop-top.invariant.lead c.in-Some-pop.ensures.items c.in_ok-close-in-None.ensures.fewer

pub loop-top-preserved : goal.loop-top-preserved
loop-top-preserved g c =
    let l = (rw c.in-Some-pop.ensures.items at c.loop-top.invariant.lead) in
    let w = counted_last c.args.problem.now (g.T.Table.covered_list c.args.table.now) _ c.pop.new.self.items c.in-Some-pop.parent c.loop-top.top l c.loop-top.invariant.top c.in-None.is in
    let back = c.in_ok-close-in-None.ensures.back w.0 w.1 in
    record {
      at = c.close.ensures.at;
      kept = c.close.ensures.kept;
      lead = subst (λ x. LeadsDown c.args.problem.now (g.T.Table.covered_list c.args.table.now) c.pop.new.self.items x) (sym back) (last_counted _ _ _ _ _ _ l c.loop-top.invariant.top c.in-None.is);
      top = subst (λ x. IsTaken c.args.problem.now x c.close.new.parent) (sym back) (c.in_ok-close-in-None.ensures.gone w.0 w.1);
    }
